use Rattle.std.proofs.Common.{subst, sym}
use Rattle.call_rules.proofs.GlLaws.{copy_allowed}
use Rattle.driver_objects.specs.Storages.{IsCopiedSide}
use Rattle.pixel_rows.specs.declared.rects.Rect.{Rect}
use Rattle.thread_part.specs.Uploads.{early_facts}
use Rattle.thread_part.proofs.Givens.{copied_high, copied_wide}
use Rattle.thread_part.proofs.parts.Parts.copy_early.Goals as goal

pub copied_pixels-requires-clause-wide : goal.copied_pixels-requires-clause-wide
copied_pixels-requires-clause-wide c =
    let f = early_facts c.args.self.now in
    subst (λ (r : Rect). IsCopiedSide r.w) (sym c.copied_rect.ensures) (copied_wide c.args.call.now f (copy_allowed c.args.call.now f c.requires.kind c.requires.allowed))

pub copied_pixels-requires-clause-high : goal.copied_pixels-requires-clause-high
copied_pixels-requires-clause-high c =
    let f = early_facts c.args.self.now in
    subst (λ (r : Rect). IsCopiedSide r.h) (sym c.copied_rect.ensures) (copied_high c.args.call.now f (copy_allowed c.args.call.now f c.requires.kind c.requires.allowed))
