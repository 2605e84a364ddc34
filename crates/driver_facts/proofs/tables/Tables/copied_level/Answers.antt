use Rattle.std.proofs.Common.{subst, sym}
use Rattle.pixel_rows.specs.declared.rects.Rect.{Rect}
use Rattle.driver_objects.specs.Storages.{IsCopiedSide}
use Rattle.driver_facts.specs.Tables.{state_in}
use Rattle.driver_facts.proofs.CopyLaws.{copied_high, copied_wide}
use Rattle.driver_facts.proofs.tables.Tables.copied_level.Goals as goal

pub copied-requires-clause-wide : goal.copied-requires-clause-wide
copied-requires-clause-wide c = subst (λ (r : Rect). IsCopiedSide r.w) (sym c.copied_rect.ensures) (copied_wide (state_in c.args.self.now) c.args.thread c.args.context c.args.call.now c.requires.kind c.requires.allowed)

pub copied-requires-clause-high : goal.copied-requires-clause-high
copied-requires-clause-high c = subst (λ (r : Rect). IsCopiedSide r.h) (sym c.copied_rect.ensures) (copied_high (state_in c.args.self.now) c.args.thread c.args.context c.args.call.now c.requires.kind c.requires.allowed)
