use Rattle.std.proofs.Common.{pos, ◌≤ℤ◌, subst, sym, ◌∙◌}
use Rattle.pixel_rows.specs.declared.rects.Rect.{Rect}
use Rattle.driver_facts.proofs.CopyLaws.{copy_part_passed, copy_part_within}
use Rattle.driver_facts.specs.Tables.{state_in}
use Rattle.driver_core.proofs.machine.Driver.copy_part.Goals as goal

pub copy-requires-clause-sides : goal.copy-requires-clause-sides
copy-requires-clause-sides c =
    let a = copy_part_passed c.args.self.now.state c.args.thread c.args.context c.args.call.now c.requires.kind c.requires.allowed in
    subst (λ (r : Rect). (pos 0 ≤ℤ r.w) × (pos 0 ≤ℤ r.h)) (sym c.copied_part_rect.ensures) (a.columns.some, a.rows.some)

pub copy-requires-clause-inside : goal.copy-requires-clause-inside
copy-requires-clause-inside c = rw (c.name_of-x.ensures, c.name_of-y.ensures, c.copied_part_rect.ensures) (copy_part_within (state_in c.self.inside.tables) c.args.thread c.args.context c.in-Some.storage c.args.call.now c.requires.kind (rw (← c.self.view_is) at c.requires.allowed) (rw c.number.ensures at (sym c.level_storage.ensures ∙ c.in-Some.is)))
