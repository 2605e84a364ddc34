use Rattle.std.proofs.Common.{sym, ◌∙◌}
use Rattle.display_table.proofs.TableLaws.{first-fits, second-fits, valid-first, valid-second, valid-neither}
use Rattle.display_table.proofs.displays.Displays.handle_on.Goals as goal

pub handle_in-requires : goal.handle_in-requires
handle_in-requires c = first-fits _ _ _ c.self.invariant

pub handle_in-requires-then-display-eq2 : goal.handle_in-requires-then-display-eq2
handle_in-requires-then-display-eq2 c = second-fits _ _ _ c.self.invariant

pub returns-then-display-eq1 : goal.returns-then-display-eq1
returns-then-display-eq1 c = rw (← c.self.view_is) (c.handle_in.ensures ∙ sym (valid-first c.args.kind _ _ _ c.self.invariant.tables _ _ c.if-display-eq1.true))

pub returns-then-display-eq2 : goal.returns-then-display-eq2
returns-then-display-eq2 c = rw (← c.self.view_is) (c.handle_in-then-display-eq2.ensures ∙ sym (valid-second c.args.kind _ _ _ c.self.invariant.tables _ _ c.if-display-eq2.true))

pub returns-else-display-eq2 : goal.returns-else-display-eq2
returns-else-display-eq2 c = rw (← c.self.view_is) (sym (valid-neither c.args.kind _ _ _ c.self.invariant.tables _ _ c.if-display-eq1.false c.if-display-eq2.false))
