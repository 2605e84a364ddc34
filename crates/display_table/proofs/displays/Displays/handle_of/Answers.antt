use Rattle.std.proofs.Common.{sym, ◌∙◌}
use Rattle.display_table.proofs.TableLaws.{first-fits, second-fits, valid-either}
use Rattle.display_table.proofs.displays.Displays.handle_of.Goals as goal

pub handle_in-requires : goal.handle_in-requires
handle_in-requires c = first-fits _ _ _ c.self.invariant

pub handle_in-requires-in-None : goal.handle_in-requires-in-None
handle_in-requires-in-None c = second-fits _ _ _ c.self.invariant

pub returns-in-Some : goal.returns-in-Some
returns-in-Some c = rw (← c.self.view_is) (sym (rw (← c.handle_in.ensures, c.in-Some.is) at (valid-either c.args.kind _ _ _ c.self.invariant.tables 0 c.args.number)))

pub returns-in-None : goal.returns-in-None
returns-in-None c = rw (← c.self.view_is) (c.handle_in-in-None.ensures ∙ sym (rw (← c.handle_in.ensures, c.in-None.is) at (valid-either c.args.kind _ _ _ c.self.invariant.tables 0 c.args.number)))
