use Rattle.std.proofs.Common.{refl}
use Rattle.display_table.proofs.TableLaws.{first-fits, second-fits, removed, removed-first}
use Rattle.display_table.proofs.displays.Displays.remove_number.Goals as goal

pub take-requires : goal.take-requires
take-requires c = first-fits _ _ _ c.self.invariant

pub take-requires-then-not-take : goal.take-requires-then-not-take
take-requires-then-not-take c = second-fits _ _ _ c.self.invariant

pub returns-then-not-take : goal.returns-then-not-take
returns-then-not-take c = rw (← c.self.view_is, removed _ _ _ _ _ _ _ refl c.self.invariant.tables c.take.ensures.removed c.take-then-not-take.ensures.removed) refl

pub returns-else-not-take : goal.returns-else-not-take
returns-else-not-take c = rw (← c.self.view_is, removed-first _ _ _ _ _ c.self.invariant.tables (c.if-not-take.ensures.found refl) c.take.ensures.removed) refl
