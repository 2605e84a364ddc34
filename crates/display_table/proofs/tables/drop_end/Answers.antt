use Rattle.std.proofs.Common.{◌∙◌, refl, sym}
use Rattle.display_table.proofs.PlaceLaws.{pop_empty}
use Rattle.display_table.proofs.tables.drop_end.Goals as goal

pub places-preserved : goal.places-preserved
places-preserved c = pop_empty _ _ _ c.pop.result _ _ c.pop.ensures.entries (c.pop.ensures.found.1 (c.in-Some.ensures.found.0 refl)) c.in-Some.ensures.entry (sym c.is_some.ensures ∙ c.if-is_some.false) c.places.invariant
