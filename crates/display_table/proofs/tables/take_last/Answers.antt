use Rattle.std.proofs.Common.{◌≡◌, true, false}
use Rattle.display_table.proofs.PlaceLaws.{last-from_same, last_taken, none_left, pop_more, rises-pop}
use Rattle.display_table.proofs.tables.take_last.Goals as goal

pub places-preserved : goal.places-preserved
places-preserved c = pop_more _ _ _ (c.in-Some._number, c.in-Some.place) c.in-Some.ensures.entries c.in_default-place.is c.places.invariant

pub returns-in-Some-place-clause-last : goal.returns-in-Some-place-clause-last
returns-in-Some-place-clause-last c =
    let kept = c.places.invariant in
    last-from_same _ _ _ c.in-Some-place.handle kept.same (last_taken _ _ (c.in-Some._number, c.in-Some.place) c.in-Some-place.handle _ c.in-Some.ensures.entries c.in-Some-place.is (kept.rise _ c.requires))

pub returns-in-Some-place-clause-rise : goal.returns-in-Some-place-clause-rise
returns-in-Some-place-clause-rise c end r = rises-pop _ _ (c.in-Some._number, c.in-Some.place) end c.in-Some.ensures.entries (c.places.invariant.rise end r)

pub returns-clause-none : goal.returns-clause-none
returns-clause-none c = none_left _ _ _ _ (λ l. let no : false ≡ true = c.in_default.ensures.found.1 l in cc) c.in_default.ensures.entries c.release.ensures c.places.invariant
