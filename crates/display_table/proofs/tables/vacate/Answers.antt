use Rattle.std.proofs.Common.{◌∙◌, is_some, refl, sym, ap}
use Rattle.display_table.specs.Tables.{at_number}
use Rattle.display_table.proofs.PlaceLaws.{at_number-lookup, none_there, written}
use Rattle.display_table.proofs.tables.vacate.Goals as goal

pub returns-in-Some-clause-found : goal.returns-in-Some-clause-found
returns-in-Some-clause-found c is_true = ap is_some (at_number-lookup _ c.args.number _ c.in-Some.ensures.value ∙ sym c.take.ensures.value) ∙ sym c.is_some.ensures ∙ is_true

pub returns-in-Some-clause-removed : goal.returns-in-Some-clause-removed
returns-in-Some-clause-removed c n =
    let held = c.get_mut.follows.holds c.take.new.self in
    written _ _ c.args.number _ (held.3 (ap is_some (sym c.in-Some.ensures.value))).0 n ∙ rw c.take.ensures.after refl

pub returns-in-None-clause-removed : goal.returns-in-None-clause-removed
returns-in-None-clause-removed c n = rw c.get_mut.follows.holds-at-none (none_there (at_number c.args.table.now.entries) c.args.number (at_number-lookup _ c.args.number _ c.in-None.ensures.value) n)
