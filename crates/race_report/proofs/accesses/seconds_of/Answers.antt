use Rattle.std.proofs.Common.{◌≡◌, ℕ, List, Some, refl, sym, ap, ◌∙◌, subst}
use Rattle.std.proofs.lemmas.Option.{slice_get-get_or}
use Rattle.std.specs.List.Sorted.{IsPermutation}
use Rattle.std.specs.Prelude.{slice_get}
use Rattle.race_report.specs.declared.events.Event.{Event}
use Rattle.race_report.proofs.AccessLaws.{seconds_are}
use Rattle.race_report.proofs.accesses.seconds_of.Goals as goal

pub returns : goal.returns
returns c =
    let events = c.args.events.now in
    let first = c.args.first in
    let d : Event = c.index-events-first.result in
    let there : slice_get events first ≡ Some d = slice_get-get_or events first d c.requires.within ∙ ap Some (sym c.index-events-first.is) in
    let P : List ℕ → Type 0 = λ x. IsPermutation x c.sorted.result in
    let same = subst P (c.in_ok-add_users-2.ensures ∙ rw (c.in_ok-add_users.ensures, c.new-seconds.ensures, c.as_slice.ensures, c.as_slice-2.ensures, c.as_slice-3.ensures, c.as_slice-4.ensures) refl) c.sorted.ensures.same in
    seconds_are events first d c.args.index.now c.sorted.result there c.requires.index same c.sorted.ensures.rising
