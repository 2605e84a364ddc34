use Rattle.std.proofs.Common.{ℕ, ◌+◌, ◌-◌, ◌≤◌, ◌∙◌, List, arith, ap, get_or, set, length, subst, sym}
use Rattle.egl_calls.specs.Errors.{is_waiting}
use Rattle.shared_driver.specs.declared.cores.Played.{Played}
use Rattle.shared_driver.specs.Cores.{place_for}
use Rattle.shared_driver.proofs.Rooms.{place_one, set_more}
use Rattle.shared_driver.proofs.cores.Core.begin.Goals as goal

pub promise-requires-clause-fits : goal.promise-requires-clause-fits
promise-requires-clause-fits c =
    let kept = c.make_room.ensures.kept.3 in
    let played = c.in_ok-played.ensures.promised in
    let fits = c.in_ok-make_room.ensures.fits in
    let one : c.place_for-place.result ≤ 1 = subst (λ n. n ≤ 1) (sym c.place_for-place.ensures) (place_one c.is_waiting.result) in
    omega (arith, kept, played, fits, one)

pub returns-clause-rooms : goal.returns-clause-rooms
returns-clause-rooms c =
    let n = c.args.number in
    let before = c.make_room.new.self.rooms.items in
    let rooms = c.args.self.now.rooms.items in
    let same = ap (λ r. r.items) c.make_room.ensures.kept.2 in
    let place = c.place_for-place.result in
    let len = length c.args.tail.now.items in
    let waits = c.place_for-place.ensures ∙ ap place_for (c.is_waiting.ensures ∙ ap (λ (p : Played). is_waiting p.reply.outcome) c.played.view_is) in
    c.promise.ensures.rooms ∙ ap (λ (l : List ℕ). set l n (get_or l n 0 + place)) (c.in_ok-played.ensures.rooms ∙ ap (λ (l : List ℕ). set l n (get_or l n 0 - len + c.args.back)) same)
    ∙ set_more rooms n (get_or rooms n 0 - len + c.args.back) place c.requires.number.1 ∙ ap (λ p. set rooms n (get_or rooms n 0 - len + c.args.back + p)) waits
