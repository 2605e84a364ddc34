use Rattle.std.proofs.Common.{ℕ, ◌+◌, ◌-◌, ◌<◌, ◌∷◌, ◌++◌, [], ◌∙◌, List, arith, ap, get_or, set, length, length-append}
use Rattle.std.proofs.lemmas.List.{get_or_append_left}
use Rattle.shared_driver.proofs.Rooms.{set_more}
use Rattle.shared_driver.proofs.cores.Core.admit.Goals as goal

pub returns-clause-rooms : goal.returns-clause-rooms
returns-clause-rooms c =
    let n = c.args.from in
    let rooms = c.args.self.now.rooms.items in
    let more = rooms ++ 258 ∷ [] in
    let len = length c.args.tail.now.items in
    let its = c.in-Ok-enrol.ensures.rooms.1 in
    let inside : n < length more = let k = length-append rooms (258 ∷ []) in let i = c.requires.from in omega (arith, k, i) in (
      c.part_out.ensures.kept.1 ∙ c.promise.ensures.kept.2 ∙ c.hand_in.ensures.kept.1 ∙ c.in-Ok-enrol.ensures.rooms.0,
      ap (λ r. r.items) c.part_out.ensures.kept.2 ∙ c.promise.ensures.rooms
          ∙ ap (λ (l : List ℕ). set l n (get_or l n 0 + c.args.back)) (c.hand_in.ensures.rooms ∙ ap (λ (l : List ℕ). set l n (get_or l n 0 - len)) its)
          ∙ set_more more n (get_or more n 0 - len) c.args.back inside
          ∙ ap (λ r. set more n (r - len + c.args.back)) (get_or_append_left rooms (258 ∷ []) 0 n c.requires.from),
    )
