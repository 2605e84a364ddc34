use Rattle.std.proofs.Common.{◌≡◌, ◌≤◌, ◌∙◌, ◌++◌, [], arith, refl, ap, sym, subst}
use Rattle.std.specs.VecDeque.{deque_capacity}
use Rattle.turn_lock.specs.Passes.{first_of, view_of}
use Rattle.shared_driver.specs.Cores.{place_for, room_for}
use Rattle.shared_driver.proofs.Owned.{halted_same}
use Rattle.shared_driver.proofs.Turning.{after, hands_ends, hands_goes, hands_mine, lent_begun, many_now, room_found, room_hands, room_now}
use Rattle.shared_driver.proofs.tokens.Shared.finish.Goals as goal

pub end_turn-requires-clause-ends : goal.end_turn-requires-clause-ends
end_turn-requires-clause-ends g c =
    let t = c.args.thread.now in
    let h = t.hold in
    let f = (first_of c.args.self.now.turns).value in
    let u = c.begin_turn-held.new.hold in
    let z = c.core_of-core.result.now in
    let b = lent_begun f h u c.begin_turn-held.result.value z c.core_of-core.ensures.value c.begin_turn-held.ensures.begun in
    let p = c.hand_in.ensures in
    hands_ends f h u _ z c.hand_in.new.self _ b refl refl p.tail p.kept.0 p.entries p.rooms p.owed (omega (arith, p.promised, p.spare, b.turn.spare)) p.kept.1 (omega (arith, b.room))

pub invariant_of-thread : goal.invariant_of-thread
invariant_of-thread g c =
    let t = c.args.thread.now in
    let h = t.hold in
    let f = (first_of c.args.self.now.turns).value in
    let u = c.begin_turn-held.new.hold in
    let z = c.core_of-core.result.now in
    let b = lent_begun f h u c.begin_turn-held.result.value z c.core_of-core.ensures.value c.begin_turn-held.ensures.begun in
    let w = c.end_turn.new.hold in
    let k = c.end_turn.ensures.holds in
    let y = c.hand_in.new.self in
    let p = c.hand_in.ensures in
    let a = after f h u u w z y _ b refl c.end_turn.ensures.view p.rooms in
    let none : w.tail.items ≡ [] = ap (λ q. q.items) c.end_turn.ensures.kept.1 ∙ p.tail in
    let goes = hands_goes f h u w z y _ b a none p.entries in
    record {
      free = k.free;
      numbered = k.numbered;
      few = k.few;
      sides = k.sides;
      legal = k.legal;
      local = k.local;
      part = k.part;
      room = room_now (room_for t.halt_used) t.places (place_for t.end_kept) w _ none a.room_is (room_hands (room_for t.halt_used) t.places _ _ (place_for t.end_kept) (room_found f h u z (room_for t.halt_used) t.places (place_for t.end_kept) b t.room));
      used = t.used;
      many = many_now t.places w none (omega (arith, t.many));
      spare = subst (λ n. 256 ≤ n) (sym (ap (λ q. deque_capacity q) c.end_turn.ensures.kept.1 ∙ p.capacity ∙ ap (λ q. deque_capacity q) b.same_tail)) t.spare;
      halts = halted_same (view_of h.pass).number (view_of w.pass).number ((view_of h.pass).seen ++ h.tail.items) ((view_of w.pass).seen ++ w.tail.items) t.halted a.number t.halts (hands_mine h w a.number goes);
      counted = λ s. a.sole (t.counted s);
    }

pub returns-clause-mine : goal.returns-clause-mine
returns-clause-mine g c =
    let t = c.args.thread.now in
    let h = t.hold in
    let f = (first_of c.args.self.now.turns).value in
    let u = c.begin_turn-held.new.hold in
    let z = c.core_of-core.result.now in
    let b = lent_begun f h u c.begin_turn-held.result.value z c.core_of-core.ensures.value c.begin_turn-held.ensures.begun in
    let w = c.end_turn.new.hold in
    let p = c.hand_in.ensures in
    let a = after f h u u w z c.hand_in.new.self _ b refl c.end_turn.ensures.view p.rooms in
    hands_mine h w a.number (hands_goes f h u w z c.hand_in.new.self _ b a (ap (λ q. q.items) c.end_turn.ensures.kept.1 ∙ p.tail) p.entries)
