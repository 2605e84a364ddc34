use Rattle.std.proofs.Common.{◌≡◌, ◌≤◌, ◌∙◌, ◌∷◌, ◌++◌, [], false, arith, refl, ap, sym, subst}
use Rattle.std.specs.VecDeque.{deque_capacity}
use Rattle.turn_lock.specs.Passes.{first_of, view_of}
use Rattle.shared_driver.specs.declared.cores.Core.{Core}
use Rattle.shared_driver.specs.Cores.{entry, owed, place_for, room_for, wait_end_call, wait_ended}
use Rattle.shared_driver.proofs.Owned.{halted_more, halted_same, or_false}
use Rattle.shared_driver.proofs.Turning.{adds_ends, adds_goes, adds_mine, after, enough_less, fits_end, keeps_ends, keeps_learns, keeps_mine, kept_rooms, lent_begun, many_kept, many_now, room_ends, room_found, room_kept, room_now}
use Rattle.shared_driver.proofs.tokens.Shared.try_end.Goals as goal

pub end_turn-requires-clause-ends : goal.end_turn-requires-clause-ends
end_turn-requires-clause-ends g c =
    let t = c.args.thread.now in
    let h = t.hold in
    let f = (first_of c.args.self.now.turns).value in
    let u = c.begin_turn-held.new.hold in
    let z = c.core_of-core.result.now in
    let b = lent_begun f h u c.begin_turn-held.result.value z c.core_of-core.ensures.value c.begin_turn-held.ensures.begun in
    let p = c.in-Some.ensures in
    adds_ends f h u _ z c.try_end.new.self c.args.mark wait_end_call wait_ended _ b refl refl p.tail (sym p.ended.0 ∙ p.ended.1) p.driver p.added p.rooms p.owed p.spare p.live (enough_less _ _ (fits_end t.halt_used t.places _ _ (place_for t.end_kept) (room_found f h u z (room_for t.halt_used) t.places (place_for t.end_kept) b t.room) (ap place_for c.requires.place)))

pub end_turn-requires-in-None-clause-ends : goal.end_turn-requires-in-None-clause-ends
end_turn-requires-in-None-clause-ends g c =
    let t = c.args.thread.now in
    let h = t.hold in
    let f = (first_of c.args.self.now.turns).value in
    let u = c.begin_turn-held.new.hold in
    let z = c.core_of-core.result.now in
    let b = lent_begun f h u c.begin_turn-held.result.value z c.core_of-core.ensures.value c.begin_turn-held.ensures.begun in
    let y = c.try_end.new.self in
    let n = c.in-None.ensures.none in
    keeps_ends f h u _ z y b refl refl n.1 (ap (λ (q : Core). q.driver) n.0) (ap (λ (q : Core). q.journal.entries) n.0) (ap (λ (q : Core). q.rooms.items) n.0)
    (subst (λ (q : Core). q.promised ≡ owed q.rooms.items) (sym n.0) b.turn.promised) (subst (λ (q : Core). q.promised ≤ q.journal.spare) (sym n.0) b.turn.spare) (ap (λ (q : Core). q.tokens) n.0)

pub invariant_of-thread : goal.invariant_of-thread
invariant_of-thread g c =
    let t = c.args.thread.now in
    let h = t.hold in
    let f = (first_of c.args.self.now.turns).value in
    let u = c.begin_turn-held.new.hold in
    let z = c.core_of-core.result.now in
    let b = lent_begun f h u c.begin_turn-held.result.value z c.core_of-core.ensures.value c.begin_turn-held.ensures.begun in
    let w = c.end_turn.new.hold in
    let k = c.end_turn.ensures.holds in
    let y = c.try_end.new.self in
    let p = c.in-Some.ensures in
    let a = after f h u u w z y _ b refl c.end_turn.ensures.view p.rooms in
    let none : w.tail.items ≡ [] = ap (λ q. q.items) c.end_turn.ensures.kept.1 ∙ p.tail in
    let goes = adds_goes f h u w z y _ c.args.mark wait_end_call wait_ended b a none p.added in
    record {
      free = k.free;
      numbered = k.numbered;
      few = k.few;
      sides = k.sides;
      legal = k.legal;
      local = k.local;
      part = k.part;
      room = room_now (room_for t.halt_used) t.places 0 w _ none a.room_is (room_ends (room_for t.halt_used) t.places _ _ (place_for t.end_kept) (room_found f h u z (room_for t.halt_used) t.places (place_for t.end_kept) b t.room) (ap place_for c.requires.place));
      used = t.used;
      many = many_now t.places w none (omega (arith, t.many));
      spare = subst (λ n. 256 ≤ n) (sym (ap (λ q. deque_capacity q) c.end_turn.ensures.kept.1 ∙ p.capacity ∙ ap (λ q. deque_capacity q) b.same_tail)) t.spare;
      halts = sym (or_false t.halted) ∙ halted_more (view_of h.pass).number (view_of w.pass).number ((view_of h.pass).seen ++ h.tail.items) ((view_of w.pass).seen ++ w.tail.items) (entry (view_of h.pass).number c.args.mark wait_end_call wait_ended ∷ []) t.halted false a.number t.halts (adds_mine h w c.args.mark wait_end_call wait_ended a.number goes) (refl);
      counted = λ s. a.sole (t.counted s);
    }

pub invariant_of-thread-in-None : goal.invariant_of-thread-in-None
invariant_of-thread-in-None g c =
    let t = c.args.thread.now in
    let h = t.hold in
    let f = (first_of c.args.self.now.turns).value in
    let u = c.begin_turn-held.new.hold in
    let z = c.core_of-core.result.now in
    let b = lent_begun f h u c.begin_turn-held.result.value z c.core_of-core.ensures.value c.begin_turn-held.ensures.begun in
    let w = c.end_turn-in-None.new.hold in
    let k = c.end_turn-in-None.ensures.holds in
    let y = c.try_end.new.self in
    let n = c.in-None.ensures.none in
    let a = after f h u u w z y _ b refl c.end_turn-in-None.ensures.view (kept_rooms f h u z y b (ap (λ (q : Core). q.rooms.items) n.0)) in
    let left : w.tail.items ≡ u.tail.items = ap (λ q. q.items) c.end_turn-in-None.ensures.kept.1 ∙ n.1 in
    let learns = keeps_learns f h u w z y _ b a left (ap (λ (q : Core). q.journal.entries) n.0) in
    record {
      free = k.free;
      numbered = k.numbered;
      few = k.few;
      sides = k.sides;
      legal = k.legal;
      local = k.local;
      part = k.part;
      room = room_kept (room_for t.halt_used) t.places (place_for t.end_kept) u w _ left a.room_is (room_found f h u z (room_for t.halt_used) t.places (place_for t.end_kept) b t.room);
      used = t.used;
      many = many_kept t.places h w (left ∙ ap (λ q. q.items) b.same_tail) t.many;
      spare = subst (λ n. 256 ≤ n) (sym (ap (λ q. deque_capacity q) c.end_turn-in-None.ensures.kept.1 ∙ c.in-None.ensures.capacity ∙ ap (λ q. deque_capacity q) b.same_tail)) t.spare;
      halts = halted_same (view_of h.pass).number (view_of w.pass).number ((view_of h.pass).seen ++ h.tail.items) ((view_of w.pass).seen ++ w.tail.items) t.halted a.number t.halts (keeps_mine h w a.number learns);
      counted = λ s. a.sole (t.counted s);
    }

pub try_end-requires-clause-room : goal.try_end-requires-clause-room
try_end-requires-clause-room g c =
    let t = c.args.thread.now in
    let h = t.hold in
    let f = (first_of c.args.self.now.turns).value in
    let u = c.begin_turn-held.new.hold in
    let z = c.core_of-core.result.now in
    let b = lent_begun f h u c.begin_turn-held.result.value z c.core_of-core.ensures.value c.begin_turn-held.ensures.begun in
    fits_end t.halt_used t.places _ _ (place_for t.end_kept) (room_found f h u z (room_for t.halt_used) t.places (place_for t.end_kept) b t.room) (ap place_for c.requires.place)
