use Rattle.std.proofs.Common.{◌≡◌, ◌≤◌, ◌<◌, ◌+◌, ◌-◌, ◌||◌, ◌∙◌, ◌++◌, [], ℕ, List, arith, refl, ap, sym, subst, length}
use Rattle.std.specs.Prelude.{slice_index}
use Rattle.std.specs.VecDeque.{deque_capacity}
use Rattle.std.proofs.lemmas.List.{append_assoc, get_or-set_same}
use Rattle.egl_calls.specs.Journals.{are_halted}
use Rattle.egl_calls.specs.declared.entries.Entry.{Entry}
use Rattle.driver_core.specs.Machine.{Machine}
use Rattle.turn_lock.specs.Passes.{first_of, view_of}
use Rattle.turn_lock.specs.declared.view.View.{View}
use Rattle.shared_driver.specs.declared.cores.Core.{Core}
use Rattle.shared_driver.specs.Cores.{place_for, room_for}
use Rattle.shared_driver.specs.Picks.{picked_entries}
use Rattle.shared_driver.proofs.Histories.{of_thread}
use Rattle.shared_driver.proofs.Owned.{halted_more, halted_same, mine_goes, own_append}
use Rattle.shared_driver.proofs.Rooms.{set_twice}
use Rattle.shared_driver.proofs.Turning.{after, hands_ends, hands_goes, hands_mine, hands_turn, lent_begun, many_now, room_found, room_hands, room_now, room_picks, tok}
use Rattle.std.proofs.Common.{set}
use Rattle.shared_driver.specs.Tokens.{Goes, mine, token_of}
use Rattle.shared_driver.proofs.Owned.{all_own}
use Rattle.shared_driver.proofs.Picking.{adds, answers, picked_halts, picked_of, seen_at_turn}
use Rattle.shared_driver.proofs.LateTurns.{picks_with}
use Rattle.shared_driver.proofs.tokens.Shared.call_picked.Goals as goal

pub pick-requires-clause-may : goal.pick-requires-clause-may
pick-requires-clause-may g c =
    let t = c.args.thread.now in
    let h = t.hold in
    let f = (first_of c.args.self.now.turns).value in
    let u = c.begin_turn-held.new.hold in
    let z = c.core_of-core.result.now in
    let b = lent_begun f h u c.begin_turn-held.result.value z c.core_of-core.ensures.value c.begin_turn-held.ensures.begun in
    let m = c.hand_in.new.self in
    let q = c.hand_in.ensures in
    let n = u.number in
    let handed = hands_turn f h u z m _ b q.kept.0 q.entries q.rooms q.owed (omega (arith, q.promised, q.spare, b.turn.spare)) in
    let its : n ≡ (view_of h.pass).number = b.numbered ∙ ap (λ (v : View Core Entry). v.number) b.view in
    c.requires.may m.journal.entries m.driver (seen_at_turn f m n (token_of t) its handed (b.between, b.others, q.entries ∙ (λ j. b.entries j ++ (b.same_tail j).items)))

pub end_turn_with-requires-clause-ends : goal.end_turn_with-requires-clause-ends
end_turn_with-requires-clause-ends g c =
    let t = c.args.thread.now in
    let h = t.hold in
    let f = (first_of c.args.self.now.turns).value in
    let u = c.begin_turn-held.new.hold in
    let z = c.core_of-core.result.now in
    let b = lent_begun f h u c.begin_turn-held.result.value z c.core_of-core.ensures.value c.begin_turn-held.ensures.begun in
    let m = c.hand_in.new.self in
    let q = c.hand_in.ensures in
    let n = u.number in
    let handed = hands_turn f h u z m _ b q.kept.0 q.entries q.rooms q.owed (omega (arith, q.promised, q.spare, b.turn.spare)) in
    let y = c.pick.new.self in
    let p = c.in-Ok.ensures in
    let r = c.in-Ok.field-0.picked in
    let rooms = p.rooms ∙ ap (λ (l : List ℕ). set l n (slice_index m.rooms.items n + (256 - t.places))) q.rooms ∙ set_twice z.rooms.items n (slice_index z.rooms.items n - length u.tail.items) (slice_index m.rooms.items n + (256 - t.places)) in
    let left : slice_index m.rooms.items n ≡ slice_index z.rooms.items n - length u.tail.items = ap (λ (l : List ℕ). slice_index l n) q.rooms ∙ get_or-set_same z.rooms.items n _ 0 b.turn.number in
    let added : y.journal.entries ≡ (z.journal.entries ++ u.tail.items) ++ picked_entries n p.ok.0 r = adds m y n p.ok.0 r c.in-Ok.field-0.drawing p.ok.2 ∙ ap (λ l. l ++ picked_entries n p.ok.0 r) q.entries in
    picks_with f h u _ z m y p.ok.0 r (u.tail.items ++ picked_entries n p.ok.0 r) _ c.in-Ok.field-0.drawing b refl refl p.tail.0
    handed (record { room = slice_index m.rooms.items n + (256 - t.places); rooms = p.rooms; promised = p.owed; spare = p.spare }) p.ok.2
    (added ∙ append_assoc z.journal.entries u.tail.items (picked_entries n p.ok.0 r)) (own_append n u.tail.items (picked_entries n p.ok.0 r) (of_thread _ n u.tail.items b.turn.local) (picked_of n p.ok.0 r))
    (ap (λ (x : Machine). x.made) q.kept.0) (p.live ∙ q.kept.1) rooms
    (subst (λ (l : List Entry). length l < slice_index m.rooms.items n + (256 - t.places)) (sym p.tail.0) (omega (arith, left, b.room)))

pub end_turn-requires-clause-ends : goal.end_turn-requires-clause-ends
end_turn-requires-clause-ends g c =
    let t = c.args.thread.now in
    let h = t.hold in
    let f = (first_of c.args.self.now.turns).value in
    let u = c.begin_turn-held.new.hold in
    let z = c.core_of-core.result.now in
    let b = lent_begun f h u c.begin_turn-held.result.value z c.core_of-core.ensures.value c.begin_turn-held.ensures.begun in
    let m = c.hand_in.new.self in
    let q = c.hand_in.ensures in
    let n = u.number in
    let handed = hands_turn f h u z m _ b q.kept.0 q.entries q.rooms q.owed (omega (arith, q.promised, q.spare, b.turn.spare)) in
    let y = c.pick.new.self in
    let p = c.in-Err.ensures in
    let rooms = ap (λ r. r.items) p.err.2 ∙ q.rooms in
    hands_ends f h u _ z y _ b refl refl p.tail.0 (p.err.0 ∙ q.kept.0) (p.err.1 ∙ q.entries) rooms p.owed p.spare (p.live ∙ q.kept.1) (omega (arith, b.room))

pub invariant_of-thread : goal.invariant_of-thread
invariant_of-thread g c =
    let t = c.args.thread.now in
    let h = t.hold in
    let f = (first_of c.args.self.now.turns).value in
    let u = c.begin_turn-held.new.hold in
    let z = c.core_of-core.result.now in
    let b = lent_begun f h u c.begin_turn-held.result.value z c.core_of-core.ensures.value c.begin_turn-held.ensures.begun in
    let m = c.hand_in.new.self in
    let q = c.hand_in.ensures in
    let n = u.number in
    let handed = hands_turn f h u z m _ b q.kept.0 q.entries q.rooms q.owed (omega (arith, q.promised, q.spare, b.turn.spare)) in
    let y = c.pick.new.self in
    let p = c.in-Ok.ensures in
    let r = c.in-Ok.field-0.picked in
    let rooms = p.rooms ∙ ap (λ (l : List ℕ). set l n (slice_index m.rooms.items n + (256 - t.places))) q.rooms ∙ set_twice z.rooms.items n (slice_index z.rooms.items n - length u.tail.items) (slice_index m.rooms.items n + (256 - t.places)) in
    let left : slice_index m.rooms.items n ≡ slice_index z.rooms.items n - length u.tail.items = ap (λ (l : List ℕ). slice_index l n) q.rooms ∙ get_or-set_same z.rooms.items n _ 0 b.turn.number in
    let added : y.journal.entries ≡ (z.journal.entries ++ u.tail.items) ++ picked_entries n p.ok.0 r = adds m y n p.ok.0 r c.in-Ok.field-0.drawing p.ok.2 ∙ ap (λ l. l ++ picked_entries n p.ok.0 r) q.entries in
    let w = c.end_turn_with.new.hold in
    let k = c.end_turn_with.ensures.holds in
    let a = after f h u u w z y _ b refl c.end_turn_with.ensures.view rooms in
    let none : w.tail.items ≡ [] = ap (λ s. s.items) c.end_turn_with.ensures.kept.1 ∙ p.tail.0 in
    let its : n ≡ (view_of h.pass).number = b.numbered ∙ ap (λ (v : View Core Entry). v.number) b.view in
    let goes : Goes (tok h) (picked_entries (view_of h.pass).number p.ok.0 r) (tok w) =
    (b.between, b.others, a.seen ∙ added ∙ (λ j. (b.entries j ++ (b.same_tail j).items) ++ picked_entries (its j) p.ok.0 r), none) in
    let own = mine_goes (tok h) (tok w) (picked_entries (view_of h.pass).number p.ok.0 r) a.number goes ∙ ap (λ l. mine (tok h) ++ l) (all_own (view_of h.pass).number (picked_entries (view_of h.pass).number p.ok.0 r) (picked_of (view_of h.pass).number p.ok.0 r)) in
    record {
      free = k.free;
      numbered = k.numbered;
      few = k.few;
      sides = k.sides;
      legal = k.legal;
      local = k.local;
      part = k.part;
      room = room_now (room_for t.halt_used) 256 (place_for t.end_kept) w _ none a.room_is
          (room_picks (room_for t.halt_used) t.places (length u.tail.items) (slice_index z.rooms.items n) (slice_index m.rooms.items n) (place_for t.end_kept) (room_found f h u z (room_for t.halt_used) t.places (place_for t.end_kept) b t.room) (omega (arith, t.many)) left);
      used = λ e. c.either-thread.ensures ∙ ap (λ x. x || c.in-Ok.field-0.halts) (t.used e);
      many = many_now 256 w none (omega arith);
      spare = subst (λ k. 256 ≤ k) (sym (ap (λ s. deque_capacity s) c.end_turn_with.ensures.kept.1 ∙ p.tail.1 ∙ q.capacity ∙ ap (λ s. deque_capacity s) b.same_tail)) t.spare;
      halts = c.either-thread.ensures ∙ halted_more (view_of h.pass).number (view_of w.pass).number ((view_of h.pass).seen ++ h.tail.items) ((view_of w.pass).seen ++ w.tail.items) (picked_entries (view_of h.pass).number p.ok.0 r) t.halted c.in-Ok.field-0.halts a.number t.halts own (ap (λ k. are_halted (picked_entries k p.ok.0 r)) (sym its) ∙ picked_halts m y n p.ok.0 r c.in-Ok.field-0.drawing p.ok.2 ∙ sym p.ok.3);
      counted = λ s. a.sole (t.counted s);
    }

pub invariant_of-thread-in-Err : goal.invariant_of-thread-in-Err
invariant_of-thread-in-Err g c =
    let t = c.args.thread.now in
    let h = t.hold in
    let f = (first_of c.args.self.now.turns).value in
    let u = c.begin_turn-held.new.hold in
    let z = c.core_of-core.result.now in
    let b = lent_begun f h u c.begin_turn-held.result.value z c.core_of-core.ensures.value c.begin_turn-held.ensures.begun in
    let m = c.hand_in.new.self in
    let q = c.hand_in.ensures in
    let n = u.number in
    let handed = hands_turn f h u z m _ b q.kept.0 q.entries q.rooms q.owed (omega (arith, q.promised, q.spare, b.turn.spare)) in
    let y = c.pick.new.self in
    let p = c.in-Err.ensures in
    let rooms = ap (λ r. r.items) p.err.2 ∙ q.rooms in
    let w = c.end_turn.new.hold in
    let k = c.end_turn.ensures.holds in
    let a = after f h u u w z y _ b refl c.end_turn.ensures.view rooms in
    let none : w.tail.items ≡ [] = ap (λ s. s.items) c.end_turn.ensures.kept.1 ∙ p.tail.0 in
    let goes = hands_goes f h u w z y _ b a none (p.err.1 ∙ q.entries) in
    record {
      free = k.free;
      numbered = k.numbered;
      few = k.few;
      sides = k.sides;
      legal = k.legal;
      local = k.local;
      part = k.part;
      room = room_now (room_for t.halt_used) t.places (place_for t.end_kept) w _ none a.room_is (room_hands (room_for t.halt_used) t.places _ _ (place_for t.end_kept) (room_found f h u z (room_for t.halt_used) t.places (place_for t.end_kept) b t.room));
      used = t.used;
      many = many_now t.places w none (omega (arith, t.many));
      spare = subst (λ k. 256 ≤ k) (sym (ap (λ s. deque_capacity s) c.end_turn.ensures.kept.1 ∙ p.tail.1 ∙ q.capacity ∙ ap (λ s. deque_capacity s) b.same_tail)) t.spare;
      halts = halted_same (view_of h.pass).number (view_of w.pass).number ((view_of h.pass).seen ++ h.tail.items) ((view_of w.pass).seen ++ w.tail.items) t.halted a.number t.halts (hands_mine h w a.number goes);
      counted = λ s. a.sole (t.counted s);
    }

pub returns-in-Ok-clause-ok : goal.returns-in-Ok-clause-ok
returns-in-Ok-clause-ok g c =
    let t = c.args.thread.now in
    let h = t.hold in
    let f = (first_of c.args.self.now.turns).value in
    let u = c.begin_turn-held.new.hold in
    let z = c.core_of-core.result.now in
    let b = lent_begun f h u c.begin_turn-held.result.value z c.core_of-core.ensures.value c.begin_turn-held.ensures.begun in
    let m = c.hand_in.new.self in
    let q = c.hand_in.ensures in
    let n = u.number in
    let handed = hands_turn f h u z m _ b q.kept.0 q.entries q.rooms q.owed (omega (arith, q.promised, q.spare, b.turn.spare)) in
    let y = c.pick.new.self in
    let p = c.in-Ok.ensures in
    let r = c.in-Ok.field-0.picked in
    let rooms = p.rooms ∙ ap (λ (l : List ℕ). set l n (slice_index m.rooms.items n + (256 - t.places))) q.rooms ∙ set_twice z.rooms.items n (slice_index z.rooms.items n - length u.tail.items) (slice_index m.rooms.items n + (256 - t.places)) in
    let left : slice_index m.rooms.items n ≡ slice_index z.rooms.items n - length u.tail.items = ap (λ (l : List ℕ). slice_index l n) q.rooms ∙ get_or-set_same z.rooms.items n _ 0 b.turn.number in
    let added : y.journal.entries ≡ (z.journal.entries ++ u.tail.items) ++ picked_entries n p.ok.0 r = adds m y n p.ok.0 r c.in-Ok.field-0.drawing p.ok.2 ∙ ap (λ l. l ++ picked_entries n p.ok.0 r) q.entries in
    let w = c.end_turn_with.new.hold in
    let a = after f h u u w z y _ b refl c.end_turn_with.ensures.view rooms in
    let none : w.tail.items ≡ [] = ap (λ s. s.items) c.end_turn_with.ensures.kept.1 ∙ p.tail.0 in
    let its : n ≡ (view_of h.pass).number = b.numbered ∙ ap (λ (v : View Core Entry). v.number) b.view in
    let goes : Goes (tok h) (picked_entries (view_of h.pass).number p.ok.0 r) (tok w) =
    (b.between, b.others, a.seen ∙ added ∙ (λ j. (b.entries j ++ (b.same_tail j).items) ++ picked_entries (its j) p.ok.0 r), none) in
    let own = mine_goes (tok h) (tok w) (picked_entries (view_of h.pass).number p.ok.0 r) a.number goes ∙ ap (λ l. mine (tok h) ++ l) (all_own (view_of h.pass).number (picked_entries (view_of h.pass).number p.ok.0 r) (picked_of (view_of h.pass).number p.ok.0 r)) in (
      m.journal.entries,
      m.driver,
      p.ok.0,
      seen_at_turn f m n (token_of t) its handed (b.between, b.others, q.entries ∙ (λ j. b.entries j ++ (b.same_tail j).items)),
      p.ok.1,
      record {
        answer = answers m y n p.ok.0 r c.in-Ok.field-0.drawing p.ok.2;
        seen = a.seen ∙ adds m y n p.ok.0 r c.in-Ok.field-0.drawing p.ok.2 ∙ ap (λ k. m.journal.entries ++ picked_entries k p.ok.0 r) its;
        own = own;
      },
    )

pub returns-in-Err-clause-err_mine : goal.returns-in-Err-clause-err_mine
returns-in-Err-clause-err_mine g c =
    let t = c.args.thread.now in
    let h = t.hold in
    let f = (first_of c.args.self.now.turns).value in
    let u = c.begin_turn-held.new.hold in
    let z = c.core_of-core.result.now in
    let b = lent_begun f h u c.begin_turn-held.result.value z c.core_of-core.ensures.value c.begin_turn-held.ensures.begun in
    let m = c.hand_in.new.self in
    let q = c.hand_in.ensures in
    let n = u.number in
    let handed = hands_turn f h u z m _ b q.kept.0 q.entries q.rooms q.owed (omega (arith, q.promised, q.spare, b.turn.spare)) in
    let y = c.pick.new.self in
    let p = c.in-Err.ensures in
    let rooms = ap (λ r. r.items) p.err.2 ∙ q.rooms in
    let w = c.end_turn.new.hold in
    let a = after f h u u w z y _ b refl c.end_turn.ensures.view rooms in
    hands_mine h w a.number (hands_goes f h u w z y _ b a (ap (λ s. s.items) c.end_turn.ensures.kept.1 ∙ p.tail.0) (p.err.1 ∙ q.entries))
