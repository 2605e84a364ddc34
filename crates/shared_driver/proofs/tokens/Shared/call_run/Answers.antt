use Rattle.std.proofs.Common.{◌≡◌, ◌≤◌, ◌<◌, ◌+◌, ◌-◌, ◌||◌, ◌∙◌, ◌++◌, [], ℕ, Bool, false, List, arith, refl, ap, sym, subst, length, set}
use Rattle.std.specs.Prelude.{slice_index}
use Rattle.std.specs.VecDeque.{deque_capacity}
use Rattle.std.proofs.lemmas.List.{append-nil, append_assoc, get_or-set_same}
use Rattle.std.proofs.lemmas.List.Folds.{list_any-append}
use Rattle.egl_calls.specs.Journals.{are_halted, is_halt_kind}
use Rattle.egl_calls.specs.declared.entries.Entry.{Entry}
use Rattle.model_laws.specs.Frame.{AreOf}
use Rattle.driver_core.specs.Machine.{Machine}
use Rattle.turn_lock.specs.Passes.{first_of, view_of}
use Rattle.turn_lock.specs.declared.view.View.{View}
use Rattle.shared_driver.specs.declared.cores.Core.{Core}
use Rattle.shared_driver.specs.Cores.{place_for, room_for}
use Rattle.shared_driver.specs.Picks.{IsAtTurn, picked_entries}
use Rattle.shared_driver.specs.Tokens.{Goes, mine, token_of}
use Rattle.shared_driver.specs.Turns.{IsTurn}
use Rattle.shared_driver.proofs.Histories.{of_thread}
use Rattle.shared_driver.proofs.LateTurns.{picks_with}
use Rattle.shared_driver.proofs.Owned.{all_own, halted_more, mine_goes, or_false, own_append}
use Rattle.shared_driver.proofs.Picking.{adds, answers, picked_halts, picked_of, seen_at_turn}
use Rattle.shared_driver.proofs.Rooms.{set_twice}
use Rattle.shared_driver.proofs.Running.{places_given, ran, room_given, roomed_by}
use Rattle.shared_driver.proofs.Standing.{IsRoomed, turn_same}
use Rattle.shared_driver.proofs.Turning.{after, hands_turn, lent_begun, many_now, may_end, room_found, room_now, room_picks, tok}
use Rattle.shared_driver.proofs.tokens.Shared.call_run.Goals as goal

pub pick_run-requires-clause-may : goal.pick_run-requires-clause-may
pick_run-requires-clause-may g c k x r rounds =
    let t = c.args.thread.now in
    let h = t.hold in
    let f = (first_of c.args.self.now.turns).value in
    let u = c.begin_turn-held.new.hold in
    let z = c.core_of-core.result.now in
    let b = lent_begun f h u c.begin_turn-held.result.value z c.core_of-core.ensures.value c.begin_turn-held.ensures.begun in
    let m = c.hand_in.new.self in
    let q = c.hand_in.ensures in
    let n = u.number in
    let handed = hands_turn f h u z m _ b q.kept.0 q.entries q.rooms q.owed (omega (arith, q.promised, q.spare, b.turn.spare)) in
    let its : n ≡ (view_of h.pass).number = b.numbered ∙ ap (λ (v : View Core Entry). v.number) b.view in
    let at : IsAtTurn (token_of t) m.journal.entries = (b.between, b.others, q.entries ∙ (λ j. b.entries j ++ (b.same_tail j).items)) in
    let d = ran g.P.Picker.picks g.P.Runner.told f m x n k (token_of t) c.args.picker.now r its handed at rounds in
    c.requires.may k d.token r x.journal.entries x.driver d.rounds (seen_at_turn f x n d.token (its ∙ sym d.same.0) d.turn d.at_turn)

pub end_turn_with-requires-clause-ends : goal.end_turn_with-requires-clause-ends
end_turn_with-requires-clause-ends g c =
    let t = c.args.thread.now in
    let h = t.hold in
    let f = (first_of c.args.self.now.turns).value in
    let u = c.begin_turn-held.new.hold in
    let z = c.core_of-core.result.now in
    let b = lent_begun f h u c.begin_turn-held.result.value z c.core_of-core.ensures.value c.begin_turn-held.ensures.begun in
    let m = c.hand_in.new.self in
    let q = c.hand_in.ensures in
    let n = u.number in
    let handed = hands_turn f h u z m _ b q.kept.0 q.entries q.rooms q.owed (omega (arith, q.promised, q.spare, b.turn.spare)) in
    let its : n ≡ (view_of h.pass).number = b.numbered ∙ ap (λ (v : View Core Entry). v.number) b.view in
    let at : IsAtTurn (token_of t) m.journal.entries = (b.between, b.others, q.entries ∙ (λ j. b.entries j ++ (b.same_tail j).items)) in
    let y = c.pick_run.new.self in
    let p = c.in-Ok.ensures in
    let r = c.in-Ok.field-0.picked in
    let x = p.ok.2 in
    let d = ran g.P.Picker.picks g.P.Runner.told f m x n p.ok.0 (token_of t) c.args.picker.now p.ok.3 its handed at p.ok.5 in
    let room = slice_index m.rooms.items n + (256 - t.places) in
    let pe = picked_entries n p.ok.4 r in
    let rooms = p.rooms ∙ ap (λ (l : List ℕ). set l n room) q.rooms ∙ set_twice z.rooms.items n (slice_index z.rooms.items n - length u.tail.items) room in
    let left : slice_index m.rooms.items n ≡ slice_index z.rooms.items n - length u.tail.items = ap (λ (l : List ℕ). slice_index l n) q.rooms ∙ get_or-set_same z.rooms.items n _ 0 b.turn.number in
    let added : y.journal.entries ≡ (z.journal.entries ++ u.tail.items) ++ (d.more ++ pe) =
    adds x y n p.ok.4 r c.in-Ok.field-0.drawing p.ok.7 ∙ ap (λ (l : List Entry). l ++ pe) (d.added ∙ ap (λ (l : List Entry). l ++ d.more) q.entries) ∙ append_assoc (z.journal.entries ++ u.tail.items) d.more pe in
    let roomed : IsRoomed x y n = record { room = room; rooms = roomed_by g.P.Picker.picks g.P.Runner.told m x y n d.room room d.rooms p.rooms; promised = p.owed; spare = p.spare } in
    picks_with f h u _ z x y p.ok.4 r (u.tail.items ++ (d.more ++ pe)) room c.in-Ok.field-0.drawing b refl refl p.tail.0 d.turn roomed p.ok.7
    (added ∙ append_assoc z.journal.entries u.tail.items (d.more ++ pe)) (own_append n u.tail.items (d.more ++ pe) (of_thread _ n u.tail.items b.turn.local) (own_append n d.more pe d.own (picked_of n p.ok.4 r)))
    (d.made ∙ ap (λ (w : Machine). w.made) q.kept.0) (p.live ∙ q.kept.1) rooms
    (subst (λ (l : List Entry). length l < room) (sym p.tail.0) (omega (arith, left, b.room)))

pub end_turn-requires-clause-ends : goal.end_turn-requires-clause-ends
end_turn-requires-clause-ends g c =
    let t = c.args.thread.now in
    let h = t.hold in
    let f = (first_of c.args.self.now.turns).value in
    let u = c.begin_turn-held.new.hold in
    let z = c.core_of-core.result.now in
    let b = lent_begun f h u c.begin_turn-held.result.value z c.core_of-core.ensures.value c.begin_turn-held.ensures.begun in
    let m = c.hand_in.new.self in
    let q = c.hand_in.ensures in
    let n = u.number in
    let handed = hands_turn f h u z m _ b q.kept.0 q.entries q.rooms q.owed (omega (arith, q.promised, q.spare, b.turn.spare)) in
    let its : n ≡ (view_of h.pass).number = b.numbered ∙ ap (λ (v : View Core Entry). v.number) b.view in
    let at : IsAtTurn (token_of t) m.journal.entries = (b.between, b.others, q.entries ∙ (λ j. b.entries j ++ (b.same_tail j).items)) in
    let y = c.pick_run.new.self in
    let p = c.in-Err.ensures in
    let x = p.err.2 in
    let d = ran g.P.Picker.picks g.P.Runner.told f m x n p.err.0 (token_of t) c.args.picker.now p.err.3 its handed at p.err.4 in
    let room = slice_index m.rooms.items n + c.in-Err.field-0.given in
    let rooms = p.err_rooms.1 ∙ ap (λ (l : List ℕ). set l n room) q.rooms ∙ set_twice z.rooms.items n (slice_index z.rooms.items n - length u.tail.items) room in
    let left : slice_index m.rooms.items n ≡ slice_index z.rooms.items n - length u.tail.items = ap (λ (l : List ℕ). slice_index l n) q.rooms ∙ get_or-set_same z.rooms.items n _ 0 b.turn.number in
    let roomed : IsRoomed x y n = record { room = room; rooms = roomed_by g.P.Picker.picks g.P.Runner.told m x y n d.room room d.rooms p.err_rooms.1; promised = p.owed; spare = p.spare } in
    let turn : IsTurn f y n [] = turn_same f x y n [] [] d.turn roomed p.err.5 (ap (λ (l : List Entry). l ++ []) p.err.6) refl in
    let added : y.journal.entries ≡ (z.journal.entries ++ u.tail.items) ++ d.more = p.err.6 ∙ d.added ∙ ap (λ (l : List Entry). l ++ d.more) q.entries in
    may_end f h u _ z y (u.tail.items ++ d.more) room b refl refl (subst (IsTurn f y n) (sym p.tail.0) turn)
    (added ∙ append_assoc z.journal.entries u.tail.items d.more) (own_append n u.tail.items d.more (of_thread _ n u.tail.items b.turn.local) d.own)
    (ap (λ (w : Machine). w.made) p.err.5 ∙ d.made ∙ ap (λ (w : Machine). w.made) q.kept.0) (p.live ∙ q.kept.1) rooms
    (subst (λ (l : List Entry). length l < room) (sym p.tail.0) (omega (arith, left, b.room)))

pub invariant_of-thread : goal.invariant_of-thread
invariant_of-thread g c =
    let t = c.args.thread.now in
    let h = t.hold in
    let f = (first_of c.args.self.now.turns).value in
    let u = c.begin_turn-held.new.hold in
    let z = c.core_of-core.result.now in
    let b = lent_begun f h u c.begin_turn-held.result.value z c.core_of-core.ensures.value c.begin_turn-held.ensures.begun in
    let m = c.hand_in.new.self in
    let q = c.hand_in.ensures in
    let n = u.number in
    let handed = hands_turn f h u z m _ b q.kept.0 q.entries q.rooms q.owed (omega (arith, q.promised, q.spare, b.turn.spare)) in
    let its : n ≡ (view_of h.pass).number = b.numbered ∙ ap (λ (v : View Core Entry). v.number) b.view in
    let at : IsAtTurn (token_of t) m.journal.entries = (b.between, b.others, q.entries ∙ (λ j. b.entries j ++ (b.same_tail j).items)) in
    let y = c.pick_run.new.self in
    let p = c.in-Ok.ensures in
    let r = c.in-Ok.field-0.picked in
    let x = p.ok.2 in
    let d = ran g.P.Picker.picks g.P.Runner.told f m x n p.ok.0 (token_of t) c.args.picker.now p.ok.3 its handed at p.ok.5 in
    let room = slice_index m.rooms.items n + (256 - t.places) in
    let pe = picked_entries n p.ok.4 r in
    let more = d.more ++ pe in
    let rooms = p.rooms ∙ ap (λ (l : List ℕ). set l n room) q.rooms ∙ set_twice z.rooms.items n (slice_index z.rooms.items n - length u.tail.items) room in
    let left : slice_index m.rooms.items n ≡ slice_index z.rooms.items n - length u.tail.items = ap (λ (l : List ℕ). slice_index l n) q.rooms ∙ get_or-set_same z.rooms.items n _ 0 b.turn.number in
    let added : y.journal.entries ≡ (z.journal.entries ++ u.tail.items) ++ more =
    adds x y n p.ok.4 r c.in-Ok.field-0.drawing p.ok.7 ∙ ap (λ (l : List Entry). l ++ pe) (d.added ∙ ap (λ (l : List Entry). l ++ d.more) q.entries) ∙ append_assoc (z.journal.entries ++ u.tail.items) d.more pe in
    let w = c.end_turn_with.new.hold in
    let k = c.end_turn_with.ensures.holds in
    let a = after f h u u w z y room b refl c.end_turn_with.ensures.view rooms in
    let none : w.tail.items ≡ [] = ap (λ s. s.items) c.end_turn_with.ensures.kept.1 ∙ p.tail.0 in
    let goes : Goes (tok h) more (tok w) = (b.between, b.others, a.seen ∙ added ∙ (λ j. (b.entries j ++ (b.same_tail j).items) ++ more), none) in
    let of : AreOf (view_of h.pass).number more = subst (λ (j : ℕ). AreOf j more) its (own_append n d.more pe d.own (picked_of n p.ok.4 r)) in
    let own = mine_goes (tok h) (tok w) more a.number goes ∙ ap (λ (l : List Entry). mine (tok h) ++ l) (all_own (view_of h.pass).number more of) in
    let halts : are_halted more ≡ c.in-Ok.field-0.halts =
    list_any-append (λ (e : Entry). is_halt_kind e.call.kind) d.more pe ∙ ap (λ (v : Bool). v || are_halted pe) d.calm ∙ picked_halts x y n p.ok.4 r c.in-Ok.field-0.drawing p.ok.7 ∙ sym p.ok.8 in
    record {
      free = k.free;
      numbered = k.numbered;
      few = k.few;
      sides = k.sides;
      legal = k.legal;
      local = k.local;
      part = k.part;
      room = room_now (room_for t.halt_used) 256 (place_for t.end_kept) w _ none a.room_is
          (room_picks (room_for t.halt_used) t.places (length u.tail.items) (slice_index z.rooms.items n) (slice_index m.rooms.items n) (place_for t.end_kept) (room_found f h u z (room_for t.halt_used) t.places (place_for t.end_kept) b t.room) (omega (arith, t.many)) left);
      used = λ e. c.either-thread.ensures ∙ ap (λ v. v || c.in-Ok.field-0.halts) (t.used e);
      many = many_now 256 w none (omega arith);
      spare = subst (λ v. 256 ≤ v) (sym (ap (λ s. deque_capacity s) c.end_turn_with.ensures.kept.1 ∙ p.tail.1 ∙ q.capacity ∙ ap (λ s. deque_capacity s) b.same_tail)) t.spare;
      halts = c.either-thread.ensures ∙ halted_more (view_of h.pass).number (view_of w.pass).number ((view_of h.pass).seen ++ h.tail.items) ((view_of w.pass).seen ++ w.tail.items) more t.halted c.in-Ok.field-0.halts a.number t.halts own halts;
      counted = λ s. a.sole (t.counted s);
    }

pub invariant_of-thread-in-Err : goal.invariant_of-thread-in-Err
invariant_of-thread-in-Err g c =
    let t = c.args.thread.now in
    let h = t.hold in
    let f = (first_of c.args.self.now.turns).value in
    let u = c.begin_turn-held.new.hold in
    let z = c.core_of-core.result.now in
    let b = lent_begun f h u c.begin_turn-held.result.value z c.core_of-core.ensures.value c.begin_turn-held.ensures.begun in
    let m = c.hand_in.new.self in
    let q = c.hand_in.ensures in
    let n = u.number in
    let handed = hands_turn f h u z m _ b q.kept.0 q.entries q.rooms q.owed (omega (arith, q.promised, q.spare, b.turn.spare)) in
    let its : n ≡ (view_of h.pass).number = b.numbered ∙ ap (λ (v : View Core Entry). v.number) b.view in
    let at : IsAtTurn (token_of t) m.journal.entries = (b.between, b.others, q.entries ∙ (λ j. b.entries j ++ (b.same_tail j).items)) in
    let y = c.pick_run.new.self in
    let p = c.in-Err.ensures in
    let x = p.err.2 in
    let d = ran g.P.Picker.picks g.P.Runner.told f m x n p.err.0 (token_of t) c.args.picker.now p.err.3 its handed at p.err.4 in
    let given = c.in-Err.field-0.given in
    let room = slice_index m.rooms.items n + given in
    let rooms = p.err_rooms.1 ∙ ap (λ (l : List ℕ). set l n room) q.rooms ∙ set_twice z.rooms.items n (slice_index z.rooms.items n - length u.tail.items) room in
    let left : slice_index m.rooms.items n ≡ slice_index z.rooms.items n - length u.tail.items = ap (λ (l : List ℕ). slice_index l n) q.rooms ∙ get_or-set_same z.rooms.items n _ 0 b.turn.number in
    let added : y.journal.entries ≡ (z.journal.entries ++ u.tail.items) ++ d.more = p.err.6 ∙ d.added ∙ ap (λ (l : List Entry). l ++ d.more) q.entries in
    let w = c.end_turn.new.hold in
    let k = c.end_turn.ensures.holds in
    let a = after f h u u w z y room b refl c.end_turn.ensures.view rooms in
    let none : w.tail.items ≡ [] = ap (λ s. s.items) c.end_turn.ensures.kept.1 ∙ p.tail.0 in
    let goes : Goes (tok h) d.more (tok w) = (b.between, b.others, a.seen ∙ added ∙ (λ j. (b.entries j ++ (b.same_tail j).items) ++ d.more), none) in
    let of : AreOf (view_of h.pass).number d.more = subst (λ (j : ℕ). AreOf j d.more) its d.own in
    let own = mine_goes (tok h) (tok w) d.more a.number goes ∙ ap (λ (l : List Entry). mine (tok h) ++ l) (all_own (view_of h.pass).number d.more of) in
    record {
      free = k.free;
      numbered = k.numbered;
      few = k.few;
      sides = k.sides;
      legal = k.legal;
      local = k.local;
      part = k.part;
      room = room_now (room_for t.halt_used) (t.places + given) (place_for t.end_kept) w _ none a.room_is
          (room_given (room_for t.halt_used) t.places (length u.tail.items) (slice_index z.rooms.items n) (slice_index m.rooms.items n) (place_for t.end_kept) given (room_found f h u z (room_for t.halt_used) t.places (place_for t.end_kept) b t.room) left);
      used = t.used;
      many = many_now (t.places + given) w none (places_given t.places (length h.tail.items) given t.many p.err_rooms.0);
      spare = subst (λ v. 256 ≤ v) (sym (ap (λ s. deque_capacity s) c.end_turn.ensures.kept.1 ∙ p.tail.1 ∙ q.capacity ∙ ap (λ s. deque_capacity s) b.same_tail)) t.spare;
      halts = sym (or_false t.halted) ∙ halted_more (view_of h.pass).number (view_of w.pass).number ((view_of h.pass).seen ++ h.tail.items) ((view_of w.pass).seen ++ w.tail.items) d.more t.halted false a.number t.halts own d.calm;
      counted = λ s. a.sole (t.counted s);
    }

pub returns-in-Ok-clause-ok : goal.returns-in-Ok-clause-ok
returns-in-Ok-clause-ok g c =
    let t = c.args.thread.now in
    let h = t.hold in
    let f = (first_of c.args.self.now.turns).value in
    let u = c.begin_turn-held.new.hold in
    let z = c.core_of-core.result.now in
    let b = lent_begun f h u c.begin_turn-held.result.value z c.core_of-core.ensures.value c.begin_turn-held.ensures.begun in
    let m = c.hand_in.new.self in
    let q = c.hand_in.ensures in
    let n = u.number in
    let handed = hands_turn f h u z m _ b q.kept.0 q.entries q.rooms q.owed (omega (arith, q.promised, q.spare, b.turn.spare)) in
    let its : n ≡ (view_of h.pass).number = b.numbered ∙ ap (λ (v : View Core Entry). v.number) b.view in
    let at : IsAtTurn (token_of t) m.journal.entries = (b.between, b.others, q.entries ∙ (λ j. b.entries j ++ (b.same_tail j).items)) in
    let y = c.pick_run.new.self in
    let p = c.in-Ok.ensures in
    let r = c.in-Ok.field-0.picked in
    let x = p.ok.2 in
    let d = ran g.P.Picker.picks g.P.Runner.told f m x n p.ok.0 (token_of t) c.args.picker.now p.ok.3 its handed at p.ok.5 in
    let v = d.token in
    let named : n ≡ v.number = its ∙ sym d.same.0 in
    let room = slice_index m.rooms.items n + (256 - t.places) in
    let rooms = p.rooms ∙ ap (λ (l : List ℕ). set l n room) q.rooms ∙ set_twice z.rooms.items n (slice_index z.rooms.items n - length u.tail.items) room in
    let w = c.end_turn_with.new.hold in
    let a = after f h u u w z y room b refl c.end_turn_with.ensures.view rooms in
    let none : w.tail.items ≡ [] = ap (λ s. s.items) c.end_turn_with.ensures.kept.1 ∙ p.tail.0 in
    let pe = picked_entries v.number p.ok.4 r in
    let seen : (view_of w.pass).seen ≡ x.journal.entries ++ pe = a.seen ∙ adds x y n p.ok.4 r c.in-Ok.field-0.drawing p.ok.7 ∙ ap (λ (j : ℕ). x.journal.entries ++ picked_entries j p.ok.4 r) named in
    let goes : Goes v pe (tok w) = (d.at_turn.0, d.at_turn.1, seen ∙ ap (λ (l : List Entry). l ++ pe) d.at_turn.2, none) in (
      p.ok.0,
      p.ok.1,
      v,
      p.ok.3,
      x.journal.entries,
      x.driver,
      p.ok.4,
      d.rounds,
      seen_at_turn f x n v named d.turn d.at_turn,
      p.ok.6,
      record {
        answer = answers x y n p.ok.4 r c.in-Ok.field-0.drawing p.ok.7;
        seen = seen;
        own = mine_goes v (tok w) pe (a.number ∙ sym d.same.0) goes ∙ ap (λ (l : List Entry). mine v ++ l) (all_own v.number pe (picked_of v.number p.ok.4 r));
      },
    )

pub returns-in-Err-clause-err : goal.returns-in-Err-clause-err
returns-in-Err-clause-err g c =
    let t = c.args.thread.now in
    let h = t.hold in
    let f = (first_of c.args.self.now.turns).value in
    let u = c.begin_turn-held.new.hold in
    let z = c.core_of-core.result.now in
    let b = lent_begun f h u c.begin_turn-held.result.value z c.core_of-core.ensures.value c.begin_turn-held.ensures.begun in
    let m = c.hand_in.new.self in
    let q = c.hand_in.ensures in
    let n = u.number in
    let handed = hands_turn f h u z m _ b q.kept.0 q.entries q.rooms q.owed (omega (arith, q.promised, q.spare, b.turn.spare)) in
    let its : n ≡ (view_of h.pass).number = b.numbered ∙ ap (λ (v : View Core Entry). v.number) b.view in
    let at : IsAtTurn (token_of t) m.journal.entries = (b.between, b.others, q.entries ∙ (λ j. b.entries j ++ (b.same_tail j).items)) in
    let y = c.pick_run.new.self in
    let p = c.in-Err.ensures in
    let x = p.err.2 in
    let d = ran g.P.Picker.picks g.P.Runner.told f m x n p.err.0 (token_of t) c.args.picker.now p.err.3 its handed at p.err.4 in
    let v = d.token in
    let room = slice_index m.rooms.items n + c.in-Err.field-0.given in
    let rooms = p.err_rooms.1 ∙ ap (λ (l : List ℕ). set l n room) q.rooms ∙ set_twice z.rooms.items n (slice_index z.rooms.items n - length u.tail.items) room in
    let w = c.end_turn.new.hold in
    let a = after f h u u w z y room b refl c.end_turn.ensures.view rooms in
    let none : w.tail.items ≡ [] = ap (λ s. s.items) c.end_turn.ensures.kept.1 ∙ p.tail.0 in
    let goes : Goes v [] (tok w) = (d.at_turn.0, d.at_turn.1, a.seen ∙ p.err.6 ∙ d.at_turn.2 ∙ sym (append-nil _), none) in
    (p.err.0, p.err.1, v, p.err.3, d.rounds, goes, mine_goes v (tok w) [] (a.number ∙ sym d.same.0) goes ∙ append-nil (mine v))
