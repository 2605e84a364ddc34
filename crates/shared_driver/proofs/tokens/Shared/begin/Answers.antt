use Rattle.std.proofs.Common.{◌≡◌, ◌≤◌, ◌+◌, ◌-◌, ◌||◌, ◌∙◌, ◌∷◌, ◌++◌, [], Bool, arith, refl, ap, sym, subst, length}
use Rattle.egl_calls.specs.Errors.{is_waiting}
use Rattle.std.specs.Prelude.{slice_index}
use Rattle.std.specs.VecDeque.{deque_capacity}
use Rattle.egl_calls.specs.Calls.{CallValue, ReplyValue}
use Rattle.egl_calls.specs.Journals.{is_halt_kind}
use Rattle.turn_lock.specs.Passes.{first_of, view_of}
use Rattle.shared_driver.specs.Cores.{entry, place_for, room_for}
use Rattle.shared_driver.proofs.Owned.{halted_more, halted_same, or_false}
use Rattle.shared_driver.proofs.LateTurns.{adds_with}
use Rattle.shared_driver.proofs.Turning.{adds_goes, adds_mine, after, enough_back, keeps_ends, keeps_learns, keeps_mine, kept_rooms, lent_begun, many_kept, many_now, room_back, room_found, room_kept, room_now, upload_found}
use Rattle.shared_driver.proofs.tokens.Shared.begin.Goals as goal

pub begin-requires-clause-upload : goal.begin-requires-clause-upload
begin-requires-clause-upload g c =
    let t = c.args.thread.now in
    let h = t.hold in
    let f = (first_of c.args.self.now.turns).value in
    let u = c.begin_turn-held.new.hold in
    let z = c.core_of-core.result.now in
    let b = lent_begun f h u c.begin_turn-held.result.value z c.core_of-core.ensures.value c.begin_turn-held.ensures.begun in
    upload_found f h u z c.args.call c.upload_of-upload.result b c.upload_of-upload.ensures

pub end_turn_with-requires-clause-ends : goal.end_turn_with-requires-clause-ends
end_turn_with-requires-clause-ends g c =
    let t = c.args.thread.now in
    let h = t.hold in
    let f = (first_of c.args.self.now.turns).value in
    let u = c.begin_turn-held.new.hold in
    let z = c.core_of-core.result.now in
    let b = lent_begun f h u c.begin_turn-held.result.value z c.core_of-core.ensures.value c.begin_turn-held.ensures.begun in
    let p = c.in-Ok.ensures in
    adds_with f h u _ z c.begin.new.self c.args.mark c.args.call c.in-Ok.field-0.reply _ c.in-Ok.field-0.drawing b refl refl p.tail p.reply p.left p.added p.rooms p.owed p.spare p.live (enough_back _ _ _ _ b.room)

pub end_turn-requires-clause-ends : goal.end_turn-requires-clause-ends
end_turn-requires-clause-ends g c =
    let t = c.args.thread.now in
    let h = t.hold in
    let f = (first_of c.args.self.now.turns).value in
    let u = c.begin_turn-held.new.hold in
    let z = c.core_of-core.result.now in
    let b = lent_begun f h u c.begin_turn-held.result.value z c.core_of-core.ensures.value c.begin_turn-held.ensures.begun in
    let p = c.in-Err.ensures in
    keeps_ends f h u _ z c.begin.new.self b refl refl p.err.3 p.err.0 p.err.1 (ap (λ r. r.items) p.err.2) p.owed p.spare p.live

pub invariant_of-thread : goal.invariant_of-thread
invariant_of-thread g c =
    let t = c.args.thread.now in
    let h = t.hold in
    let f = (first_of c.args.self.now.turns).value in
    let u = c.begin_turn-held.new.hold in
    let z = c.core_of-core.result.now in
    let b = lent_begun f h u c.begin_turn-held.result.value z c.core_of-core.ensures.value c.begin_turn-held.ensures.begun in
    let w = c.end_turn_with.new.hold in
    let k = c.end_turn_with.ensures.holds in
    let y = c.begin.new.self in
    let p = c.in-Ok.ensures in
    let a = after f h u u w z y _ b refl c.end_turn_with.ensures.view p.rooms in
    let none : w.tail.items ≡ [] = ap (λ q. q.items) c.end_turn_with.ensures.kept.1 ∙ p.tail in
    let goes = adds_goes f h u w z y _ c.args.mark c.args.call c.in-Ok.field-0.reply b a none p.added in
    let waits : c.is_waiting-thread.result ≡ is_waiting c.in-Ok.field-0.reply.outcome = c.is_waiting-thread.ensures ∙ ap (λ (r : ReplyValue). is_waiting r.outcome) c.reply.view_is in
    record {
      free = k.free;
      numbered = k.numbered;
      few = k.few;
      sides = k.sides;
      legal = k.legal;
      local = k.local;
      part = k.part;
      room = room_now (room_for t.halt_used) 256 (place_for c.is_waiting-thread.result) w _ none a.room_is
          (room_back (room_for t.halt_used) t.places (length u.tail.items) (slice_index z.rooms.items u.number) (place_for t.end_kept) (place_for (is_waiting c.in-Ok.field-0.reply.outcome)) (room_found f h u z (room_for t.halt_used) t.places (place_for t.end_kept) b t.room) (ap place_for c.requires.owns.1) (omega (arith, t.many))
          ∙ ap (λ (q : Bool). room_for t.halt_used + 256 + place_for q) (sym waits));
      used = λ e. c.either-thread.ensures ∙ ap (λ x. x || c.is_halt-halts.result) (t.used e);
      many = many_now 256 w none (omega arith);
      spare = subst (λ n. 256 ≤ n) (sym (ap (λ q. deque_capacity q) c.end_turn_with.ensures.kept.1 ∙ p.capacity ∙ ap (λ q. deque_capacity q) b.same_tail)) t.spare;
      halts = c.either-thread.ensures ∙ halted_more (view_of h.pass).number (view_of w.pass).number ((view_of h.pass).seen ++ h.tail.items) ((view_of w.pass).seen ++ w.tail.items) (entry (view_of h.pass).number c.args.mark c.args.call c.in-Ok.field-0.reply ∷ []) t.halted c.is_halt-halts.result a.number t.halts (adds_mine h w c.args.mark c.args.call c.in-Ok.field-0.reply a.number goes) (or_false (is_halt_kind c.args.call.kind) ∙ sym (c.is_halt-halts.ensures ∙ ap (λ (m : CallValue). is_halt_kind m.kind) c.call.view_is));
      counted = λ s. a.sole (t.counted s);
    }

pub invariant_of-thread-in-Err : goal.invariant_of-thread-in-Err
invariant_of-thread-in-Err g c =
    let t = c.args.thread.now in
    let h = t.hold in
    let f = (first_of c.args.self.now.turns).value in
    let u = c.begin_turn-held.new.hold in
    let z = c.core_of-core.result.now in
    let b = lent_begun f h u c.begin_turn-held.result.value z c.core_of-core.ensures.value c.begin_turn-held.ensures.begun in
    let w = c.end_turn.new.hold in
    let k = c.end_turn.ensures.holds in
    let y = c.begin.new.self in
    let p = c.in-Err.ensures in
    let a = after f h u u w z y _ b refl c.end_turn.ensures.view (kept_rooms f h u z y b (ap (λ r. r.items) p.err.2)) in
    let left : w.tail.items ≡ u.tail.items = ap (λ q. q.items) c.end_turn.ensures.kept.1 ∙ p.err.3 in
    let learns = keeps_learns f h u w z y _ b a left p.err.1 in
    record {
      free = k.free;
      numbered = k.numbered;
      few = k.few;
      sides = k.sides;
      legal = k.legal;
      local = k.local;
      part = k.part;
      room = room_kept (room_for t.halt_used) t.places (place_for t.end_kept) u w _ left a.room_is (room_found f h u z (room_for t.halt_used) t.places (place_for t.end_kept) b t.room);
      used = t.used;
      many = many_kept t.places h w (left ∙ ap (λ q. q.items) b.same_tail) t.many;
      spare = subst (λ n. 256 ≤ n) (sym (ap (λ q. deque_capacity q) c.end_turn.ensures.kept.1 ∙ p.capacity ∙ ap (λ q. deque_capacity q) b.same_tail)) t.spare;
      halts = halted_same (view_of h.pass).number (view_of w.pass).number ((view_of h.pass).seen ++ h.tail.items) ((view_of w.pass).seen ++ w.tail.items) t.halted a.number t.halts (keeps_mine h w a.number learns);
      counted = λ s. a.sole (t.counted s);
    }

pub returns-in-Ok-clause-mine : goal.returns-in-Ok-clause-mine
returns-in-Ok-clause-mine g c =
    let t = c.args.thread.now in
    let h = t.hold in
    let f = (first_of c.args.self.now.turns).value in
    let u = c.begin_turn-held.new.hold in
    let z = c.core_of-core.result.now in
    let b = lent_begun f h u c.begin_turn-held.result.value z c.core_of-core.ensures.value c.begin_turn-held.ensures.begun in
    let w = c.end_turn_with.new.hold in
    let p = c.in-Ok.ensures in
    let a = after f h u u w z c.begin.new.self _ b refl c.end_turn_with.ensures.view p.rooms in
    adds_mine h w c.args.mark c.args.call c.in-Ok.field-0.reply a.number (adds_goes f h u w z c.begin.new.self _ c.args.mark c.args.call c.in-Ok.field-0.reply b a (ap (λ q. q.items) c.end_turn_with.ensures.kept.1 ∙ p.tail) p.added)

pub returns-in-Err-clause-err_mine : goal.returns-in-Err-clause-err_mine
returns-in-Err-clause-err_mine g c =
    let t = c.args.thread.now in
    let h = t.hold in
    let f = (first_of c.args.self.now.turns).value in
    let u = c.begin_turn-held.new.hold in
    let z = c.core_of-core.result.now in
    let b = lent_begun f h u c.begin_turn-held.result.value z c.core_of-core.ensures.value c.begin_turn-held.ensures.begun in
    let w = c.end_turn.new.hold in
    let p = c.in-Err.ensures in
    let a = after f h u u w z c.begin.new.self _ b refl c.end_turn.ensures.view (kept_rooms f h u z c.begin.new.self b (ap (λ r. r.items) p.err.2)) in
    keeps_mine h w a.number (keeps_learns f h u w z c.begin.new.self _ b a (ap (λ q. q.items) c.end_turn.ensures.kept.1 ∙ p.err.3) p.err.1)
