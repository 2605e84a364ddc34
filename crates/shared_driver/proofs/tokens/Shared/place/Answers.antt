use Rattle.std.proofs.Common.{◌≡◌, ◌≤◌, ◌+◌, ◌-◌, ◌||◌, ◌∙◌, ◌∷◌, ◌++◌, [], arith, refl, ap, sym, subst}
use Rattle.egl_calls.specs.Errors.{is_waiting}
use Rattle.std.specs.VecDeque.{deque_capacity}
use Rattle.egl_calls.specs.Calls.{CallValue, ReplyValue}
use Rattle.egl_calls.specs.Journals.{is_halt_kind}
use Rattle.turn_lock.specs.Passes.{first_of, view_of}
use Rattle.shared_driver.specs.Cores.{entry, place_for, room_for}
use Rattle.shared_driver.proofs.Owned.{halted_more, or_false}
use Rattle.shared_driver.proofs.Turning.{adds_ends, adds_goes, adds_mine, after, enough_less, fits_place, lent_begun, many_now, room_found, room_now, room_place}
use Rattle.shared_driver.proofs.Places.{never_waits}
use Rattle.shared_driver.proofs.tokens.Shared.place.Goals as goal

pub end_turn-requires-clause-ends : goal.end_turn-requires-clause-ends
end_turn-requires-clause-ends g c =
    let t = c.args.thread.now in
    let h = t.hold in
    let f = (first_of c.args.self.now.turns).value in
    let u = c.begin_turn-held.new.hold in
    let z = c.core_of-core.result.now in
    let b = lent_begun f h u c.begin_turn-held.result.value z c.core_of-core.ensures.value c.begin_turn-held.ensures.begun in
    let p = c.add-reply.ensures in
    adds_ends f h u _ z c.add-reply.new.self c.args.mark c.args.call c.add-reply.result _ b refl refl p.tail p.reply p.driver p.added p.rooms p.owed p.spare p.live (enough_less _ _ (fits_place t.halt_used t.places _ _ (place_for t.end_kept) (room_found f h u z (room_for t.halt_used) t.places (place_for t.end_kept) b t.room) c.requires.free))

pub invariant_of-thread : goal.invariant_of-thread
invariant_of-thread g c =
    let t = c.args.thread.now in
    let h = t.hold in
    let f = (first_of c.args.self.now.turns).value in
    let u = c.begin_turn-held.new.hold in
    let z = c.core_of-core.result.now in
    let b = lent_begun f h u c.begin_turn-held.result.value z c.core_of-core.ensures.value c.begin_turn-held.ensures.begun in
    let w = c.end_turn.new.hold in
    let k = c.end_turn.ensures.holds in
    let y = c.add-reply.new.self in
    let p = c.add-reply.ensures in
    let a = after f h u u w z y _ b refl c.end_turn.ensures.view p.rooms in
    let none : w.tail.items ≡ [] = ap (λ q. q.items) c.end_turn.ensures.kept.1 ∙ p.tail in
    let goes = adds_goes f h u w z y _ c.args.mark c.args.call c.add-reply.result b a none p.added in
    record {
      free = k.free;
      numbered = k.numbered;
      few = k.few;
      sides = k.sides;
      legal = k.legal;
      local = k.local;
      part = k.part;
      room = room_now (room_for t.halt_used) (t.places - 1) (place_for t.end_kept) w _ none a.room_is (room_place (room_for t.halt_used) t.places _ _ (place_for t.end_kept) (room_found f h u z (room_for t.halt_used) t.places (place_for t.end_kept) b t.room) c.requires.free);
      used = λ e. c.either-thread.ensures ∙ ap (λ x. x || c.is_halt-halts.result) (t.used e);
      many = many_now (t.places - 1) w none (omega (arith, t.many));
      spare = subst (λ n. 256 ≤ n) (sym (ap (λ q. deque_capacity q) c.end_turn.ensures.kept.1 ∙ p.capacity ∙ ap (λ q. deque_capacity q) b.same_tail)) t.spare;
      halts = c.either-thread.ensures ∙ halted_more (view_of h.pass).number (view_of w.pass).number ((view_of h.pass).seen ++ h.tail.items) ((view_of w.pass).seen ++ w.tail.items) (entry (view_of h.pass).number c.args.mark c.args.call c.add-reply.result ∷ []) t.halted c.is_halt-halts.result a.number t.halts (adds_mine h w c.args.mark c.args.call c.add-reply.result a.number goes) (or_false (is_halt_kind c.args.call.kind) ∙ sym (c.is_halt-halts.ensures ∙ ap (λ (m : CallValue). is_halt_kind m.kind) c.call.view_is));
      counted = λ s. a.sole (t.counted s);
    }

pub returns-clause-answers : goal.returns-clause-answers
returns-clause-answers g c =
    let t = c.args.thread.now in
    let h = t.hold in
    let f = (first_of c.args.self.now.turns).value in
    let u = c.begin_turn-held.new.hold in
    let z = c.core_of-core.result.now in
    let b = lent_begun f h u c.begin_turn-held.result.value z c.core_of-core.ensures.value c.begin_turn-held.ensures.begun in
    let w = c.end_turn.new.hold in
    let p = c.add-reply.ensures in
    let a = after f h u u w z c.add-reply.new.self _ b refl c.end_turn.ensures.view p.rooms in
    let goes = adds_goes f h u w z c.add-reply.new.self _ c.args.mark c.args.call c.add-reply.result b a (ap (λ q. q.items) c.end_turn.ensures.kept.1 ∙ p.tail) p.added in
    (ap (λ (r : ReplyValue). is_waiting r.outcome) p.reply ∙ never_waits z.driver.state u.number c.args.call c.requires.kind, goes, adds_mine h w c.args.mark c.args.call c.add-reply.result a.number goes)

pub add-reply-requires-clause-room : goal.add-reply-requires-clause-room
add-reply-requires-clause-room g c =
    let t = c.args.thread.now in
    let h = t.hold in
    let f = (first_of c.args.self.now.turns).value in
    let u = c.begin_turn-held.new.hold in
    let z = c.core_of-core.result.now in
    let b = lent_begun f h u c.begin_turn-held.result.value z c.core_of-core.ensures.value c.begin_turn-held.ensures.begun in
    fits_place t.halt_used t.places _ _ (place_for t.end_kept) (room_found f h u z (room_for t.halt_used) t.places (place_for t.end_kept) b t.room) c.requires.free
