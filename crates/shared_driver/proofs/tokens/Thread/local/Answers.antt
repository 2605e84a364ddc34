use Rattle.std.proofs.Common.{◌≡◌, ◌≤◌, ◌+◌, ◌-◌, ◌++◌, ◌∙◌, true, false, List, Some, IfSome, ap, refl, sym, subst, length}
use Rattle.std.specs.Prelude.{slice_index}
use Rattle.std.proofs.lemmas.Bool.{and_parts}
use Rattle.egl_calls.specs.declared.entries.Entry.{Entry}
use Rattle.egl_model.specs.History.{replay_from}
use Rattle.model_laws.specs.Local.{is_local}
use Rattle.model_laws.proofs.Parts.OwnedPixels.{draw_owned}
use Rattle.egl_model.specs.Parts.{Private, part_of}
use Rattle.egl_model.specs.Step.{step}
use Rattle.turn_lock.specs.Passes.{view_of}
use Rattle.shared_driver.specs.Cores.{IsLegalAt, are_local, entry, has_halted, part_after, place_for, room_for, start_in}
use Rattle.shared_driver.proofs.Histories.{ready_replay}
use Rattle.shared_driver.proofs.OwnCalls.{free_place, halted_then, legal_then, local_then, many_then, never_halts, part_then, ready_start, room_then}
use Rattle.shared_driver.proofs.Turning.{some_of}
use Rattle.shared_driver.proofs.tokens.Thread.local.Goals as goal

pub invariant_of-self-2 : goal.invariant_of-self-2
invariant_of-self-2 c =
    let t = c.args.self.now in
    let h = t.hold in
    let v = view_of h.pass in
    let o = start_in v.first in
    let n = h.number in
    let tail = h.tail.items in
    let s = replay_from o (v.seen ++ tail) in
    let e : Entry = entry n c.args.mark c.args.call c.in_ok-reply.field-0.copy in
    let old : c.in-Some.part ≡ part_of s n = ap (some_of c.in-Some.part) (sym c.in-Some.is ∙ t.part) in
    let told = c.in_ok-reply.ensures.step s n (ready_replay o n (v.seen ++ tail) (ready_start v.first n t.sides t.few)) old in
    let items = c.push_back_reserved.ensures.items in
    let may = and_parts _ _ c.requires.local in
    let local : is_local (part_of s n) c.args.call ≡ true = subst (λ k. is_local (part_of s k) c.args.call ≡ true) (sym t.numbered) may.0 in
    let free = free_place t.places may.1 in
    let own = slice_index v.rooms v.number in
    record {
      free = t.free;
      numbered = t.numbered;
      few = t.few;
      sides = t.sides;
      legal = subst (λ (l : List Entry). IsLegalAt o (v.seen ++ l)) (sym items) (legal_then o v.seen tail e t.legal (c.in_ok-reply.field-0.same ∙ told.0));
      local = subst (λ (l : List Entry). are_local (replay_from o v.seen) n l ≡ true) (sym items) (local_then o n v.seen tail e t.local refl local);
      part = ap (λ (p : Private). Some p) (told.1 ∙ part_then o n v.seen tail e refl) ∙ ap (λ (l : List Entry). Some (part_after o n (v.seen ++ l))) (sym items);
      room = room_then (room_for t.halt_used) t.places own (place_for t.end_kept) tail e free t.room ∙ ap (λ (l : List Entry). room_for t.halt_used + (t.places - 1) + length l + place_for t.end_kept) (sym items);
      used = t.used;
      many = subst (λ (l : List Entry). (t.places - 1) + length l ≤ 256) (sym items) (many_then t.places 256 tail e free t.many);
      spare = subst (λ k. 256 ≤ k) (sym c.push_back_reserved.ensures.capacity) t.spare;
      halts = halted_then v.number v.seen tail e t.halted t.halts t.numbered (never_halts (part_of s n) c.args.call.kind local) ∙ ap (λ (l : List Entry). has_halted v.number (v.seen ++ l)) (sym items);
      counted = t.counted;
    }

pub returns-clause-reply : goal.returns-clause-reply
returns-clause-reply c =
    let t = c.args.self.now in
    let h = t.hold in
    let v = view_of h.pass in
    let o = start_in v.first in
    let n = h.number in
    let s = replay_from o (v.seen ++ h.tail.items) in
    let old : c.in-Some.part ≡ part_of s n = ap (some_of c.in-Some.part) (sym c.in-Some.is ∙ t.part) in
    (c.in_ok-reply.ensures.step s n (ready_replay o n (v.seen ++ h.tail.items) (ready_start v.first n t.sides t.few)) old).0 ∙ ap (λ k. (step s k c.args.call).reply) t.numbered

-- a surface's pixels are its own
pub returns-in_err-reply-clause-clears : goal.returns-in_err-reply-clause-clears
returns-in_err-reply-clause-clears c kind =
    let t = c.args.self.now in
    let h = t.hold in
    let v = view_of h.pass in
    let o = start_in v.first in
    let n = h.number in
    let s = replay_from o (v.seen ++ h.tail.items) in
    let old : c.in-Some.part ≡ part_of s n = ap (some_of c.in-Some.part) (sym c.in-Some.is ∙ t.part) in
    let owned = subst (λ (p : Private). IfSome p.own.draw (λ i. i.owned ≡ true)) (sym old) (draw_owned s n (ready_replay o n (v.seen ++ h.tail.items) (ready_start v.first n t.sides t.few))) in
    absurd (let e : false ≡ true = c.in_err-reply.ensures.room kind owned in cc)
