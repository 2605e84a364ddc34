-- A call that the thread's part alone answers.
use Rattle.std.proofs.Common.{◌≡◌, ℕ, ◌<◌, ◌≤◌, ◌+◌, ◌-◌, Bool, true, false, List, [], ◌∷◌, ◌++◌, arith, refl, sym, ap, ◌∙◌, subst, length, Some, None}
use Rattle.std.specs.Prelude.{All, nat_lt}
use Rattle.std.specs.Prelude as std
use Rattle.std.proofs.lemmas.List.{append_assoc, length-append}
use Rattle.std.specs.declared.snapshot.Snapshot.{Snapshot}
use Rattle.model_laws.specs.Full.{IsWindow}
use Rattle.egl_calls.specs.Journals.{is_halt_kind}
use Rattle.egl_calls.specs.declared.entries.Entry.{Entry}
use Rattle.egl_calls.specs.declared.kinds.Kind.{Kind}
use Rattle.egl_calls.specs.declared.kinds.Kind.TheVariants.{Egl, Gl, Own}
use Rattle.model_laws.specs.Frame.{IsReady}
use Rattle.egl_model.specs.History.{IsLegalFrom, replay_from}
use Rattle.model_laws.specs.Local.{is_local, is_local_kind}
use Rattle.egl_model.specs.Parts.{Private, part_of}
use Rattle.egl_model.specs.State.{State}
use Rattle.egl_model.specs.Step.{step}
use Rattle.model_laws.proofs.Steps.HistoryLaws.{replay_from-append}
use Rattle.shared_driver.specs.declared.cores.Core.{Core}
use Rattle.shared_driver.specs.Cores.{IsLegalAt, are_local, has_halted, of_number, part_after, start_in}
use Rattle.shared_driver.proofs.Histories.{legal_at, legal_from, legal_more, local_more, ready_at, replay_more}
use Rattle.shared_driver.proofs.Owned.{all_own, halted_more, of_number-append, or_false}

pub ready_start : (first : std.Option (Snapshot Core)) (n : ℕ) → All IsWindow (start_in first).windows → n < 65536 → IsReady (start_in first) n
ready_start None n s h = ready_at [] 0 n s h
ready_start (Some f) n s h = ready_at f.value.driver.state.windows f.value.driver.state.video n s h

pub legal_then : (o : State) (seen tail : List Entry) (e : Entry) → IsLegalAt o (seen ++ tail) → e.reply ≡ (step (replay_from o (seen ++ tail)) e.thread e.call).reply → IsLegalAt o (seen ++ (tail ++ e ∷ []))
legal_then o seen tail e h k = legal_at o (seen ++ (tail ++ e ∷ [])) (subst (IsLegalFrom o) (append_assoc seen tail (e ∷ [])) (legal_more o (seen ++ tail) e (legal_from o (seen ++ tail) h) k))

pub local_then : (o : State) (n : ℕ) (seen tail : List Entry) (e : Entry) → are_local (replay_from o seen) n tail ≡ true → e.thread ≡ n → is_local (part_of (replay_from o (seen ++ tail)) n) e.call ≡ true → are_local (replay_from o seen) n (tail ++ e ∷ []) ≡ true
local_then o n seen tail e h w l = local_more (replay_from o seen) n tail e h w (ap (λ (s : State). is_local (part_of s n) e.call) (sym (replay_from-append o seen tail)) ∙ l)

pub part_then : (o : State) (n : ℕ) (seen tail : List Entry) (e : Entry) → e.thread ≡ n → part_of (step (replay_from o (seen ++ tail)) n e.call).state n ≡ part_after o n (seen ++ (tail ++ e ∷ []))
part_then o n seen tail e w =
    sym (ap (λ (s : State). part_of s n) (ap (replay_from o) (sym (append_assoc seen tail (e ∷ []))) ∙ replay_more o (seen ++ tail) e ∙ ap (λ k. (step (replay_from o (seen ++ tail)) k e.call).state) w))

pub halted_then : (n : ℕ) (seen tail : List Entry) (e : Entry) (halted : Bool) → halted ≡ has_halted n (seen ++ tail) → e.thread ≡ n → is_halt_kind e.call.kind ≡ false → halted ≡ has_halted n (seen ++ (tail ++ e ∷ []))
halted_then n seen tail e halted h w k =
    sym (or_false halted)
    ∙ halted_more n n (seen ++ tail) (seen ++ (tail ++ e ∷ [])) (e ∷ []) halted false refl h
    (ap (of_number n) (sym (append_assoc seen tail (e ∷ []))) ∙ of_number-append n (seen ++ tail) (e ∷ []) ∙ ap (λ l. of_number n (seen ++ tail) ++ l) (all_own n (e ∷ []) (w, tt))) (or_false (is_halt_kind e.call.kind) ∙ k)

-- a local call is no Halt
pub never_halts : (p : Private) (k : Kind) → is_local_kind p k ≡ true → is_halt_kind k ≡ false
never_halts p (Egl k) h = refl
never_halts p (Gl k) h = refl
never_halts p (Own k) h = absurd (let e : false ≡ true = h in cc)

pub room_then : (a places own p : ℕ) (tail : List Entry) (e : Entry) → 0 < places → own ≡ a + places + length tail + p → own ≡ a + (places - 1) + length (tail ++ e ∷ []) + p
room_then a places own p tail e l h = let k = length-append tail (e ∷ []) in omega (arith, l, h, k)

pub many_then : (places own : ℕ) (tail : List Entry) (e : Entry) → 0 < places → places + length tail ≤ own → (places - 1) + length (tail ++ e ∷ []) ≤ own
many_then places own tail e l h = let k = length-append tail (e ∷ []) in omega (arith, l, h, k)

pub free_place : (places : ℕ) → nat_lt 0 places ≡ true → 0 < places
free_place places h = grind (arith, h)
