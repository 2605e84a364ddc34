-- Local calls of a thread may come late, from the laws of frame alone.
use Rattle.std.proofs.Common.{◌≡◌, ℕ, Bool, true, List, [], ◌∷◌, ◌++◌, refl, sym, ap, ◌∙◌}
use Rattle.egl_calls.specs.Calls.{CallValue, ReplyValue}
use Rattle.egl_calls.specs.declared.entries.Entry.{Entry}
use Rattle.egl_model.specs.State.{State}
use Rattle.egl_model.specs.Step.{step}
use Rattle.egl_model.specs.History.{replay_from, IsLegalFrom}
use Rattle.model_laws.proofs.Steps.HistoryLaws.{IsLegalFrom-append, replay_from-append}
use Rattle.model_laws.specs.Frame.{AreLocalFrom, AreOf, AreOfOthers, HasFrame}

module _ {P : Type 0} (part_of : State → ℕ → P) (is_local : P → CallValue → Bool) (answer : P → CallValue → ReplyValue) (after : P → CallValue → P) (Ready : State → ℕ → Type 0) (f : HasFrame part_of is_local answer after Ready) where
  -- entries that a part tells, and the part that they leave
  abbrev AreTold : P → List Entry → Type 0
  AreTold p [] = Unit {0}
  AreTold p (e ∷ es) = (is_local p e.call ≡ true) × (e.reply ≡ answer p e.call) × AreTold (after p e.call) es

  abbrev after_all : P → List Entry → P
  after_all p [] = p
  after_all p (e ∷ es) = after_all (after p e.call) es

  -- a step of the entry's thread, which is t
  reply_at : (s : State) (t u : ℕ) (c : CallValue) → u ≡ t → Ready s t → is_local (part_of s t) c ≡ true → (step s u c).reply ≡ answer (part_of s t) c
  reply_at s t u c e r l = ap (λ k. (step s k c).reply) e ∙ f.reply s t c r l

  part_at : (s : State) (t u : ℕ) (c : CallValue) → u ≡ t → Ready s t → is_local (part_of s t) c ≡ true → part_of (step s u c).state t ≡ after (part_of s t) c
  part_at s t u c e r l = ap (λ k. part_of (step s k c).state t) e ∙ f.part s t c r l

  told : (s : State) (t : ℕ) (es : List Entry) → Ready s t → AreOf t es → IsLegalFrom s es → AreLocalFrom part_of is_local s t es → AreTold (part_of s t) es
  told s t [] r o h l = tt
  told s t (e ∷ es) r o h l = (
    l.0,
    h.0 ∙ reply_at s t e.thread e.call o.0 r l.0,
    rw (sym (part_at s t e.thread e.call o.0 r l.0)) (told (step s e.thread e.call).state t es (f.ready s t e.thread e.call r) o.1 h.1 l.1),
  )

  legal : (s : State) (t : ℕ) (es : List Entry) → Ready s t → AreOf t es → AreTold (part_of s t) es → IsLegalFrom s es
  legal s t [] r o h = tt
  legal s t (e ∷ es) r o h = (
    h.1 ∙ sym (reply_at s t e.thread e.call o.0 r h.0),
    legal (step s e.thread e.call).state t es (f.ready s t e.thread e.call r) o.1 (rw (part_at s t e.thread e.call o.0 r h.0) h.2),
  )

  part_told : (s : State) (t : ℕ) (es : List Entry) → Ready s t → AreOf t es → AreTold (part_of s t) es → part_of (replay_from s es) t ≡ after_all (part_of s t) es
  part_told s t [] r o h = refl
  part_told s t (e ∷ es) r o h =
      part_told (step s e.thread e.call).state t es (f.ready s t e.thread e.call r) o.1 (rw (part_at s t e.thread e.call o.0 r h.0) h.2)
      ∙ ap (λ p. after_all p es) (part_at s t e.thread e.call o.0 r h.0)

  pub ready-replay : (s : State) (t : ℕ) (es : List Entry) → Ready s t → Ready (replay_from s es) t
  ready-replay s t [] r = r
  ready-replay s t (e ∷ es) r = ready-replay (step s e.thread e.call).state t es (f.ready s t e.thread e.call r)

  pub part-others : (s : State) (t : ℕ) (es : List Entry) → Ready s t → AreOfOthers t es → part_of (replay_from s es) t ≡ part_of s t
  part-others s t [] r o = refl
  part-others s t (e ∷ es) r o = part-others (step s e.thread e.call).state t es (f.ready s t e.thread e.call r) o.1 ∙ f.other s t e.thread e.call r o.0

  pub late_entry : (s : State) (t : ℕ) (others tail : List Entry) → Ready s t → AreOfOthers t others → IsLegalFrom s others → AreOf t tail → IsLegalFrom s tail → AreLocalFrom part_of is_local s t tail →
      IsLegalFrom s (others ++ tail) × (part_of (replay_from s (others ++ tail)) t ≡ part_of (replay_from s tail) t)
  late_entry s t others tail r o h w k l =
      let a = replay_from s others in
      let same = part-others s t others r o in
      let ready = ready-replay s t others r in
      let now = told s t tail r w k l in
      let then : AreTold (part_of a t) tail = rw same now in (
        IsLegalFrom-append s others tail h (legal a t tail ready w then),
        ap (λ (x : State). part_of x t) (replay_from-append s others tail) ∙ part_told a t tail ready w then ∙ ap (λ p. after_all p tail) same ∙ sym (part_told s t tail r w now),
      )

  local_told : (s : State) (t : ℕ) (es : List Entry) → Ready s t → AreOf t es → AreTold (part_of s t) es → AreLocalFrom part_of is_local s t es
  local_told s t [] r o h = tt
  local_told s t (e ∷ es) r o h =
      (h.0, local_told (step s e.thread e.call).state t es (f.ready s t e.thread e.call r) o.1 (rw (part_at s t e.thread e.call o.0 r h.0) h.2))

  -- and each is local at its late place
  pub late_local : (s : State) (t : ℕ) (others tail : List Entry) → Ready s t → AreOfOthers t others → AreOf t tail → IsLegalFrom s tail → AreLocalFrom part_of is_local s t tail → AreLocalFrom part_of is_local (replay_from s others) t tail
  late_local s t others tail r o w k l =
      local_told (replay_from s others) t tail (ready-replay s t others r) w (rw (part-others s t others r o) (told s t tail r w k l))
