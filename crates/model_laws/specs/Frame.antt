-- What the laws of frame and of late entry say.
use Rattle.egl_calls.specs.Calls.{CallValue, ReplyValue}
use Rattle.egl_calls.specs.declared.entries.Entry.{Entry}
use Rattle.std.specs.Prelude.{◌≡◌, ◌≢◌, ℕ, ◌<◌, Bool, true, length, List, [], ◌∷◌}
use Rattle.egl_model.specs.State.{State}
use Rattle.model_laws.specs.Local.{Locally}
use Rattle.egl_model.specs.Parts.{put_own}
use Rattle.model_laws.specs.Sound.{IsSound}
use Rattle.egl_model.specs.Step.{Stepped, step}

-- a step, with w made of its new state
abbrev pub moved_step : (State → State) → Stepped → Stepped
moved_step w r = record r { state = w r.state }

-- a thread that isn't among these
abbrev pub IsNone : ℕ → List ℕ → Type 0
IsNone u [] = Unit {0}
IsNone u (t ∷ ts) = (t ≢ u) × IsNone u ts

-- a sound state with a record for thread t
pub record IsReady (s : State) (t : ℕ) : Type 0 where
  pub sound : IsSound s
  pub thread : t < length s.threads

-- the step that a local call of thread t is
abbrev pub as_step : State → ℕ → Locally → Stepped
as_step s t f = record { reply = f.reply; state = put_own s t f.own }

-- ---- Lists of entries.
abbrev pub AreOf : ℕ → List Entry → Type 0
AreOf t [] = Unit {0}
AreOf t (e ∷ es) = (e.thread ≡ t) × AreOf t es

abbrev pub AreOfOthers : ℕ → List Entry → Type 0
AreOfOthers t [] = Unit {0}
AreOfOthers t (e ∷ es) = (t ≢ e.thread) × AreOfOthers t es

module _ {P : Type 0} (part_of : State → ℕ → P) (is_local : P → CallValue → Bool) where
  -- each entry is local at its place
  abbrev pub AreLocalFrom : State → ℕ → List Entry → Type 0
  AreLocalFrom s t [] = Unit {0}
  AreLocalFrom s t (e ∷ es) = (is_local (part_of s t) e.call ≡ true) × AreLocalFrom (step s e.thread e.call).state t es

  -- The laws of frame, for parts of any kind. Nothing else is asked for where entries come late
  pub record HasFrame (answer : P → CallValue → ReplyValue) (after : P → CallValue → P) (Ready : State → ℕ → Type 0) : Type 0 where
    pub ready : (s : State) (t u : ℕ) (c : CallValue) → Ready s t → Ready (step s u c).state t
    -- a step of another thread keeps the part
    pub other : (s : State) (t u : ℕ) (c : CallValue) → Ready s t → t ≢ u → part_of (step s u c).state t ≡ part_of s t
    -- the reply to a local call, and the part after it, depend on the part and the call alone
    pub reply : (s : State) (t : ℕ) (c : CallValue) → Ready s t → is_local (part_of s t) c ≡ true → (step s t c).reply ≡ answer (part_of s t) c
    pub part : (s : State) (t : ℕ) (c : CallValue) → Ready s t → is_local (part_of s t) c ≡ true → part_of (step s t c).state t ≡ after (part_of s t) c
