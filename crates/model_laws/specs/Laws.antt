-- What is true of each sweep and each step.
use Rattle.std.specs.Prelude.{◌≡◌, ℕ, ◌<◌, ◌≤◌, ◌⊎◌, true, false, length, All, Contains, None, Some}
use Rattle.std.specs.Option.{option_map}
use Rattle.egl_calls.specs.Calls.{CallValue}
use Rattle.egl_calls.specs.declared.kinds.Kind.TheVariants.{Egl, Gl}
use Rattle.egl_calls.specs.declared.kinds.EglKind.{EglKind}
use Rattle.egl_calls.specs.declared.kinds.GlKind.{GlKind}
use Rattle.egl_calls.specs.declared.errors.EglError.{EglError}
use Rattle.egl_calls.specs.declared.errors.GlError.{GlError}
use Rattle.driver_objects.specs.Objects.{kind_of}
use Rattle.display_table.specs.declared.handles.Handle.{Handle}
use Rattle.egl_model.specs.State.{State, has_object, object_at, record_of}
use Rattle.egl_model.specs.Currents.{current_context}
use Rattle.egl_model.specs.Sweep.{is_reached}
use Rattle.egl_model.specs.EglCalls.{egl_refusal}
use Rattle.egl_model.specs.GlCalls.{gl_refusal}

-- each object that exists is reached by a chain of references
pub record HasNoLitter (s : State) : Type 0 where
  pub each : (n : ℕ) → has_object s n ≡ true → is_reached s n ≡ true

-- thread t makes a call of EGL of this kind, and no wait holds it up
pub record IsEglCall (s : State) (t : ℕ) (k : EglKind) (c : CallValue) : Type 0 where
  pub kind : c.kind ≡ Egl k
  pub goes : (record_of s t).wait ≡ None

-- the same, and no rule refuses it
pub record IsAllowedEgl (s : State) (t : ℕ) (k : EglKind) (c : CallValue) : Type 0 where
  pub call : IsEglCall s t k c
  pub allowed : egl_refusal s t k c ≡ None

-- thread t makes a call of OpenGL ES of this kind, and no wait holds it up
pub record IsGlCall (s : State) (t : ℕ) (k : GlKind) (c : CallValue) : Type 0 where
  pub kind : c.kind ≡ Gl k
  pub goes : (record_of s t).wait ≡ None

-- the same, and a rule refuses it with this error
pub record IsRefusedEgl (s : State) (t : ℕ) (k : EglKind) (c : CallValue) (e : EglError) : Type 0 where
  pub call : IsEglCall s t k c
  pub refused : egl_refusal s t k c ≡ Some e

-- the same, with context n current
pub record IsRefusedGl (s : State) (t n : ℕ) (k : GlKind) (c : CallValue) (e : GlError) : Type 0 where
  pub call : IsGlCall s t k c
  pub current : current_context s t ≡ Some n
  pub refused : gl_refusal s t n k c ≡ Some e

-- and one that no rule refuses, with context n current
pub record IsAllowedGl (s : State) (t n : ℕ) (k : GlKind) (c : CallValue) : Type 0 where
  pub call : IsGlCall s t k c
  pub current : current_context s t ≡ Some n
  pub allowed : gl_refusal s t n k c ≡ None

-- a handle that was valid before, or one whose number no handle had before
abbrev pub IsKnownOrNew : State → State → Handle → Type 0
IsKnownOrNew before after h = Contains before.handles h ⊎ ((before.next_handle ≤ h.number) × (h.number < after.next_handle))

-- each handle that was valid still is
abbrev pub StayValid : State → State → Type 0
StayValid before after = (h : Handle) → Contains before.handles h → Contains after.handles h

-- the number for the next handle never falls, and each new handle has a number from it on: so no number is given twice
pub record HandlesAreNew (before after : State) : Type 0 where
  pub rises : before.next_handle ≤ after.next_handle
  pub each : All (IsKnownOrNew before after) after.handles

-- places for objects are only added, and one that is empty stays empty: so no number is given twice; and an object that stays is of the kind that it was
pub record ObjectsAreNew (before after : State) : Type 0 where
  pub rises : length before.objects ≤ length after.objects
  pub each : (n : ℕ) → n < length before.objects → has_object before n ≡ false → has_object after n ≡ false
  pub kinds : (n : ℕ) → has_object before n ≡ true → has_object after n ≡ true → option_map kind_of (object_at after n) ≡ option_map kind_of (object_at before n)
