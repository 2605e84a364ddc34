-- What eglMakeCurrent makes current (EGL 1.5, section 3.7.3).
use Rattle.std.specs.Prelude.{◌≡◌, ℕ, pos, false, true, [], ◌∷◌, Contains, Option, None, Some}
use Rattle.egl_calls.specs.Calls.{CallValue}
use Rattle.egl_calls.specs.declared.kinds.EglKind.TheVariants.{MakeCurrent}
use Rattle.display_table.specs.declared.handles.Handle.{Handle}
use Rattle.display_table.specs.declared.handles.HandleKind.{HandleKind}
use Rattle.egl_model.specs.declared.records.Bound.{Bound}
use Rattle.egl_model.specs.declared.records.ThreadRecord.{ThreadRecord}
use Rattle.context_state.specs.Parts.{PartValue}
use Rattle.call_rules.specs.EglRules.{is_release}
use Rattle.egl_model.specs.MakeCurrent.{context_handle}
use Rattle.egl_model.specs.State.{State}
use Rattle.model_laws.specs.Laws.{IsAllowedEgl}

-- thread t calls eglMakeCurrent, no wait holds it up, and no rule refuses it
abbrev pub IsMadeCurrent : State → ℕ → CallValue → Type 0
IsMadeCurrent s t c = IsAllowedEgl s t MakeCurrent c

-- h is a valid handle of a display, with a number and of a kind (section 2.1)
pub record IsValid (s : State) (display number : ℕ) (kind : HandleKind) (h : Handle) : Type 0 where
  pub valid : Contains s.handles h
  pub on_display : h.display ≡ display
  pub has_number : h.number ≡ number
  pub of_kind : h.kind ≡ kind

-- what such a handle names is bound, under the handle's number
abbrev pub IsBoundBy : State → ℕ → ℕ → HandleKind → Option Bound → Type 0
IsBoundBy s display number kind bound = (h : Handle) × IsValid s display number kind h × (bound ≡ Some (record { object = h.object; handle = number }))

-- a thread has no context, and no surface to draw to or to read from
pub record HasNoneCurrent (r : ThreadRecord) : Type 0 where
  pub context : r.context ≡ None
  pub draw : r.draw ≡ None
  pub read : r.read ≡ None

-- and it is given the context that a handle names
pub record IsGiven (s : State) (t : ℕ) (c : CallValue) (context : Handle) : Type 0 where
  pub made : IsMadeCurrent s t c
  pub given : is_release c ≡ false
  pub names : context_handle s c ≡ Some context

-- what a context keeps once it has been current, with a viewport and a scissor box of these sides at 0, 0
abbrev pub with_box : ℕ → ℕ → PartValue → PartValue
with_box w h p = record p { viewport = pos 0 ∷ pos 0 ∷ pos w ∷ pos h ∷ []; scissor_box = pos 0 ∷ pos 0 ∷ pos w ∷ pos h ∷ []; was_current = true }
