-- Handles that are made (EGL 1.5, sections 3.5.2, 3.7.1 and 3.9).
use Rattle.std.specs.Prelude.{◌≡◌, ◌+◌, ◌≤◌, ℕ, [], ◌∷◌, ◌++◌, length, Some}
use Rattle.display_table.specs.declared.handles.Handle.{Handle}
use Rattle.display_table.specs.declared.handles.HandleKind.{HandleKind}
use Rattle.display_table.specs.declared.handles.HandleKind.TheVariants.{Image}
use Rattle.egl_model.specs.Objects.{egl_image_in}
use Rattle.egl_model.specs.State.{State}
use Rattle.model_laws.specs.Kinds.{IsA, named_kind}

-- h is the one handle more: it stands behind those of before, has the next number, and names an object of its kind, whose number no object had before
pub record IsNewHandle (before after : State) (display : ℕ) (kind : HandleKind) (h : Handle) : Type 0 where
  pub last : after.handles ≡ before.handles ++ h ∷ []
  pub has_number : h.number ≡ before.next_handle
  pub on_display : h.display ≡ display
  pub of_kind : h.kind ≡ kind
  pub object : IsA (named_kind kind) after h.object
  pub fresh : length before.objects ≤ h.object

-- a call has made one handle, of a display and of a kind
pub record HasNewHandle (before after : State) (display : ℕ) (kind : HandleKind) : Type 0 where
  pub handle : (h : Handle) × IsNewHandle before after display kind h
  pub next : after.next_handle ≡ before.next_handle + 1

-- a call has made one handle of an image, which is of a storage
pub record HasNewImage (before after : State) (display storage : ℕ) : Type 0 where
  pub handle : (h : Handle) × IsNewHandle before after display Image h × (egl_image_in after.objects h.object ≡ Some (record { storage = storage }))
