-- Swaps, and what windows show (EGL 1.5, section 3.10.1).
use Rattle.std.specs.Prelude.{◌≡◌, ℕ, pos, [], List, map, Some}
use Rattle.egl_calls.specs.Calls.{CallValue}
use Rattle.egl_calls.specs.declared.kinds.EglKind.TheVariants.{SwapBuffers}
use Rattle.egl_calls.specs.declared.places.TheConstants.{NAMED}
use Rattle.egl_names.specs.declared.codes.TheConstants.{EGL_SWAP_BEHAVIOR}
use Rattle.display_table.specs.declared.handles.HandleKind.TheVariants.{Surface}
use Rattle.driver_objects.specs.declared.surfaces.BackedSurface.{BackedSurface}
use Rattle.surface_store.specs.Surfaces.{value_at}
use Rattle.surface_store.specs.Windows.{WindowValue}
use Rattle.egl_model.specs.Handles.{handle_at}
use Rattle.egl_model.specs.Objects.{surface_of}
use Rattle.egl_model.specs.State.{State}
use Rattle.model_laws.specs.Laws.{IsAllowedEgl}

-- what of a window stays as long as there are windows: its id, and the format and the sides of its front
abbrev pub form_of : WindowValue → WindowValue
form_of w = record w { front = record w.front { pixels = [] } }

abbrev pub forms : List WindowValue → List WindowValue
forms ws = map form_of ws

-- thread t swaps surface x: it calls eglSwapBuffers with a handle of it, no wait holds it up, and no rule refuses it
pub record IsSwap (s : State) (t : ℕ) (c : CallValue) (x : BackedSurface) : Type 0 where
  pub allowed : IsAllowedEgl s t SwapBuffers c
  pub names : surface_of s (handle_at s c NAMED Surface) ≡ Some x

-- EGL_SWAP_BEHAVIOR of a surface (section 3.5.6)
abbrev pub HasSwapBehavior : BackedSurface → ℕ → Type 0
HasSwapBehavior x code = value_at x.surface EGL_SWAP_BEHAVIOR ≡ Some (pos code)
