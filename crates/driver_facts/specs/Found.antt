-- What was looked up of a call is what the state has.
use Rattle.std.specs.Prelude.{◌≡◌, ℕ, Option, IfSome}
use Rattle.std.specs.Option.{option_and_then}
use Rattle.egl_calls.specs.Calls.{CallValue}
use Rattle.egl_calls.specs.declared.places.TheConstants.{CLIENT_BUFFER, NAMED}
use Rattle.egl_model.specs.Arguments.{number}
use Rattle.egl_model.specs.Handles.{handle_at}
use Rattle.egl_model.specs.Images.{source_context, source_kind}
use Rattle.egl_model.specs.MakeCurrent.{context_handle, draw_handle, read_handle}
use Rattle.egl_model.specs.Names.{group_of, object_named}
use Rattle.egl_model.specs.State.{State}
use Rattle.driver_facts.specs.declared.egl_found.EglFound.{EglFound}

-- the object of which there is to be an image
abbrev pub image_source : State → CallValue → Option ℕ
image_source s c = option_and_then (λ h. object_named s (group_of s h.object) (source_kind c) (number c CLIENT_BUFFER)) (source_context s c)

pub record IsFound (s : State) (c : CallValue) (f : EglFound) : Type 0 where
  pub named : IfSome f.named (λ n. n.1 ≡ handle_at s c NAMED n.0)
  pub draw : IfSome f.draw (λ h. h ≡ draw_handle s c)
  pub read : IfSome f.read (λ h. h ≡ read_handle s c)
  pub context : IfSome f.context (λ h. h ≡ context_handle s c)
  pub source : IfSome f.source (λ o. o ≡ image_source s c)
