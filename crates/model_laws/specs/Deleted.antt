-- What is left of an object's bindings and attachments where its name is deleted.
use Rattle.std.specs.Prelude.{◌≡◌, ◌≢◌, ℕ, ℤ, Bool, true, false, Contains, List, Option, Some}
use Rattle.std.specs.Option.{option_and_then}
use Rattle.egl_calls.specs.Calls.{CallValue}
use Rattle.egl_calls.specs.Ranges.{unsigned}
use Rattle.driver_objects.specs.declared.contexts.Context.{Context}
use Rattle.driver_objects.specs.declared.objects.Object.{Object}
use Rattle.framebuffer_objects.specs.Framebuffers.{FramebufferValue, at_point, object_of}
use Rattle.framebuffer_objects.specs.declared.framebuffers.Attached.{Attached}
use Rattle.framebuffer_objects.specs.declared.points.Point.{Point}
use Rattle.share_group.specs.declared.names.NameKind.{NameKind}
use Rattle.share_group.specs.declared.names.NameKind.TheVariants.{Texture, Buffer, Renderbuffer, Framebuffer}
use Rattle.egl_model.specs.Names.{group_of, object_named}
use Rattle.egl_model.specs.Objects.{framebuffer_in}
use Rattle.egl_model.specs.State.{State}

-- a context has no object of this number bound where names of a kind are bound
abbrev pub HasUnbound : NameKind → ℕ → Context → Type 0
HasUnbound Texture x c = c.bound.texture ≢ Some x
HasUnbound Buffer x c = (c.bound.array_buffer ≢ Some x) × (c.bound.element_array_buffer ≢ Some x)
HasUnbound Renderbuffer x c = c.bound.renderbuffer ≢ Some x
HasUnbound Framebuffer x c = c.bound.framebuffer ≢ Some x

-- an object has one of the names of a kind that a call is given
abbrev pub IsNamedBy : NameKind → State → ℕ → CallValue → ℕ → Type 0
IsNamedBy k s n c x = (v : ℤ) × Contains c.list v × (object_named s (group_of s n) k (unsigned v) ≡ Some x)

-- objects with names of this kind are attached to framebuffers
abbrev pub is_attachable : NameKind → Bool
is_attachable Texture = true
is_attachable Renderbuffer = true
is_attachable k = false

-- a framebuffer has no object of this number attached
abbrev pub HasDetached : ℕ → FramebufferValue → Type 0
HasDetached x f = (p : Point) → object_of (at_point p f) ≢ Some x

-- what is attached at a point of the framebuffer of a number
abbrev pub attached_at : List (Option Object) → ℕ → Point → Option Attached
attached_at os m p = option_and_then (at_point p) (framebuffer_in os m)
