-- All references of a state, each with what refers and what the object is to it.
use Rattle.std.specs.Prelude.{ℕ, ◌+◌, ◌==◌, Bool, true, false, List, [], ◌∷◌, ◌++◌, map, Option, None, Some}
use Rattle.std.specs.List.{filter}
use Rattle.std.specs.Option.{option_map}
use Rattle.display_table.specs.declared.handles.Handle.{Handle}
use Rattle.driver_objects.specs.declared.objects.Object.{Object}
use Rattle.driver_objects.specs.declared.objects.Object.TheVariants.{Context, Group, Texture, Buffer, Renderbuffer, Framebuffer, Surface, Storage, Image, Sync}
use Rattle.driver_objects.specs.declared.targets.BindTarget.TheVariants.{Texture as texture_2d, ArrayBuffer as array_buffer, ElementArrayBuffer as element_array_buffer, Renderbuffer as renderbuffer, Framebuffer as framebuffer}
use Rattle.framebuffer_objects.specs.Framebuffers.{object_of}
use Rattle.framebuffer_objects.specs.declared.points.Point.TheVariants.{Color, Depth, Stencil}
use Rattle.share_group.specs.Groups.{edges_of as named_objects}
use Rattle.egl_model.specs.declared.records.Bound.{Bound}
use Rattle.egl_model.specs.declared.records.ThreadRecord.{ThreadRecord}
use Rattle.egl_model.specs.State.{State}
use Rattle.egl_explain.specs.declared.references.Holder.{Holder}
use Rattle.egl_explain.specs.declared.references.Holder.TheVariants.{Handle as by_handle, Thread as by_thread, Object as by_object}
use Rattle.egl_explain.specs.declared.references.ObjectReference.{ObjectReference}
use Rattle.egl_explain.specs.declared.references.LinkRole.TheVariants.{Group as its_group, OwnTexture, Bound as BoundTo, Named, Level, Pixels, Attached}
use Rattle.egl_explain.specs.declared.references.Use.TheVariants.{Current, Draw, Read, Wait}

-- a reference, where it leads to an object
abbrev pub to : Holder → Option ℕ → List ObjectReference
to h None = []
to h (Some n) = record { holder = h; object = n } ∷ []

abbrev pub bound_to : Option Bound → Option ℕ
bound_to b = option_map (λ x. x.object) b

-- that of a valid handle
abbrev pub handle_reference : Handle → ObjectReference
handle_reference h = record { holder = by_handle h.number h.display; object = h.object }

-- those of a thread: to its current context, to the surfaces that it draws to and reads from, and to the sync that it waits for
abbrev pub record_references : ℕ → ThreadRecord → List ObjectReference
record_references t r =
    to (by_thread t Current) (bound_to r.context)
    ++ (to (by_thread t Draw) (bound_to r.draw) ++ (to (by_thread t Read) (bound_to r.read) ++ to (by_thread t Wait) r.wait))

-- those of threads, from number t on
unfoldable pub thread_references : ℕ → List ThreadRecord → List ObjectReference
thread_references t [] = []
thread_references t (r ∷ rs) = record_references t r ++ thread_references (t + 1) rs

-- those of the levels of the texture n, from level i on
abbrev pub level_references : ℕ → ℕ → List (Option ℕ) → List ObjectReference
level_references n i [] = []
level_references n i (x ∷ xs) = to (by_object n (Level i)) x ++ level_references n (i + 1) xs

-- that of a name of the group n
abbrev pub name_reference : ℕ → ℕ → ObjectReference
name_reference n object = record { holder = by_object n Named; object = object }

-- those of the object n: a context's share group, its own texture and what it has bound; what has a name in a group; the pixels of a texture's levels, of a renderbuffer, a surface and an image; what is attached to a framebuffer
abbrev pub references_of : ℕ → Object → List ObjectReference
references_of n (Context c) =
    to (by_object n its_group) (Some c.group)
    ++ (to (by_object n OwnTexture) (Some c.texture)
    ++ (to (by_object n (BoundTo texture_2d)) c.bound.texture
    ++ (to (by_object n (BoundTo array_buffer)) c.bound.array_buffer
    ++ (to (by_object n (BoundTo element_array_buffer)) c.bound.element_array_buffer
    ++ (to (by_object n (BoundTo renderbuffer)) c.bound.renderbuffer ++ to (by_object n (BoundTo framebuffer)) c.bound.framebuffer)))))
references_of n (Group g) = map (name_reference n) (named_objects g)
references_of n (Texture x) = level_references n 0 x.levels
references_of n (Buffer x) = []
references_of n (Renderbuffer x) = to (by_object n Pixels) x.storage
references_of n (Framebuffer x) =
    to (by_object n (Attached Color)) (object_of x.color)
    ++ (to (by_object n (Attached Depth)) (object_of x.depth) ++ to (by_object n (Attached Stencil)) (object_of x.stencil))
references_of n (Surface x) = to (by_object n Pixels) (Some x.storage)
references_of n (Storage x) = []
references_of n (Image x) = to (by_object n Pixels) (Some x.storage)
references_of n (Sync x) = []

-- those of a place of the table
abbrev pub references_at : ℕ → Option Object → List ObjectReference
references_at n None = []
references_at n (Some x) = references_of n x

-- those of objects, from number n on
unfoldable pub object_references : ℕ → List (Option Object) → List ObjectReference
object_references n [] = []
object_references n (o ∷ os) = references_at n o ++ object_references (n + 1) os

-- all of a state
unfoldable pub references_in : State → List ObjectReference
references_in s = map handle_reference s.handles ++ (thread_references 0 s.threads ++ object_references 0 s.objects)

-- what refers to the object n
abbrev pub holders_of : ℕ → List ObjectReference → List Holder
holders_of n rs = map (λ r. r.holder) (filter (λ r. r.object == n) rs)

-- where those of some holders lead
abbrev pub targets : (Holder → Bool) → List ObjectReference → List ℕ
targets p rs = map (λ r. r.object) (filter (λ r. p r.holder) rs)

-- a handle or a thread
abbrev pub is_outside : Holder → Bool
is_outside (by_handle number display) = true
is_outside (by_thread t u) = true
is_outside (by_object n role) = false

abbrev pub is_object : ℕ → Holder → Bool
is_object n (by_handle number display) = false
is_object n (by_thread t u) = false
is_object n (by_object m role) = m == n
