-- What a call reads and writes, beside what its thread has for itself: objects, and what windows show.
use Rattle.std.specs.Prelude.{ℕ, ℤ, pos, neg_ℤ, Bool, true, false, List, [], ◌∷◌, ◌++◌, map, if◌then◌else◌, is_some, option_to_list, Option, None, Some}
use Rattle.egl_calls.specs.Errors.{is_done}
use Rattle.std.specs.List.{filter_map}
use Rattle.std.specs.Option.{option_and_then, option_map_or}
use Rattle.egl_calls.specs.Calls.{CallValue}
use Rattle.egl_calls.specs.Ranges.{unsigned}
use Rattle.egl_calls.specs.declared.kinds.Kind.{Kind}
use Rattle.egl_calls.specs.declared.kinds.Kind.TheVariants.{Egl, Gl, Own}
use Rattle.egl_calls.specs.declared.kinds.EglKind.{EglKind}
use Rattle.egl_calls.specs.declared.kinds.EglKind.TheVariants.{SwapBuffers}
use Rattle.egl_calls.specs.declared.kinds.GlKind.{GlKind}
use Rattle.egl_calls.specs.declared.kinds.OwnKind.{OwnKind}
use Rattle.egl_calls.specs.declared.kinds.OwnKind.TheVariants.{ReadBuffer, ReadFront}
use Rattle.egl_calls.specs.declared.places.TheConstants.{FRONT}
use Rattle.call_table.specs.Rows.{gl_role}
use Rattle.call_table.specs.declared.roles.Role.{Role}
use Rattle.call_table.specs.declared.roles.Role.TheVariants.{Asks, Attaches, Binds, Clears, ClientWaits, Copies, CopiesPart, Creates, Deletes, Destroys, Draws, Flushes, Generates, Gets, MakesCurrent, OwnState, Plain, ReadsPixels, Releases, Rewrites, ServerWaits, Sets, Specifies, TakesImage}
use Rattle.context_state.specs.Kinds.{context_gl_call}
use Rattle.context_state.specs.Parts.{PartValue}
use Rattle.share_group.specs.declared.names.NameKind.TheVariants.{Texture as textures, Buffer as buffers, Renderbuffer as renderbuffers, Framebuffer as framebuffers}
use Rattle.framebuffer_objects.specs.Framebuffers.{object_of}
use Rattle.driver_objects.specs.Objects.{filled}
use Rattle.share_group.specs.declared.names.NameKind.{NameKind}
use Rattle.driver_objects.specs.declared.surfaces.BackedSurface.{BackedSurface}
use Rattle.egl_model.specs.Arguments.{number}
use Rattle.egl_model.specs.Currents.{bound_surface, current_context, part_of_context}
use Rattle.egl_model.specs.Buffers.{target_buffer}
use Rattle.egl_model.specs.Drawing.{clears_colour}
use Rattle.egl_model.specs.Framebuffers.{bound_framebuffer, target_framebuffer}
use Rattle.egl_model.specs.Names.{group_of, object_named}
use Rattle.egl_model.specs.Objects.{framebuffer_in, texture_in}
use Rattle.egl_model.specs.Renderbuffers.{target_renderbuffer}
use Rattle.egl_model.specs.State.{State, record_of}
use Rattle.egl_model.specs.Step.{Stepped, step}
use Rattle.egl_model.specs.Textures.{level_of, level_storage, target_texture}
use Rattle.egl_model.specs.Windows.{front_of}
use Rattle.driver_facts.specs.declared.touches.Touches.{Touches}

abbrev pub nothing : Touches
nothing = record { reads = []; writes = [] }

-- what a call touches whose role doesn't tell it: nothing can be proved of it, so no code can be proved to answer it
pub unlisted : Touches
unlisted = nothing

abbrev pub reading : List ℤ → Touches
reading xs = record { reads = xs; writes = [] }

abbrev pub writing : List ℤ → Touches
writing xs = record { reads = []; writes = xs }

-- an object by its number, where there is one
abbrev pub object : Option ℕ → List ℤ
object o = map pos (option_to_list o)

-- what the window of an id shows; no id is 0, so no object has this number
abbrev pub front : ℕ → ℤ
front id = neg_ℤ (pos id)

-- ---- Calls of EGL. Only a swap touches what others may touch: the back buffer of a window's surface, and what the window shows.
abbrev pub swap_with : BackedSurface → Option ℤ → Touches
swap_with x None = nothing
swap_with x (Some id) = writing (pos x.storage ∷ front (unsigned id) ∷ [])

abbrev pub swap_of : Option BackedSurface → Touches
swap_of None = nothing
swap_of (Some x) = swap_with x x.surface.window

abbrev pub egl_touches : State → ℕ → EglKind → Touches
egl_touches s t SwapBuffers = swap_of (bound_surface s (record_of s t).draw)
egl_touches s t k = nothing

-- ---- Calls of OpenGL ES, of thread t, whose current context is n.
-- the storages of a texture's levels, where it has them
abbrev pub levels_in : State → ℕ → List (Option ℕ)
levels_in s x = option_map_or (λ y. y.levels) (texture_in s.objects x) []

-- a texture, and these storages
abbrev pub with_levels : State → Option ℕ → List ℤ
with_levels s None = []
with_levels s (Some x) = map pos (x ∷ filled (levels_in s x))

-- those of the texture on which calls work, where GL_TEXTURE_2D is enabled
abbrev pub sampled_by : Option PartValue → State → Option ℕ → List ℤ
sampled_by (Some p) s o = if p.is_texture_enabled then with_levels s o else []
sampled_by None s o = []

-- the framebuffer that a context has bound in the place of its surfaces, and the texture or renderbuffer at its colour point
abbrev pub color_object : State → ℕ → Option ℕ
color_object s b = option_and_then (λ f. object_of f.color) (framebuffer_in s.objects b)

abbrev pub with_color : State → Option ℕ → List ℤ
with_color s None = []
with_color s (Some b) = map pos (b ∷ option_to_list (color_object s b))

abbrev pub target_objects : State → ℕ → List ℤ
target_objects s n = with_color s (target_framebuffer s n)

-- the pixels that a thread reads, and what leads to them
abbrev pub pixels_read : State → ℕ → ℕ → List ℤ
pixels_read s t n = object (bound_framebuffer s t).read ++ target_objects s n

-- these objects are read, and a storage is drawn to
abbrev pub drawing : List ℤ → Option ℕ → Touches
drawing xs o = record { reads = xs; writes = object o }

abbrev pub draw_touches : State → ℕ → ℕ → Touches
draw_touches s t n = drawing (sampled_by (part_of_context s n) s (target_texture s n) ++ target_objects s n) (bound_framebuffer s t).draw

-- the objects that names of a kind have
abbrev pub objects_named : State → ℕ → NameKind → List ℤ → List ℤ
objects_named s n k xs = map pos (filter_map (λ x. object_named s (group_of s n) k (unsigned x)) xs)

abbrev pub deletion_touches : State → ℕ → NameKind → List ℤ → Touches
deletion_touches s n k xs = writing (objects_named s n k xs)

-- the object with names of a kind that is bound; the target of a buffer is the call's
abbrev pub bound_target : State → ℕ → CallValue → NameKind → Option ℕ
bound_target s n c textures = target_texture s n
bound_target s n c buffers = target_buffer s n c
bound_target s n c renderbuffers = target_renderbuffer s n
bound_target s n c framebuffers = target_framebuffer s n

-- what is asked of a renderbuffer or a framebuffer isn't counted
abbrev pub got_touches : State → ℕ → CallValue → NameKind → Touches
got_touches s n c buffers = reading (object (target_buffer s n c))
got_touches s n c names = nothing

abbrev pub role_touches : Role → State → ℕ → ℕ → CallValue → Touches
-- pixels of the surfaces, or of what is attached in their place
role_touches Clears s t n c = if clears_colour c then drawing (target_objects s n) (bound_framebuffer s t).draw else nothing
role_touches ReadsPixels s t n c = reading (pixels_read s t n)
role_touches Draws s t n c = draw_touches s t n
-- what is bound, and the pixels of its levels
role_touches (Specifies names) s t n c = writing (object (bound_target s n c names))
role_touches (TakesImage names) s t n c = writing (object (bound_target s n c names))
role_touches (Sets names) s t n c = writing (object (bound_target s n c names))
role_touches (Gets names) s t n c = got_touches s n c names
role_touches Copies s t n c = record { reads = pixels_read s t n; writes = object (target_texture s n) }
role_touches Rewrites s t n c = record { reads = object (target_texture s n); writes = object (level_storage s n (level_of c)) }
role_touches CopiesPart s t n c = record { reads = object (target_texture s n) ++ pixels_read s t n; writes = object (level_storage s n (level_of c)) }
-- the framebuffer to which something is attached
role_touches (Attaches names) s t n c = writing (object (target_framebuffer s n))
-- what is deleted; the framebuffer from which it is detached isn't counted
role_touches (Deletes names) s t n c = deletion_touches s n names c.list
-- nothing but names, or the fences of a context
role_touches (Generates names) s t n c = nothing
role_touches (Asks names) s t n c = nothing
role_touches (Binds names) s t n c = nothing
role_touches Flushes s t n c = nothing
role_touches r s t n c = unlisted

-- whether a role tells it
abbrev pub tells : Role → Bool
tells Plain = false
tells (Creates kind) = false
tells (Destroys kind) = false
tells MakesCurrent = false
tells Releases = false
tells ClientWaits = false
tells ServerWaits = false
tells OwnState = false
tells r = true

abbrev pub object_touches : State → ℕ → ℕ → GlKind → CallValue → Touches
object_touches s t n k c = role_touches (gl_role k) s t n c

-- a call of its context's own state touches nothing else
abbrev pub touches_by_class : Option GlKind → State → ℕ → ℕ → GlKind → CallValue → Touches
touches_by_class (Some own) s t n k c = nothing
touches_by_class None s t n k c = object_touches s t n k c

abbrev pub gl_touches : State → ℕ → ℕ → GlKind → CallValue → Touches
gl_touches s t n k c = touches_by_class (context_gl_call k) s t n k c

-- without a current context nothing is done
abbrev pub gl_touches_on : State → ℕ → Option ℕ → GlKind → CallValue → Touches
gl_touches_on s t None k c = nothing
gl_touches_on s t (Some n) k c = gl_touches s t n k c

-- ---- This project's own calls.
-- readBuffer is one of the calls on a buffer
abbrev pub buffer_touches_on : State → Option ℕ → CallValue → Touches
buffer_touches_on s None c = nothing
buffer_touches_on s (Some n) c = reading (object (target_buffer s n c))

abbrev pub own_touches : State → ℕ → OwnKind → CallValue → Touches
own_touches s t ReadFront c = if is_some (front_of (number c FRONT) s) then reading (front (number c FRONT) ∷ []) else nothing
own_touches s t ReadBuffer c = buffer_touches_on s (current_context s t) c
own_touches s t k c = nothing

-- ---- All calls.
abbrev pub touches_by : State → ℕ → Kind → CallValue → Touches
touches_by s t (Egl k) c = egl_touches s t k
touches_by s t (Gl k) c = gl_touches_on s t (current_context s t) k c
touches_by s t (Own k) c = own_touches s t k c

abbrev pub where_done : Stepped → Touches → Touches
where_done a x = if is_done a.reply.outcome then x else nothing

-- what a call of thread t touches
unfoldable pub touches_of : State → ℕ → CallValue → Touches
touches_of s t c = where_done (step s t c) (touches_by s t c.kind c)
