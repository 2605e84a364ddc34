-- What a context has bound, and names whose objects are bound and deleted (OpenGL ES 1.1, sections 2.9 and 3.7.11; OES_framebuffer_object).
use Rattle.std.specs.Prelude.{ℕ, ℤ, ◌==◌, List, [], ◌∷◌, ◌++◌, length, if◌then◌else◌, Option, None, Some}
use Rattle.std.specs.Option.{option_and_then, option_map}
use Rattle.egl_calls.specs.Ranges.{unsigned}
use Rattle.context_state.specs.Bindings.{with_name}
use Rattle.context_state.specs.Parts.{PartValue}
use Rattle.buffer_objects.specs.Buffers.{fresh}
use Rattle.framebuffer_objects.specs.Framebuffers as framebuffer_objects
use Rattle.framebuffer_objects.specs.Framebuffers.{FramebufferValue, at_point, object_of, with_point}
use Rattle.framebuffer_objects.specs.Renderbuffers as renderbuffer_objects
use Rattle.framebuffer_objects.specs.declared.points.Point.{Point}
use Rattle.framebuffer_objects.specs.declared.points.Point.TheVariants.{Color, Depth, Stencil}
use Rattle.share_group.specs.declared.names.NameKind.{NameKind}
use Rattle.share_group.specs.declared.names.NameKind.TheVariants.{Texture as textures, Buffer as buffers, Renderbuffer as renderbuffers, Framebuffer as framebuffers}
use Rattle.driver_objects.specs.Links.{bound_in, bound_with}
use Rattle.driver_objects.specs.Targets.{binding_of, name_kind, slot_of}
use Rattle.driver_objects.specs.declared.contexts.Context.{Context as ContextObject}
use Rattle.driver_objects.specs.declared.objects.Object.{Object}
use Rattle.driver_objects.specs.declared.objects.Object.TheVariants.{Buffer, Framebuffer, Renderbuffer}
use Rattle.driver_objects.specs.declared.targets.BindTarget.{BindTarget}
use Rattle.driver_objects.specs.declared.targets.BindTarget.TheVariants.{Texture, ArrayBuffer, ElementArrayBuffer, Renderbuffer as renderbuffer_target, Framebuffer as framebuffer_target}
use Rattle.egl_model.specs.State.{State}
use Rattle.egl_model.specs.Contexts.{new_texture}
use Rattle.egl_model.specs.Names.{group_of, object_named, with_name_of}
use Rattle.egl_model.specs.Objects.{change_context, change_framebuffer, change_group, context_in}
use Rattle.egl_model.specs.Parts.{is_place}

-- a context with an object bound in a slot
abbrev pub bound_at : ℕ → Option ℕ → ContextObject → ContextObject
bound_at slot o c = record c { bound = bound_with slot o c.bound }

-- a context that has bound a name, which it keeps for itself and its part has too
abbrev pub name_in_part : ℕ → ℕ → PartValue → PartValue
name_in_part which name p = record p { bound = with_name which name p.bound }

abbrev pub named_at : ℕ → ℕ → ContextObject → ContextObject
named_at which name c = record c { names = with_name which name c.names; part = option_map (name_in_part which name) c.part }

-- ---- glBindTexture and its kin.
-- a context has an object bound to a target under a name
abbrev pub bound_object : BindTarget → ℕ → Option ℕ → ℕ → List (Option Object) → List (Option Object)
bound_object b n o name os = change_context (bound_at (slot_of b) o) n (change_context (named_at (binding_of b) name) n os)

-- what a name gets that has no object: a texture or a renderbuffer without storage, a buffer without bytes, a framebuffer with nothing attached
abbrev pub new_object : BindTarget → Object
new_object Texture = new_texture
new_object ArrayBuffer = Buffer fresh
new_object ElementArrayBuffer = Buffer fresh
new_object renderbuffer_target = Renderbuffer (record { renderbuffer = renderbuffer_objects.fresh; storage = None })
new_object framebuffer_target = Framebuffer framebuffer_objects.fresh

-- a new object gets a name, and is bound
abbrev pub bound_anew : BindTarget → ℕ → ℕ → ℕ → List (Option Object) → List (Option Object)
bound_anew b g n name os =
    bound_object b n (Some (length os)) name (change_group (with_name_of (name_kind b) name (Some (length os))) g (os ++ Some (new_object b) ∷ []))

abbrev pub bound_named : BindTarget → ℕ → ℕ → ℕ → Option ℕ → State → State
bound_named b g n name (Some x) s = record s { objects = bound_object b n (Some x) name s.objects }
bound_named b g n name None s = record s { objects = bound_anew b g n name s.objects }

-- what has the name is bound, and is made where there is nothing; 0 is the context's own texture, no buffer and no renderbuffer, and the framebuffer of the window system
abbrev pub bound_name : BindTarget → State → ℕ → ℕ → State
bound_name b s n name =
    if name == 0 then record s { objects = bound_object b n None 0 s.objects }
    else bound_named b (group_of s n) n name (object_named s (group_of s n) (name_kind b) name) s

-- ---- glDeleteTextures and its kin.
-- a context that has an object bound to a target has nothing bound there
abbrev pub unbound_at : BindTarget → ℕ → ContextObject → ContextObject
unbound_at b x c = if is_place x (bound_in (slot_of b) c.bound) then bound_at (slot_of b) None (named_at (binding_of b) 0 c) else c

-- the same of each target to which objects with names of a kind are bound
abbrev pub unbound_object : NameKind → ℕ → ContextObject → ContextObject
unbound_object textures x c = unbound_at Texture x c
unbound_object buffers x c = unbound_at ElementArrayBuffer x (unbound_at ArrayBuffer x c)
unbound_object renderbuffers x c = unbound_at renderbuffer_target x c
unbound_object framebuffers x c = unbound_at framebuffer_target x c

-- a framebuffer from which an object is detached, wherever it is attached
abbrev pub detached_at : Point → ℕ → FramebufferValue → FramebufferValue
detached_at point x f = if is_place x (object_of (at_point point f)) then with_point point None f else f

abbrev pub detached_from : ℕ → FramebufferValue → FramebufferValue
detached_from x f = detached_at Stencil x (detached_at Depth x (detached_at Color x f))

-- the framebuffer that a context has bound
abbrev pub bound_framebuffer_in : ℕ → List (Option Object) → Option ℕ
bound_framebuffer_in n os = option_and_then (λ c. c.bound.framebuffer) (context_in os n)

abbrev pub detached_on : Option ℕ → ℕ → List (Option Object) → List (Option Object)
detached_on None x os = os
detached_on (Some b) x os = change_framebuffer (detached_from x) b os

-- an object is detached from that framebuffer, and then unbound
abbrev pub unbound_in : NameKind → ℕ → Option ℕ → List (Option Object) → List (Option Object)
unbound_in k n None os = os
unbound_in k n (Some x) os = change_context (unbound_object k x) n (detached_on (bound_framebuffer_in n os) x os)

-- a name is freed, and what had it is detached and unbound in the caller's context
abbrev pub freed : NameKind → ℕ → ℕ → ℕ → Option ℕ → List (Option Object) → List (Option Object)
freed k g n name o os = change_group (with_name_of k name None) g (unbound_in k n o os)

abbrev pub deleted_name : NameKind → ℕ → ℕ → ℕ → State → State
deleted_name k g n name s = record s { objects = freed k g n name (object_named s g k name) s.objects }

abbrev pub deleted_in : NameKind → ℕ → ℕ → List ℤ → State → State
deleted_in k g n [] s = s
deleted_in k g n (x ∷ xs) s = deleted_in k g n xs (deleted_name k g n (unsigned x) s)

abbrev pub deleted_names : NameKind → State → ℕ → List ℤ → State
deleted_names k s n xs = deleted_in k (group_of s n) n xs s
