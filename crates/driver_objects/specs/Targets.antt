-- What a context binds objects with names to: the slot, the name of the binding, and the kind of the names.
use Rattle.std.specs.Prelude.{ℕ, ◌==◌, if◌then◌else◌}
use Rattle.egl_names.specs.declared.codes.TheConstants.{GL_ARRAY_BUFFER_BINDING, GL_ELEMENT_ARRAY_BUFFER, GL_ELEMENT_ARRAY_BUFFER_BINDING, GL_FRAMEBUFFER_BINDING_OES, GL_RENDERBUFFER_BINDING_OES, GL_TEXTURE_BINDING_2D}
use Rattle.share_group.specs.declared.names.NameKind.{NameKind}
use Rattle.share_group.specs.declared.names.NameKind.TheVariants.{Texture as textures, Buffer as buffers, Renderbuffer as renderbuffers, Framebuffer as framebuffers}
use Rattle.driver_objects.specs.declared.targets.BindTarget.{BindTarget}
use Rattle.driver_objects.specs.declared.targets.BindTarget.TheVariants.{Texture, ArrayBuffer, ElementArrayBuffer, Renderbuffer, Framebuffer}

abbrev pub slot_of : BindTarget → ℕ
slot_of Texture = 2
slot_of ArrayBuffer = 3
slot_of ElementArrayBuffer = 4
slot_of Renderbuffer = 5
slot_of Framebuffer = 6

-- the code of the name by which the binding is asked for (OpenGL ES 1.1, section 6.1; OES_framebuffer_object)
abbrev pub binding_of : BindTarget → ℕ
binding_of Texture = GL_TEXTURE_BINDING_2D
binding_of ArrayBuffer = GL_ARRAY_BUFFER_BINDING
binding_of ElementArrayBuffer = GL_ELEMENT_ARRAY_BUFFER_BINDING
binding_of Renderbuffer = GL_RENDERBUFFER_BINDING_OES
binding_of Framebuffer = GL_FRAMEBUFFER_BINDING_OES

abbrev pub name_kind : BindTarget → NameKind
name_kind Texture = textures
name_kind ArrayBuffer = buffers
name_kind ElementArrayBuffer = buffers
name_kind Renderbuffer = renderbuffers
name_kind Framebuffer = framebuffers

-- the target of buffers by its code (section 2.9); any number but the one stands for the other
abbrev pub buffer_target : ℕ → BindTarget
buffer_target code = if code == GL_ELEMENT_ARRAY_BUFFER then ElementArrayBuffer else ArrayBuffer

-- the target of the objects with names of a kind, by its code
abbrev pub target_of : NameKind → ℕ → BindTarget
target_of textures code = Texture
target_of buffers code = buffer_target code
target_of renderbuffers code = Renderbuffer
target_of framebuffers code = Framebuffer
