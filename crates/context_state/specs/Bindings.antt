-- The names that a context has bound.
use Rattle.std.specs.Prelude.{ℕ, ℤ, Bool, ◌||◌, ◌==◌, if◌then◌else◌}
use Rattle.egl_calls.specs.Ranges.{unsigned}
use Rattle.egl_names.specs.declared.codes.TheConstants.{GL_TEXTURE_BINDING_2D, GL_ARRAY_BUFFER_BINDING, GL_ELEMENT_ARRAY_BUFFER_BINDING, GL_RENDERBUFFER_BINDING_OES, GL_FRAMEBUFFER_BINDING_OES}
use Rattle.context_state.specs.declared.bindings.Bindings.{Bindings}

-- a new context has bound its own texture 0, and nothing else
abbrev pub no_bindings : Bindings
no_bindings = record { texture = 0; array_buffer = 0; element_array_buffer = 0; renderbuffer = 0; framebuffer = 0 }

-- the names that stand for a binding
abbrev pub is_binding_code : ℕ → Bool
is_binding_code which =
    (which == GL_TEXTURE_BINDING_2D) || (which == GL_ARRAY_BUFFER_BINDING) || (which == GL_ELEMENT_ARRAY_BUFFER_BINDING)
    || (which == GL_RENDERBUFFER_BINDING_OES) || (which == GL_FRAMEBUFFER_BINDING_OES)

abbrev pub is_binding : ℤ → Bool
is_binding which = is_binding_code (unsigned which)

-- the name that is bound there; 0 where nothing is, and for any other number
abbrev pub name_bound : ℕ → Bindings → ℕ
name_bound which b =
    if which == GL_TEXTURE_BINDING_2D then b.texture
    else if which == GL_ARRAY_BUFFER_BINDING then b.array_buffer
    else if which == GL_ELEMENT_ARRAY_BUFFER_BINDING then b.element_array_buffer
    else if which == GL_RENDERBUFFER_BINDING_OES then b.renderbuffer
    else if which == GL_FRAMEBUFFER_BINDING_OES then b.framebuffer
    else 0

-- a name is bound there, and every other binding stays
abbrev pub with_name : ℕ → ℕ → Bindings → Bindings
with_name which name b = record {
  texture = (if which == GL_TEXTURE_BINDING_2D then name else b.texture);
  array_buffer = (if which == GL_ARRAY_BUFFER_BINDING then name else b.array_buffer);
  element_array_buffer = (if which == GL_ELEMENT_ARRAY_BUFFER_BINDING then name else b.element_array_buffer);
  renderbuffer = (if which == GL_RENDERBUFFER_BINDING_OES then name else b.renderbuffer);
  framebuffer = (if which == GL_FRAMEBUFFER_BINDING_OES then name else b.framebuffer);
}
