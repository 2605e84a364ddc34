-- The numbers of a call, and the names that each call takes.
use Rattle.std.specs.Prelude.{ℕ, ℤ, pos, Bool, not, ◌||◌, ◌&&◌, ◌==◌, List, [], ◌∷◌, if◌then◌else◌, int_lt}
use Rattle.std.specs.Ordering.{int_eq}
use Rattle.egl_calls.specs.Calls.{CallValue}
use Rattle.egl_calls.specs.Arguments.{signed}
use Rattle.egl_names.specs.declared.codes.TheConstants.{GL_TEXTURE_2D, GL_SCISSOR_TEST, GL_DITHER, GL_BLEND, GL_DEPTH_TEST, GL_ALPHA_TEST, GL_STENCIL_TEST, GL_CULL_FACE, GL_LIGHTING, GL_FOG, GL_TEXTURE_ENV, GL_TEXTURE_ENV_MODE, GL_MODULATE, GL_REPLACE, GL_UNPACK_ALIGNMENT, GL_PACK_ALIGNMENT, GL_VIEWPORT, GL_SCISSOR_BOX, GL_MAX_TEXTURE_SIZE}
use Rattle.egl_calls.specs.declared.places.TheConstants.{ALPHA, BLUE, GREEN, HEIGHT, RED, WIDTH, X, Y}
use Rattle.context_state.specs.Bindings.{is_binding_code}
use Rattle.context_state.specs.Parts.{clamped}

-- what glEnable takes: triangles, lights, fog and tests are left out (OpenGL ES 1.1, section 6.2)
abbrev pub may_enable : ℕ → Bool
may_enable cap = (cap == GL_TEXTURE_2D) || (cap == GL_SCISSOR_TEST) || (cap == GL_DITHER)

-- what glDisable takes: what is left out is disabled for good
abbrev pub may_disable : ℕ → Bool
may_disable cap =
    (cap == GL_TEXTURE_2D) || (cap == GL_SCISSOR_TEST) || (cap == GL_DITHER) || (cap == GL_BLEND) || (cap == GL_DEPTH_TEST)
    || (cap == GL_ALPHA_TEST) || (cap == GL_STENCIL_TEST) || (cap == GL_CULL_FACE) || (cap == GL_LIGHTING) || (cap == GL_FOG)

-- the target, the parameter and the two values of glTexEnvx (section 3.7.12)
abbrev pub is_environment : ℕ → ℕ → ℕ → Bool
is_environment target pname param =
    (target == GL_TEXTURE_ENV) && (pname == GL_TEXTURE_ENV_MODE) && ((param == GL_MODULATE) || (param == GL_REPLACE))

-- the parameters of glPixelStorei (section 3.6.1)
abbrev pub is_store : ℕ → Bool
is_store pname = (pname == GL_UNPACK_ALIGNMENT) || (pname == GL_PACK_ALIGNMENT)

abbrev pub is_box_name : ℕ → Bool
is_box_name pname = (pname == GL_VIEWPORT) || (pname == GL_SCISSOR_BOX)

-- what glGetIntegerv answers (section 6.2)
abbrev pub is_parameter : ℕ → Bool
is_parameter pname = is_binding_code pname || is_box_name pname || (pname == GL_MAX_TEXTURE_SIZE) || is_store pname

-- the last place of a parameter's values: boxes have four
abbrev pub last_index : ℕ → ℕ
last_index pname = if is_box_name pname then 3 else 0

abbrev pub is_index : ℕ → ℤ → Bool
is_index pname index = not (int_lt index (pos 0)) && not (int_lt (pos (last_index pname)) index)

-- whether a box has a negative width or height; its left and its bottom may be any numbers
abbrev pub has_negative_side : CallValue → Bool
has_negative_side c = int_lt (signed c WIDTH) (pos 0) || int_lt (signed c HEIGHT) (pos 0)

-- left, bottom, width and height
abbrev pub box : CallValue → List ℤ
box c = signed c X ∷ signed c Y ∷ signed c WIDTH ∷ signed c HEIGHT ∷ []

-- red, green, blue and alpha, held between 0 and 1
abbrev pub colour : CallValue → List ℤ
colour c = clamped (signed c RED) ∷ clamped (signed c GREEN) ∷ clamped (signed c BLUE) ∷ clamped (signed c ALPHA) ∷ []

-- whether the number at a place is set: any but 0 is
abbrev pub is_set : CallValue → ℕ → Bool
is_set c k = not (int_eq (signed c k) (pos 0))

abbrev pub mask : CallValue → List Bool
mask c = is_set c RED ∷ is_set c GREEN ∷ is_set c BLUE ∷ is_set c ALPHA ∷ []
