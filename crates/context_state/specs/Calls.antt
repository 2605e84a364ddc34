-- What the calls that ask and set the state of their context alone answer and leave.
use Rattle.std.specs.Prelude.{ℕ, ℤ, pos, Bool, true, false, [], ◌==◌, if◌then◌else◌, slice_index_or}
use Rattle.std.specs.declared.option.Option.{Option}
use Rattle.std.specs.declared.option.Option.TheVariants.{None, Some}
use Rattle.egl_calls.specs.Calls.{CallValue, ReplyValue}
use Rattle.egl_calls.specs.Errors.{gl_code}
use Rattle.egl_calls.specs.declared.errors.GlError.{GlError}
use Rattle.egl_calls.specs.declared.errors.GlError.TheVariants.{NoError}
use Rattle.egl_calls.specs.declared.errors.Outcome.TheVariants.{Done, Gl}
use Rattle.egl_names.specs.declared.codes.TheConstants.{GL_TEXTURE_2D, GL_SCISSOR_TEST, GL_REPLACE, GL_UNPACK_ALIGNMENT, GL_PACK_ALIGNMENT, GL_VIEWPORT, GL_SCISSOR_BOX, GL_MAX_TEXTURE_SIZE}
use Rattle.egl_calls.specs.declared.places.TheConstants.{CAP, ENVIRONMENT_PARAM, INDEX, PARAM, PNAME}
use Rattle.call_table.specs.Rows.{gl_role}
use Rattle.call_table.specs.declared.roles.Role.{Role}
use Rattle.call_table.specs.declared.roles.Role.TheVariants.{OwnState}
use Rattle.egl_calls.specs.declared.kinds.GlKind.{GlKind}
use Rattle.egl_calls.specs.declared.kinds.GlKind.TheVariants.{GetError, Enable, Disable, Scissor, Viewport, ClearColorx, Color4x, ClearDepthx, ClearStencil, ColorMask, TexEnvx, PixelStorei, GetIntegerv}
use Rattle.egl_calls.specs.Arguments.{number}
use Rattle.context_state.specs.Arguments.{box, colour, mask}
use Rattle.context_state.specs.Bindings.{name_bound}
use Rattle.context_state.specs.Kinds.{context_call}
use Rattle.context_state.specs.Parts.{PartValue, noted}
use Rattle.context_state.specs.Refusals.{refusal}

-- ---- What a call that isn't refused answers.
-- the value at a place of a parameter (OpenGL ES 1.1, section 6.2)
abbrev pub parameter : ℕ → ℕ → PartValue → ℤ
parameter pname index p =
    if pname == GL_VIEWPORT then slice_index_or p.viewport index (pos 0)
    else if pname == GL_SCISSOR_BOX then slice_index_or p.scissor_box index (pos 0)
    else if pname == GL_MAX_TEXTURE_SIZE then pos 1024
    else if pname == GL_UNPACK_ALIGNMENT then pos p.unpack_alignment
    else if pname == GL_PACK_ALIGNMENT then pos p.pack_alignment
    else pos (name_bound pname p.bound)

abbrev pub value : GlKind → CallValue → PartValue → ℤ
-- section 2.5
value GetError c p = pos (gl_code p.error)
value GetIntegerv c p = parameter (number c PNAME) (number c INDEX) p
value k c p = pos 0

-- ---- What it changes.
-- GL_DITHER and what is disabled for good have no state
abbrev pub switched : ℕ → Bool → PartValue → PartValue
switched cap on p = record p {
  is_texture_enabled = (if cap == GL_TEXTURE_2D then on else p.is_texture_enabled);
  is_scissor_enabled = (if cap == GL_SCISSOR_TEST then on else p.is_scissor_enabled);
}

abbrev pub aligned : ℕ → ℕ → PartValue → PartValue
aligned pname n p = record p {
  pack_alignment = (if pname == GL_PACK_ALIGNMENT then n else p.pack_alignment);
  unpack_alignment = (if pname == GL_UNPACK_ALIGNMENT then n else p.unpack_alignment);
}

-- what a call changes that has no line below: nothing can be proved of it, so no code can be proved to do it
pub unlisted : PartValue → PartValue
unlisted p = p

-- a call that isn't one of these changes nothing of a context's own state
abbrev pub changed_by_role : Role → PartValue → PartValue
changed_by_role OwnState p = unlisted p
changed_by_role r p = p

abbrev pub changed : GlKind → CallValue → PartValue → PartValue
-- no error is kept then (section 2.5)
changed GetError c p = record p { error = NoError }
changed Enable c p = switched (number c CAP) true p
changed Disable c p = switched (number c CAP) false p
changed Scissor c p = record p { scissor_box = box c }
changed Viewport c p = record p { viewport = box c }
changed ClearColorx c p = record p { clear_color = colour c }
changed Color4x c p = record p { color = colour c }
-- depth and stencil buffers hold no values
changed ClearDepthx c p = p
changed ClearStencil c p = p
changed ColorMask c p = record p { mask = mask c }
changed TexEnvx c p = record p { is_replacing = number c ENVIRONMENT_PARAM == GL_REPLACE }
changed PixelStorei c p = aligned (number c PNAME) (number c PARAM) p
changed GetIntegerv c p = p
changed k c p = changed_by_role (gl_role k) p

-- ---- The reply, and the state that is left.
pub record Applied : Type 0 where
  pub reply : ReplyValue
  pub part : PartValue

-- the reply of a value alone
abbrev pub answered : ℤ → ReplyValue
answered value = record { outcome = Done; value = value; list = []; bytes = [] }

-- the reply of a refused call
abbrev pub refused : GlError → ReplyValue
refused e = record { outcome = Gl e; value = pos 0; list = []; bytes = [] }

abbrev pub done : ℤ → PartValue → Applied
done value p = record { reply = answered value; part = p }

-- a refused call leaves its error, if none is kept, and nothing else
abbrev pub after_rules : Option GlError → GlKind → CallValue → PartValue → Applied
after_rules (Some e) k c p = record { reply = refused e; part = noted e p }
after_rules None k c p = done (value k c p) (changed k c p)

-- nothing is said of another call
abbrev pub apply_by : Option GlKind → CallValue → PartValue → Applied
apply_by (Some k) c p = after_rules (refusal k c) k c p
apply_by None c p = done (pos 0) p

-- the reply to a call, and the state after it
abbrev pub apply : CallValue → PartValue → Applied
apply c p = apply_by (context_call c.kind) c p
