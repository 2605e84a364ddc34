-- The first refusal of each call of OpenGL ES, and what the call does and answers where it isn't refused.
use Rattle.std.specs.Prelude.{ℕ, false, Option, None, Some, ℤ, pos, [], unwrap_or}
use Rattle.egl_calls.specs.Calls.{CallValue}
use Rattle.egl_calls.specs.declared.kinds.GlKind.{GlKind}
use Rattle.egl_calls.specs.declared.kinds.GlKind.TheVariants.{TexImage2d, TexSubImage2d, CopyTexImage2d, CopyTexSubImage2d, BufferData, BufferSubData, GetBufferParameteriv, RenderbufferStorage, GetRenderbufferParameteriv, GetFramebufferAttachmentParameteriv, ImageTargetTexture2d, ImageTargetRenderbufferStorage, TexParameterx, TexParameteriv, CheckFramebufferStatus}
use Rattle.egl_calls.specs.declared.places.TheConstants.{ASKED_NAME, BOUND_NAME, BOUND_PARAM, BOUND_PNAME, COUNT, TARGET}
use Rattle.egl_calls.specs.declared.errors.GlError.{GlError}
use Rattle.context_state.specs.Kinds.{context_gl_call}
use Rattle.call_rules.specs.GlRules as rules
use Rattle.egl_model.specs.State.{State}
use Rattle.egl_model.specs.Arguments.{number}
use Rattle.egl_model.specs.Buffers.{buffer_of, buffer_parameter, set_data, set_part_of, target_buffer}
use Rattle.egl_model.specs.Objects.{change_part}
use Rattle.egl_model.specs.Copies.{copied, copied_part}
use Rattle.egl_model.specs.Framebuffers.{attachment_of, bound_framebuffer, target_framebuffer, attached, attachment_parameter, called_point, given_attachment}
use Rattle.call_table.specs.Rows.{gl_role}
use Rattle.call_table.specs.declared.roles.Role.{Role}
use Rattle.call_table.specs.declared.roles.Role.TheVariants.{Asks, Attaches, Binds, Clears, Deletes, Draws, Flushes, Generates, ReadsPixels}
use Rattle.egl_model.specs.Images.{target_image, renderbuffer_of_image, texture_of_image}
use Rattle.egl_model.specs.Names.{group_of, object_named, generated, name_value}
use Rattle.egl_model.specs.Renderbuffers.{target_renderbuffer, new_kind, new_pixels, renderbuffer_of, renderbuffer_parameter, stored_as}
use Rattle.egl_model.specs.Textures.{level_of, level_storage, new_level, rewritten_part, set_crop, set_parameter, specified, target_texture, unpack_alignment}
use Rattle.context_state.specs.Calls.{apply}
use Rattle.context_state.specs.Parts.{PartValue}
use Rattle.driver_objects.specs.Targets.{target_of}
use Rattle.egl_model.specs.GlFacts.{gl_facts_of}
use Rattle.egl_model.specs.Effects.{Effect, unlisted, valued}
use Rattle.egl_model.specs.Flushes.{flushed}
use Rattle.egl_model.specs.Currents.{part_of_context}
use Rattle.egl_model.specs.Drawing.{cleared_draw, read_pixels}
use Rattle.egl_model.specs.Draws.{drawn}
use Rattle.egl_model.specs.Bindings.{bound_name, deleted_names}

-- the error of the first row that holds
unfoldable pub gl_refusal : State → ℕ → ℕ → GlKind → CallValue → Option GlError
gl_refusal s t n k c = rules.gl_refusal c (gl_facts_of s t n c)

-- a call that asks or sets what its context keeps for itself, and nothing else
abbrev pub local_value : Option PartValue → CallValue → ℤ
local_value (Some p) c = (apply c p).reply.value
local_value None c = pos 0

abbrev pub applied : State → ℕ → CallValue → State
applied s n c = record s { objects = change_part (λ p. (apply c p).part) n s.objects }

abbrev pub local_effect : State → ℕ → CallValue → Effect
local_effect s n c = valued (local_value (part_of_context s n) c) (applied s n c)

-- the effect of a call that its role doesn't tell, of thread t, whose current context is n
abbrev pub plain_gl_effect : State → ℕ → ℕ → GlKind → CallValue → Effect
-- OpenGL ES 1.1, section 3.7.4, and OES_draw_texture
plain_gl_effect s t n TexParameterx c = valued (pos 0) (set_parameter (number c BOUND_PNAME) (number c BOUND_PARAM) (target_texture s n) s)
plain_gl_effect s t n TexParameteriv c = valued (pos 0) (set_crop c.list (target_texture s n) s)
-- sections 3.7.1 and 3.7.2
plain_gl_effect s t n TexImage2d c = valued (pos 0) (specified (level_of c) (new_level c (unpack_alignment s n)) (target_texture s n) s)
plain_gl_effect s t n TexSubImage2d c = valued (pos 0) (rewritten_part c (unpack_alignment s n) (level_storage s n (level_of c)) s)
plain_gl_effect s t n CopyTexImage2d c = valued (pos 0) (copied s t n c)
plain_gl_effect s t n CopyTexSubImage2d c = valued (pos 0) (copied_part s t n c)
-- sections 2.9 and 6.1.12
plain_gl_effect s t n BufferData c = valued (pos 0) (set_data c (target_buffer s n c) s)
plain_gl_effect s t n BufferSubData c = valued (pos 0) (set_part_of c (target_buffer s n c) s)
plain_gl_effect s t n GetBufferParameteriv c = valued (unwrap_or (buffer_parameter c (buffer_of s n c)) (pos 0)) s
-- OES_framebuffer_object
plain_gl_effect s t n RenderbufferStorage c = valued (pos 0) (stored_as (new_kind c) (new_pixels c) (target_renderbuffer s n) s)
plain_gl_effect s t n GetRenderbufferParameteriv c = valued (renderbuffer_parameter c (renderbuffer_of s n)) s
plain_gl_effect s t n CheckFramebufferStatus c = valued (pos (bound_framebuffer s t).status) s
plain_gl_effect s t n GetFramebufferAttachmentParameteriv c = valued (attachment_parameter c (attachment_of s n c)) s
-- OES_EGL_image
plain_gl_effect s t n ImageTargetTexture2d c = valued (pos 0) (texture_of_image (target_image s n c) (target_texture s n) s)
plain_gl_effect s t n ImageTargetRenderbufferStorage c = valued (pos 0) (renderbuffer_of_image (target_image s n c) (target_renderbuffer s n) s)
plain_gl_effect s t n k c = unlisted s

-- the effect of a call of a role that asks or changes more than its context's own state
abbrev pub role_effect : Role → State → ℕ → ℕ → GlKind → CallValue → Effect
-- OpenGL ES 1.1, chapter 5: nothing is left to be done, and what is flushed is complete
role_effect Flushes s t n k c = valued (pos 0) (flushed (Some n) s)
-- sections 4.2.3 and 4.3.1, and OES_draw_texture
role_effect Clears s t n k c = valued (pos 0) (cleared_draw s t n c)
role_effect ReadsPixels s t n k c = record { waits = false; value = pos 0; list = []; bytes = read_pixels s t n c; state = s }
role_effect Draws s t n k c = valued (pos 0) (drawn s t n k c)
-- sections 3.7.11 and 2.9, and OES_framebuffer_object
role_effect (Generates names) s t n k c = generated s (group_of s n) names (number c COUNT)
role_effect (Deletes names) s t n k c = valued (pos 0) (deleted_names names s n c.list)
role_effect (Asks names) s t n k c = valued (name_value (object_named s (group_of s n) names (number c ASKED_NAME))) s
role_effect (Binds names) s t n k c = valued (pos 0) (bound_name (target_of names (number c TARGET)) s n (number c BOUND_NAME))
role_effect (Attaches names) s t n k c = valued (pos 0) (attached (called_point c) (given_attachment names s n c) (target_framebuffer s n) s)
role_effect r s t n k c = plain_gl_effect s t n k c

abbrev pub object_effect : State → ℕ → ℕ → GlKind → CallValue → Effect
object_effect s t n k c = role_effect (gl_role k) s t n k c

-- the effect of a call, by whether it is one of its context's own state
abbrev pub effect_by : Option GlKind → State → ℕ → ℕ → GlKind → CallValue → Effect
effect_by (Some own) s t n k c = local_effect s n c
effect_by None s t n k c = object_effect s t n k c

abbrev pub gl_effect : State → ℕ → ℕ → GlKind → CallValue → Effect
gl_effect s t n k c = effect_by (context_gl_call k) s t n k c
