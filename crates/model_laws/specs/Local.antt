-- Calls that a thread's private part answers.
use Rattle.std.specs.Prelude.{ℕ, ℤ, pos, Bool, true, false, List, [], ◌||◌, ◌&&◌, ◌==◌, not, if◌then◌else◌, Option, None, Some, is_some}
use Rattle.std.specs.Option.{option_map, option_map_or}
use Rattle.egl_calls.specs.Calls.{CallValue, ReplyValue}
use Rattle.egl_calls.specs.Errors.{egl_code}
use Rattle.egl_calls.specs.declared.kinds.Kind.{Kind}
use Rattle.egl_calls.specs.declared.kinds.Kind.TheVariants.{Egl, Gl, Own as OwnCall}
use Rattle.egl_calls.specs.declared.kinds.EglKind.{EglKind}
use Rattle.egl_calls.specs.declared.kinds.EglKind.TheVariants.{GetError as EglGetError, GetDisplay, GetCurrentContext, BindApi, QueryApi, GetCurrentSurface, GetCurrentDisplay}
use Rattle.egl_calls.specs.declared.kinds.GlKind.{GlKind}
use Rattle.egl_calls.specs.declared.errors.EglError.{EglError}
use Rattle.egl_calls.specs.declared.errors.EglError.TheVariants.{Success}
use Rattle.egl_calls.specs.declared.errors.GlError.{GlError}
use Rattle.egl_calls.specs.declared.errors.Outcome.TheVariants.{Done, InWait, Egl as RefusedEgl, Gl as RefusedGl}
use Rattle.call_table.specs.Roles.{is_own_state, takes_pixels}
use Rattle.call_table.specs.Rows.{egl_role, gl_role}
use Rattle.call_table.specs.declared.roles.Role.{Role}
use Rattle.call_table.specs.declared.roles.Role.TheVariants.{Clears, ReadsPixels}
use Rattle.context_state.specs.Parts.{PartValue, noted}
use Rattle.context_state.specs.Kinds.{context_gl_call}
use Rattle.context_state.specs.Calls.{apply}
use Rattle.pixel_rows.specs.Images.{ImageValue}
use Rattle.pixel_rows.specs.Transfers.{row_bytes}
use Rattle.egl_calls.specs.declared.places.TheConstants.{DISPLAY_ID, READDRAW}
use Rattle.egl_calls.specs.Arguments.{signed}
use Rattle.call_rules.specs.EglRules as rules
use Rattle.call_rules.specs.EglRules.{no_facts}
use Rattle.driver_objects.specs.Storages.{cleared_image}
use Rattle.egl_names.specs.declared.codes.TheConstants.{EGL_DRAW}
use Rattle.egl_model.specs.Arguments.{number}
use Rattle.egl_model.specs.State.{api_code}
use Rattle.egl_model.specs.Displays as displays
use Rattle.egl_model.specs.Drawing.{clears_colour, read_form, read_rect}
use Rattle.call_rules.specs.GlRules as gl_rules
use Rattle.call_rules.specs.GlRules.{no_gl_facts}
use Rattle.call_rules.specs.declared.gl_facts.GlFacts.{GlFacts}
use Rattle.egl_model.specs.Step.{bare}
use Rattle.egl_model.specs.Parts.{Own, Private}

-- ---- Marks.
abbrev pub is_local_egl : EglKind → Bool
is_local_egl k = is_own_state (egl_role k)

abbrev pub is_local_gl : GlKind → Bool
is_local_gl k = is_some (context_gl_call k)

-- local where no context is current, or the framebuffer of the window system is bound
abbrev pub is_local_unbound : GlKind → Bool
is_local_unbound k = takes_pixels (gl_role k)

abbrev pub has_framebuffer : PartValue → Bool
has_framebuffer p = not (p.bound.framebuffer == 0)

abbrev pub is_unbound : Option PartValue → Bool
is_unbound None = true
is_unbound (Some p) = if has_framebuffer p then false else true

abbrev pub is_local_kind : Private → Kind → Bool
is_local_kind p (Egl k) = is_local_egl k
is_local_kind p (Gl k) = is_local_gl k || (is_local_unbound k && is_unbound p.own.context)
is_local_kind p (OwnCall k) = false

abbrev pub is_local : Private → CallValue → Bool
is_local p c = is_local_kind p c.kind

-- ---- What a local call answers and leaves.
pub record Locally : Type 0 where
  pub reply : ReplyValue
  pub own : Own

abbrev pub answers : ℤ → Own → Locally
answers v x = record { reply = record { outcome = Done; value = v; list = []; bytes = [] }; own = x }

-- the value of a local call of EGL
abbrev pub egl_value : Private → EglKind → CallValue → ℤ
egl_value p EglGetError c = pos (egl_code p.own.error)
egl_value p GetDisplay c = displays.display_of (signed c DISPLAY_ID)
egl_value p GetCurrentContext c = pos p.kept.context
egl_value p BindApi c = pos 1
egl_value p QueryApi c = pos (api_code p.kept.api)
egl_value p GetCurrentSurface c = pos (if number c READDRAW == EGL_DRAW then p.kept.draw else p.kept.read)
egl_value p GetCurrentDisplay c = pos p.kept.display
egl_value p k c = pos 0

-- no row of a local call asks for a fact
abbrev pub local_refusal : CallValue → Option EglError
local_refusal c = rules.egl_refusal c no_facts

abbrev pub egl_locally : Private → Option EglError → ℤ → Locally
egl_locally p (Some e) v = record { reply = bare (RefusedEgl e); own = record p.own { error = e } }
egl_locally p None v = answers v (record p.own { error = Success })

-- what a call of OpenGL ES does to the thread's own where no rule refuses it
pub record LocalEffect : Type 0 where
  pub value : ℤ
  pub list : List ℤ
  pub bytes : List ℕ
  pub own : Own

abbrev pub leaves : ℤ → Own → LocalEffect
leaves v x = record { value = v; list = []; bytes = []; own = x }

-- what a context keeps changes
abbrev pub applied_locally : Own → PartValue → CallValue → LocalEffect
applied_locally x q c = leaves (apply c q).reply.value (record x { context = Some (apply c q).part })

abbrev pub cleared_locally : Own → PartValue → CallValue → Own
cleared_locally x q c = if clears_colour c then record x { draw = option_map (cleared_image q) x.draw } else x

abbrev pub read_image : Private → Option ImageValue
read_image p = if p.kept.same then p.own.draw else p.own.read

abbrev pub read_locally : Private → PartValue → CallValue → List ℕ
read_locally p q c = option_map_or (λ i. row_bytes i (read_rect c) (read_form c) q.pack_alignment) (read_image p) []

abbrev pub object_locally : Role → Private → PartValue → CallValue → LocalEffect
object_locally Clears p q c = leaves (pos 0) (cleared_locally p.own q c)
object_locally ReadsPixels p q c = record { value = pos 0; list = []; bytes = read_locally p q c; own = p.own }
object_locally r p q c = leaves (pos 0) p.own

abbrev pub locally_by : Option GlKind → Private → PartValue → GlKind → CallValue → LocalEffect
locally_by (Some own) p q k c = applied_locally p.own q c
locally_by None p q k c = object_locally (gl_role k) p q c

abbrev pub gl_locally : Private → PartValue → GlKind → CallValue → LocalEffect
gl_locally p q k c = locally_by (context_gl_call k) p q k c

abbrev pub after_rules : Own → PartValue → Option GlError → LocalEffect → Locally
after_rules x q (Some e) f = record { reply = bare (RefusedGl e); own = record x { context = Some (noted e q) } }
after_rules x q None f = record { reply = record { outcome = Done; value = f.value; list = f.list; bytes = f.bytes }; own = f.own }

-- what a local call of OpenGL ES is judged by: glClear and glReadPixels ask whether there are pixels, and no other one asks for a fact
abbrev pub facts_locally : Private → GlFacts
facts_locally p = record no_gl_facts { is_framebuffer_complete = is_some p.own.draw }

abbrev pub gl_with : Private → Option PartValue → GlKind → CallValue → Locally
gl_with p None k c = record { reply = bare Done; own = p.own }
gl_with p (Some q) k c = after_rules p.own q (gl_rules.gl_refusal c (facts_locally p)) (gl_locally p q k c)

abbrev pub by_kind : Private → Kind → CallValue → Locally
by_kind p (Egl k) c = egl_locally p (local_refusal c) (egl_value p k c)
by_kind p (Gl k) c = gl_with p p.own.context k c
by_kind p (OwnCall k) c = answers (pos 0) p.own

abbrev pub in_wait : Bool → Private → CallValue → Locally
in_wait true p c = record { reply = bare InWait; own = p.own }
in_wait false p c = by_kind p c.kind c

-- the reply to a local call of a thread with this part, and what is then its own
unfoldable pub locally : Private → CallValue → Locally
locally p c = in_wait p.kept.waits p c

-- the part after it
abbrev pub part_after : Private → CallValue → Private
part_after p c = record p { own = (locally p c).own }
