-- What the table of a call tells in a state: each row that holds.
use Rattle.std.specs.Prelude.{ℕ, is_some, Option, None, Some, List, if◌then◌else◌}
use Rattle.egl_calls.specs.Calls.{CallValue}
use Rattle.egl_calls.specs.declared.kinds.Kind.{Kind}
use Rattle.egl_calls.specs.declared.kinds.Kind.TheVariants.{Egl, Gl, Own}
use Rattle.egl_calls.specs.declared.kinds.OwnKind.TheVariants.{ReadBuffer}
use Rattle.refusal_rows.specs.Rows.{Row, held}
use Rattle.refusal_rows.specs.declared.rows.Holding.{Holding}
use Rattle.call_rules.specs.EglRules.{egl_rows_by}
use Rattle.call_rules.specs.GlRules.{gl_rows_by}
use Rattle.egl_model.specs.Currents.{current_context}
use Rattle.egl_model.specs.Facts.{facts_of}
use Rattle.egl_model.specs.GlFacts.{gl_facts_of}
use Rattle.egl_model.specs.State.{State, record_of}
use Rattle.driver_facts.specs.declared.verdicts.Refusals.{Refusals}
use Rattle.driver_facts.specs.declared.verdicts.Refusals.TheVariants.{Egl as EglRows, Gl as GlRows, Unjudged}

abbrev pub holding : {E : Type 0} → List (Row E) → Holding E
holding rows = record { errors = held 16 rows }

-- without a current context a call of OpenGL ES, and a readBuffer, does nothing
abbrev pub gl_refusals : State → ℕ → Option ℕ → CallValue → Refusals
gl_refusals s t (Some n) c = GlRows (holding (gl_rows_by c.kind c (gl_facts_of s t n c)))
gl_refusals s t None c = Unjudged

abbrev pub refusals_by : State → ℕ → Kind → CallValue → Refusals
refusals_by s t (Egl k) c = EglRows (holding (egl_rows_by c.kind c (facts_of s t c)))
refusals_by s t (Gl k) c = gl_refusals s t (current_context s t) c
refusals_by s t (Own ReadBuffer) c = gl_refusals s t (current_context s t) c
refusals_by s t (Own k) c = Unjudged

-- a thread that waits for a sync makes no call but the end of its wait
unfoldable pub refusals : State → ℕ → CallValue → Refusals
refusals s t c = if is_some (record_of s t).wait then Unjudged else refusals_by s t c.kind c
