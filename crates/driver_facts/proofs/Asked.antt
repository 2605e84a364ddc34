-- The first error of a call's rows is that of the model.
use Rattle.std.proofs.Common.{◌≡◌, ℕ, refl}
use Rattle.egl_calls.specs.Calls.{CallValue}
use Rattle.egl_calls.specs.declared.kinds.EglKind.{EglKind}
use Rattle.egl_calls.specs.declared.kinds.GlKind.{GlKind}
use Rattle.call_rules.specs.EglRules as egl_rules
use Rattle.call_rules.specs.EglRules.{egl_rows_by}
use Rattle.call_rules.specs.GlRules as gl_rules
use Rattle.call_rules.specs.GlRules.{gl_rows_by}
use Rattle.refusal_rows.specs.Rows.{first_error}
use Rattle.egl_model.specs.EglCalls.{egl_refusal}
use Rattle.egl_model.specs.Facts.{facts_of}
use Rattle.egl_model.specs.GlCalls.{gl_refusal}
use Rattle.egl_model.specs.GlFacts.{gl_facts_of}
use Rattle.egl_model.specs.OwnCalls.{buffer_refusal}
use Rattle.egl_model.specs.State.{State}

pub egl_judged : (s : State) (t : ℕ) (k : EglKind) (c : CallValue) → first_error (egl_rows_by c.kind c (facts_of s t c)) ≡ egl_refusal s t k c
unfolding egl_refusal egl_rules.egl_refusal
egl_judged s t k c = refl

pub gl_judged : (s : State) (t n : ℕ) (k : GlKind) (c : CallValue) → first_error (gl_rows_by c.kind c (gl_facts_of s t n c)) ≡ gl_refusal s t n k c
unfolding gl_refusal gl_rules.gl_refusal
gl_judged s t n k c = refl

pub buffer_judged : (s : State) (t n : ℕ) (c : CallValue) → first_error (gl_rows_by c.kind c (gl_facts_of s t n c)) ≡ buffer_refusal s t n c
unfolding buffer_refusal gl_rules.gl_refusal
buffer_judged s t n c = refl
