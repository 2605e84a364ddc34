-- Each condition, of a call of which all other numbers are 0: it computes to the same. One condition stands apart, so that the others are tried one by one.
use Rattle.std.proofs.Common.{◌≡◌, ℕ, refl}
use Rattle.egl_calls.specs.Calls.{CallValue}
use Rattle.call_table.specs.declared.egl_conditions.EglCondition.{EglCondition}
use Rattle.call_table.specs.declared.egl_conditions.EglCondition.TheVariants.{NoDisplay}
use Rattle.call_table.specs.declared.gl_conditions.GlCondition.{GlCondition}
use Rattle.call_table.specs.declared.gl_conditions.GlCondition.TheVariants.{NoCapability}
use Rattle.call_rules.specs.EglRules.{egl_holds}
use Rattle.call_rules.specs.GlRules.{gl_holds}
use Rattle.egl_model.specs.Facts.{facts_of}
use Rattle.egl_model.specs.GlFacts.{gl_facts_of}
use Rattle.egl_model.specs.State.{State}
use Rattle.history_laws.specs.Looks.{egl_places, gl_places, seen_at}

pub egl_looked : (x : EglCondition) (s : State) (t : ℕ) (c : CallValue) → egl_holds x (seen_at (egl_places x) c) (facts_of s t (seen_at (egl_places x) c)) ≡ egl_holds x c (facts_of s t c)
egl_looked NoDisplay s t c = refl
egl_looked x s t c = refl

pub gl_looked : (x : GlCondition) (s : State) (t n : ℕ) (c : CallValue) → gl_holds x (seen_at (gl_places x) c) (gl_facts_of s t n (seen_at (gl_places x) c)) ≡ gl_holds x c (gl_facts_of s t n c)
gl_looked NoCapability s t n c = refl
gl_looked x s t n c = refl
