-- A call of which only some numbers are there.
use Rattle.std.specs.Prelude.{ℕ, pos, Bool, ◌==◌, List, [], ◌∷◌, if◌then◌else◌, map}
use Rattle.std.specs.List.{list_any}
use Rattle.egl_calls.specs.Arguments.{signed}
use Rattle.egl_calls.specs.Calls.{CallValue}
use Rattle.egl_calls.specs.declared.places.TheConstants.{BOUND_NAME}
use Rattle.call_table.specs.declared.egl_conditions.EglCondition.{EglCondition}
use Rattle.call_table.specs.declared.gl_conditions.GlCondition.{GlCondition}
use Rattle.call_table.specs.declared.gl_conditions.GlCondition.TheVariants.{NegativeName}
use Rattle.table_laws.specs.Words.{egl_looks, gl_looks}

-- the places at which a condition looks: of a name that is bound the role tells the parameter
abbrev pub egl_places : EglCondition → List ℕ
egl_places x = map (λ p. p.0) (egl_looks x)

abbrev pub gl_places : GlCondition → List ℕ
gl_places NegativeName = BOUND_NAME ∷ []
gl_places x = map (λ p. p.0) (gl_looks x)

abbrev pub is_place : List ℕ → ℕ → Bool
is_place places k = list_any (λ p. p == k) places

-- the call with the numbers at these places alone, and 0 at each other
abbrev pub seen_at : List ℕ → CallValue → CallValue
seen_at places c = record c { args = map (λ k. if is_place places k then signed c k else pos 0) (0 ∷ 1 ∷ 2 ∷ 3 ∷ 4 ∷ 5 ∷ 6 ∷ 7 ∷ []) }
