-- The first row that holds decides.
use Rattle.std.proofs.Common.{◌≡◌, ℕ, zero, suc, ◌≤◌, Bool, true, false, cond, List, [], ◌∷◌, length, Option, None, Some, is_some, if◌then◌else◌, refl, ap, arith, ◌∙◌, map, slice_index_or}
use Rattle.std.specs.Prelude.{nat_lt}
use Rattle.std.specs.List.{list_all}
use Rattle.std.specs.Option.{option_map}
use Rattle.std.proofs.lemmas.Bool.{and_parts, ltb-true}
use Rattle.std.proofs.lemmas.List.{length-map}
use denote.Enum.Declared.{tag_of}
use Rattle.egl_calls.specs.Calls.{CallValue}
use Rattle.egl_calls.specs.declared.kinds.Kind.{Kind}
use Rattle.egl_calls.specs.declared.kinds.Kind.TheVariants.{Egl, Gl, Own}
use Rattle.egl_calls.specs.declared.kinds.EglKind.{EglKind}
use Rattle.egl_calls.specs.declared.kinds.GlKind.{GlKind}
use Rattle.egl_calls.specs.declared.kinds.OwnKind.{OwnKind}
use Rattle.egl_calls.specs.declared.kinds.OwnKind.TheVariants.{WaitEnd}
use Rattle.egl_calls.specs.contracts.kinds.EglKind as egl_kinds
use Rattle.egl_calls.specs.contracts.kinds.GlKind as gl_kinds
use Rattle.egl_calls.specs.contracts.kinds.OwnKind as own_kinds
use Rattle.egl_calls.specs.declared.errors.EglError.{EglError}
use Rattle.egl_calls.specs.declared.errors.GlError.{GlError}
use Rattle.egl_calls.specs.declared.errors.Outcome.TheVariants.{Done, Waiting, Egl as RefusedEgl, Gl as RefusedGl}
use Rattle.refusal_rows.specs.Rows.{Row, first_error, held, row_of}
use Rattle.call_table.specs.Rows.{egl_role, egl_rules, gl_rules, own_rules}
use Rattle.call_table.specs.declared.egl_table.TheConstants.{EGL_CALLS}
use Rattle.call_table.specs.declared.gl_table.TheConstants.{GL_CALLS}
use Rattle.call_table.specs.declared.own_table.TheConstants.{OWN_CALLS}
use Rattle.context_state.specs.Kinds.{context_gl_call}
use Rattle.context_state.specs.Refusals.{context_holds, context_rows}
use Rattle.call_rules.specs.EglRules.{display_row, egl_holds, egl_rows, egl_rows_by, is_release_by, egl_refusal as egl_first}
use Rattle.call_rules.specs.GlRules.{gl_holds, gl_rows_by, rows_by, gl_refusal as gl_first}
use Rattle.call_rules.specs.declared.egl_facts.EglFacts.{EglFacts}
use Rattle.call_rules.specs.declared.gl_facts.GlFacts.{GlFacts}
use Rattle.egl_model.specs.Currents.{current_context}
use Rattle.egl_model.specs.Effects.{Effect}
use Rattle.egl_model.specs.EglCalls.{egl_effect, egl_refusal}
use Rattle.egl_model.specs.Facts.{facts_of}
use Rattle.egl_model.specs.GlCalls.{gl_effect, gl_refusal}
use Rattle.egl_model.specs.GlFacts.{gl_facts_of}
use Rattle.egl_model.specs.OwnCalls.{buffer_effect, buffer_refusal}
use Rattle.egl_model.specs.State.{State, record_of}
use Rattle.egl_model.specs.Step.{after_egl_rules, after_gl_rules, buffer_step_on, egl_step, gl_step, gl_step_on, own_step, step, step_by, step_in, wait_step}
use Rattle.egl_model.specs.Waits.{ended, is_signalled, is_wait_end}
use Rattle.driver_facts.specs.Verdicts.{gl_refusals, refusals, refusals_by}
use Rattle.driver_facts.specs.declared.verdicts.Refusals.TheVariants.{Unjudged}
use Rattle.egl_explain.specs.Deciding.{deciding, first_of, refusal_in}

-- ---- Lists of rows.
abbrev no_rows : (E : Type 0) → List (Row E)
no_rows E = []

none_first : (E : Type 0) (n : ℕ) → first_of (held n (no_rows E)) ≡ None
none_first E zero = refl
none_first E (suc n) = none_first E n

row_first : {E : Type 0} (b : Bool) (e : E) (xs : List (Option E)) → first_of ((if b then Some e else None) ∷ xs) ≡ (if b then Some e else first_of xs)
row_first true e xs = refl
row_first false e xs = refl

-- the first error of a list of rows is the first of those that hold
first_held : {E : Type 0} (n : ℕ) (rs : List (Row E)) → length rs ≤ n → first_of (held n rs) ≡ first_error rs
first_held {E = E} n [] h = none_first E n
first_held zero (r ∷ rs) h = absurd (omega (arith, h))
first_held (suc n) (r ∷ rs) h = row_first r.0 r.1 (held n rs) ∙ ap (λ y. cond r.0 (Some r.1) y) (first_held n rs (omega (arith, h)))

-- ---- Outcomes.
not_refused : (waits : Bool) → None ≡ refusal_in (if waits then Waiting else Done)
not_refused true = refl
not_refused false = refl

egl_decided : (s : State) (t : ℕ) (o : Option EglError) (f : Effect) → option_map RefusedEgl o ≡ refusal_in (after_egl_rules s t o f).reply.outcome
egl_decided s t (Some e) f = refl
egl_decided s t None f = not_refused f.waits

gl_decided : (s : State) (n : ℕ) (o : Option GlError) (f : Effect) → option_map RefusedGl o ≡ refusal_in (after_gl_rules s n o f).reply.outcome
gl_decided s n (Some e) f = refl
gl_decided s n None f = not_refused f.waits

-- ---- No call has more than sixteen rows: that is tested of the tables, whatever stands in them.
abbrev has_few : {A : Type 0} → List A → Bool
has_few xs = nat_lt (length xs) 17

few_at : {A : Type 0} (xss : List (List A)) (n : ℕ) → list_all has_few xss ≡ true → length (slice_index_or xss n []) ≤ 16
few_at [] n h = omega arith
few_at (xs ∷ xss) zero h = omega (arith, ltb-true (length xs) 17 (and_parts _ _ h).0)
few_at (xs ∷ xss) (suc n) h = few_at xss n (and_parts _ _ h).1

few_egl_rules : (k : EglKind) → length (egl_rules k) ≤ 16
few_egl_rules k = few_at (map (λ r. r.4.now) EGL_CALLS) (tag_of egl_kinds.the_type k) refl

few_gl_rules : (k : GlKind) → length (gl_rules k) ≤ 16
few_gl_rules k = few_at (map (λ r. r.4.now) GL_CALLS) (tag_of gl_kinds.the_type k) refl

few_own_rules : (k : OwnKind) → length (own_rules k) ≤ 16
few_own_rules k = few_at (map (λ r. r.4.now) OWN_CALLS) (tag_of own_kinds.the_type k) refl

-- as many rows as rules
few_rows : {C E : Type 0} (f : C → Bool) (rules : List (C × E)) → length rules ≤ 16 → length (map (row_of f) rules) ≤ 16
few_rows f rules h = omega (arith, length-map rules (row_of f), h)

few_asked : (release : Bool) (r : Row EglError) (rows : List (Row EglError)) → length rows ≤ 16 → length (if release then r ∷ [] else rows) ≤ 16
few_asked true r rows h = omega arith
few_asked false r rows h = h

few_egl : (k : EglKind) (c : CallValue) (f : EglFacts) → length (egl_rows k c f) ≤ 16
few_egl k c f = few_asked (is_release_by (egl_role k) c) (display_row f) (map (row_of (λ x. egl_holds x c f)) (egl_rules k)) (few_rows (λ x. egl_holds x c f) (egl_rules k) (few_egl_rules k))

few_own_state : (own : GlKind) (c : CallValue) → length (context_rows own c) ≤ 16
few_own_state own c = few_rows (λ x. context_holds x c) (gl_rules own) (few_gl_rules own)

few_gl : (own : Option GlKind) (k : GlKind) (c : CallValue) (f : GlFacts) → length (rows_by (λ x. gl_holds x c f) own k c) ≤ 16
few_gl (Some own) k c f = few_own_state own c
few_gl None k c f = few_rows (λ x. gl_holds x c f) (gl_rules k) (few_gl_rules k)

few_egl_by : (k : Kind) (c : CallValue) (f : EglFacts) → length (egl_rows_by k c f) ≤ 16
few_egl_by (Egl k) c f = few_egl k c f
few_egl_by k c f = omega arith

few_gl_by : (k : Kind) (c : CallValue) (f : GlFacts) → length (gl_rows_by k c f) ≤ 16
few_gl_by (Gl k) c f = few_gl (context_gl_call k) k c f
few_gl_by (Own k) c f = few_rows (λ x. gl_holds x c f) (own_rules k) (few_own_rules k)
few_gl_by k c f = omega arith

-- the first error of each of these tables
first_egl : (c : CallValue) (f : EglFacts) → option_map RefusedEgl (first_of (held 16 (egl_rows_by c.kind c f))) ≡ option_map RefusedEgl (first_error (egl_rows_by c.kind c f))
first_egl c f = ap (option_map RefusedEgl) (first_held 16 (egl_rows_by c.kind c f) (few_egl_by c.kind c f))

first_gl : (c : CallValue) (f : GlFacts) → option_map RefusedGl (first_of (held 16 (gl_rows_by c.kind c f))) ≡ option_map RefusedGl (first_error (gl_rows_by c.kind c f))
first_gl c f = ap (option_map RefusedGl) (first_held 16 (gl_rows_by c.kind c f) (few_gl_by c.kind c f))

-- ---- Calls by their kinds.
on_gl : (s : State) (t : ℕ) (n : Option ℕ) (k : GlKind) (c : CallValue) → deciding (gl_refusals s t n c) ≡ refusal_in (gl_step_on s t n k c).reply.outcome
unfolding gl_refusal gl_first
on_gl s t None k c = refl
on_gl s t (Some n) k c = first_gl c (gl_facts_of s t n c) ∙ gl_decided s n (first_error (gl_rows_by c.kind c (gl_facts_of s t n c))) (gl_effect s t n k c)

on_buffer : (s : State) (t : ℕ) (n : Option ℕ) (c : CallValue) → deciding (gl_refusals s t n c) ≡ refusal_in (buffer_step_on s t n c).reply.outcome
unfolding buffer_refusal gl_first
on_buffer s t None c = refl
on_buffer s t (Some n) c = first_gl c (gl_facts_of s t n c) ∙ gl_decided s n (first_error (gl_rows_by c.kind c (gl_facts_of s t n c))) (buffer_effect s t n c)

buffer_decided : (s : State) (t : ℕ) (c : CallValue) → deciding (gl_refusals s t (current_context s t) c) ≡ refusal_in (buffer_step_on s t (current_context s t) c).reply.outcome
buffer_decided s t c = on_buffer s t (current_context s t) c

-- a call of this project is refused as one of OpenGL ES, or by nothing
on_own : (s : State) (t : ℕ) (k : OwnKind) (c : CallValue) → deciding (refusals_by s t (Own k) c) ≡ refusal_in (own_step s t k c).reply.outcome
on_own s t WaitEnd c = refl
on_own s t k c = search (buffer_decided, not_refused)

by_kind : (s : State) (t : ℕ) (k : Kind) (c : CallValue) → deciding (refusals_by s t k c) ≡ refusal_in (step_by s t k c).reply.outcome
unfolding egl_step gl_step egl_refusal egl_first
by_kind s t (Egl k) c = first_egl c (facts_of s t c) ∙ egl_decided s t (first_error (egl_rows_by c.kind c (facts_of s t c))) (egl_effect s t k c)
by_kind s t (Gl k) c = on_gl s t (current_context s t) k c
by_kind s t (Own k) c = on_own s t k c

-- ---- A thread that waits.
in_wait : (s : State) (t : ℕ) (ends signalled : Bool) → None ≡ refusal_in (wait_step s t ends signalled).reply.outcome
in_wait s t false signalled = refl
in_wait s t true false = refl
in_wait s t true true = not_refused (ended s t).waits

by_wait : (wait : Option ℕ) (s : State) (t : ℕ) (c : CallValue) → deciding (if is_some wait then Unjudged else refusals_by s t c.kind c) ≡ refusal_in (step_in wait s t c).reply.outcome
by_wait (Some sync) s t c = in_wait s t (is_wait_end c.kind) (is_signalled s sync)
by_wait None s t c = by_kind s t c.kind c

pub decided : (s : State) (t : ℕ) (c : CallValue) → deciding (refusals s t c) ≡ refusal_in (step s t c).reply.outcome
unfolding refusals step
decided s t c = by_wait (record_of s t).wait s t c
