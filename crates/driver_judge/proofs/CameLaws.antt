-- How a call came out, beside the rows of its table that hold.
use Rattle.std.proofs.Common.{◌≡◌, ◌⊎◌, inl, inr, ℕ, ◌≤◌, ◌==◌, ◌||◌, Bool, true, false, cond, List, [], ◌∷◌, length, map, refl, sym, ap, ◌∙◌, zero, suc, arith, is_some, if◌then◌else◌, slice_index_or, Option, None, Some}
use Rattle.std.specs.Prelude.{nat_lt}
use Rattle.std.specs.List.{list_all, list_any}
use Rattle.std.proofs.lemmas.Bool.{and_parts, ltb-true}
use Rattle.std.proofs.lemmas.Bool.Decides.{Decides-eqb}
use Rattle.std.proofs.lemmas.List.{length-map}
use denote.Enum.Declared.{tag_of}
use Rattle.call_rules.specs.EglRules.{display_row, egl_holds, egl_rows_by, is_release_by, egl_refusal as egl_first}
use Rattle.call_rules.specs.GlRules.{gl_holds, gl_rows_by, rows_by, gl_refusal as gl_first}
use Rattle.call_rules.specs.declared.egl_facts.EglFacts.{EglFacts}
use Rattle.call_rules.specs.declared.gl_facts.GlFacts.{GlFacts}
use Rattle.call_table.specs.Rows.{egl_role, egl_rules, gl_rules, own_rules}
use Rattle.call_table.specs.declared.egl_table.TheConstants.{EGL_CALLS}
use Rattle.call_table.specs.declared.gl_table.TheConstants.{GL_CALLS}
use Rattle.call_table.specs.declared.own_table.TheConstants.{OWN_CALLS}
use Rattle.context_state.specs.Kinds.{context_gl_call}
use Rattle.context_state.specs.Refusals.{context_holds}
use Rattle.driver_core.specs.Judging.{noted_on}
use Rattle.driver_facts.specs.Verdicts.{gl_refusals, holding, refusals, refusals_by}
use Rattle.driver_facts.specs.declared.verdicts.Refusals.{Refusals}
use Rattle.driver_facts.specs.declared.verdicts.Refusals.TheVariants.{Egl as EglRows, Gl as GlRows, Unjudged}
use Rattle.egl_calls.specs.Calls.{CallValue}
use Rattle.egl_calls.specs.Errors.{egl_code, gl_code}
use Rattle.egl_calls.specs.contracts.kinds.EglKind as egl_kinds
use Rattle.egl_calls.specs.contracts.kinds.GlKind as gl_kinds
use Rattle.egl_calls.specs.contracts.kinds.OwnKind as own_kinds
use Rattle.egl_calls.specs.declared.errors.EglError.{EglError}
use Rattle.egl_calls.specs.declared.errors.GlError.{GlError}
use Rattle.egl_calls.specs.declared.errors.Outcome.{Outcome}
use Rattle.egl_calls.specs.declared.errors.Outcome.TheVariants.{Done as CarriedOut, Waiting}
use Rattle.egl_calls.specs.declared.kinds.GlKind.{GlKind}
use Rattle.egl_calls.specs.declared.kinds.Kind.{Kind}
use Rattle.egl_calls.specs.declared.kinds.Kind.TheVariants.{Egl as EglCall, Gl as GlCall, Own as OwnCall}
use Rattle.egl_calls.specs.declared.kinds.OwnKind.TheVariants.{Post, Await, Census, ReadFront, ReadBuffer, WaitEnd, Halt}
use Rattle.egl_model.specs.Currents.{current_context}
use Rattle.egl_model.specs.Effects.{Effect}
use Rattle.egl_model.specs.EglCalls.{egl_effect, egl_refusal}
use Rattle.egl_model.specs.Facts.{facts_of}
use Rattle.egl_model.specs.GlCalls.{gl_effect, gl_refusal}
use Rattle.egl_model.specs.GlFacts.{gl_facts_of}
use Rattle.egl_model.specs.OwnCalls.{buffer_effect, buffer_refusal, own_effect}
use Rattle.egl_model.specs.State.{State, record_of}
use Rattle.egl_model.specs.Step.{Stepped, after_egl_rules, after_gl_rules, bare, buffer_step_on, egl_step, gl_step, gl_step_on, step, step_by, step_in, wait_step}
use Rattle.egl_model.specs.Waits.{ended, is_signalled, is_wait_end}
use Rattle.log_reader.specs.declared.outcomes.LogOutcome.{LogOutcome}
use Rattle.log_reader.specs.declared.outcomes.LogOutcome.TheVariants.{Done, Egl, Gl}
use Rattle.refusal_rows.proofs.RowLaws.{all_off}
use Rattle.refusal_rows.specs.Rows.{Row, first_error, held, row_of}
use Rattle.driver_judge.specs.Laws.{told_outcome}
use Rattle.driver_judge.specs.Outcomes.{errors_in, errors_of, is_same, refused_with}
use Rattle.driver_judge.proofs.RowLaws.{no_errors}

-- ---- The first error is of a row that holds.
first_row_by : {E : Type 0} (wrap : E → LogOutcome) (b : Bool) (x e : E) (o : Option E) (es : List (Option E)) → is_same (wrap e) (wrap e) ≡ true → cond b (Some x) o ≡ Some e → (o ≡ Some e → list_any (is_same (wrap e)) (map wrap (errors_in es)) ≡ true) → list_any (is_same (wrap e)) (map wrap (errors_in (cond b (Some x) None ∷ es))) ≡ true
first_row_by wrap true x e o es self h rest = ap (λ y. is_same (wrap e) (wrap y) || list_any (is_same (wrap e)) (map wrap (errors_in es))) (some_is x e h) ∙ ap (λ b. b || list_any (is_same (wrap e)) (map wrap (errors_in es))) self
  where
    some_is : {E : Type 0} (x e : E) → Some x ≡ Some e → x ≡ e
    some_is x e h = cc
first_row_by wrap false x e o es self h rest = rest h

first_row : {E : Type 0} (wrap : E → LogOutcome) (n : ℕ) (rs : List (Row E)) (e : E) → is_same (wrap e) (wrap e) ≡ true → length rs ≤ n → first_error rs ≡ Some e → list_any (is_same (wrap e)) (map wrap (errors_in (held n rs))) ≡ true
first_row wrap n [] e self l h = cc
first_row wrap zero (r ∷ rs) e self l h = absurd (omega arith)
first_row wrap (suc n) (r ∷ rs) e self l h = first_row_by wrap r.0 r.1 e (first_error rs) (held n rs) self h (λ i. first_row wrap n rs e self (omega arith) i)

-- ---- No call has more rows than are told: that is tested of the tables, whatever stands in them.
abbrev has_few : {A : Type 0} → List A → Bool
has_few xs = nat_lt (length xs) 17

few_at : {A : Type 0} (xss : List (List A)) (n : ℕ) → list_all has_few xss ≡ true → length (slice_index_or xss n []) ≤ 16
few_at [] n h = omega arith
few_at (xs ∷ xss) zero h = omega (arith, ltb-true (length xs) 17 (and_parts _ _ h).0)
few_at (xs ∷ xss) (suc n) h = few_at xss n (and_parts _ _ h).1

few_mapped : {C E : Type 0} (f : C → Bool) (rules : List (C × E)) → length rules ≤ 16 → length (map (row_of f) rules) ≤ 16
few_mapped f rules h = omega (arith, length-map rules (row_of f), h)

few_asked : (release : Bool) (r : Row EglError) (rows : List (Row EglError)) → length rows ≤ 16 → length (if release then r ∷ [] else rows) ≤ 16
few_asked true r rows h = omega arith
few_asked false r rows h = h

pub few_egl : (k : Kind) (c : CallValue) (f : EglFacts) → length (egl_rows_by k c f) ≤ 16
few_egl (EglCall k) c f = few_asked (is_release_by (egl_role k) c) (display_row f) _ (few_mapped (λ x. egl_holds x c f) (egl_rules k) (few_at (map (λ r. r.4.now) EGL_CALLS) (tag_of egl_kinds.the_type k) refl))
few_egl k c f = omega arith

few_gl_rules : (k : GlKind) → length (gl_rules k) ≤ 16
few_gl_rules k = few_at (map (λ r. r.4.now) GL_CALLS) (tag_of gl_kinds.the_type k) refl

few_by_own : (own : Option GlKind) (k : GlKind) (c : CallValue) (f : GlFacts) → length (rows_by (λ x. gl_holds x c f) own k c) ≤ 16
few_by_own (Some own) k c f = few_mapped (λ x. context_holds x c) (gl_rules own) (few_gl_rules own)
few_by_own None k c f = few_mapped (λ x. gl_holds x c f) (gl_rules k) (few_gl_rules k)

few_gl : (k : Kind) (c : CallValue) (f : GlFacts) → length (gl_rows_by k c f) ≤ 16
few_gl (GlCall k) c f = few_by_own (context_gl_call k) k c f
few_gl (OwnCall k) c f = few_mapped (λ x. gl_holds x c f) (own_rules k) (few_at (map (λ r. r.4.now) OWN_CALLS) (tag_of own_kinds.the_type k) refl)
few_gl k c f = omega arith

-- ---- How a call came out: no row holds, and it isn't refused; or one does, and its error is all that is answered and left.
abbrev pub IsNotRefused : Outcome → Type 0
IsNotRefused o = (told_outcome o ≡ Some Done) ⊎ (told_outcome o ≡ None)

pub record IsRefusedBy (r : Refusals) (s : State) (t : ℕ) (x : Stepped) : Type 0 where
  pub error : LogOutcome
  pub row : list_any (is_same error) (errors_of r) ≡ true
  pub told : told_outcome x.reply.outcome ≡ Some error
  pub alone : x.reply ≡ bare x.reply.outcome
  pub state : x.state ≡ refused_with s t error

abbrev pub Came : Refusals → State → ℕ → Stepped → Type 0
Came r s t x = ((errors_of r ≡ []) × IsNotRefused x.reply.outcome) ⊎ IsRefusedBy r s t x

finished : (waits : Bool) → IsNotRefused (if waits then Waiting else CarriedOut)
finished true = inr refl
finished false = inl refl

equal_self : (n : ℕ) → (n == n) ≡ true
equal_self n = (Decides-eqb n n).1 refl

egl_came : (s : State) (t : ℕ) (rows : List (Row EglError)) (o : Option EglError) (f : Effect) → first_error rows ≡ o → length rows ≤ 16 → Came (EglRows (holding rows)) s t (after_egl_rules s t o f)
egl_came s t rows None f e l = inl (ap (map Egl) (no_errors 16 rows (all_off rows e)), finished f.waits)
egl_came s t rows (Some x) f e l = inr (record { error = Egl x; row = first_row Egl 16 rows x (equal_self (egl_code x)) l e; told = refl; alone = refl; state = refl })

gl_came : (s : State) (t n : ℕ) (rows : List (Row GlError)) (o : Option GlError) (f : Effect) → current_context s t ≡ Some n → first_error rows ≡ o → length rows ≤ 16 → Came (GlRows (holding rows)) s t (after_gl_rules s n o f)
gl_came s t n rows None f h e l = inl (ap (map Gl) (no_errors 16 rows (all_off rows e)), finished f.waits)
gl_came s t n rows (Some x) f h e l = inr (record { error = Gl x; row = first_row Gl 16 rows x (equal_self (gl_code x)) l e; told = refl; alone = refl; state = sym (ap (λ o. noted_on o x s) h) })

on_gl : (s : State) (t : ℕ) (o : Option ℕ) (k : GlKind) (c : CallValue) → current_context s t ≡ o → Came (gl_refusals s t o c) s t (gl_step_on s t o k c)
unfolding gl_refusal gl_first
on_gl s t None k c h = inl (refl, inl refl)
on_gl s t (Some n) k c h = gl_came s t n (gl_rows_by c.kind c (gl_facts_of s t n c)) (gl_refusal s t n k c) (gl_effect s t n k c) h refl (few_gl c.kind c (gl_facts_of s t n c))

on_buffer : (s : State) (t : ℕ) (o : Option ℕ) (c : CallValue) → current_context s t ≡ o → Came (gl_refusals s t o c) s t (buffer_step_on s t o c)
unfolding buffer_refusal gl_first
on_buffer s t None c h = inl (refl, inl refl)
on_buffer s t (Some n) c h = gl_came s t n (gl_rows_by c.kind c (gl_facts_of s t n c)) (buffer_refusal s t n c) (buffer_effect s t n c) h refl (few_gl c.kind c (gl_facts_of s t n c))

by_kind : (s : State) (t : ℕ) (k : Kind) (c : CallValue) → Came (refusals_by s t k c) s t (step_by s t k c)
unfolding egl_step gl_step egl_refusal egl_first
by_kind s t (EglCall k) c = egl_came s t (egl_rows_by c.kind c (facts_of s t c)) (egl_refusal s t k c) (egl_effect s t k c) refl (few_egl c.kind c (facts_of s t c))
by_kind s t (GlCall k) c = on_gl s t (current_context s t) k c refl
by_kind s t (OwnCall ReadBuffer) c = on_buffer s t (current_context s t) c refl
by_kind s t (OwnCall WaitEnd) c = inl (refl, inr refl)
by_kind s t (OwnCall Post) c = inl (refl, finished (own_effect s t Post c).waits)
by_kind s t (OwnCall Await) c = inl (refl, finished (own_effect s t Await c).waits)
by_kind s t (OwnCall Census) c = inl (refl, finished (own_effect s t Census c).waits)
by_kind s t (OwnCall ReadFront) c = inl (refl, finished (own_effect s t ReadFront c).waits)
by_kind s t (OwnCall Halt) c = inl (refl, finished (own_effect s t Halt c).waits)

in_wait : (s : State) (t : ℕ) (ends signalled : Bool) → IsNotRefused (wait_step s t ends signalled).reply.outcome
in_wait s t false signalled = inr refl
in_wait s t true false = inr refl
in_wait s t true true = finished (ended s t).waits

by_wait : (wait : Option ℕ) (s : State) (t : ℕ) (c : CallValue) → Came (if is_some wait then Unjudged else refusals_by s t c.kind c) s t (step_in wait s t c)
by_wait (Some sync) s t c = inl (refl, in_wait s t (is_wait_end c.kind) (is_signalled s sync))
by_wait None s t c = by_kind s t c.kind c

pub came : (s : State) (t : ℕ) (c : CallValue) → Came (refusals s t c) s t (step s t c)
unfolding refusals step
came s t c = by_wait (record_of s t).wait s t c
