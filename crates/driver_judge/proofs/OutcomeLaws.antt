-- Outcomes that agree.
use Rattle.std.proofs.Common.{◌≡◌, ℕ, ◌==◌, ◌||◌, Bool, true, false, List, [], ◌∷◌, ◌++◌, fold, map, refl, sym, ap, ◌∙◌}
use Rattle.std.specs.Prelude.{if◌then◌else◌}
use Rattle.std.specs.List.{list_any}
use Rattle.std.specs.Ordering.{int_eq}
use Rattle.std.proofs.lemmas.Bool.Decides.{Decides-eqb, Decides-int_eq}
use Rattle.std.proofs.lemmas.List.Folds.{list_any-append}
use Rattle.egl_calls.specs.Calls.{CallValue}
use Rattle.egl_calls.specs.Errors.{egl_code, gl_code}
use Rattle.egl_calls.specs.declared.errors.EglError.{EglError}
use Rattle.egl_calls.specs.declared.errors.GlError.{GlError}
use Rattle.std.specs.Prelude.{ℤ}
use Rattle.driver_facts.specs.Verdicts.{refusals}
use Rattle.driver_facts.specs.declared.verdicts.Refusals.{Refusals}
use Rattle.driver_facts.specs.declared.verdicts.Refusals.TheVariants.{Egl as EglRows, Gl as GlRows, Unjudged}
use Rattle.egl_model.specs.State.{State}
use Rattle.log_reader.specs.declared.outcomes.LogOutcome.{LogOutcome}
use Rattle.log_reader.specs.declared.outcomes.LogOutcome.TheVariants.{Done, Egl, Gl, Unnamed}
use Rattle.driver_judge.specs.Laws.{AgreesRightly}
use Rattle.driver_judge.specs.Outcomes.{agrees, errors_in, errors_of, is_same, or_done, outcomes, with_outcome}

or_true : (b : Bool) → (b || true) ≡ true
or_true true = refl
or_true false = refl

or_false : (b : Bool) → (b || false) ≡ b
or_false true = refl
or_false false = refl

or_assoc : (a b c : Bool) → ((a || b) || c) ≡ (a || (b || c))
or_assoc true b c = refl
or_assoc false b c = refl

-- ---- What is the same as one of two that are the same is the same as the other.
same_egl : (e f : EglError) → (egl_code e == egl_code f) ≡ true → (q : LogOutcome) → is_same (Egl e) q ≡ is_same (Egl f) q
same_egl e f h Done = refl
same_egl e f h (Egl g) = ap (λ n. n == egl_code g) ((Decides-eqb (egl_code e) (egl_code f)).0 h)
same_egl e f h (Gl g) = refl
same_egl e f h (Unnamed z) = refl

same_gl : (e f : GlError) → (gl_code e == gl_code f) ≡ true → (q : LogOutcome) → is_same (Gl e) q ≡ is_same (Gl f) q
same_gl e f h Done = refl
same_gl e f h (Egl g) = refl
same_gl e f h (Gl g) = ap (λ n. n == gl_code g) ((Decides-eqb (gl_code e) (gl_code f)).0 h)
same_gl e f h (Unnamed z) = refl

same_number : (y z : ℤ) → int_eq y z ≡ true → (q : LogOutcome) → is_same (Unnamed y) q ≡ is_same (Unnamed z) q
same_number y z h Done = refl
same_number y z h (Egl g) = refl
same_number y z h (Gl g) = refl
same_number y z h (Unnamed w) = ap (λ n. int_eq n w) ((Decides-int_eq y z).0 h)

same_as : (o p : LogOutcome) → is_same o p ≡ true → (q : LogOutcome) → is_same o q ≡ is_same p q
same_as Done Done h q = refl
same_as Done (Egl f) h q = cc
same_as Done (Gl f) h q = cc
same_as Done (Unnamed z) h q = cc
same_as (Egl e) Done h q = cc
same_as (Egl e) (Egl f) h q = same_egl e f h q
same_as (Egl e) (Gl f) h q = cc
same_as (Egl e) (Unnamed z) h q = cc
same_as (Gl e) Done h q = cc
same_as (Gl e) (Egl f) h q = cc
same_as (Gl e) (Gl f) h q = same_gl e f h q
same_as (Gl e) (Unnamed z) h q = cc
same_as (Unnamed y) Done h q = cc
same_as (Unnamed y) (Egl f) h q = cc
same_as (Unnamed y) (Gl f) h q = cc
same_as (Unnamed y) (Unnamed z) h q = same_number y z h q

same_any : (o p : LogOutcome) → is_same o p ≡ true → (os : List LogOutcome) → list_any (is_same o) os ≡ list_any (is_same p) os
same_any o p h [] = refl
same_any o p h (q ∷ os) = ap (λ b. b || list_any (is_same o) os) (same_as o p h q) ∙ ap (λ b. is_same p q || b) (same_any o p h os)

-- ---- Each once is as much.
more_by : (o p : LogOutcome) (os : List LogOutcome) (b : Bool) → list_any (is_same p) os ≡ b → (c : Bool) → is_same o p ≡ c → list_any (is_same o) (if b then os else os ++ p ∷ []) ≡ (list_any (is_same o) os || c)
more_by o p os true h true e = same_any o p e os ∙ h ∙ sym (or_true (list_any (is_same o) os))
more_by o p os true h false e = sym (or_false (list_any (is_same o) os))
more_by o p os false h c e = list_any-append (is_same o) os (p ∷ []) ∙ ap (λ d. list_any (is_same o) os || d) (or_false (is_same o p) ∙ e)

one_more : (o p : LogOutcome) (os : List LogOutcome) → list_any (is_same o) (with_outcome os p) ≡ (list_any (is_same o) os || is_same o p)
one_more o p os = more_by o p os (list_any (is_same p) os) refl (is_same o p) refl

in_once : (o : LogOutcome) (done os : List LogOutcome) → list_any (is_same o) (fold with_outcome done os) ≡ (list_any (is_same o) done || list_any (is_same o) os)
in_once o done [] = sym (or_false (list_any (is_same o) done))
in_once o done (p ∷ os) =
    in_once o (with_outcome done p) os
    ∙ ap (λ b. b || list_any (is_same o) os) (one_more o p done)
    ∙ or_assoc (list_any (is_same o) done) (is_same o p) (list_any (is_same o) os)

-- ---- That a call was carried out is no error.
no_egl : (es : List EglError) → list_any (is_same Done) (map Egl es) ≡ false
no_egl [] = refl
no_egl (e ∷ es) = no_egl es

no_gl : (es : List GlError) → list_any (is_same Done) (map Gl es) ≡ false
no_gl [] = refl
no_gl (e ∷ es) = no_gl es

no_done : (r : Refusals) → list_any (is_same Done) (errors_of r) ≡ false
no_done (EglRows h) = no_egl (errors_in h.errors)
no_done (GlRows h) = no_gl (errors_in h.errors)
no_done Unjudged = refl

done_right : (es : List LogOutcome) → list_any (is_same Done) es ≡ false → list_any (is_same Done) (or_done es) ≡ true → es ≡ []
done_right [] n h = refl
done_right (x ∷ xs) n h = let e : true ≡ false = sym h ∙ in_once Done [] (x ∷ xs) ∙ n in cc

error_right : (o : LogOutcome) (es : List LogOutcome) → is_same o Done ≡ false → list_any (is_same o) (or_done es) ≡ true → list_any (is_same o) es ≡ true
error_right o [] d h = let e : true ≡ false = sym h ∙ or_false (is_same o Done) ∙ d in cc
error_right o (x ∷ xs) d h = sym (in_once o [] (x ∷ xs)) ∙ h

pub right : (s : State) (t : ℕ) (c : CallValue) (o : LogOutcome) → agrees (outcomes s t c) o ≡ true → AgreesRightly s t c o
unfolding agrees outcomes
right s t c Done h = done_right (errors_of (refusals s t c)) (no_done (refusals s t c)) h
right s t c (Egl e) h = error_right (Egl e) (errors_of (refusals s t c)) refl h
right s t c (Gl e) h = error_right (Gl e) (errors_of (refusals s t c)) refl h
right s t c (Unnamed z) h = error_right (Unnamed z) (errors_of (refusals s t c)) refl h

-- ---- The other way round.
done_agrees : (es : List LogOutcome) → es ≡ [] → list_any (is_same Done) (or_done es) ≡ true
done_agrees es h = ap (λ xs. list_any (is_same Done) (or_done xs)) h

error_agrees : (o : LogOutcome) (es : List LogOutcome) → list_any (is_same o) es ≡ true → list_any (is_same o) (or_done es) ≡ true
error_agrees o [] h = cc
error_agrees o (x ∷ xs) h = in_once o [] (x ∷ xs) ∙ h

pub right_agrees : (s : State) (t : ℕ) (c : CallValue) (o : LogOutcome) → AgreesRightly s t c o → agrees (outcomes s t c) o ≡ true
unfolding agrees outcomes
right_agrees s t c Done h = done_agrees (errors_of (refusals s t c)) h
right_agrees s t c (Egl e) h = error_agrees (Egl e) (errors_of (refusals s t c)) h
right_agrees s t c (Gl e) h = error_agrees (Gl e) (errors_of (refusals s t c)) h
right_agrees s t c (Unnamed z) h = error_agrees (Unnamed z) (errors_of (refusals s t c)) h

-- being carried out is the error of no row
pub no_row_is_done : (s : State) (t : ℕ) (c : CallValue) → list_any (is_same Done) (errors_of (refusals s t c)) ≡ true → ⊥
no_row_is_done s t c h = let e : true ≡ false = sym h ∙ no_done (refusals s t c) in cc
