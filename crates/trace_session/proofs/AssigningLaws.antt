-- The lines that assign variables.
use Rattle.std.proofs.Common.{◌≡◌, ℕ, zero, suc, ◌+◌, List, [], ◌∷◌, refl, sym, ap, ◌∙◌, subst, arith, Option, None, Some}
use Rattle.std.specs.Prelude.{if◌then◌else◌, is_some, slice_get}
use Rattle.std.specs.Option.{option_map}
use Rattle.trace_reader.specs.declared.traces.Line.{Line}
use Rattle.trace_reader.specs.Traces.{TraceValue}
use Rattle.trace_reader.specs.Order.{AreInOrder, IsNext, IsTrace, more_variables}
use Rattle.trace_session.specs.Answers.{assigning_line}
use Rattle.trace_session.specs.Chains.{assigning_from}
use Rattle.trace_session.specs.Sessions.{variables_of}
use Rattle.trace_session.proofs.TraceFacts.{facts_of}

-- a line of the list assigns the variable, and stands at this place, where the list begins at another
record IsAssignedAt (lines : List Line) (v from place : ℕ) : Type 0 where
  line : Line
  at : ℕ
  place_is : place ≡ from + at
  here : slice_get lines at ≡ Some line
  assigned : line.assigns ≡ Some v

later_at : (x : Line) (xs : List Line) (v w from place : ℕ) → w ≡ v → IsAssignedAt xs w (from + 1) place → IsAssignedAt (x ∷ xs) v from place
later_at x xs v w from place same a = record {
  line = a.line;
  at = suc a.at;
  place_is = let p = a.place_is in omega (arith, p);
  here = a.here;
  assigned = a.assigned ∙ ap {B = Option ℕ} (λ (n : ℕ). Some n) same;
}

first_at : (x : Line) (xs : List Line) (v w from place : ℕ) → x.assigns ≡ Some w → w ≡ v → from ≡ place → IsAssignedAt (x ∷ xs) v from place
first_at x xs v w from place e same at = record {
  line = x;
  at = 0;
  place_is = omega (arith, at);
  here = refl;
  assigned = e ∙ ap {B = Option ℕ} (λ (n : ℕ). Some n) same;
}

by_assigns : (x : Line) (xs : List Line) (v w from j place : ℕ) → w ≡ v + j → IsNext v x.assigns
    → ((u i : ℕ) → u ≡ more_variables v x.assigns + i → slice_get (assigning_from (from + 1) xs) i ≡ Some place → IsAssignedAt xs u (from + 1) place)
    → (a : Option ℕ) → x.assigns ≡ a → slice_get (if is_some a then from ∷ assigning_from (from + 1) xs else assigning_from (from + 1) xs) j ≡ Some place → IsAssignedAt (x ∷ xs) w from place
by_assigns x xs v w from j place is next later None e g =
    let more : more_variables v x.assigns ≡ v = ap (more_variables v) e in
    later_at x xs w w from place refl (later w j (omega (arith, is, more)) g)
by_assigns x xs v w from zero place is next later (Some u) e g =
    let N : Option ℕ → Type 0 = λ o. IsNext v o in
    let own : u ≡ v = subst N e next in
    let at : from ≡ place = cc in
    first_at x xs w u from place e (omega (arith, own, is)) at
by_assigns x xs v w from (suc i) place is next later (Some u) e g =
    let more : more_variables v x.assigns ≡ v + 1 = ap (more_variables v) e in
    later_at x xs w w from place refl (later w i (omega (arith, is, more)) g)

assigned_place : (threads all n v : ℕ) (lines : List Line) → AreInOrder threads all n v lines → (from place w j : ℕ) → w ≡ v + j → slice_get (assigning_from from lines) j ≡ Some place → IsAssignedAt lines w from place
assigned_place threads all n v [] o from place w j is g = absurd (let f : None ≡ Some place = g in cc)
assigned_place threads all n v (x ∷ xs) o from place w j is g =
    by_assigns x xs v w from j place is o.2.assigns (λ u i same h. assigned_place threads all (x.number + 1) (more_variables v x.assigns) xs o.3 (from + 1) place u i same h) x.assigns refl g

-- the line at a variable's place is the one that assigns it
pub assigning_line_is : (t : TraceValue) → IsTrace t → (places : List ℕ) → places ≡ assigning_from 0 t.lines → (v place : ℕ) (l : Line) → slice_get places v ≡ Some place → slice_get t.lines place ≡ Some l → assigning_line t v ≡ Some l.number
assigning_line_is t i places all v place l at here =
    let P : List ℕ → Type 0 = λ ps. slice_get ps v ≡ Some place in
    let a = assigned_place t.threads (variables_of t) 2 0 t.lines i.lines 0 place v v (omega arith) (subst P all at) in
    let f = (facts_of t i).assigned a.at a.line v a.here a.assigned in
    let k : a.at ≡ place = let p = a.place_is in omega (arith, p) in
    ap (option_map (λ (m : Line). m.number)) (f.found ∙ sym a.here ∙ ap (slice_get t.lines) k ∙ here)
