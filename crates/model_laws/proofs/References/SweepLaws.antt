-- What a sweep leaves: exactly what is reached.
use Rattle.std.proofs.Common.{◌≡◌, ℕ, ◌≤◌, Bool, true, false, cond, List, [], refl, sym, ap, ◌∙◌, arith, inl, inr, length, Option, None, Some, map, get_or, is_some, ◌&&◌}
use mathlib.Core.Path.{fun_ext}
use Rattle.std.proofs.lemmas.Bool.{cases_lt}
use Rattle.std.proofs.lemmas.List.{get_or_past}
use Rattle.std.proofs.lemmas.List.FromFn.{length-map-range_with_len, get_or-map-range_with_len}
use Rattle.std.specs.List.{range_with_len}
use Rattle.driver_objects.specs.declared.objects.Object.{Object}
use Rattle.egl_model.specs.Graph.{kept_edges, reached}
use Rattle.egl_model.specs.State.{State, object_at, has_object}
use Rattle.egl_model.specs.Sweep.{edges_at, edges_in, roots, is_reached, kept_in, swept, sweep}
use Rattle.model_laws.proofs.References.GraphLaws.{reached-kept}

neither : (b : Bool) (o : Option Object) → o ≡ None → cond b o None ≡ None
neither true o e = e
neither false o e = refl

nothing_past : (rs : List ℕ) (os : List (Option Object)) (n : ℕ) → length os ≤ n → kept_in rs os n ≡ None
nothing_past rs os n h = neither (reached rs (edges_at os) n) (get_or os n None) (get_or_past os n None h)

pub length-swept : (rs : List ℕ) (os : List (Option Object)) → length (swept rs os) ≡ length os
unfolding swept
length-swept rs os = length-map-range_with_len (kept_in rs os) 0 (length os)

-- an object is left where it is reached
pub object_at-swept : (rs : List ℕ) (os : List (Option Object)) (n : ℕ) → get_or (swept rs os) n None ≡ kept_in rs os n
unfolding swept
object_at-swept rs os n = elim (cases_lt n (length os)) [
  | inl h ↦ get_or-map-range_with_len (kept_in rs os) 0 (length os) n n None h (omega arith)
  | inr h ↦ get_or_past (swept rs os) n None (let e = length-swept rs os in omega (arith, e)) ∙ sym (nothing_past rs os n h)
]

kept_whole : (b : Bool) (o : Option Object) → is_some (cond b o None) ≡ true → cond b o None ≡ o
kept_whole true o h = refl
kept_whole false o h = absurd (let e : false ≡ true = h in cc)

-- what exists after a sweep is what it was
pub left_as_it_was : (rs : List ℕ) (os : List (Option Object)) (n : ℕ) → is_some (get_or (swept rs os) n None) ≡ true → get_or (swept rs os) n None ≡ get_or os n None
left_as_it_was rs os n h =
    object_at-swept rs os n ∙ kept_whole (reached rs (edges_at os) n) (get_or os n None) (ap is_some (sym (object_at-swept rs os n)) ∙ h)

edges_in-kept : (b : Bool) (o : Option Object) → edges_in (cond b o None) ≡ cond b (edges_in o) []
edges_in-kept true o = refl
edges_in-kept false o = refl

pub edges_at-swept : (rs : List ℕ) (os : List (Option Object)) → edges_at (swept rs os) ≡ kept_edges rs (edges_at os)
unfolding edges_at
edges_at-swept rs os = fun_ext (λ n. ap edges_in (object_at-swept rs os n) ∙ edges_in-kept (reached rs (edges_at os) n) (get_or os n None))

pub reached-swept : (rs : List ℕ) (os : List (Option Object)) (n : ℕ) → reached rs (edges_at (swept rs os)) n ≡ reached rs (edges_at os) n
reached-swept rs os n = ap (λ (e : ℕ → List ℕ). reached rs e n) (edges_at-swept rs os) ∙ reached-kept rs (edges_at os) n

-- the same is reached after a sweep
pub reached-sweep : (s : State) (n : ℕ) → is_reached (sweep s) n ≡ is_reached s n
reached-sweep s n = reached-swept (roots s) s.objects n

pub object_at-sweep : (s : State) (n : ℕ) → object_at (sweep s) n ≡ cond (is_reached s n) (object_at s n) None
object_at-sweep s n = object_at-swept (roots s) s.objects n

twice : (b : Bool) (o : Option Object) → cond b (cond b o None) None ≡ cond b o None
twice true o = refl
twice false o = refl

kept_in-swept : (rs : List ℕ) (os : List (Option Object)) → kept_in rs (swept rs os) ≡ kept_in rs os
kept_in-swept rs os = fun_ext (λ n. let b = reached-swept rs os n in let o = object_at-swept rs os n in let t = twice (reached rs (edges_at os) n) (get_or os n None) in cc)

swept-swept : (rs : List ℕ) (os : List (Option Object)) → swept rs (swept rs os) ≡ swept rs os
unfolding swept
swept-swept rs os =
    ap (λ k. map (kept_in rs (swept rs os)) (range_with_len 0 k)) (length-swept rs os)
    ∙ ap (λ (f : ℕ → Option Object). map f (range_with_len 0 (length os))) (kept_in-swept rs os)

-- to sweep twice is to sweep once
pub sweep-sweep : (s : State) → sweep (sweep s) ≡ sweep s
sweep-sweep s = ap (λ (os : List (Option Object)). record s { objects = os }) (swept-swept (roots s) s.objects)

kept_one : (b : Bool) (o : Option Object) → is_some (cond b o None) ≡ (is_some o && b)
kept_one true None = refl
kept_one true (Some x) = refl
kept_one false None = refl
kept_one false (Some x) = refl

-- an object exists after a sweep where one existed, and is reached
pub has_object-sweep : (s : State) (n : ℕ) → has_object (sweep s) n ≡ (has_object s n && is_reached (sweep s) n)
has_object-sweep s n =
    ap is_some (object_at-sweep s n) ∙ kept_one (is_reached s n) (object_at s n) ∙ ap (λ b. is_some (object_at s n) && b) (sym (reached-sweep s n))
