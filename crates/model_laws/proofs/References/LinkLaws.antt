-- In linked states a chain is short, and a sweep leaves them linked.
use Rattle.std.proofs.Common.{◌≡◌, ℕ, zero, suc, ◌+◌, ◌<◌, ◌≤◌, inl, inr, Bool, true, false, cond, List, [], refl, sym, ap, ◌∙◌, arith, Option, None, Some, is_some}
use Rattle.std.proofs.lemmas.Bool.{or_cases, or_left, or_right}
use Rattle.std.proofs.lemmas.List.Folds.{list_any-append}
use Rattle.std.specs.Prelude.{◌==◌}
use Rattle.std.specs.List.{flat_map}
use Rattle.egl_calls.proofs.Truths.{same_truth}
use Rattle.driver_objects.specs.declared.objects.Object.{Object}
use Rattle.driver_objects.specs.declared.objects.Object.TheVariants.{Context, Group, Texture, Buffer, Renderbuffer, Framebuffer, Surface, Storage, Image, Sync}
use Rattle.egl_model.specs.Graph.{is_in, marked}
use Rattle.egl_model.specs.State.{State, object_at, has_object}
use Rattle.egl_model.specs.Sweep.{edges_at, is_reached, roots, sweep}
use Rattle.model_laws.specs.Laws.{HasNoLitter}
use Rattle.egl_model.specs.Links.{is_led_to, rank_in, refers, IsLinked}
use Rattle.model_laws.proofs.References.GraphLaws.{any_at, any_found, is_in-flat_map}
use Rattle.model_laws.proofs.References.SweepLaws.{edges_at-swept, object_at-sweep}

rank_top : (o : Option Object) → rank_in o ≤ 4
rank_top None = omega arith
rank_top (Some (Context c)) = omega arith
rank_top (Some (Group a)) = omega arith
rank_top (Some (Texture a)) = omega arith
rank_top (Some (Buffer x)) = omega arith
rank_top (Some (Renderbuffer x)) = omega arith
rank_top (Some (Framebuffer x)) = omega arith
rank_top (Some (Surface x)) = omega arith
rank_top (Some (Storage x)) = omega arith
rank_top (Some (Image x)) = omega arith
rank_top (Some (Sync x)) = omega arith

pub root_marked : (rs : List ℕ) (edges : ℕ → List ℕ) (k n : ℕ) → is_in n rs ≡ true → is_in n (marked rs edges k) ≡ true
unfolding marked
root_marked rs edges zero n h = h
root_marked rs edges (suc k) n h = list_any-append (λ y. y == n) rs _ ∙ or_left _ _ h

next_marked : (rs : List ℕ) (edges : ℕ → List ℕ) (k m n : ℕ) → is_in m (marked rs edges k) ≡ true → is_in n (edges m) ≡ true → is_in n (marked rs edges (suc k)) ≡ true
unfolding marked
next_marked rs edges k m n h e = list_any-append (λ y. y == n) rs _ ∙ or_right _ _ (is_in-flat_map edges n (marked rs edges k) ∙ any_at (λ x. is_in n (edges x)) m (marked rs edges k) h e)

one_less : (rs : List ℕ) (edges : ℕ → List ℕ) (rank : ℕ → ℕ) → ((m n : ℕ) → is_in n (edges m) ≡ true → rank n < rank m) → ((n : ℕ) → rank n ≤ 4) →
    (k j n m : ℕ) → is_in m (marked rs edges k) ≡ true → is_in n (edges m) ≡ true → 4 ≤ rank n + j →
    ((j m : ℕ) → is_in m (marked rs edges k) ≡ true → 4 ≤ rank m + j → is_in m (marked rs edges j) ≡ true) → is_in n (marked rs edges j) ≡ true
one_less rs edges rank falls top k zero n m h e r more = let a = falls m n e in let b = top m in absurd (omega arith)
one_less rs edges rank falls top k (suc j) n m h e r more = let a = falls m n e in next_marked rs edges j m n (more j m h (omega arith)) e

-- what any number of references lead to, few lead to: as many as ranks are above its own
by_ranks : (rs : List ℕ) (edges : ℕ → List ℕ) (rank : ℕ → ℕ) → ((m n : ℕ) → is_in n (edges m) ≡ true → rank n < rank m) → ((n : ℕ) → rank n ≤ 4) →
    (k j n : ℕ) → is_in n (marked rs edges k) ≡ true → 4 ≤ rank n + j → is_in n (marked rs edges j) ≡ true
unfolding marked
by_ranks rs edges rank falls top zero j n h r = root_marked rs edges j n h
by_ranks rs edges rank falls top (suc k) j n h r =
    elim (or_cases _ _ (sym (list_any-append (λ y. y == n) rs (flat_map edges (marked rs edges k))) ∙ h)) [
      | inl e ↦ root_marked rs edges j n e
      | inr e ↦ let f = any_found (λ x. is_in n (edges x)) (marked rs edges k) (sym (is_in-flat_map edges n (marked rs edges k)) ∙ e) in
          one_less rs edges rank falls top k j n f.0 f.1 f.2 r (by_ranks rs edges rank falls top k)
    ]

-- whatever number of references leads to an object, it is reached
pub chains_are_short : (s : State) → IsLinked s → (k n : ℕ) → is_led_to s k n ≡ true → is_reached s n ≡ true
chains_are_short s l k n h = by_ranks (roots s) (edges_at s.objects) (λ n. rank_in (object_at s n)) l.falls (λ n. rank_top (object_at s n)) k 4 n h (omega arith)

-- what is reached exists
pub exists_marked : (s : State) → IsLinked s → (k n : ℕ) → is_led_to s k n ≡ true → has_object s n ≡ true
unfolding marked
exists_marked s l zero n h = l.roots n h
exists_marked s l (suc k) n h =
    elim (or_cases _ _ (sym (list_any-append (λ y. y == n) (roots s) (flat_map (edges_at s.objects) (marked (roots s) (edges_at s.objects) k))) ∙ h)) [
      | inl e ↦ l.roots n e
      | inr e ↦ let f = any_found (λ x. is_in n (edges_at s.objects x)) (marked (roots s) (edges_at s.objects) k) (sym (is_in-flat_map (edges_at s.objects) n (marked (roots s) (edges_at s.objects) k)) ∙ e) in l.edges f.0 n f.2
    ]

pub reached_exists : (s : State) → IsLinked s → (n : ℕ) → is_reached s n ≡ true → has_object s n ≡ true
reached_exists s l n h = exists_marked s l 4 n h

-- so an object exists exactly where it is reached
pub exactly_reached : (s : State) → IsLinked s → HasNoLitter s → (n : ℕ) → has_object s n ≡ is_reached s n
exactly_reached s l g n = same_truth _ _ (g.each n) (reached_exists s l n)

-- ---- A sweep of a linked state.
refers-swept : (b : Bool) (xs : List ℕ) (n : ℕ) → is_in n (cond b xs []) ≡ true → (b ≡ true) × (is_in n xs ≡ true)
refers-swept true xs n h = (refl, h)
refers-swept false xs n h = absurd (let e : false ≡ true = h in cc)

refers-sweep : (s : State) (m n : ℕ) → refers (sweep s) m n ≡ true → (is_reached s m ≡ true) × (refers s m n ≡ true)
refers-sweep s m n h = refers-swept (is_reached s m) (edges_at s.objects m) n (ap (λ (es : ℕ → List ℕ). is_in n (es m)) (sym (edges_at-swept (roots s) s.objects)) ∙ h)

kept_whole : (b : Bool) (o : Option Object) → b ≡ true → cond b o None ≡ o
kept_whole true o h = refl
kept_whole false o h = absurd (let e : false ≡ true = h in cc)

pub same_object : (s : State) (n : ℕ) → is_reached s n ≡ true → object_at (sweep s) n ≡ object_at s n
same_object s n h = object_at-sweep s n ∙ kept_whole (is_reached s n) (object_at s n) h

pub reached_on : (s : State) → IsLinked s → (m n : ℕ) → is_reached s m ≡ true → refers s m n ≡ true → is_reached s n ≡ true
reached_on s l m n h e = chains_are_short s l 5 n (next_marked (roots s) (edges_at s.objects) 4 m n h e)

kept_object : (s : State) → IsLinked s → (n : ℕ) → is_reached s n ≡ true → has_object (sweep s) n ≡ true
kept_object s l n h = ap is_some (same_object s n h) ∙ reached_exists s l n h

pub linked-sweep : (s : State) → IsLinked s → IsLinked (sweep s)
linked-sweep s l = record {
  roots = λ n h. kept_object s l n (root_marked (roots s) (edges_at s.objects) 4 n h);
  edges = λ m n h. let r = refers-sweep s m n h in kept_object s l n (reached_on s l m n r.0 r.1);
  falls = λ m n h. let r = refers-sweep s m n h in
      let a = ap rank_in (same_object s m r.0) in let b = ap rank_in (same_object s n (reached_on s l m n r.0 r.1)) in let c = l.falls m n r.1 in omega (arith, a, b, c);
}
