-- Levels that a glTexImage2D gives textures.
use Rattle.std.proofs.Common.{◌≡◌, ℕ, ◌+◌, ◌<◌, ◌≤◌, List, [], ◌∷◌, ◌++◌, length, refl, ap, ◌∙◌, subst, inl, inr, arith, Option, None, Some}
use Rattle.std.proofs.lemmas.Bool.{cases_lt, eqb-true, not-false}
use Rattle.std.proofs.lemmas.List.{set_past}
use Rattle.std.specs.List.{sum_by}
use Rattle.model_laws.proofs.References.Places.{same_at_set}
use Rattle.std.proofs.lemmas.List.Sums.{sum_by-append, sum_by-set}
use Rattle.std.specs.Prelude.{IfSome, IsSome, is_some}
use Rattle.std.proofs.Common.{get_or}
use Rattle.egl_model.specs.Links.{rank_in}
use Rattle.egl_model.specs.Objects.{change_context, storage_in, with_context}
use Rattle.egl_model.specs.GlCalls.{gl_refusal}
use Rattle.egl_model.specs.GlFacts.{gl_facts_of}
use Rattle.egl_model.specs.Bindings.{named_at}
use Rattle.egl_model.specs.Textures.{level_of, level_storage}
use Rattle.std.specs.Option.{option_and_then, option_map_or}
use Rattle.egl_calls.specs.Calls.{CallValue}
use Rattle.egl_calls.specs.declared.kinds.Kind.TheVariants.{Gl}
use Rattle.egl_calls.specs.declared.kinds.GlKind.TheVariants.{TexParameteriv, TexSubImage2d}
use Rattle.pixel_rows.specs.Rects.{IsInside}
use Rattle.pixel_rows.specs.declared.rects.Rect.{Rect}
use Rattle.call_rules.specs.GlAllowed.{PartAllowed}
use Rattle.call_rules.proofs.GlLaws.{part_allowed, rows_off}
use Rattle.texture_objects.specs.Uploads.{part_rect}
use Rattle.driver_objects.specs.Objects.{edges_of}
use Rattle.driver_objects.specs.Storages.{StorageValue}
use Rattle.driver_objects.specs.declared.objects.Object.{Object}
use Rattle.driver_objects.specs.declared.objects.Object.TheVariants.{Context, Storage}
use Rattle.egl_model.specs.State.{State}
use Rattle.egl_model.specs.Sweep.{swept}
use Rattle.object_table.specs.Lets.{Lets}
use Rattle.object_table.specs.Links.{IsLeft}
use Rattle.object_table.specs.Tables.{AreHolds, TableValue, weight_of}
use Rattle.object_table.proofs.LeftLaws.{left_by_sweep, left_then}
use Rattle.driver_core.specs.Costs.{IsCheap}

-- ---- What is known of a glTexSubImage2D that isn't refused.
abbrev width_of : Option StorageValue → ℕ
width_of o = option_map_or (λ v. v.width) o 0

abbrev height_of : Option StorageValue → ℕ
height_of o = option_map_or (λ v. v.height) o 0

stored_inside : (o : Option StorageValue) (r : Rect) → IsInside r (width_of o) (height_of o) → IfSome o (λ v. IsInside r v.width v.height)
stored_inside None r i = tt
stored_inside (Some v) r i = i

pub part_passed : (s : State) (t n : ℕ) (c : CallValue) → c.kind ≡ Gl TexSubImage2d → gl_refusal s t n TexSubImage2d c ≡ None → PartAllowed c (gl_facts_of s t n c)
unfolding gl_refusal
part_passed s t n c h r = part_allowed c (gl_facts_of s t n c) h r

pub part_within : (s : State) (t n m : ℕ) (c : CallValue) → c.kind ≡ Gl TexSubImage2d → gl_refusal s t n TexSubImage2d c ≡ None → level_storage s n (level_of c) ≡ Some m → IfSome (storage_in s.objects m) (λ v. IsInside (part_rect c) v.width v.height)
part_within s t n m c h r e =
    stored_inside (storage_in s.objects m) (part_rect c)
    (subst (λ (o : Option ℕ). IsInside (part_rect c) (width_of (option_and_then (storage_in s.objects) o)) (height_of (option_and_then (storage_in s.objects) o))) e (part_passed s t n c h r).inside)

-- glTexParameteriv: four numbers
pub crop_four : (s : State) (t n : ℕ) (c : CallValue) → c.kind ≡ Gl TexParameteriv → gl_refusal s t n TexParameteriv c ≡ None → length c.list ≡ 4
unfolding gl_refusal
crop_four s t n c h r = eqb-true (length c.list) 4 (not-false _ (rows_off c (gl_facts_of s t n c) TexParameteriv h r).1.1.0)

-- ---- A storage that is made and held, to which a level refers, and that is let go.
pub weighs_storage : (os : List (Option Object)) (v : StorageValue) → weight_of (os ++ Some (Storage v) ∷ []) ≡ weight_of os + 1
unfolding weight_of
weighs_storage os v = sum_by-append (λ o. option_map_or (λ (x : Object). 1 + length (edges_of x)) o 0) os (Some (Storage v) ∷ [])

pub held_again : (new : ℕ) (roots mid left : List ℕ) → left ≡ mid → AreHolds (new ∷ roots) mid → AreHolds (new ∷ roots) left
held_again new roots mid left e h = rw e h

pub left_after : (mid new : TableValue) (written : List (Option Object)) (n a b : ℕ) (roots : List ℕ) → IsLeft written mid.objects → AreHolds (n ∷ roots) mid.holds → Lets mid new (n ∷ []) a b → ((rs : List ℕ) (ws : List (Option Object)) → AreHolds rs new.holds → IsLeft ws new.objects → new.objects ≡ swept rs ws) → new.objects ≡ swept roots written
left_after mid new written n a b roots is held lets left = left roots written (lets.holds roots held) (left_then written mid.objects new.objects is (left_by_sweep roots mid.objects new.objects (lets.objects roots held)))

pub cheap_level : (s new : State) (mid more : List (Option Object)) (v : StorageValue) (a b c : ℕ) → new.handles ≡ s.handles → more ≡ s.objects ++ Some (Storage v) ∷ [] → b + weight_of mid ≤ a + 2 + weight_of more → c + weight_of new.objects ≡ b + 1 + weight_of mid → IsCheap s new a c
cheap_level s new mid more v a b c h m x y = inr (omega (arith, ap length h, ap weight_of m, weighs_storage s.objects v, x, y))

pub cheap_less : (s new : State) (a b : ℕ) → new.handles ≡ s.handles → b + weight_of new.objects ≤ a + 2 + weight_of s.objects → IsCheap s new a b
cheap_less s new a b h x = inr (omega (arith, ap length h, x))

-- ---- A context has a name and an object bound.
named_ranks : (which name : ℕ) (o : Option Object) → rank_in (with_context (named_at which name) o) ≡ rank_in o
named_ranks which name (Some (Context c)) = refl
named_ranks which name o = refl

named_there : (which name : ℕ) (o : Option Object) → is_some (with_context (named_at which name) o) ≡ is_some o
named_there which name (Some (Context c)) = refl
named_there which name o = refl

named_weighs_same : (which name : ℕ) (o : Option Object) → option_map_or (λ (x : Object). 1 + length (edges_of x)) (with_context (named_at which name) o) 0 ≡ option_map_or (λ (x : Object). 1 + length (edges_of x)) o 0
named_weighs_same which name (Some (Context c)) = refl
named_weighs_same which name o = refl

-- what is the same of each object before and after a name is bound is the same at each place
same_named : {A : Type 0} (f : Option Object → A) (which name n : ℕ) (os : List (Option Object)) → ((o : Option Object) → f (with_context (named_at which name) o) ≡ f o) → (m : ℕ) → f (get_or (change_context (named_at which name) n os) m None) ≡ f (get_or os m None)
unfolding change_context
same_named f which name n os e m = same_at_set f os n (with_context (named_at which name) (get_or os n None)) None (e (get_or os n None)) m

pub named_weighs : (which name n : ℕ) (os : List (Option Object)) → weight_of (change_context (named_at which name) n os) ≡ weight_of os
unfolding weight_of change_context
named_weighs which name n os = elim (cases_lt n (length os)) [
  | inl l ↦ omega (arith, sum_by-set (λ o. option_map_or (λ (x : Object). 1 + length (edges_of x)) o 0) os n (with_context (named_at which name) (get_or os n None)) None l, named_weighs_same which name (get_or os n None))
  | inr l ↦ ap (sum_by (λ o. option_map_or (λ (x : Object). 1 + length (edges_of x)) o 0)) (set_past os n (with_context (named_at which name) (get_or os n None)) l)
]

pub bound_there : (os ms : List (Option Object)) (which name n : ℕ) (o : Option ℕ) → ms ≡ change_context (named_at which name) n os → IfSome o (λ m. IsSome (get_or os m None) × (rank_in (get_or os m None) < 4)) → IfSome o (λ m. IsSome (get_or ms m None) × (rank_in (get_or ms m None) < 4))
bound_there os ms which name n None e h = tt
bound_there os ms which name n (Some m) e h = rw e ((same_named is_some which name n os (named_there which name) m ∙ h.0), rw (same_named rank_in which name n os (named_ranks which name) m) h.1)

pub cheap_bound : (s new : State) (mid : List (Option Object)) (which name n a b : ℕ) → new.handles ≡ s.handles → mid ≡ change_context (named_at which name) n s.objects → b + weight_of new.objects ≤ a + 2 + weight_of mid → IsCheap s new a b
cheap_bound s new mid which name n a b h e x = inr (omega (arith, ap length h, ap weight_of e, named_weighs which name n s.objects, x))
