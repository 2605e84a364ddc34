-- Objects that refer as before, and elements of joined lists.
use Rattle.std.proofs.Common.{◌≡◌, ℕ, zero, suc, ◌⊎◌, inl, inr, true, false, List, [], ◌∷◌, ◌++◌, refl, sym, ap, ◌∙◌, Option, None, Some, map, get_or, set, is_some}
use Rattle.std.proofs.lemmas.Bool.{or_cases, eqb-true, eq-eqb, or_left, or_right}
use Rattle.std.proofs.lemmas.List.Folds.{list_any-append}
use Rattle.std.proofs.Math.Seq.{map-set_same}
use Rattle.std.proofs.Math.ListN.{get_or-map}
use Rattle.std.specs.Prelude.{◌==◌}
use Rattle.std.specs.List.{flat_map}
use Rattle.context_state.specs.Parts.{PartValue}
use Rattle.driver_objects.specs.Storages.{StorageValue}
use Rattle.driver_objects.specs.declared.contexts.Context.{Context as ContextObject}
use Rattle.driver_objects.specs.declared.objects.Object.{Object}
use Rattle.driver_objects.specs.declared.objects.Object.TheVariants.{Context, Group, Texture, Buffer, Renderbuffer, Framebuffer, Surface, Storage, Image, Sync}
use Rattle.display_table.specs.declared.handles.Handle.{Handle}
use Rattle.egl_model.specs.declared.records.ThreadRecord.{ThreadRecord}
use Rattle.egl_model.specs.Graph.{is_in}
use Rattle.egl_model.specs.State.{initial}
use Rattle.egl_model.specs.Objects.{with_part, change_part, with_storage, change_storage}
use Rattle.egl_model.specs.Sweep.{edges_in, held_by, roots_of}
use Rattle.egl_model.specs.Links.{rank_in}

-- ---- Objects that refer as before.
pub record SameLinks (before after : List (Option Object)) : Type 0 where
  pub exist : (n : ℕ) → is_some (get_or after n None) ≡ is_some (get_or before n None)
  pub edges : (n : ℕ) → edges_in (get_or after n None) ≡ edges_in (get_or before n None)
  pub ranks : (n : ℕ) → rank_in (get_or after n None) ≡ rank_in (get_or before n None)

same_links : (os : List (Option Object)) → SameLinks os os
same_links os = record { exist = λ n. refl; edges = λ n. refl; ranks = λ n. refl }

pub same_of : {A : Type 0} (g : Option Object → A) (f : Option Object → Option Object) → ((o : Option Object) → g (f o) ≡ g o) → (n m : ℕ) (os : List (Option Object)) → g (get_or (set os n (f (get_or os n None))) m None) ≡ g (get_or os m None)
same_of g f e n m os =
    sym (get_or-map g (set os n (f (get_or os n None))) m None)
    ∙ ap (λ xs. get_or xs m (g None)) (map-set_same g os n (f (get_or os n None)) None (e (get_or os n None)))
    ∙ get_or-map g os m None

record Keeps (f : Option Object → Option Object) : Type 0 where
  pub exist : (o : Option Object) → is_some (f o) ≡ is_some o
  pub edges : (o : Option Object) → edges_in (f o) ≡ edges_in o
  pub ranks : (o : Option Object) → rank_in (f o) ≡ rank_in o

same_links-set : (f : Option Object → Option Object) → Keeps f → (n : ℕ) (os : List (Option Object)) → SameLinks os (set os n (f (get_or os n None)))
same_links-set f k n os = record {
  exist = λ m. same_of is_some f k.exist n m os;
  edges = λ m. same_of edges_in f k.edges n m os;
  ranks = λ m. same_of rank_in f k.ranks n m os;
}

-- g tells no kind of object from what f makes of it
pub by_kinds : {A : Type 0} (g : Option Object → A) (f : Option Object → Option Object) → g (f None) ≡ g None → ((c : ContextObject) → g (f (Some (Context c))) ≡ g (Some (Context c))) →
    ((x : _) → g (f (Some (Group x))) ≡ g (Some (Group x))) → ((x : _) → g (f (Some (Texture x))) ≡ g (Some (Texture x))) → ((x : _) → g (f (Some (Buffer x))) ≡ g (Some (Buffer x))) → ((x : _) → g (f (Some (Renderbuffer x))) ≡ g (Some (Renderbuffer x))) → ((x : _) → g (f (Some (Framebuffer x))) ≡ g (Some (Framebuffer x))) → ((x : _) → g (f (Some (Surface x))) ≡ g (Some (Surface x))) → ((x : _) → g (f (Some (Storage x))) ≡ g (Some (Storage x))) → ((x : _) → g (f (Some (Image x))) ≡ g (Some (Image x))) → ((x : _) → g (f (Some (Sync x))) ≡ g (Some (Sync x))) → (o : Option Object) → g (f o) ≡ g o
by_kinds g f a b c d m r p e h q i None = a
by_kinds g f a b c d m r p e h q i (Some (Context x)) = b x
by_kinds g f a b c d m r p e h q i (Some (Group x)) = c x
by_kinds g f a b c d m r p e h q i (Some (Texture x)) = d x
by_kinds g f a b c d m r p e h q i (Some (Buffer x)) = m x
by_kinds g f a b c d m r p e h q i (Some (Renderbuffer x)) = r x
by_kinds g f a b c d m r p e h q i (Some (Framebuffer x)) = p x
by_kinds g f a b c d m r p e h q i (Some (Surface x)) = e x
by_kinds g f a b c d m r p e h q i (Some (Storage x)) = h x
by_kinds g f a b c d m r p e h q i (Some (Image x)) = q x
by_kinds g f a b c d m r p e h q i (Some (Sync x)) = i x

keeps-with_part : (f : PartValue → PartValue) → Keeps (with_part f)
keeps-with_part f = record {
  exist = by_kinds is_some (with_part f) refl (λ c. refl) (λ g. refl) (λ y. refl) (λ b. refl) (λ r. refl) (λ x. refl) (λ x. refl) (λ x. refl) (λ x. refl) (λ x. refl);
  edges = by_kinds edges_in (with_part f) refl (λ c. refl) (λ g. refl) (λ y. refl) (λ b. refl) (λ r. refl) (λ x. refl) (λ x. refl) (λ x. refl) (λ x. refl) (λ x. refl);
  ranks = by_kinds rank_in (with_part f) refl (λ c. refl) (λ g. refl) (λ y. refl) (λ b. refl) (λ r. refl) (λ x. refl) (λ x. refl) (λ x. refl) (λ x. refl) (λ x. refl);
}

keeps-with_storage : (f : StorageValue → StorageValue) → Keeps (with_storage f)
keeps-with_storage f = record {
  exist = by_kinds is_some (with_storage f) refl (λ c. refl) (λ g. refl) (λ y. refl) (λ b. refl) (λ r. refl) (λ x. refl) (λ x. refl) (λ x. refl) (λ x. refl) (λ x. refl);
  edges = by_kinds edges_in (with_storage f) refl (λ c. refl) (λ g. refl) (λ y. refl) (λ b. refl) (λ r. refl) (λ x. refl) (λ x. refl) (λ x. refl) (λ x. refl) (λ x. refl);
  ranks = by_kinds rank_in (with_storage f) refl (λ c. refl) (λ g. refl) (λ y. refl) (λ b. refl) (λ r. refl) (λ x. refl) (λ x. refl) (λ x. refl) (λ x. refl) (λ x. refl);
}

pub same_links-part : (f : PartValue → PartValue) (n : ℕ) (os : List (Option Object)) → SameLinks os (change_part f n os)
unfolding change_part
same_links-part f n os = same_links-set (with_part f) (keeps-with_part f) n os

pub same_links-storage : (f : StorageValue → StorageValue) (n : ℕ) (os : List (Option Object)) → SameLinks os (change_storage f n os)
unfolding change_storage
same_links-storage f n os = same_links-set (with_storage f) (keeps-with_storage f) n os

-- ---- Elements of joined lists.
pub in_left : (n : ℕ) (xs ys : List ℕ) → is_in n xs ≡ true → is_in n (xs ++ ys) ≡ true
in_left n xs ys h = list_any-append (λ y. y == n) xs ys ∙ or_left (is_in n xs) (is_in n ys) h

pub in_right : (n : ℕ) (xs ys : List ℕ) → is_in n ys ≡ true → is_in n (xs ++ ys) ≡ true
in_right n xs ys h = list_any-append (λ y. y == n) xs ys ∙ or_right (is_in n xs) (is_in n ys) h

pub in_cases : (n : ℕ) (xs ys : List ℕ) → is_in n (xs ++ ys) ≡ true → (is_in n xs ≡ true) ⊎ (is_in n ys ≡ true)
in_cases n xs ys h = or_cases (is_in n xs) (is_in n ys) (sym (list_any-append (λ y. y == n) xs ys) ∙ h)

pub at_head : (n x : ℕ) (xs : List ℕ) → x ≡ n → is_in n (x ∷ xs) ≡ true
at_head n x xs e = or_left (x == n) (is_in n xs) (eq-eqb x n e)

pub at_tail : (n x : ℕ) (xs : List ℕ) → is_in n xs ≡ true → is_in n (x ∷ xs) ≡ true
at_tail n x xs h = or_right (x == n) (is_in n xs) h

pub head_or_tail : (n x : ℕ) (xs : List ℕ) → is_in n (x ∷ xs) ≡ true → (x ≡ n) ⊎ (is_in n xs ≡ true)
head_or_tail n x xs h = elim (or_cases (x == n) (is_in n xs) h) [
  | inl e ↦ inl (eqb-true x n e)
  | inr e ↦ inr e
]

-- ---- Roots of fewer handles, and of another record.
unfoldable pub named_by : List Handle → List ℕ
named_by hs = map (λ h. h.object) hs

pub roots_cases : (hs : List Handle) (ts : List ThreadRecord) (n : ℕ) → is_in n (roots_of hs ts) ≡ true → (is_in n (named_by hs) ≡ true) ⊎ (is_in n (flat_map held_by ts) ≡ true)
unfolding roots_of named_by
roots_cases hs ts n h = in_cases n (map (λ h. h.object) hs) (flat_map held_by ts) h

pub from_handle : (hs : List Handle) (ts : List ThreadRecord) (n : ℕ) → is_in n (named_by hs) ≡ true → is_in n (roots_of hs ts) ≡ true
unfolding roots_of named_by
from_handle hs ts n h = in_left n (map (λ h. h.object) hs) (flat_map held_by ts) h

pub from_thread : (hs : List Handle) (ts : List ThreadRecord) (n : ℕ) → is_in n (flat_map held_by ts) ≡ true → is_in n (roots_of hs ts) ≡ true
unfolding roots_of named_by
from_thread hs ts n h = in_right n (map (λ h. h.object) hs) (flat_map held_by ts) h

-- what a thread holds is a root
pub held_is_root : (ts : List ThreadRecord) (t n : ℕ) → is_in n (held_by (get_or ts t initial)) ≡ true → is_in n (flat_map held_by ts) ≡ true
held_is_root [] t n h = absurd (let e : false ≡ true = h in cc)
held_is_root (x ∷ ts) zero n h = in_left n (held_by x) (flat_map held_by ts) h
held_is_root (x ∷ ts) (suc t) n h = in_right n (held_by x) (flat_map held_by ts) (held_is_root ts t n h)
