-- Objects are attached to framebuffers, and detached.
use Rattle.std.proofs.Common.{◌≡◌, ℕ, ◌+◌, ◌<◌, Bool, true, false, List, length, get_or, set, refl, sym, ap, subst, ◌∙◌, arith, inl, inr, Option, None, Some}
use Rattle.std.proofs.lemmas.Bool.{cases_lt, eq-eqb, false≢true}
use Rattle.std.proofs.lemmas.List.{set-get_or, set-set, set_past}
use Rattle.std.proofs.lemmas.List.Sums.{sum_by-set}
use Rattle.std.specs.List.{sum_by}
use Rattle.std.specs.Option.{option_map_or}
use Rattle.std.specs.Prelude.{IsSome, is_some}
use Rattle.driver_objects.specs.Links.{point_slot}
use Rattle.driver_objects.specs.Objects.{edges_of, filled}
use Rattle.driver_objects.specs.declared.objects.Object.{Object}
use Rattle.driver_objects.specs.declared.objects.Object.TheVariants.{Framebuffer}
use Rattle.egl_model.specs.Bindings.{detached_at, detached_from}
use Rattle.egl_model.specs.Links.{rank_in}
use Rattle.egl_model.specs.Objects.{as_framebuffer, change_framebuffer, with_framebuffer}
use Rattle.egl_model.specs.Parts.{is_place}
use Rattle.framebuffer_objects.specs.Framebuffers.{FramebufferValue, at_point, object_of, with_point}
use Rattle.framebuffer_objects.specs.declared.framebuffers.Attached.{Attached}
use Rattle.framebuffer_objects.specs.declared.points.Point.{Point}
use Rattle.framebuffer_objects.specs.declared.points.Point.TheVariants.{Color, Depth, Stencil}
use Rattle.object_table.specs.Keeps.{is_placed, renamed_slots}
use Rattle.object_table.specs.Links.{IsLeft, edge_in, has_slot_in, is_fixed_in, linked_in, renamed}
use Rattle.object_table.specs.Tables.{weight_of}
use Rattle.object_table.proofs.DeleteLaws.{changed_at, left_change}
use Rattle.object_table.proofs.LeftLaws.{left_self, left_then}

framebuffer_there : (o : Option Object) → is_some (as_framebuffer o) ≡ true → (f : FramebufferValue) × (o ≡ Some (Framebuffer f))
framebuffer_there (Some (Framebuffer f)) h = (f, refl)
framebuffer_there o h = absurd (false≢true h)

slot_of_point : (p : Point) (f : FramebufferValue) → has_slot_in (Some (Framebuffer f)) (point_slot p) ≡ true
slot_of_point Color f = refl
slot_of_point Depth f = refl
slot_of_point Stencil f = refl

pub point_there : (p : Point) (o : Option Object) → is_some (as_framebuffer o) ≡ true → has_slot_in o (point_slot p) ≡ true
point_there p o h = let f = framebuffer_there o h in subst (λ y. has_slot_in y (point_slot p) ≡ true) (sym f.1) (slot_of_point p f.0)

pub point_fixed : (o : Option Object) (k : ℕ) → is_some (as_framebuffer o) ≡ true → is_fixed_in o k ≡ true
point_fixed o k h = let f = framebuffer_there o h in subst (λ y. is_fixed_in y k ≡ true) (sym f.1) refl

framebuffer_rank : (o : Option Object) → is_some (as_framebuffer o) ≡ true → rank_in o ≡ 2
framebuffer_rank o h = let f = framebuffer_there o h in subst (λ y. rank_in y ≡ 2) (sym f.1) refl

pub part_below : (os : List (Option Object)) (t n : ℕ) → IsSome (get_or os t None) × (rank_in (get_or os t None) < 2) → is_some (as_framebuffer (get_or os n None)) ≡ true → IsSome (get_or os t None) × (rank_in (get_or os t None) < rank_in (get_or os n None))
part_below os t n h k = (h.0, let r = framebuffer_rank (get_or os n None) k in let l = h.1 in omega (arith, r, l))

-- ---- What is attached gets its name, where it is the object that was attached.
rename_same : (p : Point) (a : Attached) (o : Option Object) → option_map_or (λ (x : Object). 1 + length (edges_of x)) (with_framebuffer (renamed p a) o) 0 ≡ option_map_or (λ (x : Object). 1 + length (edges_of x)) o 0
rename_same p a (Some (Framebuffer v)) = ap (λ xs. 1 + length (filled xs)) (renamed_slots p a v)
rename_same p a o = refl

pub rename_weighs : (p : Point) (a : Attached) (os : List (Option Object)) (n : ℕ) → weight_of (change_framebuffer (renamed p a) n os) ≡ weight_of os
unfolding weight_of change_framebuffer
rename_weighs p a os n = elim (cases_lt n (length os)) [
  | inl l ↦ omega (arith, sum_by-set (λ o. option_map_or (λ (x : Object). 1 + length (edges_of x)) o 0) os n (with_framebuffer (renamed p a) (get_or os n None)) None l, rename_same p a (get_or os n None))
  | inr l ↦ ap (sum_by (λ o. option_map_or (λ (x : Object). 1 + length (edges_of x)) o 0)) (set_past os n (with_framebuffer (renamed p a) (get_or os n None)) l)
]

-- ---- An object is attached.
attached_as : (p : Point) (a : Attached) (f : FramebufferValue) → with_framebuffer (renamed p a) (linked_in (point_slot p) (Some a.object) (Some (Framebuffer f))) ≡ Some (Framebuffer (with_point p (Some a) f))
attached_as Color a f = rw (eq-eqb a.object a.object refl) refl
attached_as Depth a f = rw (eq-eqb a.object a.object refl) refl
attached_as Stencil a f = rw (eq-eqb a.object a.object refl) refl

detached_as : (p : Point) (f : FramebufferValue) → linked_in (point_slot p) None (Some (Framebuffer f)) ≡ Some (Framebuffer (with_point p None f))
detached_as Color f = refl
detached_as Depth f = refl
detached_as Stencil f = refl

pub attach_left : (p : Point) (a : Attached) (os mid new : List (Option Object)) (n : ℕ) → is_some (as_framebuffer (get_or os n None)) ≡ true → IsLeft (set os n (linked_in (point_slot p) (Some a.object) (get_or os n None))) mid → new ≡ change_framebuffer (renamed p a) n mid → IsLeft (change_framebuffer (with_point p (Some a)) n os) new
unfolding change_framebuffer
attach_left p a os mid new n h l e =
    let o = get_or os n None in let f = linked_in (point_slot p) (Some a.object) in let g = with_framebuffer (renamed p a) in
    let m : List (Option Object) = set os n (f o) in
    let w = framebuffer_there o h in
    let same : g (f o) ≡ with_framebuffer (with_point p (Some a)) o = subst (λ y. g (f y) ≡ with_framebuffer (with_point p (Some a)) y) (sym w.1) (attached_as p a w.0) in
    let b : set m n (g (get_or m n None)) ≡ set os n (with_framebuffer (with_point p (Some a)) o) = ap (λ y. set m n (g y)) (changed_at f refl n os) ∙ set-set os n (f o) (g (f o)) ∙ ap (set os n) same in
    subst (λ ys. IsLeft ys new) b (subst (λ ys. IsLeft (set m n (g (get_or m n None))) ys) (sym e) (left_change g refl n m mid l))

pub detach_left : (p : Point) (os new : List (Option Object)) (n : ℕ) → is_some (as_framebuffer (get_or os n None)) ≡ true → IsLeft (set os n (linked_in (point_slot p) None (get_or os n None))) new → IsLeft (change_framebuffer (with_point p None) n os) new
unfolding change_framebuffer
detach_left p os new n h l =
    let w = framebuffer_there (get_or os n None) h in
    subst (λ y. IsLeft (set os n y) new) (subst (λ y. linked_in (point_slot p) None y ≡ with_framebuffer (with_point p None) y) (sym w.1) (detached_as p w.0)) l

other_kind : (f : FramebufferValue → FramebufferValue) (o : Option Object) → is_some (as_framebuffer o) ≡ false → with_framebuffer f o ≡ o
other_kind f (Some (Framebuffer v)) h = absurd (false≢true (sym h))
other_kind f o h = refl

pub framebuffer_same : (f : FramebufferValue → FramebufferValue) (os : List (Option Object)) (n : ℕ) → is_some (as_framebuffer (get_or os n None)) ≡ false → IsLeft (change_framebuffer f n os) os
unfolding change_framebuffer
framebuffer_same f os n h = left_self _ os (sym (ap (set os n) (other_kind f (get_or os n None) h) ∙ set-get_or os n None))

-- ---- An object is detached.
-- whether it is attached there
abbrev is_there : Point → ℕ → Option Object → Bool
is_there p x o = option_map_or (λ f. is_place x (object_of (at_point p f))) (as_framebuffer o) false

pub there_is : (p : Point) (x : ℕ) (o : Option Object) → is_there p x o ≡ true → is_some (as_framebuffer o) ≡ true
there_is p x (Some (Framebuffer f)) h = refl
there_is p x o h = absurd (false≢true h)

pub there_edge : (p : Point) (x : ℕ) (o : Option Object) → is_there p x o ≡ true → edge_in o (point_slot p) ≡ Some x
there_edge Color x (Some (Framebuffer f)) h = is_placed x (object_of f.color) h
there_edge Depth x (Some (Framebuffer f)) h = is_placed x (object_of f.depth) h
there_edge Stencil x (Some (Framebuffer f)) h = is_placed x (object_of f.stencil) h
there_edge p x o h = absurd (false≢true h)

there_linked : (p : Point) (x : ℕ) (o : Option Object) → is_there p x o ≡ true → linked_in (point_slot p) None o ≡ with_framebuffer (detached_at p x) o
there_linked Color x (Some (Framebuffer f)) h = rw h refl
there_linked Depth x (Some (Framebuffer f)) h = rw h refl
there_linked Stencil x (Some (Framebuffer f)) h = rw h refl
there_linked p x o h = absurd (false≢true h)

not_there : (p : Point) (x : ℕ) (o : Option Object) → is_there p x o ≡ false → with_framebuffer (detached_at p x) o ≡ o
not_there p x (Some (Framebuffer f)) h = rw h refl
not_there p x o h = refl

pub point_left : (p : Point) (os new : List (Option Object)) (n x : ℕ) → is_there p x (get_or os n None) ≡ true → IsLeft (set os n (linked_in (point_slot p) None (get_or os n None))) new → IsLeft (change_framebuffer (detached_at p x) n os) new
unfolding change_framebuffer
point_left p os new n x h l = subst (λ y. IsLeft (set os n y) new) (there_linked p x (get_or os n None) h) l

pub point_same : (p : Point) (os : List (Option Object)) (n x : ℕ) → is_there p x (get_or os n None) ≡ false → IsLeft (change_framebuffer (detached_at p x) n os) os
unfolding change_framebuffer
point_same p os n x h = left_self _ os (sym (ap (set os n) (not_there p x (get_or os n None) h) ∙ set-get_or os n None))

-- ---- From one point and then from another.
framebuffer_twice : (f g : FramebufferValue → FramebufferValue) (o : Option Object) → with_framebuffer g (with_framebuffer f o) ≡ with_framebuffer (λ v. g (f v)) o
framebuffer_twice f g (Some (Framebuffer v)) = refl
framebuffer_twice f g o = refl

framebuffer_then : (f g : FramebufferValue → FramebufferValue) (os mid new : List (Option Object)) (n : ℕ) → IsLeft (change_framebuffer f n os) mid → IsLeft (change_framebuffer g n mid) new → IsLeft (change_framebuffer (λ v. g (f v)) n os) new
unfolding change_framebuffer
framebuffer_then f g os mid new n a b =
    let o = get_or os n None in
    let m : List (Option Object) = set os n (with_framebuffer f o) in
    let e : set m n (with_framebuffer g (get_or m n None)) ≡ set os n (with_framebuffer (λ v. g (f v)) o) = ap (λ y. set m n (with_framebuffer g y)) (changed_at (with_framebuffer f) refl n os) ∙ set-set os n (with_framebuffer f o) (with_framebuffer g (with_framebuffer f o)) ∙ ap (set os n) (framebuffer_twice f g o) in
    subst (λ ys. IsLeft ys new) e (left_then _ _ new (left_change (with_framebuffer g) refl n m mid a) b)

pub detach_all : (os a b new : List (Option Object)) (n x : ℕ) → IsLeft (change_framebuffer (detached_at Color x) n os) a → IsLeft (change_framebuffer (detached_at Depth x) n a) b → IsLeft (change_framebuffer (detached_at Stencil x) n b) new → IsLeft (change_framebuffer (detached_from x) n os) new
detach_all os a b new n x h k l =
    framebuffer_then (λ v. detached_at Depth x (detached_at Color x v)) (detached_at Stencil x) os b new n
    (framebuffer_then (detached_at Color x) (detached_at Depth x) os a b n h k) l
