-- Places of lists, and shapes at places.
use Rattle.std.proofs.Common.{◌≡◌, ℕ, zero, suc, ◌+◌, ◌-◌, ◌<◌, ◌≤◌, inl, inr, true, false, List, [], ◌∷◌, ◌++◌, refl, sym, ap, ◌∙◌, arith, length, Option, None, Some, get_or, set, map, is_some}
use Rattle.std.specs.Prelude.{replicate}
use Rattle.std.specs.Option.{option_map, option_map_or, option_and_then}
use Rattle.std.proofs.lemmas.Bool.{cases_lt}
use Rattle.std.proofs.lemmas.List.{get_or_append_left, get_or-append-add, get_or_past, map-append}
use Rattle.std.proofs.Math.ListN.{get_or-map}
use Rattle.driver_objects.specs.declared.kinds.ObjectKind.{ObjectKind}
use Rattle.driver_objects.specs.declared.objects.Object.{Object}
use Rattle.driver_objects.specs.Objects.{kind_of}
use Rattle.egl_model.specs.declared.records.ThreadRecord.{ThreadRecord}
use Rattle.egl_model.specs.State.{initial}
use Rattle.model_laws.specs.Shapes.{HasKind, Shape, frozen_at, kind_at, own_at, shape_in, shapes, sides_at, window_id_at}
use Rattle.model_laws.proofs.Changes.Moves.{frozen_in, own_in, sides_in, window_id_in}

-- what holds of each element, and of the one that is written
pub each_at_set : {X : Type 0} (P : X → Type 0) (xs : List X) (i : ℕ) (y d : X) → P y → ((k : ℕ) → P (get_or xs k d)) → (k : ℕ) → P (get_or (set xs i y) k d)
each_at_set P [] i y d p all k = all k
each_at_set P (x ∷ xs) zero y d p all zero = p
each_at_set P (x ∷ xs) zero y d p all (suc k) = all (suc k)
each_at_set P (x ∷ xs) (suc i) y d p all zero = all zero
each_at_set P (x ∷ xs) (suc i) y d p all (suc k) = each_at_set P xs i y d p (λ k. all (suc k)) k

-- the same, of elements at their places
pub each_place_at_set : {X : Type 0} (P : ℕ → X → Type 0) (xs : List X) (i : ℕ) (y d : X) → P i y → ((k : ℕ) → P k (get_or xs k d)) → (k : ℕ) → P k (get_or (set xs i y) k d)
each_place_at_set P [] i y d p all k = all k
each_place_at_set P (x ∷ xs) zero y d p all zero = p
each_place_at_set P (x ∷ xs) zero y d p all (suc k) = all (suc k)
each_place_at_set P (x ∷ xs) (suc i) y d p all zero = all zero
each_place_at_set P (x ∷ xs) (suc i) y d p all (suc k) = each_place_at_set (λ j. P (suc j)) xs i y d p (λ k. all (suc k)) k

-- f tells no element from what is written in its place
pub same_at_set : {X A : Type 0} (f : X → A) (xs : List X) (i : ℕ) (y d : X) → f y ≡ f (get_or xs i d) → (k : ℕ) → f (get_or (set xs i y) k d) ≡ f (get_or xs k d)
same_at_set f [] i y d e k = refl
same_at_set f (x ∷ xs) zero y d e zero = e
same_at_set f (x ∷ xs) zero y d e (suc k) = refl
same_at_set f (x ∷ xs) (suc i) y d e zero = refl
same_at_set f (x ∷ xs) (suc i) y d e (suc k) = same_at_set f xs i y d e k

pub same_map_set : {X A : Type 0} (f : X → A) (xs : List X) (i : ℕ) (y d : X) → f y ≡ f (get_or xs i d) → map f (set xs i y) ≡ map f xs
same_map_set f [] i y d e = refl
same_map_set f (x ∷ xs) zero y d e = ap (λ z. z ∷ map f xs) e
same_map_set f (x ∷ xs) (suc i) y d e = ap (λ zs. f x ∷ zs) (same_map_set f xs i y d e)

-- a list and what f makes of it, place by place
pub at_map : {X : Type 0} (P : X → X → Type 0) (f : X → X) (xs : List X) (d : X) → P d d → ((x : X) → P x (f x)) → (k : ℕ) → P (get_or xs k d) (get_or (map f xs) k d)
at_map P f [] d p all k = p
at_map P f (x ∷ xs) d p all zero = all x
at_map P f (x ∷ xs) d p all (suc k) = at_map P f xs d p all k

pub same_map_map : {X A : Type 0} (g : X → A) (f : X → X) → ((x : X) → g (f x) ≡ g x) → (xs : List X) → map g (map f xs) ≡ map g xs
same_map_map g f e [] = refl
same_map_map g f e (x ∷ xs) = let a = e x in let b = same_map_map g f e xs in cc

-- before the first call each record is the initial one
pub initial_at : {A : Type 0} (f : ThreadRecord → A) (k t : ℕ) → f (get_or (replicate k initial) t initial) ≡ f initial
initial_at f zero t = refl
initial_at f (suc k) zero = refl
initial_at f (suc k) (suc t) = initial_at f k t

pub at_old : {X : Type 0} (xs ys : List X) (d : X) (m : ℕ) → m < length xs → get_or (xs ++ ys) m d ≡ get_or xs m d
at_old xs ys d m h = get_or_append_left xs ys d m h

pub new_at : {X : Type 0} (xs ys : List X) (d : X) (j n : ℕ) → n ≡ length xs + j → get_or (xs ++ ys) n d ≡ get_or ys j d
new_at xs ys d j n e = ap (λ m. get_or (xs ++ ys) m d) e ∙ get_or-append-add xs ys j d

pub at_new : {X : Type 0} (xs ys : List X) (d : X) (m : ℕ) → length xs ≤ m → get_or (xs ++ ys) m d ≡ get_or ys (m - length xs) d
at_new xs ys d m h = new_at xs ys d (m - length xs) m (let e : m ≡ length xs + (m - length xs) = omega arith in e)

pub below : {X : Type 0} (xs : List (Option X)) (n : ℕ) → is_some (get_or xs n None) ≡ true → n < length xs
below xs n h = elim (cases_lt n (length xs)) [
  | inl l ↦ l
  | inr l ↦ absurd (let e : false ≡ true = ap (λ (o : Option _). is_some o) (sym (get_or_past xs n None l)) ∙ h in cc)
]

-- ---- Shapes.
pub shape_at : (os : List (Option Object)) (n : ℕ) → get_or (shapes os) n None ≡ shape_in (get_or os n None)
unfolding shapes
shape_at os n = get_or-map shape_in os n None

pub shapes-append : (os ps : List (Option Object)) → shapes (os ++ ps) ≡ shapes os ++ shapes ps
unfolding shapes
shapes-append os ps = map-append shape_in os ps

pub shapes-set : (os : List (Option Object)) (n : ℕ) (o : Option Object) → shape_in o ≡ shape_in (get_or os n None) → shapes (set os n o) ≡ shapes os
unfolding shapes
shapes-set os n o e = same_map_set shape_in os n o None e

pub shapes-map : (f : Option Object → Option Object) → ((o : Option Object) → shape_in (f o) ≡ shape_in o) → (os : List (Option Object)) → shapes (map f os) ≡ shapes os
unfolding shapes
shapes-map f e os = same_map_map shape_in f e os

pub length-map' : {X Y : Type 0} (f : X → Y) (xs : List X) → length (map f xs) ≡ length xs
length-map' f [] = refl
length-map' f (x ∷ xs) = ap suc (length-map' f xs)

pub length-shapes : (os : List (Option Object)) → length (shapes os) ≡ length os
unfolding shapes
length-shapes os = length-map' shape_in os

kind_in_shape : (o : Option Object) → option_map (λ (x : Shape). x.kind) (shape_in o) ≡ option_map kind_of o
kind_in_shape None = refl
kind_in_shape (Some o) = refl

pub kind_at-shapes : (os : List (Option Object)) (n : ℕ) → kind_at (shapes os) n ≡ option_map kind_of (get_or os n None)
kind_at-shapes os n = ap (option_map (λ (x : Shape). x.kind)) (shape_at os n) ∙ kind_in_shape (get_or os n None)

own_in_shape : (o : Option Object) → option_and_then (λ (x : Shape). x.own) (shape_in o) ≡ own_in o
own_in_shape None = refl
own_in_shape (Some o) = refl

pub own_at-shapes : (os : List (Option Object)) (n : ℕ) → own_at (shapes os) n ≡ own_in (get_or os n None)
own_at-shapes os n = ap (option_and_then (λ (x : Shape). x.own)) (shape_at os n) ∙ own_in_shape (get_or os n None)

frozen_in_shape : (o : Option Object) → option_map_or (λ (x : Shape). x.frozen) (shape_in o) false ≡ frozen_in o
frozen_in_shape None = refl
frozen_in_shape (Some o) = refl

pub frozen_at-shapes : (os : List (Option Object)) (n : ℕ) → frozen_at (shapes os) n ≡ frozen_in (get_or os n None)
frozen_at-shapes os n = ap (λ (o : Option Shape). option_map_or (λ (x : Shape). x.frozen) o false) (shape_at os n) ∙ frozen_in_shape (get_or os n None)

sides_in_shape : (o : Option Object) → option_and_then (λ (x : Shape). x.sides) (shape_in o) ≡ sides_in o
sides_in_shape None = refl
sides_in_shape (Some o) = refl

pub sides_at-shapes : (os : List (Option Object)) (n : ℕ) → sides_at (shapes os) n ≡ sides_in (get_or os n None)
sides_at-shapes os n = ap (option_and_then (λ (x : Shape). x.sides)) (shape_at os n) ∙ sides_in_shape (get_or os n None)

window_id_in_shape : (o : Option Object) → option_and_then (λ (x : Shape). x.window) (shape_in o) ≡ window_id_in o
window_id_in_shape None = refl
window_id_in_shape (Some o) = refl

pub window_id_at-shapes : (os : List (Option Object)) (n : ℕ) → window_id_at (shapes os) n ≡ window_id_in (get_or os n None)
window_id_at-shapes os n = ap (option_and_then (λ (x : Shape). x.window)) (shape_at os n) ∙ window_id_in_shape (get_or os n None)

pub is_some_of : {X A : Type 0} (f : X → A) (o : Option X) (a : A) → option_map f o ≡ Some a → is_some o ≡ true
is_some_of f None a h = absurd (let e : None ≡ Some a = h in cc)
is_some_of f (Some x) a h = refl

-- a place of a kind is one of the list
pub within_shapes : (sh : List (Option Shape)) (k : ObjectKind) (n : ℕ) → HasKind sh k n → n < length sh
within_shapes sh k n h = below sh n (is_some_of (λ (x : Shape). x.kind) (get_or sh n None) k h.is)

-- kinds stay where objects are added
pub old_kind : (sh more : List (Option Shape)) (k : ObjectKind) (n : ℕ) → HasKind sh k n → HasKind (sh ++ more) k n
old_kind sh more k n h = record { is = ap (option_map (λ (x : Shape). x.kind)) (at_old sh more None n (within_shapes sh k n h)) ∙ h.is }

-- and new objects have theirs
pub new_kind : (os new : List (Option Object)) (j n : ℕ) (k : ObjectKind) → n ≡ length os + j → option_map kind_of (get_or new j None) ≡ Some k → HasKind (shapes os ++ shapes new) k n
new_kind os new j n k e h = record {
  is = ap (option_map (λ (x : Shape). x.kind)) (new_at (shapes os) (shapes new) None j n (let l = length-shapes os in omega (arith, e, l))) ∙ kind_at-shapes new j ∙ h;
}

-- and are frozen as they say
pub new_frozen : (os new : List (Option Object)) (j n : ℕ) → n ≡ length os + j → frozen_at (shapes os ++ shapes new) n ≡ frozen_in (get_or new j None)
new_frozen os new j n e =
    ap (λ (sh : List (Option Shape)). frozen_at sh n) (sym (shapes-append os new)) ∙ frozen_at-shapes (os ++ new) n ∙ ap frozen_in (new_at os new None j n e)

-- and have the sides that they say
pub new_sides : (os new : List (Option Object)) (j n : ℕ) → n ≡ length os + j → sides_at (shapes os ++ shapes new) n ≡ sides_in (get_or new j None)
new_sides os new j n e =
    ap (λ (sh : List (Option Shape)). sides_at sh n) (sym (shapes-append os new)) ∙ sides_at-shapes (os ++ new) n ∙ ap sides_in (new_at os new None j n e)
