-- What of an object stays as long as it exists, and what slots ask of what they lead to.
use Rattle.std.specs.Prelude.{◌≡◌, ℕ, ℤ, Bool, false, List, [], ◌∷◌, map, slice_index_or, Option, None, Some}
use Rattle.std.specs.Option.{option_map, option_map_or, option_and_then}
use Rattle.driver_objects.specs.declared.kinds.ObjectKind.{ObjectKind}
use Rattle.driver_objects.specs.declared.objects.Object.{Object}
use Rattle.driver_objects.specs.Objects.{kind_of}
use Rattle.model_laws.specs.Slots.{Sides, Slot, home_of, is_frozen, own_of, pixels_of, sides_of, slots_of, window_id_of}

-- its kind, the storage that is its own, its display, if it has one, whether it is a storage of frozen pixels, its sides, and the id of the window that it is of
pub record Shape : Type 0 where
  pub kind : ObjectKind
  pub own : Option ℕ
  pub home : Option ℕ
  pub frozen : Bool
  pub sides : Option Sides
  pub window : Option ℤ

abbrev pub shape_of : Object → Shape
shape_of o = record { kind = kind_of o; own = own_of o; home = home_of o; frozen = is_frozen o; sides = sides_of o; window = window_id_of o }

abbrev pub shape_in : Option Object → Option Shape
shape_in None = None
shape_in (Some o) = Some (shape_of o)

-- slots and storages of a place, and none of an empty one
abbrev pub slots_in : Option Object → List Slot
slots_in None = []
slots_in (Some o) = slots_of o

abbrev pub pixels_in : Option Object → List ℕ
pixels_in None = []
pixels_in (Some o) = pixels_of o

unfoldable pub shapes : List (Option Object) → List (Option Shape)
shapes os = map shape_in os

abbrev pub kind_at : List (Option Shape) → ℕ → Option ObjectKind
kind_at sh n = option_map (λ x. x.kind) (slice_index_or sh n None)

abbrev pub own_at : List (Option Shape) → ℕ → Option ℕ
own_at sh n = option_and_then (λ x. x.own) (slice_index_or sh n None)

abbrev pub frozen_at : List (Option Shape) → ℕ → Bool
frozen_at sh n = option_map_or (λ x. x.frozen) (slice_index_or sh n None) false

abbrev pub sides_at : List (Option Shape) → ℕ → Option Sides
sides_at sh n = option_and_then (λ x. x.sides) (slice_index_or sh n None)

abbrev pub window_id_at : List (Option Shape) → ℕ → Option ℤ
window_id_at sh n = option_and_then (λ x. x.window) (slice_index_or sh n None)

-- an object of this number exists, and is of this kind
pub record HasKind (sh : List (Option Shape)) (k : ObjectKind) (n : ℕ) : Type 0 where
  pub is : kind_at sh n ≡ Some k

abbrev pub Goes : List (Option Shape) → ObjectKind → Option ℕ → Type 0
Goes sh k None = Unit {0}
Goes sh k (Some n) = HasKind sh k n

-- each slot leads to an object of its kind, or nowhere
abbrev pub Leads : List (Option Shape) → List Slot → Type 0
Leads sh [] = Unit {0}
Leads sh (x ∷ xs) = Goes sh x.kind x.to × Leads sh xs

-- no surface has this storage
pub record IsFree (sh : List (Option Shape)) (k : ℕ) : Type 0 where
  pub each : (m : ℕ) → own_at sh m ≡ Some k → ⊥
