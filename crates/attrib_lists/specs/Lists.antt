-- Attribute lists: attributes and values in turn.
use Rattle.std.specs.Prelude.{ℕ, ℤ, ◌*◌, ◌-◌, ◌%◌, not, List, [], ◌∷◌, Option, None, Some, if◌then◌else◌, ◌==◌, length, reverse, find}
use Rattle.std.specs.List.{position_from}
use Rattle.std.specs.Option.{option_map, option_or}
use Rattle.std.specs.Ordering.{int_eq}
use Rattle.attrib_lists.specs.Ranges.{is_allowed}
use Rattle.attrib_lists.specs.declared.allowed.Allowed.{Allowed}

-- the pairs of an attribute and its value
abbrev pub pairs : List ℤ → List (ℤ × ℤ)
pairs [] = []
pairs (attribute ∷ []) = []
pairs (attribute ∷ value ∷ rest) = (attribute, value) ∷ pairs rest

-- the value of the last pair with an attribute
unfoldable pub value_of : List ℤ → ℤ → Option ℤ
value_of list attribute = option_map (λ p. p.1) (find (λ p. int_eq p.0 attribute) (reverse (pairs list)))

-- the number of the first pair that is not allowed, counted from 0
abbrev pub bad_pair : Allowed → List ℤ → Option ℕ
bad_pair allowed list = position_from (λ p. not (is_allowed allowed p.0 p.1)) 0 (pairs list)

-- the place of the last attribute where it has no value, because the length is odd
abbrev pub lone_place : List ℤ → Option ℕ
lone_place list = if length list % 2 == 1 then Some (length list - 1) else None

-- the place of the first attribute that is not allowed, has a value outside its range, or has no value
unfoldable pub bad_place : Allowed → List ℤ → Option ℕ
bad_place allowed list = option_or (option_map (λ k. 2 * k) (bad_pair allowed list)) (lone_place list)
