-- What is true of every attribute list.
use Rattle.std.specs.Prelude.{◌≡◌, ◌≢◌, ◌+◌, ◌%◌, ℤ, List, [], ◌∷◌, ◌++◌, None, Some, if◌then◌else◌, length}
use Rattle.std.specs.Option.{option_map}
use Rattle.attrib_lists.specs.declared.allowed.Allowed.{Allowed}
use Rattle.attrib_lists.specs.Ranges.{is_allowed}
use Rattle.attrib_lists.specs.Lists.{value_of, bad_place}

-- a list is read from its front: the first bad place is that of the first pair, or else that of the rest
pub record NamesTheFirst : Type 0 where
  pub empty : (allowed : Allowed) → bad_place allowed [] ≡ None
  pub lone : (allowed : Allowed) (attribute : ℤ) → bad_place allowed (attribute ∷ []) ≡ Some 0
  pub pair : (allowed : Allowed) (attribute value : ℤ) (rest : List ℤ) →
      bad_place allowed (attribute ∷ value ∷ rest) ≡ (if is_allowed allowed attribute value then option_map (λ k. 2 + k) (bad_place allowed rest) else Some 0)

-- a pair behind a list decides the value of its attribute, and of no other
pub record TheLastCounts : Type 0 where
  pub empty : (attribute : ℤ) → value_of [] attribute ≡ None
  pub last : (list : List ℤ) (attribute value : ℤ) → length list % 2 ≡ 0 → value_of (list ++ attribute ∷ value ∷ []) attribute ≡ Some value
  pub other : (list : List ℤ) (attribute value asked : ℤ) → length list % 2 ≡ 0 → attribute ≢ asked → value_of (list ++ attribute ∷ value ∷ []) asked ≡ value_of list asked
