-- Texts of which each line is an object.
use Rattle.std.specs.Prelude.{◌≡◌, ℕ, ℤ, Bool, true, List, [], ◌∷◌, ◌++◌}
use Rattle.std.specs.List.{flat_map}
use Rattle.serde_json.specs.Data.{Data, array, number, object, Members}
use Rattle.serde_json.specs.Find.{of_integer}
use Rattle.serde_json.specs.View.{items_of}
use Rattle.serde_json.specs.Written.{compact_text}

abbrev pub list_data : List Data → Data
list_data ds = array (items_of ds)

abbrev pub number_data : ℤ → Data
number_data z = number (of_integer z)

-- the object without spaces, its members in the order of their names, and a line feed
unfoldable pub line : Members → List ℕ
line o = compact_text (object o) ++ 10 ∷ []

-- a text is a line for each of some objects
abbrev pub AreLines : List ℕ → Type 0
AreLines text = ∥ ((objects : List Members) × (text ≡ flat_map line objects)) ∥₁

-- a text, and whether it lacks no line
pub record LinesValue : Type 0 where
  pub text : List ℕ
  pub is_whole : Bool

-- a text that lacks nothing lacked nothing before, and has one line more
pub record HasLine (before : LinesValue) (o : Members) (after : LinesValue) : Type 0 where
  pub lacked : after.is_whole ≡ true → before.is_whole ≡ true
  pub text : after.is_whole ≡ true → after.text ≡ before.text ++ line o
