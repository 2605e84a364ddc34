-- A text that grows piece by piece.
use Rattle.std.specs.Prelude.{◌≡◌, ℕ, nat_lt, Bool, true, ◌&&◌, List, [], ◌∷◌, ◌++◌, take, length, codes, flat_map, if◌then◌else◌}
use Rattle.trace_model.specs.Recording.{hex_byte}
use Rattle.egl_explain.specs.declared.pages.Ink.{Ink}
use Rattle.egl_explain.specs.declared.pages.Ink.TheVariants.{Answer, Fault, Pale}
use Rattle.egl_explain.specs.declared.pages.Look.{Look}
use Rattle.egl_explain.specs.declared.pages.Page.{Page}

-- a page that lacks nothing lacked nothing before, and has one piece more behind what it had
pub record HasPiece (before : Page) (piece : List ℕ) (after : Page) : Type 0 where
  pub look : after.look ≡ before.look
  pub lacked : after.is_whole ≡ true → before.is_whole ≡ true
  pub text : after.is_whole ≡ true → after.text ≡ before.text ++ piece

-- of a wide line the first so many bytes, where such lines are cut
abbrev pub is_cut : Look → ℕ → List ℕ → Bool
is_cut look most bytes = look.cut && nat_lt most (length bytes)

abbrev pub shown : Look → List ℕ → List ℕ
shown look bytes = if is_cut look 160 bytes then take 160 bytes ++ codes ".." else bytes

abbrev pub shown_digits : Look → List ℕ → List ℕ
shown_digits look bytes = if is_cut look 80 bytes then flat_map hex_byte (take 80 bytes) ++ codes ".." else flat_map hex_byte bytes

-- what begins and ends a piece on a terminal with colours
abbrev pub colour_of : Ink → List ℕ
colour_of Answer = 27 ∷ codes "[32m"
colour_of Fault = 27 ∷ codes "[1;31m"
colour_of Pale = 27 ∷ codes "[2m"

abbrev pub begun : Look → Ink → List ℕ
begun look ink = if look.coloured then colour_of ink else []

abbrev pub ended : Look → List ℕ
ended look = if look.coloured then 27 ∷ codes "[0m" else []
