-- In which form an input is told of.
use Rattle.std.specs.Prelude.{ℕ, List}
use Rattle.json_lines.specs.Lines.{AreLines}
use Rattle.egl_explain.specs.declared.pages.Format.{Format}
use Rattle.egl_explain.specs.declared.pages.Format.TheVariants.{Text, Json}

-- a text for people says what no definition fixes; what programs get is a line of JSON for each of some objects
abbrev pub IsOf : Format → List ℕ → Type 0
IsOf (Text look) text = Unit {0}
IsOf Json text = AreLines text
