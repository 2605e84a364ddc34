-- How the references of a line are kept.
use Rattle.std.specs.Prelude.{List, [], ◌∷◌}
use Rattle.trace_reader.specs.declared.traces.Reference.{Reference}
use Rattle.trace_reader.specs.declared.line_uses.Kept.{Kept}
use Rattle.trace_reader.specs.declared.line_uses.Kept.TheVariants.{Nothing, One, Many}

abbrev pub kept_uses : Kept → List Reference
kept_uses Nothing = []
kept_uses (One r) = r ∷ []
kept_uses (Many uses) = uses.value
