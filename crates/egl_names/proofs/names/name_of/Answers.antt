use Rattle.std.proofs.Common.{List, ℕ, ap, ◌∙◌}
use Rattle.std.proofs.Common.{w64}
use Rattle.std.proofs.lemmas.Int.{to_z-of_z}
use Rattle.egl_calls.specs.Ranges.{unsigned}
use Rattle.egl_names.specs.Names.{name_at, names}
use Rattle.egl_names.proofs.TableLaws.{names_are, name_of_is}
use Rattle.egl_names.proofs.names.name_of.Goals as goal

pub returns : goal.returns
returns c = let fits = c.ranges.code in c.name_at.ensures ∙ ap (λ (x : List (List ℕ)). name_at x c.unsigned.result) names_are ∙ ap (name_at names) (c.unsigned.ensures ∙ ap unsigned (to_z-of_z w64 c.args.code fits)) ∙ name_of_is c.args.code
