use Rattle.std.proofs.Common.{◌∙◌, nat_eq, sym, ap, arith}
use Rattle.std.specs.Map.{lookup}
use Rattle.std.specs.Option.{option_flatten}
use Rattle.display_table.specs.declared.TheConstants.{HANDLES_END}
use Rattle.display_table.specs.Tables.{at_number}
use Rattle.display_table.proofs.PlaceLaws.{beyond_places}
use Rattle.display_table.proofs.tables.handle_at.Goals as goal

pub returns-in_default : goal.returns-in_default
returns-in_default c = sym (beyond_places 3 _ c.args.number HANDLES_END c.requires (grind (arith, c.in_default.ensures)))

pub returns : goal.returns
unfolding at_number
returns c = c.flatten.ensures ∙ ap option_flatten (c.copied.ensures ∙ c.get.ensures.value ∙ ap (λ n. lookup (nat_eq n) c.args.table.now.entries) c.in-Ok.ensures.1)
