use Rattle.std.proofs.Common.{sym, ap, ◌∙◌}
use Rattle.std.specs.Option.{option_copied}
use Rattle.driver_facts.proofs.RootLaws.{group_is}
use Rattle.driver_facts.proofs.tables.Tables.group_of.Goals as goal

pub returns-in-Some-context-clause-group : goal.returns-in-Some-context-clause-group
returns-in-Some-context-clause-group c = (group_is c.args.self.now.objects.objects c.in-Some.handle.object c.in-Some-context.context.now (sym c.context.ensures ∙ ap option_copied c.in-Some-context.is) c.leads_down.ensures)
