use Rattle.std.proofs.Common.{sym, refl, ◌∙◌}
use Rattle.egl_model.specs.Names.{with_more}
use Rattle.driver_core.proofs.NameLaws.{no_group_same, ok_anyway}
use Rattle.driver_core.proofs.machine.Driver.give_names.Goals as goal

pub returns-clause-state : goal.returns-clause-state
returns-clause-state c = rw (← c.self.view_is) (rw (no_group_same (with_more c.args.kind c.args.count) c.args.group c.self.inside.tables.objects.objects (sym c.is_group.ensures ∙ c.if-is_group.false)) (ok_anyway c.generate-2.result refl))
