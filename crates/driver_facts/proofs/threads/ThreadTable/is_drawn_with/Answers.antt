use Rattle.std.proofs.Common.{List, ap, ◌∙◌}
use Rattle.std.specs.List.{list_any}
use Rattle.egl_model.specs.declared.records.ThreadRecord.{ThreadRecord}
use Rattle.egl_model.specs.Contexts.{draws_with}
use Rattle.driver_facts.proofs.PaddedLaws.{drawn_padded}
use Rattle.driver_facts.proofs.threads.ThreadTable.is_drawn_with.Goals as goal

pub returns : goal.returns
returns c = rw (← c.self.view_is) (c.any_draws_with.ensures ∙ ap (λ (rs : List ThreadRecord). list_any (draws_with c.args.object) rs) c.deref.ensures.value ∙ drawn_padded c.self.inside.records.items c.args.object)
