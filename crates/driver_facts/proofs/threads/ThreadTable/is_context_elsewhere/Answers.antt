use Rattle.std.proofs.Common.{List, length, ap, ◌<◌, ◌∙◌}
use Rattle.driver_facts.proofs.PaddedLaws.{context_elsewhere_padded}
use Rattle.std.specs.List.{list_any}
use Rattle.egl_model.specs.declared.records.ThreadRecord.{ThreadRecord}
use Rattle.egl_model.specs.Currents.{has_context, others}
use Rattle.driver_facts.specs.Threads.{ThreadsValue}
use Rattle.driver_facts.proofs.threads.ThreadTable.is_context_elsewhere.Goals as goal

pub returns : goal.returns
returns c =
    let h : c.args.thread < length c.self.inside.records.items = rw (ap (λ (m : ThreadsValue). m.made) c.self.view_is) c.requires in
    rw (← c.self.view_is) (c.any_other_has_context.ensures ∙ ap (λ (rs : List ThreadRecord). list_any (has_context c.args.object) (others rs c.args.thread)) c.deref.ensures.value ∙ context_elsewhere_padded c.self.inside.records.items c.args.thread c.args.object h)
