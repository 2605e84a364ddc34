use Rattle.std.proofs.Common.{length, ap, ◌<◌, sym, ◌∙◌}
use Rattle.std.proofs.lemmas.List.{get_or_default}
use Rattle.driver_facts.proofs.PaddedLaws.{get_or_padded}
use Rattle.driver_facts.specs.Threads.{ThreadsValue}
use Rattle.egl_model.specs.State.{initial}
use Rattle.driver_facts.proofs.threads.ThreadTable.record.Goals as goal

pub returns : goal.returns
returns c =
    let h : c.args.thread < length c.self.inside.records.items = rw (ap (λ (m : ThreadsValue). m.made) c.self.view_is) c.requires in
    let p = get_or_padded c.self.inside.records.items c.args.thread initial h in
    let d = get_or_default c.self.inside.records.items c.args.thread c.index.result.now initial h in
    rw (← c.self.view_is) (c.index.ensures ∙ d ∙ sym p)
