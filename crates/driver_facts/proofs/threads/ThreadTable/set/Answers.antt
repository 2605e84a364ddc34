use Rattle.std.proofs.Common.{length, ap, ◌<◌, refl, ◌∙◌, length-set}
use Rattle.driver_facts.proofs.PaddedLaws.{padded_set}
use Rattle.driver_facts.specs.Threads.{ThreadsValue, padded}
use Rattle.driver_facts.proofs.threads.ThreadTable.set.Goals as goal

pub returns : goal.returns
returns c =
    let h : c.args.thread < length c.self.inside.records.items = rw (ap (λ (m : ThreadsValue). m.made) c.self.view_is) c.requires in
    let l = ap length c.write.ensures ∙ length-set c.self.inside.records.items c.args.thread c.args.kept in
    let p = ap padded c.write.ensures ∙ padded_set c.self.inside.records.items c.args.thread c.args.kept h in
    rw (← c.self.view_is) (rw (l, p) refl)
