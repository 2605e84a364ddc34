use Rattle.object_table.proofs.SampleLaws.{same_sampler}
use Rattle.object_table.proofs.table.ObjectTable.sample.Goals as goal

pub returns-clause-value : goal.returns-clause-value
returns-clause-value c = rw (← c.self.view_is) (rw (same_sampler c.self.inside.next c.self.inside.store.nodes c.self.invariant.below c.args.rect c.args.n) c.sample_at.ensures.value)
