use Rattle.std.proofs.Common.{arith}
use Rattle.driver_facts.proofs.PaddedLaws.{roots_padded, length_padded}
use Rattle.driver_facts.proofs.RootLaws.{roots_few}
use Rattle.driver_facts.proofs.threads.ThreadTable.few.Goals as goal

pub returns : goal.returns
returns c = rw (← c.self.view_is) (record {
  roots = λ hs. rw (← roots_padded hs c.self.inside.records.items) (omega (arith, roots_few hs c.self.inside.records.items, c.self.invariant.few));
  long = length_padded c.self.inside.records.items;
})
