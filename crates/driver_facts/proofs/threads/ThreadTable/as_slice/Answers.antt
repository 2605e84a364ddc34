use Rattle.std.proofs.Common.{◌∙◌, ap}
use Rattle.egl_model.specs.Sweep.{roots_of}
use Rattle.driver_facts.proofs.PaddedLaws.{roots_padded}
use Rattle.driver_facts.specs.Threads.{padded}
use Rattle.driver_facts.proofs.threads.ThreadTable.as_slice.Goals as goal

pub returns : goal.returns
returns c = rw (← c.self.view_is) (record {
  roots = λ handles. ap (roots_of handles) c.as_slice.ensures.value ∙ roots_padded handles c.self.inside.records.items;
  records = ap padded c.as_slice.ensures.value;
})
