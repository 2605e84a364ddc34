use Rattle.std.proofs.Common.{ap}
use Rattle.egl_model.specs.State.{capacity}
use Rattle.driver_facts.specs.Threads.{ThreadsValue}
use Rattle.driver_facts.proofs.threads.ThreadTable.add.Goals as goal

pub grow-requires : goal.grow-requires
unfolding capacity
grow-requires c = rw (ap (λ (t : ThreadsValue). t.made) c.self.view_is) c.requires
