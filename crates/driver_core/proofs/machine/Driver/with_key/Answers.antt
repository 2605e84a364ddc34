use Rattle.egl_model.specs.State.{capacity}
use Rattle.driver_facts.proofs.RootLaws.{opening_held}
use Rattle.driver_core.proofs.machine.Driver.with_key.Goals as goal

pub invariant_of-result : goal.invariant_of-result
invariant_of-result c = λ n. rw (c.with_key.ensures, c.in_ok-new.ensures, c.new.ensures) (opening_held capacity n)
