use Rattle.egl_model.specs.State.{State}
use Rattle.egl_model.specs.Sweep.{roots}
use Rattle.model_laws.proofs.References.SweepLaws.{has_object-sweep, length-swept, object_at-sweep, reached-sweep}
use Rattle.model_laws.proofs.laws.a_sweep_keeps_what_is_reached.Goals as goal

pub returns-clause-object : goal.returns-clause-object
returns-clause-object c = object_at-sweep

pub returns-clause-reached : goal.returns-clause-reached
returns-clause-reached c = reached-sweep

pub returns-clause-exists : goal.returns-clause-exists
returns-clause-exists c = has_object-sweep

pub returns-clause-places : goal.returns-clause-places
returns-clause-places c = λ (s : State). length-swept (roots s) s.objects
