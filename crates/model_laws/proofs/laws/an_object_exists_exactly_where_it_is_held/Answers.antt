use Rattle.model_laws.proofs.Steps.StepKeeps.{held_if_exists, exists_if_held}
use Rattle.model_laws.proofs.laws.an_object_exists_exactly_where_it_is_held.Goals as goal

pub returns : goal.returns
returns c = λ windows ok video entries n. (held_if_exists windows ok video entries n, exists_if_held windows ok video entries n)
