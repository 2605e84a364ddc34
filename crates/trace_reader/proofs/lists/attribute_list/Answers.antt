use Rattle.std.proofs.Common.{◌∙◌, sym, ap}
use Rattle.trace_reader.specs.Lists.{attributes_among, attribute_list}
use Rattle.trace_reader.proofs.lists.attribute_list.Goals as goal

pub returns-in-Some-clause-value : goal.returns-in-Some-clause-value
unfolding attribute_list
returns-in-Some-clause-value c = c.attributes.ensures.value ∙ ap attributes_among (sym c.in-Some.is ∙ c.in_ok-numbers.ensures.value)

pub returns-in-None-clause-value : goal.returns-in-None-clause-value
unfolding attribute_list
returns-in-None-clause-value c = ap attributes_among (sym c.in-None.is ∙ c.in_ok-numbers.ensures.value)
