use Rattle.attrib_lists.proofs.ListLaws.{names_the_first}
use Rattle.attrib_lists.proofs.laws.the_first_bad_attribute_is_named.Goals as goal

pub returns : goal.returns
returns c = names_the_first
