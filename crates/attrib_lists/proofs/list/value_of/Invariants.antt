use Rattle.std.proofs.Common.{◌≡◌, ◌*◌, ◌≤◌, length, take}
use Rattle.attrib_lists.specs.Lists.{pairs, value_of}
use Rattle.attrib_lists.proofs.PairLaws.{last_of}
use Rattle.attrib_lists.proofs.list.value_of.Given as goal

abbrev pub invariant-pairs : goal.invariant-pairs
invariant-pairs l = record {
  found : last_of l.fn.attribute (pairs (take (2 * l.left) l.list)) ≡ value_of l.list l.fn.attribute;
  within : 2 * l.left ≤ length l.list;
}

abbrev pub decreases-pairs : goal.decreases-pairs
decreases-pairs l = l.left
