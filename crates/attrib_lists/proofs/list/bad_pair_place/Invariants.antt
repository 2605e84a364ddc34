use Rattle.std.proofs.Common.{◌≡◌, ◌*◌, drop}
use Rattle.attrib_lists.specs.Lists.{pairs, bad_pair}
use Rattle.attrib_lists.proofs.PairLaws.{bad_from}
use Rattle.attrib_lists.proofs.list.bad_pair_place.Given as goal

abbrev pub invariant-loop-k : goal.invariant-loop-k
invariant-loop-k l = bad_from l.allowed l.k (pairs (drop (2 * l.k) l.list)) ≡ bad_pair l.allowed l.list
