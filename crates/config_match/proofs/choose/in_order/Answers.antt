use Rattle.config_match.proofs.SortLaws.{sorted_is}
use Rattle.config_match.proofs.choose.in_order.Goals as goal

pub returns-in-Ok-clause-order : goal.returns-in-Ok-clause-order
returns-in-Ok-clause-order c = sorted_is c.args.keys.items c.sort.new.self.items c.sort.ensures.permutation c.in-Ok.ensures.sorted
