use Rattle.std.proofs.Common.{arith}
use Rattle.scene_reader.proofs.PowerLaws.{least_is}
use Rattle.scene_reader.proofs.limits.least_power.Goals as goal

pub returns : goal.returns
returns c =
    least_is c.args.n c.next_power_of_two.result c.next_power_of_two.ensures.power
    (omega (arith, c.min.ensures, c.next_power_of_two.ensures.lower_bound))
    (omega (arith, c.min.ensures, c.next_power_of_two.ensures.upper_bound))
