use Rattle.std.proofs.Common.{arith}
use Rattle.std.proofs.Math.Nat.{mul-le-mul}
use Rattle.scene_reader.proofs.limits.product.Goals as goal

pub returns-clause-few : goal.returns-clause-few
returns-clause-few c = omega (arith, mul-le-mul {n₁ = c.from.result} {m₁ = c.from-2.result} {n₂ = 4294967295} {m₂ = 4294967295} (omega (arith, c.from.ensures, c.ranges.a)) (omega (arith, c.from-2.ensures, c.ranges.b)))
