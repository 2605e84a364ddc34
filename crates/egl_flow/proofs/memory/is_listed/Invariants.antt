use Rattle.std.proofs.Common.{◌≡◌, drop}
use Rattle.egl_flow.specs.Memory.{is_listed}
use Rattle.egl_flow.proofs.memory.is_listed.Given as goal

abbrev pub invariant-loop-z : goal.invariant-loop-z
invariant-loop-z l = is_listed (drop l.z-index l.fails) l.call ≡ is_listed l.fails l.call
