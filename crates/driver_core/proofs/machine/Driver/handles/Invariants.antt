use Rattle.std.proofs.Common.{◌≡◌}
use Rattle.driver_core.specs.Contents.{below}
use Rattle.driver_core.proofs.machine.Driver.handles.Given as goal

-- the handles with lower numbers are in the list
abbrev pub invariant-numbers : goal.invariant-numbers
invariant-numbers l = l.list.items ≡ below l.number l.self.state.handles
