use Rattle.std.proofs.Common.{◌≡◌, ◌++◌, drop}
use Rattle.egl_cli.specs.Frames.{stacked, stacked_over}
use Rattle.egl_cli.proofs.frames.stacked.Given as goal

abbrev pub invariant-each : goal.invariant-each
invariant-each l = l.list.items ++ stacked_over l.below (drop l.below l.specs) ≡ stacked l.specs
