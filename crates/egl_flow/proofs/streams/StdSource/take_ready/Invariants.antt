use Rattle.std.proofs.Common.{◌≡◌}
use Rattle.std.specs.Io.KnownBytes.{Keeps}
use Rattle.egl_flow.proofs.streams.StdSource.take_ready.Given as goal

abbrev pub invariant-tries : goal.invariant-tries
invariant-tries g l = record {
  steady : l.self.faults ≡ l.fn.self.faults;
  kept : Keeps (g.R.Read.remaining l.fn.self.reader) (g.R.Read.remaining l.self.reader);
}
