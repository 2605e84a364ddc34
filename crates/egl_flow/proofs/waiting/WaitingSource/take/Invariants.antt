use Rattle.std.proofs.Common.{◌≡◌}
use Rattle.std.specs.Io.KnownBytes.{Keeps}
use Rattle.egl_flow.proofs.waiting.WaitingSource.take.Given as goal

abbrev pub invariant-naps : goal.invariant-naps
invariant-naps g l = record {
  steady : l.self.source.faults ≡ l.fn.self.source.faults;
  kept : Keeps (g.R.Read.remaining l.fn.self.source.reader) (g.R.Read.remaining l.self.source.reader);
}
