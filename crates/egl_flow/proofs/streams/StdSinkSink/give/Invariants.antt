use Rattle.std.proofs.Common.{◌≡◌}
use Rattle.std.specs.Io.KnownBytes.{Keeps}
use Rattle.egl_flow.proofs.streams.StdSinkSink.give.Given as goal

abbrev pub invariant-tries : goal.invariant-tries
invariant-tries g l = record {
  steady : l.self.faults ≡ l.fn.self.faults;
  kept : Keeps (g.W.Write.contents l.fn.self.writer) (g.W.Write.contents l.self.writer);
}
