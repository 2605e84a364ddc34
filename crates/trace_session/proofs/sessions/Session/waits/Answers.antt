use Rattle.std.proofs.Common.{ap}
use Rattle.trace_session.specs.Sessions.{SessionValue}
use Rattle.trace_session.proofs.sessions.Session.waits.Goals as goal

pub is_free-requires : goal.is_free-requires
is_free-requires c = rw (c.as_slice.ensures.value, c.self.invariant.variables, ap (λ (s : SessionValue). s.trace) c.self.view_is) c.requires.uses
