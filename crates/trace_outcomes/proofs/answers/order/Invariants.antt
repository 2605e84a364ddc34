use Rattle.std.proofs.Common.{◌≡◌, ◌++◌, drop, map}
use Rattle.trace_outcomes.proofs.answers.order.Given as goal

abbrev pub invariant-each : goal.invariant-each
invariant-each l = l.numbers ++ map (λ e. e.mark) (drop l.entry-index l.entries) ≡ map (λ e. e.mark) l.entries
