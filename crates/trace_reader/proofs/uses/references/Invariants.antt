use Rattle.std.proofs.Common.{◌≡◌, ◌≤◌, ◌++◌, drop, map, length}
use Rattle.std.specs.Prelude.{All}
use Rattle.trace_reader.specs.Arguments.{references, are_known}
use Rattle.trace_reader.specs.Order.{LeadsToOne}
use Rattle.trace_reader.proofs.uses.references.Given as goal

abbrev pub invariant-loop-k : goal.invariant-loop-k
invariant-loop-k l = record {
  value : l.uses ++ references l.variables l.place (drop l.k l.forms) (map (λ w. w.now) (drop l.k l.words)) ≡ references l.variables 0 l.forms (map (λ w. w.now) l.words);
  known : are_known l.variables (drop l.k l.forms) (map (λ w. w.now) (drop l.k l.words)) ≡ are_known l.variables l.forms (map (λ w. w.now) l.words);
  all : All (LeadsToOne (length l.variables)) l.uses;
  place : l.place ≤ l.k;
}
