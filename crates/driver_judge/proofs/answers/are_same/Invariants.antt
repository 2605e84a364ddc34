use Rattle.std.proofs.Common.{◌≡◌, drop, length}
use Rattle.driver_judge.specs.Answers.{are_same}
use Rattle.driver_judge.proofs.answers.are_same.Given as goal

abbrev pub invariant-each : goal.invariant-each
invariant-each l = record {
  same : are_same (drop l.place l.ours) (drop l.place l.theirs) ≡ are_same l.ours l.theirs;
  long : length l.ours ≡ length l.theirs;
}
