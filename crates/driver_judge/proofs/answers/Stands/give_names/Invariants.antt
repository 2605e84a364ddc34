use Rattle.std.proofs.Common.{◌≡◌, drop, length, true}
use Rattle.driver_judge.specs.Answers.{new_names}
use Rattle.driver_judge.proofs.answers.Stands.give_names.Given as goal

abbrev pub invariant-each : goal.invariant-each
invariant-each l = record {
  names : new_names l.group l.kind (drop l.place l.ours) (drop l.place l.theirs) (record { agree = l.agree; stands = l.self }) ≡ new_names l.group l.kind l.ours l.theirs (record { agree = true; stands = l.fn.self });
  long : length l.ours ≡ length l.theirs;
}
