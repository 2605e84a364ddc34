use Rattle.std.proofs.Common.{◌≡◌, ◌+◌, drop, map}
use Rattle.std.specs.List.{position_or_len}
use Rattle.log_reader.specs.Answers.{is_arrow}
use Rattle.log_reader.proofs.answers.arrow_at.Given as goal

abbrev pub invariant-each : goal.invariant-each
invariant-each l = record {
  place : l.at + position_or_len is_arrow (map (λ w. w.now) (drop l.word-index l.words)) ≡ position_or_len is_arrow (map (λ w. w.now) l.words);
  passed : l.at ≡ l.word-index;
}
