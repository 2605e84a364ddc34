use Rattle.std.proofs.Common.{◌≡◌, ◌≤◌, drop}
use Rattle.trace_reader.specs.Numerals.{number_after}
use Rattle.log_reader.specs.Numbers.{most_long}
use Rattle.log_reader.proofs.numbers.number_after.Given as goal

abbrev pub invariant-digits : goal.invariant-digits
invariant-digits l = record {
  read : number_after most_long l.n (drop l.b-index l.word) ≡ number_after most_long 0 l.word;
  small : l.n ≤ most_long;
}
