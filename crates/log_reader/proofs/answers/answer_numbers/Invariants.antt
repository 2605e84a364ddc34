use Rattle.std.proofs.Common.{◌≡◌, length, drop}
use Rattle.trace_reader.specs.Lists.{comma_parts, items}
use Rattle.trace_reader.proofs.ListLaws.{numbers_behind}
use Rattle.log_reader.specs.Answers.{answer_numbers}
use Rattle.log_reader.proofs.answers.answer_numbers.Given as goal

abbrev pub invariant-items : goal.invariant-items
invariant-items l = numbers_behind l.found (answer_numbers (drop (length l.yielded) (comma_parts l.text))) ≡ answer_numbers (items l.text)
