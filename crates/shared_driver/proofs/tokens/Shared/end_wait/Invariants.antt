use Rattle.std.proofs.Common.{◌≡◌}
use Rattle.shared_driver.specs.Tokens.{HasPlace, IsFrom, IsSame, Learns, token_of}
use Rattle.shared_driver.proofs.tokens.Shared.end_wait.Given as goal

abbrev pub invariant-waiting : goal.invariant-waiting
invariant-waiting g l = IsFrom l.self l.thread × IsSame (token_of l.fn.thread) (token_of l.thread) × Learns (token_of l.fn.thread) (token_of l.thread) × HasPlace l.thread × ((token_of l.thread).sole ≡ (token_of l.fn.thread).sole) × ((token_of l.thread).places ≡ (token_of l.fn.thread).places)
