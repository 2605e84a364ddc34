use Rattle.std.proofs.Common.{◌+◌, ◌∷◌, [], append_assoc}
use Rattle.std.proofs.lemmas.Fmt.{decimal_digit}
use Rattle.journal_text.proofs.texts.put_decimal_and_space.Goals as goal

pub returns-then-n-lt10 : goal.returns-then-n-lt10
returns-then-n-lt10 c = rw (decimal_digit c.args.n c.if-n-lt10.true, append_assoc c.args.out.now ((48 + c.args.n) ∷ []) (32 ∷ [])) c.extend.ensures.ok
