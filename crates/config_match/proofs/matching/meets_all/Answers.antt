use Rattle.std.proofs.Common.{sym, ◌∙◌}
use Rattle.config_match.proofs.MatchLaws.{no_size, no_value, bits_left}
use Rattle.config_match.proofs.matching.meets_all.Goals as goal

pub returns-then-not-meets_at_least : goal.returns-then-not-meets_at_least
returns-then-not-meets_at_least c = no_size c.args.list.now c.args.config.now (sym c.if-not-meets_at_least.ensures)

pub returns-then-not-meets_exactly : goal.returns-then-not-meets_exactly
returns-then-not-meets_exactly c = no_value c.args.list.now c.args.config.now (sym c.if-not-meets_exactly.ensures)

pub returns : goal.returns
returns c = c.meets_bits.ensures ∙ bits_left c.args.list.now c.args.config.now (sym c.if-not-meets_at_least.ensures) (sym c.if-not-meets_exactly.ensures)
