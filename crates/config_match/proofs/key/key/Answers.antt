use Rattle.std.proofs.Common.{ap, ◌∙◌}
use Rattle.config_match.specs.Configs.{key, rank, caveats, buffer_types}
use Rattle.config_match.proofs.MatchLaws.{eleven}
use Rattle.config_match.proofs.key.key.Goals as goal

pub returns : goal.returns
unfolding key
returns c = eleven (c.caveat_rank.ensures ∙ ap (rank caveats) c.value.ensures) (c.buffer_rank.ensures ∙ ap (rank buffer_types) c.value-2.ensures) c.missing_bits.ensures c.value-3.ensures c.value-4.ensures c.value-5.ensures c.value-6.ensures c.value-7.ensures c.value-8.ensures c.value-9.ensures c.value-10.ensures
