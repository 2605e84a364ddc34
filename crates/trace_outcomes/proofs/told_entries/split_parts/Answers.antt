use Rattle.std.proofs.Common.{rules, tests}
use Rattle.std.proofs.lemmas.Iterator.Consumers.{map_from_collect}
use Rattle.std.proofs.lemmas.Iterator.Splits.{YieldsList-from_slice_split}
use Rattle.trace_reader.specs.Words.{is_space}
use Rattle.journal_text.specs.Recorded.{parts}
use Rattle.trace_outcomes.proofs.told_entries.split_parts.Goals as goal

pub returns : goal.returns
unfolding parts
returns c =
    map_from_collect _ c.collect.ensures.ran (YieldsList-from_slice_split _ is_space c.args.text.now c.split.ensures.rest c.split.ensures.done c.split.ensures.closure (λ x r q k. search (rules, tests)))
