use Rattle.std.proofs.Common.{◌∙◌}
use Rattle.race_report.proofs.EventLaws.{few_threads}
use Rattle.race_report.proofs.ReplayLaws.{few_of}
use Rattle.race_report.proofs.replays.report.Goals as goal

pub races-requires : goal.races-requires
races-requires c =
    let few = few_of c.args.trace.now c.args.run.now.journal.entries c.as_slice-entries.result.now c.lines.ensures.trace c.as_slice-entries.ensures c.requires in
    few_threads c.lines.result.now c.as_slice-entries.result.now _ few c.as_slice.result.now (c.as_slice.ensures.value ∙ c.in_ok-events.ensures)
