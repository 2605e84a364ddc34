use Rattle.std.proofs.Common.{sym, ◌∙◌}
use Rattle.pixel_rows.proofs.RowBytes.{fours_read}
use Rattle.pixel_rows.proofs.Seen.{length-seen}
use Rattle.pixel_rows.proofs.runs.read_fours.Goals as goal

pub returns-clause-long : goal.returns-clause-long
returns-clause-long c = sym (length-seen c.args.f c.gather.new.cells) ∙ c.gather.ensures.long ∙ length-seen c.args.f c.args.row.now

pub returns-clause-each : goal.returns-clause-each
returns-clause-each c = fours_read c.args.f c.args.first c.args.columns.now c.args.source.now _ _ c.requires.form c.requires.range c.gather.ensures
