use Rattle.std.proofs.Common.{refl}
use Rattle.pixel_rows.proofs.RowBytes.{columns_read, run_read}
use Rattle.pixel_rows.proofs.runs.read.Goals as goal

pub returns-in-Some-clause-each : goal.returns-in-Some-clause-each
returns-in-Some-clause-each g c =
    run_read c.args.f c.args.first c.in-Some.column c.args.columns.now c.args.source.now _ _ _ c.requires.range c.requires.columns c.in-Some.ensures.some c.in-Some.ensures.run refl c.convert_range.ensures

pub returns-in-None-clause-each : goal.returns-in-None-clause-each
returns-in-None-clause-each g c = columns_read c.args.f c.args.first c.args.columns.now c.args.source.now _ _ c.requires.range c.requires.columns c.read_range.ensures
