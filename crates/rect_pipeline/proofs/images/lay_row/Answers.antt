use Rattle.rect_pipeline.proofs.RowSpans.{run_in_row, run_still}
use Rattle.rect_pipeline.proofs.images.lay_row.Goals as goal

pub returns-clause-row : goal.returns-clause-row
returns-clause-row c = run_in_row c.args.target.now c.lay_row.new.self c.args.span c.args.y _ _ c.args.mask c.width-width.ensures.whole c.requires.place.0 c.requires.long c.in-Ok.ensures.ok

pub returns-clause-still : goal.returns-clause-still
returns-clause-still c = run_still c.args.target.now c.lay_row.new.self _ _ c.args.mask c.lay_row.ensures.shape c.lay_row.ensures.whole c.in-Ok.ensures.ok
