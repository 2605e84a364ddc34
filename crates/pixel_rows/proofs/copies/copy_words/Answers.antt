use Rattle.pixel_rows.proofs.Holding.{all_converted}
use Rattle.pixel_rows.proofs.LaneWords.{words_widened}
use Rattle.pixel_rows.proofs.copies.copy_words.Goals as goal

pub returns : goal.returns
returns c = all_converted c.args.f c.args.from 4 c.args.row.now _ _ c.requires.form c.requires.long (words_widened c.args.f c.args.from 0 c.args.row.now _ _ c.requires.form c.convert_words.ensures)
