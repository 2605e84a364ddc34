use Rattle.pixel_rows.proofs.LaneWords.{words_widened}
use Rattle.pixel_rows.proofs.Loading.{whole_converted}
use Rattle.pixel_rows.proofs.loads.load_words.Goals as goal

pub returns : goal.returns
returns c = whole_converted c.args.f c.args.from 4 2 c.args.at c.args.source.now _ _ _ c.requires.form
    c.as_chunks.ensures.front c.as_chunks.ensures.front_len (words_widened c.args.f c.args.from c.args.at _ _ _ c.requires.form c.convert_words.ensures)
