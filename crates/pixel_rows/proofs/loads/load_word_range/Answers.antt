use Rattle.std.proofs.Common.{refl}
use Rattle.pixel_rows.proofs.Loading.{range_loaded}
use Rattle.pixel_rows.proofs.Stored.{some_bytes}
use Rattle.pixel_rows.proofs.loads.load_word_range.Goals as goal

pub returns-then-whole-count : goal.returns-then-whole-count
returns-then-whole-count c = range_loaded c.args.f c.args.from 2 c.args.at _ c.args.count c.args.source.now _ _ _ _ (some_bytes c.args.from 2 c.requires.from) refl c.split_at.ensures.back c.if-whole-count.true
    c.load_words.ensures c.load_rest.ensures
