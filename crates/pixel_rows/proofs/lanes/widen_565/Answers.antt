use Rattle.pixel_formats.specs.declared.formats.Format.TheVariants.{Rgb565}
use Rattle.pixel_rows.proofs.LaneWords.{high_of, low_of, of_565}
use Rattle.pixel_rows.specs.Words.{blue_alpha, red_green}
use Rattle.pixel_rows.proofs.lanes.widen_565.Goals as goal

pub returns-clause-low : goal.returns-clause-low
returns-clause-low c =
    low_of Rgb565 red_green blue_alpha of_565 c.args.row.now c.load_words-v.result c.red_green.result c.blue_alpha.result c.requires c.load_words-v.ensures.cells c.load_words-v.ensures.words c.red_green.ensures c.blue_alpha.ensures

pub returns-clause-high : goal.returns-clause-high
returns-clause-high c =
    high_of Rgb565 red_green blue_alpha of_565 c.args.row.now c.load_words-v.result c.red_green.result c.blue_alpha.result c.requires c.load_words-v.ensures.cells c.load_words-v.ensures.words c.red_green.ensures c.blue_alpha.ensures
