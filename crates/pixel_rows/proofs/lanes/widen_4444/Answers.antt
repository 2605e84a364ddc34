use Rattle.pixel_formats.specs.declared.formats.Format.TheVariants.{Rgba4444}
use Rattle.pixel_rows.proofs.LaneWords.{high_of, low_of, of_4444}
use Rattle.pixel_rows.specs.Words.{blue_alpha_4444, red_green_4444}
use Rattle.pixel_rows.proofs.lanes.widen_4444.Goals as goal

pub returns-clause-low : goal.returns-clause-low
returns-clause-low c =
    low_of Rgba4444 red_green_4444 blue_alpha_4444 of_4444 c.args.row.now c.load_words-v.result c.red_green_4444.result c.blue_alpha_4444.result c.requires c.load_words-v.ensures.cells c.load_words-v.ensures.words c.red_green_4444.ensures c.blue_alpha_4444.ensures

pub returns-clause-high : goal.returns-clause-high
returns-clause-high c =
    high_of Rgba4444 red_green_4444 blue_alpha_4444 of_4444 c.args.row.now c.load_words-v.result c.red_green_4444.result c.blue_alpha_4444.result c.requires c.load_words-v.ensures.cells c.load_words-v.ensures.words c.red_green_4444.ensures c.blue_alpha_4444.ensures
