use Rattle.pixel_formats.specs.declared.formats.Format.TheVariants.{Rgba5551}
use Rattle.pixel_rows.proofs.LaneWords.{high_of, low_of, of_5551}
use Rattle.pixel_rows.specs.Words.{blue_alpha_5551, red_green_5551}
use Rattle.pixel_rows.proofs.lanes.widen_5551.Goals as goal

pub returns-clause-low : goal.returns-clause-low
returns-clause-low c =
    low_of Rgba5551 red_green_5551 blue_alpha_5551 of_5551 c.args.row.now c.load_words-v.result c.red_green_5551.result c.blue_alpha_5551.result c.requires c.load_words-v.ensures.cells c.load_words-v.ensures.words c.red_green_5551.ensures c.blue_alpha_5551.ensures

pub returns-clause-high : goal.returns-clause-high
returns-clause-high c =
    high_of Rgba5551 red_green_5551 blue_alpha_5551 of_5551 c.args.row.now c.load_words-v.result c.red_green_5551.result c.blue_alpha_5551.result c.requires c.load_words-v.ensures.cells c.load_words-v.ensures.words c.red_green_5551.ensures c.blue_alpha_5551.ensures
