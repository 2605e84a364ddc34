-- What is told to people of a line that differs.
use Rattle.std.specs.Prelude.{ℕ, List, [], ◌++◌, codes, decimal}
use Rattle.trace_model.specs.Recording.{bytes_text}
use Rattle.driver_judge.specs.declared.differences.Difference.{Difference}
use Rattle.driver_judge.specs.declared.differences.Difference.TheVariants.{Outcome, Value, Items, Pixels, Length}
use Rattle.driver_judge.specs.declared.differences.PixelDifference.{PixelDifference}
use Rattle.egl_judge.specs.Numbers.{long_text, optional_text, outcome_text, parted}
use Rattle.egl_judge.specs.Reasons.{begun_text}

-- ---- How pixels differ.
abbrev pub part_text : PixelDifference → List ℕ
part_text p = decimal p.count ++ codes " of " ++ decimal p.of ++ codes " pixels differ, by "

abbrev pub steps_text : PixelDifference → List ℕ
steps_text p = decimal p.largest ++ codes " steps at most, in columns "

abbrev pub columns_text : PixelDifference → List ℕ
columns_text p = decimal p.left ++ codes " to " ++ decimal p.right ++ codes " and rows "

abbrev pub rows_text : PixelDifference → List ℕ
rows_text p = decimal p.bottom ++ codes " to " ++ decimal p.top ++ codes "; the first at "

abbrev pub place_text : PixelDifference → List ℕ
place_text p = decimal p.x ++ codes ", " ++ decimal p.y ++ codes "\n"

abbrev pub differing_text : PixelDifference → List ℕ
differing_text p = begun_text [] ++ part_text p ++ steps_text p

abbrev pub where_text : PixelDifference → List ℕ
where_text p = columns_text p ++ rows_text p ++ place_text p

abbrev pub pixels_text : PixelDifference → List ℕ
pixels_text p = differing_text p ++ where_text p

-- ---- What came, and what would have agreed beside a call's outcome.
unfoldable pub came_text : Difference → List ℕ
came_text (Outcome expected found kind refusals) = outcome_text found
came_text (Value expected found) = long_text found
came_text (Items expected found) = codes "[" ++ parted long_text found ++ codes "]"
came_text (Pixels p) = bytes_text p.found
came_text (Length expected found) = decimal found ++ codes " bytes"

unfoldable pub wanted_text : Difference → List ℕ
wanted_text (Outcome expected found kind refusals) = parted outcome_text expected
wanted_text (Value expected found) = optional_text expected
wanted_text (Items expected found) = codes "[" ++ parted optional_text expected ++ codes "]"
wanted_text (Pixels p) = bytes_text p.expected
wanted_text (Length expected found) = decimal expected ++ codes " bytes"

abbrev pub came_line : Difference → List ℕ
came_line d = begun_text (codes "came: ") ++ came_text d ++ codes "\n"

abbrev pub wanted_line : Difference → List ℕ
wanted_line d = begun_text (codes "would agree: ") ++ wanted_text d ++ codes "\n"
