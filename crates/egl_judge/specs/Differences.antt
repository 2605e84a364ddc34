-- In what an answer differs, as it is written.
use Rattle.std.specs.Prelude.{ℕ, ◌++◌, List, codes, decimal}
use Rattle.trace_model.specs.Recording.{bytes_text}
use Rattle.driver_judge.specs.declared.differences.Difference.{Difference}
use Rattle.driver_judge.specs.declared.differences.Difference.TheVariants.{Outcome, Value, Items, Pixels, Length}
use Rattle.driver_judge.specs.declared.differences.PixelDifference.{PixelDifference}
use Rattle.egl_judge.specs.Numbers.{long_text, optional_text, outcome_text, parted}

-- X0 Y0 X1 Y1: the least rectangle with all pixels that differ, by its first and its last column and row
abbrev pub box_text : PixelDifference → List ℕ
box_text p = decimal p.left ++ codes " " ++ decimal p.bottom ++ codes " " ++ decimal p.right ++ codes " " ++ decimal p.top

-- COUNT OF LARGEST
abbrev pub count_text : PixelDifference → List ℕ
count_text p = decimal p.count ++ codes " " ++ decimal p.of ++ codes " " ++ decimal p.largest

-- X Y EXPECTED FOUND: the first pixel that differs
abbrev pub first_text : PixelDifference → List ℕ
first_text p = decimal p.x ++ codes " " ++ decimal p.y ++ codes " " ++ bytes_text p.expected ++ codes " " ++ bytes_text p.found

unfoldable pub difference_text : Difference → List ℕ
difference_text (Outcome expected found kind refusals) = codes "outcome " ++ parted outcome_text expected ++ codes " " ++ outcome_text found
difference_text (Value expected found) = codes "value " ++ optional_text expected ++ codes " " ++ long_text found
difference_text (Items expected found) = codes "list [" ++ parted optional_text expected ++ codes "] [" ++ parted long_text found ++ codes "]"
difference_text (Pixels p) = codes "pixels " ++ count_text p ++ codes " " ++ box_text p ++ codes " " ++ first_text p
difference_text (Length expected found) = codes "length " ++ decimal expected ++ codes " " ++ decimal found
