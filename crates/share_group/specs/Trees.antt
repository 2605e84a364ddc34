-- How the names of a range of numbers are kept. No public clause cites this module.
use Rattle.std.specs.Prelude.{◌≡◌, ℕ, ◌+◌, ◌-◌, ◌/◌, ◌<◌, ◌^◌, List, length}
use Rattle.share_group.specs.declared.names.Name.{Name}
use Rattle.share_group.specs.Names.{objects_in, Rise}

-- the numbers from `low` to `last`, and the used names among them
pub record TreeValue : Type 0 where
  pub low : ℕ
  pub last : ℕ
  pub names : List Name

-- the last number of the lower half
abbrev pub middle_of : ℕ → ℕ → ℕ
middle_of low last = low + (last - low) / 2

-- the two halves of a range, and the counts of both
pub record IsFork (low last names objects : ℕ) (l r : TreeValue) : Type 0 where
  pub wide : low < last
  pub fits : last < 2 ^ 32
  pub lower_low : l.low ≡ low
  pub lower_last : l.last ≡ middle_of low last
  pub upper_low : r.low ≡ middle_of low last + 1
  pub upper_last : r.last ≡ last
  pub lower : Rise low l.names (middle_of low last + 1)
  pub upper : Rise (middle_of low last + 1) r.names (last + 1)
  pub counted : names ≡ length l.names + length r.names
  pub counted_objects : objects ≡ length (objects_in l.names) + length (objects_in r.names)
