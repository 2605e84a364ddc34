-- Windows: what is declared of them, and what they show.
use Rattle.std.specs.Prelude.{◌≡◌, ℤ, pos, Bool, true, false, ◌&&◌, List, [], ◌∷◌, length, nat_le, int_le, if◌then◌else◌}
use Rattle.std.specs.Ordering.{int_eq}
use Rattle.pixel_formats.specs.declared.formats.Format.TheVariants.{Rgba8888}
use Rattle.pixel_rows.specs.Images.{ImageValue, IsImage, blank}
use Rattle.surface_store.specs.declared.windows.WindowSpec.{WindowSpec}

-- whether a window may be declared so
abbrev pub is_spec : WindowSpec → Bool
is_spec s = int_le (pos 1) s.id && int_le s.id (pos 2147483647) && nat_le 1 s.w && nat_le s.w 2048 && nat_le 1 s.h && nat_le s.h 2048

-- whether a window of a list has an id
abbrev pub has_id : ℤ → List WindowSpec → Bool
has_id id [] = false
has_id id (s ∷ list) = if int_eq s.id id then true else has_id id list

-- whether each window may be declared so, and no two have one id
abbrev pub are_distinct : List WindowSpec → Bool
are_distinct [] = true
are_distinct (s ∷ list) = if is_spec s then (if has_id s.id list then false else are_distinct list) else false

-- whether windows may be declared together: at most 64
abbrev pub windows_ok : List WindowSpec → Bool
windows_ok list = nat_le (length list) 64 && are_distinct list

-- a window: its id and the pixels that it shows
pub record WindowValue : Type 0 where
  pub id : ℤ
  pub front : ImageValue

-- a new window
abbrev pub opened : WindowSpec → WindowValue
opened s = record { id = s.id; front = blank Rgba8888 s.w s.h }

-- a window once it shows the pixels of an image, each at 8 bits a component
abbrev pub posted : ImageValue → WindowValue → WindowValue
posted back w = record w { front = record w.front { pixels = back.pixels } }

-- an image at 8 bits a component whose bytes are its own
pub record IsFront (image : ImageValue) : Type 0 where
  pub whole : IsImage image
  pub format : image.format ≡ Rgba8888
  pub owned : image.owned ≡ true
