-- A scene as a value.
use Rattle.std.specs.Prelude.{◌≡◌, ℕ, ◌+◌, ◌≤◌, Bool, true, ◌&&◌, nat_le, nat_lt, List, [], ◌∷◌, ◌++◌, length}
use Rattle.scene_reader.specs.declared.items.Item.{Item}
use Rattle.scene_reader.specs.Items.{bytes_of, draws, draws_of, is_item, texture_bytes}

pub record SceneValue : Type 0 where
  pub width : ℕ
  pub height : ℕ
  pub items : List Item

-- how many items a scene may have, how many draws they may make, and how many bytes their textures may have
abbrev pub most_items : ℕ
most_items = 4000

abbrev pub most_draws : ℕ
most_draws = 20000

abbrev pub most_bytes : ℕ
most_bytes = 8388608

-- one more item passes no limit
abbrev pub has_room : List Item → Item → Bool
has_room before i =
    nat_lt (length before) most_items && nat_le (draws_of before + draws i) most_draws
    && nat_le (bytes_of before + texture_bytes i) most_bytes

-- each of these items may stand behind those before it
abbrev pub AreItems : List Item → List Item → Type 0
AreItems before [] = Unit {0}
AreItems before (i ∷ more) = (is_item before i ≡ true) × AreItems (before ++ i ∷ []) more

pub record IsSide (n : ℕ) : Type 0 where
  pub low : 1 ≤ n
  pub high : n ≤ 2048

-- what each scene is
pub record IsScene (s : SceneValue) : Type 0 where
  pub width : IsSide s.width
  pub height : IsSide s.height
  pub items : AreItems [] s.items
  pub few : length s.items ≤ most_items
  pub few_draws : draws_of s.items ≤ most_draws
  pub few_bytes : bytes_of s.items ≤ most_bytes

-- what was read of a scene: items that make so many draws and have textures of so many bytes
pub record IsRead (read : List Item) (count bytes : ℕ) : Type 0 where
  pub items : AreItems [] read
  pub draws_are : count ≡ draws_of read
  pub bytes_are : bytes ≡ bytes_of read
  pub few : length read ≤ most_items
  pub few_draws : draws_of read ≤ most_draws
  pub few_bytes : bytes_of read ≤ most_bytes
