-- What the lock asks of a value, and what it tells of one.
use Rattle.std.specs.Prelude.{◌≡◌, ◌≢◌, ℕ, ◌<◌, ◌≤◌, List, [], ◌++◌, length, slice_index, All, Contains}
use Rattle.turn_lock.specs.declared.view.View.{View}
use Rattle.turn_lock.specs.Meaning.{Meaning, StandsFor}
use Rattle.turn_lock.specs.Views.{Owns, ThenOthers, AreOwn}

module _ {S E : Type 0} (m : Meaning S E) where
  -- A lock may begin with the value: it stands for the empty history, and counts one pass made, which is live and has a room
  pub record Begins (x : S) : Type 0 where
    pub stands : StandsFor m x x []
    pub made_is : m.made x ≡ 1
    pub live_is : m.live x ≡ 1
    pub one_room : length (m.rooms x) ≡ 1

  -- A turn of the pass found the value, in the lock that began with `first`
  pub record Finds (first : S) (v : View S E) (x : S) : Type 0 where
    -- the value stands for its history
    pub stands : StandsFor m first x (m.history x)
    -- which is what the pass had seen, and then entries of others
    pub history : ThenOthers m v (m.history x)
    -- the pass's own room is the one that it left, and those of the passes that ended in it are 0
    pub own_room : slice_index (m.rooms x) v.number ≡ slice_index v.rooms v.number
    pub ended_rooms : (n : ℕ) → Contains v.ended n → slice_index (m.rooms x) n ≡ 0
    -- where the pass has counted one live pass, it is still the only one
    pub sole : v.counts.live ≡ 1 → m.live x ≡ 1
    -- the numbers of the pass, of those that ended in it, and of every entry, are below the number of passes made
    pub number : v.number < m.made x
    pub ended_below : (n : ℕ) → Contains v.ended n → n < m.made x
    pub below : All (λ e. m.number e < m.made x) (m.history x)
    -- which is no less than the pass had counted
    pub made_counted : v.counts.made ≤ m.made x
    -- there are at most 65,536 passes, of which at least one is live, and a room for each
    pub few : m.made x ≤ 65536
    pub some_live : 1 ≤ m.live x
    pub live_few : m.live x ≤ m.made x
    pub long : length (m.rooms x) ≡ m.made x

  -- The pass, which is in turn, may give the value back, in the lock that began with `first`
  pub record Returns (first : S) (v : View S E) (x : S) : Type 0 where
    -- the value stands for its history
    pub stands : StandsFor m first x (m.history x)
    -- which is what the pass has seen, with entries of the pass's own number after it
    pub history : (tail : List E) × (m.history x ≡ v.seen ++ tail) × AreOwn m v tail
    -- it counts the passes made and the live ones as the pass does
    pub made_is : m.made x ≡ v.counts.made
    pub live_is : m.live x ≡ v.counts.live
    -- it has the pass's rooms, where only the place of the pass's own number may differ
    pub long : length (m.rooms x) ≡ length v.rooms
    pub other_rooms : (n : ℕ) → n ≢ v.number → slice_index (m.rooms x) n ≡ slice_index v.rooms n

  -- The value is what the sole pass leaves when the lock that began with `first` is closed
  pub record Leaves (first : S) (v : View S E) (x : S) : Type 0 where
    -- it is what one more turn would have found
    pub found : Finds first v x
    -- its history is all that the pass had seen
    pub history : m.history x ≡ v.seen
    -- each entry is the pass's own, or of a pass that ended in it
    pub owned : All (λ e. Owns v (m.number e)) (m.history x)
    -- so is each number made
    pub made_owned : (n : ℕ) → n < m.made x → Owns v n
    -- and there is no other pass
    pub sole : m.live x ≡ 1
