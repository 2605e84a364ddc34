-- The rule of the lock: what holds between any two steps of any threads, of the two words, the slot and the views of all passes.
-- H, the history, exists in the rule alone. What the value stands for while it is in hand is no part of the rule: a pass in turn and
-- its held value keep that, and the pass on asks for it (`Returns`).
-- A spent view is excepted from all that is said of live ones. The entries of its number stay in the history.
-- What the rule has beyond the sentences of the lock's promise is marked "more:".
use Rattle.std.specs.Prelude.{◌≡◌, ◌≢◌, ◌⊎◌, ℕ, ◌+◌, ◌%◌, ◌^◌, ◌<◌, ◌≤◌, true, false, List, [], ◌∷◌, ◌++◌, length, slice_index, All, Contains, count_by, Some}
use Rattle.std.specs.Prelude as std
use mathlib.Core.Option.{none, some}
use Rattle.atomic_table.specs.Table.{State}
use Rattle.std.specs.declared.snapshot.Snapshot.{Snapshot}
use Rattle.turn_lock.specs.declared.view.View.{View}
use Rattle.turn_lock.specs.Meaning.{Meaning, StandsFor}
use Rattle.turn_lock.specs.Views.{Owns, has_ticket, is_live, At, Learned}

-- the table of the lock: its words, its slot if that is at home, and the views of all passes, at the places of their numbers
abbrev pub Table : Type 0 → Type 0 → Type 0
Table S E = State (std.Option S) (View S E)

module _ {S E : Type 0} (m : Meaning S E) where
  -- What holds of a live view, at the place i. `made` and `live` are the numbers of the passes made and of the live ones, `rooms` the current rooms
  pub record IsLiveView (first : Snapshot S) (history : List E) (rooms : List ℕ) (made live i : ℕ) (v : View S E) : Type 0 where
    -- Its `seen` is a prefix of the history. What was added later:
    pub later : List E
    pub prefix : history ≡ v.seen ++ later
    -- the entries of its number stand in its `seen`
    pub own_seen : All (λ e. m.number e ≢ v.number) later
    -- the entries of a number in its `ended` stand in its `seen`
    pub ended_seen : All (λ e. ¬ (Contains v.ended (m.number e))) later
    -- Its number is its place. So the numbers of passes differ and are below the number made, and no number is given twice
    pub number_is : v.number ≡ i
    -- at the place of its number, its own rooms and the current rooms have the same room
    pub own_room : slice_index rooms i ≡ slice_index v.rooms i
    -- at the place of a number in its `ended`, the current rooms have room 0
    pub ended_rooms : (n : ℕ) → Contains v.ended n → slice_index rooms n ≡ 0
    -- if it has counted one live view, it is the only live one
    pub sole : v.counts.live ≡ 1 → live ≡ 1
    -- more: it knows the value that the lock began with
    pub first_is : v.first ≡ Some first
    -- more: its own number isn't in its `ended`, and the numbers there are below the number made
    pub not_ended : ¬ (Contains v.ended i)
    pub ended_below : (n : ℕ) → Contains v.ended n → n < made
    -- more: at most as many passes were made when it counted them
    pub made_counted : v.counts.made ≤ made
    -- more: its `seen` includes all that the pass had seen that it joined last, of whose numbers it had owned none
    pub learned : Learned m v.number v.ended v.seen v.joined

  -- the slot is at home
  pub record IsHome (first : Snapshot S) (history : List E) (rooms : List ℕ) (made live : ℕ) (s : Table S E) (x : S) : Type 0 where
    -- it has a value in it
    pub home : s.homes ≡ some (Some x) ∷ []
    -- and no view is in turn
    pub nobody : (i : ℕ) (v : View S E) → At s.views i v → v.in_turn ≡ false
    -- the value stands for the history
    pub stands : StandsFor m first.value x history
    -- it counts the passes made and the live views
    pub made_is : m.made x ≡ made
    pub live_is : m.live x ≡ live
    -- the current rooms are its rooms
    pub rooms_are : m.rooms x ≡ rooms

  -- The slot is in hand, with the pass at the place i. The table itself keeps that a slot that isn't at home is with one seat alone
  pub record IsOut (history : List E) (rooms : List ℕ) (made live passed : ℕ) (s : Table S E) (i : ℕ) (v : View S E) : Type 0 where
    pub away : s.homes ≡ none ∷ []
    pub here : At s.views i v
    -- this view is live and in turn, and no other is
    pub live_is : v.live ≡ true
    pub in_turn : v.in_turn ≡ true
    pub only : (j : ℕ) (w : View S E) → At s.views j w → j ≢ i → w.in_turn ≡ false
    -- only a view whose ticket is the number of turns passed is in turn
    pub ticket : v.ticket ≡ Some passed
    -- the history is what it has seen
    pub seen : v.seen ≡ history
    -- it counts the passes made and the live views
    pub counts : v.counts ≡ record { made = made; live = live }
    -- the current rooms are its rooms
    pub rooms_are : v.rooms ≡ rooms

  -- the slot is at home unless a view is in turn
  abbrev pub IsPlaced : Snapshot S → List E → List ℕ → ℕ → ℕ → ℕ → Table S E → Type 0
  IsPlaced first history rooms made live passed s =
      ((x : S) × IsHome first history rooms made live s x) ⊎ ((i : ℕ) × (v : View S E) × IsOut history rooms made live passed s i v)

  -- The rule. The passes made are the views, spent ones too, and the live passes are the live views
  pub record Ruled (first : Snapshot S) (s : Table S E) : Type 0 where
    -- there are: the number of tickets given, that of turns passed, the history, and the current rooms
    pub given : ℕ
    pub passed : ℕ
    pub history : List E
    pub rooms : List ℕ
    -- tickets given are the turns passed plus the views with a ticket
    pub counted : given ≡ passed + count_by has_ticket s.views
    -- the two words are these numbers modulo 2 ^ 64
    pub words : s.words ≡ given % 2 ^ 64 ∷ passed % 2 ^ 64 ∷ []
    -- at most 65,536 passes were made
    pub few : length s.views ≤ 65536
    -- tickets of views differ
    pub differ : (i j : ℕ) (v w : View S E) (t : ℕ) → At s.views i v → At s.views j w → v.ticket ≡ Some t → w.ticket ≡ Some t → i ≡ j
    -- and lie from the turns passed up to below the tickets given
    pub tickets : (i : ℕ) (v : View S E) (t : ℕ) → At s.views i v → v.ticket ≡ Some t → (passed ≤ t) × (t < given)
    -- The slot is at home unless a view is in turn. The value at home stands for the history, or the view in turn has seen it
    pub slot : IsPlaced first history rooms (length s.views) (count_by is_live s.views) passed s
    -- there is one room for each pass made, in the value at home and in the view in turn
    pub long : length rooms ≡ length s.views
    -- every entry's number is below the number made
    pub below : All (λ e. m.number e < length s.views) history
    -- what holds of each live view
    pub views : (i : ℕ) (v : View S E) → At s.views i v → v.live ≡ true → IsLiveView first history rooms (length s.views) (count_by is_live s.views) i v
    -- each number made is a live view's or stands in the `ended` of one
    pub owned : (n : ℕ) → n < length s.views → (i : ℕ) × (v : View S E) × At s.views i v × (v.live ≡ true) × Owns v n
    -- and of no other
    pub apart : (i j : ℕ) (v w : View S E) → At s.views i v → At s.views j w → v.live ≡ true → w.live ≡ true → i ≢ j → (n : ℕ) → Owns v n → ¬ (Owns w n)
