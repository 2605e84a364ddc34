-- What each move of the lock does to a view, and what a step tells its caller.
use Rattle.std.specs.Prelude.{◌≡◌, ◌≢◌, ℕ, ◌+◌, ◌-◌, ◌%◌, ◌^◌, true, false, List, [], ◌∷◌, ◌++◌, Some, None}
use Rattle.std.specs.Prelude as std
use Rattle.atomic_table.specs.Table.{Me, Step}
use Rattle.std.specs.declared.snapshot.Snapshot.{Snapshot}
use Rattle.turn_lock.specs.declared.view.View.{View}
use Rattle.turn_lock.specs.declared.view.Joined.{Joined}
use Rattle.turn_lock.specs.Meaning.{Meaning}
use Rattle.turn_lock.specs.Views.{Learned}
use Rattle.turn_lock.specs.Values.{Finds}

module _ {S E : Type 0} (m : Meaning S E) where
  -- the view of the first pass, in a lock that begins with this value
  abbrev pub newcomer : Snapshot S → View S E
  newcomer first = record { first = Some first; live = true; number = 0; seen = []; ticket = None; in_turn = false; counts = record { made = 1; live = 1 }; rooms = m.rooms first.value; ended = []; joined = None }

  -- Its turn came, and it found the value: it is in turn, and sees the history, the two counts and the rooms
  abbrev pub came : View S E → S → View S E
  came v x = record v { in_turn = true; seen = m.history x; counts = record { made = m.made x; live = m.live x }; rooms = m.rooms x; joined = None }

  -- It gave the value back: it has no ticket, and keeps its two counts
  abbrev pub went : View S E → S → View S E
  went v x = record v { in_turn = false; ticket = None; seen = m.history x; rooms = m.rooms x; joined = None }

module _ {S E : Type 0} where
  -- The view of a pass that made another: it has seen this history, one more was made, and one more is live
  abbrev pub grown : ℕ → List E → View S E → View S E
  grown room seen v = record v { seen = seen; joined = None; counts = record { made = v.counts.made + 1; live = v.counts.live + 1 }; rooms = v.rooms ++ room ∷ [] }

  -- The view of the pass that it made: its number is that of the passes made before, and it has seen what its maker has seen
  abbrev pub fresh : ℕ → List E → View S E → View S E
  fresh room seen v = record { first = v.first; live = true; number = v.counts.made; seen = seen; ticket = None; in_turn = false; counts = record { made = 0; live = 0 }; rooms = v.rooms ++ room ∷ []; ended = []; joined = None }

  -- what a joined pass knew
  abbrev pub joined_of : View S E → Joined E
  joined_of w = record { seen = w.seen; number = w.number; ended = w.ended }

  -- The view of a pass in which another ended: one fewer is live. A pass in turn has seen the whole history, so its `seen` is the longer one
  abbrev pub joining : View S E → View S E → View S E
  joining v w = record v { counts = record { made = v.counts.made; live = v.counts.live - 1 }; ended = v.ended ++ w.number ∷ w.ended; joined = Some (joined_of w) }

  -- the view of the pass that ended
  abbrev pub spent : View S E
  spent = record { first = None; live = false; number = 0; seen = []; ticket = None; in_turn = false; counts = record { made = 0; live = 0 }; rooms = []; ended = []; joined = None }

  -- A draw tells the ticket, of which the word has the lowest 64 bits
  abbrev pub drew : Step (std.Option S) → Me (std.Option S) (View S E) → ℕ → Me (std.Option S) (View S E) → Type 0
  drew st me found me' = (t : ℕ) × (found ≡ t % 2 ^ 64) × (me' ≡ (record me.0 { ticket = Some t }, me.1))

module _ {S E : Type 0} (m : Meaning S E) where
  -- The turn has come: the slot came with this step, and the value in it is what a turn of the pass finds
  abbrev pub Comes : View S E → Me (std.Option S) (View S E) → Type 0
  Comes v me' = (x : S) × (me' ≡ (came m v x, (0, Some x) ∷ [])) × ((first : Snapshot S) → v.first ≡ Some first → Finds m first.value v x)

  -- A look changes nothing, unless it finds the caller's own ticket: then the turn has come
  abbrev pub looked : Step (std.Option S) → Me (std.Option S) (View S E) → ℕ → Me (std.Option S) (View S E) → Type 0
  looked st me found me' = (t : ℕ) → me.0.ticket ≡ Some t → (found ≢ t % 2 ^ 64 → me' ≡ me) × (found ≡ t % 2 ^ 64 → Comes me.0 me')

  -- the turn was passed on, and the slot went home with this step
  abbrev pub passed_on : Step (std.Option S) → Me (std.Option S) (View S E) → ℕ → Me (std.Option S) (View S E) → Type 0
  passed_on st me found me' = (x : S) → me.1 ≡ (0, Some x) ∷ [] → me' ≡ (went m me.0 x, [])

  -- nothing changes, and the caller is told of the pass that it joined last
  abbrev pub told : Step (std.Option S) → Me (std.Option S) (View S E) → ℕ → Me (std.Option S) (View S E) → Type 0
  told st me found me' = (me' ≡ me) × Learned m me.0.number me.0.ended me.0.seen me.0.joined
