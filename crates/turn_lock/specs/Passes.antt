-- What clauses say of locks, passes and held values.
use Rattle.std.specs.Prelude.{◌≡◌, true, false, [], ◌∷◌, None, Some}
use Rattle.std.specs.declared.snapshot.Snapshot.{Snapshot}
use Rattle.turn_lock.specs.declared.held.Held.{Held}
use Rattle.turn_lock.specs.declared.pass.Pass.{Pass}
use Rattle.turn_lock.specs.declared.turns.Turns.{Turns}
use Rattle.turn_lock.specs.declared.view.View.{View}
use Rattle.turn_lock.specs.Meaning.{Meaning}
use Rattle.turn_lock.specs.Moves.{came}

module _ {S E : Type 0} where
  -- the value that the lock began with, for proofs alone
  abbrev pub first_of : Turns S E → Snapshot S
  first_of t = t.table.shared.key

  -- what the pass knows
  abbrev pub view_of : Pass S E → View S E
  view_of p = p.seat.me.0

  -- the value that is held
  abbrev pub value_of : Held S E → S
  value_of h = h.value

  -- the pass came from this lock
  abbrev pub IsOf : Turns S E → Pass S E → Type 0
  IsOf t p = (p.seat.table_id ≡ t.table.shared.table_id) × ((view_of p).first ≡ Some (first_of t))

  -- the held value came from this lock
  abbrev pub IsHeldOf : Turns S E → Held S E → Type 0
  IsHeldOf t h = h.taken.value.table_id ≡ t.table.shared.table_id

  -- the pass isn't in turn, and waits for none
  abbrev pub IsFree : Pass S E → Type 0
  IsFree p = ((view_of p).live ≡ true) × ((view_of p).ticket ≡ None) × ((view_of p).in_turn ≡ false) × (p.seat.me.1 ≡ [])

  -- the pass is in turn, and its value is taken out
  abbrev pub IsInTurn : Pass S E → Type 0
  IsInTurn p = ((view_of p).live ≡ true) × ((view_of p).in_turn ≡ true) × (p.seat.me.1 ≡ (0, None) ∷ [])

-- the view of a pass whose turn has come with this value; it has some ticket
abbrev pub HasCome : {S E : Type 0} → Meaning S E → View S E → S → View S E → Type 0
HasCome m v x w = w ≡ record (came m v x) { ticket = w.ticket }
