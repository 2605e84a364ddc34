-- What the laws of a node ask of one with one slot, 0, and of one with none. The node of the tests has both.
use Rattle.std.proofs.Common.{◌≡◌, ◌≢◌, ℕ, ◌+◌, ◌<◌, ◌≤◌, true, false, eqb, [], Option, None, sym, ◌∙◌, arith}
use Rattle.std.proofs.lemmas.Bool.{eqb-true, false≢true}
use Rattle.ref_store.specs.Counts.{times, as_list}

-- the edge in the slot is the one edge
pub one_edge : (a : Option ℕ) (n : ℕ) → times n (as_list a) ≤ times n (as_list a)
one_edge a n = omega arith

-- the edges change by the one that is set
pub one_moves : (a t : Option ℕ) (n : ℕ) → times n (as_list t) + times n (as_list a) ≡ times n (as_list a) + times n (as_list t)
one_moves a t n = omega arith

-- there is no other slot
pub no_other : (slot other : ℕ) → eqb slot 0 ≡ true → eqb other 0 ≡ true → other ≢ slot → ⊥
no_other slot other h k ne = ne (eqb-true other 0 k ∙ sym (eqb-true slot 0 h))

-- a node with no slot has no edge
pub no_edge : (n : ℕ) → times n (as_list None) ≤ times n []
no_edge n = omega arith

-- and no slot to ask for
pub no_slot : {A : Type 0} → false ≡ true → A
no_slot h = absurd (false≢true h)

-- three kinds are among those that a store counts
pub few_kinds : (0 < 16) × ((1 < 16) × (2 < 16))
few_kinds = (omega arith, (omega arith, omega arith))

-- and its two marks
pub few_marks : (0 < 65) × (64 < 65)
few_marks = (omega arith, omega arith)
