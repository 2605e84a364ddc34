-- What a pass knows, its view, and lists of views.
use Rattle.std.specs.Prelude.{◌≡◌, ◌⊎◌, ℕ, Bool, List, ◌∷◌, ◌++◌, All, Contains, None, Some, is_some}
use Rattle.std.specs.Prelude as std
use mathlib.Core.Option.{some}
use lib.ListN.{get_elem?}
use Rattle.turn_lock.specs.declared.view.View.{View}
use Rattle.turn_lock.specs.declared.view.Joined.{Joined}
use Rattle.turn_lock.specs.Meaning.{Meaning}

module _ {S E : Type 0} where
  -- the number is the pass's own, or of a pass that ended in it
  abbrev pub Owns : View S E → ℕ → Type 0
  Owns v n = (n ≡ v.number) ⊎ (Contains v.ended n)

  -- no number is owned by both passes
  abbrev pub AreDisjoint : View S E → View S E → Type 0
  AreDisjoint v w = (n : ℕ) → Owns v n → ¬ (Owns w n)

  -- the pass waits for a turn, or has it
  abbrev pub has_ticket : View S E → Bool
  has_ticket v = is_some v.ticket

  -- the pass isn't spent
  abbrev pub is_live : View S E → Bool
  is_live v = v.live

  -- the pass at this place has this view
  abbrev pub At : List (View S E) → ℕ → View S E → Type 0
  At views i v = get_elem? views i ≡ some v

module _ {S E : Type 0} (m : Meaning S E) where
  -- none of the entries is the pass's, nor of one that ended in it
  abbrev pub AreOthers : View S E → List E → Type 0
  AreOthers v es = All (λ e. ¬ (Owns v (m.number e))) es

  -- the entries have the pass's own number
  abbrev pub AreOwn : View S E → List E → Type 0
  AreOwn v es = All (λ e. m.number e ≡ v.number) es

  -- the history is what the pass has seen, and then entries of its own number
  abbrev pub ThenOwn : View S E → List E → Type 0
  ThenOwn v all = (own : List E) × (all ≡ v.seen ++ own) × AreOwn v own

  -- all is what the pass has seen, and then entries of others
  abbrev pub ThenOthers : View S E → List E → Type 0
  ThenOthers v all = (between : List E) × (all ≡ v.seen ++ between) × AreOthers v between

  -- what was seen begins with all that the joined pass had seen, and nothing of its numbers comes after
  abbrev pub Includes : List E → Joined E → Type 0
  Includes seen o = (between : List E) × (seen ≡ o.seen ++ between) × All (λ e. ¬ ((m.number e ≡ o.number) ⊎ (Contains o.ended (m.number e)))) between

  -- the pass of this number and `ended`, in which the joined pass ended, owned none of its numbers before
  abbrev pub OwnedNone : ℕ → List ℕ → Joined E → Type 0
  OwnedNone number ended o =
      (before : List ℕ) × (ended ≡ before ++ o.number ∷ o.ended) × ((n : ℕ) → (n ≡ number) ⊎ (Contains before n) → ¬ ((n ≡ o.number) ⊎ (Contains o.ended n)))

  -- both, of the pass that was joined last, if there is one
  abbrev pub Learned : ℕ → List ℕ → List E → std.Option (Joined E) → Type 0
  Learned number ended seen None = Unit {0}
  Learned number ended seen (Some o) = Includes seen o × OwnedNone number ended o
