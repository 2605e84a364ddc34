-- What comes of picks that follow one another in one turn.
use Rattle.std.specs.Prelude.{◌≡◌, ◌≤◌, ℕ, zero, suc, Bool, false, List, [], ◌∷◌, ◌++◌, Option, None, slice_set}
use Rattle.egl_calls.specs.Calls.{CallValue, ReplyValue}
use Rattle.egl_calls.specs.Journals.{is_halt_kind}
use Rattle.egl_calls.specs.declared.entries.Entry.{Entry}
use Rattle.egl_model.specs.State.{State}
use Rattle.driver_core.specs.Machine.{Machine}
use Rattle.driver_core.specs.declared.drawings.Drawing.{Drawing}
use Rattle.shared_driver.specs.declared.cores.Core.{Core}
use Rattle.shared_driver.specs.declared.picks.Pick.{Pick}
use Rattle.shared_driver.specs.declared.picks.Pick.TheVariants.{Call}
use Rattle.shared_driver.specs.declared.picks.Picked.{Picked}
use Rattle.shared_driver.specs.declared.picks.Picked.TheVariants.{Replied, Waited, Stopped}
use Rattle.shared_driver.specs.Cores.{entry, owed}
use Rattle.shared_driver.specs.Picks.{IsDone, IsSeenAtTurn}
use Rattle.shared_driver.specs.Tokens.{Token}

-- how many calls a turn has at most
abbrev pub most_rounds : ℕ
most_rounds = 64

-- a call was played
abbrev pub IsReplied : Picked → Type 0
IsReplied (Replied reply) = Unit {0}
IsReplied Waited = ⊥
IsReplied Stopped = ⊥

-- nothing is picked behind this in a turn: it wasn't answered, was a Halt or left a draw, or the picker doesn't want to pick again
abbrev pub IsLast : {P : Type 0} → (P → ReplyValue → Bool → Bool) → P → Picked → Bool → Option Drawing → Type 0
IsLast wants q (Replied reply) false None = (freed : Bool) × (wants q reply freed ≡ false)
IsLast wants q r halts left = Unit {0}

-- of a kind of picker: which picks it may give, and what it is once it was told a reply
module _ {P : Type 0} (picks : P → List Entry → Machine → Pick → P → Type 0) (told : P → ReplyValue → P → Type 0) where
  -- One round in a turn of the token n: the picker p picked a call by the value x, which has no draw left and is no Halt. It is q now, and the value y
  pub record IsRound (n : ℕ) (x : Core) (p : P) (y : Core) (q : P) : Type 0 where
    pub mark : ℕ
    pub call : CallValue
    pub reply : ReplyValue
    pub asked : P
    pub room : ℕ
    pub picked : picks p x.journal.entries x.driver (Call mark call) asked
    pub answered : told asked reply q
    pub goes_on : is_halt_kind call.kind ≡ false
    pub done : IsDone x n (Call mark call) (Replied reply) None y
    pub rooms : y.rooms.items ≡ slice_set x.rooms.items n room
    pub promised : y.promised ≡ owed y.rooms.items
    pub spare : y.promised ≤ y.journal.spare
    pub tokens : y.tokens ≡ x.tokens

  -- so many rounds
  abbrev pub AreRounds : ℕ → ℕ → Core → P → Core → P → Type 0
  AreRounds n zero x p y q = (y ≡ x) × (q ≡ p)
  AreRounds n (suc k) x p y q = (m : Core) × (r : P) × AreRounds n k x p m r × IsRound n m r y q

  -- The same as a token sees it, in a lock that begins with this state: it was t, and is u once the call's entry stands
  pub record IsTokenRound (s : State) (t : Token) (p : P) (u : Token) (q : P) : Type 0 where
    pub entries : List Entry
    pub machine : Machine
    pub mark : ℕ
    pub call : CallValue
    pub reply : ReplyValue
    pub asked : P
    pub seen : IsSeenAtTurn s t entries machine
    pub picked : picks p entries machine (Call mark call) asked
    pub answered : told asked reply q
    pub goes_on : is_halt_kind call.kind ≡ false
    pub now : u ≡ record t { seen = entries ++ entry t.number mark call reply ∷ []; tail = [] }

  abbrev pub AreTokenRounds : State → ℕ → Token → P → Token → P → Type 0
  AreTokenRounds s zero t p u q = (u ≡ t) × (q ≡ p)
  AreTokenRounds s (suc k) t p u q = (v : Token) × (r : P) × AreTokenRounds s k t p v r × IsTokenRound s v r u q
