-- A token as a value.
use Rattle.std.specs.Prelude.{slice_index, ◌≡◌, ◌+◌, ◌-◌, ◌<◌, ◌≤◌, ◌&&◌, nat_lt, if◌then◌else◌, true, false, ◌⊎◌, ℕ, Bool, List, [], ◌∷◌, ◌++◌, All, Contains}
use Rattle.egl_calls.specs.Errors.{is_waiting}
use Rattle.egl_calls.specs.declared.entries.Entry.{Entry}
use Rattle.egl_calls.specs.Calls.{CallValue, ReplyValue}
use Rattle.egl_calls.specs.declared.kinds.Kind.{Kind}
use Rattle.model_laws.specs.Local.{is_local}
use Rattle.egl_model.specs.History.{replay_from}
use Rattle.egl_model.specs.Parts.{part_of}
use Rattle.egl_model.specs.State.{State}
use Rattle.turn_lock.specs.Passes as passes
use Rattle.shared_driver.specs.Cores.{all_places, entry, halt_call, has_halted, of_number, origin, start_in, takes_place, wait_end_call, wait_ended}
use Rattle.shared_driver.specs.declared.tokens.Shared.{Shared}
use Rattle.shared_driver.specs.declared.tokens.Thread.{Thread}

pub record Token : Type 0 where
  pub number : ℕ
  -- a prefix of the history, with all entries of its number
  pub seen : List Entry
  -- its own calls that it hasn't handed in
  pub tail : List Entry
  -- the numbers of the tokens that were joined into it, or into one that was
  pub ended : List ℕ
  -- the tokens made and the live ones, as at its last turn
  pub made : ℕ
  pub live : ℕ
  pub sole : Bool
  -- how many of its places are free
  pub places : ℕ
  -- the state that the history starts at
  pub start : State

abbrev pub token_of : Thread → Token
token_of t = let v = passes.view_of t.hold.pass in
    record { number = v.number; seen = v.seen; tail = t.hold.tail.items; ended = v.ended; made = v.counts.made; live = v.counts.live; sole = t.sole; places = t.places; start = start_in v.first }

-- a place is kept for the end of its wait
abbrev pub HasPlace : Thread → Type 0
HasPlace t = t.end_kept ≡ true

-- the token came from this driver's `open` or `attach`, and may be in a wait that a call of it began
abbrev pub IsFrom : Shared → Thread → Type 0
IsFrom s t = passes.IsOf s.turns t.hold.pass

-- the token came from this driver's `open` or `attach`
abbrev pub IsOf : Shared → Thread → Type 0
IsOf s t = IsFrom s t × (t.end_kept ≡ false)

-- the token's room: for how many entries the journal keeps a place to it, and one more while it is live
abbrev pub room_of : Thread → ℕ
room_of t = let v = passes.view_of t.hold.pass in slice_index v.rooms v.number

-- the state that the history starts at
abbrev pub opening_of : Shared → State
opening_of s = origin (passes.first_of s.turns).value

-- how many tokens the driver is for
abbrev pub most_of : Shared → ℕ
most_of s = (passes.first_of s.turns).value.tokens.most

-- the number is the token's own, or of a token that ended in it
abbrev pub Owns : Token → ℕ → Type 0
Owns t n = (n ≡ t.number) ⊎ (Contains t.ended n)

abbrev pub AreOthers : Token → List Entry → Type 0
AreOthers t es = All (λ e. ¬ (Owns t e.thread)) es

-- no number is owned by both tokens
abbrev pub AreDisjoint : Token → Token → Type 0
AreDisjoint t u = (n : ℕ) → Owns t n → ¬ (Owns u n)

-- the token's own entries
abbrev pub mine : Token → List Entry
mine t = of_number t.number (t.seen ++ t.tail)

-- the state after all that it knows
abbrev pub state_of : Token → State
state_of t = replay_from t.start (t.seen ++ t.tail)

-- whether the thread's private part answers a call, and a place is free for it
abbrev pub may_be_local : Token → CallValue → Bool
may_be_local t c = is_local (part_of (state_of t) t.number) c && nat_lt 0 t.places

-- how many places are free after a shared call of this kind
abbrev pub places_after : Kind → ℕ → ℕ
places_after k free = if takes_place k && nat_lt 0 free then free - 1 else all_places

-- one of its own entries is a Halt
abbrev pub has_given_up : Token → Bool
has_given_up t = has_halted t.number (t.seen ++ t.tail)

-- it is the same token, and nothing ended in it
abbrev pub IsSame : Token → Token → Type 0
IsSame t u = (u.number ≡ t.number) × (u.ended ≡ t.ended)

-- the token has now seen entries of others more, then has handed in its own calls, and then these
abbrev pub Goes : Token → List Entry → Token → Type 0
Goes t more u = (between : List Entry) × AreOthers t between × (u.seen ≡ ((t.seen ++ between) ++ t.tail) ++ more) × (u.tail ≡ [])

-- the token has now seen entries of others more
abbrev pub Learns : Token → Token → Type 0
Learns t u = (between : List Entry) × AreOthers t between × (u.seen ≡ t.seen ++ between) × (u.tail ≡ t.tail)

-- ---- What a call adds.

-- it was answered in one turn, by the reply of its entry
abbrev pub AnswersAtOnce : Token → ℕ → CallValue → ReplyValue → Token → Type 0
AnswersAtOnce t mark call reply u =
    (is_waiting reply.outcome ≡ false) × Goes t (entry t.number mark call reply ∷ []) u × (mine u ≡ mine t ++ entry t.number mark call reply ∷ [])

-- Its entry began a wait, and its reply is that of the entry that ended the wait. Between the two stand entries of others
abbrev pub AnswersAfterWait : Token → ℕ → CallValue → ReplyValue → Token → Type 0
AnswersAfterWait t mark call reply u =
    (begun : ReplyValue) × (between : List Entry) × (is_waiting begun.outcome ≡ true) × (reply ≡ wait_ended) × AreOthers t between
    × Goes t (entry t.number mark call begun ∷ between ++ entry t.number mark wait_end_call reply ∷ []) u
    × (mine u ≡ mine t ++ entry t.number mark call begun ∷ entry t.number mark wait_end_call reply ∷ [])

-- the token hands in, and then halts
abbrev pub Halts : Token → Token → Type 0
Halts t u = (r : ReplyValue) × Goes t (entry t.number 0 halt_call r ∷ []) u × (mine u ≡ mine t ++ entry t.number 0 halt_call r ∷ [])

-- ---- Tokens that begin and end.

-- The new token has seen what its maker has, and has nothing of its own. Its number is that of the tokens made before, and all its places are free
abbrev pub IsNew : Token → Token → Type 0
IsNew from t = (t.number + 1 ≡ from.made) × (from.made ≤ 65536) × (t.seen ≡ from.seen) × (t.tail ≡ []) × (t.ended ≡ []) × (t.sole ≡ false) × (t.places ≡ all_places) × (t.start ≡ from.start)

-- its number is of none of the tokens that its maker had counted before, and is above each that its maker owns
abbrev pub HasNewNumber : Token → Token → Token → Type 0
HasNewNumber before from t = (before.made ≤ t.number) × ((n : ℕ) → Owns from n → n < t.number)

-- it has seen all that this token had seen, and its tail, which was handed in, and else entries of others
abbrev pub Includes : Token → List Entry → Type 0
Includes t seen = (before after : List Entry) × AreOthers t before × AreOthers t after × (seen ≡ ((t.seen ++ before) ++ t.tail) ++ after)

-- of a number that ended in the token, there are the entries that it has seen, and no others
abbrev pub KnowsEnded : Token → List Entry → Type 0
KnowsEnded t seen = (n : ℕ) → Contains t.ended n → of_number n seen ≡ of_number n t.seen
