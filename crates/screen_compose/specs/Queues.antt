-- The rule of a queue of frames: what was put, and what was taken.
use Rattle.std.specs.Prelude.{◌≡◌, ℕ, Bool, true, List, ◌++◌}
use mathlib.Core.Option.{some}
use lib.ListN.{get_elem?}
use Rattle.screen_compose.specs.declared.screens.Frame.{Frame}
use Rattle.screen_compose.specs.declared.queues.Side.{Side}

abbrev pub side : Bool → Bool → List Frame → List Frame → Side
side puts takes put taken = record { puts = puts; takes = takes; put = put; taken = taken }

-- the pass that may put has the list of what was put, and the one that may take that of what was taken
pub record Knows (putter taker : ℕ) (put taken : List Frame) (k : ℕ) (v : Side) : Type 0 where
  pub puts : v.puts ≡ true → (k ≡ putter) × (v.put ≡ put)
  pub takes : v.takes ≡ true → (k ≡ taker) × (v.taken ≡ taken)

-- the rule of the queue: what was put is what was taken, and then what the queue holds
pub record IsInOrder (held : List Frame) (views : List Side) : Type 0 where
  pub putter : ℕ
  pub taker : ℕ
  pub put : List Frame
  pub taken : List Frame
  pub order : put ≡ taken ++ held
  pub knows : (k : ℕ) (v : Side) → get_elem? views k ≡ some v → Knows putter taker put taken k v

-- frames are the last of others
abbrev pub AreLast : List Frame → List Frame → Type 0
AreLast all held = (front : List Frame) × (all ≡ front ++ held)

-- a list begins with another
abbrev pub BeginsWith : List Frame → List Frame → Type 0
BeginsWith all front = (held : List Frame) × (all ≡ front ++ held)
