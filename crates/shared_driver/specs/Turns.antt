-- What a thread holds between its turns, and what stands in a turn.
use Rattle.std.specs.Prelude.{◌≡◌, ◌≢◌, ℕ, ◌<◌, ◌≤◌, true, false, List, ◌++◌, All, Contains, length, slice_index, slice_set, Option, None, Some}
use Rattle.model_laws.specs.Full.{IsWindow}
use Rattle.egl_calls.specs.declared.entries.Entry.{Entry}
use Rattle.model_laws.specs.Frame.{IsReady}
use Rattle.model_laws.specs.Hidden.{hide}
use Rattle.egl_model.specs.History.{IsLegalFrom, replay_from}
use Rattle.egl_model.specs.Parts.{part_of}
use Rattle.egl_model.specs.State.{State}
use Rattle.driver_core.specs.LateDraws.{drawn_late}
use Rattle.driver_core.specs.Machine.{outs}
use Rattle.driver_core.specs.declared.drawings.Drawing.{Drawing}
use Rattle.turn_lock.specs.Passes.{HasCome, IsFree, view_of}
use Rattle.turn_lock.specs.Views.{AreOthers, AreOwn}
use Rattle.turn_lock.specs.declared.pass.Pass.{Pass}
use Rattle.shared_driver.specs.declared.cores.Core.{Core}
use Rattle.shared_driver.specs.declared.tokens.Holding.{Holding}
use Rattle.shared_driver.specs.Cores.{IsLegalAt, IsWithin, are_local, away_by, meaning, origin, owed, part_after, start_in}

-- A thread's holding between two turns: its own calls are legal after what its pass has seen, each local at its place, and the part is the thread's after them
pub record Holds (h : Holding) : Type 0 where
  pub free : IsFree h.pass
  pub numbered : h.number ≡ (view_of h.pass).number
  pub few : h.number < 65536
  -- the windows that the history starts with have sides from 1 to 2,048, and 8 bits a component
  pub sides : All IsWindow (start_in (view_of h.pass).first).windows
  pub legal : IsLegalAt (start_in (view_of h.pass).first) ((view_of h.pass).seen ++ h.tail.items)
  pub local : are_local (replay_from (start_in (view_of h.pass).first) (view_of h.pass).seen) h.number h.tail.items ≡ true
  pub part : h.part ≡ Some (part_after (start_in (view_of h.pass).first) h.number ((view_of h.pass).seen ++ h.tail.items))
  -- each of its own calls has its place in the journal
  pub room : length h.tail.items < slice_index (view_of h.pass).rooms (view_of h.pass).number

-- In the turn of the thread n, with its part in: the driver stands for the state after the journal and the thread's own calls, which aren't handed in yet
pub record IsTurn (first x : Core) (n : ℕ) (own : List Entry) : Type 0 where
  pub ready : IsReady (origin first) n
  pub legal : IsLegalFrom (origin first) (x.journal.entries ++ own)
  pub local : are_local (replay_from (origin first) x.journal.entries) n own ≡ true
  pub driver : x.driver.state ≡ hide (outs x.driver.away) (replay_from (origin first) (x.journal.entries ++ own))
  pub away : x.driver.away ≡ slice_set (away_by x.rooms.items) n false
  pub number : n < length x.rooms.items
  pub known : length x.rooms.items ≡ x.driver.made
  pub promised : x.promised ≡ owed x.rooms.items
  pub spare : x.promised ≤ x.journal.spare

-- a turn has begun: what was held was t, and is now u; the value is x
pub record Begun (first : Core) (t u : Holding) (x : Core) : Type 0 where
  pub same_number : u.number ≡ t.number
  pub same_tail : u.tail ≡ t.tail
  pub numbered : u.number ≡ (view_of u.pass).number
  pub few : u.number < 65536
  pub sides : All IsWindow (origin first).windows
  -- the journal is what the pass had seen, and then entries of others
  pub between : List Entry
  pub others : AreOthers meaning (view_of t.pass) between
  pub entries : x.journal.entries ≡ (view_of t.pass).seen ++ between
  pub view : HasCome meaning (view_of t.pass) x (view_of u.pass)
  pub turn : IsTurn first x u.number u.tail.items
  -- the part that was held is the thread's, which is in now
  pub part : t.part ≡ Some (part_of x.driver.state u.number)
  -- the thread's room is as it left it, and those of the tokens that ended in its own are 0
  pub own_room : slice_index x.rooms.items u.number ≡ slice_index (view_of t.pass).rooms (view_of t.pass).number
  pub room : length u.tail.items < slice_index x.rooms.items u.number
  pub ended_rooms : (n : ℕ) → Contains (view_of t.pass).ended n → slice_index x.rooms.items n ≡ 0
  pub sole : (view_of t.pass).counts.live ≡ 1 → x.tokens.live ≡ 1
  pub below : All (λ e. e.thread < x.driver.made) x.journal.entries
  -- the numbers of tokens that ended in its own are of tokens made, and no fewer were made than it had counted
  pub ended_below : (n : ℕ) → Contains (view_of t.pass).ended n → n < x.driver.made
  pub made_counted : (view_of t.pass).counts.made ≤ x.driver.made
  pub few_made : x.driver.made ≤ 65536
  pub some_live : 1 ≤ x.tokens.live
  pub live_few : x.tokens.live ≤ x.driver.made
  -- the limit of tokens is the one that the lock began with
  pub within : IsWithin first.tokens.most x

-- a turn may end: u is held, and y is the value
pub record Ends (first : Core) (u : Holding) (y : Core) : Type 0 where
  pub turn : IsTurn first y u.number u.tail.items
  pub numbered : u.number ≡ (view_of u.pass).number
  pub few : u.number < 65536
  pub sides : All IsWindow (origin first).windows
  -- the journal is what the pass has seen, and then entries of its own
  pub more : List Entry
  pub entries : y.journal.entries ≡ (view_of u.pass).seen ++ more
  pub own : AreOwn meaning (view_of u.pass) more
  -- the value counts the passes made and the live ones, and no room but the thread's has changed
  pub made : y.driver.made ≡ (view_of u.pass).counts.made
  pub live : y.tokens.live ≡ (view_of u.pass).counts.live
  -- the limit of tokens is as it was, and no more were made
  pub within : IsWithin first.tokens.most y
  pub long : length y.rooms.items ≡ length (view_of u.pass).rooms
  pub other_rooms : (n : ℕ) → n ≢ (view_of u.pass).number → slice_index y.rooms.items n ≡ slice_index (view_of u.pass).rooms n
  pub room : length u.tail.items < slice_index y.rooms.items u.number

-- the value, with its driver standing for this state
abbrev pub standing_for : Core → State → Core
standing_for x s = record x { driver = record x.driver { state = s } }

-- a turn may end before the draw that its call has left: it might if the draw were made, and the driver stands for the state before that
pub record EndsLate (first : Core) (u : Holding) (y : Core) (d : Drawing) : Type 0 where
  pub before : State
  pub ready : IsReady before u.number
  pub driver : y.driver.state ≡ hide (outs y.driver.away) before
  pub drawn : replay_from (origin first) (y.journal.entries ++ u.tail.items) ≡ drawn_late before u.number (Some d)
  pub ends : Ends first u (standing_for y (hide (outs y.driver.away) (drawn_late before u.number (Some d))))

abbrev pub EndsWith : Core → Holding → Core → Option Drawing → Type 0
EndsWith first u y None = Ends first u y
EndsWith first u y (Some d) = EndsLate first u y d

-- the last turn of a pass: it has seen entries of others more, and then its thread's own calls
abbrev pub Retires : Holding → Pass Core Entry → Type 0
Retires h p = let v = view_of h.pass in let u = view_of p in
    (between : List Entry) × AreOthers meaning v between × (u.seen ≡ (v.seen ++ between) ++ h.tail.items) × (u.number ≡ v.number) × (u.ended ≡ v.ended)
    × ((n : ℕ) → Contains v.ended n → n ≢ v.number)
