-- What stands under the lock, and what it means.
use Rattle.std.specs.Prelude.{map, not, ◌&&◌, ◌∷◌, ◌≡◌, ℕ, ◌+◌, ◌-◌, ◌<◌, ◌≤◌, ◌==◌, Bool, true, false, List, [], Some, None, replicate, pos}
use Rattle.std.specs.Prelude as std
use Rattle.std.specs.List.{sum_by, filter}
use Rattle.std.specs.declared.snapshot.Snapshot.{Snapshot}
use Rattle.egl_calls.specs.Calls.{CallValue, ReplyValue}
use Rattle.egl_calls.specs.Journals.{are_halted, is_halt_kind}
use Rattle.egl_calls.specs.declared.entries.Entry.{Entry}
use Rattle.egl_calls.specs.declared.errors.Outcome.TheVariants.{Done}
use Rattle.egl_calls.specs.declared.kinds.Kind.{Kind}
use Rattle.egl_calls.specs.declared.kinds.Kind.TheVariants.{Egl, Gl, Own}
use Rattle.egl_calls.specs.declared.kinds.OwnKind.{OwnKind}
use Rattle.egl_calls.specs.declared.kinds.OwnKind.TheVariants.{Halt, WaitEnd}
use Rattle.call_table.specs.Roles.{lets_go}
use Rattle.call_table.specs.Rows.{egl_role, gl_role}
use Rattle.egl_names.specs.declared.codes.TheConstants.{EGL_CONDITION_SATISFIED}
use Rattle.model_laws.specs.Hidden.{hide}
use Rattle.egl_model.specs.History.{replay_from}
use Rattle.model_laws.specs.Local.{is_local}
use Rattle.egl_model.specs.Parts.{Private, part_of}
use Rattle.egl_model.specs.State.{State, opening}
use Rattle.egl_model.specs.Step.{step}
use Rattle.driver_core.specs.Machine.{outs}
use Rattle.turn_lock.specs.Meaning.{Meaning}
use Rattle.shared_driver.specs.declared.cores.Core.{Core}
use Rattle.shared_driver.specs.declared.tokens.AttachError.{AttachError}
use Rattle.shared_driver.specs.declared.tokens.AttachError.TheVariants.{Full, NoMemory}

abbrev pub entry : ℕ → ℕ → CallValue → ReplyValue → Entry
entry number mark call reply = record { thread = number; mark = mark; call = call; reply = reply }

-- a call of this project's own, which has nothing but its kind
abbrev pub own_call : OwnKind → CallValue
own_call k = record { kind = Own k; args = replicate 8 (pos 0); list = []; bytes = None }

-- the call by which a thread gives up
abbrev pub halt_call : CallValue
halt_call = own_call Halt

-- the call that ends a wait, and its reply where the sync is signalled (EGL 1.5, section 3.8.1)
abbrev pub wait_end_call : CallValue
wait_end_call = own_call WaitEnd

abbrev pub wait_ended : ReplyValue
wait_ended = record { outcome = Done; value = pos EGL_CONDITION_SATISFIED; list = []; bytes = [] }

-- the entries of a token's own number
abbrev pub of_number : ℕ → List Entry → List Entry
of_number n es = filter (λ e. e.thread == n) es

-- whether the token of a number gave up
unfoldable pub has_halted : ℕ → List Entry → Bool
has_halted n es = are_halted (of_number n es)

-- what a token's room has for the token itself: it is live, and may halt, unless it has used the place for that
abbrev pub room_for : Bool → ℕ
room_for true = 1
room_for false = 2

-- how many calls a token may make without memory before it makes one that takes memory
abbrev pub all_places : ℕ
all_places = 256

-- the room of a new token, all of whose places are free
abbrev pub first_room : ℕ
first_room = room_for false + all_places

-- the place in the journal that is kept for the end of a wait which was begun
abbrev pub place_for : Bool → ℕ
place_for true = 1
place_for false = 0

-- how many entries the rooms promise: each one fewer than it is
unfoldable pub owed : List ℕ → ℕ
owed rooms = sum_by (λ r. r - 1) rooms

-- for each token made, whether the part of its thread is out of the driver: exactly where its room isn't 0
unfoldable pub away_by : List ℕ → List Bool
away_by rooms = map (λ r. not (r == 0)) rooms

-- what the lock's value stands for: the state, and how many tokens may be made, which no entry changes
pub record LockedState : Type 0 where
  pub state : State
  pub most : ℕ

-- the value has this limit of tokens, and no more were made
pub record IsWithin (most : ℕ) (x : Core) : Type 0 where
  pub limit : x.tokens.most ≡ most
  pub made : x.driver.made ≤ most
  pub few : most ≤ 65536

-- the value keeps the state outside the parts that are out, and the limit of tokens, and its journal has room for all that is promised
pub record Stands (x : Core) (l : LockedState) : Type 0 where
  pub driver : x.driver.state ≡ hide (outs x.driver.away) l.state
  pub away : x.driver.away ≡ away_by x.rooms.items
  pub promised : x.promised ≡ owed x.rooms.items
  pub spare : x.promised ≤ x.journal.spare
  pub within : IsWithin l.most x

-- the state before the first call, in the lock that begins with this value
abbrev pub origin : Core → State
origin x = record (opening [] x.driver.state.video) { windows = x.driver.state.windows }

-- the driver stands for the state outside the parts that are out, and an entry is a legal step
abbrev pub meaning : Meaning Core Entry
meaning = record {
  Content = LockedState;
  Keeps = λ x l. Stands x l;
  Acts = λ l e a. (e.reply ≡ (step l.state e.thread e.call).reply) × (a ≡ record l { state = (step l.state e.thread e.call).state });
  opening = λ x. record { state = origin x; most = x.tokens.most };
  history = λ x. x.journal.entries;
  number = λ e. e.thread;
  made = λ x. x.driver.made;
  live = λ x. x.tokens.live;
  rooms = λ x. x.rooms.items;
}

-- the replies that the steps give, from a state on
abbrev pub replies_from : State → List Entry → List ReplyValue
replies_from s [] = []
replies_from s (e ∷ es) = (step s e.thread e.call).reply ∷ replies_from (step s e.thread e.call).state es

-- the state that the history starts at, in the lock that began with this value
abbrev pub start_in : std.Option (Snapshot Core) → State
start_in None = opening [] 0
start_in (Some first) = origin first.value

-- Legal from this state on. It is an equation, so that a struct can keep it
abbrev pub IsLegalAt : State → List Entry → Type 0
IsLegalAt s es = replies_from s es ≡ map (λ (e : Entry). e.reply) es

-- whether each entry is of the thread t and local at its place; a test, so that a struct can keep it
abbrev pub are_local : State → ℕ → List Entry → Bool
are_local s t [] = true
are_local s t (e ∷ es) = (e.thread == t) && (is_local (part_of s t) e.call && are_local (step s e.thread e.call).state t es)

-- the private part of the thread t after these entries
abbrev pub part_after : State → ℕ → List Entry → Private
part_after s t es = part_of (replay_from s es) t

-- the calls that use one of the token's places, where one is free: those that let go or flush, and a thread's giving up. None of them takes memory
abbrev pub takes_place : Kind → Bool
takes_place (Egl k) = lets_go (egl_role k)
takes_place (Gl k) = lets_go (gl_role k)
takes_place (Own k) = is_halt_kind (Own k)

-- it says that it is full exactly where as many tokens were made as may be
abbrev pub IsFull : ℕ → ℕ → AttachError → Type 0
IsFull most made (Full m) = (m ≡ most) × (made ≡ most)
IsFull most made NoMemory = made < most
