-- How a turn begins and ends.
use Rattle.std.proofs.Common.{◌≡◌, ℕ, ◌+◌, ◌-◌, ◌≤◌, ◌<◌, Bool, true, false, List, [], ◌∷◌, ◌++◌, arith, refl, sym, ap, ◌∙◌, subst, length, get_or, set, Some, None}
use Rattle.std.specs.Option.{option_and_then}
use Rattle.std.specs.Prelude.{All, Contains, IfSome, slice_index, ◌⊎◌}
use Rattle.std.specs.Prelude as std
use Rattle.std.proofs.lemmas.List.{append-nil, append_assoc, get_or-set_other, get_or-set_same, length-set}
use Rattle.std.specs.declared.snapshot.Snapshot.{Snapshot}
use Rattle.model_laws.specs.Full.{IsWindow}
use Rattle.egl_calls.specs.declared.entries.Entry.{Entry}
use Rattle.egl_calls.specs.Calls.{CallValue, ReplyValue}
use Rattle.model_laws.specs.Frame.{AreOf, IsReady}
use Rattle.model_laws.specs.Hidden.{hide}
use Rattle.egl_model.specs.History.{IsLegalFrom, replay_from}
use Rattle.egl_model.specs.Parts.{Private, part_of}
use Rattle.egl_model.specs.State.{State}
use Rattle.egl_model.specs.Step.{step}
use Rattle.driver_core.specs.Machine.{Machine, outs}
use Rattle.thread_part.specs.Uploads.{upload_of}
use Rattle.thread_part.specs.declared.uploads.Upload.{Upload}
use Rattle.turn_lock.specs.Meaning.{StandsFor}
use Rattle.turn_lock.specs.Moves.{joined_of, joining, went}
use Rattle.turn_lock.specs.Passes.{HasCome, IsFree, view_of}
use Rattle.turn_lock.specs.Values.{Finds, Returns}
use Rattle.turn_lock.specs.Views as views
use Rattle.turn_lock.specs.declared.pass.Pass.{Pass}
use Rattle.turn_lock.specs.declared.view.View.{View}
use Rattle.shared_driver.specs.declared.cores.Core.{Core}
use Rattle.shared_driver.specs.declared.cores.TokenCount.{TokenCount}
use Rattle.shared_driver.specs.declared.tokens.Holding.{Holding}
use Rattle.shared_driver.specs.Cores.{IsLegalAt, are_local, entry, meaning, origin, owed, part_after, room_for, start_in}
use Rattle.shared_driver.specs.Tokens.{AreDisjoint, Goes, Includes, Learns, Token, mine}
use Rattle.shared_driver.specs.Turns.{Begun, Ends, Holds, IsTurn, Retires}
use Rattle.driver_core.proofs.AwayLaws.{part-hide}
use Rattle.shared_driver.proofs.Histories.{IsLate, legal_at, legal_from, of_thread, ready_at, ready_replay}
use Rattle.shared_driver.proofs.Owned.{mine_goes, mine_learns, own_each, own_one, own_then}
use Rattle.shared_driver.proofs.Rooms.{is_out, room_itself, set_twice}
use Rattle.shared_driver.proofs.Standing.{IsCore, core_same, found_late, has_part, lent_core, stands_of, turn_begun, turn_ended, turn_left, turn_more, turn_same, within_same}

-- ---- A turn begins.
-- what a thread holds, in the lock that it came from
pub record Known (f : Core) (t : Holding) : Type 0 where
  pub ready : IsReady (origin f) t.number
  pub legal : IsLegalFrom (origin f) ((view_of t.pass).seen ++ t.tail.items)
  pub local : are_local (replay_from (origin f) (view_of t.pass).seen) t.number t.tail.items ≡ true
  pub part : t.part ≡ Some (part_of (replay_from (origin f) ((view_of t.pass).seen ++ t.tail.items)) t.number)

pub known : (f : Snapshot Core) (t : Holding) → Holds t → (view_of t.pass).first ≡ Some f → Known f.value t
known f t h is =
    let o : start_in (view_of t.pass).first ≡ origin f.value = ap start_in is in
    record {
      ready = ready_at f.value.driver.state.windows f.value.driver.state.video t.number (subst (λ (s : State). All IsWindow s.windows) o h.sides) h.few;
      legal = subst (λ (s : State). IsLegalFrom s ((view_of t.pass).seen ++ t.tail.items)) o (legal_from (start_in (view_of t.pass).first) ((view_of t.pass).seen ++ t.tail.items) h.legal);
      local = subst (λ (s : State). are_local (replay_from s (view_of t.pass).seen) t.number t.tail.items ≡ true) o h.local;
      part = h.part ∙ ap (λ (s : State). Some (part_after s t.number ((view_of t.pass).seen ++ t.tail.items))) o;
    }

abbrev pub some_of : Private → std.Option Private → Private
some_of d None = d
some_of d (Some p) = p

-- what a turn of the thread finds, before its part is put back
pub record Start (f z : Core) (t : Holding) (p : Private) : Type 0 where
  pub core : IsCore f z
  pub ready : IsReady (origin f) t.number
  pub inside : t.number < length z.rooms.items
  pub counted : length z.rooms.items ≡ z.driver.made
  pub out : std.slice_index_or z.driver.away t.number false ≡ true
  pub late : IsLate (origin f) t.number z.driver.away z.driver.state z.journal.entries t.tail.items p

pub start : (f : Snapshot Core) (t : Holding) (x z : Core) (p : Private) → Holds t → (view_of t.pass).first ≡ Some f → Finds meaning f.value (view_of t.pass) x → z ≡ x → t.part ≡ Some p → Start f.value z t p
start f t x z p h is found lent some =
    let v = view_of t.pass in
    let k = known f t h is in
    let core = lent_core f.value z x lent found.stands in
    let counted : length z.rooms.items ≡ z.driver.made = ap (λ (q : Core). length q.rooms.items) lent ∙ found.long ∙ ap (λ (q : Core). q.driver.made) (sym lent) in
    let inside : t.number < length z.rooms.items = subst (λ (q : ℕ × ℕ). q.0 < q.1) (λ j. (sym h.numbered j, (sym found.long ∙ ap (λ (q : Core). length q.rooms.items) (sym lent)) j)) found.number in
    let own : get_or z.rooms.items t.number 0 ≡ slice_index v.rooms v.number = ap (λ (q : Core). get_or q.rooms.items t.number 0) lent ∙ ap (λ m. get_or x.rooms.items m 0) h.numbered ∙ found.own_room in
    let room : 0 < get_or z.rooms.items t.number 0 = let r = h.room in subst (λ m. 0 < m) (sym own) (omega (arith, r)) in
    record {
      core = core;
      ready = k.ready;
      inside = inside;
      counted = counted;
      out = ap (λ (l : List Bool). get_or l t.number false) core.away ∙ is_out z.rooms.items t.number inside room;
      late = found_late f.value z t.number v t.tail.items p k.ready h.numbered core found.history.0 found.history.2 (ap (λ (q : Core). q.journal.entries) lent ∙ found.history.1) k.legal k.local
          (ap (some_of p) (sym some ∙ k.part)) inside room;
    }

-- the part that a turn of the thread finds in the driver is that of the state after the journal and the thread's own calls
part_in_turn : (f x : Core) (n : ℕ) (own : List Entry) → IsTurn f x n own → part_of x.driver.state n ≡ part_of (replay_from (origin f) (x.journal.entries ++ own)) n
part_in_turn f x n own k =
    let es = x.journal.entries ++ own in
    let r = ready_replay (origin f) n es k.ready in
    ap (λ (s : State). part_of s n) k.driver ∙ part-hide (replay_from (origin f) es) n x.driver.away r.sound r.thread (has_part f x n own k)

-- once its part was put back
pub begun : (f : Snapshot Core) (t u : Holding) (x z y : Core) (p : Private) → Holds t → (view_of t.pass).first ≡ Some f → Finds meaning f.value (view_of t.pass) x → z ≡ x → t.part ≡ Some p → HasCome meaning (view_of t.pass) x (view_of u.pass)
    → u.number ≡ t.number → u.tail ≡ t.tail → (y.driver.state ≡ hide (outs y.driver.away) (replay_from (origin f.value) (z.journal.entries ++ t.tail.items))) → (y.driver.made ≡ z.driver.made) × (y.driver.away ≡ set z.driver.away t.number false)
    → (y.journal ≡ z.journal) × (y.tokens ≡ z.tokens) × (y.rooms ≡ z.rooms) × (y.promised ≡ z.promised) → Begun f.value t u y
begun f t u x z y p h is found lent some view number tail driver away kept =
    let v = view_of t.pass in
    let w = view_of u.pass in
    let s = start f t x z p h is found lent some in
    let es : x.journal.entries ≡ y.journal.entries = ap (λ (q : Core). q.journal.entries) (sym lent) ∙ ap (λ q. q.entries) (sym kept.0) in
    let rooms : x.rooms.items ≡ y.rooms.items = ap (λ (q : Core). q.rooms.items) (sym lent) ∙ ap (λ q. q.items) (sym kept.2) in
    let made : x.driver.made ≡ y.driver.made = ap (λ (q : Core). q.driver.made) (sym lent) ∙ sym away.0 in
    let live : x.tokens.live ≡ y.tokens.live = ap (λ (q : Core). q.tokens.live) (sym lent) ∙ ap (λ (q : TokenCount). q.live) (sym kept.1) in
    let turn = subst (λ (q : ℕ × List Entry). IsTurn f.value y q.0 q.1) (λ j. (sym number j, (sym tail j).items)) (turn_begun f.value z y t.number t.tail.items p s.ready s.core s.late s.inside s.counted driver away kept) in
    let own : slice_index y.rooms.items u.number ≡ slice_index v.rooms v.number = ap (λ (l : List ℕ). slice_index l u.number) (sym rooms) ∙ ap (λ m. slice_index x.rooms.items m) (number ∙ h.numbered) ∙ found.own_room in
    record {
      same_number = number;
      same_tail = tail;
      numbered = number ∙ h.numbered ∙ ap (λ (q : View Core Entry). q.number) (sym view);
      few = subst (λ m. m < 65536) (sym number) h.few;
      sides = subst (λ (q : State). All IsWindow q.windows) (ap start_in is) h.sides;
      between = found.history.0;
      others = found.history.2;
      entries = sym es ∙ found.history.1;
      view = view ∙ (λ j. record v { in_turn = true; seen = es j; counts = record { made = made j; live = live j }; rooms = rooms j; joined = None; ticket = w.ticket });
      turn = turn;
      part = some
          ∙ ap (λ (q : Private). Some q) (s.late.part
          ∙ (λ j. part_of (replay_from (origin f.value) ((sym kept.0 j).entries ++ (sym tail j).items)) (sym number j))
          ∙ sym (part_in_turn f.value y u.number u.tail.items turn));
      own_room = own;
      room = subst (λ (q : List Entry × ℕ). length q.0 < q.1) (λ j. ((sym tail j).items, sym own j)) h.room;
      ended_rooms = λ n i. ap (λ (l : List ℕ). slice_index l n) (sym rooms) ∙ found.ended_rooms n i;
      sole = λ e. sym live ∙ found.sole e;
      below = subst (λ (q : List Entry × ℕ). All (λ (e : Entry). e.thread < q.1) q.0) (λ j. (es j, made j)) found.below;
      ended_below = λ n i. subst (λ m. n < m) made (found.ended_below n i);
      made_counted = subst (λ m. v.counts.made ≤ m) made found.made_counted;
      few_made = subst (λ m. m ≤ 65536) made found.few;
      some_live = subst (λ m. 1 ≤ m) live found.some_live;
      live_few = subst (λ (q : ℕ × ℕ). q.0 ≤ q.1) (λ j. (live j, made j)) found.live_few;
      within = within_same f.value.tokens.most z y (ap (λ (q : TokenCount). q.most) kept.1) away.0 s.core.within;
    }

-- what a call gives, told by the part that was held, is what it gives in the turn
pub upload_found : (f : Core) (t u : Holding) (x : Core) (c : CallValue) (o : std.Option Upload) → Begun f t u x → IfSome o (λ v. option_and_then (λ p. upload_of p c) t.part ≡ Some v) → IfSome o (λ v. upload_of (part_of x.driver.state u.number) c ≡ Some v)
upload_found f t u x c None b h = tt
upload_found f t u x c (Some v) b h = ap (λ (q : std.Option Private). option_and_then (λ p. upload_of p c) q) (sym b.part) ∙ h

-- the value was lent
pub lent_begun : (f : Core) (t u : Holding) (x z : Core) → z ≡ x → Begun f t u x → Begun f t u z
lent_begun f t u x z is b = subst (λ (q : Core). Begun f t u q) (sym is) b

-- ---- A turn ends.
-- what the lock asks of the value, whose part went out again
pub returned : (f : Core) (u : Holding) (y z : Core) → Ends f u y → z.driver.state ≡ hide (outs z.driver.away) (replay_from (origin f) (y.journal.entries ++ u.tail.items))
    → (z.driver.made ≡ y.driver.made) × (z.driver.away ≡ set y.driver.away u.number true) → (z.journal ≡ y.journal) × (z.tokens ≡ y.tokens) × (z.rooms ≡ y.rooms) × (z.promised ≡ y.promised) → Returns meaning f (view_of u.pass) z
returned f u y z k driver away kept =
    let es : z.journal.entries ≡ y.journal.entries = ap (λ q. q.entries) kept.0 in
    let rooms : z.rooms.items ≡ y.rooms.items = ap (λ q. q.items) kept.2 in
    let r = k.room in
    record {
      stands = stands_of f z (turn_ended f y z u.number u.tail.items k.turn k.within (omega (arith, r)) driver away kept);
      history = (k.more, es ∙ k.entries, k.own);
      made_is = away.0 ∙ k.made;
      live_is = ap (λ (q : TokenCount). q.live) kept.1 ∙ k.live;
      long = ap length rooms ∙ k.long;
      other_rooms = λ n ne. ap (λ (l : List ℕ). slice_index l n) rooms ∙ k.other_rooms n ne;
    }

-- what the thread holds then
pub held_again : (f : Snapshot Core) (u w : Holding) (y z : Core) → Ends f.value u y → (view_of u.pass).first ≡ Some f → IsFree w.pass → view_of w.pass ≡ went meaning (view_of u.pass) z → (w.number ≡ u.number) × (w.tail ≡ u.tail)
    → w.part ≡ Some (part_of (replay_from (origin f.value) (y.journal.entries ++ u.tail.items)) u.number)
    → (z.journal ≡ y.journal) × (z.tokens ≡ y.tokens) × (z.rooms ≡ y.rooms) × (z.promised ≡ y.promised) → Holds w
held_again f u w y z k is free view kept part same =
    let o = origin f.value in
    let first : start_in (view_of w.pass).first ≡ o = ap start_in (ap (λ (q : View Core Entry). q.first) view ∙ is) in
    let seen : (view_of w.pass).seen ≡ y.journal.entries = ap (λ (q : View Core Entry). q.seen) view ∙ ap (λ q. q.entries) same.0 in
    let rooms : (view_of w.pass).rooms ≡ y.rooms.items = ap (λ (q : View Core Entry). q.rooms) view ∙ ap (λ q. q.items) same.2 in
    let number : (view_of w.pass).number ≡ u.number = ap (λ (q : View Core Entry). q.number) view ∙ sym k.numbered in
    let tail : w.tail.items ≡ u.tail.items = ap (λ q. q.items) kept.1 in
    record {
      free = free;
      numbered = kept.0 ∙ sym number;
      few = subst (λ m. m < 65536) (sym kept.0) k.few;
      sides = subst (λ (s : State). All IsWindow s.windows) (sym first) k.sides;
      legal = subst (λ (q : State × List Entry × List Entry). IsLegalAt q.0 (q.1 ++ q.2)) (λ j. (sym first j, sym seen j, sym tail j)) (legal_at o (y.journal.entries ++ u.tail.items) k.turn.legal);
      local = subst (λ (q : State × List Entry × ℕ × List Entry). are_local (replay_from q.0 q.1) q.2 q.3 ≡ true) (λ j. (sym first j, sym seen j, sym kept.0 j, sym tail j)) k.turn.local;
      part = part ∙ ap (λ (q : State × ℕ × List Entry × List Entry). Some (part_after q.0 q.1 (q.2 ++ q.3))) (λ j. (sym first j, sym kept.0 j, sym seen j, sym tail j));
      room = subst (λ (q : List Entry × List ℕ × ℕ). length q.0 < slice_index q.1 q.2) (λ j. (sym tail j, sym rooms j, sym number j)) k.room;
    }

-- the value was lent
pub lent_ends : (f : Core) (u : Holding) (y z : Core) → z ≡ y → Ends f u y → Ends f u z
lent_ends f u y z is k = subst (λ (q : Core). Ends f u q) (sym is) k

-- ---- From a begun turn to its end.
-- the value y is what the turn began with, with own entries more and another room for the thread
pub may_end : (f : Core) (t u w : Holding) (x y : Core) (more : List Entry) (room : ℕ) → Begun f t u x → w.pass ≡ u.pass → w.number ≡ u.number
    → IsTurn f y u.number w.tail.items → y.journal.entries ≡ x.journal.entries ++ more → AreOf u.number more
    → y.driver.made ≡ x.driver.made → y.tokens ≡ x.tokens → y.rooms.items ≡ set x.rooms.items u.number room → length w.tail.items < room → Ends f w y
may_end f t u w x y more room b pass number turn added own made live rooms enough =
    let p : view_of w.pass ≡ view_of u.pass = ap view_of pass in
    let g = view_of w.pass in
    let seen : g.seen ≡ x.journal.entries = ap (λ (q : View Core Entry). q.seen) (p ∙ b.view) in
    let its : g.rooms ≡ x.rooms.items = ap (λ (q : View Core Entry). q.rooms) (p ∙ b.view) in
    let no : g.number ≡ u.number = ap (λ (q : View Core Entry). q.number) p ∙ sym b.numbered in
    record {
      turn = subst (λ m. IsTurn f y m w.tail.items) (sym number) turn;
      numbered = number ∙ sym no;
      few = subst (λ m. m < 65536) (sym number) b.few;
      sides = b.sides;
      more = more;
      entries = added ∙ ap (λ l. l ++ more) (sym seen);
      own = subst (λ m. (i : ℕ) (d : Entry) → i < length more → (std.slice_index_or more i d).thread ≡ m) (sym no) (own_each u.number more own);
      made = made ∙ sym (ap (λ (q : View Core Entry). q.counts.made) (p ∙ b.view));
      live = ap (λ (q : TokenCount). q.live) live ∙ sym (ap (λ (q : View Core Entry). q.counts.live) (p ∙ b.view));
      within = within_same f.tokens.most x y (ap (λ (q : TokenCount). q.most) live) made b.within;
      long = ap length rooms ∙ length-set x.rooms.items u.number room ∙ ap length (sym its);
      other_rooms = λ n ne. ap (λ l. slice_index l n) rooms ∙ get_or-set_other x.rooms.items u.number n room 0 (λ k. ne (k ∙ sym no)) ∙ ap (λ l. slice_index l n) (sym its);
      room = subst (λ (q : List ℕ × ℕ). length w.tail.items < slice_index q.0 q.1) (λ j. (sym rooms j, sym number j))
          (subst (λ m. length w.tail.items < m) (sym (get_or-set_same x.rooms.items u.number room 0 b.turn.number)) enough);
    }

-- nothing is left to be handed in
none_left : (w : Holding) (room : ℕ) → w.tail.items ≡ [] → 0 < room → length w.tail.items < room
none_left w room e h = subst (λ (l : List Entry). length l < room) (sym e) h

-- the thread's own calls were handed in, and then a call was played
pub adds_ends : (f : Core) (t u w : Holding) (x y : Core) (mark : ℕ) (c : CallValue) (reply : ReplyValue) (room : ℕ) → Begun f t u x → w.pass ≡ u.pass → w.number ≡ u.number → w.tail.items ≡ []
    → reply ≡ (step x.driver.state u.number c).reply → y.driver ≡ record x.driver { state = (step x.driver.state u.number c).state } → y.journal.entries ≡ (x.journal.entries ++ u.tail.items) ++ entry u.number mark c reply ∷ []
    → y.rooms.items ≡ set x.rooms.items u.number room → y.promised ≡ owed y.rooms.items → y.promised ≤ y.journal.spare → y.tokens ≡ x.tokens → 0 < room → Ends f w y
adds_ends f t u w x y mark c reply room b pass number none replies driver added rooms promised spare live enough =
    let e = entry u.number mark c reply in
    may_end f t u w x y (u.tail.items ++ e ∷ []) room b pass number
    (subst (IsTurn f y u.number) (sym none) (turn_more f x y u.number mark c reply u.tail.items b.turn (record { room = room; rooms = rooms; promised = promised; spare = spare }) replies driver added))
    (added ∙ append_assoc x.journal.entries u.tail.items (e ∷ [])) (own_then u.number u.tail.items e (of_thread _ u.number u.tail.items b.turn.local) refl)
    (ap (λ (m : Machine). m.made) driver) live rooms (none_left w room none enough)

-- they were handed in, and no more
pub hands_turn : (f : Core) (t u : Holding) (x y : Core) (room : ℕ) → Begun f t u x → y.driver ≡ x.driver → y.journal.entries ≡ x.journal.entries ++ u.tail.items → y.rooms.items ≡ set x.rooms.items u.number room
    → y.promised ≡ owed y.rooms.items → y.promised ≤ y.journal.spare → IsTurn f y u.number []
hands_turn f t u x y room b driver added rooms promised spare =
    turn_same f x y u.number u.tail.items [] b.turn (record { room = room; rooms = rooms; promised = promised; spare = spare }) driver (append-nil y.journal.entries ∙ added) refl

pub hands_ends : (f : Core) (t u w : Holding) (x y : Core) (room : ℕ) → Begun f t u x → w.pass ≡ u.pass → w.number ≡ u.number → w.tail.items ≡ [] → y.driver ≡ x.driver → y.journal.entries ≡ x.journal.entries ++ u.tail.items
    → y.rooms.items ≡ set x.rooms.items u.number room → y.promised ≡ owed y.rooms.items → y.promised ≤ y.journal.spare → y.tokens ≡ x.tokens → 0 < room → Ends f w y
hands_ends f t u w x y room b pass number none driver added rooms promised spare live enough =
    may_end f t u w x y u.tail.items room b pass number (subst (IsTurn f y u.number) (sym none) (hands_turn f t u x y room b driver added rooms promised spare)) added (of_thread _ u.number u.tail.items b.turn.local)
    (ap (λ (m : Machine). m.made) driver) live rooms (none_left w room none enough)

-- they are kept
pub keeps_ends : (f : Core) (t u w : Holding) (x y : Core) → Begun f t u x → w.pass ≡ u.pass → w.number ≡ u.number → w.tail.items ≡ u.tail.items → y.driver ≡ x.driver → y.journal.entries ≡ x.journal.entries
    → y.rooms.items ≡ x.rooms.items → y.promised ≡ owed y.rooms.items → y.promised ≤ y.journal.spare → y.tokens ≡ x.tokens → Ends f w y
keeps_ends f t u w x y b pass number left driver same rooms promised spare live =
    let room = slice_index x.rooms.items u.number in
    let its : y.rooms.items ≡ set x.rooms.items u.number room = rooms ∙ sym (room_itself x.rooms.items u.number b.turn.number) in
    may_end f t u w x y [] room b pass number
    (subst (IsTurn f y u.number) (sym left) (turn_same f x y u.number u.tail.items u.tail.items b.turn (record { room = room; rooms = its; promised = promised; spare = spare }) driver (ap (λ l. l ++ u.tail.items) same)
    (subst (λ (l : List Entry). are_local (replay_from (origin f) l) u.number u.tail.items ≡ true) (sym same) b.turn.local)))
    (same ∙ sym (append-nil x.journal.entries)) tt (ap (λ (m : Machine). m.made) driver) live its (subst (λ (l : List Entry). length l < room) (sym left) b.room)

-- ---- What a turn leaves of a token.
-- what the pass knows once the turn was passed on
pub record After (t w : Holding) (y : Core) (room : ℕ) : Type 0 where
  pub seen : (view_of w.pass).seen ≡ y.journal.entries
  pub number : (view_of w.pass).number ≡ (view_of t.pass).number
  pub ended : (view_of w.pass).ended ≡ (view_of t.pass).ended
  pub first : (view_of w.pass).first ≡ (view_of t.pass).first
  pub room_is : slice_index (view_of w.pass).rooms (view_of w.pass).number ≡ room
  pub sole : (view_of t.pass).counts.live ≡ 1 → (view_of w.pass).counts.live ≡ 1

pub after : (f : Core) (t u v w : Holding) (x y : Core) (room : ℕ) → Begun f t u x → v.pass ≡ u.pass → view_of w.pass ≡ went meaning (view_of v.pass) y → y.rooms.items ≡ set x.rooms.items u.number room → After t w y room
after f t u v w x y room b pass view rooms =
    let p : view_of v.pass ≡ view_of u.pass = ap view_of pass in
    record {
      seen = ap (λ (q : View Core Entry). q.seen) view;
      number = ap (λ (q : View Core Entry). q.number) view ∙ ap (λ (q : View Core Entry). q.number) (p ∙ b.view);
      ended = ap (λ (q : View Core Entry). q.ended) view ∙ ap (λ (q : View Core Entry). q.ended) (p ∙ b.view);
      first = ap (λ (q : View Core Entry). q.first) view ∙ ap (λ (q : View Core Entry). q.first) (p ∙ b.view);
      room_is = ap (λ (q : View Core Entry). slice_index q.rooms q.number) view ∙ ap (λ (l : List ℕ). slice_index l (view_of v.pass).number) rooms
          ∙ ap (λ m. slice_index (set x.rooms.items u.number room) m) (ap (λ (q : View Core Entry). q.number) p ∙ sym b.numbered) ∙ get_or-set_same x.rooms.items u.number room 0 b.turn.number;
      sole = λ e. ap (λ (q : View Core Entry). q.counts.live) view ∙ ap (λ (q : View Core Entry). q.counts.live) (p ∙ b.view) ∙ b.sole e;
    }

-- the token of what is held, as far as entries are told of
abbrev pub tok : Holding → Token
tok h = let v = view_of h.pass in record { number = v.number; seen = v.seen; tail = h.tail.items; ended = v.ended; made = 0; live = 0; sole = false; places = 0; start = start_in v.first }

pub adds_goes : (f : Core) (t u w : Holding) (x y : Core) (room mark : ℕ) (c : CallValue) (reply : ReplyValue) → Begun f t u x → After t w y room → w.tail.items ≡ []
    → y.journal.entries ≡ (x.journal.entries ++ u.tail.items) ++ entry u.number mark c reply ∷ [] → Goes (tok t) (entry (view_of t.pass).number mark c reply ∷ []) (tok w)
adds_goes f t u w x y room mark c reply b a none added = (
  b.between,
  b.others,
  a.seen ∙ added ∙ (λ j. (b.entries j ++ (b.same_tail j).items) ++ entry ((b.numbered ∙ ap (λ (q : View Core Entry). q.number) b.view) j) mark c reply ∷ []),
  none,
)

pub hands_goes : (f : Core) (t u w : Holding) (x y : Core) (room : ℕ) → Begun f t u x → After t w y room → w.tail.items ≡ [] → y.journal.entries ≡ x.journal.entries ++ u.tail.items → Goes (tok t) [] (tok w)
hands_goes f t u w x y room b a none added = (
  b.between,
  b.others,
  a.seen ∙ added ∙ (λ j. b.entries j ++ (b.same_tail j).items) ∙ sym (append-nil _),
  none,
)

pub keeps_learns : (f : Core) (t u w : Holding) (x y : Core) (room : ℕ) → Begun f t u x → After t w y room → w.tail.items ≡ u.tail.items → y.journal.entries ≡ x.journal.entries → Learns (tok t) (tok w)
keeps_learns f t u w x y room b a left same = (
  b.between,
  b.others,
  a.seen ∙ same ∙ b.entries,
  left ∙ ap (λ q. q.items) b.same_tail,
)

pub adds_mine : (t w : Holding) (mark : ℕ) (c : CallValue) (reply : ReplyValue) → (view_of w.pass).number ≡ (view_of t.pass).number → Goes (tok t) (entry (view_of t.pass).number mark c reply ∷ []) (tok w)
    → mine (tok w) ≡ mine (tok t) ++ entry (view_of t.pass).number mark c reply ∷ []
adds_mine t w mark c reply number g =
    mine_goes (tok t) (tok w) (entry (view_of t.pass).number mark c reply ∷ []) number g ∙ ap (λ l. mine (tok t) ++ l) (own_one (view_of t.pass).number mark c reply)

pub hands_mine : (t w : Holding) → (view_of w.pass).number ≡ (view_of t.pass).number → Goes (tok t) [] (tok w) → mine (tok w) ≡ mine (tok t)
hands_mine t w number g = mine_goes (tok t) (tok w) [] number g ∙ append-nil _

pub keeps_mine : (t w : Holding) → (view_of w.pass).number ≡ (view_of t.pass).number → Learns (tok t) (tok w) → mine (tok w) ≡ mine (tok t)
keeps_mine t w number g = mine_learns (tok t) (tok w) number g

-- ---- Rooms of tokens: p is the place for the end of a wait.
pub no_place : (r p : ℕ) → p ≡ 0 → r + p ≡ r
no_place r p h = omega (arith, h)

-- a token that didn't halt hasn't used its place for that
pub unused : (used halted : Bool) → (used ≡ true → halted ≡ true) → halted ≡ false → used ≡ false
unused true halted h e = absurd (let g : false ≡ true = sym e ∙ h refl in cc)
unused false halted h e = refl

-- the token's room, as its turn finds it
pub room_found : (f : Core) (t u : Holding) (x : Core) (a places p : ℕ) → Begun f t u x → slice_index (view_of t.pass).rooms (view_of t.pass).number ≡ a + places + length t.tail.items + p
    → slice_index x.rooms.items u.number ≡ a + places + length u.tail.items + p
room_found f t u x a places p b h = b.own_room ∙ h ∙ ap (λ (l : List Entry). a + places + length l + p) (sym (ap (λ q. q.items) b.same_tail))

-- once nothing is left to be handed in
pub room_now : (a places p : ℕ) (w : Holding) (room : ℕ) → w.tail.items ≡ [] → slice_index (view_of w.pass).rooms (view_of w.pass).number ≡ room → room ≡ a + places + p
    → slice_index (view_of w.pass).rooms (view_of w.pass).number ≡ a + places + length w.tail.items + p
room_now a places p w room none is h = is ∙ h ∙ with_none a places p ∙ ap (λ (l : List Entry). a + places + length l + p) (sym none)
  where
    with_none : (a b p : ℕ) → a + b + p ≡ a + b + 0 + p
    with_none a b p = omega arith

pub many_now : (places : ℕ) (w : Holding) → w.tail.items ≡ [] → places ≤ 256 → places + length w.tail.items ≤ 256
many_now places w none h = subst (λ (l : List Entry). places + length l ≤ 256) (sym none) (no_more places h)
  where
    no_more : (a : ℕ) → a ≤ 256 → a + 0 ≤ 256
    no_more a h = omega (arith, h)

-- where all is left
pub room_kept : (a places p : ℕ) (u w : Holding) (room : ℕ) → w.tail.items ≡ u.tail.items → slice_index (view_of w.pass).rooms (view_of w.pass).number ≡ room → room ≡ a + places + length u.tail.items + p
    → slice_index (view_of w.pass).rooms (view_of w.pass).number ≡ a + places + length w.tail.items + p
room_kept a places p u w room left is h = is ∙ h ∙ ap (λ (l : List Entry). a + places + length l + p) (sym left)

pub many_kept : (places : ℕ) (t w : Holding) → w.tail.items ≡ t.tail.items → places + length t.tail.items ≤ 256 → places + length w.tail.items ≤ 256
many_kept places t w left h = subst (λ (l : List Entry). places + length l ≤ 256) (sym left) h

-- a call gave the places back, and may have begun a wait
pub room_back : (a places len r p q : ℕ) → r ≡ a + places + len + p → p ≡ 0 → places ≤ 256 → ((r - len) + (256 - places)) + q ≡ a + 256 + q
room_back a places len r p q h e m = omega (arith, h, e, m)

-- a call took one
pub room_place : (a places len r p : ℕ) → r ≡ a + places + len + p → 0 < places → (r - len) - 1 ≡ a + (places - 1) + p
room_place a places len r p h m = omega (arith, h, m)

-- the own calls were handed in
pub room_hands : (a places len r p : ℕ) → r ≡ a + places + len + p → r - len ≡ a + places + p
room_hands a places len r p h = omega (arith, h)

-- and then the places were given back
pub room_picks : (a places len r s p : ℕ) → r ≡ a + places + len + p → places ≤ 256 → s ≡ r - len → s + (256 - places) ≡ a + 256 + p
room_picks a places len r s p h m e = omega (arith, h, m, e)

-- and then the end of a wait, or a Halt
pub room_ends : (a places len r p : ℕ) → r ≡ a + places + len + p → p ≡ 1 → (r - len) - 1 ≡ a + places + 0
room_ends a places len r p h e = omega (arith, h, e)

pub room_halts : (a : Bool) (places len r p : ℕ) → a ≡ false → r ≡ room_for a + places + len + p → (r - len) - 1 ≡ room_for true + places + p
room_halts true places len r p e h = absurd (let g : false ≡ true = sym e in cc)
room_halts false places len r p e h = omega (arith, h)

pub enough_back : (len r k p : ℕ) → len < r → 0 < ((r - len) + k) + p
enough_back len r k p h = omega (arith, h)

-- there is a place besides the own calls: for a wait's end, for a call, for a Halt
pub fits_end : (a : Bool) (places len r p : ℕ) → r ≡ room_for a + places + len + p → p ≡ 1 → len + 1 < r
fits_end true places len r p h e = omega (arith, h, e)
fits_end false places len r p h e = omega (arith, h, e)

pub fits_place : (a : Bool) (places len r p : ℕ) → r ≡ room_for a + places + len + p → 0 < places → len + 1 < r
fits_place true places len r p h m = omega (arith, h, m)
fits_place false places len r p h m = omega (arith, h, m)

pub fits_halt : (a : Bool) (places len r p : ℕ) → a ≡ false → r ≡ room_for a + places + len + p → len + 1 < r
fits_halt true places len r p e h = absurd (let g : false ≡ true = sym e in cc)
fits_halt false places len r p e h = omega (arith, h)

pub enough_less : (len r : ℕ) → len + 1 < r → 0 < (r - len) - 1
enough_less len r h = omega (arith, h)

-- the values that stay where none was added
pub kept_rooms : (f : Core) (t u : Holding) (x y : Core) → Begun f t u x → y.rooms.items ≡ x.rooms.items → y.rooms.items ≡ set x.rooms.items u.number (slice_index x.rooms.items u.number)
kept_rooms f t u x y b rooms = rooms ∙ sym (room_itself x.rooms.items u.number b.turn.number)

-- ---- What a token holds.
pub some_tail : (a : Bool) (places len r p : ℕ) → r ≡ room_for a + places + len + p → len < r
some_tail true places len r p h = omega (arith, h)
some_tail false places len r p h = omega (arith, h)

pub held : (h : Holding) → IsFree h.pass → h.number ≡ (view_of h.pass).number → h.number < 65536 → All IsWindow (start_in (view_of h.pass).first).windows → IsLegalAt (start_in (view_of h.pass).first) ((view_of h.pass).seen ++ h.tail.items)
    → are_local (replay_from (start_in (view_of h.pass).first) (view_of h.pass).seen) h.number h.tail.items ≡ true → h.part ≡ Some (part_after (start_in (view_of h.pass).first) h.number ((view_of h.pass).seen ++ h.tail.items))
    → length h.tail.items < slice_index (view_of h.pass).rooms (view_of h.pass).number → Holds h
held h free numbered few sides legal local part room = record { free = free; numbered = numbered; few = few; sides = sides; legal = legal; local = local; part = part; room = room }

-- ---- A turn in which the thread's part stays out.
-- the value that was found may be given back
pub idle_returns : (f x z : Core) (v w : View Core Entry) → z ≡ x → HasCome meaning v x w → Finds meaning f v x → Returns meaning f w z
idle_returns f x z v w is view found = record {
  stands = subst (λ (q : Core). StandsFor meaning f q q.journal.entries) (sym is) found.stands;
  history = ([], ap (λ (q : Core). q.journal.entries) is ∙ sym (ap (λ (q : View Core Entry). q.seen) view) ∙ sym (append-nil w.seen), λ i d l. absurd (omega arith));
  made_is = ap (λ (q : Core). q.driver.made) is ∙ sym (ap (λ (q : View Core Entry). q.counts.made) view);
  live_is = ap (λ (q : Core). q.tokens.live) is ∙ sym (ap (λ (q : View Core Entry). q.counts.live) view);
  long = ap (λ (q : Core). length q.rooms.items) is ∙ sym (ap (λ (q : View Core Entry). length q.rooms) view);
  other_rooms = λ n ne. ap (λ (q : Core). slice_index q.rooms.items n) is ∙ sym (ap (λ (q : View Core Entry). slice_index q.rooms n) view);
}

-- what the thread holds goes on to stand for what its pass has seen
pub idle_holds : (f : Snapshot Core) (t : Holding) (q : Pass Core Entry) (x z : Core) → Holds t → (view_of t.pass).first ≡ Some f → Finds meaning f.value (view_of t.pass) x → z ≡ x → IsFree q → (view_of q).number ≡ (view_of t.pass).number
    → (view_of q).seen ≡ z.journal.entries → (view_of q).rooms ≡ z.rooms.items → (view_of q).first ≡ (view_of t.pass).first → Holds (record { pass = q; number = t.number; part = t.part; tail = t.tail })
idle_holds f t q x z h is found lent free number seen rooms first =
    let o = origin f.value in
    let k = known f t h is in
    let s = start f t x z (part_of (replay_from o ((view_of t.pass).seen ++ t.tail.items)) t.number) h is found lent k.part in
    let from : start_in (view_of q).first ≡ o = ap start_in (first ∙ is) in
    let own : slice_index (view_of q).rooms (view_of q).number ≡ slice_index (view_of t.pass).rooms (view_of t.pass).number =
    (λ j. slice_index (rooms j) (number j)) ∙ ap (λ (r : Core). slice_index r.rooms.items (view_of t.pass).number) lent ∙ found.own_room in
    record {
      free = free;
      numbered = h.numbered ∙ sym number;
      few = h.few;
      sides = subst (λ (r : State). All IsWindow r.windows) (ap start_in (sym first)) h.sides;
      legal = subst (λ (r : State × List Entry). IsLegalAt r.0 (r.1 ++ t.tail.items)) (λ j. (sym from j, sym seen j)) (legal_at o (z.journal.entries ++ t.tail.items) s.late.legal);
      local = subst (λ (r : State × List Entry). are_local (replay_from r.0 r.1) t.number t.tail.items ≡ true) (λ j. (sym from j, sym seen j)) s.late.local;
      part = k.part ∙ ap (λ (p : Private). Some p) s.late.part ∙ ap (λ (r : State × List Entry). Some (part_after r.0 t.number (r.1 ++ t.tail.items))) (λ j. (sym from j, sym seen j));
      room = subst (λ m. length t.tail.items < m) (sym own) h.room;
    }

pub idle_room : (f : Core) (t : Holding) (q : Pass Core Entry) (x z : Core) → Finds meaning f (view_of t.pass) x → z ≡ x → (view_of q).number ≡ (view_of t.pass).number → (view_of q).rooms ≡ z.rooms.items
    → slice_index (view_of q).rooms (view_of q).number ≡ slice_index (view_of t.pass).rooms (view_of t.pass).number
idle_room f t q x z found lent number rooms = (λ j. slice_index (rooms j) (number j)) ∙ ap (λ (r : Core). slice_index r.rooms.items (view_of t.pass).number) lent ∙ found.own_room

pub idle_learns : (f : Core) (t : Holding) (q : Pass Core Entry) (x z : Core) → Finds meaning f (view_of t.pass) x → z ≡ x → (view_of q).seen ≡ z.journal.entries → Learns (tok t) (tok (record { pass = q; number = t.number; part = t.part; tail = t.tail }))
idle_learns f t q x z found lent seen = (found.history.0, found.history.2, seen ∙ ap (λ (r : Core). r.journal.entries) lent ∙ found.history.1, refl)

-- ---- A token ends in another.
pub retired_returns : (f : Core) (t u : Holding) (x m y : Core) (room : ℕ) → Begun f t u x → m.driver ≡ x.driver → m.journal.entries ≡ x.journal.entries ++ u.tail.items → m.rooms.items ≡ set x.rooms.items u.number room → m.promised ≡ owed m.rooms.items → m.promised ≤ m.journal.spare → m.tokens ≡ x.tokens
    → y.rooms.items ≡ set m.rooms.items u.number 0 → y.promised ≡ owed y.rooms.items → y.promised ≤ y.journal.spare → (y.driver ≡ m.driver) × (y.journal ≡ m.journal) × (y.tokens ≡ m.tokens) → Returns meaning f (view_of u.pass) y
retired_returns f t u x m y room b driver added rooms promised spare live zero owed' spare' kept =
    let g = view_of u.pass in
    let turn = hands_turn f t u x m room b driver added rooms promised spare in
    let all : y.rooms.items ≡ set x.rooms.items u.number 0 = zero ∙ ap (λ l. set l u.number 0) rooms ∙ set_twice x.rooms.items u.number room 0 in
    let its : g.rooms ≡ x.rooms.items = ap (λ (q : View Core Entry). q.rooms) b.view in
    record {
      stands = stands_of f y (turn_left f m y u.number turn (within_same f.tokens.most x m (ap (λ (q : TokenCount). q.most) live) (ap (λ (q : Machine). q.made) driver) b.within) zero owed' spare' kept);
      history = (
        u.tail.items,
        ap (λ q. q.entries) kept.1 ∙ added ∙ ap (λ l. l ++ u.tail.items) (sym (ap (λ (q : View Core Entry). q.seen) b.view)),
        subst (λ k. (i : ℕ) (d : Entry) → i < length u.tail.items → (std.slice_index_or u.tail.items i d).thread ≡ k) b.numbered (own_each u.number u.tail.items (of_thread _ u.number u.tail.items b.turn.local)),
      );
      made_is = ap (λ (q : Machine). q.made) (kept.0 ∙ driver) ∙ sym (ap (λ (q : View Core Entry). q.counts.made) b.view);
      live_is = ap (λ (q : TokenCount). q.live) (kept.2 ∙ live) ∙ sym (ap (λ (q : View Core Entry). q.counts.live) b.view);
      long = ap length all ∙ length-set x.rooms.items u.number 0 ∙ ap length (sym its);
      other_rooms = λ n ne. ap (λ l. slice_index l n) all ∙ get_or-set_other x.rooms.items u.number n 0 0 (λ k. ne (k ∙ b.numbered)) ∙ ap (λ l. slice_index l n) (sym its);
    }

-- what it has seen then. No room of a token that ended in its own is its own: that one isn't 0
pub retired : (f : Core) (t u : Holding) (x m y : Core) (p : Pass Core Entry) → Begun f t u x → m.journal.entries ≡ x.journal.entries ++ u.tail.items → y.journal ≡ m.journal → view_of p ≡ went meaning (view_of u.pass) y → Retires t p
retired f t u x m y p b added kept view = (
  b.between,
  b.others,
  ap (λ (q : View Core Entry). q.seen) view ∙ ap (λ q. q.entries) kept ∙ added ∙ ap (λ l. l ++ u.tail.items) b.entries ∙ ap (λ q. ((view_of t.pass).seen ++ b.between) ++ q.items) b.same_tail,
  ap (λ (q : View Core Entry). q.number) view ∙ ap (λ (q : View Core Entry). q.number) b.view,
  ap (λ (q : View Core Entry). q.ended) view ∙ ap (λ (q : View Core Entry). q.ended) b.view,
  λ n inside e.
      let own : u.number ≡ n = b.numbered ∙ ap (λ (q : View Core Entry). q.number) b.view ∙ sym e in
      let empty : slice_index x.rooms.items u.number ≡ 0 = ap (λ k. slice_index x.rooms.items k) own ∙ b.ended_rooms n inside in
      omega (arith, empty, b.room),
)

pub joined_returns : (f x z y : Core) (v w g o : View Core Entry) → z ≡ x → HasCome meaning v x w → g ≡ joining w o → Finds meaning f v x → (y.driver ≡ z.driver) × (y.journal ≡ z.journal) × (y.rooms ≡ z.rooms) × (y.promised ≡ z.promised) → y.tokens ≡ record z.tokens { live = z.tokens.live - 1 } → Returns meaning f g y
joined_returns f x z y v w g o is view joined found kept live =
    let r = idle_returns f x z v w is view found in
    record {
      stands = stands_of f y (core_same f z y (lent_core f z x is found.stands) kept (ap (λ (q : TokenCount). q.most) live));
      history = ([], ap (λ q. q.entries) kept.1 ∙ ap (λ (q : Core). q.journal.entries) is ∙ sym (ap (λ (q : View Core Entry). q.seen) (joined ∙ ap (λ (q : View Core Entry). joining q o) view)) ∙ sym (append-nil g.seen), λ i d l. absurd (omega arith));
      made_is = ap (λ (q : Machine). q.made) kept.0 ∙ r.made_is ∙ sym (ap (λ (q : View Core Entry). q.counts.made) joined);
      live_is = ap (λ (q : TokenCount). q.live) live ∙ ap (λ n. n - 1) r.live_is ∙ sym (ap (λ (q : View Core Entry). q.counts.live) joined);
      long = ap (λ q. length q.items) kept.2 ∙ r.long ∙ sym (ap (λ (q : View Core Entry). length q.rooms) joined);
      other_rooms = λ n ne. ap (λ q. slice_index q.items n) kept.2 ∙ ap (λ (q : Core). slice_index q.rooms.items n) is ∙ sym (ap (λ (q : View Core Entry). slice_index q.rooms n) (joined ∙ ap (λ (q : View Core Entry). joining q o) view));
    }

-- the two tokens owned no number in common
pub disjoint_tokens : (t o : Holding) (p q : Pass Core Entry) → (view_of p).number ≡ (view_of t.pass).number → (view_of p).ended ≡ (view_of t.pass).ended → (view_of q).number ≡ (view_of o.pass).number → (view_of q).ended ≡ (view_of o.pass).ended
    → views.AreDisjoint (view_of p) (view_of q) → AreDisjoint (tok t) (tok o)
disjoint_tokens t o p q a b c d h =
    subst (λ (z : (ℕ × List ℕ) × (ℕ × List ℕ)). (n : ℕ) → (n ≡ z.0.0) ⊎ (Contains z.0.1 n) → ¬ ((n ≡ z.1.0) ⊎ (Contains z.1.1 n))) (λ j. ((a j, b j), (c j, d j))) h

-- the token in which it ended has seen all of it
pub included : (t : Holding) (p q : Pass Core Entry) (seen : List Entry) → Retires t p → seen ≡ (view_of q).seen → views.Includes meaning (view_of q).seen (joined_of (view_of p)) → Includes (tok t) seen
included t p q seen r same e = (
  r.0,
  e.0,
  r.1,
  subst (λ (z : ℕ × List ℕ). All (λ (d : Entry). ¬ ((d.thread ≡ z.0) ⊎ (Contains z.1 d.thread))) e.0) (λ j. (r.3 j, r.4 j)) e.2,
  same ∙ e.1 ∙ ap (λ l. l ++ e.0) r.2,
)
