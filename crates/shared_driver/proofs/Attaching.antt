-- A token makes another.
use Rattle.std.proofs.Common.{◌≡◌, ◌≢◌, ℕ, zero, suc, ◌<◌, ◌≤◌, ◌+◌, ◌-◌, Bool, true, false, cond, List, [], ◌∷◌, ◌++◌, arith, refl, sym, ap, ◌∙◌, subst, length, get_or, set, filter, Some, inl, inr}
use mathlib.Core.Path.{fun_ext}
use Rattle.std.specs.Prelude.{All, Contains, slice_index, ◌⊎◌}
use Rattle.std.specs.List.{range_with_len}
use Rattle.std.proofs.lemmas.List.{append-nil, get_or-set_other, get_or-set_same, length-append, length-set}
use Rattle.std.proofs.lemmas.List.Elements.{All-append}
use Rattle.std.proofs.Math.Seq.{get_or-append_seam}
use Rattle.std.specs.declared.snapshot.Snapshot.{Snapshot}
use Rattle.model_laws.specs.Full.{IsWindow}
use Rattle.egl_calls.specs.Journals.{are_halted}
use Rattle.egl_calls.specs.declared.entries.Entry.{Entry}
use Rattle.model_laws.specs.Frame.{AreOf}
use Rattle.model_laws.specs.Hidden.{hide}
use Rattle.egl_model.specs.History.{IsLegalFrom, replay_from}
use Rattle.egl_model.specs.Parts.{Private, part_of}
use Rattle.egl_model.specs.State.{State}
use Rattle.driver_core.specs.Machine.{outs}
use Rattle.turn_lock.specs.Moves.{fresh, went}
use Rattle.turn_lock.specs.Passes.{view_of}
use Rattle.turn_lock.specs.declared.view.View.{View}
use Rattle.shared_driver.specs.declared.cores.Core.{Core}
use Rattle.shared_driver.specs.declared.tokens.Holding.{Holding}
use Rattle.shared_driver.specs.declared.tokens.AttachError.{AttachError}
use Rattle.shared_driver.specs.Cores.{IsFull, IsLegalAt, are_local, away_by, has_halted, meaning, of_number, origin, owed, part_after, room_for, start_in}
use Rattle.shared_driver.specs.Turns.{Begun, IsTurn}
use Rattle.shared_driver.proofs.Histories.{legal_at, of_thread}
use Rattle.shared_driver.proofs.Owned.{none_new}
use Rattle.shared_driver.proofs.Rooms.{in_set, out_new}

-- ---- A thread more whose part is in.
same_flags : (away : List Bool) (n : ℕ) → get_or (away ++ false ∷ []) n false ≡ get_or away n false
same_flags [] zero = refl
same_flags [] (suc n) = refl
same_flags (b ∷ away) zero = refl
same_flags (b ∷ away) (suc n) = same_flags away n

none_last : (q : ℕ → Bool) (a k : ℕ) → q (a + k) ≡ false → filter q (range_with_len a (suc k)) ≡ filter q (range_with_len a k)
none_last q a zero h = ap (λ b. cond b (a ∷ []) []) (ap q (plus a) ∙ h)
  where
    plus : (a : ℕ) → a ≡ a + 0
    plus a = omega arith
none_last q a (suc k) h = ap (λ l. cond (q a) (a ∷ l) l) (none_last q (a + 1) k (ap q (next a k) ∙ h))
  where
    next : (a k : ℕ) → (a + 1) + k ≡ a + suc k
    next a k = omega arith

past : (away : List Bool) (n : ℕ) → length away ≤ n → get_or away n false ≡ false
past [] n h = refl
past (b ∷ away) zero h = absurd (omega (arith, h))
past (b ∷ away) (suc n) h = past away n (omega (arith, h))

pub outs_new : (away : List Bool) → outs (away ++ false ∷ []) ≡ outs away
unfolding outs
outs_new away =
    ap (λ (q : ℕ → Bool). filter q (range_with_len 0 (length (away ++ false ∷ [])))) (fun_ext (same_flags away))
    ∙ ap (λ l. filter (λ n. get_or away n false) (range_with_len 0 l)) (length-append away (false ∷ []) ∙ one (length away))
    ∙ none_last (λ n. get_or away n false) 0 (length away) (past away (0 + length away) (low (length away)))
  where
    one : (n : ℕ) → n + 1 ≡ suc n
    one n = omega arith

    low : (n : ℕ) → n ≤ 0 + n
    low n = omega arith

-- x's turn goes on in y, where the thread's own calls were handed in and the part of the new thread is out
pub turn_admits : (f x y : Core) (n room : ℕ) (own : List Entry) → IsTurn f x n own → y.journal.entries ≡ x.journal.entries ++ own → y.driver.state ≡ hide (outs y.driver.away) (replay_from (origin f) (x.journal.entries ++ own))
    → (y.driver.made ≡ x.driver.made + 1) × (y.driver.away ≡ set (x.driver.away ++ false ∷ []) x.driver.made true) → y.rooms.items ≡ set (x.rooms.items ++ 258 ∷ []) n room → y.promised ≡ owed y.rooms.items → y.promised ≤ y.journal.spare → IsTurn f y n []
turn_admits f x y n room own k same driver away rooms promised spare =
    let longer : length y.rooms.items ≡ length x.rooms.items + 1 = ap length rooms ∙ length-set (x.rooms.items ++ 258 ∷ []) n room ∙ length-append x.rooms.items (258 ∷ []) in
    let all : y.journal.entries ++ [] ≡ x.journal.entries ++ own = append-nil y.journal.entries ∙ same in
    record {
      ready = k.ready;
      legal = subst (IsLegalFrom (origin f)) (sym all) k.legal;
      local = refl;
      driver = driver ∙ ap (λ (l : List Entry). hide (outs y.driver.away) (replay_from (origin f) l)) (sym all);
      away = away.1 ∙ ap (λ (l : List Bool). set (l ++ false ∷ []) x.driver.made true) k.away ∙ out_new x.rooms.items 258 n x.driver.made k.number k.known (omega arith)
          ∙ sym (in_set (x.rooms.items ++ 258 ∷ []) n room) ∙ ap (λ (l : List ℕ). set (away_by l) n false) (sym rooms);
      number = let i = k.number in omega (arith, longer, i);
      known = longer ∙ ap (λ m. m + 1) k.known ∙ sym away.0;
      promised = promised;
      spare = spare;
    }

pub rooms_long : (x y : Core) (n room : ℕ) → y.rooms.items ≡ set (x.rooms.items ++ 258 ∷ []) n room → length y.rooms.items ≡ length (x.rooms.items ++ 258 ∷ [])
rooms_long x y n room rooms = ap length rooms ∙ length-set (x.rooms.items ++ 258 ∷ []) n room

pub rooms_other : (x y : Core) (n room m : ℕ) → y.rooms.items ≡ set (x.rooms.items ++ 258 ∷ []) n room → m ≢ n → slice_index y.rooms.items m ≡ slice_index (x.rooms.items ++ 258 ∷ []) m
rooms_other x y n room m rooms ne = ap (λ l. slice_index l m) rooms ∙ get_or-set_other (x.rooms.items ++ 258 ∷ []) n m room 0 ne

pub rooms_own : (x y : Core) (n room : ℕ) → n < length x.rooms.items → y.rooms.items ≡ set (x.rooms.items ++ 258 ∷ []) n room → slice_index y.rooms.items n ≡ room
rooms_own x y n room h rooms =
    ap (λ l. slice_index l n) rooms ∙ get_or-set_same (x.rooms.items ++ 258 ∷ []) n room 0 (let k = length-append x.rooms.items (258 ∷ []) in omega (arith, h, k))

pub room_gives : (a places len r p : ℕ) → r ≡ a + places + len + p → places ≤ 256 → (r - len) + (256 - places) ≡ a + 256 + p
room_gives a places len r p h m = omega (arith, h, m)

pub room_given : (len r k : ℕ) → len < r → 0 < (r - len) + k
room_given len r k h = omega (arith, h)

-- ---- What the new token holds.
pub record IsNewcomer (v : View Core Entry) (number : ℕ) (p : Private) (tail : List Entry) : Type 0 where
  pub numbered : number ≡ v.number
  pub sides : All IsWindow (start_in v.first).windows
  pub legal : IsLegalAt (start_in v.first) (v.seen ++ tail)
  pub local : are_local (replay_from (start_in v.first) v.seen) number tail ≡ true
  pub part : p ≡ part_after (start_in v.first) number (v.seen ++ tail)
  pub room : slice_index v.rooms v.number ≡ room_for false + 256 + length tail + 0
  pub many : 256 + length tail ≤ 256
  pub mine : of_number v.number (v.seen ++ tail) ≡ []

below_of : (n made : ℕ) (es : List Entry) → n < made → AreOf n es → All (λ (e : Entry). e.thread < made) es
below_of n made [] h w i d l = absurd (omega arith)
below_of n made (e ∷ es) h w zero d l = subst (λ m. m < made) (sym w.0) h
below_of n made (e ∷ es) h w (suc i) d l = below_of n made es h w.1 i d (omega arith)

pub new_token : (f : Snapshot Core) (t u : Holding) (z y : Core) (v : View Core Entry) (number : ℕ) (p : Private) (tail : List Entry) → Begun f.value t u z → (view_of t.pass).first ≡ Some f → IsTurn f.value y u.number [] → y.journal.entries ≡ z.journal.entries ++ u.tail.items
    → v ≡ fresh 258 y.journal.entries (view_of u.pass) → number ≡ z.driver.made → p ≡ part_of (replay_from (origin f.value) (z.journal.entries ++ u.tail.items)) number → tail ≡ [] → IsNewcomer v number p tail
new_token f t u z y v number p tail b is turn same new made part none =
    let o = origin f.value in
    let n : v.number ≡ z.driver.made = ap (λ (q : View Core Entry). q.number) new ∙ ap (λ (q : View Core Entry). q.counts.made) b.view in
    let seen : v.seen ≡ y.journal.entries = ap (λ (q : View Core Entry). q.seen) new in
    let rooms : v.rooms ≡ z.rooms.items ++ 258 ∷ [] = ap (λ (q : View Core Entry). q.rooms) new ∙ ap (λ (q : View Core Entry). q.rooms ++ 258 ∷ []) b.view in
    let first : start_in v.first ≡ o = ap start_in (ap (λ (q : View Core Entry). q.first) new ∙ ap (λ (q : View Core Entry). q.first) b.view ∙ is) in
    let own : slice_index v.rooms v.number ≡ 258 = (λ j. slice_index (rooms j) (n j)) ∙ ap (λ m. slice_index (z.rooms.items ++ 258 ∷ []) m) (sym b.turn.known) ∙ get_or-append_seam z.rooms.items 258 [] 0 in
    let all : v.seen ++ tail ≡ y.journal.entries ++ [] = λ j. seen j ++ none j in
    let inside : u.number < z.driver.made = subst (λ m. u.number < m) b.turn.known b.turn.number in
    let below : All (λ (e : Entry). e.thread < z.driver.made) (z.journal.entries ++ u.tail.items) =
    All-append (λ (e : Entry). e.thread < z.driver.made) z.journal.entries u.tail.items b.below (below_of u.number z.driver.made u.tail.items inside (of_thread _ u.number u.tail.items b.turn.local)) in
    record {
      numbered = made ∙ sym n;
      sides = subst (λ (s : State). All IsWindow s.windows) (sym first) b.sides;
      legal = subst (λ (q : State × List Entry). IsLegalAt q.0 q.1) (λ j. (sym first j, sym all j)) (legal_at o (y.journal.entries ++ []) turn.legal);
      local = ap (λ l. are_local (replay_from (start_in v.first) v.seen) number l) none;
      part = part ∙ ap (λ (q : State × List Entry). part_after q.0 number q.1) (λ j. (sym first j, sym (all ∙ append-nil y.journal.entries ∙ same) j));
      room = own ∙ ap (λ (l : List Entry). room_for false + 256 + length l + 0) (sym none);
      many = subst (λ (l : List Entry). 256 + length l ≤ 256) (sym none) (omega arith);
      mine = ap (of_number v.number) (all ∙ append-nil y.journal.entries ∙ same) ∙ none_new v.number z.driver.made (z.journal.entries ++ u.tail.items) below n;
    }

-- its number is that of the tokens made before
number_is : (f : Core) (t u : Holding) (z : Core) (v : View Core Entry) (es : List Entry) → Begun f t u z → v ≡ fresh 258 es (view_of u.pass) → v.number ≡ z.driver.made
number_is f t u z v es b new = ap (λ (q : View Core Entry). q.number) new ∙ ap (λ (q : View Core Entry). q.counts.made) b.view

-- and below the limit of tokens
pub below_limit : (f : Core) (t u : Holding) (z : Core) (v : View Core Entry) (es : List Entry) (number : ℕ) → Begun f t u z → v ≡ fresh 258 es (view_of u.pass) → number ≡ z.driver.made → number < z.tokens.most → v.number < f.tokens.most
below_limit f t u z v es number b new made below = subst (λ (q : ℕ × ℕ). q.0 < q.1) (λ j. ((made ∙ sym (number_is f t u z v es b new)) j, b.within.limit j)) below

-- what says that it is full says so of the limit that the lock began with, and of the tokens that its maker has counted then
pub full_now : (f : Core) (t u w : Holding) (z y : Core) (e : AttachError) → Begun f t u z → view_of w.pass ≡ went meaning (view_of u.pass) y → IsFull z.tokens.most z.driver.made e → IsFull f.tokens.most (view_of w.pass).counts.made e
full_now f t u w z y e b view h =
    let made : (view_of w.pass).counts.made ≡ z.driver.made = ap (λ (q : View Core Entry). q.counts.made) view ∙ ap (λ (q : View Core Entry). q.counts.made) b.view in
    subst (λ (q : ℕ × ℕ). IsFull q.0 q.1 e) (λ j. (b.within.limit j, sym made j)) h

pub counted_before : (f : Core) (t u : Holding) (z : Core) (v : View Core Entry) (es : List Entry) → Begun f t u z → v ≡ fresh 258 es (view_of u.pass) → (view_of t.pass).counts.made ≤ v.number
counted_before f t u z v es b new = subst (λ m. (view_of t.pass).counts.made ≤ m) (sym (number_is f t u z v es b new)) b.made_counted

pub owned_before : (f : Core) (t u : Holding) (z : Core) (v w : View Core Entry) (es : List Entry) → Begun f t u z → v ≡ fresh 258 es (view_of u.pass) → w.number ≡ (view_of t.pass).number → w.ended ≡ (view_of t.pass).ended
    → (n : ℕ) → (n ≡ w.number) ⊎ (Contains w.ended n) → n < v.number
owned_before f t u z v w es b new number ended n own = subst (λ m. n < m) (sym (number_is f t u z v es b new)) (below own)
  where
    its : w.number ≡ u.number
    its = number ∙ sym (b.numbered ∙ ap (λ (q : View Core Entry). q.number) b.view)

    below : (n ≡ w.number) ⊎ (Contains w.ended n) → n < z.driver.made
    below (inl e) = subst (λ m. m < z.driver.made) (sym (e ∙ its)) (subst (λ m. u.number < m) b.turn.known b.turn.number)
    below (inr h) = b.ended_below n (subst (λ l. Contains l n) ended h)

pub not_halted : (n : ℕ) (es : List Entry) → of_number n es ≡ [] → false ≡ has_halted n es
unfolding has_halted
not_halted n es h = sym (ap are_halted h)
