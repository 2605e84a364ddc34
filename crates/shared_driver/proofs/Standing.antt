-- What stands for which history, between turns and in one.
use Rattle.std.proofs.Common.{◌≡◌, ℕ, ◌+◌, ◌≤◌, ◌<◌, Bool, true, false, zero, suc, List, [], ◌∷◌, ◌++◌, arith, refl, sym, ap, ◌∙◌, subst, inl, length, get_or, set}
use Rattle.std.specs.Prelude as std
use Rattle.std.proofs.lemmas.List.{append-nil, length-set}
use Rattle.egl_calls.specs.Calls.{CallValue, ReplyValue}
use Rattle.egl_calls.specs.declared.entries.Entry.{Entry}
use Rattle.model_laws.specs.Frame.{AreOfOthers, IsReady}
use Rattle.model_laws.specs.Hidden.{hide}
use Rattle.egl_model.specs.History.{IsLegalFrom, replay_from}
use Rattle.egl_model.specs.Parts.{Private, part_of}
use Rattle.egl_model.specs.State.{State}
use Rattle.egl_model.specs.Step.{Stepped, step}
use Rattle.model_laws.proofs.Steps.StepPut.{hide-step}
use Rattle.driver_core.specs.Machine.{Machine, outs}
use Rattle.driver_core.proofs.OutsideLaws.{is_in as is_none}
use Rattle.turn_lock.specs.Meaning.{Leads, StandsFor}
use Rattle.turn_lock.specs.Views.{AreOthers}
use Rattle.turn_lock.specs.declared.view.View.{View}
use Rattle.shared_driver.specs.declared.cores.Core.{Core}
use Rattle.shared_driver.specs.declared.cores.TokenCount.{TokenCount}
use Rattle.shared_driver.specs.Cores.{IsWithin, LockedState, are_local, away_by, entry, meaning, origin, owed}
use Rattle.shared_driver.specs.Turns.{IsTurn}
use Rattle.shared_driver.proofs.Histories.{IsLate, comes_late, legal_first, legal_more, replay_more, ready_replay, stays_out}
use Rattle.shared_driver.proofs.Rooms.{in_set, in_zero, is_out, out_again}

-- ---- What entries lead to is the replay, and they are legal.
leads_replay : (a c : LockedState) (es : List Entry) → Leads meaning a es c → IsLegalFrom a.state es × (c.state ≡ replay_from a.state es) × (c.most ≡ a.most)
leads_replay a c [] h = (tt, ap (λ (l : LockedState). l.state) (sym h), ap (λ (l : LockedState). l.most) (sym h))
leads_replay a c (e ∷ es) h =
    let k = leads_replay h.0 c es h.2 in let s = h.1.1 in
    ((h.1.0, subst (λ x. IsLegalFrom x es) (ap (λ (q : LockedState). q.state) s) k.0), k.1 ∙ ap (λ (q : LockedState). replay_from q.state es) s, k.2 ∙ ap (λ (q : LockedState). q.most) s)

abbrev locked : State → ℕ → LockedState
locked s most = record { state = s; most = most }

leads_from : (a : State) (most : ℕ) (es : List Entry) → IsLegalFrom a es → Leads meaning (locked a most) es (locked (replay_from a es) most)
leads_from a most [] h = refl
leads_from a most (e ∷ es) h = (locked (step a e.thread e.call).state most, (h.0, refl), leads_from (step a e.thread e.call).state most es h.1)

-- ---- Limits of tokens.
-- no more tokens were made
pub within_same : (most : ℕ) (x y : Core) → y.tokens.most ≡ x.tokens.most → y.driver.made ≡ x.driver.made → IsWithin most x → IsWithin most y
within_same most x y limit made w = record { limit = limit ∙ w.limit; made = subst (λ m. m ≤ most) (sym made) w.made; few = w.few }

-- one more was made
pub within_more : (most : ℕ) (x y : Core) → y.tokens.most ≡ x.tokens.most → y.driver.made ≡ x.driver.made + 1 → x.driver.made < x.tokens.most → IsWithin most x → IsWithin most y
within_more most x y limit made below w = let l = w.limit in record { limit = limit ∙ l; made = omega (arith, made, below, l); few = w.few }

-- what makes one more asks of it
pub may_admit : (most : ℕ) (x : Core) → IsWithin most x → (x.driver.made ≤ x.tokens.most) × (x.tokens.most ≤ 65536)
may_admit most x w = let l = w.limit in let m = w.made in let f = w.few in (omega (arith, l, m), omega (arith, l, f))

-- between turns a value stands for its history where that is legal, the driver stands for its replay outside the parts that are out, and the journal has room for what is promised
pub record IsCore (first x : Core) : Type 0 where
  pub legal : IsLegalFrom (origin first) x.journal.entries
  pub driver : x.driver.state ≡ hide (outs x.driver.away) (replay_from (origin first) x.journal.entries)
  pub away : x.driver.away ≡ away_by x.rooms.items
  pub promised : x.promised ≡ owed x.rooms.items
  pub spare : x.promised ≤ x.journal.spare
  pub within : IsWithin first.tokens.most x

pub core_of : (first x : Core) → StandsFor meaning first x x.journal.entries → IsCore first x
core_of first x s = let k = leads_replay (locked (origin first) first.tokens.most) s.content x.journal.entries s.leads in
    record {
      legal = k.0;
      driver = s.keeps.driver ∙ ap (hide (outs x.driver.away)) k.1;
      away = s.keeps.away;
      promised = s.keeps.promised;
      spare = s.keeps.spare;
      within = subst (λ m. IsWithin m x) k.2 s.keeps.within;
    }

pub stands_of : (first x : Core) → IsCore first x → StandsFor meaning first x x.journal.entries
stands_of first x c = record {
  is = refl;
  content = locked (replay_from (origin first) x.journal.entries) first.tokens.most;
  leads = leads_from (origin first) first.tokens.most x.journal.entries c.legal;
  keeps = record { driver = c.driver; away = c.away; promised = c.promised; spare = c.spare; within = c.within };
}

-- x was lent as z
pub lent_core : (f z x : Core) → z ≡ x → StandsFor meaning f x x.journal.entries → IsCore f z
lent_core f z x is s = core_of f z (subst (λ (w : Core). StandsFor meaning f w w.journal.entries) (sym is) s)

-- a value that differs in how many tokens are live alone
pub core_same : (f x y : Core) → IsCore f x → (y.driver ≡ x.driver) × (y.journal ≡ x.journal) × (y.rooms ≡ x.rooms) × (y.promised ≡ x.promised) → y.tokens.most ≡ x.tokens.most → IsCore f y
core_same f x y k same limit =
    subst (λ (q : Core). IsCore f q) (λ j. record y { driver = sym same.0 j; journal = sym same.1 j; rooms = sym same.2 j; promised = sym same.3 j })
    (record { legal = k.legal; driver = k.driver; away = k.away; promised = k.promised; spare = k.spare; within = record { limit = limit ∙ k.within.limit; made = k.within.made; few = k.within.few } })

pub others_of : (v : View Core Entry) (es : List Entry) → AreOthers meaning v es → AreOfOthers v.number es
others_of v [] h = tt
others_of v (e ∷ es) h = (λ k. h 0 e (omega arith) (inl (sym k)), others_of v es (λ i d l. h (suc i) d (omega arith)))

-- ---- A turn begins.
-- the part of n and its own calls where x is found
pub found_late : (f x : Core) (n : ℕ) (v : View Core Entry) (tail : List Entry) (p : Private) → IsReady (origin f) n → n ≡ v.number → IsCore f x → (between : List Entry) → AreOthers meaning v between → x.journal.entries ≡ v.seen ++ between
    → IsLegalFrom (origin f) (v.seen ++ tail) → are_local (replay_from (origin f) v.seen) n tail ≡ true → p ≡ part_of (replay_from (origin f) (v.seen ++ tail)) n → n < length x.rooms.items → 0 < get_or x.rooms.items n 0
    → IsLate (origin f) n x.driver.away x.driver.state x.journal.entries tail p
found_late f x n v tail p r numbered k between others same legal local part inside room =
    comes_late (origin f) n x.driver.away x.driver.state x.journal.entries v.seen between tail p same r (subst (λ m. AreOfOthers m between) (sym numbered) (others_of v between others)) k.legal legal local part k.driver
    (ap (λ (l : List Bool). get_or l n false) k.away ∙ is_out x.rooms.items n inside room)

-- the part was put back
pub turn_begun : (f x y : Core) (n : ℕ) (tail : List Entry) (p : Private) → IsReady (origin f) n → IsCore f x → IsLate (origin f) n x.driver.away x.driver.state x.journal.entries tail p → n < length x.rooms.items → length x.rooms.items ≡ x.driver.made
    → y.driver.state ≡ hide (outs y.driver.away) (replay_from (origin f) (x.journal.entries ++ tail)) → (y.driver.made ≡ x.driver.made) × (y.driver.away ≡ set x.driver.away n false)
    → (y.journal ≡ x.journal) × (y.tokens ≡ x.tokens) × (y.rooms ≡ x.rooms) × (y.promised ≡ x.promised) → IsTurn f y n tail
turn_begun f x y n tail p r k late inside known driver away kept =
    let es : y.journal.entries ≡ x.journal.entries = ap (λ q. q.entries) kept.0 in
    let rooms : y.rooms.items ≡ x.rooms.items = ap (λ q. q.items) kept.2 in
    record {
      ready = r;
      legal = subst (λ (l : List Entry). IsLegalFrom (origin f) (l ++ tail)) (sym es) late.legal;
      local = subst (λ (l : List Entry). are_local (replay_from (origin f) l) n tail ≡ true) (sym es) late.local;
      driver = driver ∙ ap (λ (l : List Entry). hide (outs y.driver.away) (replay_from (origin f) (l ++ tail))) (sym es);
      away = away.1 ∙ ap (λ (l : List Bool). set l n false) k.away ∙ ap (λ (l : List ℕ). set (away_by l) n false) (sym rooms);
      number = subst (λ (l : List ℕ). n < length l) (sym rooms) inside;
      known = ap length rooms ∙ known ∙ sym away.0;
      promised = kept.3 ∙ k.promised ∙ ap owed (sym rooms);
      spare = subst (λ (q : ℕ × ℕ). q.0 ≤ q.1) (λ j. (sym kept.3 j, (sym kept.0 j).spare)) k.spare;
    }

-- ---- In a turn.
-- the part of n is in
pub has_part : (f x : Core) (n : ℕ) (own : List Entry) → IsTurn f x n own → std.slice_index_or x.driver.away n false ≡ false
has_part f x n own k = ap (λ (l : List Bool). get_or l n false) k.away ∙ off (away_by x.rooms.items) n
  where
    off : (l : List Bool) (m : ℕ) → get_or (set l m false) m false ≡ false
    off [] m = refl
    off (b ∷ l) zero = refl
    off (b ∷ l) (suc m) = off l m

-- a step of the driver is the step from the state after the journal and the thread's own calls
pub stepped_is : (f x : Core) (n : ℕ) (own : List Entry) (c : CallValue) → IsTurn f x n own
    → (step x.driver.state n c).reply ≡ (step (replay_from (origin f) (x.journal.entries ++ own)) n c).reply
    × ((step x.driver.state n c).state ≡ hide (outs x.driver.away) (step (replay_from (origin f) (x.journal.entries ++ own)) n c).state)
stepped_is f x n own c k =
    let s = replay_from (origin f) (x.journal.entries ++ own) in
    let q = ap (λ (y : State). step y n c) k.driver ∙ hide-step (outs x.driver.away) s n c (ready_replay (origin f) n (x.journal.entries ++ own) k.ready).sound.whole (is_none x.driver.away n (has_part f x n own k)) in
    (ap (λ (y : Stepped). y.reply) q, ap (λ (y : Stepped). y.state) q)

-- the value y is x, with another room for n
pub record IsRoomed (x y : Core) (n : ℕ) : Type 0 where
  pub room : ℕ
  pub rooms : y.rooms.items ≡ set x.rooms.items n room
  pub promised : y.promised ≡ owed y.rooms.items
  pub spare : y.promised ≤ y.journal.spare

-- x's thread has handed in its own calls, or none of them
pub turn_same : (f x y : Core) (n : ℕ) (own left : List Entry) → IsTurn f x n own → IsRoomed x y n → y.driver ≡ x.driver → y.journal.entries ++ left ≡ x.journal.entries ++ own
    → are_local (replay_from (origin f) y.journal.entries) n left ≡ true → IsTurn f y n left
turn_same f x y n own left k r driver same local = record {
  ready = k.ready;
  legal = subst (IsLegalFrom (origin f)) (sym same) k.legal;
  local = local;
  driver = ap (λ (m : Machine). m.state) driver ∙ k.driver ∙ ap (λ (q : List Bool × List Entry). hide (outs q.0) (replay_from (origin f) q.1)) (λ j. ((sym driver j).away, sym same j));
  away = ap (λ (m : Machine). m.away) driver ∙ k.away ∙ sym (in_set x.rooms.items n r.room) ∙ ap (λ (l : List ℕ). set (away_by l) n false) (sym r.rooms);
  number = subst (λ m. n < m) (sym (ap length r.rooms ∙ length-set x.rooms.items n r.room)) k.number;
  known = ap length r.rooms ∙ length-set x.rooms.items n r.room ∙ k.known ∙ ap (λ (m : Machine). m.made) (sym driver);
  promised = r.promised;
  spare = r.spare;
}

-- it has handed in its own calls, and then made one more
pub turn_more : (f x y : Core) (n mark : ℕ) (c : CallValue) (reply : ReplyValue) (own : List Entry) → IsTurn f x n own → IsRoomed x y n → reply ≡ (step x.driver.state n c).reply → y.driver ≡ record x.driver { state = (step x.driver.state n c).state }
    → y.journal.entries ≡ (x.journal.entries ++ own) ++ entry n mark c reply ∷ [] → IsTurn f y n []
turn_more f x y n mark c reply own k r replies driver added =
    let o = origin f in
    let es = x.journal.entries ++ own in
    let e = entry n mark c reply in
    let s = stepped_is f x n own c k in
    let all : y.journal.entries ++ [] ≡ es ++ e ∷ [] = append-nil y.journal.entries ∙ added in
    record {
      ready = k.ready;
      legal = subst (IsLegalFrom o) (sym all) (legal_more o es e k.legal (replies ∙ s.0));
      local = refl;
      driver = ap (λ (m : Machine). m.state) driver ∙ s.1 ∙ ap (hide (outs x.driver.away)) (sym (replay_more o es e)) ∙ ap (λ (q : List Bool × List Entry). hide (outs q.0) (replay_from o q.1)) (λ j. ((sym driver j).away, sym all j));
      away = ap (λ (m : Machine). m.away) driver ∙ k.away ∙ sym (in_set x.rooms.items n r.room) ∙ ap (λ (l : List ℕ). set (away_by l) n false) (sym r.rooms);
      number = subst (λ m. n < m) (sym (ap length r.rooms ∙ length-set x.rooms.items n r.room)) k.number;
      known = ap length r.rooms ∙ length-set x.rooms.items n r.room ∙ k.known ∙ ap (λ (m : Machine). m.made) (sym driver);
      promised = r.promised;
      spare = r.spare;
    }

-- ---- A turn ends.
-- the part went out again
pub turn_ended : (f y z : Core) (n : ℕ) (own : List Entry) → IsTurn f y n own → IsWithin f.tokens.most y → 0 < get_or y.rooms.items n 0 → z.driver.state ≡ hide (outs z.driver.away) (replay_from (origin f) (y.journal.entries ++ own))
    → (z.driver.made ≡ y.driver.made) × (z.driver.away ≡ set y.driver.away n true) → (z.journal ≡ y.journal) × (z.tokens ≡ y.tokens) × (z.rooms ≡ y.rooms) × (z.promised ≡ y.promised) → IsCore f z
turn_ended f y z n own k within room driver away kept =
    let es : z.journal.entries ≡ y.journal.entries = ap (λ q. q.entries) kept.0 in
    let rooms : z.rooms.items ≡ y.rooms.items = ap (λ q. q.items) kept.2 in
    let out : z.driver.away ≡ away_by z.rooms.items = away.1 ∙ ap (λ (l : List Bool). set l n true) k.away ∙ out_again y.rooms.items n k.number room ∙ ap away_by (sym rooms) in
    let gone : get_or z.driver.away n false ≡ true = ap (λ (l : List Bool). get_or l n false) (out ∙ ap away_by rooms) ∙ is_out y.rooms.items n k.number room in
    record {
      legal = subst (IsLegalFrom (origin f)) (sym es) (legal_first (origin f) y.journal.entries own k.legal);
      driver = driver ∙ stays_out (origin f) n z.driver.away y.journal.entries own k.ready k.local gone ∙ ap (λ (l : List Entry). hide (outs z.driver.away) (replay_from (origin f) l)) (sym es);
      away = out;
      promised = kept.3 ∙ k.promised ∙ ap owed (sym rooms);
      spare = subst (λ (q : ℕ × ℕ). q.0 ≤ q.1) (λ j. (sym kept.3 j, (sym kept.0 j).spare)) k.spare;
      within = within_same f.tokens.most y z (ap (λ (q : TokenCount). q.most) kept.1) away.0 within;
    }

-- the part stays in, and the room is 0
pub turn_left : (f y z : Core) (n : ℕ) → IsTurn f y n [] → IsWithin f.tokens.most y → z.rooms.items ≡ set y.rooms.items n 0 → z.promised ≡ owed z.rooms.items → z.promised ≤ z.journal.spare → (z.driver ≡ y.driver) × (z.journal ≡ y.journal) × (z.tokens ≡ y.tokens) → IsCore f z
turn_left f y z n k within rooms promised spare kept =
    let es : y.journal.entries ++ [] ≡ z.journal.entries = append-nil y.journal.entries ∙ ap (λ q. q.entries) (sym kept.1) in
    record {
      legal = subst (IsLegalFrom (origin f)) es k.legal;
      driver = ap (λ (m : Machine). m.state) kept.0 ∙ k.driver ∙ ap (λ (q : List Bool × List Entry). hide (outs q.0) (replay_from (origin f) q.1)) (λ j. ((sym kept.0 j).away, es j));
      away = ap (λ (m : Machine). m.away) kept.0 ∙ k.away ∙ sym (in_zero y.rooms.items n) ∙ ap away_by (sym rooms);
      promised = promised;
      spare = spare;
      within = within_same f.tokens.most y z (ap (λ (q : TokenCount). q.most) kept.2) (ap (λ (m : Machine). m.made) kept.0) within;
    }
