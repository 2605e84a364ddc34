-- A turn ends before its draw.
use Rattle.std.proofs.Common.{◌≡◌, ℕ, zero, suc, ◌+◌, ◌<◌, ◌≤◌, Bool, true, false, cond, List, [], ◌∷◌, ◌++◌, sym, ap, ◌∙◌, subst, inl, inr, arith, length, filter, get_or, set, Option, None, Some, IfSome}
use Rattle.std.specs.declared.snapshot.Snapshot.{Snapshot}
use Rattle.std.specs.List.{range_with_len}
use Rattle.std.proofs.lemmas.Bool.{cases_eq, cases_lt}
use Rattle.std.proofs.lemmas.List.{append-nil, get_or_past}
use Rattle.egl_calls.specs.Calls.{CallValue, ReplyValue}
use Rattle.egl_calls.specs.declared.entries.Entry.{Entry}
use Rattle.egl_model.specs.History.{replay_from}
use Rattle.egl_model.specs.Parts.{Private, own_of, part_of}
use Rattle.egl_model.specs.State.{State}
use Rattle.egl_model.specs.Step.{step}
use Rattle.model_laws.specs.Frame.{AreOf, IsReady}
use Rattle.model_laws.specs.Hidden.{hide}
use Rattle.model_laws.specs.Late.{IsOut, drawing, drawn_part}
use Rattle.model_laws.proofs.Parts.LateDraws.{draws_unseen, part_drawn}
use Rattle.model_laws.proofs.Parts.OwnedPixels.{draw_owned}
use Rattle.driver_core.specs.LateDraws.{IsLeft, drawn_late, part_drawn_late, sampler_of}
use Rattle.driver_core.specs.Machine.{Machine, outs}
use Rattle.driver_core.specs.declared.drawings.Drawing.{Drawing}
use Rattle.driver_core.proofs.LateLaws.{left_outside}
use Rattle.turn_lock.specs.Passes.{IsFree, view_of}
use Rattle.turn_lock.specs.Moves.{went}
use Rattle.turn_lock.specs.Values.{Returns}
use Rattle.shared_driver.specs.declared.cores.Core.{Core}
use Rattle.shared_driver.specs.declared.picks.Pick.{Pick}
use Rattle.shared_driver.specs.declared.picks.Pick.TheVariants.{Call, Wait, Stop}
use Rattle.shared_driver.specs.declared.picks.Picked.{Picked}
use Rattle.shared_driver.specs.declared.picks.Picked.TheVariants.{Replied, Waited, Stopped}
use Rattle.shared_driver.specs.declared.tokens.Holding.{Holding}
use Rattle.shared_driver.specs.Cores.{entry, meaning, origin, owed}
use Rattle.shared_driver.specs.Picks.{IsDone}
use Rattle.shared_driver.specs.Turns.{Begun, Ends, EndsLate, EndsWith, Holds, IsTurn, standing_for}
use Rattle.shared_driver.proofs.Histories.{ready_replay, replay_more}
use Rattle.shared_driver.proofs.Picking.{done, done_made}
use Rattle.shared_driver.proofs.Rooms.{is_out, out_again}
use Rattle.shared_driver.proofs.Standing.{IsRoomed, has_part, stepped_is, turn_more}
use Rattle.shared_driver.proofs.Turning.{adds_ends, held_again, may_end, returned}

-- ---- Which parts are out.
kept_out : (n a : ℕ) (xs : List ℕ) (b : Bool) → (a ≡ n → b ≡ true) → ((a ≡ n → ⊥) → IsOut n xs) → IsOut n (cond b (a ∷ xs) xs)
kept_out n a xs true h k = elim (cases_eq a n) [ inl e ↦ inl e | inr ne ↦ inr (k ne) ]
kept_out n a xs false h k = elim (cases_eq a n) [ inl e ↦ absurd (let f : false ≡ true = h e in cc) | inr ne ↦ k ne ]

above : (a n : ℕ) → a ≤ n → (a ≡ n → ⊥) → a + 1 ≤ n
above a n h ne = elim (cases_lt a n) [ inl l ↦ omega arith | inr l ↦ absurd (ne (omega arith)) ]

in_range : (q : ℕ → Bool) (n a k : ℕ) → a ≤ n → n < a + k → q n ≡ true → IsOut n (filter q (range_with_len a k))
in_range q n a zero h l e = absurd (omega arith)
in_range q n a (suc k) h l e = kept_out n a (filter q (range_with_len (a + 1) k)) (q a) (λ f. ap q f ∙ e) (λ ne. in_range q n (a + 1) k (above a n h ne) (omega arith) e)

passed : (away : List Bool) (n : ℕ) → get_or away n false ≡ true → n < length away
passed away n h = elim (cases_lt n (length away)) [
  | inl l ↦ l
  | inr l ↦ absurd (let e : false ≡ true = sym (get_or_past away n false l) ∙ h in cc)
]

among_outs : (away : List Bool) (n : ℕ) → get_or away n false ≡ true → IsOut n (outs away)
unfolding outs
among_outs away n h = let l = passed away n h in in_range (λ m. get_or away m false) n 0 (length away) (omega arith) (omega arith) h

-- ---- In the turn.
-- a draw that its call has left, seen from the state before it
record LeftAs (f x y : Core) (n : ℕ) (own : List Entry) (c : CallValue) (d : Drawing) : Type 0 where
  pub ready : IsReady (replay_from (origin f) (x.journal.entries ++ own)) n
  pub driver : y.driver.state ≡ hide (outs y.driver.away) (replay_from (origin f) (x.journal.entries ++ own))
  pub drawn : (step (replay_from (origin f) (x.journal.entries ++ own)) n c).state ≡ drawn_late (replay_from (origin f) (x.journal.entries ++ own)) n (Some d)
  -- the driver as it were, had it made the draw
  pub made : (standing_for y (hide (outs y.driver.away) (drawn_late (replay_from (origin f) (x.journal.entries ++ own)) n (Some d)))).driver ≡ record x.driver { state = (step x.driver.state n c).state }

left_as : (f x y : Core) (n : ℕ) (own : List Entry) (c : CallValue) (d : Drawing) → IsTurn f x n own → IsLeft x.driver n c (Some d) y.driver → LeftAs f x y n own c d
left_as f x y n own c d k l =
    let before = replay_from (origin f) (x.journal.entries ++ own) in
    let ready = ready_replay (origin f) n (x.journal.entries ++ own) k.ready in
    let drawn = left_outside x.driver y.driver n c d l before ready (has_part f x n own k) k.driver in
    record {
      ready = ready;
      driver = ap (λ (m : Machine). m.state) l.0 ∙ k.driver ∙ ap (λ (m : Machine). hide (outs m.away) before) (sym l.0);
      drawn = drawn;
      made = ap (λ (m : Machine). record m { state = hide (outs m.away) (drawn_late before n (Some d)) }) l.0
          ∙ ap (λ (s : State). record x.driver { state = s }) (ap (hide (outs x.driver.away)) (sym drawn) ∙ sym (stepped_is f x n own c k).1);
    }

-- once the call's entry stands in the journal, and nothing waits to be handed in
after_entry : (f x y : Core) (n mark : ℕ) (own left : List Entry) (c : CallValue) (reply : ReplyValue) → left ≡ [] → y.journal.entries ≡ (x.journal.entries ++ own) ++ entry n mark c reply ∷ []
    → replay_from (origin f) (y.journal.entries ++ left) ≡ (step (replay_from (origin f) (x.journal.entries ++ own)) n c).state
after_entry f x y n mark own left c reply none added =
    ap (λ l. replay_from (origin f) (y.journal.entries ++ l)) none ∙ ap (replay_from (origin f)) (append-nil y.journal.entries ∙ added) ∙ replay_more (origin f) (x.journal.entries ++ own) (entry n mark c reply)

-- the thread's own calls were handed in, and then a call was played, which may have left a draw
pub adds_with : (f : Core) (t u w : Holding) (x y : Core) (mark : ℕ) (c : CallValue) (reply : ReplyValue) (room : ℕ) (left : Option Drawing) → Begun f t u x → w.pass ≡ u.pass → w.number ≡ u.number → w.tail.items ≡ []
    → reply ≡ (step x.driver.state u.number c).reply → IsLeft x.driver u.number c left y.driver → y.journal.entries ≡ (x.journal.entries ++ u.tail.items) ++ entry u.number mark c reply ∷ []
    → y.rooms.items ≡ set x.rooms.items u.number room → y.promised ≡ owed y.rooms.items → y.promised ≤ y.journal.spare → y.tokens ≡ x.tokens → 0 < room → EndsWith f w y left
adds_with f t u w x y mark c reply room None b pass number none replies left added rooms promised spare live enough = adds_ends f t u w x y mark c reply room b pass number none replies left added rooms promised spare live enough
adds_with f t u w x y mark c reply room (Some d) b pass number none replies left added rooms promised spare live enough =
    let before = replay_from (origin f) (x.journal.entries ++ u.tail.items) in
    let k = left_as f x y u.number u.tail.items c d b.turn left in
    let as_made : ℕ → Core = λ n. standing_for y (hide (outs y.driver.away) (drawn_late before n (Some d))) in
    record {
      before = before;
      ready = subst (IsReady before) (sym number) k.ready;
      driver = k.driver;
      drawn = after_entry f x y u.number mark u.tail.items w.tail.items c reply none added ∙ k.drawn ∙ ap (λ n. drawn_late before n (Some d)) (sym number);
      ends = subst (λ n. Ends f w (as_made n)) (sym number) (adds_ends f t u w x (as_made u.number) mark c reply room b pass number none replies k.made added rooms promised spare live enough);
    }

-- the same of a call that was picked
pub picks_with : (f : Core) (t u w : Holding) (x m y : Core) (p : Pick) (r : Picked) (more : List Entry) (room : ℕ) (left : Option Drawing) → Begun f t u x → w.pass ≡ u.pass → w.number ≡ u.number → w.tail.items ≡ [] → IsTurn f m u.number [] → IsRoomed m y u.number
    → IsDone m u.number p r left y → y.journal.entries ≡ x.journal.entries ++ more → AreOf u.number more
    → m.driver.made ≡ x.driver.made → y.tokens ≡ x.tokens → y.rooms.items ≡ set x.rooms.items u.number room → length w.tail.items < room → EndsWith f w y left
picks_with f t u w x m y p r more room None b pass number none turn roomed d added own made live rooms enough =
    may_end f t u w x y more room b pass number (subst (IsTurn f y u.number) (sym none) (done f m y u.number p r turn roomed d)) added own (done_made m y u.number p r None d ∙ made) live rooms enough
picks_with f t u w x m y (Call mark c) (Replied reply) more room (Some d) b pass number none turn roomed h added own made live rooms enough =
    let before = replay_from (origin f) (m.journal.entries ++ []) in
    let k = left_as f m y u.number [] c d turn h.2 in
    let entries : y.journal.entries ≡ (m.journal.entries ++ []) ++ entry u.number mark c reply ∷ [] = h.0 ∙ ap (λ l. l ++ entry u.number mark c reply ∷ []) (sym (append-nil m.journal.entries)) in
    let as_made : ℕ → Core = λ n. standing_for y (hide (outs y.driver.away) (drawn_late before n (Some d))) in
    record {
      before = before;
      ready = subst (IsReady before) (sym number) k.ready;
      driver = k.driver;
      drawn = after_entry f m y u.number mark [] w.tail.items c reply none entries ∙ k.drawn ∙ ap (λ n. drawn_late before n (Some d)) (sym number);
      ends = subst (λ n. Ends f w (as_made n)) (sym number)
          (may_end f t u w x (as_made u.number) more room b pass number
          (subst (IsTurn f (as_made u.number) u.number) (sym none) (turn_more f m (as_made u.number) u.number mark c reply [] turn (record { room = roomed.room; rooms = roomed.rooms; promised = roomed.promised; spare = roomed.spare }) h.1 k.made entries))
          added own (done_made m y u.number (Call mark c) (Replied reply) (Some d) h ∙ made) live rooms enough);
    }
picks_with f t u w x m y (Call mark c) Waited more room (Some d) b pass number none turn roomed h added own made live rooms enough = absurd h
picks_with f t u w x m y (Call mark c) Stopped more room (Some d) b pass number none turn roomed h added own made live rooms enough = absurd h
picks_with f t u w x m y (Wait what) (Replied reply) more room (Some d) b pass number none turn roomed h added own made live rooms enough = absurd h
picks_with f t u w x m y (Wait what) Waited more room (Some d) b pass number none turn roomed h added own made live rooms enough = absurd h
picks_with f t u w x m y (Wait what) Stopped more room (Some d) b pass number none turn roomed h added own made live rooms enough = absurd h
picks_with f t u w x m y Stop (Replied reply) more room (Some d) b pass number none turn roomed h added own made live rooms enough = absurd h
picks_with f t u w x m y Stop Waited more room (Some d) b pass number none turn roomed h added own made live rooms enough = absurd h
picks_with f t u w x m y Stop Stopped more room (Some d) b pass number none turn roomed h added own made live rooms enough = absurd h

-- the value was lent
pub lent_with : (f : Core) (u : Holding) (y z : Core) (left : Option Drawing) → z ≡ y → EndsWith f u y left → EndsWith f u z left
lent_with f u y z left is k = subst (λ (q : Core). EndsWith f u q left) (sym is) k

-- ---- The turn's end.
-- what the part that goes out is, and what the driver then stands for
abbrev pub GoesOut : ℕ → Core → Private → Core → Type 0
GoesOut n y p z = (s : State) → IsReady s n → y.driver.state ≡ hide (outs y.driver.away) s → (p ≡ part_of s n) × (z.driver.state ≡ hide (outs z.driver.away) s)

-- the part of the thread is out then
gone : (f y z : Core) (n : ℕ) (own : List Entry) → IsTurn f y n own → 0 < get_or y.rooms.items n 0 → z.driver.away ≡ set y.driver.away n true → IsOut n (outs z.driver.away)
gone f y z n own k room away =
    among_outs z.driver.away n (ap (λ (l : List Bool). get_or l n false) (away ∙ ap (λ (l : List Bool). set l n true) k.away ∙ out_again y.rooms.items n k.number room) ∙ is_out y.rooms.items n k.number room)

-- nobody sees whether it has drawn
unseen_end : (f y z : Core) (u : Holding) (p : Private) (d : Drawing) → (k : EndsLate f u y d) → GoesOut u.number y p z → z.driver.away ≡ set y.driver.away u.number true
    → z.driver.state ≡ hide (outs z.driver.away) (replay_from (origin f) (y.journal.entries ++ u.tail.items))
unseen_end f y z u p d k out away =
    let r = k.ends.room in
    (out k.before k.ready k.driver).1
    ∙ sym (draws_unseen k.before u.number (drawing (own_of k.before u.number).context (sampler_of d.from) d.rect) (outs z.driver.away) k.ready (gone f _ z u.number u.tail.items k.ends.turn (omega (arith, r)) away))
    ∙ ap (hide (outs z.driver.away)) (sym k.drawn)

pub returned_with : (f : Core) (u : Holding) (y z : Core) (p : Private) (left : Option Drawing) → EndsWith f u y left → GoesOut u.number y p z
    → (z.driver.made ≡ y.driver.made) × (z.driver.away ≡ set y.driver.away u.number true) → (z.journal ≡ y.journal) × (z.tokens ≡ y.tokens) × (z.rooms ≡ y.rooms) × (z.promised ≡ y.promised) → Returns meaning f (view_of u.pass) z
returned_with f u y z p None k out driver kept =
    let es = y.journal.entries ++ u.tail.items in
    returned f u y z k (out (replay_from (origin f) es) (ready_replay (origin f) u.number es k.turn.ready) k.turn.driver).1 driver kept
returned_with f u y z p (Some d) k out driver kept = returned f u _ z k.ends (unseen_end f y z u p d k out driver.1) driver kept

-- the part is the thread's once what is left is drawn on it
pub part_with : (f : Core) (u : Holding) (y z : Core) (p : Private) (left : Option Drawing) → EndsWith f u y left → GoesOut u.number y p z → part_drawn_late left p ≡ part_of (replay_from (origin f) (y.journal.entries ++ u.tail.items)) u.number
part_with f u y z p None k out =
    let es = y.journal.entries ++ u.tail.items in
    (out (replay_from (origin f) es) (ready_replay (origin f) u.number es k.turn.ready) k.turn.driver).0
part_with f u y z p (Some d) k out =
    let f' = drawing (own_of k.before u.number).context (sampler_of d.from) d.rect in
    ap (λ (x : Private). drawn_part (drawing x.own.context (sampler_of d.from) d.rect) x) (out k.before k.ready k.driver).0
    ∙ sym (part_drawn k.before u.number f' k.ready)
    ∙ ap (λ (s : State). part_of s u.number) (sym k.drawn)

-- so the thread holds what it would, had the draw been made in the turn
pub held_with : (f : Snapshot Core) (u w : Holding) (y z : Core) (p : Private) (left : Option Drawing) → EndsWith f.value u y left → GoesOut u.number y p z → (view_of u.pass).first ≡ Some f → IsFree w.pass → view_of w.pass ≡ went meaning (view_of u.pass) z
    → (w.number ≡ u.number) × (w.tail ≡ u.tail) → w.part ≡ Some (part_drawn_late left p) → (z.journal ≡ y.journal) × (z.tokens ≡ y.tokens) × (z.rooms ≡ y.rooms) × (z.promised ≡ y.promised) → Holds w
held_with f u w y z p None k out is free view kept part same = held_again f u w y z k is free view kept (part ∙ ap (λ (x : Private). Some x) (part_with f.value u y z p None k out)) same
held_with f u w y z p (Some d) k out is free view kept part same = held_again f u w _ z k.ends is free view kept (part ∙ ap (λ (x : Private). Some x) (part_with f.value u y z p (Some d) k out)) same

-- and the pixels that it drew on were its own
pub owned_with : (f : Core) (u : Holding) (y z : Core) (p : Private) (left : Option Drawing) → EndsWith f u y left → GoesOut u.number y p z → IfSome p.own.draw (λ i. i.owned ≡ true)
owned_with f u y z p None k out =
    let es = y.journal.entries ++ u.tail.items in
    let s = replay_from (origin f) es in let ready = ready_replay (origin f) u.number es k.turn.ready in
    subst (λ (x : Private). IfSome x.own.draw (λ i. i.owned ≡ true)) (sym (out s ready k.turn.driver).0) (draw_owned s u.number ready)
owned_with f u y z p (Some d) k out = subst (λ (x : Private). IfSome x.own.draw (λ i. i.owned ≡ true)) (sym (out k.before k.ready k.driver).0) (draw_owned k.before u.number k.ready)
