-- The first token, and the last.
use Rattle.std.proofs.Common.{◌≡◌, ◌≢◌, ℕ, zero, suc, ◌<◌, ◌≤◌, ◌+◌, Bool, true, false, cond, List, [], ◌∷◌, ◌++◌, arith, refl, sym, ap, ◌∙◌, subst, length, get_or, set, filter, Some, inl, inr}
use Rattle.std.specs.Prelude.{All, Contains, slice_index, ◌⊎◌}
use Rattle.std.specs.List.{range_with_len}
use Rattle.std.proofs.lemmas.Bool.{cases_eq, cases_lt}
use Rattle.std.proofs.lemmas.List.{get_or_past, get_or-set_other}
use Rattle.std.proofs.lemmas.List.Elements.{All-append}
use Rattle.std.specs.declared.snapshot.Snapshot.{Snapshot}
use Rattle.model_laws.specs.Full.{IsWindow}
use Rattle.surface_store.specs.Windows.{windows_ok}
use Rattle.surface_store.specs.declared.windows.WindowSpec.{WindowSpec}
use Rattle.egl_calls.specs.declared.entries.Entry.{Entry}
use Rattle.model_laws.specs.Frame.{AreOf, IsReady}
use Rattle.model_laws.specs.Hidden.{hide}
use Rattle.egl_model.specs.History.{replay_from}
use Rattle.egl_model.specs.Parts.{Private, part_of}
use Rattle.egl_model.specs.State.{State, capacity, opening}
use Rattle.model_laws.proofs.Steps.StepKeeps.{sound-opening}
use Rattle.driver_core.specs.Machine.{outs}
use Rattle.turn_lock.specs.Moves.{newcomer}
use Rattle.turn_lock.specs.Values.{Begins, Leaves}
use Rattle.turn_lock.specs.declared.view.View.{View}
use Rattle.shared_driver.specs.declared.cores.Core.{Core}
use Rattle.shared_driver.specs.declared.cores.TokenCount.{TokenCount}
use Rattle.shared_driver.specs.Cores.{IsLegalAt, are_local, away_by, has_halted, meaning, origin, owed, part_after, room_for, start_in}
use Rattle.shared_driver.specs.Tokens.{Owns, Token}
use Rattle.shared_driver.proofs.Histories.{ready_at}
use Rattle.shared_driver.proofs.Rooms.{is_in}

pub some_threads : 0 < capacity
unfolding capacity
some_threads = omega arith

-- ---- The first token: all parts were in x, and the first is out of y.
pub first_ready : (windows : List WindowSpec) (video : ℕ) → windows_ok windows ≡ true → IsReady (opening windows video) 0
first_ready windows video ok = ready_at (opening windows video).windows video 0 (sound-opening windows ok video).full.windows (omega arith)

pub all_in : (x : Core) (s : State) → x.driver.state ≡ s → x.driver.away ≡ false ∷ [] → x.driver.state ≡ hide (outs x.driver.away) s
unfolding outs
all_in x s e a = e ∙ sym (ap (λ (l : List Bool). hide (outs l) s) a)

pub first_origin : (x y : Core) (windows : List WindowSpec) (video : ℕ) → x.driver.state ≡ opening windows video → (y.driver.state.windows ≡ x.driver.state.windows) × (y.driver.state.video ≡ x.driver.state.video) → origin y ≡ opening windows video
first_origin x y windows video e k =
    (λ j. record (opening [] (k.1 j)) { windows = k.0 j }) ∙ ap (λ (s : State). record (opening [] s.video) { windows = s.windows }) e

pub begins : (x y : Core) (windows : List WindowSpec) (video most : ℕ) → (1 ≤ most) × (most ≤ 65536) → (x.driver.state ≡ opening windows video) × (x.driver.made ≡ 1) × (x.driver.away ≡ false ∷ []) → (x.journal.entries ≡ []) × (257 ≤ x.journal.spare) → (x.tokens ≡ record { live = 1; most = most }) × (x.rooms.items ≡ 258 ∷ []) × (x.promised ≡ 257)
    → y.driver.state ≡ hide (outs y.driver.away) (opening windows video) → (y.driver.made ≡ x.driver.made) × (y.driver.away ≡ set x.driver.away 0 true) → (y.driver.state.windows ≡ x.driver.state.windows) × (y.driver.state.video ≡ x.driver.state.video)
    → (y.journal ≡ x.journal) × (y.tokens ≡ x.tokens) × (y.rooms ≡ x.rooms) × (y.promised ≡ x.promised) → Begins meaning y
unfolding owed away_by
begins x y windows video most some d j r driver away same kept =
    let rooms : y.rooms.items ≡ 258 ∷ [] = ap (λ q. q.items) kept.2 ∙ r.1 in
    let limit : y.tokens.most ≡ most = ap (λ (q : TokenCount). q.most) (kept.1 ∙ r.0) in
    record {
      stands = record {
        is = ap (λ q. q.entries) kept.0 ∙ j.0;
        content = record { state = opening windows video; most = most };
        leads = λ i. record { state = first_origin x y windows video d.0 same i; most = limit i };
        keeps = record {
          driver = driver;
          away = away.1 ∙ ap (λ (l : List Bool). set l 0 true) d.2 ∙ sym (ap away_by rooms);
          promised = kept.3 ∙ r.2 ∙ sym (ap owed rooms);
          spare = subst (λ (q : ℕ × ℕ). q.0 ≤ q.1) (λ i. (sym (kept.3 ∙ r.2) i, (sym kept.0 i).spare)) j.1;
          within = record { limit = limit; made = subst (λ m. m ≤ most) (sym (away.0 ∙ d.1)) some.0; few = some.1 };
        };
      };
      made_is = away.0 ∙ d.1;
      live_is = ap (λ (q : TokenCount). q.live) (kept.1 ∙ r.0);
      one_room = ap length rooms;
    }

-- what the first token holds
pub record IsFirst (v : View Core Entry) (p : Private) (tail : List Entry) : Type 0 where
  pub numbered : 0 ≡ v.number
  pub few : 0 < 65536
  pub sides : All IsWindow (start_in v.first).windows
  pub legal : IsLegalAt (start_in v.first) (v.seen ++ tail)
  pub local : are_local (replay_from (start_in v.first) v.seen) 0 tail ≡ true
  pub part : p ≡ part_after (start_in v.first) 0 (v.seen ++ tail)
  pub room : slice_index v.rooms v.number ≡ room_for false + 256 + length tail + 0
  pub many : 256 + length tail ≤ 256
  pub halts : false ≡ has_halted v.number (v.seen ++ tail)
  pub counted : false ≡ true → v.counts.live ≡ 1

first_at : (f : Snapshot Core) (s : State) (p : Private) → start_in (Some f) ≡ s → All IsWindow s.windows → p ≡ part_of s 0 → f.value.rooms.items ≡ 258 ∷ [] → IsFirst (newcomer meaning f) p []
unfolding has_halted
first_at f s p e sides part rooms = record {
  numbered = refl;
  few = omega arith;
  sides = subst (λ (q : State). All IsWindow q.windows) (sym e) sides;
  legal = refl;
  local = refl;
  part = part ∙ ap (λ (q : State). part_of q 0) (sym e);
  room = ap (λ (l : List ℕ). slice_index l 0) rooms;
  many = omega arith;
  halts = refl;
  counted = λ h. absurd (let g : false ≡ true = h in cc);
}

pub first_token : (v : View Core Entry) (f : Snapshot Core) (x y : Core) (p : Private) (tail : List Entry) (windows : List WindowSpec) (video : ℕ) → windows_ok windows ≡ true → v ≡ newcomer meaning f → f.value ≡ y → x.driver.state ≡ opening windows video
    → (y.driver.state.windows ≡ x.driver.state.windows) × (y.driver.state.video ≡ x.driver.state.video) → p ≡ part_of (opening windows video) 0 → tail ≡ [] → y.rooms.items ≡ 258 ∷ [] → IsFirst v p tail
first_token v f x y p tail windows video ok is e s same part none rooms =
    subst (λ (q : View Core Entry × List Entry). IsFirst q.0 p q.1) (λ j. (sym is j, sym none j))
    (first_at f (opening windows video) p (ap origin e ∙ first_origin x y windows video s same) (sound-opening windows ok video).full.windows part (ap (λ (q : Core). q.rooms.items) e ∙ rooms))

-- ---- The last token: no part is out but its own.
none_pass : (q : ℕ → Bool) → ((n : ℕ) → q n ≡ false) → (xs : List ℕ) → filter q xs ≡ []
none_pass q h [] = refl
none_pass q h (x ∷ xs) = ap (λ b. cond b (x ∷ filter q xs) (filter q xs)) (h x) ∙ none_pass q h xs

none_out : (away : List Bool) → ((n : ℕ) → get_or away n false ≡ false) → outs away ≡ []
unfolding outs
none_out away h = none_pass (λ n. get_or away n false) h (range_with_len 0 (length away))

off_at : (l : List Bool) (m : ℕ) → get_or (set l m false) m false ≡ false
off_at [] m = refl
off_at (b ∷ l) zero = refl
off_at (b ∷ l) (suc m) = off_at l m

its_room : (f : Core) (v : View Core Entry) (x : Core) (n m : ℕ) → Leaves meaning f v x → n ≡ v.number → m ≢ n → slice_index x.rooms.items m ≡ 0
its_room f v x n m k e ne = elim (cases_lt m x.driver.made) [
  | inl l ↦ owned (k.made_owned m l)
  | inr l ↦ get_or_past x.rooms.items m 0 (subst (λ q. q ≤ m) (sym k.found.long) l)
]
  where
    owned : (m ≡ v.number) ⊎ (Contains v.ended m) → slice_index x.rooms.items m ≡ 0
    owned (inl a) = absurd (ne (a ∙ sym e))
    owned (inr a) = k.found.ended_rooms m a

pub last_in : (f : Core) (v : View Core Entry) (x : Core) (n : ℕ) → Leaves meaning f v x → n ≡ v.number → x.driver.away ≡ away_by x.rooms.items → outs (set x.driver.away n false) ≡ []
last_in f v x n k e a = none_out (set x.driver.away n false) (λ m. elim (cases_eq m n) [
  | inl s ↦ ap (λ i. get_or (set x.driver.away n false) i false) s ∙ off_at x.driver.away n
  | inr ne ↦ get_or-set_other x.driver.away n m false false ne ∙ ap (λ (l : List Bool). get_or l m false) a ∙ is_in x.rooms.items m (its_room f v x n m k e ne)
])

of_owner : (t : Token) (n : ℕ) (es : List Entry) → n ≡ t.number → AreOf n es → All (λ (e : Entry). Owns t e.thread) es
of_owner t n [] e w i d l = absurd (omega arith)
of_owner t n (x ∷ es) e w zero d l = inl (w.0 ∙ e)
of_owner t n (x ∷ es) e w (suc i) d l = of_owner t n es e w.1 i d (omega arith)

pub last_owned : (t : Token) (n : ℕ) (es seen tail : List Entry) → n ≡ t.number → es ≡ seen ++ tail → All (λ (e : Entry). Owns t e.thread) seen → AreOf n tail → All (λ (e : Entry). Owns t e.thread) es
last_owned t n es seen tail e same h w = subst (All (λ (d : Entry). Owns t d.thread)) (sym same) (All-append (λ (d : Entry). Owns t d.thread) seen tail h (of_owner t n tail e w))
