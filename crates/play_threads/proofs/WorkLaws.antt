-- What a worker's turns leave of its token.
use Rattle.std.proofs.Common.{◌≡◌, ◌≢◌, ℕ, zero, suc, ◌<◌, Bool, true, false, ◌||◌, List, [], ◌∷◌, ◌++◌, refl, sym, ap, ◌∙◌, arith, subst, append_assoc, Option, Some, Result, Ok, Err, inl, length, inr}
use Rattle.std.proofs.lemmas.Bool.{eq-eqb}
use Rattle.std.proofs.lemmas.List.{append-nil}
use Rattle.std.proofs.lemmas.List.Elements.{All-head, All-tail, All-weaker}
use Rattle.std.proofs.lemmas.List.Folds.{list_any-append}
use Rattle.std.specs.Prelude.{◌==◌, All, IsSome, OnOk, if◌then◌else◌, is_some, ◌⊎◌}
use Rattle.egl_calls.specs.declared.memory.NoMemory.{NoMemory}
use Rattle.egl_calls.specs.Calls.{CallValue, ReplyValue}
use Rattle.egl_calls.specs.Journals.{is_halt, is_halt_kind, are_halted}
use Rattle.egl_calls.specs.declared.entries.Entry.{Entry}
use Rattle.egl_model.specs.State.{State, opening}
use Rattle.egl_model.specs.Step.{step}
use Rattle.egl_model.specs.History.{IsLegalFrom, replay_from}
use Rattle.trace_reader.specs.declared.traces.Line.{Line}
use Rattle.trace_reader.specs.Traces.{TraceValue}
use Rattle.trace_reader.specs.Order.{IsTrace}
use Rattle.trace_model.specs.Resolve.{resolved}
use Rattle.trace_model.specs.Turns.{bare_wait_end, goes_on, next_line, has_begun}
use Rattle.trace_model.proofs.AlikeLaws.{same_begun, same_next}
use Rattle.trace_session.specs.Answers.{IsLone}
use Rattle.trace_model.specs.Serial.{state_behind, next_call, entry_of}
use Rattle.trace_model.specs.Follows.{IsNextOf, PlaysAs}
use Rattle.trace_model.proofs.FollowsLaws.{plays_none, plays_others, plays_turn}
use Rattle.trace_session.specs.Sessions.{Knows, SessionValue, line_at}
use Rattle.trace_session.proofs.KnownLaws.{no_halt_known}
use Rattle.trace_session.proofs.TraceFacts.{facts_of}
use Rattle.shared_driver.specs.Cores.{entry, halt_call, of_number}
use Rattle.shared_driver.specs.Picks.{ComesOf, IsAnswer, IsAtTurn, IsSeenAtTurn, picked_entries}
use Rattle.shared_driver.specs.Tokens.{AreOthers, Goes, Halts, Owns, Token, mine}
use Rattle.driver_core.specs.Machine.{Machine, outs}
use Rattle.model_laws.specs.Frame.{AreOf}
use Rattle.model_laws.specs.Hidden.{hide}
use Rattle.trace_session.specs.Facts.{HasFacts}
use Rattle.play_threads.proofs.HiddenLaws.{pick_same, ready_hidden}
use Rattle.play_threads.specs.declared.pickers.LinePicker.{LinePicker}
use Rattle.shared_driver.specs.declared.picks.Pick.{Pick}
use Rattle.shared_driver.specs.declared.picks.Pick.TheVariants.{Call, Wait, Stop}
use Rattle.shared_driver.specs.declared.picks.Picked.{Picked}
use Rattle.shared_driver.specs.declared.picks.Picked.TheVariants.{Replied, Waited, Stopped}
use Rattle.play_threads.specs.Picks.{HasLearnt, IsOver, IsPickOf, KnowsOwn, MayLook, Picks}
use Rattle.play_threads.specs.Work.{GaveUp, PlayLone, PlaysLone}
use Rattle.play_threads.proofs.LoneLaws.{call_of_lone, lone_goes, lone_moved, lone_told, own_line}
use Rattle.play_threads.proofs.PickLaws.{knows_all, knows_longer, learnt_longer, learnt_of, learnt_own, learnt_told, of_number-append, of_number-past, of_others, of_own}

-- ---- A thread plays its lines, whatever others add.
pub plays_past : (t : TraceValue) (thread : ℕ) (es more : List Entry) → All (λ e. e.thread ≢ thread) more → PlaysAs t thread es → PlaysAs t thread (es ++ more)
plays_past t thread es [] a p = let P : List Entry → Type 0 = λ xs. PlaysAs t thread xs in subst P (sym (append-nil es)) p
plays_past t thread es (e ∷ more) a p =
    let P : List Entry → Type 0 = λ xs. PlaysAs t thread xs in
    let Q : Entry → Type 0 = λ x. x.thread ≢ thread in
    subst P (append_assoc es (e ∷ []) more) (plays_past t thread (es ++ e ∷ []) more (All-tail Q e more a) (plays_others t thread es e (All-head Q e more a) p))

pub plays_without : (t : TraceValue) (thread : ℕ) (es : List Entry) → All (λ e. e.thread ≢ thread) es → PlaysAs t thread es
plays_without t thread es a = plays_past t thread [] es a (plays_none t thread)

-- entries of others are of no number that the token owns
pub not_owned : (u : Token) (n : ℕ) (es : List Entry) → Owns u n → AreOthers u es → All (λ e. e.thread ≢ n) es
not_owned u n es own a = All-weaker (λ (e : Entry). ¬ (Owns u e.thread)) (λ (e : Entry). e.thread ≢ n) (λ e no same. no (subst (Owns u) (sym same) own)) es a

-- where a number has no entry, all are of others
none_by : (n : ℕ) (e : Entry) (es : List Entry) (b : Bool) → (e.thread == n) ≡ b → (if b then e ∷ of_number n es else of_number n es) ≡ [] → (e.thread ≢ n) × (of_number n es ≡ [])
none_by n e es true h none = absurd (let f : e ∷ of_number n es ≡ [] = none in cc)
none_by n e es false h none = (λ same. absurd (let f : true ≡ false = sym (eq-eqb e.thread n same) ∙ h in cc), none)

pub none_of : (n : ℕ) (xs ys : List Entry) → of_number n (xs ++ ys) ≡ [] → All (λ e. e.thread ≢ n) xs
none_of n [] ys none i d lt = absurd (omega (arith, lt))
none_of n (x ∷ xs) ys none zero d lt = (none_by n x (xs ++ ys) (x.thread == n) refl none).0
none_of n (x ∷ xs) ys none (suc i) d lt = none_of n xs ys (none_by n x (xs ++ ys) (x.thread == n) refl none).1 i d (omega (arith, lt))

-- a thread without entries keeps none
cons_not_nil : (xs ys : List Entry) (e : Entry) → xs ++ e ∷ ys ≡ [] → ⊥
cons_not_nil [] ys e h = let f : e ∷ ys ≡ [] = h in cc
cons_not_nil (x ∷ xs) ys e h = let f : x ∷ (xs ++ e ∷ ys) ≡ [] = h in cc

keeps_none : (n : ℕ) (xs ys : List Entry) → AreOf n ys → of_number n (xs ++ ys) ≡ [] → ys ≡ []
keeps_none n xs [] own none = refl
keeps_none n xs (e ∷ es) own none =
    let first : of_number n (e ∷ es) ≡ e ∷ of_number n es = ap (λ (b : Bool). if b then e ∷ of_number n es else of_number n es) (eq-eqb e.thread n own.0) in
    absurd (cons_not_nil (of_number n xs) (of_number n es) e (sym (ap (λ l. of_number n xs ++ l) first) ∙ sym (of_number-append n xs (e ∷ es)) ∙ none))

pub keeps_lone : (t : TraceValue) (u : Token) → AreOf u.number u.tail → mine u ≡ [] → PlayLone t u.number u.seen u.tail
keeps_lone t u own none = let P : List Entry → Type 0 = λ es. PlayLone t u.number u.seen es in subst P (sym (keeps_none u.number u.seen u.tail own none)) tt

pub none_lone : (t : TraceValue) (n : ℕ) (u : Token) → u.tail ≡ [] → PlayLone t n u.seen u.tail
none_lone t n u none = let P : List Entry → Type 0 = λ es. PlayLone t n u.seen es in subst P (sym none) tt

-- the same of the thread and the trace by other names
pub lone_as : (a b : TraceValue) (m n : ℕ) (before tail seen more : List Entry) → a ≡ b → m ≡ n → (PlayLone a m before tail → PlayLone a m seen more) → PlayLone b n before tail → PlayLone b n seen more
lone_as a b m n before tail seen more same own f =
    let T : TraceValue → Type 0 = λ x. PlayLone x m before tail → PlayLone x m seen more in
    let N : ℕ → Type 0 = λ k. PlayLone b k before tail → PlayLone b k seen more in
    subst N own (subst T same f)

pub legal_front : (s : State) (xs ys : List Entry) → IsLegalFrom s (xs ++ ys) → IsLegalFrom s xs
legal_front s [] ys h = tt
legal_front s (x ∷ xs) ys h = (h.0, legal_front (step s x.thread x.call).state xs ys h.1)

pub last_reply : (s : State) (xs : List Entry) (e : Entry) → IsLegalFrom s (xs ++ e ∷ []) → e.reply ≡ (step (replay_from s xs) e.thread e.call).reply
last_reply s [] e h = h.0
last_reply s (x ∷ xs) e h = last_reply (step s x.thread x.call).state xs e h.1

or_none : (b c : Bool) → b ≡ false → c ≡ false → (b || c) ≡ false
or_none b c h k = ap (λ (x : Bool). x || c) h ∙ k

-- ---- Lines that wait for nobody.
module _ (t : TraceValue) (is : IsTrace t) (n : ℕ) (below : n < t.threads) where
  -- an entry of such a line is the thread's next, where its reply is the step's
  lone_next : (es : List Entry) (e : Entry) → PlaysLone t n es e → e.reply ≡ (step (state_behind t es) e.thread e.call).reply → IsNextOf t es e
  lone_next es e h reply =
      let l : Line = h.line in
      let call : next_call t.lines es n l ≡ l.call = call_of_lone t es n l h.lone in
      let goes : goes_on t.lines es (state_behind t es) n l ≡ true = lone_goes t es (state_behind t es) n l h.lone in
      let told : e.reply ≡ (step (state_behind t es) n (next_call t.lines es n l)).reply = reply ∙ ap (λ m. (step (state_behind t es) m e.call).reply) h.own ∙ ap (λ c. (step (state_behind t es) n c).reply) (h.call ∙ sym call) in
      let made : e ≡ entry_of (state_behind t es) n l (next_call t.lines es n l) =
      ap (λ m. record { thread = m; mark = e.mark; call = e.call; reply = e.reply }) h.own
      ∙ ap (λ k. record { thread = n; mark = k; call = e.call; reply = e.reply }) h.mark
      ∙ ap (λ c. record { thread = n; mark = l.number; call = c; reply = e.reply }) (h.call ∙ sym call)
      ∙ ap (λ r. record { thread = n; mark = l.number; call = next_call t.lines es n l; reply = r }) told in
      let N : ℕ → Type 0 = λ m. next_line t.lines es m ≡ Some l in
      let G : ℕ → Type 0 = λ m. goes_on t.lines es (state_behind t es) m l ≡ true in
      let E : ℕ → Type 0 = λ m. e ≡ entry_of (state_behind t es) m l (next_call t.lines es m l) in
      let B : ℕ → Type 0 = λ m. m < t.threads in
      record { line = l; next = subst N (sym h.own) h.lone.next; goes = subst G (sym h.own) goes; is = subst E (sym h.own) made; below = subst B (sym h.own) below }

  plays_lone : (es : List Entry) (e : Entry) → PlaysLone t n es e → IsLegalFrom (opening t.windows t.video) (es ++ e ∷ []) → PlaysAs t n es → PlaysAs t n (es ++ e ∷ [])
  plays_lone es e h legal plays =
      let P : ℕ → Type 0 = λ m. PlaysAs t m es in
      let Q : ℕ → Type 0 = λ m. PlaysAs t m (es ++ e ∷ []) in
      subst Q h.own (plays_turn t is es e (lone_next es e h (last_reply (opening t.windows t.video) es e legal)) (subst P (sym h.own) plays))

  -- a thread's own entries that wait for nobody play behind whatever others added
  pub hand_in : (before moved tail : List Entry) → of_number n before ≡ of_number n moved → PlayLone t n before tail → PlaysAs t n moved → IsLegalFrom (opening t.windows t.video) (moved ++ tail) → PlaysAs t n (moved ++ tail)
  hand_in before moved [] own h plays legal = let P : List Entry → Type 0 = λ xs. PlaysAs t n xs in subst P (sym (append-nil moved)) plays
  hand_in before moved (e ∷ es) own h plays legal =
      let P : List Entry → Type 0 = λ xs. PlaysAs t n xs in
      let L : List Entry → Type 0 = λ xs. IsLegalFrom (opening t.windows t.video) xs in
      let whole : IsLegalFrom (opening t.windows t.video) ((moved ++ e ∷ []) ++ es) = subst L (sym (append_assoc moved (e ∷ []) es)) legal in
      let here : PlaysLone t n moved e = record { line = h.0.line; lone = lone_moved t n before moved h.0.line own h.0.lone; own = h.0.own; mark = h.0.mark; call = h.0.call } in
      let one : PlaysAs t n (moved ++ e ∷ []) = plays_lone moved e here (legal_front (opening t.windows t.video) (moved ++ e ∷ []) es whole) plays in
      let same : of_number n (before ++ e ∷ []) ≡ of_number n (moved ++ e ∷ []) = of_number-append n before (e ∷ []) ∙ ap (λ l. l ++ of_number n (e ∷ [])) own ∙ sym (of_number-append n moved (e ∷ [])) in
      subst P (append_assoc moved (e ∷ []) es) (hand_in (before ++ e ∷ []) (moved ++ e ∷ []) es same h.1 one whole)

  -- the token handed in, and nothing was added
  pub handed_in : (o : State) → o ≡ opening t.windows t.video → (u v : Token) → u.number ≡ n → PlaysAs t n u.seen → PlayLone t n u.seen u.tail → IsLegalFrom o (v.seen ++ v.tail) → Goes u [] v → PlaysAs t n v.seen
  handed_in o opens u v same plays lone legal (between, others, seen, done) =
      let P : List Entry → Type 0 = λ xs. PlaysAs t n xs in
      let O : State → Type 0 = λ s. IsLegalFrom s ((u.seen ++ between) ++ u.tail) in
      let L : List Entry → Type 0 = λ xs. IsLegalFrom o xs in
      let apart : of_others n between = not_owned u n between (inl (sym same)) others in
      let is_seen : v.seen ≡ (u.seen ++ between) ++ u.tail = seen ∙ append-nil ((u.seen ++ between) ++ u.tail) in
      let whole : v.seen ++ v.tail ≡ (u.seen ++ between) ++ u.tail = ap (λ xs. v.seen ++ xs) done ∙ append-nil v.seen ∙ is_seen in
      subst P (sym is_seen) (hand_in u.seen (u.seen ++ between) u.tail (sym (of_number-past n u.seen between apart)) lone (plays_past t n u.seen between apart plays) (subst O opens (subst L whole legal)))

-- ---- One such line more.
more_lone : (t : TraceValue) (n : ℕ) (before xs : List Entry) (e : Entry) → PlayLone t n before xs → PlaysLone t n (before ++ xs) e → PlayLone t n before (xs ++ e ∷ [])
more_lone t n before [] e h p = let P : List Entry → Type 0 = λ es. PlaysLone t n es e in (subst P (append-nil before) p, tt)
more_lone t n before (x ∷ xs) e h p = let P : List Entry → Type 0 = λ es. PlaysLone t n es e in (h.0, more_lone t n (before ++ x ∷ []) xs e h.1 (subst P (sym (append_assoc before (x ∷ []) xs)) p))

module _ (u v : Token) (p q : LinePicker) (l : Line) (reply : ReplyValue) (same : u.number ≡ p.thread) (facts : HasFacts p.session.trace) (below : p.thread < p.session.trace.threads)
    (h : HasLearnt p (mine u) u.seen) (lone : IsLone p.session.trace h.learned p.thread l) where
  module _ (seen : v.seen ≡ u.seen) (tail : v.tail ≡ u.tail ++ entry u.number l.number l.call reply ∷ []) (own : mine v ≡ mine u ++ entry u.number l.number l.call reply ∷ []) where
    pub lone_played : PlayLone p.session.trace p.thread u.seen u.tail → PlayLone p.session.trace p.thread v.seen v.tail
    lone_played before =
        let here : IsLone p.session.trace (u.seen ++ u.tail) p.thread l = lone_moved p.session.trace p.thread h.learned (u.seen ++ u.tail) l (h.mine ∙ ap (λ m. of_number m (u.seen ++ u.tail)) same) lone in
        let e : Entry = entry u.number l.number l.call reply in
        let P : List Entry → Type 0 = λ es. PlayLone p.session.trace p.thread es (u.tail ++ e ∷ []) in
        let Q : List Entry → Type 0 = λ es. PlayLone p.session.trace p.thread v.seen es in
        subst Q (sym tail) (subst P (sym seen) (more_lone p.session.trace p.thread u.seen u.tail e before (record { line = l; lone = here; own = same; mark = refl; call = refl })))

    pub lone_calm : are_halted (mine u) ≡ false → are_halted (mine v) ≡ false
    lone_calm calm =
        let quiet : is_halt_kind l.call.kind ≡ false = ap (λ (c : CallValue). is_halt_kind c.kind) (sym (call_of_lone p.session.trace h.learned p.thread l lone)) ∙ no_halt_known p.session facts h.learned h.knows p.thread l below lone.next in
        ap are_halted own ∙ list_any-append is_halt (mine u) (entry u.number l.number l.call reply ∷ []) ∙ or_none (are_halted (mine u)) _ calm (or_none (is_halt_kind l.call.kind) false quiet refl)

    pub lone_learnt : q.thread ≡ p.thread → q.learnt ≡ p.learnt → q.halted ≡ p.halted
        → ((xs : List Entry) (x : Line) → Knows xs p.session → next_line p.session.trace.lines xs p.thread ≡ Some x → Knows (xs ++ entry p.thread x.number (next_call p.session.trace.lines xs p.thread x) reply ∷ []) q.session)
        → HasLearnt q (mine v) v.seen
    lone_learnt thread place halted told =
        let e : Entry = entry u.number l.number l.call reply in
        let K : Entry → Type 0 = λ x. Knows (h.learned ++ x ∷ []) q.session in
        let is : entry p.thread l.number (next_call p.session.trace.lines h.learned p.thread l) reply ≡ e =
        ap (λ c. entry p.thread l.number c reply) (call_of_lone p.session.trace h.learned p.thread l lone) ∙ ap (λ m. entry m l.number l.call reply) (sym same) in
        let own_now : HasLearnt q (mine u ++ e ∷ []) u.seen = learnt_own p q (mine u) u.seen e same thread place halted h (subst K is (told h.learned l h.knows lone.next)) in
        let M : List Entry → Type 0 = λ own. HasLearnt q own u.seen in
        let S : List Entry → Type 0 = λ es. HasLearnt q (mine v) es in
        subst S (sym seen) (subst M (sym own) own_now)

    pub lone_learnt_if_ok : (r : Result (Unit {0}) NoMemory) → q.thread ≡ p.thread → q.learnt ≡ p.learnt → q.halted ≡ p.halted
        → ((xs : List Entry) (x : Line) → Knows xs p.session → next_line p.session.trace.lines xs p.thread ≡ Some x → OnOk r (Knows (xs ++ entry p.thread x.number (next_call p.session.trace.lines xs p.thread x) reply ∷ []) q.session))
        → OnOk r (HasLearnt q (mine v) v.seen)
    lone_learnt_if_ok (Ok x) thread place halted told = lone_learnt thread place halted told
    lone_learnt_if_ok (Err e) thread place halted told = tt

-- ---- The entry of a pick.
module _ (t : TraceValue) (is : IsTrace t) (n : ℕ) (below : n < t.threads) (es : List Entry) (plays : PlaysAs t n es) where
  played_call : (mark : ℕ) (call : CallValue) (reply : ReplyValue) → IsLegalFrom (opening t.windows t.video) (es ++ entry n mark call reply ∷ []) → IsPickOf t es (state_behind t es) n (Call mark call) → PlaysAs t n (es ++ entry n mark call reply ∷ [])
  played_call mark call reply legal (l, next, goes, at, is_call) =
      let e : Entry = entry n mark call reply in
      let made : Entry = entry_of (state_behind t es) n l (next_call t.lines es n l) in
      let is_next : e ≡ made = ap (λ (r : ReplyValue). entry n mark call r) (last_reply (opening t.windows t.video) es e legal)
      ∙ ap (λ (m : ℕ). entry n m call (step (state_behind t es) n call).reply) at
      ∙ ap (λ (c : CallValue). entry n l.number c (step (state_behind t es) n c).reply) is_call in
      plays_turn t is es e (record { line = l; next = next; goes = goes; is = is_next; below = below }) plays

  -- behind whatever was picked, the thread still plays its lines
  pub plays_picked : (k : Pick) (r : Picked) → IsAnswer k r → IsLegalFrom (opening t.windows t.video) (es ++ picked_entries n k r) → IsPickOf t es (state_behind t es) n k → PlaysAs t n (es ++ picked_entries n k r)
  plays_picked (Call mark call) (Replied reply) a legal p = played_call mark call reply legal p
  plays_picked (Call mark call) Waited a legal p = absurd a
  plays_picked (Call mark call) Stopped a legal p = absurd a
  plays_picked (Wait what) (Replied reply) a legal p = absurd a
  plays_picked (Wait what) Waited a legal p = let P : List Entry → Type 0 = λ xs. PlaysAs t n xs in subst P (sym (append-nil es)) plays
  plays_picked (Wait what) Stopped a legal p = absurd a
  plays_picked Stop (Replied reply) a legal p = absurd a
  plays_picked Stop Waited a legal p = absurd a
  plays_picked Stop Stopped a legal p = let P : List Entry → Type 0 = λ xs. PlaysAs t n xs in subst P (sym (append-nil es)) plays

-- no line is a Halt
halt_same : (lines : List Line) (l : Line) (xs ys : List Entry) (b : Bool) → is_halt_kind (if b then bare_wait_end else resolved lines xs l).kind ≡ is_halt_kind (if b then bare_wait_end else resolved lines ys l).kind
halt_same lines l xs ys true = refl
halt_same lines l xs ys false = refl

module _ (t : TraceValue) (is : IsTrace t) (s : SessionValue) (of : s.trace ≡ t) (n : ℕ) (below : n < t.threads) (es learned : List Entry) (known : Knows learned s) (own_same : of_number n learned ≡ of_number n es) where
  quiet_line : (l : Line) → next_line t.lines es n ≡ Some l → is_halt_kind (next_call t.lines es n l).kind ≡ false
  quiet_line l next =
      let T : TraceValue → Type 0 = λ u. IsTrace u in
      let L : TraceValue → Type 0 = λ u. is_halt_kind (next_call u.lines learned n l).kind ≡ false in
      let there : next_line s.trace.lines learned n ≡ Some l = ap (λ (u : TraceValue). next_line u.lines learned n) of ∙ same_next learned es n own_same t.lines ∙ next in
      let quiet : is_halt_kind (next_call t.lines learned n l).kind ≡ false =
      subst L of (no_halt_known s (facts_of s.trace (subst T (sym of) is)) learned known n l (subst (λ (u : TraceValue). n < u.threads) (sym of) below) there) in
      let begun : has_begun es n ≡ has_begun learned n = ap (λ (o : Option Entry). is_some o) (sym (same_begun learned es n own_same)) in
      ap (λ (b : Bool). is_halt_kind (if b then bare_wait_end else resolved t.lines es l).kind) begun ∙ halt_same t.lines l es learned (has_begun learned n) ∙ quiet

  pub calm_picked : (own : List Entry) (x : State) (k : Pick) (r : Picked) → IsPickOf t es x n k → are_halted own ≡ false → are_halted (own ++ picked_entries n k r) ≡ false
  calm_picked own x (Call mark call) (Replied reply) (l, next, goes, at, is_call) calm =
      let last : is_halt_kind call.kind ≡ false = ap (λ (c : CallValue). is_halt_kind c.kind) is_call ∙ quiet_line l next in
      list_any-append is_halt own (entry n mark call reply ∷ []) ∙ or_none (are_halted own) _ calm (or_none (is_halt_kind call.kind) false last refl)
  calm_picked own x (Call mark call) Waited p calm = ap are_halted (append-nil own) ∙ calm
  calm_picked own x (Call mark call) Stopped p calm = ap are_halted (append-nil own) ∙ calm
  calm_picked own x (Wait what) r p calm = ap are_halted (append-nil own) ∙ calm
  calm_picked own x Stop r p calm = ap are_halted (append-nil own) ∙ calm

-- ---- A turn.
-- what came of a picker's look in a turn
abbrev pub Turned : State → Token → LinePicker → Picked → LinePicker → Token → Type 0
Turned o u p r q v = (es : List Entry) × (d : Machine) × (k : Pick) × IsSeenAtTurn o u es d × Picks p es d k q × ComesOf u es k r v

-- in a turn a picker may look: it knows its own entries, and others' as far as it has looked
pub may_look : (u : Token) (p : LinePicker) (t : TraceValue) (n : ℕ) → u.number ≡ n → p.thread ≡ n → p.session.trace ≡ t → n < t.threads → KnowsOwn p p.answered (mine u) u.seen → (es : List Entry) (d : Machine) → IsAtTurn u es → u.number < d.made → MayLook p es d
may_look u p t n same own of below h es d (between, others, is) made = record {
  learnt =
      let P : List Entry → Type 0 = λ xs. KnowsOwn p p.answered (of_number p.thread xs) xs in
      let none : of_others p.thread between = not_owned u p.thread between (inl (own ∙ sym same)) others in
      let whole : mine u ≡ of_number p.thread ((u.seen ++ between) ++ u.tail) =
      ap (λ m. of_number m (u.seen ++ u.tail)) (same ∙ sym own) ∙ of_number-append p.thread u.seen u.tail ∙ ap (λ l. l ++ of_number p.thread u.tail) (sym (of_number-past p.thread u.seen between none))
      ∙ sym (of_number-append p.thread (u.seen ++ between) u.tail) in
      let longer : KnowsOwn p p.answered (of_number p.thread ((u.seen ++ between) ++ u.tail)) (u.seen ++ (between ++ u.tail)) = knows_longer p p.answered (mine u) (of_number p.thread ((u.seen ++ between) ++ u.tail)) u.seen (between ++ u.tail) whole h in
      let Q : List Entry → Type 0 = λ xs. KnowsOwn p p.answered (of_number p.thread ((u.seen ++ between) ++ u.tail)) xs in
      subst P (sym is) (subst Q (sym (append_assoc u.seen between u.tail)) longer);
  thread = let Q : TraceValue → Type 0 = λ x. p.thread < x.threads in subst Q (sym of) (subst (λ m. m < t.threads) (sym own) below);
  made = subst (λ m. m < d.made) (same ∙ sym own) made;
}

over_by : (t : TraceValue) (es seen : List Entry) (n : ℕ) (k : Pick) (r : Picked) → IsAnswer k r → r ≡ Stopped → IsPickOf t es (state_behind t es) n k → seen ≡ es ++ picked_entries n k r → IsOver t seen (state_behind t seen) n
over_by t es seen n Stop Stopped a e p h = let P : List Entry → Type 0 = λ xs. IsOver t xs (state_behind t xs) n in subst P (sym (h ∙ append-nil es)) p
over_by t es seen n (Call mark call) Stopped a e p h = absurd a
over_by t es seen n (Wait what) Stopped a e p h = absurd a
over_by t es seen n k (Replied reply) a e p h = absurd (let f : Replied reply ≡ Stopped = e in cc)
over_by t es seen n k Waited a e p h = absurd (let f : Waited ≡ Stopped = e in cc)

-- what was picked is of the token's own
picked_own : (n : ℕ) (k : Pick) (r : Picked) → of_number n (picked_entries n k r) ≡ picked_entries n k r
picked_own n (Call mark call) (Replied reply) = of_own n (entry n mark call reply) refl
picked_own n (Call mark call) Waited = refl
picked_own n (Call mark call) Stopped = refl
picked_own n (Wait what) r = refl
picked_own n Stop r = refl

none_waited : (n : ℕ) (k : Pick) (r : Picked) → r ≡ Waited → picked_entries n k r ≡ []
none_waited n (Call mark call) (Replied reply) e = absurd (let f : Replied reply ≡ Waited = e in cc)
none_waited n (Call mark call) Waited e = refl
none_waited n (Call mark call) Stopped e = refl
none_waited n (Wait what) r e = refl
none_waited n Stop r e = refl

-- a call that was answered is that of a line, and its entry is that line's
abbrev pub IsOfLine : TraceValue → List Entry → ℕ → ReplyValue → List Entry → Type 0
IsOfLine t es n reply more = (l : Line) × (next_line t.lines es n ≡ Some l) × (entry n l.number (next_call t.lines es n l) reply ∷ [] ≡ more)

line_by : (t : TraceValue) (es : List Entry) (s : State) (n : ℕ) (reply : ReplyValue) (k : Pick) (r : Picked) → r ≡ Replied reply → IsAnswer k r → IsPickOf t es s n k → IsOfLine t es n reply (picked_entries n k r)
line_by t es s n reply (Call mark call) (Replied other) e a (l, next, goes, at, is) =
    let same : reply ≡ other = (let f : Replied other ≡ Replied reply = e in (let g : other ≡ reply = cc in sym g)) in
    (l, next, ap (λ (m : ℕ). entry n m (next_call t.lines es n l) reply ∷ []) (sym at) ∙ ap (λ (c : CallValue). entry n mark c reply ∷ []) (sym is) ∙ ap (λ (x : ReplyValue). entry n mark call x ∷ []) same)
line_by t es s n reply k Waited e a p = absurd (let f : Waited ≡ Replied reply = e in cc)
line_by t es s n reply k Stopped e a p = absurd (let f : Stopped ≡ Replied reply = e in cc)
line_by t es s n reply (Wait what) (Replied other) e a p = absurd a
line_by t es s n reply Stop (Replied other) e a p = absurd a

module _ (t : TraceValue) (is : IsTrace t) (o : State) (opens : o ≡ opening t.windows t.video) (n : ℕ) (below : n < t.threads) (u v : Token) (p q : LinePicker) (r : Picked)
    (same : u.number ≡ n) (plays : PlaysAs t n u.seen) (lone : PlayLone t n u.seen u.tail) (calm : are_halted (mine u) ≡ false) (own : p.thread ≡ n) (of : p.session.trace ≡ t) (turn : Turned o u p r q v) where
  abbrev es : List Entry
  es = turn.0

  abbrev picked : Pick
  picked = turn.2

  abbrev more : List Entry
  more = picked_entries n picked r

  abbrev between : List Entry
  between = turn.3.at_turn.0

  others : of_others n between
  others = not_owned u n between (inl (sym same)) turn.3.at_turn.1

  seen_is : v.seen ≡ es ++ more
  seen_is = turn.5.seen ∙ ap (λ m. es ++ picked_entries m picked r) same

  pick_is : IsPickOf t es (state_behind t es) n picked
  pick_is =
      let T : TraceValue → Type 0 = λ x. IsPickOf x es turn.1.state p.thread picked in
      let N : ℕ → Type 0 = λ x. IsPickOf t es turn.1.state x picked in
      let S : State → Type 0 = λ x. IsPickOf t es x n picked in
      let there : IsPickOf t es (hide (outs turn.1.away) (replay_from o es)) n picked = subst S turn.3.driver (subst N own (subst T of turn.4.pick)) in
      let whole : IsPickOf t es (replay_from o es) n picked = pick_same t es (hide (outs turn.1.away) (replay_from o es)) (replay_from o es) (ready_hidden (outs turn.1.away) (replay_from o es)) n picked there in
      subst S (ap (λ s. replay_from s es) opens) whole

  learnt_turn : HasLearnt q (of_number q.thread es) es
  learnt_turn = learnt_of p q es turn.4.thread turn.4.learnt

  owner : q.thread ≡ n
  owner = turn.4.thread ∙ own

  own_learnt : of_number n learnt_turn.learned ≡ of_number n es
  own_learnt = let P : ℕ → Type 0 = λ m. of_number m learnt_turn.learned ≡ of_number m es in subst P owner learnt_turn.mine

  pub turn_calm : are_halted (mine v) ≡ false
  turn_calm =
      ap are_halted (turn.5.own ∙ ap (λ m. mine u ++ picked_entries m picked r) same)
      ∙ calm_picked t is q.session (turn.4.trace ∙ of) n below es learnt_turn.learned learnt_turn.knows own_learnt (mine u) (state_behind t es) picked r pick_is calm

  pub turn_over : r ≡ Stopped → IsOver t v.seen (state_behind t v.seen) n
  turn_over e = over_by t es v.seen n picked r turn.5.answer e pick_is seen_is

  -- what the token has seen is legal, so what it saw in its turn is
  module _ (done : v.tail ≡ []) (legal : IsLegalFrom o (v.seen ++ v.tail)) where
    legal_all : IsLegalFrom (opening t.windows t.video) (es ++ more)
    legal_all =
        let O : State → Type 0 = λ s. IsLegalFrom s (es ++ more) in
        let L : List Entry → Type 0 = λ xs. IsLegalFrom o xs in
        let whole : v.seen ++ v.tail ≡ es ++ more = ap (λ xs. v.seen ++ xs) done ∙ append-nil v.seen ∙ seen_is in
        subst O opens (subst L whole legal)

    plays_there : PlaysAs t n es
    plays_there =
        let P : List Entry → Type 0 = λ xs. PlaysAs t n xs in
        let L : List Entry → Type 0 = λ xs. IsLegalFrom (opening t.windows t.video) xs in
        let past : PlaysAs t n (u.seen ++ between) = plays_past t n u.seen between others plays in
        let front : IsLegalFrom (opening t.windows t.video) ((u.seen ++ between) ++ u.tail) = subst L turn.3.at_turn.2 (legal_front (opening t.windows t.video) es more legal_all) in
        subst P (sym turn.3.at_turn.2) (hand_in t is n below u.seen (u.seen ++ between) u.tail (sym (of_number-past n u.seen between others)) lone past front)

    pub turn_plays : PlaysAs t n v.seen
    turn_plays =
        let P : List Entry → Type 0 = λ xs. PlaysAs t n xs in
        subst P (sym seen_is) (plays_picked t is n below es plays_there picked r turn.5.answer legal_all pick_is)

  -- its own entries are those of the turn, and what was picked
  own_there : of_number q.thread es ≡ mine u
  own_there =
      ap (λ m. of_number m es) (turn.4.thread ∙ own) ∙ ap (of_number n) turn.3.at_turn.2 ∙ of_number-append n (u.seen ++ between) u.tail
      ∙ ap (λ l. l ++ of_number n u.tail) (of_number-past n u.seen between others) ∙ sym (of_number-append n u.seen u.tail) ∙ ap (λ m. of_number m (u.seen ++ u.tail)) (sym same)

  own_now : of_number q.thread es ++ more ≡ mine v
  own_now = ap (λ l. l ++ more) own_there ∙ sym (turn.5.own ∙ ap (λ m. mine u ++ picked_entries m picked r) same)

  -- nothing was added: the picker knows all its own
  pub turn_learnt : r ≡ Waited → HasLearnt q (mine v) v.seen
  turn_learnt e =
      let P : List Entry → Type 0 = λ xs. HasLearnt q (mine v) xs in
      let unchanged : of_number q.thread es ≡ mine v = sym (append-nil (of_number q.thread es)) ∙ sym (ap (λ l. of_number q.thread es ++ l) (none_waited n picked r e)) ∙ own_now in
      subst P (sym seen_is) (learnt_longer q (of_number q.thread es) (mine v) es more unchanged learnt_turn)

  -- a call was answered: it is that of the line where the picker's thread is
  pub turn_line : (reply : ReplyValue) → r ≡ Replied reply → IsSome (line_at q.session q.thread)
  turn_line reply e =
      let many : q.session.trace.threads ≡ t.threads = ap (λ (x : TraceValue). x.threads) (turn.4.trace ∙ of) in
      let lt : q.thread < q.session.trace.threads = omega (arith, turn.4.thread, own, many, below) in
      ap (λ (o : Option Line). is_some o) (own_line q es learnt_turn lt)
      ∙ ap (λ (x : TraceValue). is_some (next_line x.lines es q.thread)) (turn.4.trace ∙ of)
      ∙ ap (λ (m : ℕ). is_some (next_line t.lines es m)) owner
      ∙ ap (λ (o : Option Line). is_some o) (line_by t es (state_behind t es) n reply picked r e turn.5.answer pick_is).1

  -- a call was answered, and the picker was told
  module _ (reply : ReplyValue) (e : r ≡ Replied reply) (w : LinePicker) (thread : w.thread ≡ q.thread) (place : w.learnt ≡ q.learnt) (halted : w.halted ≡ q.halted)
      (told : (xs : List Entry) (l : Line) → Knows xs q.session → next_line q.session.trace.lines xs q.thread ≡ Some l → Knows (xs ++ entry q.thread l.number (next_call q.session.trace.lines xs q.thread l) reply ∷ []) w.session) where
    of_line : IsOfLine t es n reply more
    of_line = line_by t es (state_behind t es) n reply picked r e turn.5.answer pick_is

    next_here : next_line q.session.trace.lines es q.thread ≡ Some of_line.0
    next_here = ap (λ (x : TraceValue). next_line x.lines es q.thread) (turn.4.trace ∙ of) ∙ ap (next_line t.lines es) owner ∙ of_line.1

    entry_here : entry q.thread of_line.0.number (next_call q.session.trace.lines es q.thread of_line.0) reply ∷ [] ≡ more
    entry_here =
        ap (λ (x : TraceValue). entry q.thread of_line.0.number (next_call x.lines es q.thread of_line.0) reply ∷ []) (turn.4.trace ∙ of)
        ∙ ap (λ (m : ℕ). entry m of_line.0.number (next_call t.lines es m of_line.0) reply ∷ []) owner ∙ of_line.2

    -- it had learnt all, or the line waits for nobody
    told_behind : (q.learnt ≡ length es) ⊎ ((l : Line) → next_line p.session.trace.lines es p.thread ≡ Some l → IsLone p.session.trace es p.thread l) → HasLearnt w (mine v) (es ++ more)
    told_behind (inl all) =
        let K : List Entry → Type 0 = λ xs. Knows (es ++ xs) w.session in
        let knows : Knows (es ++ more) w.session = subst K entry_here (told es of_line.0 (knows_all q es all learnt_turn) next_here) in
        learnt_told q w es more (mine v) all learnt_turn thread place halted knows (sym (ap (λ m. of_number m more) owner ∙ picked_own n picked r)) own_now
    told_behind (inr lone) =
        let l : Line = of_line.0 in
        let T : TraceValue → Type 0 = λ y. IsLone y es p.thread l in
        let N : ℕ → Type 0 = λ m. IsLone q.session.trace es m l in
        let next : next_line p.session.trace.lines es p.thread ≡ Some l = ap (λ (x : TraceValue). next_line x.lines es p.thread) of ∙ ap (next_line t.lines es) own ∙ of_line.1 in
        let here : IsLone q.session.trace es q.thread l = subst N (sym turn.4.thread) (subst T (sym turn.4.trace) (lone l next)) in
        let P : List Entry → Type 0 = λ xs. HasLearnt w (of_number q.thread es ++ xs) (es ++ xs) in
        let M : List Entry → Type 0 = λ xs. HasLearnt w xs (es ++ more) in
        subst M own_now (subst P entry_here (lone_told q w es l reply learnt_turn here thread place halted told))

    pub turn_told : HasLearnt w (mine v) v.seen
    turn_told = let P : List Entry → Type 0 = λ xs. HasLearnt w (mine v) xs in subst P (sym seen_is) (told_behind turn.4.enough)

-- ---- A thread that gives up.
pub gave_up : (t : TraceValue) → IsTrace t → (o : State) → o ≡ opening t.windows t.video → (u v : Token) (n : ℕ) → n < t.threads → u.number ≡ n → PlaysAs t n u.seen → PlayLone t n u.seen u.tail → IsLegalFrom o (v.seen ++ v.tail) → Halts u v → GaveUp t n v.seen
gave_up t is o opens u v n below same p lone legal (r, (between, others, seen, none), own) =
    let before : List Entry = (u.seen ++ between) ++ u.tail in
    let last : List Entry = entry u.number 0 halt_call r ∷ [] in
    let apart : of_others n between = not_owned u n between (inl (sym same)) others in
    let past : PlaysAs t n (u.seen ++ between) = plays_past t n u.seen between apart p in
    let O : State → Type 0 = λ s. IsLegalFrom s (before ++ last) in
    let L : List Entry → Type 0 = λ xs. IsLegalFrom o xs in
    let whole : v.seen ++ v.tail ≡ before ++ last = ap (λ xs. v.seen ++ xs) none ∙ append-nil v.seen ∙ seen in
    let front : IsLegalFrom (opening t.windows t.video) before = legal_front (opening t.windows t.video) before last (subst O opens (subst L whole legal)) in
    (before, r, seen ∙ ap (λ m. before ++ entry m 0 halt_call r ∷ []) same, hand_in t is n below u.seen (u.seen ++ between) u.tail (sym (of_number-past n u.seen between apart)) lone past front)
