-- What a worker's token and picker are behind some lines that it played in one turn.
use Rattle.std.proofs.Common.{◌≡◌, ℕ, zero, suc, ◌<◌, true, false, List, [], ◌∷◌, ◌++◌, refl, sym, ap, ◌∙◌, subst, Some, inl}
use Rattle.std.proofs.lemmas.List.{append-nil}
use Rattle.std.specs.Prelude.{IsSome}
use Rattle.egl_calls.specs.Calls.{ReplyValue}
use Rattle.egl_calls.specs.Journals.{are_halted}
use Rattle.egl_calls.specs.declared.entries.Entry.{Entry}
use Rattle.egl_model.specs.State.{State, opening}
use Rattle.egl_model.specs.History.{IsLegalFrom}
use Rattle.driver_core.specs.Machine.{Machine}
use Rattle.trace_reader.specs.declared.traces.Line.{Line}
use Rattle.trace_reader.specs.Traces.{TraceValue}
use Rattle.trace_reader.specs.Order.{IsTrace}
use Rattle.trace_model.specs.Follows.{PlaysAs}
use Rattle.trace_model.specs.Serial.{next_call, state_behind}
use Rattle.trace_model.specs.Turns.{next_line}
use Rattle.trace_session.specs.Sessions.{Knows, line_at}
use Rattle.shared_driver.specs.Cores.{entry, of_number}
use Rattle.shared_driver.specs.Picks.{IsAtTurn, IsSeenAtTurn}
use Rattle.shared_driver.specs.Runs.{AreTokenRounds, IsTokenRound}
use Rattle.shared_driver.specs.Tokens.{Goes, IsSame, Token, mine}
use Rattle.shared_driver.specs.declared.picks.Pick.TheVariants.{Call}
use Rattle.shared_driver.specs.declared.picks.Picked.{Picked}
use Rattle.shared_driver.specs.declared.picks.Picked.TheVariants.{Replied, Waited, Stopped}
use Rattle.play_threads.specs.declared.pickers.LinePicker.{LinePicker}
use Rattle.play_threads.specs.Picks.{HasLearnt, IsOver, IsTold, KnowsOwn, MayLook, Picks}
use Rattle.play_threads.specs.Work.{PlayLone}
use Rattle.play_threads.proofs.PickLaws.{knows_none, learnt_of, learnt_same, of_number-append, of_number-past, of_others, of_own}
use Rattle.play_threads.proofs.WorkLaws.{Turned, handed_in, legal_front, lone_as, may_look, none_lone, not_owned, turn_calm, turn_learnt, turn_line, turn_over, turn_plays, turn_told}

-- a call in a turn, and so many
abbrev pub Round : State → Token → LinePicker → Token → LinePicker → Type 0
Round o u p v q = IsTokenRound (λ p es d k q. Picks p es d k q) (λ p r q. q ≡ record p { answered = true }) o u p v q

abbrev pub Rounds : State → ℕ → Token → LinePicker → Token → LinePicker → Type 0
Rounds o k u p v q = AreTokenRounds (λ p es d k q. Picks p es d k q) (λ p r q. q ≡ record p { answered = true }) o k u p v q

-- the thread n of a trace has played its lines, as far as its token has seen and keeps them, and its picker knows them
pub record Stands (t : TraceValue) (n : ℕ) (u : Token) (p : LinePicker) : Type 0 where
  pub same : u.number ≡ n
  pub plays : PlaysAs t n u.seen
  pub lone : PlayLone t n u.seen u.tail
  pub calm : are_halted (mine u) ≡ false
  pub own : p.thread ≡ n
  pub of : p.session.trace ≡ t
  pub known : KnowsOwn p p.answered (mine u) u.seen

-- behind lines that it played without a turn
pub stands_by : (t : TraceValue) (n : ℕ) (w u : Token) (p q : LinePicker) → w.number ≡ n → PlaysAs t n w.seen → PlayLone t n w.seen w.tail → are_halted (mine w) ≡ false → p.thread ≡ n → p.session.trace ≡ t → p.answered ≡ false
    → IsSame w u × (u.seen ≡ w.seen) → (q.thread ≡ p.thread) × (q.session.trace ≡ p.session.trace) → q.answered ≡ p.answered → (PlayLone p.session.trace p.thread w.seen w.tail → PlayLone p.session.trace p.thread u.seen u.tail)
    → (are_halted (mine w) ≡ false → are_halted (mine u) ≡ false) → HasLearnt q (mine u) u.seen → Stands t n u q
stands_by t n w u p q same plays lone calm own of none moved picker told lones calms learnt = record {
  same = moved.0.0 ∙ same;
  plays = let P : List Entry → Type 0 = λ es. PlaysAs t n es in subst P (sym moved.1) plays;
  lone = lone_as p.session.trace t p.thread n w.seen w.tail u.seen u.tail of own lones lone;
  calm = calms calm;
  own = picker.0 ∙ own;
  of = picker.1 ∙ of;
  known = knows_none q q.answered (mine u) u.seen (told ∙ none) learnt;
}

-- what a token has seen before its turn is legal where its turn's journal is
pub seen_legal : (o : State) (u : Token) (es : List Entry) → IsAtTurn u es → IsLegalFrom o es → IsLegalFrom o u.seen
seen_legal o u es (between, others, is) legal =
    let L : List Entry → Type 0 = λ xs. IsLegalFrom o xs in
    legal_front o u.seen between (legal_front o (u.seen ++ between) u.tail (subst L is legal))

-- and where what it has seen behind its turn is
pub handed_legal : (o : State) (u v : Token) → Goes u [] v → IsLegalFrom o (v.seen ++ v.tail) → IsLegalFrom o u.seen
handed_legal o u v (between, others, seen, done) legal =
    let L : List Entry → Type 0 = λ xs. IsLegalFrom o xs in
    let all : IsLegalFrom o ((u.seen ++ between) ++ u.tail) = subst L (seen ∙ append-nil ((u.seen ++ between) ++ u.tail)) (legal_front o v.seen v.tail legal) in
    legal_front o u.seen between (legal_front o (u.seen ++ between) u.tail all)

-- ---- One line.
module _ (o : State) (u v : Token) (p q : LinePicker) (d : Round o u p v q) where
  abbrev between : List Entry
  between = d.seen.at_turn.0

  apart : of_others u.number between
  apart = not_owned u u.number between (inl refl) d.seen.at_turn.1

  abbrev e : Entry
  e = entry u.number d.mark d.call d.reply

  own_there : of_number u.number d.entries ≡ mine u
  own_there =
      ap (of_number u.number) d.seen.at_turn.2 ∙ of_number-append u.number (u.seen ++ between) u.tail
      ∙ ap (λ (l : List Entry). l ++ of_number u.number u.tail) (of_number-past u.number u.seen between apart) ∙ sym (of_number-append u.number u.seen u.tail)

  own_then : mine v ≡ mine u ++ e ∷ []
  own_then =
      ap mine d.now ∙ ap (of_number u.number) (append-nil (d.entries ++ e ∷ [])) ∙ of_number-append u.number d.entries (e ∷ [])
      ∙ ap (λ (l : List Entry). of_number u.number d.entries ++ l) (of_own u.number e refl) ∙ ap (λ (l : List Entry). l ++ e ∷ []) own_there

  pub turned : Turned o u p (Replied d.reply) d.asked v
  turned = (d.entries, d.machine, Call d.mark d.call, d.seen, d.picked, record { answer = tt; seen = ap (λ (x : Token). x.seen) d.now; own = own_then })

  pub none_left : v.tail ≡ []
  none_left = ap (λ (x : Token). x.tail) d.now

  module _ (own : p.thread ≡ u.number) where
    told_now : IsTold (record d.asked { answered = true }) (mine v) v.seen
    told_now =
        let w : LinePicker = record d.asked { answered = true } in
        let there : HasLearnt d.asked (of_number d.asked.thread d.entries) d.entries = learnt_of p d.asked d.entries d.picked.thread d.picked.learnt in
        record {
          before = d.entries;
          last = e;
          more = [];
          place = d.picked.asked;
          learnt = learnt_same d.asked w (of_number d.asked.thread d.entries) d.entries refl refl refl refl there;
          mine = sym (d.picked.thread ∙ own);
          own_now = own_then ∙ ap (λ (l : List Entry). l ++ e ∷ []) (sym own_there ∙ ap (λ (m : ℕ). of_number m d.entries) (sym (d.picked.thread ∙ own)));
          whole = ap (λ (x : Token). x.seen) d.now;
        }

    pub known_now : KnowsOwn q q.answered (mine v) v.seen
    known_now = let P : LinePicker → Type 0 = λ x. KnowsOwn x x.answered (mine v) v.seen in subst P (sym d.answered) told_now

-- ---- All of them.
module _ (t : TraceValue) (is : IsTrace t) (o : State) (opens : o ≡ opening t.windows t.video) (n : ℕ) (below : n < t.threads) where
  stands_then : (u v : Token) (p q : LinePicker) → Stands t n u p → (d : Round o u p v q) → IsLegalFrom o v.seen → Stands t n v q
  stands_then u v p q s d legal =
      let L : List Entry → Type 0 = λ xs. IsLegalFrom o xs in
      let turn = turned o u v p q d in
      let none = none_left o u v p q d in
      let whole : IsLegalFrom o (v.seen ++ v.tail) = subst L (sym (ap (λ (l : List Entry). v.seen ++ l) none ∙ append-nil v.seen)) legal in
      record {
        same = ap (λ (x : Token). x.number) d.now ∙ s.same;
        plays = turn_plays t is o opens n below u v p d.asked (Replied d.reply) s.same s.plays s.lone s.calm s.own s.of turn none whole;
        lone = none_lone t n v none;
        calm = turn_calm t is o opens n below u v p d.asked (Replied d.reply) s.same s.plays s.lone s.calm s.own s.of turn;
        own = ap (λ (x : LinePicker). x.thread) d.answered ∙ d.picked.thread ∙ s.own;
        of = ap (λ (x : LinePicker). x.session.trace) d.answered ∙ d.picked.trace ∙ s.of;
        known = known_now o u v p q d (s.own ∙ sym s.same);
      }

  pub stands_behind : (k : ℕ) (u v : Token) (p q : LinePicker) → Stands t n u p → Rounds o k u p v q → IsLegalFrom o v.seen → Stands t n v q
  stands_behind zero u v p q s rounds legal =
      let V : Token → Type 0 = λ x. Stands t n x q in
      let Q : LinePicker → Type 0 = λ x. Stands t n u x in
      subst V (sym rounds.0) (subst Q (sym rounds.1) s)
  stands_behind (suc k) u v p q s rounds legal =
      let w = rounds.0 in
      let d = rounds.3 in
      stands_then w v rounds.1 q (stands_behind k u w p rounds.1 s rounds.2 (seen_legal o w d.entries d.seen.at_turn d.seen.legal)) d legal

  -- so it may be asked for the next
  pub may_look_behind : (k : ℕ) (u v : Token) (p q : LinePicker) → Stands t n u p → Rounds o k u p v q → (es : List Entry) (d : Machine) → IsSeenAtTurn o v es d → MayLook q es d
  may_look_behind k u v p q s rounds es d seen =
      let b = stands_behind k u v p q s rounds (seen_legal o v es seen.at_turn seen.legal) in
      may_look v q t n b.same b.own b.of below b.known es d seen.at_turn seen.made

  -- ---- And then the turn's last pick.
  module _ (k : ℕ) (u b v : Token) (p a q : LinePicker) (s : Stands t n u p) (rounds : Rounds o k u p b a) (r : Picked) (turn : Turned o b a r q v) where
    behind : Stands t n b a
    behind = stands_behind k u b p a s rounds (seen_legal o b turn.0 turn.3.at_turn turn.3.legal)

    pub run_calm : are_halted (mine v) ≡ false
    run_calm = turn_calm t is o opens n below b v a q r behind.same behind.plays behind.lone behind.calm behind.own behind.of turn

    pub run_over : r ≡ Stopped → IsOver t v.seen (state_behind t v.seen) n
    run_over = turn_over t is o opens n below b v a q r behind.same behind.plays behind.lone behind.calm behind.own behind.of turn

    pub run_plays : v.tail ≡ [] → IsLegalFrom o (v.seen ++ v.tail) → PlaysAs t n v.seen
    run_plays = turn_plays t is o opens n below b v a q r behind.same behind.plays behind.lone behind.calm behind.own behind.of turn

    pub run_learnt : r ≡ Waited → HasLearnt q (mine v) v.seen
    run_learnt = turn_learnt t is o opens n below b v a q r behind.same behind.plays behind.lone behind.calm behind.own behind.of turn

    pub run_line : (reply : ReplyValue) → r ≡ Replied reply → IsSome (line_at q.session q.thread)
    run_line = turn_line t is o opens n below b v a q r behind.same behind.plays behind.lone behind.calm behind.own behind.of turn

    pub run_told : (reply : ReplyValue) → r ≡ Replied reply → (w : LinePicker) → w.thread ≡ q.thread → w.learnt ≡ q.learnt → w.halted ≡ q.halted
        → ((xs : List Entry) (l : Line) → Knows xs q.session → next_line q.session.trace.lines xs q.thread ≡ Some l → Knows (xs ++ entry q.thread l.number (next_call q.session.trace.lines xs q.thread l) reply ∷ []) w.session)
        → HasLearnt w (mine v) v.seen
    run_told = turn_told t is o opens n below b v a q r behind.same behind.plays behind.lone behind.calm behind.own behind.of turn

    pub run_thread : (q.thread ≡ n) × (q.session.trace ≡ t)
    run_thread = (turn.4.thread ∙ behind.own, turn.4.trace ∙ behind.of)

  -- memory ran out behind them
  pub ran_out : (k : ℕ) (u b v : Token) (p a : LinePicker) → Stands t n u p → Rounds o k u p b a → Goes b [] v → mine v ≡ mine b → IsLegalFrom o (v.seen ++ v.tail) → PlaysAs t n v.seen × (are_halted (mine v) ≡ false)
  ran_out k u b v p a s rounds goes own legal =
      let d = stands_behind k u b p a s rounds (handed_legal o b v goes legal) in
      (handed_in t is n below o opens b v d.same d.plays d.lone legal goes, ap are_halted own ∙ d.calm)
