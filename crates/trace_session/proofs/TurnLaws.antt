-- A thread's turn, and the next turn of a run.
use Rattle.std.proofs.Common.{◌≡◌, ℕ, true, false, List, [], ◌∷◌, ◌++◌, refl, sym, ap, ◌∙◌, subst, Option, None, Some}
use Rattle.std.specs.Prelude.{find, is_some}
use Rattle.std.specs.List.{range_with_len}
use Rattle.std.specs.Option.{option_map}
use Rattle.egl_calls.specs.Calls.{CallValue, ReplyValue}
use Rattle.egl_calls.specs.declared.entries.Entry.{Entry}
use Rattle.egl_model.specs.State.{State, opening}
use Rattle.egl_model.specs.Step.{step}
use Rattle.trace_reader.specs.declared.traces.Line.{Line}
use Rattle.trace_reader.specs.Traces.{TraceValue}
use Rattle.trace_model.specs.Turns.{next_line, is_able}
use Rattle.trace_model.specs.Serial.{state_behind, next_thread, next_call, entry_of, turn_of, turn_by, next_entry}
use Rattle.trace_model.proofs.SerialLaws.{state_more}
use Rattle.trace_model.proofs.TurnLaws.{found_thread}
use Rattle.trace_model.proofs.OutcomeLaws.{no_entry, able_has_line}
use Rattle.trace_session.specs.Sessions.{SessionValue, Knows}
use Rattle.trace_session.specs.Runs.{IsTurn, StandBehind}

-- ---- One turn, by its parts.
made_by : (t : TraceValue) (journal : List Entry) (thread mark : ℕ) (s s' : State) (call : CallValue) (reply : ReplyValue) (o : Option Line) → next_line t.lines journal thread ≡ o → option_map (λ l. l.number) o ≡ Some mark
    → ((l : Line) → next_line t.lines journal thread ≡ Some l → call ≡ next_call t.lines journal thread l) → reply ≡ (step s thread call).reply → s' ≡ (step s thread call).state
    → IsTurn t journal thread s (record { thread = thread; mark = mark; call = call; reply = reply }) s'
made_by t journal thread mark s s' call reply None n m c r h = absurd (let f : None ≡ Some mark = m in cc)
made_by t journal thread mark s s' call reply (Some l) n m c r h =
    let same : l.number ≡ mark = cc in
    let is : call ≡ next_call t.lines journal thread l = c l n in
    record {
      line = l;
      next = n;
      is =
          ap (λ (x : ReplyValue). record { thread = thread; mark = mark; call = call; reply = x }) r
          ∙ ap (λ (x : ℕ). record { thread = thread; mark = x; call = call; reply = (step s thread call).reply }) (sym same)
          ∙ ap (entry_of s thread l) is;
      state = h ∙ ap (λ (x : CallValue). (step s thread x).state) is;
    }

pub turn_made : (t : TraceValue) (journal : List Entry) (thread mark : ℕ) (s s' : State) (call : CallValue) (reply : ReplyValue) → option_map (λ l. l.number) (next_line t.lines journal thread) ≡ Some mark
    → ((l : Line) → next_line t.lines journal thread ≡ Some l → call ≡ next_call t.lines journal thread l) → reply ≡ (step s thread call).reply → s' ≡ (step s thread call).state
    → IsTurn t journal thread s (record { thread = thread; mark = mark; call = call; reply = reply }) s'
turn_made t journal thread mark s s' call reply m c r h = made_by t journal thread mark s s' call reply (next_line t.lines journal thread) refl m c r h

-- ---- The next turn.
-- a line that is there has a number
line_there : (o : Option Line) → is_some o ≡ true → None ≡ option_map (λ l. l.number) o → ⊥
line_there None h n = let f : false ≡ true = h in cc
line_there (Some l) h n = let f : None ≡ Some l.number = n in cc

module _ (t : TraceValue) (journal : List Entry) (s : State) (same : s ≡ state_behind t journal) where
  -- the thread that is found is the next
  thread_is : (found : Option ℕ) → found ≡ find (is_able t.lines journal s) (range_with_len 0 t.threads) → next_thread t journal ≡ found
  unfolding next_thread
  thread_is found h = ap (λ (x : State). find (is_able t.lines journal x) (range_with_len 0 t.threads)) (sym same) ∙ sym h

  -- where none is found, none comes next
  pub none_next : (found : Option ℕ) → found ≡ find (is_able t.lines journal s) (range_with_len 0 t.threads) → found ≡ None → None ≡ next_entry t journal
  none_next found h n = sym (no_entry t journal (thread_is found h ∙ n))

  -- and one that is found has a line
  pub has_number : (found : Option ℕ) (thread : ℕ) → found ≡ find (is_able t.lines journal s) (range_with_len 0 t.threads) → found ≡ Some thread → None ≡ option_map (λ l. l.number) (next_line t.lines journal thread) → ⊥
  has_number found thread h f n =
      let i = found_thread t journal thread (thread_is found h ∙ f) in
      line_there (next_line t.lines journal thread) (able_has_line t.lines journal (state_behind t journal) thread i.passes) n

  module _ (thread : ℕ) (e : Entry) (s' : State) (i : IsTurn t journal thread s e s') where
    abbrev call : CallValue
    call = next_call t.lines journal thread i.line

    -- a thread's turn is its entry
    pub turn_is : turn_of t journal thread (next_line t.lines journal thread) ≡ Some e
    turn_is =
        ap (turn_of t journal thread) i.next
        ∙ ap (λ (x : State). Some (entry_of x thread i.line call)) (sym same)
        ∙ ap Some (sym i.is)

    -- and comes next where that thread is found
    pub next_is : (found : Option ℕ) → found ≡ find (is_able t.lines journal s) (range_with_len 0 t.threads) → found ≡ Some thread → Some e ≡ next_entry t journal
    unfolding next_entry
    next_is found h f = sym (ap (turn_by t journal) (thread_is found h ∙ f) ∙ turn_is)

    -- the state behind it
    pub state_on : s' ≡ state_behind t (journal ++ e ∷ [])
    state_on =
        i.state
        ∙ ap (λ (x : State). (step x thread call).state) same
        ∙ sym (state_more t journal (entry_of s thread i.line call))
        ∙ ap (λ (x : Entry). state_behind t (journal ++ x ∷ [])) (sym i.is)

-- ---- What stands behind a journal.
-- before the first turn
pub stand_first : (t : TraceValue) (journal : List Entry) (s : State) (session : SessionValue) → journal ≡ [] → session.trace ≡ t → s ≡ opening t.windows t.video → Knows [] session → StandBehind journal s session
stand_first t journal s session none same first knows =
    let P : List Entry → Type 0 = λ es. StandBehind es s session in
    subst P (sym none) (record { knows = knows; state = first ∙ ap (λ (x : TraceValue). opening x.windows x.video) (sym same) })

-- and behind one turn more
pub stand_on : (t : TraceValue) (journal : List Entry) (s : State) (session : SessionValue) → session.trace ≡ t → Knows journal session → s ≡ state_behind t journal → StandBehind journal s session
stand_on t journal s session same knows state = record { knows = knows; state = state ∙ ap (λ (x : TraceValue). state_behind x journal) (sym same) }
