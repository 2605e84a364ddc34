-- A run by turns whose entries are written as they are played.
use Rattle.std.proofs.Common.{◌≡◌, ℕ, suc, List, [], ◌∷◌, ◌++◌, sym, ap, ◌∙◌, append_assoc, Option, None, Some}
use Rattle.std.proofs.lemmas.List.{append-nil}
use Rattle.std.specs.Prelude.{codes}
use Rattle.egl_calls.specs.declared.entries.Entry.{Entry}
use Rattle.egl_model.specs.State.{State}
use Rattle.trace_reader.specs.Traces.{TraceValue}
use Rattle.trace_model.specs.Recording.{entry_line, entry_lines, recording_of, recording}
use Rattle.trace_model.specs.Serial.{state_behind, next_entry, played, most_turns, serial}
use Rattle.trace_session.specs.Sessions.{SessionValue}
use Rattle.trace_session.specs.Runs.{StandBehind}
use Rattle.trace_session.proofs.RunLaws.{played_none, played_one}
use Rattle.journal_text.specs.Rests.{rest_text}
use Rattle.trace_check.proofs.HoldsLaws.{lines_more, recording_is}

-- on the way through a run: some entries were played and written behind other text, and with so many turns left it comes to its end
pub record Writes (t : TraceValue) (session : SessionValue) (s : State) (left : ℕ) (before text : List ℕ) : Type 0 where
  pub journal : List Entry
  pub behind : StandBehind journal s session
  pub plays : played left t journal ≡ serial t
  pub written : text ≡ before ++ entry_lines journal

pub writes_none : (t : TraceValue) (session : SessionValue) (s : State) (left : ℕ) (text : List ℕ) → StandBehind [] s session → left ≡ most_turns t → Writes t session s left text text
unfolding serial entry_lines
writes_none t session s left text b h = record { journal = []; behind = b; plays = ap (λ (n : ℕ). played n t []) h; written = sym (append-nil text) }

module _ (t : TraceValue) (session : SessionValue) (s : State) (left : ℕ) (before text : List ℕ) (w : Writes t session s left before text) where
  -- one entry more
  pub writes_more : (session' : SessionValue) (s' : State) (left' : ℕ) (text' : List ℕ) (e : Entry) → left ≡ suc left' → Some e ≡ next_entry t w.journal → StandBehind (w.journal ++ e ∷ []) s' session' → text' ≡ text ++ (entry_line e ++ codes "\n") → Writes t session' s' left' before text'
  writes_more session' s' left' text' e n h b p = record {
    journal = w.journal ++ e ∷ [];
    behind = b;
    plays = sym (played_one t w.journal left' e (sym h)) ∙ sym (ap (λ (k : ℕ). played k t w.journal) n) ∙ w.plays;
    written =
        p
        ∙ ap (λ (x : List ℕ). x ++ (entry_line e ++ codes "\n")) w.written
        ∙ append_assoc before (entry_lines w.journal) (entry_line e ++ codes "\n")
        ∙ ap (λ (x : List ℕ). before ++ x) (sym (lines_more w.journal e));
  }

  -- where none comes next, or no turn is left, it is the whole run
  pub none_more : (o : Option Entry) → o ≡ None → o ≡ next_entry t w.journal → w.journal ≡ serial t
  none_more o n h = sym (played_none t w.journal left (sym h ∙ n)) ∙ w.plays

  pub none_left : left ≡ 0 → w.journal ≡ serial t
  unfolding played
  none_left z = ap (λ (k : ℕ). played k t w.journal) (sym z) ∙ w.plays

  pub whole_text : w.journal ≡ serial t → text ≡ before ++ entry_lines (serial t)
  whole_text all = w.written ∙ ap (λ (es : List Entry). before ++ entry_lines es) all

-- the recording of a run, written piece by piece
pub recorded : (t : TraceValue) (session : SessionValue) (s : State) (out : List ℕ) → session.trace ≡ t → StandBehind (serial t) s session → (((out ++ codes "recording\n") ++ entry_lines (serial t)) ++ rest_text s) ++ codes "\n" ≡ out ++ recording t (serial t)
recorded t session s out same b =
    let es = serial t in
    let state : s ≡ state_behind t es = b.state ∙ ap (λ (x : TraceValue). state_behind x es) same in
    append_assoc ((out ++ codes "recording\n") ++ entry_lines es) (rest_text s) (codes "\n")
    ∙ append_assoc (out ++ codes "recording\n") (entry_lines es) (rest_text s ++ codes "\n")
    ∙ append_assoc out (codes "recording\n") (entry_lines es ++ (rest_text s ++ codes "\n"))
    ∙ ap (λ (x : List ℕ). out ++ x) (recording_is es s)
    ∙ ap (λ (x : State). out ++ recording_of es x) state
