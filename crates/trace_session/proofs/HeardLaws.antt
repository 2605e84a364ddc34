-- Entries that differ in calls which post the same tell a session the same.
use Rattle.std.proofs.Common.{◌≡◌, ℕ, Bool, true, false, not, ◌&&◌, ◌||◌, List, [], ◌∷◌, ◌++◌, refl, sym, ap, ◌∙◌, subst, is_some, Option, None, Some}
use Rattle.std.specs.Prelude.{◌==◌, find, if◌then◌else◌, Result, Ok, Err, IfOk, OnOk}
use Rattle.egl_calls.specs.declared.memory.NoMemory.{NoMemory}
use Rattle.std.specs.Option.{option_map, option_or}
use Rattle.egl_calls.specs.Calls.{CallValue, ReplyValue}
use Rattle.egl_calls.specs.Errors.{is_waiting}
use Rattle.egl_calls.specs.declared.entries.Entry.{Entry}
use Rattle.egl_model.specs.Arguments.{number}
use Rattle.egl_calls.specs.declared.places.TheConstants.{POSTED}
use Rattle.trace_reader.specs.declared.traces.Line.{Line}
use Rattle.trace_model.specs.Resolve.{answer_of, assigns, line_answer, resolved_by, variable_answer}
use Rattle.trace_model.specs.Turns.{bare_wait_end, has_begun, is_open, is_post, is_posted, last_entry, where_waiting}
use Rattle.trace_model.proofs.EntryLaws.{answer_of-append, is_posted-append, last_entry-append}
use Rattle.trace_session.specs.Answers.{PostAlike, answered_entry}
use Rattle.trace_session.specs.Sessions.{Knows, SessionValue, answer_in, kept_of}
use Rattle.trace_session.proofs.PlaceLaws.{same_first}

module _ (thread mark : ℕ) (c d : CallValue) (r : ReplyValue) (journal : List Entry) where
  abbrev first : List Entry
  first = journal ++ answered_entry thread mark c r ∷ []

  abbrev second : List Entry
  second = journal ++ answered_entry thread mark d r ∷ []

  same_answer : (t n : ℕ) → answer_of first t n ≡ answer_of second t n
  same_answer t n = answer_of-append journal (answered_entry thread mark c r) t n ∙ sym (answer_of-append journal (answered_entry thread mark d r) t n)

  waits_alike : (w : Bool) → is_some (if w then Some (answered_entry thread mark c r) else None) ≡ is_some (if w then Some (answered_entry thread mark d r) else None)
  waits_alike true = refl
  waits_alike false = refl

  last_alike : (own : Bool) (o : Option Entry) → is_some (where_waiting (option_or (if own then Some (answered_entry thread mark c r) else None) o)) ≡ is_some (where_waiting (option_or (if own then Some (answered_entry thread mark d r) else None) o))
  last_alike true o = waits_alike (is_waiting r.outcome)
  last_alike false o = refl

  same_begun : (t : ℕ) → has_begun first t ≡ has_begun second t
  same_begun t =
      ap (λ (o : Option Entry). is_some (where_waiting o)) (last_entry-append journal (answered_entry thread mark c r) t)
      ∙ last_alike (thread == t) (last_entry journal t)
      ∙ sym (ap (λ (o : Option Entry). is_some (where_waiting o)) (last_entry-append journal (answered_entry thread mark d r) t))

  line_alike : (o : Option Line) → line_answer first o ≡ line_answer second o
  line_alike None = refl
  line_alike (Some l) = same_answer l.thread l.number

  same_variable : (lines : List Line) (v : ℕ) → variable_answer lines first v ≡ variable_answer lines second v
  unfolding variable_answer
  same_variable lines v = line_alike (find (assigns v) lines)

  same_posted : PostAlike c d → (n : ℕ) → is_posted first n ≡ is_posted second n
  same_posted alike n =
      is_posted-append journal (answered_entry thread mark c r) n
      ∙ ap (λ (b : Bool). is_posted journal n || b) (alike n)
      ∙ sym (is_posted-append journal (answered_entry thread mark d r) n)

  pub knows_heard : (s : SessionValue) → PostAlike c d → Knows first s → Knows second s
  knows_heard s alike w = record {
    answered = λ k l g. w.answered k l g ∙ ap (λ (o : Option ReplyValue). is_some o) (same_answer l.thread l.number);
    places = λ u lt. w.places u lt ∙ same_first (is_open first u) (is_open second u) s.trace.lines (λ l. ap (λ (o : Option ReplyValue). (l.thread == u) && not (is_some o)) (same_answer l.thread l.number));
    begun = λ u lt. w.begun u lt ∙ same_begun u;
    answers = λ v lt. w.answers v lt ∙ ap (option_map kept_of) (same_variable s.trace.lines v);
    posted = λ n. w.posted n ∙ same_posted alike n;
  }

-- a call that is no post is heard as the end of a wait
posts_nothing : (b : Bool) (n m : ℕ) → b ≡ false → (b && (n == m)) ≡ false
posts_nothing true n m h = absurd (let f : true ≡ false = h in cc)
posts_nothing false n m h = refl

pub heard_bare : (s : SessionValue) (thread : ℕ) (l : Line) (b : Bool) → is_post l.call.kind ≡ false → PostAlike bare_wait_end (if b then bare_wait_end else resolved_by (answer_in s.answers) l)
heard_bare s thread l true h n = refl
heard_bare s thread l false h n = sym (posts_nothing (is_post l.call.kind) (number (resolved_by (answer_in s.answers) l) POSTED) n h)

-- ---- As the code hears a call, and learns the entry.
pub alike_ok : (x : Result CallValue NoMemory) (d : CallValue) → IfOk x (λ c. c ≡ d) → IfOk x (λ c. PostAlike c d)
alike_ok (Ok c) d e = λ n. ap (λ (y : CallValue). is_post y.kind && (number y POSTED == n)) e
alike_ok (Err e) d h = tt

pub learnt_next : {A : Type 0} (x : Result A NoMemory) (s : SessionValue) (journal : List Entry) (thread mark line : ℕ) (c d : CallValue) (r : ReplyValue) → mark ≡ line → PostAlike c d
    → OnOk x (Knows (journal ++ answered_entry thread mark c r ∷ []) s) → OnOk x (Knows (journal ++ answered_entry thread line d r ∷ []) s)
learnt_next (Ok y) s journal thread mark line c d r e alike w = subst (λ m. Knows (journal ++ answered_entry thread m d r ∷ []) s) e (knows_heard thread mark c d r journal s alike w)
learnt_next (Err y) s journal thread mark line c d r e alike w = tt
