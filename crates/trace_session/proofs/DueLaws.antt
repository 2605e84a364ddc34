-- What a thread has due.
use Rattle.std.proofs.Common.{◌≡◌, ℕ, ◌<◌, ◌≤◌, Bool, true, false, not, ◌&&◌, List, sym, ap, ◌∙◌, refl, Option, None, Some}
use Rattle.std.proofs.lemmas.Bool.{lt-ltb, le-ltb}
use Rattle.std.specs.Prelude.{IfSome, IsSome, if◌then◌else◌, is_none, nat_lt}
use Rattle.std.specs.Option.{option_map}
use Rattle.egl_calls.specs.declared.entries.Entry.{Entry}
use Rattle.egl_model.specs.State.{State}
use Rattle.trace_reader.specs.declared.traces.Line.{Line}
use Rattle.trace_reader.specs.Traces.{TraceValue}
use Rattle.trace_model.specs.Turns.{next_line, is_able, is_at_end, is_blocked}
use Rattle.trace_session.specs.Answers.{number_due}

-- a line that has a number is there
pub there_is : (r : Option ℕ) (o : Option Line) → r ≡ option_map (λ l. l.number) o → IfSome r (λ _. IsSome o)
there_is None o h = tt
there_is (Some mark) None h = absurd (let f : Some mark ≡ None = h in cc)
there_is (Some mark) (Some l) h = refl

held_by : (a b : Bool) (n : Option ℕ) → (if a && (b && false) then n else None) ≡ None
held_by true true n = refl
held_by true false n = refl
held_by false b n = refl

free_by : (a : Bool) (o : Option Line) → a ≡ true → (if a && (not (is_none o) && true) then option_map (λ l. l.number) o else None) ≡ option_map (λ l. l.number) o
free_by true None h = refl
free_by true (Some l) h = refl
free_by false o h = absurd (let f : false ≡ true = h in cc)

module _ (t : TraceValue) (journal : List Entry) (s : State) (thread : ℕ) where
  abbrev number : Option ℕ
  number = option_map (λ l. l.number) (next_line t.lines journal thread)

  -- no such thread, and one that is blocked
  pub due_nowhere : t.threads ≤ thread → None ≡ number_due t journal s thread
  due_nowhere h = sym (ap (λ (b : Bool). if b && is_able t.lines journal s thread then number else None) (le-ltb thread t.threads h))

  pub due_held : is_blocked t.lines journal s thread ≡ true → None ≡ number_due t journal s thread
  due_held h =
      sym (ap (λ (b : Bool). if nat_lt thread t.threads && (not (is_at_end t.lines journal thread) && not b) then number else None) h ∙ held_by (nat_lt thread t.threads) (not (is_at_end t.lines journal thread)) number)

  -- any other has its next line due, if it has one
  pub due_free : thread < t.threads → is_blocked t.lines journal s thread ≡ false → number ≡ number_due t journal s thread
  due_free below h =
      sym (ap (λ (b : Bool). if nat_lt thread t.threads && (not (is_at_end t.lines journal thread) && not b) then number else None) h ∙ free_by (nat_lt thread t.threads) (next_line t.lines journal thread) (lt-ltb thread t.threads below))
