-- What threads may go on to isn't hidden with the parts that are out.
use Rattle.std.proofs.Common.{◌≡◌, ℕ, Bool, false, not, ◌&&◌, ◌||◌, List, [], ◌∷◌, refl, sym, ap, ◌∙◌, Option, None, Some, inl, inr}
use Rattle.std.specs.Prelude.{if◌then◌else◌}
use Rattle.std.specs.List.{list_all}
use Rattle.std.specs.Option.{option_map_or}
use Rattle.egl_calls.specs.declared.entries.Entry.{Entry}
use Rattle.model_laws.specs.Hidden.{hide, nothing}
use Rattle.egl_model.specs.Parts.{Own, OwnObjects, own_objects, put_at}
use Rattle.egl_model.specs.State.{State, record_of}
use Rattle.egl_model.specs.Waits.{is_ready, is_signalled}
use Rattle.model_laws.proofs.Steps.Blinds.{signalled-put}
use Rattle.model_laws.proofs.Parts.Puts.{record-put}
use Rattle.trace_reader.specs.declared.traces.Line.{Line}
use Rattle.trace_reader.specs.Traces.{TraceValue}
use Rattle.trace_model.specs.Turns.{next_line, has_begun, is_free, goes_on, is_held, is_blocked, is_at_end}
use Rattle.trace_model.specs.Stalled.{is_at_rest, is_complete, is_stalled, threads_of}
use Rattle.shared_driver.specs.declared.picks.Pick.{Pick}
use Rattle.shared_driver.specs.declared.picks.Pick.TheVariants.{Call, Wait, Stop}
use Rattle.play_threads.specs.Picks.{IsOver, IsPickOf}

ready_by : (p : OwnObjects) (v : ℕ) (x : Own) (s : State) (wait : Option ℕ) → option_map_or (is_signalled (put_at p v x s)) wait false ≡ option_map_or (is_signalled s) wait false
ready_by p v x s None = refl
ready_by p v x s (Some sync) = signalled-put p v sync x s

ready_put : (p : OwnObjects) (v : ℕ) (x : Own) (s : State) (t : ℕ) → is_ready (put_at p v x s) t ≡ is_ready s t
ready_put p v x s t =
    ap (λ (w : Option ℕ). option_map_or (is_signalled (put_at p v x s)) w false) (record-put (λ r. r.wait) (λ r e. refl) s v t x.error)
    ∙ ready_by p v x s (record_of s t).wait

pub ready_hidden : (out : List ℕ) (s : State) (t : ℕ) → is_ready (hide out s) t ≡ is_ready s t
ready_hidden [] s t = refl
ready_hidden (u ∷ us) s t = ready_put (own_objects (hide us s) u) u nothing (hide us s) t ∙ ready_hidden us s t

-- ---- Of states in which the same threads are ready.
module _ (t : TraceValue) (es : List Entry) (a b : State) (same : (n : ℕ) → is_ready a n ≡ is_ready b n) where
  goes_same : (n : ℕ) (l : Line) → goes_on t.lines es a n l ≡ goes_on t.lines es b n l
  goes_same n l = ap (λ (r : Bool). if has_begun es n then r else is_free t.lines es l) (same n)

  held_same : (n : ℕ) (o : Option Line) → is_held t.lines es a n o ≡ is_held t.lines es b n o
  held_same n None = refl
  held_same n (Some l) = ap not (goes_same n l)

  blocked_same : (n : ℕ) → is_blocked t.lines es a n ≡ is_blocked t.lines es b n
  blocked_same n = held_same n (next_line t.lines es n)

  rest_same : (ns : List ℕ) → list_all (is_at_rest t.lines es a) ns ≡ list_all (is_at_rest t.lines es b) ns
  rest_same [] = refl
  rest_same (n ∷ ns) =
      ap (λ (r : Bool). (is_at_end t.lines es n || r) && list_all (is_at_rest t.lines es a) ns) (blocked_same n)
      ∙ ap (λ (r : Bool). (is_at_end t.lines es n || is_blocked t.lines es b n) && r) (rest_same ns)

  stalled_same : is_stalled t es a ≡ is_stalled t es b
  unfolding is_stalled
  stalled_same = ap (λ (r : Bool). r && not (is_complete t es)) (rest_same (threads_of t))

  over_same : (n : ℕ) → IsOver t es a n → IsOver t es b n
  over_same n (inl h) = inl h
  over_same n (inr (inl h)) = inr (inl (sym stalled_same ∙ h))
  over_same n (inr (inr h)) = inr (inr h)

  pub pick_same : (n : ℕ) (k : Pick) → IsPickOf t es a n k → IsPickOf t es b n k
  pick_same n (Call mark call) (l, next, goes, at, is) = (l, next, sym (goes_same n l) ∙ goes, at, is)
  pick_same n (Wait what) h = sym (blocked_same n) ∙ h
  pick_same n Stop h = over_same n h
