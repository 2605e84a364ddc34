-- Lines that wait for nobody: what others add changes nothing of them.
use Rattle.std.proofs.Common.{◌≡◌, ℕ, ◌<◌, Bool, true, false, not, ◌&&◌, ◌||◌, List, [], ◌∷◌, ◌++◌, length, refl, sym, ap, ◌∙◌, subst, Option, None, Some, inl, inr}
use Rattle.std.specs.Prelude.{if◌then◌else◌, is_none, is_some}
use Rattle.std.specs.List.{list_all}
use Rattle.std.specs.Option.{option_map}
use Rattle.egl_calls.specs.Calls.{CallValue, ReplyValue}
use Rattle.egl_calls.specs.Journals.{are_halted, is_halt}
use Rattle.egl_calls.specs.declared.entries.Entry.{Entry}
use Rattle.egl_model.specs.Arguments.{number}
use Rattle.egl_model.specs.State.{State}
use Rattle.egl_model.specs.Waits.{is_ready}
use Rattle.driver_core.specs.Machine.{Machine}
use Rattle.trace_reader.specs.declared.traces.Line.{Line}
use Rattle.trace_reader.specs.declared.traces.Reference.{Reference}
use Rattle.trace_reader.specs.Traces.{TraceValue}
use Rattle.trace_model.specs.Resolve.{put_arguments, put_items, resolved, resolved_by, variable_answer}
use Rattle.trace_model.specs.Serial.{next_call}
use Rattle.trace_model.specs.Turns.{bare_wait_end, goes_on, is_at_end, is_await, is_blocked, is_free, is_held, is_posted, next_line}
use Rattle.trace_model.proofs.AlikeLaws.{same_begun, same_next}
use Rattle.trace_session.specs.Answers.{IsLone}
use Rattle.trace_session.specs.Sessions.{Knows, line_at}
use Rattle.trace_session.proofs.KnownLaws.{line_is}
use Rattle.shared_driver.specs.Cores.{entry, of_number}
use Rattle.shared_driver.specs.declared.picks.Pick.{Pick}
use Rattle.shared_driver.specs.declared.picks.Pick.TheVariants.{Call, Wait, Stop}
use Rattle.play_threads.specs.declared.pickers.LinePicker.{LinePicker}
use Rattle.play_threads.specs.Picks.{HasLearnt, IsOwnPick, Picks, have_others_halted}
use Rattle.play_threads.proofs.PickLaws.{calls_on, learnt_longer, learnt_own}

-- the call of such a line is what it says
call_by : (lines : List Line) (es : List Entry) (l : Line) (uses : List Reference) → l.uses ≡ uses → uses ≡ [] → resolved_by (variable_answer lines es) l ≡ l.call
unfolding put_arguments put_items
call_by lines es l uses h none =
    let e : l.uses ≡ [] = h ∙ none in
    ap (λ us. record { kind = l.call.kind; args = put_arguments (variable_answer lines es) l.call.args us; list = put_items (variable_answer lines es) l.call.list us; bytes = l.call.bytes }) e

lone_free : (lines : List Line) (es : List Entry) (l : Line) → l.uses ≡ [] → is_await l.call.kind ≡ false → is_free lines es l ≡ true
lone_free lines es l none post =
    ap (λ us. list_all (λ r. is_some (variable_answer lines es r.variable)) us && (not (is_await l.call.kind) || is_posted es (number l.call 0))) none
    ∙ ap (λ b. not b || is_posted es (number l.call 0)) post

pub call_of_lone : (t : TraceValue) (es : List Entry) (n : ℕ) (l : Line) → IsLone t es n l → next_call t.lines es n l ≡ l.call
call_of_lone t es n l h = ap (λ (b : Bool). if b then bare_wait_end else resolved t.lines es l) h.begun ∙ call_by t.lines es l l.uses refl h.uses

pub lone_goes : (t : TraceValue) (es : List Entry) (s : State) (n : ℕ) (l : Line) → IsLone t es n l → goes_on t.lines es s n l ≡ true
lone_goes t es s n l h = ap (λ (b : Bool). if b then is_ready s n else is_free t.lines es l) h.begun ∙ lone_free t.lines es l h.uses h.await

-- whatever others add, it is next
pub lone_moved : (t : TraceValue) (n : ℕ) (before moved : List Entry) (l : Line) → of_number n before ≡ of_number n moved → IsLone t before n l → IsLone t moved n l
lone_moved t n before moved l own h = record {
  next = sym (same_next before moved n own t.lines) ∙ h.next;
  begun = ap (λ (o : Option Entry). is_some o) (sym (same_begun before moved n own)) ∙ h.begun;
  uses = h.uses;
  await = h.await;
}

-- ---- What a picker has learnt of its own entries tells its next line.
module _ (p : LinePicker) (es : List Entry) (h : HasLearnt p (of_number p.thread es) es) (below : p.thread < p.session.trace.threads) where
  pub own_line : line_at p.session p.thread ≡ next_line p.session.trace.lines es p.thread
  own_line = line_is p.session h.learned h.knows p.thread below ∙ same_next h.learned es p.thread h.mine p.session.trace.lines

-- the entry of such a line was told, however much of others' was learnt
module _ (p w : LinePicker) (es : List Entry) (l : Line) (reply : ReplyValue) (h : HasLearnt p (of_number p.thread es) es) (lone : IsLone p.session.trace es p.thread l) (thread : w.thread ≡ p.thread) (place : w.learnt ≡ p.learnt) (halted : w.halted ≡ p.halted)
    (told : (xs : List Entry) (x : Line) → Knows xs p.session → next_line p.session.trace.lines xs p.thread ≡ Some x → Knows (xs ++ entry p.thread x.number (next_call p.session.trace.lines xs p.thread x) reply ∷ []) w.session) where
  abbrev e : Entry
  e = entry p.thread l.number (next_call p.session.trace.lines es p.thread l) reply

  pub lone_told : HasLearnt w (of_number p.thread es ++ e ∷ []) (es ++ e ∷ [])
  lone_told =
      let t = p.session.trace in
      let there : IsLone t h.learned p.thread l = lone_moved t p.thread es h.learned l (sym h.mine) lone in
      let is : entry p.thread l.number (next_call t.lines h.learned p.thread l) reply ≡ e = ap (λ (c : CallValue). entry p.thread l.number c reply) (call_of_lone t h.learned p.thread l there ∙ sym (call_of_lone t es p.thread l lone)) in
      let K : Entry → Type 0 = λ x. Knows (h.learned ++ x ∷ []) w.session in
      let own : HasLearnt w (of_number p.thread es ++ e ∷ []) es = learnt_own p w (of_number p.thread es) es e refl thread place halted h (subst K is (told h.learned l h.knows there.next)) in
      learnt_longer w (of_number p.thread es ++ e ∷ []) (of_number p.thread es ++ e ∷ []) es (e ∷ []) refl own

-- ---- The pick by a thread's own entries.
none_beside : (a b : Bool) (rest all : Bool) → (a || all) ≡ false → (all ≡ false → rest ≡ false) → ((a && b) || rest) ≡ false
none_beside true b rest all h later = absurd (let f : true ≡ false = h in cc)
none_beside false b rest all h later = later h

none_halted : (n : ℕ) (es : List Entry) → are_halted es ≡ false → have_others_halted n es ≡ false
none_halted n [] h = refl
none_halted n (e ∷ es) h = none_beside (is_halt e) _ (have_others_halted n es) (are_halted es) h (none_halted n es)

at_end_by : (o : Option Line) (l : Line) → is_none o ≡ true → o ≡ Some l → ⊥
at_end_by None l h e = let f : None ≡ Some l = e in cc
at_end_by (Some m) l h e = let f : false ≡ true = h in cc

module _ (p q : LinePicker) (es : List Entry) (d : Machine) (thread : q.thread ≡ p.thread) (trace : q.session.trace ≡ p.session.trace) (below : p.thread < p.session.trace.threads) (h : HasLearnt q (of_number p.thread es) es) (told : q.answered ≡ false) (asked : q.asked ≡ length es) where
  abbrev t : TraceValue
  t = p.session.trace

  abbrev n : ℕ
  n = p.thread

  mine_is : of_number n h.learned ≡ of_number n es
  mine_is = ap (λ (m : ℕ). of_number m h.learned) (sym thread) ∙ h.mine

  own_call : (mark : ℕ) (call : CallValue) (l : Line) → IsLone t h.learned n l → mark ≡ l.number → call ≡ l.call → are_halted es ≡ false → Picks p es d (Call mark call) q
  own_call mark call l lone at is quiet =
      let here : IsLone t es n l = lone_moved t n h.learned es l mine_is lone in
      let goes : goes_on t.lines es d.state n l ≡ true = lone_goes t es d.state n l here in
      let free : is_blocked t.lines es d.state n ≡ false = ap (is_held t.lines es d.state n) here.next ∙ ap not goes in
      let next : Some mark ≡ option_map (λ x. x.number) (next_line t.lines es n) = ap Some at ∙ sym (ap (option_map (λ (x : Line). x.number)) here.next) in
      record {
        thread = thread;
        trace = trace;
        enough = inr (λ x there. let same : l ≡ x = (let f : Some l ≡ Some x = sym here.next ∙ there in cc) in subst (IsLone t es n) same here);
        learnt = h;
        told = told;
        asked = asked;
        pick = (l, here.next, goes, at, is ∙ sym (call_of_lone t es n l here));
        goes_on = calls_on t es d.state n mark below next free (none_halted n es quiet);
      }

  own_stop : is_at_end t.lines h.learned n ≡ true → Picks p es d Stop q
  own_stop end =
      let there : is_at_end t.lines es n ≡ true = ap (λ (o : Option Line). is_none o) (sym (same_next h.learned es n mine_is t.lines)) ∙ end in
      record {
        thread = thread;
        trace = trace;
        enough = inr (λ x next. absurd (at_end_by (next_line t.lines es n) x there next));
        learnt = h;
        told = told;
        asked = asked;
        pick = inl there;
        goes_on = tt;
      }

  own_picks : (k : Pick) → IsOwnPick t h.learned es n k → Picks p es d k q
  own_picks (Call mark call) (l, lone, at, is, quiet) = own_call mark call l lone at is quiet
  own_picks (Wait what) none = absurd none
  own_picks Stop end = own_stop end

  pub own_picked : (k : Pick) → IsOwnPick q.session.trace h.learned es q.thread k → Picks p es d k q
  own_picked k own =
      let T : TraceValue → Type 0 = λ x. IsOwnPick x h.learned es q.thread k in
      let N : ℕ → Type 0 = λ m. IsOwnPick t h.learned es m k in
      own_picks k (subst N thread (subst T trace own))
