-- What a picker has learnt, and what its pick is.
use Rattle.std.proofs.Common.{◌≡◌, ◌≢◌, ℕ, ◌+◌, ◌<◌, ◌≤◌, Bool, true, false, not, ◌&&◌, ◌||◌, List, [], ◌∷◌, ◌++◌, length, take, refl, sym, ap, ◌∙◌, arith, subst, get_or, inl, inr, Option, None, Some, Result, Ok, Err}
use Rattle.std.proofs.lemmas.Bool.{eqb-true, eq-eqb}
use Rattle.std.proofs.lemmas.Bool.Decides.{nat_tests}
use Rattle.std.proofs.lemmas.List.Elements.{All-head, All-tail, filter-append}
use Rattle.std.proofs.lemmas.List.{append-nil, append_assoc, length-append, take-append-le, take_all, take_at, take_more}
use Rattle.std.proofs.lemmas.List.Folds.{list_all_at, list_any-append}
use Rattle.std.proofs.lemmas.List.FromFn.{get_or-range_with_len, length-range_with_len}
use Rattle.std.proofs.lemmas.Option.{get_or_from_slice_get, slice_get_cases, slice_get_within}
use Rattle.std.specs.List.{range_with_len}
use Rattle.std.specs.Prelude.{◌==◌, ◌⊎◌, All, IfOk, OnOk, if◌then◌else◌, is_none, is_some, nat_le, slice_get}
use Rattle.std.specs.Option.{option_map}
use Rattle.egl_calls.specs.Calls.{CallValue}
use Rattle.egl_calls.specs.Journals.{is_halt}
use Rattle.egl_calls.specs.declared.memory.NoMemory.{NoMemory}
use Rattle.egl_calls.specs.declared.entries.Entry.{Entry}
use Rattle.egl_model.specs.State.{State}
use Rattle.trace_reader.specs.declared.traces.Line.{Line}
use Rattle.trace_reader.specs.Traces.{TraceValue}
use Rattle.trace_model.specs.Turns.{next_line, is_at_end, is_held, is_blocked}
use Rattle.trace_model.specs.Stalled.{is_at_rest, is_complete, is_stalled}
use Rattle.trace_model.specs.Serial.{next_call}
use Rattle.shared_driver.specs.declared.picks.Pick.{Pick}
use Rattle.shared_driver.specs.declared.picks.Pick.TheVariants.{Call}
use Rattle.driver_core.specs.Machine.{Machine}
use Rattle.trace_session.specs.Sessions.{Knows, SessionValue}
use Rattle.trace_session.proofs.AlikeLaws.{knows_alike}
use Rattle.shared_driver.specs.Cores.{of_number}
use Rattle.play_threads.specs.declared.pickers.LinePicker.{LinePicker}
use Rattle.play_threads.specs.Picks.{GoesOn, HasLearnt, IsOver, IsPickOf, IsTold, KnowsOwn, Picks, has_stalled, have_others_halted, is_halt_beside}

abbrev pub of_others : ℕ → List Entry → Type 0
of_others n es = All (λ e. e.thread ≢ n) es

-- ---- The entries of a thread.
pub of_number-append : (n : ℕ) (xs ys : List Entry) → of_number n (xs ++ ys) ≡ of_number n xs ++ of_number n ys
of_number-append n xs ys = filter-append (λ (e : Entry). e.thread == n) xs ys

pub of_other : (n : ℕ) (e : Entry) → e.thread ≢ n → of_number n (e ∷ []) ≡ []
of_other n e ne = ap (λ (b : Bool). if b then e ∷ [] else []) (let f : (e.thread == n) ≡ false = grind (arith, nat_tests, ne) in f)

pub of_own : (n : ℕ) (e : Entry) → e.thread ≡ n → of_number n (e ∷ []) ≡ e ∷ []
of_own n e same = ap (λ (b : Bool). if b then e ∷ [] else []) (eq-eqb e.thread n same)

pub of_number-other : (n : ℕ) (es : List Entry) (e : Entry) → e.thread ≢ n → of_number n (es ++ e ∷ []) ≡ of_number n es
of_number-other n es e ne = of_number-append n es (e ∷ []) ∙ ap (λ (l : List Entry). of_number n es ++ l) (of_other n e ne) ∙ append-nil (of_number n es)

-- entries of others more change nothing
pub of_number-past : (n : ℕ) (es more : List Entry) → of_others n more → of_number n (es ++ more) ≡ of_number n es
of_number-past n es [] a = ap (of_number n) (append-nil es)
of_number-past n es (e ∷ more) a =
    let Q : Entry → Type 0 = λ x. x.thread ≢ n in
    ap (of_number n) (sym (append_assoc es (e ∷ []) more)) ∙ of_number-past n (es ++ e ∷ []) more (All-tail Q e more a) ∙ of_number-other n es e (All-head Q e more a)

-- entries of one thread are none of another's
different_by : (n m : ℕ) (e : Entry) (es : List Entry) → n ≢ m → (b : Bool) → (e.thread == m) ≡ b → of_number n (of_number m es) ≡ [] → of_number n (if b then e ∷ of_number m es else of_number m es) ≡ []
different_by n m e es ne false h later = later
different_by n m e es ne true h later =
    let same : e.thread ≡ m = eqb-true e.thread m h in
    let other : e.thread ≢ n = λ k. ne (sym k ∙ same) in
    let f : (e.thread == n) ≡ false = grind (arith, nat_tests, other) in
    ap (λ (b : Bool). if b then e ∷ of_number n (of_number m es) else of_number n (of_number m es)) f ∙ later

pub of_different : (n m : ℕ) (es : List Entry) → n ≢ m → of_number n (of_number m es) ≡ []
of_different n m [] ne = refl
of_different n m (e ∷ es) ne = different_by n m e es ne (e.thread == m) refl (of_different n m es ne)

-- ---- What a picker has learnt.
or_false : (b : Bool) → (b || false) ≡ b
or_false true = refl
or_false false = refl

-- of a journal in which others have the same entries, up to the same place
pub learnt_at : (p : LinePicker) (own other xs ys : List Entry) → own ≡ other → take p.learnt ys ≡ take p.learnt xs → p.learnt ≤ length ys → HasLearnt p own xs → HasLearnt p other ys
learnt_at p own other xs ys same front within h = record {
  within = within;
  learned = h.learned;
  knows = h.knows;
  mine = h.mine ∙ same;
  others = λ n ne. h.others n ne ∙ ap (of_number n) (sym front);
  halted = h.halted ∙ ap (have_others_halted p.thread) (sym front);
}

-- of one that goes on
pub learnt_longer : (p : LinePicker) (own other xs ys : List Entry) → own ≡ other → HasLearnt p own xs → HasLearnt p other (xs ++ ys)
learnt_longer p own other xs ys same h = learnt_at p own other xs (xs ++ ys) same (take-append-le p.learnt xs ys h.within) (omega (arith, h.within, length-append xs ys)) h

module _ (p : LinePicker) (es : List Entry) (all : p.learnt ≡ length es) (h : HasLearnt p (of_number p.thread es) es) where
  all_of : take p.learnt es ≡ es
  all_of = ap (λ (n : ℕ). take n es) all ∙ take_all (length es) es (omega arith)

  alike_by : (n : ℕ) (b : Bool) → (n == p.thread) ≡ b → of_number n h.learned ≡ of_number n es
  alike_by n true e =
      let same : n ≡ p.thread = eqb-true n p.thread e in
      ap (λ (m : ℕ). of_number m h.learned) same ∙ h.mine ∙ sym (ap (λ (m : ℕ). of_number m es) same)
  alike_by n false e = h.others n (grind (arith, nat_tests, e)) ∙ ap (of_number n) all_of

  -- all was learnt
  pub knows_all : Knows es p.session
  knows_all = knows_alike p.session h.learned es (λ n. alike_by n (n == p.thread) refl) h.knows

  pub halted_all : p.halted ≡ have_others_halted p.thread es
  halted_all = h.halted ∙ ap (have_others_halted p.thread) all_of

pub halted_more : (thread : ℕ) (xs : List Entry) (e : Entry) → have_others_halted thread (xs ++ e ∷ []) ≡ (have_others_halted thread xs || is_halt_beside thread e)
halted_more thread xs e = list_any-append (is_halt_beside thread) xs (e ∷ []) ∙ ap (λ (b : Bool). have_others_halted thread xs || b) (or_false (is_halt_beside thread e))

-- what stands at a place comes behind what stands before it
pub take_next : (es : List Entry) (k : ℕ) (e : Entry) → slice_get es k ≡ Some e → take (k + 1) es ≡ take k es ++ e ∷ []
take_next es k e h = take_more es k e (slice_get_within es k e h) ∙ ap (λ (x : Entry). take k es ++ x ∷ []) (get_or_from_slice_get es k e e h)

pub is_there : (es : List Entry) (k : ℕ) → k < length es → None ≡ slice_get es k → ⊥
is_there es k lt none = by_case (slice_get_cases es k).1
  where
    by_case : ((x : Entry) × (k < length es) × (slice_get es k ≡ Some x) × (get_or es k x ≡ x)) ⊎ ((length es ≤ k) × (slice_get es k ≡ None)) → ⊥
    by_case (inl h) = let f : None ≡ Some h.0 = none ∙ h.2 in cc
    by_case (inr h) = omega (arith, lt, h.0)

and_true : (b : Bool) → (b && true) ≡ b
and_true true = refl
and_true false = refl

and_false : (b : Bool) → (b && false) ≡ false
and_false true = refl
and_false false = refl

module _ (p q : LinePicker) (own es : List Entry) (e : Entry) (at : slice_get es p.learnt ≡ Some e) (h : HasLearnt p own es) (thread : q.thread ≡ p.thread) (next : q.learnt ≡ p.learnt + 1) where
  one_more : take q.learnt es ≡ take p.learnt es ++ e ∷ []
  one_more = ap (λ (n : ℕ). take n es) next ∙ take_next es p.learnt e at

  inside : q.learnt ≤ length es
  inside = let lt : p.learnt < length es = slice_get_within es p.learnt e at in omega (arith, next, lt)

  halted_by : (b : Bool) → is_halt_beside p.thread e ≡ b → q.halted ≡ (p.halted || b) → q.halted ≡ have_others_halted q.thread (take q.learnt es)
  halted_by b f halted =
      halted ∙ ap (λ (x : Bool). p.halted || x) (sym f) ∙ ap (λ (x : Bool). x || is_halt_beside p.thread e) h.halted ∙ sym (halted_more p.thread (take p.learnt es) e)
      ∙ ap (λ (n : ℕ). have_others_halted n (take p.learnt es ++ e ∷ [])) (sym thread) ∙ ap (have_others_halted q.thread) (sym one_more)

  -- behind an entry of its own, which it knows
  pub learnt_known : e.thread ≡ p.thread → q.session ≡ p.session → q.halted ≡ p.halted → HasLearnt q own es
  learnt_known same session halted = record {
    within = inside;
    learned = h.learned;
    knows = let P : SessionValue → Type 0 = λ s. Knows h.learned s in subst P (sym session) h.knows;
    mine = ap (λ (n : ℕ). of_number n h.learned) thread ∙ h.mine;
    others = λ n ne.
        let other : e.thread ≢ n = λ k. ne (sym k ∙ same ∙ sym thread) in
        h.others n (λ k. ne (k ∙ sym thread)) ∙ sym (of_number-other n (take p.learnt es) e other) ∙ ap (of_number n) (sym one_more);
    halted = halted_by false (ap (λ (b : Bool). is_halt e && not b) (eq-eqb e.thread p.thread same) ∙ and_false (is_halt e)) (halted ∙ sym (or_false p.halted));
  }

  -- behind one of another thread
  pub learnt_other : e.thread ≢ p.thread → Knows (h.learned ++ e ∷ []) q.session → q.halted ≡ (p.halted || is_halt e) → HasLearnt q own es
  learnt_other ne knows halted = record {
    within = inside;
    learned = h.learned ++ e ∷ [];
    knows = knows;
    mine = ap (λ (n : ℕ). of_number n (h.learned ++ e ∷ [])) thread ∙ of_number-other p.thread h.learned e ne ∙ h.mine;
    others = λ n nn.
        of_number-append n h.learned (e ∷ []) ∙ ap (λ (l : List Entry). l ++ of_number n (e ∷ [])) (h.others n (λ k. nn (k ∙ sym thread))) ∙ sym (of_number-append n (take p.learnt es) (e ∷ [])) ∙ ap (of_number n) (sym one_more);
    halted = halted_by (is_halt e) (let f : (e.thread == p.thread) ≡ false = grind (arith, nat_tests, ne) in ap (λ (b : Bool). is_halt e && not b) f ∙ and_true (is_halt e)) halted;
  }

-- the same of what a call answered
pub learnt_if_ok : (r : Result (Unit {0}) NoMemory) (p q : LinePicker) (own es : List Entry) (e : Entry) → slice_get es p.learnt ≡ Some e → (h : HasLearnt p own es) → q.thread ≡ p.thread → OnOk r (q.learnt ≡ p.learnt + 1)
    → e.thread ≢ p.thread → OnOk r (Knows (h.learned ++ e ∷ []) q.session) → OnOk r (q.halted ≡ (p.halted || is_halt e)) → OnOk r (HasLearnt q own es)
learnt_if_ok (Ok u) p q own es e at h thread next ne knows halted = learnt_other p q own es e at h thread next ne knows halted
learnt_if_ok (Err x) p q own es e at h thread next ne knows halted = tt

-- behind an entry of its own that it was told
pub learnt_own : (p q : LinePicker) (own es : List Entry) (e : Entry) → e.thread ≡ p.thread → q.thread ≡ p.thread → q.learnt ≡ p.learnt → q.halted ≡ p.halted → (h : HasLearnt p own es) → Knows (h.learned ++ e ∷ []) q.session → HasLearnt q (own ++ e ∷ []) es
learnt_own p q own es e same thread place halted h knows = record {
  within = let le : p.learnt ≤ length es = h.within in omega (arith, place, le);
  learned = h.learned ++ e ∷ [];
  knows = knows;
  mine =
      ap (λ (n : ℕ). of_number n (h.learned ++ e ∷ [])) thread ∙ of_number-append p.thread h.learned (e ∷ [])
      ∙ ap (λ (l : List Entry). l ++ of_number p.thread (e ∷ [])) h.mine ∙ ap (λ (l : List Entry). own ++ l) (of_own p.thread e same);
  others = λ n nn.
      of_number-other n h.learned e (λ k. nn (sym k ∙ same ∙ sym thread)) ∙ h.others n (λ k. nn (k ∙ sym thread)) ∙ ap (λ (k : ℕ). of_number n (take k es)) (sym place);
  halted = halted ∙ h.halted ∙ ap (λ (k : ℕ). have_others_halted p.thread (take k es)) (sym place) ∙ ap (λ (n : ℕ). have_others_halted n (take q.learnt es)) (sym thread);
}

-- behind entries of its own more, which it was told
pub learnt_told : (p q : LinePicker) (es more own : List Entry) → p.learnt ≡ length es → HasLearnt p (of_number p.thread es) es → q.thread ≡ p.thread → q.learnt ≡ p.learnt → q.halted ≡ p.halted → Knows (es ++ more) q.session
    → more ≡ of_number p.thread more → of_number p.thread es ++ more ≡ own → HasLearnt q own (es ++ more)
learnt_told p q es more own all h thread place halted knows mine whole = record {
  within = omega (arith, place, all, length-append es more);
  learned = es ++ more;
  knows = knows;
  mine = ap (λ (n : ℕ). of_number n (es ++ more)) thread ∙ of_number-append p.thread es more ∙ ap (λ (l : List Entry). of_number p.thread es ++ l) (sym mine) ∙ whole;
  others = λ n ne.
      of_number-append n es more ∙ ap (λ (l : List Entry). of_number n es ++ l) (ap (of_number n) mine ∙ of_different n p.thread more (λ k. ne (k ∙ sym thread))) ∙ append-nil (of_number n es) ∙ ap (of_number n) (sym front);
  halted = halted ∙ halted_all p es all h ∙ ap (λ (n : ℕ). have_others_halted n es) (sym thread) ∙ ap (have_others_halted q.thread) (sym front);
}
  where
    front : take q.learnt (es ++ more) ≡ es
    front = ap (λ (n : ℕ). take n (es ++ more)) (place ∙ all) ∙ take_at es more (length es) refl

-- ---- What a picker was told of its last call.
-- one that differs in nothing that was learnt
pub learnt_same : (p q : LinePicker) (own es : List Entry) → q.thread ≡ p.thread → q.session ≡ p.session → q.learnt ≡ p.learnt → q.halted ≡ p.halted → HasLearnt p own es → HasLearnt q own es
learnt_same p q own es thread session place halted h = record {
  within = let le : p.learnt ≤ length es = h.within in omega (arith, place, le);
  learned = h.learned;
  knows = let P : SessionValue → Type 0 = λ s. Knows h.learned s in subst P (sym session) h.knows;
  mine = ap (λ (n : ℕ). of_number n h.learned) thread ∙ h.mine;
  others = λ n ne. h.others n (λ k. ne (k ∙ sym thread)) ∙ ap (λ (k : ℕ). of_number n (take k es)) (sym place);
  halted = halted ∙ h.halted ∙ ap (λ (k : ℕ). have_others_halted p.thread (take k es)) (sym place) ∙ ap (λ (n : ℕ). have_others_halted n (take q.learnt es)) (sym thread);
}

-- of a journal that goes on
told_longer : (p : LinePicker) (own other xs ys : List Entry) → own ≡ other → IsTold p own xs → IsTold p other (xs ++ ys)
told_longer p own other xs ys same t = record {
  before = t.before;
  last = t.last;
  more = t.more ++ ys;
  place = t.place;
  learnt = t.learnt;
  mine = t.mine;
  own_now = sym same ∙ t.own_now;
  whole = ap (λ (l : List Entry). l ++ ys) t.whole ∙ append_assoc t.before (t.last ∷ t.more) ys;
}

pub knows_longer : (p : LinePicker) (b : Bool) (own other xs ys : List Entry) → own ≡ other → KnowsOwn p b own xs → KnowsOwn p b other (xs ++ ys)
knows_longer p false own other xs ys same h = learnt_longer p own other xs ys same h
knows_longer p true own other xs ys same t = told_longer p own other xs ys same t

pub knows_none : (p : LinePicker) (b : Bool) (own es : List Entry) → b ≡ false → HasLearnt p own es → KnowsOwn p b own es
knows_none p b own es none h = let P : Bool → Type 0 = λ x. KnowsOwn p x own es in subst P (sym none) h

pub told_none : (p q : LinePicker) (b : Bool) → b ≡ false → (own es : List Entry) → KnowsOwn p b own es → q.thread ≡ p.thread → q.session ≡ p.session → q.learnt ≡ p.learnt → q.halted ≡ p.halted → HasLearnt q own es
told_none p q b none own es h thread session place halted =
    let P : Bool → Type 0 = λ x. KnowsOwn p x own es in
    learnt_same p q own es thread session place halted (subst P none h)

-- the entry behind a front
get_behind : (front : List Entry) (e : Entry) (es : List Entry) → slice_get (front ++ e ∷ es) (length front) ≡ Some e
get_behind [] e es = refl
get_behind (x ∷ xs) e es = get_behind xs e es

pub told_there : (p : LinePicker) (b : Bool) → b ≡ true → (own es : List Entry) → KnowsOwn p b own es → (t : IsTold p own es) × (slice_get es p.asked ≡ Some t.last)
told_there p b is own es h =
    let P : Bool → Type 0 = λ x. KnowsOwn p x own es in
    let t : IsTold p own es = subst P is h in
    (t, ap (λ (n : ℕ). slice_get es n) t.place ∙ ap (λ (xs : List Entry). slice_get xs (length t.before)) t.whole ∙ get_behind t.before t.last t.more)

module _ (p w : LinePicker) (own es : List Entry) (thread : w.thread ≡ p.thread) (place : w.learnt ≡ p.learnt) (halted : w.halted ≡ p.halted) where
  told_now : (t : IsTold p own es) → ((xs : List Entry) → Knows xs p.session → Knows (xs ++ t.last ∷ []) w.session) → HasLearnt w own es
  told_now t knows =
      let P : List Entry → Type 0 = λ xs. HasLearnt w own xs in
      let here : HasLearnt w (of_number p.thread t.before ++ t.last ∷ []) t.before = learnt_own p w (of_number p.thread t.before) t.before t.last t.mine thread place halted t.learnt (knows t.learnt.learned t.learnt.knows) in
      subst P (sym t.whole) (learnt_longer w (of_number p.thread t.before ++ t.last ∷ []) own t.before (t.last ∷ t.more) (sym t.own_now) here)

-- once it takes in what it was told, it has learnt all its own
pub told_if_ok : (r : Result (Unit {0}) NoMemory) (p w : LinePicker) (b : Bool) (e : Entry) → b ≡ true → (own es : List Entry) → KnowsOwn p b own es → Some e ≡ slice_get es p.asked → w.thread ≡ p.thread → w.learnt ≡ p.learnt → w.halted ≡ p.halted
    → ((xs : List Entry) → Knows xs p.session → OnOk r (Knows (xs ++ e ∷ []) w.session)) → OnOk r (HasLearnt w own es)
told_if_ok (Ok u) p w b e is own es h at thread place halted knows =
    let t = told_there p b is own es h in
    let same : e ≡ t.0.last = (let f : Some e ≡ Some t.0.last = at ∙ t.1 in cc) in
    told_now p w own es thread place halted t.0 (λ xs k. let K : Entry → Type 0 = λ x. Knows (xs ++ x ∷ []) w.session in subst K same (knows xs k))
told_if_ok (Err x) p w b e is own es h at thread place halted knows = tt

-- ---- The call that is picked.
not_held : (b : Bool) → not b ≡ false → b ≡ true
not_held true h = refl
not_held false h = absurd (let f : true ≡ false = h in cc)

picked_by : (t : TraceValue) (es : List Entry) (s : State) (n mark : ℕ) (call : CallValue) (o : Option Line) → next_line t.lines es n ≡ o → option_map (λ l. l.number) o ≡ Some mark → is_held t.lines es s n o ≡ false
    → ((l : Line) → next_line t.lines es n ≡ Some l → call ≡ next_call t.lines es n l) → IsPickOf t es s n (Call mark call)
picked_by t es s n mark call None e at free is = absurd (let f : None ≡ Some mark = at in cc)
picked_by t es s n mark call (Some l) e at free is = (l, e, not_held _ free, (let same : Some l.number ≡ Some mark = at in cc), is l e)

-- a thread that isn't blocked makes the call of its next line
pub picked_line : (t : TraceValue) (es : List Entry) (s : State) (n mark : ℕ) (call : CallValue) → Some mark ≡ option_map (λ l. l.number) (next_line t.lines es n) → is_blocked t.lines es s n ≡ false
    → ((l : Line) → next_line t.lines es n ≡ Some l → call ≡ next_call t.lines es n l) → IsPickOf t es s n (Call mark call)
picked_line t es s n mark call at free is = picked_by t es s n mark call (next_line t.lines es n) refl (sym at) free is

-- ---- A thread that calls or waits isn't over.
not_over : (t : TraceValue) (es : List Entry) (s : State) (n : ℕ) → is_at_end t.lines es n ≡ false → is_stalled t es s ≡ false → have_others_halted n es ≡ false → IsOver t es s n → ⊥
not_over t es s n end stall halt (inl e) = let f : true ≡ false = sym e ∙ end in cc
not_over t es s n end stall halt (inr (inl e)) = let f : true ≡ false = sym e ∙ stall in cc
not_over t es s n end stall halt (inr (inr e)) = let f : true ≡ false = sym e ∙ halt in cc

-- a run in which a thread can go on hasn't stalled
not_stalled : (t : TraceValue) (es : List Entry) (s : State) (n : ℕ) → n < t.threads → is_at_rest t.lines es s n ≡ false → is_stalled t es s ≡ false
unfolding is_stalled
not_stalled t es s n below goes =
    let none : 0 + n ≡ n = omega arith in
    let at : get_or (range_with_len 0 t.threads) n 0 ≡ n = get_or-range_with_len 0 t.threads n 0 below ∙ none in
    let there : n < length (range_with_len 0 t.threads) = rw length-range_with_len below in
    ap (λ (b : Bool). b && not (is_complete t es)) (list_all_at (is_at_rest t.lines es s) (range_with_len 0 t.threads) n 0 there (ap (is_at_rest t.lines es s) at ∙ goes))

not_blocked_line : (t : TraceValue) (es : List Entry) (s : State) (n : ℕ) (o : Option Line) → is_some o ≡ true → is_held t.lines es s n o ≡ false → (is_none o || is_held t.lines es s n o) ≡ false
not_blocked_line t es s n None there free = absurd (let f : false ≡ true = there in cc)
not_blocked_line t es s n (Some l) there free = free

has_line : (o : Option Line) (mark : ℕ) → Some mark ≡ option_map (λ l. l.number) o → is_some o ≡ true
has_line None mark h = absurd (let f : Some mark ≡ None = h in cc)
has_line (Some l) mark h = refl

not_none : (o : Option Line) → is_some o ≡ true → is_none o ≡ false
not_none None h = absurd (let f : false ≡ true = h in cc)
not_none (Some l) h = refl

pub calls_on : (t : TraceValue) (es : List Entry) (s : State) (n mark : ℕ) → n < t.threads → Some mark ≡ option_map (λ l. l.number) (next_line t.lines es n) → is_blocked t.lines es s n ≡ false → have_others_halted n es ≡ false → ¬ (IsOver t es s n)
calls_on t es s n mark below at free halt =
    let there = has_line (next_line t.lines es n) mark at in
    not_over t es s n (not_none (next_line t.lines es n) there) (not_stalled t es s n below (not_blocked_line t es s n (next_line t.lines es n) there free)) halt

pub waits_on : (t : TraceValue) (es : List Entry) (d : Machine) (n mark : ℕ) → Some mark ≡ option_map (λ l. l.number) (next_line t.lines es n) → has_stalled t es d ≡ false → have_others_halted n es ≡ false → (have_others_halted n es ≡ false) × (t.threads ≤ d.made → ¬ (IsOver t es d.state n))
waits_on t es d n mark at stall halt = (halt, λ all. not_over t es d.state n (not_none (next_line t.lines es n) (has_line (next_line t.lines es n) mark at)) (goes all) halt)
  where
    goes : t.threads ≤ d.made → is_stalled t es d.state ≡ false
    goes all = let le : nat_le t.threads d.made ≡ true = grind (arith, nat_tests, all) in sym (ap (λ (b : Bool). b && is_stalled t es d.state) le) ∙ stall

-- what was picked by all that was learnt
pub picks_if_ok : (x : Result Pick NoMemory) (p q : LinePicker) (es : List Entry) (d : Machine) → q.thread ≡ p.thread → q.session.trace ≡ p.session.trace → q.learnt ≡ length es → HasLearnt q (of_number p.thread es) es → q.answered ≡ false → q.asked ≡ length es
    → IfOk x (IsPickOf q.session.trace es d.state q.thread) → IfOk x (GoesOn q.session.trace es d q.thread) → IfOk x (λ k. Picks p es d k q)
picks_if_ok (Ok k) p q es d thread trace all learnt told asked pick goes_on = record {
  thread = thread;
  trace = trace;
  enough = inl all;
  learnt = learnt;
  told = told;
  asked = asked;
  pick =
      let T : TraceValue → Type 0 = λ t. IsPickOf t es d.state q.thread k in
      let N : ℕ → Type 0 = λ n. IsPickOf p.session.trace es d.state n k in
      subst N thread (subst T trace pick);
  goes_on =
      let T : TraceValue → Type 0 = λ t. GoesOn t es d q.thread k in
      let N : ℕ → Type 0 = λ n. GoesOn p.session.trace es d n k in
      subst N thread (subst T trace goes_on);
}
picks_if_ok (Err e) p q es d thread trace all learnt told asked pick goes_on = tt

pub learnt_of : (p q : LinePicker) (es : List Entry) → q.thread ≡ p.thread → HasLearnt q (of_number p.thread es) es → HasLearnt q (of_number q.thread es) es
learnt_of p q es thread h = let P : List Entry → Type 0 = λ own. HasLearnt q own es in subst P (ap (λ (n : ℕ). of_number n es) (sym thread)) h
