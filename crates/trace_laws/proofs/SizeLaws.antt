-- The marks of a play are numbers of lines, and the ids of its windows those that are declared.
use Rattle.std.proofs.Common.{◌≡◌, ℕ, ◌+◌, ◌-◌, ◌<◌, ◌≤◌, ◌^◌, ℤ, pos, negsuc, Bool, true, false, ◌==◌, List, [], ◌∷◌, ◌++◌, map, length, refl, ap, subst, ◌∙◌, arith, Option, None, Some}
use Rattle.std.specs.Prelude.{All, Result, Ok, IsOkAnd, filter, if◌then◌else◌, int_le}
use Rattle.std.specs.List.{count_by, slice_split}
use Rattle.std.specs.Option.{option_or}
use Rattle.std.specs.Char.{is_newline}
use Rattle.std.specs.Str.Lines.{lines, lines_of_parts}
use Rattle.std.proofs.lemmas.Bool.{and_parts, cond_both, leb-true}
use Rattle.std.proofs.lemmas.Int.{ints}
use Rattle.std.proofs.lemmas.List.{append-nil}
use Rattle.std.proofs.lemmas.List.Elements.{All-append, All-cons, All-filter, All-get_or, All-head, All-nil, All-same, All-tail, All-weaker, filter_passes}
use Rattle.std.proofs.lemmas.List.Splits.{length-slice_split}
use Rattle.std.proofs.lemmas.List.Sums.{count_by-le-length}
use Rattle.std.proofs.lemmas.Option.{get_or_from_slice_get, none-some, same_Some, slice_get_within}
use Rattle.egl_calls.specs.Errors.{is_waiting}
use Rattle.egl_calls.specs.declared.entries.Entry.{Entry}
use Rattle.surface_store.proofs.WindowLaws.{first_spec, other_specs}
use Rattle.surface_store.specs.Windows.{WindowValue, are_distinct, is_spec, opened}
use Rattle.surface_store.specs.declared.windows.WindowSpec.{WindowSpec}
use Rattle.egl_model.specs.State.{State, opening}
use Rattle.egl_model.specs.Sweep.{census}
use Rattle.model_laws.proofs.Steps.StepKeeps.{windows-replay}
use Rattle.model_laws.specs.Swaps.{form_of, forms}
use Rattle.journal_text.specs.Written.{HasNumber}
use Rattle.trace_check.specs.Recordings.{IsSized}
use Rattle.trace_model.specs.Follows.{FollowsFrom, GoesOn, IsPlayOf, line_due, lines_of}
use Rattle.trace_model.specs.Serial.{state_behind}
use Rattle.trace_model.specs.Turns.{begun_wait, last_entry, where_waiting}
use Rattle.trace_reader.proofs.FrontLaws.{front_of_trace}
use Rattle.trace_reader.specs.Assigned.{assigned_names}
use Rattle.trace_reader.specs.Grammar.{trace, trace_of_lines, trace_with}
use Rattle.trace_reader.specs.Laws.{IsFrontOf, is_up_to}
use Rattle.trace_reader.specs.Order.{IsTrace}
use Rattle.trace_reader.specs.Traces.{TraceValue}
use Rattle.trace_reader.specs.declared.traces.Defect.{Defect}
use Rattle.trace_reader.specs.declared.traces.Line.{Line}
use Rattle.trace_laws.specs.Sized.{HasSizedReply}

abbrev IsMarked : Entry → Type 0
IsMarked e = e.mark < 2 ^ 64

abbrev IsFew : Line → Type 0
IsFew l = l.number < 2 ^ 64

-- ---- A line's number is at most the count of lines, and so of bytes and one.
parts_kept : (ps : List (List ℕ)) → length (lines_of_parts ps) ≤ length ps
parts_kept [] = omega arith
parts_kept (p ∷ []) = cond_both (length p == 0) [] (p ∷ []) (λ (ls : List (List ℕ)). length ls ≤ 1) (λ e. omega arith) (λ e. omega arith)
parts_kept (p ∷ q ∷ more) = let h = parts_kept (q ∷ more) in omega (arith, h)

few_lines : (b : List ℕ) → length (lines b) ≤ length b + 1
few_lines b =
    let a = parts_kept (slice_split is_newline b) in
    let c = length-slice_split is_newline b in
    let d = count_by-le-length is_newline b in
    omega (arith, a, c, d)

ok_is : (r : Result TraceValue Defect) (t : TraceValue) (P : TraceValue → Type 0) → r ≡ Ok t → IsOkAnd r P → P t
ok_is r t P e h = subst (λ (x : Result TraceValue Defect). IsOkAnd x P) e h

no_lines : (names : List (List ℕ)) (t : TraceValue) (X : Type 0) → trace_with names [] ≡ Ok t → X
no_lines names t X h = absurd (let e : trace_with names [] ≡ Ok t = h in cc)

lines_numbered : (ls : List (List ℕ)) (t : TraceValue) → trace_of_lines ls ≡ Ok t → All (λ l. is_up_to (length ls) l ≡ true) t.lines
lines_numbered [] t h = no_lines (assigned_names []) t _ h
lines_numbered (x ∷ xs) t h =
    let ls = x ∷ xs in
    let e : trace_of_lines (ls ++ []) ≡ Ok t = ap trace_of_lines (append-nil ls) ∙ h in
    let f = front_of_trace ls [] t (omega arith) e in
    let g : IsOkAnd (trace_with (assigned_names ls) ls) (IsFrontOf t (length ls)) = subst (λ (ns : List (List ℕ)). IsOkAnd (trace_with (assigned_names ns) ls) (IsFrontOf t (length ls))) (append-nil ls) f in
    let front : IsFrontOf t (length ls) t = ok_is (trace_with (assigned_names ls) ls) t (IsFrontOf t (length ls)) h g in
    All-same (λ l. is_up_to (length ls) l ≡ true) t.lines (filter (is_up_to (length ls)) t.lines) front.lines (filter_passes (is_up_to (length ls)) t.lines)

few_by : (n : ℕ) (l : Line) → n < 2 ^ 64 → is_up_to n l ≡ true → IsFew l
few_by n l h u = let k = leb-true l.number n u in omega (arith, h, k)

spelt_numbered : (b : List ℕ) (t : TraceValue) → trace b ≡ Ok t → length b < 2 ^ 63 → All IsFew t.lines
unfolding trace
spelt_numbered b t e h =
    let n = length (lines b) in
    let k : n < 2 ^ 64 = (let f = few_lines b in omega (arith, f, h)) in
    All-weaker (λ l. is_up_to n l ≡ true) IsFew (λ l u. few_by n l k u) t.lines (lines_numbered (lines b) t e)

-- ---- An entry's mark is that of a line, or of the begin of its wait.
due_few : (ls : List Line) (journal : List Entry) (thread : ℕ) (l : Line) → All IsFew ls → line_due ls journal thread ≡ Some l → IsFew l
due_few ls journal thread l a e =
    let own = lines_of ls thread in
    let k = count_by _ journal in
    subst IsFew (get_or_from_slice_get own k l l e) (All-get_or IsFew own k l (slice_get_within own k l e) (All-filter (λ (x : Line). x.thread == thread) IsFew ls a))

picked : (b : Bool) (x y : Entry) → (if b then Some x else None) ≡ Some y → x ≡ y
picked true x y h = same_Some x y h
picked false x y h = absurd (none-some y h)

last_is : (o : Option Entry) (b : Bool) (x y : Entry) → (o ≡ Some y → IsMarked y) → IsMarked x → option_or o (if b then Some x else None) ≡ Some y → IsMarked y
last_is (Some z) b x y h m e = h e
last_is None b x y h m e = subst IsMarked (picked b x y e) m

last_marked : (es : List Entry) (thread : ℕ) (y : Entry) → All IsMarked es → last_entry es thread ≡ Some y → IsMarked y
unfolding last_entry
last_marked [] thread y a e = absurd (none-some y e)
last_marked (x ∷ es) thread y a e = last_is (last_entry es thread) (x.thread == thread) x y (last_marked es thread y (All-tail IsMarked x es a)) (All-head IsMarked x es a) e

waiting_marked : (o : Option Entry) (y : Entry) → ((z : Entry) → o ≡ Some z → IsMarked z) → where_waiting o ≡ Some y → IsMarked y
waiting_marked None y h e = absurd (none-some y e)
waiting_marked (Some z) y h e = subst IsMarked (picked (is_waiting z.reply.outcome) z y e) (h z refl)

next_marked : (ls : List Line) (journal : List Entry) (e : Entry) (o : Option Entry) → All IsFew ls → ((y : Entry) → o ≡ Some y → IsMarked y) → GoesOn ls journal e o → IsMarked e
next_marked ls journal e None a h (l, p) = let k = due_few ls journal e.thread l a p.due in let m = p.mark in omega (arith, k, m)
next_marked ls journal e (Some begin) a h p = let k = h begin refl in let m = p.mark in omega (arith, k, m)

all_marked : (t : TraceValue) (journal es : List Entry) → All IsFew t.lines → All IsMarked journal → FollowsFrom t journal es → All IsMarked es
all_marked t journal [] a m f = All-nil IsMarked
all_marked t journal (e ∷ es) a m f =
    let k = next_marked t.lines journal e (begun_wait journal e.thread) a (λ y w. waiting_marked (last_entry journal e.thread) y (λ z q. last_marked journal e.thread z m q) w) f.1 in
    All-cons IsMarked e es k (all_marked t (journal ++ e ∷ []) es a (All-append IsMarked journal (e ∷ []) m (All-cons IsMarked e [] k (All-nil IsMarked))) f.2)

pub play_marks : (b : List ℕ) (t : TraceValue) (journal : List Entry) → trace b ≡ Ok t → length b < 2 ^ 63 → IsPlayOf t journal → All (λ e. e.mark < 2 ^ 64) journal
play_marks b t journal e h p = all_marked t [] journal (spelt_numbered b t e h) (All-nil IsMarked) p.follows

-- ---- The ids of windows.
numbered : (id : ℤ) → int_le (pos 1) id ≡ true → int_le id (pos 2147483647) ≡ true → (n : ℕ) × (id ≡ pos n) × (1 ≤ n) × (n ≤ 2147483647)
numbered (pos n) a b = (n, refl, grind (arith, ints), grind (arith, ints))
numbered (negsuc n) a b = absurd (let e : int_le (pos 1) (negsuc n) ≡ true = a in grind (arith, ints))

declared : (s : WindowSpec) → is_spec s ≡ true → HasNumber (opened s)
declared s h =
    let a = and_parts _ _ h in let b = and_parts _ _ a.0 in let d = and_parts _ _ b.0 in let e = and_parts _ _ d.0 in let f = and_parts _ _ e.0 in
    let n = numbered s.id f.0 f.1 in
    record { number = n.0; id = n.1; first = n.2; last = n.3 }

declared_all : (ws : List WindowSpec) → are_distinct ws ≡ true → All HasNumber (map opened ws)
declared_all [] h = All-nil HasNumber
declared_all (s ∷ ws) h = All-cons HasNumber (opened s) (map opened ws) (declared s (first_spec s ws h)) (declared_all ws (other_specs s ws h))

of_form : (w : WindowValue) → HasNumber (form_of w) → HasNumber w
of_form w h = record { number = h.number; id = h.id; first = h.first; last = h.last }

to_form : (w : WindowValue) → HasNumber w → HasNumber (form_of w)
to_form w h = record { number = h.number; id = h.id; first = h.first; last = h.last }

to_forms : (ws : List WindowValue) → All HasNumber ws → All HasNumber (forms ws)
to_forms [] a = All-nil HasNumber
to_forms (w ∷ ws) a = All-cons HasNumber (form_of w) (forms ws) (to_form w (All-head HasNumber w ws a)) (to_forms ws (All-tail HasNumber w ws a))

of_forms : (ws : List WindowValue) → All HasNumber (forms ws) → All HasNumber ws
of_forms [] a = All-nil HasNumber
of_forms (w ∷ ws) a = All-cons HasNumber w ws (of_form w (All-head HasNumber (form_of w) (forms ws) a)) (of_forms ws (All-tail HasNumber (form_of w) (forms ws) a))

pub play_windows : (t : TraceValue) (journal : List Entry) → IsTrace t → All HasNumber (state_behind t journal).windows
play_windows t journal is =
    let first : State = opening t.windows t.video in
    let ws = (state_behind t journal).windows in
    of_forms ws (All-same HasNumber (forms ws) (forms first.windows) (windows-replay first journal) (to_forms first.windows (declared_all t.windows (and_parts _ _ is.windows).1)))

-- ---- So a play is sized by its replies.
pub play_sized : (b : List ℕ) (t : TraceValue) (journal : List Entry) → trace b ≡ Ok t → length b < 2 ^ 63 → IsTrace t → IsPlayOf t journal → All HasSizedReply journal → All (λ n. n < 2 ^ 64) (census (state_behind t journal)) → IsSized t journal
play_sized b t journal e h is p replies counts = record {
  entries = λ k d l. let r = replies k d l in record { mark = play_marks b t journal e h p k d l; outcome = r.outcome; value = r.value; list = r.list; bytes = r.bytes };
  census = counts;
  windows = play_windows t journal is;
}
