-- A trace has as many lines as its text has body lines.
use Rattle.std.proofs.Common.{◌≡◌, ℕ, ◌+◌, ◌-◌, ◌≤◌, Bool, true, false, not, ◌&&◌, ◌||◌, List, [], ◌∷◌, ◌++◌, length, length-append, drop, inl, inr, refl, sym, ap, ◌∙◌, arith, Option, None, Some}
use Rattle.std.specs.Prelude.{codes, if◌then◌else◌, slice_get, Result, Ok, Err}
use Rattle.std.specs.Str.{bytes_eq}
use Rattle.std.specs.Str.Lines.{lines}
use Rattle.std.proofs.lemmas.Bool.{or_from, false_from_ne_true}
use Rattle.std.proofs.lemmas.Option.{none-some, slice_get_past, slice_get_cases}
use Rattle.std.proofs.lemmas.Slice.Eq.{bytes_eq-Decides}
use Rattle.trace_reader.specs.declared.traces.Defect.{Defect}
use Rattle.trace_reader.specs.declared.traces.Line.{Line}
use Rattle.trace_reader.specs.declared.traces.Reason.{Reason}
use Rattle.surface_store.specs.declared.windows.WindowSpec.{WindowSpec}
use Rattle.trace_reader.specs.Assigned.{assigned_names}
use Rattle.trace_reader.specs.Body.{body_of, body_then, read_body, thread_of, within_limits}
use Rattle.trace_reader.specs.Grammar.{behind_header, head_then, read_on, trace, trace_with, with_lines}
use Rattle.trace_reader.specs.Header.{header_of}
use Rattle.trace_reader.specs.Heads.{HeadValue, bare, head_line, head_said, is_bare, video_line, window_line}
use Rattle.trace_reader.specs.Numerals.{numeral}
use Rattle.trace_reader.specs.Order.{more_variables}
use Rattle.trace_reader.specs.Payloads.{payload_bytes}
use Rattle.trace_reader.specs.Pixels.{pixel_bytes}
use Rattle.trace_reader.specs.Reasons.{◌>>=◌, or_reason}
use Rattle.trace_reader.specs.Traces.{TraceValue}
use Rattle.trace_reader.specs.Words.{is_skipped, word_at, words}
use Rattle.egl_cli.specs.BodyLines.{body_numbers, declares, is_body_line, limited, line_past, most_raced, short_trace}

-- ---- What a reading gives.
ok_err : {A : Type 0} (d : Defect) (x : A) → Err d ≡ Ok x → ⊥
ok_err d x h = cc

bad_reason : {A : Type 0} (r : Reason) (x : A) → Err r ≡ Ok x → ⊥
bad_reason r x h = cc

-- the lines of what was read
told : Result TraceValue Defect → List Line
told (Ok t) = t.lines
told (Err d) = []

listed : Result (List Line) Defect → List Line
listed (Ok ls) = ls
listed (Err d) = []

-- ---- A line of the head is none of the body.
said_by : (a v w : Bool) (x y r : Result HeadValue Reason) → (if a && v then Some x else if w then Some y else None) ≡ Some r → (v || w) ≡ true
said_by a true w x y r h = refl
said_by a false true x y r h = refl
said_by true false false x y r h = absurd (none-some r h)
said_by false false false x y r h = absurd (none-some r h)

said_declares : (head : HeadValue) (ws : List (List ℕ)) (r : Result HeadValue Reason) → head_said head ws ≡ Some r → declares (word_at ws 0) ≡ true
unfolding head_said
said_declares head ws r h = said_by (is_bare head) (bytes_eq (word_at ws 0) (codes "video")) (bytes_eq (word_at ws 0) (codes "window")) (video_line head ws) (window_line head ws) r h

none_of_body : (head : HeadValue) (skipped : Bool) (ws : List (List ℕ)) (r : Result HeadValue Reason) → (if skipped then Some (Ok head) else head_said head ws) ≡ Some r → (not skipped && not (declares (word_at ws 0))) ≡ false
none_of_body head true ws r h = refl
none_of_body head false ws r h = ap not (said_declares head ws r h)

head_is_none : (head : HeadValue) (line : List ℕ) (r : Result HeadValue Reason) → head_line head line ≡ Some r → is_body_line line ≡ false
unfolding head_line
head_is_none head line r h = none_of_body head (is_skipped line) (words line) r h

-- ---- A line that is read as one of the body begins with a thread's number, and so declares nothing.
no_video : (limit : ℕ) → numeral limit (codes "video") ≡ None
unfolding numeral
no_video limit = refl

no_window : (limit : ℕ) → numeral limit (codes "window") ≡ None
unfolding numeral
no_window limit = refl

not_word : (limit n : ℕ) (w other : List ℕ) → numeral limit other ≡ None → numeral limit w ≡ Some n → bytes_eq w other ≡ false
not_word limit n w other none h = false_from_ne_true (bytes_eq w other) (λ e. none-some n (sym none ∙ ap (numeral limit) (sym ((bytes_eq-Decides w other).0 e)) ∙ h))

numeral_is_none : (limit n : ℕ) (w : List ℕ) → numeral limit w ≡ Some n → declares w ≡ false
numeral_is_none limit n w h = or_from (bytes_eq w (codes "video")) (bytes_eq w (codes "window")) (not_word limit n w (codes "video") (no_video limit) h) (not_word limit n w (codes "window") (no_window limit) h)

thread_is_none : (limit : ℕ) (w : List ℕ) (o : Option ℕ) (next : ℕ → Result Line Reason) (r : Reason) (l : Line) → numeral limit w ≡ o → (or_reason o r >>= next) ≡ Ok l → declares w ≡ false
thread_is_none limit w (Some n) next r l e h = numeral_is_none limit n w e
thread_is_none limit w None next r l e h = absurd (bad_reason r l h)

body_is_none : (threads : ℕ) (names : List (List ℕ)) (count number : ℕ) (ws : List (List ℕ)) (l : Line) → body_of threads names count number ws ≡ Ok l → declares (word_at ws 0) ≡ false
unfolding body_of thread_of
body_is_none threads names count number ws l h = thread_is_none (threads - 1) (word_at ws 0) (numeral (threads - 1) (word_at ws 0)) _ _ l refl h

within_is_read : (windows : List WindowSpec) (count pixels payloads : ℕ) (r : Result Line Reason) (l : Line) → within_limits windows count pixels payloads r ≡ Ok l → (x : Line) × (r ≡ Ok x)
within_is_read windows count pixels payloads (Ok x) l h = (x, refl)
within_is_read windows count pixels payloads (Err e) l h = absurd (bad_reason e l h)

-- ---- The lines that are read are as many as those of the body.
-- what holds behind a line, of all that may be read before
abbrev Counts : HeadValue → List (List ℕ) → ℕ → List (List ℕ) → List Line → Type 0
Counts head names n rest out = (count pixels payloads : ℕ) (read : List Line) → read_body head names n count pixels payloads read rest ≡ Ok out → length out ≡ length read + length (body_numbers n rest)

one_counted : (head : HeadValue) (names : List (List ℕ)) (n count pixels payloads : ℕ) (read : List Line) (line : List ℕ) (rest : List (List ℕ)) (out : List Line) (r : Result Line Reason) →
    within_limits head.windows (length read) pixels payloads (body_of head.threads names count n (words line)) ≡ r → Counts head names (n + 1) rest out →
    body_then n r (λ l. read_body head names (n + 1) (more_variables count l.assigns) (pixels + pixel_bytes head.windows l.call) (payloads + payload_bytes l.call) (read ++ l ∷ []) rest) ≡ Ok out →
    length out ≡ length read + length (if not (declares (word_at (words line) 0)) then n ∷ body_numbers (n + 1) rest else body_numbers (n + 1) rest)
one_counted head names n count pixels payloads read line rest out (Err e) w more h = absurd (ok_err _ out h)
one_counted head names n count pixels payloads read line rest out (Ok l) w more h =
    let x = within_is_read head.windows (length read) pixels payloads (body_of head.threads names count n (words line)) l w in
    let d = body_is_none head.threads names count n (words line) x.0 x.1 in
    let e = more (more_variables count l.assigns) (pixels + pixel_bytes head.windows l.call) (payloads + payload_bytes l.call) (read ++ l ∷ []) h in
    let k : length out ≡ length read + length (n ∷ body_numbers (n + 1) rest) = omega (arith, e, length-append read (l ∷ [])) in
    k ∙ ap (λ b. length read + length (if not b then n ∷ body_numbers (n + 1) rest else body_numbers (n + 1) rest)) (sym d)

by_skipped : (head : HeadValue) (names : List (List ℕ)) (n count pixels payloads : ℕ) (read : List Line) (line : List ℕ) (rest : List (List ℕ)) (out : List Line) (skipped : Bool) → Counts head names (n + 1) rest out →
    (if skipped then read_body head names (n + 1) count pixels payloads read rest
    else body_then n (within_limits head.windows (length read) pixels payloads (body_of head.threads names count n (words line)))
    (λ l. read_body head names (n + 1) (more_variables count l.assigns) (pixels + pixel_bytes head.windows l.call) (payloads + payload_bytes l.call) (read ++ l ∷ []) rest)) ≡ Ok out →
    length out ≡ length read + length (if not skipped && not (declares (word_at (words line) 0)) then n ∷ body_numbers (n + 1) rest else body_numbers (n + 1) rest)
by_skipped head names n count pixels payloads read line rest out true more h = more count pixels payloads read h
by_skipped head names n count pixels payloads read line rest out false more h = one_counted head names n count pixels payloads read line rest out _ refl more h

body_counted : (head : HeadValue) (names : List (List ℕ)) (n : ℕ) (ls : List (List ℕ)) (out : List Line) → Counts head names n ls out
unfolding listed
body_counted head names n [] out count pixels payloads read h = let e = ap (λ r. length (listed r)) h in omega (arith, e)
body_counted head names n (line ∷ rest) out count pixels payloads read h = by_skipped head names n count pixels payloads read line rest out (is_skipped line) (body_counted head names (n + 1) rest out) h

with_counted : (head : HeadValue) (r : Result (List Line) Defect) (t : TraceValue) → with_lines head r ≡ Ok t → r ≡ Ok t.lines
unfolding told
with_counted head (Ok ls) t h = ap Ok (ap told h)
with_counted head (Err d) t h = absurd (ok_err d t h)

-- ---- So it is behind a head.
by_head : (names : List (List ℕ)) (head : HeadValue) (n : ℕ) (line : List ℕ) (rest : List (List ℕ)) (t : TraceValue) (o : Option (Result HeadValue Reason)) → head_line head line ≡ o →
    ((next : HeadValue) → read_on names next (n + 1) rest ≡ Ok t → length (body_numbers (n + 1) rest) ≡ length t.lines) →
    head_then n o (λ next. read_on names next (n + 1) rest) (with_lines head (read_body head names n 0 0 0 [] (line ∷ rest))) ≡ Ok t → length (body_numbers n (line ∷ rest)) ≡ length t.lines
by_head names head n line rest t (Some (Ok next)) e more h =
    ap (λ b. length (if b then n ∷ body_numbers (n + 1) rest else body_numbers (n + 1) rest)) (head_is_none head line (Ok next) e) ∙ more next h
by_head names head n line rest t (Some (Err r)) e more h = absurd (ok_err _ t h)
by_head names head n line rest t None e more h =
    let c = body_counted head names n (line ∷ rest) t.lines 0 0 0 [] (with_counted head (read_body head names n 0 0 0 [] (line ∷ rest)) t h) in
    omega (arith, c)

on_counted : (names : List (List ℕ)) (head : HeadValue) (n : ℕ) (ls : List (List ℕ)) (t : TraceValue) → read_on names head n ls ≡ Ok t → length (body_numbers n ls) ≡ length t.lines
unfolding told
on_counted names head n [] t h = ap (λ r. length (told r)) h
on_counted names head n (line ∷ rest) t h = by_head names head n line rest t (head_line head line) refl (λ next. on_counted names next (n + 1) rest t) h

by_header : (names rest : List (List ℕ)) (r : Result ℕ Reason) (t : TraceValue) → behind_header names r rest ≡ Ok t → length (body_numbers 2 rest) ≡ length t.lines
by_header names rest (Ok threads) t h = on_counted names (bare threads) 2 rest t h
by_header names rest (Err e) t h = absurd (ok_err _ t h)

lines_counted : (names ls : List (List ℕ)) (t : TraceValue) → trace_with names ls ≡ Ok t → length (body_numbers 2 (drop 1 ls)) ≡ length t.lines
lines_counted names [] t h = absurd (ok_err _ t h)
lines_counted names (first ∷ rest) t h = by_header names rest (header_of (words first)) t h

counted : (b : List ℕ) (t : TraceValue) → trace b ≡ Ok t → length (body_numbers 2 (drop 1 (lines b))) ≡ length t.lines
unfolding trace
counted b t h = lines_counted (assigned_names (lines b)) (lines b) t h

-- ---- Short traces.
none_past : {A : Type 0} (xs : List A) (k : ℕ) → slice_get xs k ≡ None → length xs ≤ k
none_past xs k h = elim (slice_get_cases xs k).1 [
  | inl p ↦ absurd (none-some p.0 (sym h ∙ p.2))
  | inr p ↦ p.0
]

past_or : (past : Option ℕ) (read : Result TraceValue Defect) (t : TraceValue) → read ≡ Ok t → limited past read ≡ Ok t → past ≡ None
past_or None read t e h = refl
past_or (Some n) read t e h = absurd (ok_err _ t (sym (ap (limited (Some n)) e) ∙ h))

pub short_is_few : (b : List ℕ) (t : TraceValue) → trace b ≡ Ok t → short_trace b ≡ Ok t → length t.lines ≤ most_raced
unfolding short_trace
short_is_few b t e h =
    let c = counted b t e in
    let l = none_past (body_numbers 2 (drop 1 (lines b))) most_raced (past_or (line_past most_raced b) (trace b) t e h) in
    omega (arith, c, l)

pub few_is_short : (b : List ℕ) (t : TraceValue) → trace b ≡ Ok t → length t.lines ≤ most_raced → short_trace b ≡ Ok t
unfolding short_trace
few_is_short b t e l =
    let c = counted b t e in
    ap (λ o. limited o (trace b)) (slice_get_past (body_numbers 2 (drop 1 (lines b))) most_raced (omega (arith, c, l))) ∙ e

refused : (here : Bool) (d x : Defect) (t : TraceValue) → (if here then Err d else Err x) ≡ Ok t → ⊥
refused true d x t e = ok_err d t e
refused false d x t e = ok_err x t e

limited_of : (past : Option ℕ) (read : Result TraceValue Defect) (t : TraceValue) → limited past read ≡ Ok t → read ≡ Ok t
limited_of None read t e = e
limited_of (Some n) (Ok x) t e = absurd (ok_err _ t e)
limited_of (Some n) (Err d) t e = absurd (refused _ d _ t e)

pub short_is_one : (b : List ℕ) (t : TraceValue) → short_trace b ≡ Ok t → trace b ≡ Ok t
unfolding short_trace
short_is_one b t e = limited_of (line_past most_raced b) (trace b) t e
