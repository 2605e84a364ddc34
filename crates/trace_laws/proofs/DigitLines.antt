-- Texts each of whose lines begins with a digit, and the traces whose body they are.
use Rattle.std.proofs.Common.{◌≡◌, ℕ, ◌+◌, ◌<◌, ◌≤◌, ◌^◌, Bool, true, false, cond, ◌&&◌, ◌==◌, nat_le, List, [], ◌∷◌, ◌++◌, length, length-append, refl, sym, ap, subst, ◌∙◌, arith, append_assoc, decimal, None}
use Rattle.std.specs.Prelude.{All, codes, filter, Result, Ok, Err}
use Rattle.std.specs.List.{list_all, onto_first, slice_split}
use Rattle.std.specs.Str.{bytes_eq}
use Rattle.std.specs.Str.Lines.{lines}
use Rattle.std.proofs.lemmas.Bool.{and_parts, and_right, cond-false, eqb-true, le-leb, leb-true, ne_eqb, or_from, false_from_ne_true}
use Rattle.std.proofs.lemmas.List.Elements.{All-cons, All-head, All-nil, All-tail}
use Rattle.std.proofs.lemmas.Slice.Eq.{bytes_eq-Decides}
use Rattle.journal_text.proofs.WordLaws.{From, decimal_numeral, from_append}
use Rattle.scene_trace.proofs.Spaced.{line_first}
use Rattle.trace_reader.specs.Body.{body_of, body_then, read_body, within_limits}
use Rattle.trace_reader.specs.Grammar.{head_then, read_on, with_lines}
use Rattle.trace_reader.specs.Heads.{HeadValue, head_line, head_said, is_bare}
use Rattle.trace_reader.specs.Numerals.{is_digit, is_numeral}
use Rattle.trace_reader.specs.Order.{more_variables}
use Rattle.trace_reader.specs.Payloads.{payload_bytes}
use Rattle.trace_reader.specs.Pixels.{pixel_bytes}
use Rattle.trace_reader.specs.Traces.{TraceValue}
use Rattle.trace_reader.specs.Words.{is_skipped, is_space, is_word, words}
use Rattle.trace_reader.specs.declared.traces.Defect.{Defect}
use Rattle.trace_reader.specs.declared.traces.Line.{Line}
use Rattle.trace_reader.specs.declared.traces.Reason.{Reason}

-- whether each line begins with a digit, has no control character and ends with a line feed: at the start of a line, or inside one
abbrev pub formed : Bool → List ℕ → Bool
formed at_start [] = at_start
formed true (b ∷ bs) = is_digit b && formed false bs
formed false (b ∷ bs) = cond (b == 10) (formed true bs) (nat_le 14 b && formed false bs)

-- ---- Past numbers and other words.
pub past_in : (w rest : List ℕ) → From 14 w → formed false (w ++ rest) ≡ formed false rest
past_in [] rest f = refl
past_in (b ∷ bs) rest f =
    cond-false (b == 10) _ _ (ne_eqb b 10 (λ e. absurd (omega (arith, e, f.0))))
    ∙ ap (λ (d : Bool). d && formed false (bs ++ rest)) (le-leb 14 b f.0)
    ∙ past_in bs rest f.1

digit_low : (b : ℕ) → is_digit b ≡ true → 48 ≤ b
digit_low b h = leb-true 48 b (and_parts (nat_le 48 b) (nat_le b 57) h).0

digits_from : (w : List ℕ) → list_all is_digit w ≡ true → From 14 w
digits_from [] h = tt
digits_from (b ∷ bs) h = let p = and_parts (is_digit b) (list_all is_digit bs) h in let l = digit_low b p.0 in (omega (arith, l), digits_from bs p.1)

numeral_digits : (w : List ℕ) → is_numeral w ≡ true → list_all is_digit w ≡ true
unfolding is_numeral
numeral_digits w e = (and_parts _ (list_all is_digit w) e).1

pub numeral_word : (w : List ℕ) → is_numeral w ≡ true → is_word w ≡ true
unfolding is_numeral
numeral_word [] e = e
numeral_word (b ∷ bs) e = refl

number_digits : (n : ℕ) → n < 10 ^ 64 → list_all is_digit (decimal n) ≡ true
number_digits n h = numeral_digits (decimal n) (decimal_numeral n h)

number_word : (n : ℕ) → n < 10 ^ 64 → is_word (decimal n) ≡ true
number_word n h = numeral_word (decimal n) (decimal_numeral n h)

pub number_in : (n : ℕ) (rest : List ℕ) → n < 10 ^ 64 → formed false (decimal n ++ rest) ≡ formed false rest
number_in n rest h = past_in (decimal n) rest (digits_from (decimal n) (number_digits n h))

started : (w rest : List ℕ) → is_word w ≡ true → list_all is_digit w ≡ true → formed true (w ++ rest) ≡ formed false rest
started [] rest e h = absurd (let f : false ≡ true = e in cc)
started (b ∷ bs) rest e h = let p = and_parts (is_digit b) (list_all is_digit bs) h in ap (λ (d : Bool). d && formed false (bs ++ rest)) p.0 ∙ past_in bs rest (digits_from bs p.1)

pub number_first : (n : ℕ) (rest : List ℕ) → n < 10 ^ 64 → formed true (decimal n ++ rest) ≡ formed false rest
number_first n rest h = started (decimal n) rest (number_word n h) (number_digits n h)

-- ---- So each line begins with a digit.
abbrev pub first_digit : List ℕ → Bool
first_digit [] = false
first_digit (b ∷ bs) = is_digit b

abbrev pub IsDigitLine : List ℕ → Type 0
IsDigitLine w = first_digit w ≡ true

record Formed (bs : List ℕ) : Type 0 where
  start : formed true bs ≡ true → All IsDigitLine (lines bs)
  inside : (before : List ℕ) → From 14 before → IsDigitLine before → formed false bs ≡ true → All IsDigitLine (lines (before ++ bs))

more_before : (before : List ℕ) (b : ℕ) → IsDigitLine before → IsDigitLine (before ++ b ∷ [])
more_before [] b h = absurd (let f : false ≡ true = h in cc)
more_before (x ∷ xs) b h = h

inside_by : (feed : Bool) (b : ℕ) (bs before : List ℕ) → (b == 10) ≡ feed → Formed bs → From 14 before → IsDigitLine before → cond feed (formed true bs) (nat_le 14 b && formed false bs) ≡ true → All IsDigitLine (lines (before ++ b ∷ bs))
inside_by true b bs before e f from digit h =
    let is : b ≡ 10 = eqb-true b 10 e in
    subst (λ (x : ℕ). All IsDigitLine (lines (before ++ x ∷ bs))) (sym is)
    (subst (λ (ls : List (List ℕ)). All IsDigitLine ls) (sym (line_first before bs from)) (All-cons IsDigitLine before (lines bs) digit (f.start h)))
inside_by false b bs before e f from digit h =
    let p = and_parts (nat_le 14 b) (formed false bs) h in
    subst (λ (x : List ℕ). All IsDigitLine (lines x)) (append_assoc before (b ∷ []) bs)
    (f.inside (before ++ b ∷ []) (from_append 14 before (b ∷ []) from (leb-true 14 b p.0, tt)) (more_before before b digit) p.1)

formed_lines : (bs : List ℕ) → Formed bs
formed_lines [] = record { start = λ h. All-nil IsDigitLine; inside = λ before from digit h. absurd (let f : false ≡ true = h in cc) }
formed_lines (b ∷ bs) = record {
  start = λ h. let p = and_parts (is_digit b) (formed false bs) h in let l = digit_low b p.0 in (formed_lines bs).inside (b ∷ []) (omega (arith, l), tt) p.0 p.1;
  inside = λ before from digit h. inside_by (b == 10) b bs before refl (formed_lines bs) from digit h;
}

pub digit_lines : (bs : List ℕ) → formed true bs ≡ true → All IsDigitLine (lines bs)
digit_lines bs h = (formed_lines bs).start h

-- ---- Such a line is one of the body: its first word begins with the digit.
onto_words : (b : ℕ) (parts : List (List ℕ)) → (p : List ℕ) × (more : List (List ℕ)) × (filter is_word (onto_first b parts) ≡ (b ∷ p) ∷ more)
onto_words b [] = ([], [], refl)
onto_words b (q ∷ qs) = (q, filter is_word qs, refl)

first_word : (b : ℕ) (bs : List ℕ) → is_digit b ≡ true → (p : List ℕ) × (more : List (List ℕ)) × (words (b ∷ bs) ≡ (b ∷ p) ∷ more)
unfolding words
first_word b bs h =
    let l = digit_low b h in
    let w = onto_words b (slice_split is_space bs) in
    (w.0, w.1, ap (filter is_word) (cond-false (is_space b) _ _ (ne_eqb b 32 (λ e. absurd (omega (arith, e, l))))) ∙ w.2)

head_byte : List ℕ → ℕ
head_byte [] = 0
head_byte (b ∷ bs) = b

other_word : (b c : ℕ) (p w : List ℕ) → head_byte w ≡ c → b < c → bytes_eq (b ∷ p) w ≡ false
unfolding head_byte
other_word b c p w e l = false_from_ne_true (bytes_eq (b ∷ p) w) (λ h. let f : b ≡ head_byte w = ap head_byte ((bytes_eq-Decides (b ∷ p) w).0 h) in absurd (omega (arith, e, f, l)))

digit_high : (b : ℕ) → is_digit b ≡ true → b ≤ 57
digit_high b h = leb-true b 57 (and_parts (nat_le 48 b) (nat_le b 57) h).1

not_said : (head : HeadValue) (b : ℕ) (p : List ℕ) (more : List (List ℕ)) → is_digit b ≡ true → head_said head ((b ∷ p) ∷ more) ≡ None
unfolding head_said head_byte
not_said head b p more h =
    let l = digit_high b h in
    cond-false (is_bare head && bytes_eq (b ∷ p) (codes "video")) _ _ (and_right (is_bare head) _ (other_word b 118 p (codes "video") refl (omega (arith, l))))
    ∙ cond-false (bytes_eq (b ∷ p) (codes "window")) _ _ (other_word b 119 p (codes "window") refl (omega (arith, l)))

not_skipped : (b : ℕ) (bs : List ℕ) → is_digit b ≡ true → is_skipped (b ∷ bs) ≡ false
not_skipped b bs h =
    let w = first_word b bs h in
    let l = digit_low b h in
    or_from (length (words (b ∷ bs)) == 0) (b == 35) (ap (λ (ws : List (List ℕ)). length ws == 0) w.2 ∙ ne_eqb (length ((b ∷ w.0) ∷ w.1)) 0 (λ e. absurd (omega (arith, e)))) (ne_eqb b 35 (λ e. absurd (omega (arith, e, l))))

skipped_never : (w : List ℕ) → IsDigitLine w → is_skipped w ≡ false
skipped_never [] h = absurd (let f : false ≡ true = h in cc)
skipped_never (b ∷ bs) h = not_skipped b bs h

no_head : (head : HeadValue) (w : List ℕ) → IsDigitLine w → head_line head w ≡ None
unfolding head_line
no_head head [] h = absurd (let f : false ≡ true = h in cc)
no_head head (b ∷ bs) h =
    let w = first_word b bs h in
    cond-false (is_skipped (b ∷ bs)) _ _ (not_skipped b bs h) ∙ ap (head_said head) w.2 ∙ not_said head b w.0 w.1 h

-- ---- As many lines are read.
abbrev ok_lines : List Line → Result (List Line) Defect
ok_lines ls = Ok ls

abbrev ok_trace : TraceValue → Result TraceValue Defect
ok_trace t = Ok t

of_lines : Result (List Line) Defect → ℕ
of_lines (Ok ls) = length ls
of_lines (Err d) = 0

of_trace : Result TraceValue Defect → ℕ
of_trace (Ok t) = length t.lines
of_trace (Err d) = 0

ok_err : {A : Type 0} (d : Defect) (x : A) → Err d ≡ Ok x → ⊥
ok_err d x h = cc

then_more : (n : ℕ) (r : Result Line Reason) (f : Line → Result (List Line) Defect) (out : List Line) → body_then n r f ≡ ok_lines out → (l : Line) × (f l ≡ ok_lines out)
then_more n (Ok l) f out h = (l, h)
then_more n (Err e) f out h = absurd (ok_err _ out h)

body_counts : (head : HeadValue) (names : List (List ℕ)) (n count pixels payloads : ℕ) (read : List Line) (ls : List (List ℕ)) (out : List Line) → All IsDigitLine ls → read_body head names n count pixels payloads read ls ≡ ok_lines out → length out ≡ length read + length ls
unfolding of_lines
body_counts head names n count pixels payloads read [] out a h = let e = ap of_lines h in omega (arith, e)
body_counts head names n count pixels payloads read (line ∷ rest) out a h =
    let s = skipped_never line (All-head IsDigitLine line rest a) in
    let next : Line → Result (List Line) Defect = λ l. read_body head names (n + 1) (more_variables count l.assigns) (pixels + pixel_bytes head.windows l.call) (payloads + payload_bytes l.call) (read ++ l ∷ []) rest in
    let w = within_limits head.windows (length read) pixels payloads (body_of head.threads names count n (words line)) in
    let x = then_more n w next out (sym (cond-false (is_skipped line) (read_body head names (n + 1) count pixels payloads read rest) (body_then n w next) s) ∙ h) in
    let e = body_counts head names (n + 1) (more_variables count x.0.assigns) (pixels + pixel_bytes head.windows x.0.call) (payloads + payload_bytes x.0.call) (read ++ x.0 ∷ []) rest out (All-tail IsDigitLine line rest a) x.1 in
    omega (arith, e, length-append read (x.0 ∷ []))

with_counts : (head : HeadValue) (names : List (List ℕ)) (n : ℕ) (ls : List (List ℕ)) (r : Result (List Line) Defect) (t : TraceValue) → read_body head names n 0 0 0 [] ls ≡ r → All IsDigitLine ls → with_lines head r ≡ ok_trace t → length t.lines ≡ length ls
unfolding of_trace
with_counts head names n ls (Ok out) t e a h = let k = body_counts head names n 0 0 0 [] ls out a e in let m = ap of_trace h in omega (arith, k, m)
with_counts head names n ls (Err d) t e a h = absurd (ok_err d t h)

pub lines_counts : (names : List (List ℕ)) (head : HeadValue) (n : ℕ) (ls : List (List ℕ)) (t : TraceValue) → All IsDigitLine ls → read_on names head n ls ≡ ok_trace t → length t.lines ≡ length ls
unfolding of_trace
lines_counts names head n [] t a h = sym (ap of_trace h)
lines_counts names head n (line ∷ rest) t a h =
    let all = read_body head names n 0 0 0 [] (line ∷ rest) in
    let e = ap (λ o. head_then n o (λ next. read_on names next (n + 1) rest) (with_lines head all)) (no_head head line (All-head IsDigitLine line rest a)) in
    with_counts head names n (line ∷ rest) all t refl a (sym e ∙ h)
