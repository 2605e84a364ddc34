-- Parts between line feeds, and the first that is `recording`.
use Rattle.std.proofs.Common.{◌≡◌, ℕ, ◌+◌, ◌<◌, Bool, true, false, cond, List, [], ◌∷◌, ◌++◌, length, refl, sym, ap, ◌∙◌, arith, append_assoc, Option, None, Some}
use Rattle.std.proofs.lemmas.Bool.{cond-true, cond-false}
use Rattle.std.specs.Prelude.{codes, if◌then◌else◌}
use Rattle.std.specs.Char.{is_newline}
use Rattle.std.specs.List.{slice_split, onto_first}
use Rattle.std.specs.Str.{bytes_eq}
use Rattle.egl_calls.specs.declared.entries.Entry.{Entry}
use Rattle.egl_model.specs.State.{State}
use Rattle.egl_model.specs.Sweep.{census}
use Rattle.trace_model.specs.Recording.{entry_lines, census_line, fronts_text, recording_of}
use Rattle.journal_text.proofs.ReadLaws.{some_part}
use Rattle.journal_text.specs.Cuts.{cut_parts, cut_recording}
use Rattle.journal_text.specs.declared.cuts.Cut.{Cut}

-- ---- How long parts are, each with a line feed.
abbrev span : List (List ℕ) → ℕ
span [] = 0
span (p ∷ ps) = (length p + 1) + span ps

longer : (b : ℕ) (ps : List (List ℕ)) → 0 < length ps → span (onto_first b ps) ≡ span ps + 1
longer b [] h = absurd (omega (arith, h))
longer b (p ∷ ps) h = omega arith

span_is : (xs : List ℕ) → span (slice_split is_newline xs) ≡ length xs + 1
span_is [] = refl
span_is (x ∷ xs) = by_feed (span_is xs) (is_newline x)
  where
    by_feed : span (slice_split is_newline xs) ≡ length xs + 1 → (b : Bool) → span (cond b ([] ∷ slice_split is_newline xs) (onto_first x (slice_split is_newline xs))) ≡ length (x ∷ xs) + 1
    by_feed more true = omega (arith, more)
    by_feed more false = omega (arith, more, longer x (slice_split is_newline xs) (some_part xs))

-- a part, a line feed and what stands behind it
pub cut_long : (rest line more : List ℕ) → slice_split is_newline rest ≡ line ∷ slice_split is_newline more → length rest ≡ (length line + 1) + length more
cut_long rest line more h =
    let all : span (slice_split is_newline rest) ≡ (length line + 1) + span (slice_split is_newline more) = ap span h in
    omega (arith, all, span_is rest, span_is more)

-- ---- One part after another.
module _ (front n : ℕ) (all : Option Cut) where
  module _ (rest line more : List ℕ) (cut : slice_split is_newline rest ≡ line ∷ slice_split is_newline more) (g : cut_parts front n (slice_split is_newline rest) ≡ all) where
    pub found : bytes_eq line (codes "recording") ≡ true → Some (record { front = front; line = n }) ≡ all
    found h = sym (cond-true (bytes_eq line (codes "recording")) (Some (record { front = front; line = n })) (cut_parts (front + (length line + 1)) (n + 1) (slice_split is_newline more)) h) ∙ sym (ap (cut_parts front n) cut) ∙ g

    pub went_by : bytes_eq line (codes "recording") ≡ false → cut_parts (front + (length line + 1)) (n + 1) (slice_split is_newline more) ≡ all
    went_by h = sym (cond-false (bytes_eq line (codes "recording")) (Some (record { front = front; line = n })) (cut_parts (front + (length line + 1)) (n + 1) (slice_split is_newline more)) h) ∙ sym (ap (cut_parts front n) cut) ∙ g

  module _ (rest : List ℕ) (cut : slice_split is_newline rest ≡ rest ∷ []) (g : cut_parts front n (slice_split is_newline rest) ≡ all) where
    pub found_last : bytes_eq rest (codes "recording") ≡ true → Some (record { front = front; line = n }) ≡ all
    found_last h = sym (cond-true (bytes_eq rest (codes "recording")) (Some (record { front = front; line = n })) None h) ∙ sym (ap (cut_parts front n) cut) ∙ g

    pub found_none : bytes_eq rest (codes "recording") ≡ false → None ≡ all
    found_none h = sym (cond-false (bytes_eq rest (codes "recording")) (Some (record { front = front; line = n })) None h) ∙ sym (ap (cut_parts front n) cut) ∙ g

-- ---- Bytes in front of a recording.
onto_append : (b : ℕ) (ps qs : List (List ℕ)) → 0 < length ps → onto_first b (ps ++ qs) ≡ onto_first b ps ++ qs
onto_append b [] qs h = absurd (omega (arith, h))
onto_append b (p ∷ ps) qs h = refl

pub split_both : (xs ys : List ℕ) → slice_split is_newline (xs ++ 10 ∷ ys) ≡ slice_split is_newline xs ++ slice_split is_newline ys
split_both [] ys = refl
split_both (x ∷ xs) ys = by_feed (split_both xs ys) (is_newline x)
  where
    by_feed : slice_split is_newline (xs ++ 10 ∷ ys) ≡ slice_split is_newline xs ++ slice_split is_newline ys → (b : Bool) → cond b ([] ∷ slice_split is_newline (xs ++ 10 ∷ ys)) (onto_first x (slice_split is_newline (xs ++ 10 ∷ ys))) ≡ cond b ([] ∷ slice_split is_newline xs) (onto_first x (slice_split is_newline xs)) ++ slice_split is_newline ys
    by_feed more true = ap (λ (ps : List (List ℕ)). [] ∷ ps) more
    by_feed more false = ap (onto_first x) more ∙ onto_append x (slice_split is_newline xs) (slice_split is_newline ys) (some_part xs)

not_none : (x : Cut) → Some x ≡ None → ⊥
not_none x h = let e : Some x ≡ None = h in cc

behind_parts : (ps qs : List (List ℕ)) (front n : ℕ) → cut_parts front n ps ≡ None → cut_parts front n (ps ++ qs) ≡ cut_parts (front + span ps) (n + length ps) qs
behind_parts [] qs front n h = ap (λ (k : ℕ). cut_parts k n qs) (let z : front ≡ front + 0 = omega arith in z) ∙ ap (λ (k : ℕ). cut_parts (front + 0) k qs) (let z : n ≡ n + 0 = omega arith in z)
behind_parts (p ∷ ps) qs front n h = by_part (behind_parts ps qs (front + (length p + 1)) (n + 1)) (bytes_eq p (codes "recording")) h
  where
    by_part : (cut_parts (front + (length p + 1)) (n + 1) ps ≡ None → cut_parts (front + (length p + 1)) (n + 1) (ps ++ qs) ≡ cut_parts (front + (length p + 1) + span ps) (n + 1 + length ps) qs) → (b : Bool) → (if b then Some (record { front = front; line = n }) else cut_parts (front + (length p + 1)) (n + 1) ps) ≡ None → (if b then Some (record { front = front; line = n }) else cut_parts (front + (length p + 1)) (n + 1) (ps ++ qs)) ≡ cut_parts (front + span (p ∷ ps)) (n + length (p ∷ ps)) qs
    by_part on true g = absurd (not_none (record { front = front; line = n }) g)
    by_part on false g =
        on g
        ∙ ap (λ (k : ℕ). cut_parts k (n + 1 + length ps) qs) (let z : front + (length p + 1) + span ps ≡ front + span (p ∷ ps) = omega arith in z)
        ∙ ap (λ (k : ℕ). cut_parts (front + span (p ∷ ps)) k qs) (let z : n + 1 + length ps ≡ n + length (p ∷ ps) = omega arith in z)

pub cut_behind : (front rest : List ℕ) → cut_recording front ≡ None → cut_recording (front ++ (10 ∷ (codes "recording\n" ++ rest))) ≡ Some (record { front = length front + 1; line = length (slice_split is_newline front) + 1 })
unfolding cut_recording
cut_behind front rest h =
    let ps = slice_split is_newline front in
    ap (cut_parts 0 1) (split_both front (codes "recording\n" ++ rest))
    ∙ behind_parts ps (codes "recording" ∷ slice_split is_newline rest) 0 1 h
    ∙ ap {B = Option Cut} (λ (k : ℕ). Some (record { front = k; line = 1 + length ps })) (let z : 0 + span ps ≡ length front + 1 = omega (arith, span_is front) in z)
    ∙ ap {B = Option Cut} (λ (k : ℕ). Some (record { front = length front + 1; line = k })) (let z : 1 + length ps ≡ length ps + 1 = omega arith in z)

-- a recording's first line, and the lines behind it
first_line : (e c f : List ℕ) → codes "recording\n" ++ e ++ c ++ codes "\n" ++ f ++ codes "end\n" ≡ codes "recording\n" ++ (e ++ (c ++ (codes "\n" ++ (f ++ codes "end\n"))))
first_line e c f = simp append_assoc refl

later_text : List Entry → State → List ℕ
later_text es s = entry_lines es ++ (census_line (census s) ++ (codes "\n" ++ (fronts_text s.windows ++ codes "end\n")))

recording_is : (es : List Entry) (s : State) → recording_of es s ≡ codes "recording\n" ++ later_text es s
unfolding recording_of later_text
recording_is es s = first_line (entry_lines es) (census_line (census s)) (fronts_text s.windows)

at_once : (rest : List ℕ) → cut_recording (codes "recording\n" ++ rest) ≡ Some (record { front = 0; line = 1 })
unfolding cut_recording
at_once rest = refl

pub cut_at_once : (es : List Entry) (s : State) → cut_recording (recording_of es s) ≡ Some (record { front = 0; line = 1 })
cut_at_once es s = ap cut_recording (recording_is es s) ∙ at_once (later_text es s)

pub cut_off : (front : List ℕ) (es : List Entry) (s : State) → cut_recording front ≡ None → cut_recording (front ++ codes "\n" ++ recording_of es s) ≡ Some (record { front = length front + 1; line = length (slice_split is_newline front) + 1 })
cut_off front es s h =
    ap cut_recording (append_assoc front (codes "\n") (recording_of es s) ∙ ap (λ (r : List ℕ). front ++ (10 ∷ r)) (recording_is es s))
    ∙ cut_behind front (later_text es s) h
