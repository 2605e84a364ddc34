-- A text has as many lines as line feeds, where it ends with one.
use Rattle.std.proofs.Common.{◌≡◌, ℕ, suc, ◌+◌, ◌<◌, ◌^◌, Bool, true, false, cond, ◌==◌, List, [], ◌∷◌, ◌++◌, length, refl, ap, ◌∙◌, arith, decimal}
use Rattle.std.proofs.lemmas.Bool.{cond-false, ne_eqb}
use Rattle.std.specs.Char.{is_newline}
use Rattle.std.specs.List.{onto_first, slice_split}
use Rattle.std.specs.Str.Lines.{lines, lines_of_parts}
use Rattle.journal_text.proofs.WordLaws.{From, from_decimal, from_less}

-- how many line feeds there are
abbrev pub feeds : List ℕ → ℕ
feeds [] = 0
feeds (b ∷ bs) = cond (b == 10) (suc (feeds bs)) (feeds bs)

-- ---- The parts between line feeds.
on_more : (x : ℕ) (parts more : List (List ℕ)) → 0 < length parts → onto_first x (parts ++ more) ≡ onto_first x parts ++ more
on_more x [] more l = absurd (omega (arith, l))
on_more x (p ∷ ps) more l = refl

length_onto : (x : ℕ) (parts : List (List ℕ)) → 0 < length parts → length (onto_first x parts) ≡ length parts
length_onto x [] l = absurd (omega (arith, l))
length_onto x (p ∷ ps) l = refl

by_feed : (b : Bool) (x : ℕ) (parts : List (List ℕ)) (k : ℕ) → length parts ≡ suc k → length (cond b ([] ∷ parts) (onto_first x parts)) ≡ suc (cond b (suc k) k)
by_feed true x parts k h = omega (arith, h)
by_feed false x parts k h = length_onto x parts (omega (arith, h)) ∙ h

parts_long : (bs : List ℕ) → length (slice_split is_newline bs) ≡ suc (feeds bs)
parts_long [] = refl
parts_long (b ∷ bs) = by_feed (b == 10) b (slice_split is_newline bs) (feeds bs) (parts_long bs)

parted : (b : Bool) (x : ℕ) (parts more : List (List ℕ)) → 0 < length parts → cond b ([] ∷ (parts ++ more)) (onto_first x (parts ++ more)) ≡ cond b ([] ∷ parts) (onto_first x parts) ++ more
parted true x parts more l = refl
parted false x parts more l = on_more x parts more l

-- cut at a line feed
cut : (bs rest : List ℕ) → slice_split is_newline (bs ++ 10 ∷ rest) ≡ slice_split is_newline bs ++ slice_split is_newline rest
cut [] rest = refl
cut (b ∷ bs) rest =
    ap (λ (ps : List (List ℕ)). cond (b == 10) ([] ∷ ps) (onto_first b ps)) (cut bs rest)
    ∙ parted (b == 10) b (slice_split is_newline bs) (slice_split is_newline rest) (let l = parts_long bs in omega (arith, l))

-- all parts but the last are lines
all_but_last : (parts more : List (List ℕ)) → 0 < length more → length (lines_of_parts (parts ++ more)) ≡ length parts + length (lines_of_parts more)
all_but_last [] more l = omega arith
all_but_last (p ∷ []) (q ∷ more) l = omega arith
all_but_last (p ∷ []) [] l = absurd (omega (arith, l))
all_but_last (p ∷ q ∷ parts) more l = let h = all_but_last (q ∷ parts) more l in omega (arith, h)

pub lines_fed : (bs : List ℕ) → length (lines (bs ++ 10 ∷ [])) ≡ suc (feeds bs)
lines_fed bs =
    ap (λ (ps : List (List ℕ)). length (lines_of_parts ps)) (cut bs [])
    ∙ all_but_last (slice_split is_newline bs) ([] ∷ []) (omega arith)
    ∙ (let l = parts_long bs in omega (arith, l))

-- ---- Numbers have none.
pub past : (w rest : List ℕ) → From 11 w → feeds (w ++ rest) ≡ feeds rest
past [] rest f = refl
past (b ∷ bs) rest f = cond-false (b == 10) _ _ (ne_eqb b 10 (λ e. absurd (omega (arith, e, f.0)))) ∙ past bs rest f.1

pub past_decimal : (n : ℕ) (rest : List ℕ) → n < 10 ^ 64 → feeds (decimal n ++ rest) ≡ feeds rest
past_decimal n rest h = past (decimal n) rest (from_less 11 48 (decimal n) (omega arith) (from_decimal n h))
