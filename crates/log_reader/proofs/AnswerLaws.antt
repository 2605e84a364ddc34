-- The numbers of a list, one item after another.
use Rattle.std.proofs.Common.{◌≡◌, ℕ, ◌+◌, ◌<◌, ℤ, List, [], ◌∷◌, ◌++◌, drop, length, get_or, refl, sym, ap, ◌∙◌, arith, append_assoc, Option, None, Some, Bor, map, take}
use Rattle.std.proofs.lemmas.List.{append-nil, at_drop_more, at_drop_all, take-map, drop-map, length-map}
use Rattle.trace_reader.specs.Lists.{comma_parts, items, with_item}
use Rattle.trace_reader.proofs.ListLaws.{items_some, numbers_behind}
use Rattle.log_reader.specs.Numbers.{answer_number}
use Rattle.log_reader.specs.Answers.{answer_numbers}

numbers_none : (o : Option (List ℤ)) → numbers_behind [] o ≡ o
unfolding numbers_behind
numbers_none None = refl
numbers_none (Some zs) = refl

pub numbers_of_items : (text : List ℕ) → 0 < length text → numbers_behind [] (answer_numbers (comma_parts text)) ≡ answer_numbers (items text)
numbers_of_items text h = numbers_none (answer_numbers (comma_parts text)) ∙ ap answer_numbers (items_some text h)

numbers_step : (found : List ℤ) (z : ℤ) (o : Option (List ℤ)) → numbers_behind found (with_item (Some z) o) ≡ numbers_behind (found ++ z ∷ []) o
unfolding numbers_behind
numbers_step found z None = refl
numbers_step found z (Some zs) = ap (λ (r : List ℤ). Some r) (sym (append_assoc found (z ∷ []) zs))

numbers_all : (found : List ℤ) → numbers_behind found (Some []) ≡ Some found
unfolding numbers_behind
numbers_all found = ap (λ (r : List ℤ). Some r) (append-nil found)

-- an item that is no number, an item that is one, and the end
pub bad_item : (found : List ℤ) (ws : List (List ℕ)) (n : ℕ) (w : List ℕ) → (n < length ws) × (w ≡ get_or ws n w) → answer_number w ≡ None → numbers_behind found (answer_numbers (drop n ws)) ≡ None
unfolding numbers_behind
bad_item found ws n w h u =
    ap (numbers_behind found) (at_drop_more answer_numbers ws n w h.0)
    ∙ ap (λ (o : Option ℤ). numbers_behind found (with_item o (answer_numbers (drop (n + 1) ws)))) (ap answer_number (sym h.1) ∙ u)

pub number_item : (found : List ℤ) (ws : List (List ℕ)) (n : ℕ) (w : List ℕ) (z : ℤ) → (n < length ws) × (w ≡ get_or ws n w) → answer_number w ≡ Some z → numbers_behind (found ++ z ∷ []) (answer_numbers (drop (n + 1) ws)) ≡ numbers_behind found (answer_numbers (drop n ws))
number_item found ws n w z h u =
    sym (ap (numbers_behind found) (at_drop_more answer_numbers ws n w h.0)
    ∙ ap (λ (o : Option ℤ). numbers_behind found (with_item o (answer_numbers (drop (n + 1) ws)))) (ap answer_number (sym h.1) ∙ u)
    ∙ numbers_step found z (answer_numbers (drop (n + 1) ws)))

pub no_item : (found : List ℤ) (ws : List (List ℕ)) (n : ℕ) → n ≡ length ws → numbers_behind found (answer_numbers (drop n ws)) ≡ Some found
no_item found ws n e = ap (numbers_behind found) (at_drop_all answer_numbers ws n (omega arith)) ∙ numbers_all found

-- ---- The words of an answer, and those in front of it.
abbrev pub texts : List (Bor (List ℕ)) → List (List ℕ)
texts words = map (λ (w : Bor (List ℕ)). w.now) words

pub first_words : (words : List (Bor (List ℕ))) (n : ℕ) → texts (take n words) ≡ take n (texts words)
first_words words n = sym (take-map (λ (w : Bor (List ℕ)). w.now) n words)

pub words_behind : (words : List (Bor (List ℕ))) (n : ℕ) → texts (drop n words) ≡ drop n (texts words)
words_behind words n = sym (drop-map (λ (w : Bor (List ℕ)). w.now) n words)

pub as_many : (words : List (Bor (List ℕ))) → length (texts words) ≡ length words
as_many words = length-map words (λ (w : Bor (List ℕ)). w.now)
