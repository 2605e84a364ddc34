-- Joined words, part by part.
use Rattle.std.proofs.Common.{◌≡◌, ℕ, ◌+◌, ◌<◌, ◌≤◌, Bool, true, false, ◌&&◌, ◌||◌, List, [], ◌∷◌, take, drop, length, get_or, refl, sym, ap, ◌∙◌, arith, cond, ℤ, pos, Option, None, Some, ⊎_elim}
use Rattle.std.specs.Prelude.{if◌then◌else◌, bit_or, is_some, is_none}
use Rattle.std.proofs.Math.Seq.{take-length}
use Rattle.std.proofs.Math.Nat.{eq-or-lt_of_le}
use Rattle.std.specs.Option.{option_map_or, option_or, option_map}
use Rattle.std.specs.List.{slice_split, onto_first, position_or_len, All, list_any, list_all, filter_map, fold, cons_option}
use Rattle.std.proofs.lemmas.List.Splits.{slice_split_none, slice_split_first}
use Rattle.std.proofs.lemmas.List.Sums.{fails_before_first, position_or_len_is}
use Rattle.std.proofs.lemmas.Bool.{and_right}
use Rattle.egl_names.specs.Names.{bit_word, is_bit_word, code_of, number_word, plain_words, value_in}
use Rattle.egl_names.specs.Joined.{is_bar, parts, is_unknown_name, joined_bits, joined, joined_word, known_word, begins_with, is_name_start}
use Rattle.egl_names.specs.Parts.{part_of, is_unknown_part, with_part, word_of_bits, single_word, joined_parts}
use Rattle.egl_names.specs.declared.joined.Part.TheVariants.{Bit as PartBit, UnknownName as PartUnknownName, NoBit}
use Rattle.egl_names.specs.declared.joined.Word.{Word}
use Rattle.egl_names.specs.declared.joined.Word.TheVariants.{Number, UnknownName, BadForm}

pub place_none : (xs : List ℕ) (n : ℕ) → n ≡ length xs → ((k : ℕ) → k < n → is_bar (get_or xs k 0) ≡ false) → n ≡ position_or_len is_bar xs
place_none xs n e h = sym (position_or_len_is is_bar xs n 0 (omega arith) h (λ l. absurd (omega arith)))

pub place_some : (xs : List ℕ) (n : ℕ) → n < length xs → ((k : ℕ) → k < n → is_bar (get_or xs k 0) ≡ false) → is_bar (get_or xs n 0) ≡ true → n ≡ position_or_len is_bar xs
place_some xs n l h e = sym (position_or_len_is is_bar xs n 0 (omega arith) h (λ _. e))

none_all : (xs : List ℕ) → position_or_len is_bar xs ≡ length xs → All (λ x. is_bar x ≡ false) xs
none_all xs e k d h = fails_before_first is_bar xs k d (omega arith)

pub parts_last : (xs : List ℕ) (n : ℕ) → n ≡ position_or_len is_bar xs → n ≡ length xs → parts xs ≡ xs ∷ []
unfolding parts
parts_last xs n e l = slice_split_none is_bar xs (none_all xs (sym e ∙ l))

pub parts_more : (xs : List ℕ) (n : ℕ) → n ≡ position_or_len is_bar xs → n < length xs → parts xs ≡ take n xs ∷ parts (drop (n + 1) xs)
unfolding parts
parts_more xs n e l = rw e (slice_split_first is_bar xs 0 (omega arith))

-- the bits so far, and those of some parts
bits_after : Option ℕ → List (List ℕ) → Option ℕ
bits_after bits [] = bits
bits_after bits (w ∷ ws) = bits_after (with_part bits (part_of w)) ws

-- what the parts that are left give
unfoldable pub word_after : Option ℕ → List (List ℕ) → Word
unfolding bits_after
word_after bits ws = if list_any is_unknown_name ws then UnknownName else word_of_bits (bits_after bits ws)

none_stays : (ws : List (List ℕ)) → bits_after None ws ≡ None
unfolding bits_after
none_stays [] = refl
none_stays (w ∷ ws) = none_stays ws

-- the bits of n and of all words, or a bad form
abbrev whole : ℕ → List (List ℕ) → Word
whole n ws = if list_all is_bit_word ws then Number (pos (fold bit_or n (filter_map bit_word ws))) else BadForm

whole_step : (n : ℕ) (ws : List (List ℕ)) (o : Option ℕ) → ((m : ℕ) → word_of_bits (bits_after (Some m) ws) ≡ whole m ws)
    → (u : Bool) → word_of_bits (bits_after (with_part (Some n) (option_map_or PartBit o (if u then PartUnknownName else NoBit))) ws) ≡ (if is_some o && list_all is_bit_word ws then Number (pos (fold bit_or n (cons_option o (filter_map bit_word ws)))) else BadForm)
whole_step n ws (Some b) more u = more (bit_or n b)
whole_step n ws None more true = ap word_of_bits (none_stays ws)
whole_step n ws None more false = ap word_of_bits (none_stays ws)

whole_is : (n : ℕ) (ws : List (List ℕ)) → word_of_bits (bits_after (Some n) ws) ≡ whole n ws
unfolding bits_after
whole_is n [] = refl
whole_is n (w ∷ ws) = whole_step n ws (bit_word w) (λ m. whole_is m ws) (is_unknown_name w)

pub word_after_none : (ws : List (List ℕ)) → word_after (Some 0) ws ≡ joined_parts ws
unfolding word_after joined_parts joined_bits
word_after_none ws = ap (λ (w : Word). if list_any is_unknown_name ws then UnknownName else w) (whole_is 0 ws)

-- a bit is a known word
bit_is_known : (w : List ℕ) (b : ℕ) → bit_word w ≡ Some b → is_none (known_word w) ≡ false
unfolding known_word number_word
bit_is_known w b e = ap (λ (o : Option ℕ). is_none (option_or (option_map pos (code_of w)) (option_or (value_in plain_words w) (option_map pos o)))) e ∙ go (option_map pos (code_of w)) (value_in plain_words w)
  where
    go : (o p : Option ℤ) → is_none (option_or o (option_or p (Some (pos b)))) ≡ false
    go (Some x) p = refl
    go None (Some x) = refl
    go None None = refl

-- which parts are unknown names
unknown_is : (w : List ℕ) → is_unknown_part (part_of w) ≡ is_unknown_name w
unknown_is w = go (bit_word w) (is_unknown_name w) refl refl
  where
    go : (o : Option ℕ) (u : Bool) → bit_word w ≡ o → is_unknown_name w ≡ u → is_unknown_part (option_map_or PartBit o (if u then PartUnknownName else NoBit)) ≡ u
    go (Some b) u f g = sym (and_right (begins_with is_name_start w) (is_none (known_word w)) (bit_is_known w b f)) ∙ g
    go None true f g = refl
    go None false f g = refl

pub word_after_more : (bits : Option ℕ) (w : List ℕ) (ws : List (List ℕ)) → is_unknown_part (part_of w) ≡ false → word_after bits (w ∷ ws) ≡ word_after (with_part bits (part_of w)) ws
unfolding word_after bits_after
word_after_more bits w ws e = ap (λ (b : Bool). if b || list_any is_unknown_name ws then UnknownName else word_of_bits (bits_after (with_part bits (part_of w)) ws)) (sym (unknown_is w) ∙ e)

pub word_after_unknown : (bits : Option ℕ) (w : List ℕ) (ws : List (List ℕ)) → is_unknown_part (part_of w) ≡ true → word_after bits (w ∷ ws) ≡ UnknownName
unfolding word_after bits_after
word_after_unknown bits w ws e = ap (λ (b : Bool). if b || list_any is_unknown_name ws then UnknownName else word_of_bits (bits_after (with_part bits (part_of w)) ws)) (sym (unknown_is w) ∙ e)

pub word_after_all : (bits : Option ℕ) → word_after bits [] ≡ word_of_bits bits
unfolding word_after bits_after
word_after_all bits = refl

-- a text with no bar is one word, which begins like a name
one_cases : (o : Option ℤ) (b : Bool) → b ≡ true → (if (b && is_none o) || false then UnknownName else option_map_or Number o BadForm) ≡ option_map_or Number o UnknownName
one_cases (Some n) true e = refl
one_cases None true e = refl
one_cases o false e = absurd (let g : false ≡ true = e in cc)

-- what parts give, where the text begins like a name
parted : List (List ℕ) → Word
parted ps = if list_any is_unknown_name ps then UnknownName else joined ps

joined_word_parted : (w : List ℕ) → begins_with is_name_start w ≡ true → joined_word w ≡ parted (parts w)
unfolding joined_word parted
joined_word_parted w b = ap (λ (x : Bool). if x then parted (parts w) else BadForm) b

pub joined_word_other : (w : List ℕ) → begins_with is_name_start w ≡ false → joined_word w ≡ BadForm
unfolding joined_word parted
joined_word_other w b = ap (λ (x : Bool). if x then parted (parts w) else BadForm) b

pub joined_word_one : (w : List ℕ) → begins_with is_name_start w ≡ true → parts w ≡ w ∷ [] → joined_word w ≡ single_word w
unfolding parted
joined_word_one w b e = joined_word_parted w b ∙ ap parted e ∙ one_cases (known_word w) (begins_with is_name_start w) b

-- a text with a bar has two parts or more
some_parts : (w : List ℕ) → (x : List ℕ) × (more : List (List ℕ)) × (parts w ≡ x ∷ more)
unfolding parts
some_parts [] = ([], [], refl)
some_parts (x ∷ xs) = go (is_bar x) (some_parts xs)
  where
    go : (b : Bool) → ((y : List ℕ) × (more : List (List ℕ)) × (slice_split is_bar xs ≡ y ∷ more)) → (y : List ℕ) × (more : List (List ℕ)) × (cond b ([] ∷ slice_split is_bar xs) (onto_first x (slice_split is_bar xs)) ≡ y ∷ more)
    go true r = ([], slice_split is_bar xs, refl)
    go false r = (x ∷ r.0, r.1, ap (onto_first x) r.2)

pub joined_word_more : (w p rest : List ℕ) → begins_with is_name_start w ≡ true → parts w ≡ p ∷ parts rest → joined_word w ≡ joined_parts (parts w)
unfolding joined_parts parted
joined_word_more w p rest d e =
    let more = some_parts rest in
    let two : parts w ≡ p ∷ more.0 ∷ more.1 = e ∙ ap (λ (r : List (List ℕ)). p ∷ r) more.2 in
    joined_word_parted w d ∙ ap parted two ∙ sym (ap joined_parts two)

-- a step of the walk over the parts
pub last_part : (bits : Option ℕ) (xs w : List ℕ) (n : ℕ) → n ≡ position_or_len is_bar xs → n ≡ length xs → w ≡ take n xs → is_unknown_part (part_of w) ≡ false
    → word_after bits (parts xs) ≡ word_of_bits (with_part bits (part_of w))
last_part bits xs w n e l p u =
    let all : w ≡ xs = p ∙ ap (λ (k : ℕ). take k xs) l ∙ take-length xs in
    ap (word_after bits) (parts_last xs n e l ∙ ap (λ (x : List ℕ). x ∷ []) (sym all)) ∙ word_after_more bits w [] u ∙ word_after_all (with_part bits (part_of w))

pub next_part : (bits : Option ℕ) (xs w more : List ℕ) (n : ℕ) → n ≡ position_or_len is_bar xs → n < length xs → w ≡ take n xs → more ≡ drop (n + 1) xs → is_unknown_part (part_of w) ≡ false
    → word_after (with_part bits (part_of w)) (parts more) ≡ word_after bits (parts xs)
next_part bits xs w more n e l p m u =
    sym (ap (word_after bits) (parts_more xs n e l ∙ cc) ∙ word_after_more bits w (parts more) u)

pub unknown_part : (bits : Option ℕ) (xs w : List ℕ) (n : ℕ) → n ≡ position_or_len is_bar xs → n ≤ length xs → w ≡ take n xs → is_unknown_part (part_of w) ≡ true
    → word_after bits (parts xs) ≡ UnknownName
unknown_part bits xs w n e l p u = ⊎_elim
    (λ (same : n ≡ length xs). ap (word_after bits) (parts_last xs n e same) ∙ word_after_unknown bits xs [] (ap (λ (x : List ℕ). is_unknown_part (part_of x)) (sym (p ∙ ap (λ (k : ℕ). take k xs) same ∙ take-length xs)) ∙ u))
    (λ (less : n < length xs). ap (word_after bits) (parts_more xs n e less) ∙ word_after_unknown bits (take n xs) (parts (drop (n + 1) xs)) (ap (λ (x : List ℕ). is_unknown_part (part_of x)) (sym p) ∙ u))
    (eq-or-lt_of_le l)
