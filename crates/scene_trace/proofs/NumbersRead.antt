-- Numbers are read back as they are written.
use Rattle.std.proofs.Common.{◌≡◌, ℕ, zero, suc, ℤ, pos, negsuc, ◌≤◌, Bool, true, false, not, ◌&&◌, ◌==◌, nat_le, List, [], ◌∷◌, take, refl, sym, subst, ap, ◌∙◌, arith, Option, None, Some}
use Rattle.std.proofs.lemmas.Bool.{and_left, and_parts, and_right, cond-false, leb-true, lt-leb, ne_eqb, or_from, not-true}
use Rattle.std.proofs.lemmas.Int.{ints}
use Rattle.std.specs.Prelude.{codes, if◌then◌else◌, int_lt, slice_get}
use Rattle.std.specs.Fmt.{signed_decimal}
use Rattle.std.specs.List.{list_all, onto_first, slice_split}
use Rattle.std.specs.Option.{option_map, option_map_or, option_or}
use Rattle.std.specs.Str.{bytes_eq}
use Rattle.call_rules.proofs.TestLaws.{is_not_below}
use Rattle.egl_calls.specs.Ranges.{IsNumber}
use Rattle.egl_names.proofs.JoinLaws.{joined_word_one}
use Rattle.egl_names.proofs.NameLaws.{code_from_name, place_at}
use Rattle.egl_names.specs.Joined.{is_bar, is_name_start, joined_word, known_word, parts}
use Rattle.egl_names.specs.Names.{code_of, config_attributes, errors, gl_names, name_of, names, number_word, other_egl_names}
use Rattle.egl_names.specs.declared.joined.Word.TheVariants.{Number, UnknownName}
use Rattle.trace_model.specs.Recording.{named, number_text}
use Rattle.trace_reader.proofs.NumeralLaws.{signed_back}
use Rattle.trace_reader.specs.Hexadecimals.{has_hex_form, hexadecimal}
use Rattle.trace_reader.specs.NumberWords.{argument_number, named_number, number_in}
use Rattle.trace_reader.specs.Numerals.{has_leading_zero, is_digit, number_after, numeral, signed_number}
use Rattle.journal_text.specs.Written.{IsLong}

-- a name begins with a letter, and has no bar
abbrev is_plain : List ℕ → Bool
is_plain [] = false
is_plain (b ∷ bs) = nat_le 65 b && is_name_start b && list_all (λ x. not (x == 124)) (b ∷ bs)

all_plain : list_all is_plain names ≡ true
unfolding names errors config_attributes other_egl_names gl_names
all_plain = refl

plain_at : (ws : List (List ℕ)) (k : ℕ) (w : List ℕ) → list_all is_plain ws ≡ true → slice_get ws k ≡ Some w → is_plain w ≡ true
plain_at [] k w h g = absurd (let e : None ≡ Some w = g in cc)
plain_at (x ∷ xs) zero w h g = let e : x ≡ w = cc in ap is_plain (sym e) ∙ (and_parts (is_plain x) (list_all is_plain xs) h).0
plain_at (x ∷ xs) (suc k) w h g = plain_at xs k w (and_parts (is_plain x) (list_all is_plain xs) h).1 g

one_part : (w : List ℕ) → list_all (λ x. not (x == 124)) w ≡ true → slice_split is_bar w ≡ w ∷ []
one_part [] h = refl
one_part (b ∷ bs) h =
    let p = and_parts (not (b == 124)) (list_all (λ x. not (x == 124)) bs) h in
    cond-false (b == 124) _ _ (not-true (b == 124) p.0) ∙ ap (onto_first b) (one_part bs p.1)

-- ---- What begins with a letter is no numeral.
neither : (b : Bool) (o : Option ℕ) → o ≡ None → (if b then o else None) ≡ None
neither true o h = h
neither false o h = refl

no_numeral : (limit b : ℕ) (bs : List ℕ) → 65 ≤ b → numeral limit (b ∷ bs) ≡ None
unfolding numeral
no_numeral limit b bs h =
    let digit : is_digit b ≡ false = and_right (nat_le 48 b) (nat_le b 57) (lt-leb b 57 (omega (arith, h))) in
    neither (true && not (has_leading_zero (b ∷ bs))) (number_after limit 0 (b ∷ bs)) (cond-false _ _ _ (and_left (is_digit b) _ digit))

no_signed : (b : ℕ) (bs : List ℕ) → 65 ≤ b → signed_number (b ∷ bs) ≡ None
unfolding signed_number
no_signed b bs h = cond-false (b == 45) _ _ (ne_eqb b 45 (omega (arith, h))) ∙ ap (option_map pos) (no_numeral 4294967295 b bs h)

no_hexadecimal : (b : ℕ) (bs : List ℕ) → 65 ≤ b → hexadecimal (b ∷ bs) ≡ None
unfolding hexadecimal
no_hexadecimal b bs h =
    let other : bytes_eq (take 2 (b ∷ bs)) (codes "0x") ≡ false = and_left (b == 48) _ (ne_eqb b 48 (omega (arith, h))) in
    cond-false (has_hex_form (b ∷ bs)) _ _ (and_right _ (bytes_eq (take 2 (b ∷ bs)) (codes "0x")) other)

by_name : (b : ℕ) (bs : List ℕ) → 65 ≤ b → argument_number (b ∷ bs) ≡ named_number (b ∷ bs)
unfolding argument_number
by_name b bs h =
    let said = named_number (b ∷ bs) in
    ap (λ (o : Option ℤ). option_or o (option_or (option_map pos (hexadecimal (b ∷ bs))) said)) (no_signed b bs h)
    ∙ ap (λ (o : Option ℕ). option_or (option_map pos o) said) (no_hexadecimal b bs h)

-- ---- Names.
known_code : (w : List ℕ) (n : ℕ) → code_of w ≡ Some n → known_word w ≡ Some (pos n)
unfolding known_word
known_code w n c = ap (λ (o : Option ℕ). option_or (option_map pos o) (number_word w)) c

in_range : (n : ℕ) → IsNumber (pos n) → number_in (Number (pos n)) ≡ Some (pos n)
in_range n r = cond-false _ _ _ (or_from (int_lt (pos n) (negsuc 2147483647)) (int_lt (pos 4294967295) (pos n)) refl (is_not_below (pos 4294967295) (pos n) r.high))

name_said : (w : List ℕ) (n : ℕ) → is_plain w ≡ true → code_of w ≡ Some n → IsNumber (pos n) → argument_number w ≡ Some (pos n)
unfolding parts
name_said [] n h c r = absurd (let e : false ≡ true = h in cc)
name_said (b ∷ bs) n h c r =
    let p = and_parts (nat_le 65 b && is_name_start b) (list_all (λ x. not (x == 124)) (b ∷ bs)) h in
    let q = and_parts (nat_le 65 b) (is_name_start b) p.0 in
    let word : joined_word (b ∷ bs) ≡ Number (pos n) =
    joined_word_one (b ∷ bs) q.1 (one_part (b ∷ bs) p.1) ∙ ap (λ (o : Option ℤ). option_map_or Number o UnknownName) (known_code (b ∷ bs) n c) in
    by_name b bs (leb-true 65 b q.0) ∙ ap number_in word ∙ in_range n r

said_by : (z : ℤ) (o : Option (List ℕ)) → name_of z ≡ o → IsNumber z → argument_number (named z o) ≡ Some z
unfolding argument_number
said_by z None q r = ap (λ (o : Option ℤ). option_or o (option_or (option_map pos (hexadecimal (signed_decimal z))) (named_number (signed_decimal z)))) (signed_back z r)
said_by z (Some w) q r =
    let c = code_from_name z w q in
    let p = place_at w c.0 c.2 in
    name_said w c.0 (plain_at names p.0 w all_plain p.2) c.2 (subst IsNumber c.1 r) ∙ ap Some (sym c.1)

pub number_said : (z : ℤ) → IsNumber z → argument_number (number_text z) ≡ Some z
unfolding number_text
number_said z r = said_by z (name_of z) refl r

pub number_long : (z : ℤ) → IsNumber z → IsLong z
number_long (pos n) r = let h = r.high in omega (arith, ints, h)
number_long (negsuc n) r = let h = r.low in omega (arith, ints, h)

pub small : (n : ℕ) → n ≤ 4294967295 → IsNumber (pos n)
small n l = record { low = omega (arith, ints); high = omega (arith, ints, l) }

pub code : (n : ℕ) → nat_le n 4294967295 ≡ true → IsNumber (pos n)
code n h = small n (leb-true n 4294967295 h)
