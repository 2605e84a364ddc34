-- Each word of a recording's lines has its form.
use Rattle.std.proofs.Common.{◌≡◌, ℕ, zero, suc, ◌+◌, ◌-◌, ◌*◌, ◌/◌, ◌%◌, ◌^◌, ◌<◌, ◌≤◌, Bool, true, false, not, cond, ◌&&◌, ◌||◌, ◌==◌, nat_le, nat_lt, eqb, List, [], ◌∷◌, ◌++◌, map, length, take, drop, refl, sym, ap, ◌∙◌, subst, arith, Option, None, Some, ℤ, pos, negsuc, decimal, ⊎_elim, All}
use Rattle.std.proofs.lemmas.Bool.{cond-true, cond-false, and_from, and_left, and_right, and_parts, or_left, or_right, cases_lt, le-leb, lt-leb, leb-true, ne_eqb}
use Rattle.std.proofs.lemmas.Bool.Decides.{nat_tests}
use Rattle.std.proofs.lemmas.Slice.Eq.{bytes_eq-Decides}
use Rattle.std.specs.Prelude.{codes, is_none, if◌then◌else◌, slice_get, slice_index_or}
use Rattle.std.specs.Fmt.{signed_decimal}
use Rattle.std.specs.List.{slice_split, onto_first, flat_map, join_with_byte, list_all}
use Rattle.std.specs.Str.{bytes_eq}
use Rattle.egl_calls.specs.Errors.{egl_code, gl_code}
use Rattle.egl_calls.specs.declared.errors.EglError.{EglError}
use Rattle.egl_calls.specs.declared.errors.EglError.TheVariants.{Success, NotInitialized, BadAccess, BadAlloc, BadAttribute, BadConfig, BadContext, BadCurrentSurface, BadDisplay, BadMatch, BadNativePixmap, BadNativeWindow, BadParameter, BadSurface, ContextLost}
use Rattle.egl_calls.specs.declared.errors.GlError.{GlError}
use Rattle.egl_calls.specs.declared.errors.GlError.TheVariants.{NoError, InvalidEnum, InvalidValue, InvalidOperation, OutOfMemory, InvalidFramebufferOperation}
use Rattle.egl_calls.specs.declared.errors.Outcome.{Outcome}
use Rattle.egl_calls.specs.declared.errors.Outcome.TheVariants.{Done, Egl, Gl, Waiting, InWait, NoWait}
use Rattle.egl_names.proofs.NameLaws.{egl_errors, gl_errors, place_at, name_from_code, code_from_name}
use Rattle.egl_names.specs.Laws.{egl_error_name, gl_error_name}
use Rattle.egl_names.specs.Names.{names, errors, config_attributes, other_egl_names, gl_names, name_of, code_of}
use Rattle.trace_reader.proofs.NumeralLaws.{numeral_within, numeral_above}
use Rattle.trace_reader.specs.Hexadecimals.{is_hex_digit}
use Rattle.trace_reader.specs.Lists.{is_bracketed, inside, items, comma_parts}
use Rattle.trace_reader.specs.Numerals.{is_digit, number_after, has_leading_zero, is_numeral, numeral}
use Rattle.trace_reader.specs.Words.{is_word, begins_with}
use Rattle.trace_model.specs.Recording.{named, number_text, outcome_text, list_text, hex_digit, hex_byte, bytes_text}
use Rattle.journal_text.specs.Words.{is_signed, is_unnamed, is_number_word, is_error, is_outcome_word, is_list_word, is_bytes_word}
use Rattle.journal_text.specs.Written.{is_told, IsByte, IsLong}

-- ---- Bytes from a number on.
abbrev pub From : ℕ → List ℕ → Type 0
From n [] = Unit {0}
From n (b ∷ bs) = (n ≤ b) × From n bs

pub from_append : (n : ℕ) (xs ys : List ℕ) → From n xs → From n ys → From n (xs ++ ys)
from_append n [] ys f g = g
from_append n (x ∷ xs) ys f g = (f.0, from_append n xs ys f.1 g)

pub from_less : (m n : ℕ) (xs : List ℕ) → m ≤ n → From n xs → From m xs
from_less m n [] h f = tt
from_less m n (x ∷ xs) h f = (omega (arith, h, f.0), from_less m n xs h f.1)

-- the part in front of a byte that none of it is, and a part without that byte
pub split_first : (c : ℕ) (xs rest : List ℕ) → eqb c c ≡ true → From (c + 1) xs → slice_split (λ b. eqb b c) (xs ++ c ∷ rest) ≡ xs ∷ slice_split (λ b. eqb b c) rest
split_first c [] rest own f = cond-true (eqb c c) _ _ own
split_first c (x ∷ xs) rest own f = cond-false (eqb x c) _ _ (ne_eqb x c (λ e. absurd (omega (arith, e, f.0)))) ∙ ap (onto_first x) (split_first c xs rest own f.1)

pub split_last : (c : ℕ) (xs : List ℕ) → From (c + 1) xs → slice_split (λ b. eqb b c) xs ≡ xs ∷ []
split_last c [] f = refl
split_last c (x ∷ xs) f = cond-false (eqb x c) _ _ (ne_eqb x c (λ e. absurd (omega (arith, e, f.0)))) ∙ ap (onto_first x) (split_last c xs f.1)

-- ---- Decimal numbers.
passed : {A : Type 0} (c : Bool) (o : Option A) (x : A) → cond c o None ≡ Some x → (c ≡ true) × (o ≡ Some x)
passed true o x h = (refl, h)
passed false o x h = absurd (let e : None ≡ Some x = h in cc)

digits_from : (limit m n : ℕ) (w : List ℕ) → number_after limit m w ≡ Some n → list_all is_digit w ≡ true
digits_from limit m n [] h = refl
digits_from limit m n (b ∷ bs) h =
    let p = passed (is_digit b && nat_le (10 * m + (b - 48)) limit) (number_after limit (10 * m + (b - 48)) bs) n h in
    and_from _ _ (and_parts (is_digit b) (nat_le (10 * m + (b - 48)) limit) p.0).0 (digits_from limit (10 * m + (b - 48)) n bs p.1)

is_numeral_from : (limit n : ℕ) (w : List ℕ) → numeral limit w ≡ Some n → is_numeral w ≡ true
unfolding numeral is_numeral
is_numeral_from limit n w h =
    let p = passed (is_word w && not (has_leading_zero w)) (number_after limit 0 w) n h in
    and_from _ _ p.0 (digits_from limit 0 n w p.1)

pub decimal_numeral : (n : ℕ) → n < 10 ^ 64 → is_numeral (decimal n) ≡ true
decimal_numeral n h = is_numeral_from n n (decimal n) (numeral_within n n h (omega arith))

from_digit : (b : ℕ) → is_digit b ≡ true → 48 ≤ b
from_digit b h = leb-true 48 b (and_parts (nat_le 48 b) (nat_le b 57) h).0

from_digits : (w : List ℕ) → list_all is_digit w ≡ true → From 48 w
from_digits [] h = tt
from_digits (b ∷ bs) h =
    let p = and_parts (is_digit b) (list_all is_digit bs) h in
    (from_digit b p.0, from_digits bs p.1)

record IsDigits (w : List ℕ) : Type 0 where
  word : is_word w ≡ true
  digits : list_all is_digit w ≡ true

digits_of : (w : List ℕ) → is_numeral w ≡ true → IsDigits w
unfolding is_numeral
digits_of w h =
    let p = and_parts (is_word w && not (has_leading_zero w)) (list_all is_digit w) h in
    record { word = (and_parts (is_word w) (not (has_leading_zero w)) p.0).0; digits = p.1 }

pub from_decimal : (n : ℕ) → n < 10 ^ 64 → From 48 (decimal n)
from_decimal n h = from_digits (decimal n) (digits_of (decimal n) (decimal_numeral n h)).digits

pub no_first : (c n : ℕ) (w : List ℕ) → c < n → From n w → begins_with c w ≡ false
no_first c n [] h f = refl
no_first c n (b ∷ bs) h f = ne_eqb b c (λ e. absurd (omega (arith, h, e, f.0)))

-- ---- Numbers.
pub record IsWritten (w : List ℕ) : Type 0 where
  pub word : is_word w ≡ true
  pub form : is_number_word w ≡ true
  pub bytes : From 45 w

-- a name begins with a letter
abbrev is_name : List ℕ → Bool
is_name [] = false
is_name (b ∷ bs) = nat_le 65 b && list_all (nat_le 45) bs

all_names : list_all is_name names ≡ true
unfolding names errors config_attributes other_egl_names gl_names
all_names = refl

at_place : (ws : List (List ℕ)) (k : ℕ) (w : List ℕ) → list_all is_name ws ≡ true → slice_get ws k ≡ Some w → is_name w ≡ true
at_place [] k w h g = absurd (let e : None ≡ Some w = g in cc)
at_place (x ∷ xs) zero w h g = let e : x ≡ w = cc in ap is_name (sym e) ∙ (and_parts (is_name x) (list_all is_name xs) h).0
at_place (x ∷ xs) (suc k) w h g = at_place xs k w (and_parts (is_name x) (list_all is_name xs) h).1 g

pub from_all : (n : ℕ) (w : List ℕ) → list_all (nat_le n) w ≡ true → From n w
from_all n [] h = tt
from_all n (b ∷ bs) h = let p = and_parts (nat_le n b) (list_all (nat_le n) bs) h in (leb-true n b p.0, from_all n bs p.1)

no_digit : (b : ℕ) → 65 ≤ b → is_digit b ≡ false
no_digit b h = and_right (nat_le 48 b) (nat_le b 57) (lt-leb b 57 (omega (arith, h)))

unsigned_name : (b : ℕ) (bs : List ℕ) → 65 ≤ b → is_signed (b ∷ bs) ≡ false
unfolding is_signed is_numeral
unsigned_name b bs h =
    cond-false (b == 45) _ _ (ne_eqb b 45 (λ e. absurd (omega (arith, h, e))))
    ∙ and_right (is_word (b ∷ bs) && not (has_leading_zero (b ∷ bs))) (list_all is_digit (b ∷ bs)) (and_left (is_digit b) (list_all is_digit bs) (no_digit b h))

name_written : (w : List ℕ) (n : ℕ) → is_name w ≡ true → code_of w ≡ Some n → IsWritten w
unfolding is_number_word
name_written [] n h c = absurd (let e : false ≡ true = h in cc)
name_written (b ∷ bs) n h c =
    let p = and_parts (nat_le 65 b) (list_all (nat_le 45) bs) h in
    let l : 65 ≤ b = leb-true 65 b p.0 in
    record {
      word = refl;
      form = cond-false (is_signed (b ∷ bs)) _ _ (unsigned_name b bs l) ∙ ap (λ (o : Option ℕ). not (is_none o)) c;
      bytes = (omega (arith, l), from_all 45 bs p.1);
    }

code_written : (w : List ℕ) (n : ℕ) → code_of w ≡ Some n → IsWritten w
code_written w n c = let p = place_at w n c in name_written w n (at_place names p.0 w all_names p.2) c

unnamed_decimal : (n : ℕ) → n < 10 ^ 64 → name_of (pos n) ≡ None → is_unnamed (numeral 4294967295 (decimal n)) ≡ true
unnamed_decimal n h u = ⊎_elim
    (λ (l : 4294967295 < n). ap is_unnamed (numeral_above 4294967295 n h l))
    (λ (l : n ≤ 4294967295). ap is_unnamed (numeral_within 4294967295 n h l) ∙ ap (λ (o : Option (List ℕ)). is_none o) u)
    (cases_lt 4294967295 n)

zero_read : (n : ℕ) → numeral (suc n) (codes "0") ≡ Some 0
unfolding numeral
zero_read n = cond-true (nat_le 0 (suc n)) _ _ (le-leb 0 (suc n) (omega arith))

no_minus_zero : (n : ℕ) → suc n < 10 ^ 64 → (b : Bool) → bytes_eq (45 ∷ decimal (suc n)) (codes "-0") ≡ b → b ≡ false
no_minus_zero n h true q =
    let same : 45 ∷ decimal (suc n) ≡ codes "-0" = (bytes_eq-Decides (45 ∷ decimal (suc n)) (codes "-0")).0 q in
    let d : decimal (suc n) ≡ codes "0" = ap (λ (w : List ℕ). drop 1 w) same in
    let z : Some (suc n) ≡ Some 0 = sym (numeral_within (suc n) (suc n) h (omega arith)) ∙ ap (numeral (suc n)) d ∙ zero_read n in
    absurd (let e : suc n ≡ 0 = cc in omega (arith, e))
no_minus_zero n h false q = refl

neither : (b : Bool) → is_unnamed (cond b None None) ≡ true
neither true = refl
neither false = refl

no_code : (w : List ℕ) → is_unnamed (numeral 4294967295 (45 ∷ w)) ≡ true
unfolding numeral
no_code w = neither (is_word (45 ∷ w) && not (has_leading_zero (45 ∷ w)))

signed_written : (z : ℤ) → IsLong z → name_of z ≡ None → IsWritten (signed_decimal z)
unfolding is_number_word is_signed
signed_written (pos n) h u =
    let l : n < 10 ^ 64 = omega (arith, h) in
    let f : From 48 (decimal n) = from_decimal n l in
    let s : is_signed (decimal n) ≡ true = cond-false (begins_with 45 (decimal n)) _ _ (no_first 45 48 (decimal n) (omega arith) f) ∙ decimal_numeral n l in
    record {
      word = (digits_of (decimal n) (decimal_numeral n l)).word;
      form = cond-true (is_signed (decimal n)) _ _ s ∙ unnamed_decimal n l u;
      bytes = from_less 45 48 (decimal n) (omega arith) f;
    }
signed_written (negsuc n) h u =
    let l : suc n < 10 ^ 64 = omega (arith, h) in
    let s : is_signed (45 ∷ decimal (suc n)) ≡ true = and_from _ _ (decimal_numeral (suc n) l) (ap not (no_minus_zero n l (bytes_eq (45 ∷ decimal (suc n)) (codes "-0")) refl)) in
    record {
      word = refl;
      form = cond-true (is_signed (45 ∷ decimal (suc n))) _ _ s ∙ no_code (decimal (suc n));
      bytes = (omega arith, from_less 45 48 (decimal (suc n)) (omega arith) (from_decimal (suc n) l));
    }

number_by : (z : ℤ) → IsLong z → (o : Option (List ℕ)) → name_of z ≡ o → IsWritten (named z o)
number_by z h None q = signed_written z h q
number_by z h (Some w) q = let p = code_from_name z w q in code_written w p.0 p.2

pub number_written : (z : ℤ) → IsLong z → IsWritten (number_text z)
unfolding number_text
number_written z h = number_by z h (name_of z) refl

-- ---- Outcomes.
pub record IsOutcome (w : List ℕ) : Type 0 where
  pub form : is_outcome_word w ≡ true
  pub bytes : From 45 w

egl_first : (e : EglError) → is_error (Some (egl_code e)) ≡ true
egl_first Success = refl
egl_first NotInitialized = refl
egl_first BadAccess = refl
egl_first BadAlloc = refl
egl_first BadAttribute = refl
egl_first BadConfig = refl
egl_first BadContext = refl
egl_first BadCurrentSurface = refl
egl_first BadDisplay = refl
egl_first BadMatch = refl
egl_first BadNativePixmap = refl
egl_first BadNativeWindow = refl
egl_first BadParameter = refl
egl_first BadSurface = refl
egl_first ContextLost = refl

gl_first : (e : GlError) → is_error (Some (gl_code e)) ≡ true
gl_first NoError = refl
gl_first InvalidEnum = refl
gl_first InvalidValue = refl
gl_first InvalidOperation = refl
gl_first OutOfMemory = refl
gl_first InvalidFramebufferOperation = refl

error_written : (w : List ℕ) (n : ℕ) → code_of w ≡ Some n → is_error (Some n) ≡ true → IsOutcome (number_text (pos n))
unfolding is_outcome_word number_text
error_written w n c e =
    let same : w ≡ number_text (pos n) = ap (named (pos n)) (sym (name_from_code w n c)) in
    let form : is_outcome_word w ≡ true = or_right (bytes_eq w (codes "ok") || bytes_eq w (codes "waiting")) (is_error (code_of w)) (ap is_error c ∙ e) in
    subst IsOutcome same (record { form = form; bytes = (code_written w n c).bytes })

pub outcome_written : (o : Outcome) → is_told o ≡ true → IsOutcome (outcome_text o)
unfolding outcome_text is_outcome_word
outcome_written Done h = record { form = refl; bytes = from_all 45 (codes "ok") refl }
outcome_written (Egl e) h = error_written (egl_error_name e) (egl_code e) (egl_errors e) (egl_first e)
outcome_written (Gl e) h = error_written (gl_error_name e) (gl_code e) (gl_errors e) (gl_first e)
outcome_written Waiting h = record { form = refl; bytes = from_all 45 (codes "waiting") refl }
outcome_written InWait h = absurd (let e : false ≡ true = h in cc)
outcome_written NoWait h = absurd (let e : false ≡ true = h in cc)

-- ---- Lists.
pub record IsList (w : List ℕ) : Type 0 where
  pub form : is_list_word w ≡ true
  pub bytes : From 44 w

pub take_front : (xs : List ℕ) (c : ℕ) → take (length xs) (xs ++ c ∷ []) ≡ xs
take_front [] c = refl
take_front (x ∷ xs) c = ap (λ (r : List ℕ). x ∷ r) (take_front xs c)

last_at : (xs : List ℕ) (c : ℕ) → slice_index_or (xs ++ c ∷ []) (length xs) 0 ≡ c
last_at [] c = refl
last_at (x ∷ xs) c = last_at xs c

pub long : (xs : List ℕ) (c : ℕ) → length (xs ++ c ∷ []) ≡ suc (length xs)
long [] c = refl
long (x ∷ xs) c = ap (λ (n : ℕ). suc n) (long xs c)

pub bracketed : (xs : List ℕ) → is_bracketed (91 ∷ (xs ++ 93 ∷ [])) ≡ true
bracketed xs =
    let place : length (91 ∷ (xs ++ 93 ∷ [])) - 1 ≡ suc (length xs) = omega (arith, long xs 93) in
    let last : slice_index_or (91 ∷ (xs ++ 93 ∷ [])) (length (91 ∷ (xs ++ 93 ∷ [])) - 1) 0 ≡ 93 = ap (λ (n : ℕ). slice_index_or (91 ∷ (xs ++ 93 ∷ [])) n 0) place ∙ last_at xs 93 in
    and_from _ _ (and_from _ _ (le-leb 2 (length (91 ∷ (xs ++ 93 ∷ []))) (omega (arith, long xs 93))) refl) (ap (λ (n : ℕ). n == 93) last)

pub within : (xs : List ℕ) → inside (91 ∷ (xs ++ 93 ∷ [])) ≡ xs
unfolding inside
within xs =
    let place : length (91 ∷ (xs ++ 93 ∷ [])) - 1 ≡ suc (length xs) = omega (arith, long xs 93) in
    ap (λ (n : ℕ). drop 1 (take n (91 ∷ (xs ++ 93 ∷ [])))) place ∙ take_front xs 93

parts_written : (z : ℤ) (zs : List ℤ) → (IsLong z) × All IsLong zs → slice_split (λ b. eqb b 44) (join_with_byte 44 (map number_text (z ∷ zs))) ≡ map number_text (z ∷ zs)
parts_written z [] a = split_last 44 (number_text z) (number_written z a.0).bytes
parts_written z (y ∷ ys) a =
    split_first 44 (number_text z) (join_with_byte 44 (map number_text (y ∷ ys))) refl (number_written z a.0).bytes
    ∙ ap (λ (r : List (List ℕ)). number_text z ∷ r) (parts_written y ys (a.1 0 y (omega arith), λ k d h. a.1 (suc k) d (omega (arith, h))))

all_written : (zs : List ℤ) → All IsLong zs → list_all is_number_word (map number_text zs) ≡ true
all_written [] a = refl
all_written (z ∷ zs) a = and_from _ _ (number_written z (a 0 z (omega arith))).form (all_written zs (λ k d h. a (suc k) d (omega (arith, h))))

word_on : (xs ys : List ℕ) → is_word xs ≡ true → is_word (xs ++ ys) ≡ true
word_on [] ys h = absurd (let e : false ≡ true = h in cc)
word_on (x ∷ xs) ys h = refl

joined_word : (z : ℤ) (zs : List ℤ) → IsLong z → is_word (join_with_byte 44 (map number_text (z ∷ zs))) ≡ true
joined_word z [] h = (number_written z h).word
joined_word z (y ∷ ys) h = word_on (number_text z) _ (number_written z h).word

pub items_written : (zs : List ℤ) → All IsLong zs → items (join_with_byte 44 (map number_text zs)) ≡ map number_text zs
unfolding comma_parts
items_written [] a = refl
items_written (z ∷ zs) a =
    let first = a 0 z (omega arith) in
    cond-true (is_word (join_with_byte 44 (map number_text (z ∷ zs)))) _ _ (joined_word z zs first)
    ∙ parts_written z zs (first, λ k d h. a (suc k) d (omega (arith, h)))

joined_from : (zs : List ℤ) → All IsLong zs → From 44 (join_with_byte 44 (map number_text zs))
joined_from [] a = tt
joined_from (z ∷ []) a = from_less 44 45 (number_text z) (omega arith) (number_written z (a 0 z (omega arith))).bytes
joined_from (z ∷ y ∷ ys) a =
    from_append 44 (number_text z) _ (from_less 44 45 (number_text z) (omega arith) (number_written z (a 0 z (omega arith))).bytes)
    (omega arith, joined_from (y ∷ ys) (λ k d h. a (suc k) d (omega (arith, h))))

pub list_written : (zs : List ℤ) → All IsLong zs → IsList (list_text zs)
unfolding list_text is_list_word
list_written zs a =
    let xs = join_with_byte 44 (map number_text zs) in
    record {
      form = and_from _ _ (bracketed xs) (ap (λ (t : List ℕ). list_all is_number_word (items t)) (within xs) ∙ ap (list_all is_number_word) (items_written zs a) ∙ all_written zs a);
      bytes = (omega arith, from_append 44 xs (codes "]") (joined_from zs a) (omega arith, tt));
    }

-- ---- Bytes.
pub record IsHex (w : List ℕ) : Type 0 where
  pub digits : list_all is_hex_digit w ≡ true
  pub bytes : From 45 w

abbrev IsHexDigit : ℕ → Type 0
IsHexDigit b = (is_hex_digit b ≡ true) × (45 ≤ b)

hex_by : (d : ℕ) → d < 16 → (b : Bool) → nat_lt d 10 ≡ b → IsHexDigit (if b then 48 + d else 87 + d)
hex_by d h true q =
    let l : d < 10 = grind (arith, nat_tests, q) in
    (or_left (is_digit (48 + d)) _ (and_from _ _ (le-leb 48 (48 + d) (omega arith)) (le-leb (48 + d) 57 (omega (arith, l)))), omega arith)
hex_by d h false q =
    let l : 10 ≤ d = grind (arith, nat_tests, q) in
    (or_right (is_digit (87 + d)) _ (and_from _ _ (le-leb 97 (87 + d) (omega (arith, l))) (le-leb (87 + d) 102 (omega (arith, h)))), omega arith)

digit_is : (d : ℕ) → d < 16 → IsHexDigit (hex_digit d)
digit_is d h = hex_by d h (nat_lt d 10) refl

pub hex_written : (bs : List ℕ) → All IsByte bs → IsHex (flat_map hex_byte bs)
hex_written [] a = record { digits = refl; bytes = tt }
hex_written (b ∷ bs) a =
    let small : b < 256 = a 0 b (omega arith) in
    let high = digit_is (b / 16) (omega (arith, small)) in
    let low = digit_is (b % 16) (omega arith) in
    let more = hex_written bs (λ k d h. a (suc k) d (omega (arith, h))) in
    record {
      digits = and_from _ _ high.0 (and_from _ _ low.0 more.digits);
      bytes = (high.1, (low.1, more.bytes));
    }

pub hex_long : (bs : List ℕ) → length (flat_map hex_byte bs) ≡ 2 * length bs
hex_long [] = refl
hex_long (b ∷ bs) = omega (arith, hex_long bs)

pub record IsBytesText (w : List ℕ) : Type 0 where
  pub form : is_bytes_word w ≡ true
  pub bytes : From 45 w

pub bytes_written : (bs : List ℕ) → All IsByte bs → IsBytesText (bytes_text bs)
unfolding bytes_text is_bytes_word
bytes_written [] a = record { form = refl; bytes = from_all 45 (codes "-") refl }
bytes_written (b ∷ bs) a =
    let w = flat_map hex_byte (b ∷ bs) in
    let hex = hex_written (b ∷ bs) a in
    let even : length w % 2 ≡ 0 = omega (arith, hex_long (b ∷ bs)) in
    record {
      form = or_right (bytes_eq w (codes "-")) _ (and_from _ _ (and_from _ _ refl (ap (λ (n : ℕ). n == 0) even)) hex.digits);
      bytes = hex.bytes;
    }
