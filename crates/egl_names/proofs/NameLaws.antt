-- The laws of the names.
use Rattle.std.proofs.Common.{◌≡◌, ℕ, suc, ◌+◌, ◌-◌, ◌<◌, ◌≤◌, Bool, true, false, List, [], ◌∷◌, length, map, refl, sym, ap, ◌∙◌, subst, arith, cond, ltb, ℤ, pos, negsuc, Option, None, Some, get_or}
use Rattle.std.specs.List.{position_from, range_with_len, find, slice_get, Contains}
use Rattle.std.specs.Option.{option_map, option_or}
use Rattle.std.specs.Str.{bytes_eq}
use Rattle.std.proofs.lemmas.Slice.Eq.{bytes_eq-Decides}
use Rattle.std.proofs.lemmas.Bool.Decides.{nat_tests}
use Rattle.std.proofs.lemmas.Option.{slice_get-get_or, slice_get_within, slice_get-map}
use Rattle.std.proofs.lemmas.List.FromFn.{length-range_with_len, get_or-range_with_len}
use Rattle.egl_calls.specs.declared.errors.EglError.{EglError}
use Rattle.egl_calls.specs.declared.errors.EglError.TheVariants.{Success, NotInitialized, BadAccess, BadAlloc, BadAttribute, BadConfig, BadContext, BadCurrentSurface, BadDisplay, BadMatch, BadNativePixmap, BadNativeWindow, BadParameter, BadSurface, ContextLost}
use Rattle.egl_calls.specs.declared.errors.GlError.{GlError}
use Rattle.egl_calls.specs.declared.errors.GlError.TheVariants.{NoError, InvalidEnum, InvalidValue, InvalidOperation, OutOfMemory, InvalidFramebufferOperation}
use Rattle.egl_calls.specs.Errors.{egl_code, gl_code}
use Rattle.egl_names.specs.Names.{names, errors, config_attributes, other_egl_names, gl_names, first_code, name_of, name_at, code_of, place_of, value_in, plain_words, bit_words, bit_word, number_word}
use Rattle.egl_names.specs.Constants.{name_constants, plain_constants, bit_constants}
use Rattle.egl_names.specs.Laws.{AreInverse, AreOnTheList, AreDistinct, ErrorsAreNamed, ConstantsAreNamed, egl_error_name, gl_error_name}

abbrev no_code : {V : Type 0} → List ℕ × V → Option ℕ
no_code e = None

-- each name's place is its own: computed over the whole table
places_are : map (place_of names) names ≡ map Some (range_with_len 0 164)
unfolding names errors config_attributes other_egl_names gl_names
places_are = refl

-- no word of the second list has a place among the names
words_are_no_names : map (λ e. place_of names e.0) plain_words ≡ map no_code plain_words
unfolding names errors config_attributes other_egl_names gl_names plain_words
words_are_no_names = refl

bits_are_no_names : map (λ e. place_of names e.0) bit_words ≡ map no_code bit_words
unfolding names errors config_attributes other_egl_names gl_names bit_words
bits_are_no_names = refl

names_count : length names ≡ 164
unfolding names errors config_attributes other_egl_names gl_names
names_count = refl

constant_names : map (λ c. c.0) name_constants ≡ names
unfolding names errors config_attributes other_egl_names gl_names name_constants
constant_names = refl

constant_codes : map (λ c. c.1) name_constants ≡ map (λ k. 3000000000 + k) (range_with_len 0 164)
unfolding name_constants
constant_codes = refl

plain_constants_are : plain_constants ≡ plain_words
unfolding plain_constants plain_words
plain_constants_are = refl

bit_constants_are : bit_constants ≡ bit_words
unfolding bit_constants bit_words
bit_constants_are = refl

pub egl_errors : (e : EglError) → code_of (egl_error_name e) ≡ Some (egl_code e)
unfolding names errors config_attributes other_egl_names gl_names code_of
egl_errors Success = refl
egl_errors NotInitialized = refl
egl_errors BadAccess = refl
egl_errors BadAlloc = refl
egl_errors BadAttribute = refl
egl_errors BadConfig = refl
egl_errors BadContext = refl
egl_errors BadCurrentSurface = refl
egl_errors BadDisplay = refl
egl_errors BadMatch = refl
egl_errors BadNativePixmap = refl
egl_errors BadNativeWindow = refl
egl_errors BadParameter = refl
egl_errors BadSurface = refl
egl_errors ContextLost = refl

pub gl_errors : (e : GlError) → code_of (gl_error_name e) ≡ Some (gl_code e)
unfolding names errors config_attributes other_egl_names gl_names code_of
gl_errors NoError = refl
gl_errors InvalidEnum = refl
gl_errors InvalidValue = refl
gl_errors InvalidOperation = refl
gl_errors OutOfMemory = refl
gl_errors InvalidFramebufferOperation = refl

-- a word with a place in a list stands there
stands : (w : List ℕ) (xs : List (List ℕ)) (j n : ℕ) → position_from (λ x. bytes_eq x w) j xs ≡ Some n → (k : ℕ) × (n ≡ j + k) × (slice_get xs k ≡ Some w)
stands w [] j n e = absurd (cc)
stands w (x ∷ xs) j n e = go (bytes_eq x w) refl (λ f. stands w xs (j + 1) n f) e
  where
    go : (b : Bool) → bytes_eq x w ≡ b → (position_from (λ x. bytes_eq x w) (j + 1) xs ≡ Some n → (k : ℕ) × (n ≡ (j + 1) + k) × (slice_get xs k ≡ Some w)) → cond b (Some j) (position_from (λ x. bytes_eq x w) (j + 1) xs) ≡ Some n → (k : ℕ) × (n ≡ j + k) × (slice_get (x ∷ xs) k ≡ Some w)
    go true t more f = let same : n ≡ j = cc in (0, (omega arith), ap Some ((bytes_eq-Decides x w).0 t))
    go false t more f = let r = more f in let s : n ≡ (j + 1) + r.0 = r.1 in (suc r.0, (omega arith), r.2)

get_range : (a n k : ℕ) → k < n → slice_get (range_with_len a n) k ≡ Some (a + k)
get_range a n k l =
    let m : k < length (range_with_len a n) = rw length-range_with_len l in
    slice_get-get_or (range_with_len a n) k 0 m ∙ ap Some (get_or-range_with_len a n k 0 l)

-- the place of the name at a place is that place
place_of_name : (k : ℕ) (w : List ℕ) → slice_get names k ≡ Some w → place_of names w ≡ Some k
place_of_name k w g =
    let within : k < 164 = subst (λ (n : ℕ). k < n) names_count (slice_get_within names k w g) in
    let one : slice_get (map (place_of names) names) k ≡ Some (place_of names w) = slice_get-map (place_of names) names k ∙ ap (option_map (place_of names)) g in
    let other : slice_get (map Some (range_with_len 0 164)) k ≡ Some (Some (0 + k)) = slice_get-map Some (range_with_len 0 164) k ∙ ap (option_map Some) (get_range 0 164 k within) in
    let same : Some (place_of names w) ≡ Some (Some (0 + k)) = sym one ∙ ap (λ (xs : List (Option ℕ)). slice_get xs k) places_are ∙ other in
    let less : place_of names w ≡ Some (0 + k) = cc in
    less ∙ ap Some (omega arith)

pub code_at : (k : ℕ) (w : List ℕ) → slice_get names k ≡ Some w → code_of w ≡ Some (first_code + k)
unfolding code_of
code_at k w g = ap (option_map (λ k. first_code + k)) (place_of_name k w g)

pub place_at : (w : List ℕ) (n : ℕ) → code_of w ≡ Some n → (k : ℕ) × (n ≡ first_code + k) × (slice_get names k ≡ Some w)
unfolding code_of
place_at w n e = go (place_of names w) refl e
  where
    go : (o : Option ℕ) → place_of names w ≡ o → option_map (λ k. first_code + k) o ≡ Some n → (k : ℕ) × (n ≡ first_code + k) × (slice_get names k ≡ Some w)
    go None p f = absurd (cc)
    go (Some k) p f = let r = stands w names 0 k p in let s : k ≡ 0 + r.0 = r.1 in let t : n ≡ first_code + k = cc in (r.0, (omega arith), r.2)

name_at_place : (n k : ℕ) → n ≡ 3000000000 + k → name_at names n ≡ slice_get names k
name_at_place n k e =
    let tested : ltb n 3000000000 ≡ false = grind (arith, nat_tests) in
    ap (λ (b : Bool). cond b None (slice_get names (n - 3000000000))) tested ∙ ap (slice_get names) (omega arith)

pub name_from_code : (w : List ℕ) (n : ℕ) → code_of w ≡ Some n → name_of (pos n) ≡ Some w
unfolding name_of
name_from_code w n e =
    let r = place_at w n e in
    name_at_place n r.0 r.1 ∙ r.2

pub code_from_name : (z : ℤ) (w : List ℕ) → name_of z ≡ Some w → (n : ℕ) × (z ≡ pos n) × (code_of w ≡ Some n)
unfolding name_of
code_from_name (pos n) w e = go (ltb n 3000000000) refl e
  where
    go : (b : Bool) → ltb n 3000000000 ≡ b → cond b None (slice_get names (n - 3000000000)) ≡ Some w → (m : ℕ) × (pos n ≡ pos m) × (code_of w ≡ Some m)
    go true t f = absurd (cc)
    go false t f =
        let past : 3000000000 ≤ n = grind (arith, nat_tests) in
        (n, refl, code_at (n - 3000000000) w f ∙ ap Some (omega arith))
code_from_name (negsuc n) w e = absurd (cc)

pub on_the_list : AreOnTheList
on_the_list = record { each = code_at; place = place_at; count = names_count }

pub distinct_names : (i j : ℕ) (w : List ℕ) → slice_get names i ≡ Some w → slice_get names j ≡ Some w → i ≡ j
distinct_names i j w p q = let a = place_of_name i w p in let b = place_of_name j w q in cc

-- a word with a value in a list stands there
stands_in : {V : Type 0} (w : List ℕ) (xs : List (List ℕ × V)) (v : V) → value_in xs w ≡ Some v → (k : ℕ) × (e : List ℕ × V) × (slice_get xs k ≡ Some e) × (e.0 ≡ w) × (e.1 ≡ v)
stands_in w [] v e = absurd (cc)
stands_in {V} w (x ∷ xs) v e = go (bytes_eq x.0 w) refl (λ f. stands_in w xs v f) e
  where
    go : (b : Bool) → bytes_eq x.0 w ≡ b → (value_in xs w ≡ Some v → (k : ℕ) × (e : List ℕ × V) × (slice_get xs k ≡ Some e) × (e.0 ≡ w) × (e.1 ≡ v)) → option_map (λ e. e.1) (cond b (Some x) (find (λ e. bytes_eq e.0 w) xs)) ≡ Some v → (k : ℕ) × (e : List ℕ × V) × (slice_get (x ∷ xs) k ≡ Some e) × (e.0 ≡ w) × (e.1 ≡ v)
    go true t more f = (0, x, refl, (bytes_eq-Decides x.0 w).0 t, (cc))
    go false t more f = let r = more f in (suc r.0, r.1, r.2, r.3, r.4)

-- no name is a word of a list whose words have no place
no_place : {V : Type 0} (xs : List (List ℕ × V)) (w : List ℕ) (v : V) → map (λ e. place_of names e.0) xs ≡ map no_code xs → value_in xs w ≡ Some v → place_of names w ≡ None
no_place {V} xs w v none e =
    let r = stands_in w xs v e in
    let one : slice_get (map (λ (e : List ℕ × V). place_of names e.0) xs) r.0 ≡ Some (place_of names r.1.0) = slice_get-map (λ (e : List ℕ × V). place_of names e.0) xs r.0 ∙ ap (option_map (λ (e : List ℕ × V). place_of names e.0)) r.2 in
    let other : slice_get (map no_code xs) r.0 ≡ Some (no_code r.1) = slice_get-map no_code xs r.0 ∙ ap (option_map no_code) r.2 in
    let same : Some (place_of names r.1.0) ≡ Some (no_code r.1) = sym one ∙ ap (λ (xs : List (Option ℕ)). slice_get xs r.0) none ∙ other in
    let less : place_of names r.1.0 ≡ no_code r.1 = cc in
    ap (place_of names) (sym r.3) ∙ less

none_of : (w : List ℕ) → place_of names w ≡ None → code_of w ≡ None
unfolding code_of
none_of w e = ap (option_map (λ k. first_code + k)) e

pub words_have_no_code : (w : List ℕ) (z : ℤ) → number_word w ≡ Some z → code_of w ≡ None
unfolding number_word bit_word
words_have_no_code w z e = go (value_in plain_words w) (value_in bit_words w) refl refl e
  where
    go : (p : Option ℤ) (b : Option ℕ) → value_in plain_words w ≡ p → value_in bit_words w ≡ b → option_or p (option_map pos b) ≡ Some z → code_of w ≡ None
    go (Some v) b p q f = none_of w (no_place plain_words w v words_are_no_names p)
    go None (Some v) p q f = none_of w (no_place bit_words w v bits_are_no_names q)
    go None None p q f = absurd (cc)

pub distinct : AreDistinct
distinct = record { names = distinct_names; words = words_have_no_code }

pub errors_named : ErrorsAreNamed
errors_named = record { egl = egl_errors; gl = gl_errors }

-- the place of an element of a list
get_contained : {X : Type 0} (xs : List X) (x : X) (k : ℕ) → k < length xs → get_or xs k x ≡ x → slice_get xs k ≡ Some x
get_contained xs x k l e = slice_get-get_or xs k x l ∙ ap Some e

constant_code : (w : List ℕ) (n : ℕ) → Contains name_constants (w, n) → code_of w ≡ Some n
constant_code w n h =
    let at : slice_get name_constants h.0 ≡ Some (w, n) = get_contained name_constants (w, n) h.0 h.1 h.2 in
    let name : slice_get names h.0 ≡ Some w = ap (λ (xs : List (List ℕ)). slice_get xs h.0) (sym constant_names) ∙ slice_get-map (λ (c : List ℕ × ℕ). c.0) name_constants h.0 ∙ ap (option_map (λ (c : List ℕ × ℕ). c.0)) at in
    let within : h.0 < 164 = subst (λ (n : ℕ). h.0 < n) names_count (slice_get_within names h.0 w name) in
    let one : slice_get (map (λ (c : List ℕ × ℕ). c.1) name_constants) h.0 ≡ Some n = slice_get-map (λ (c : List ℕ × ℕ). c.1) name_constants h.0 ∙ ap (option_map (λ (c : List ℕ × ℕ). c.1)) at in
    let other : slice_get (map (λ k. 3000000000 + k) (range_with_len 0 164)) h.0 ≡ Some (3000000000 + (0 + h.0)) = slice_get-map (λ k. 3000000000 + k) (range_with_len 0 164) h.0 ∙ ap (option_map (λ k. 3000000000 + k)) (get_range 0 164 h.0 within) in
    let same : Some n ≡ Some (3000000000 + (0 + h.0)) = sym one ∙ ap (λ (xs : List ℕ). slice_get xs h.0) constant_codes ∙ other in
    let number : n ≡ 3000000000 + (0 + h.0) = cc in
    code_at h.0 w name ∙ ap Some (omega arith)

pub constants_named : ConstantsAreNamed
constants_named = record { codes = constant_code; count = constant_names; plain = plain_constants_are; bits = bit_constants_are }

pub inverse : AreInverse
inverse = record { from_name = name_from_code; from_code = code_from_name }
