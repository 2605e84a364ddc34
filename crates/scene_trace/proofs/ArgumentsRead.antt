-- Arguments are read back as they are written.
use Rattle.std.proofs.Common.{◌≡◌, ℕ, ℤ, pos, ◌+◌, ◌*◌, ◌/◌, ◌%◌, ◌<◌, ◌≤◌, Bool, true, false, not, ◌||◌, ◌==◌, nat_le, nat_lt, List, [], ◌∷◌, ◌++◌, map, length, refl, sym, ap, ap₂, ◌∙◌, arith, Option, None, Some, All}
use Rattle.std.proofs.lemmas.Bool.{and_from, cond-false, cond-true, le-leb, lt-leb}
use Rattle.std.proofs.lemmas.Bool.Decides.{nat_tests}
use Rattle.std.proofs.lemmas.List.{append-nil}
use Rattle.std.proofs.lemmas.List.Elements.{All-head, All-tail}
use Rattle.std.specs.Prelude.{if◌then◌else◌, is_some}
use Rattle.std.specs.List.{flat_map, join_with_byte}
use Rattle.std.specs.Option.{option_map}
use Rattle.egl_calls.specs.Calls.{CallValue}
use Rattle.egl_calls.specs.Ranges.{IsNumber}
use Rattle.egl_calls.specs.declared.kinds.Kind.{Kind}
use Rattle.trace_model.specs.Recording.{hex_byte, hex_digit as written_digit, list_text, number_text}
use Rattle.trace_reader.specs.Arguments.{are_known, arguments_of, call_of, call_with, list_behind, padded, payload_behind, reference_to, references, values_in, with_argument}
use Rattle.trace_reader.specs.Hexadecimals.{hex_digit}
use Rattle.trace_reader.specs.Lists.{attribute_list, attributes, attributes_among, is_bracketed, item_number, item_numbers, items, number_list, with_item}
use Rattle.trace_reader.specs.NumberWords.{argument_number}
use Rattle.trace_reader.specs.Payloads.{are_byte_digits, hex_bytes, payload}
use Rattle.trace_reader.specs.References.{is_reference, used_in}
use Rattle.trace_reader.specs.Words.{is_word}
use Rattle.call_table.specs.declared.forms.Form.{Form}
use Rattle.call_table.specs.declared.forms.Form.TheVariants.{Number, Config, NumberOrVariable, AttributeList, NumberList, Payload}
use Rattle.journal_text.proofs.WordLaws.{From, bracketed, from_less, hex_long, hex_written, items_written, list_written, no_first, number_written, within}
use Rattle.journal_text.specs.Written.{IsByte, IsLong}
use Rattle.scene_trace.specs.Lines.{payload_text}
use Rattle.scene_trace.proofs.NumbersRead.{number_long, number_said}
use Rattle.scene_trace.proofs.Spaced.{AreWords}

-- the arguments that words say: numbers, a list and a payload
abbrev pub Argued : List Form → List (List ℕ) → List ℤ → List ℤ → Option (List ℕ) → Type 0
Argued fs ws zs list bytes = (given : _) × (arguments_of fs ws ≡ Some given) × (values_in given ≡ zs) × (list_behind [] given ≡ list) × (payload_behind None given ≡ bytes)

-- words that say arguments of these forms, without variables
pub record Argues (fs : List Form) (ws : List (List ℕ)) (zs list : List ℤ) (bytes : Option (List ℕ)) : Type 0 where
  pub words : AreWords ws
  pub argued : Argued fs ws zs list bytes
  pub known : are_known [] fs ws ≡ true
  pub free : (place : ℕ) → references [] place fs ws ≡ []

pub nothing : Argues [] [] [] [] None
nothing = record { words = tt; argued = ([], refl, refl, refl, refl); known = refl; free = λ place. refl }

-- what a word says as one more argument in front of others
with_given : {T : Type 0} (o : Option T) (make : T → _) (x : T) (rest : _) (given : _) → o ≡ Some x → rest ≡ Some given → with_argument (option_map make o) rest ≡ Some (make x ∷ given)
with_given o make x rest given e f = ap (λ p. with_argument (option_map make p) rest) e ∙ ap (λ q. with_argument (Some (make x)) q) f

-- ---- Numbers.
no_reference : (z : ℤ) → IsNumber z → is_reference (number_text z) ≡ false
no_reference z r = no_first 36 45 (number_text z) (omega arith) (number_written z (number_long z r)).bytes

number_bytes : (z : ℤ) → IsNumber z → From 33 (number_text z)
number_bytes z r = from_less 33 45 (number_text z) (omega arith) (number_written z (number_long z r)).bytes

number_word : (z : ℤ) → IsNumber z → is_word (number_text z) ≡ true
number_word z r = (number_written z (number_long z r)).word

variable_said : (z : ℤ) → IsNumber z → item_number true (number_text z) ≡ Some z
variable_said z r = ap (λ (b : Bool). if b then Some (pos 0) else argument_number (number_text z)) (no_reference z r) ∙ number_said z r

-- a number in front
pub number : (z : ℤ) → IsNumber z → {fs : List Form} {ws : List (List ℕ)} {zs list : List ℤ} {bytes : Option (List ℕ)} → Argues fs ws zs list bytes → Argues (Number ∷ fs) (number_text z ∷ ws) (z ∷ zs) list bytes
number z r {fs} {ws} {zs} {list} {bytes} m = record {
  words = (number_word z r, number_bytes z r, m.words);
  argued = (_, with_given (argument_number (number_text z)) _ z (arguments_of fs ws) m.argued.0 (number_said z r) m.argued.1, ap (λ (l : List ℤ). z ∷ l) m.argued.2, m.argued.3, m.argued.4);
  known = m.known;
  free = λ place. m.free (place + 1);
}

-- the same where a config has its number
pub config : (z : ℤ) → IsNumber z → {fs : List Form} {ws : List (List ℕ)} {zs list : List ℤ} {bytes : Option (List ℕ)} → Argues fs ws zs list bytes → Argues (Config ∷ fs) (number_text z ∷ ws) (z ∷ zs) list bytes
config z r m = let n = number z r m in record { words = n.words; argued = n.argued; known = n.known; free = n.free }

-- the same where a variable could stand
pub variable : (z : ℤ) → IsNumber z → {fs : List Form} {ws : List (List ℕ)} {zs list : List ℤ} {bytes : Option (List ℕ)} → Argues fs ws zs list bytes → Argues (NumberOrVariable ∷ fs) (number_text z ∷ ws) (z ∷ zs) list bytes
variable z r {fs} {ws} {zs} {list} {bytes} m = record {
  words = (number_word z r, number_bytes z r, m.words);
  argued = (_, with_given (item_number true (number_text z)) _ z (arguments_of fs ws) m.argued.0 (variable_said z r) m.argued.1, ap (λ (l : List ℤ). z ∷ l) m.argued.2, m.argued.3, m.argued.4);
  known = and_from _ _ (ap (λ (b : Bool). not b || is_some (used_in [] (number_text z))) (no_reference z r)) m.known;
  free = λ place.
      ap (λ (b : Bool). (if b then reference_to false place (used_in [] (number_text z)) else []) ++ references [] (place + 1) fs ws) (no_reference z r)
      ∙ m.free (place + 1);
}

-- ---- Lists.
are_long : (zs : List ℤ) → All IsNumber zs → All IsLong zs
are_long zs a = λ k d h. number_long _ (a k d h)

numbers_said : (zs : List ℤ) → All IsNumber zs → item_numbers false (map number_text zs) ≡ Some zs
numbers_said [] a = refl
numbers_said (z ∷ zs) a =
    ap (λ (o : Option ℤ). with_item o (item_numbers false (map number_text zs))) (number_said z (All-head IsNumber z zs a))
    ∙ ap (λ (o : Option (List ℤ)). with_item (Some z) o) (numbers_said zs (All-tail IsNumber z zs a))

pub list_said : (zs : List ℤ) → All IsNumber zs → number_list false (list_text zs) ≡ Some zs
unfolding list_text number_list
list_said zs a =
    let xs = join_with_byte 44 (map number_text zs) in
    cond-true (is_bracketed (91 ∷ (xs ++ 93 ∷ []))) _ _ (bracketed xs)
    ∙ ap (λ (t : List ℕ). item_numbers false (items t)) (within xs)
    ∙ ap (item_numbers false) (items_written zs (are_long zs a))
    ∙ numbers_said zs a

list_word : (zs : List ℤ) → is_word (list_text zs) ≡ true
unfolding list_text
list_word zs = refl

list_bytes : (zs : List ℤ) → All IsNumber zs → From 33 (list_text zs)
list_bytes zs a = from_less 33 44 (list_text zs) (omega arith) (list_written zs (are_long zs a)).bytes

-- a list at the end
pub list : (zs : List ℤ) → All IsNumber zs → Argues (NumberList ∷ []) (list_text zs ∷ []) [] zs None
list zs a = record {
  words = (list_word zs, list_bytes zs a, tt);
  argued = (_, with_given (number_list false (list_text zs)) _ zs (Some []) [] (list_said zs a) refl, refl, refl, refl);
  known = refl;
  free = λ place. refl;
}

pub attribute_words : (zs : List ℤ) → All IsNumber zs → attributes zs ≡ Some zs → Argues (AttributeList ∷ []) (list_text zs ∷ []) [] zs None
unfolding attribute_list
attribute_words zs a e = record {
  words = (list_word zs, list_bytes zs a, tt);
  argued = (_, with_given (attributes_among (number_list false (list_text zs))) _ zs (Some []) [] (ap attributes_among (list_said zs a) ∙ e) refl, refl, refl, refl);
  known = refl;
  free = λ place. refl;
}

-- ---- Bytes.
digit_by : (d : ℕ) → d < 16 → (b : Bool) → nat_lt d 10 ≡ b → hex_digit (if b then 48 + d else 87 + d) ≡ d
digit_by d h true q =
    let l : d < 10 = grind (arith, nat_tests, q) in
    cond-true (nat_le (48 + d) 57) _ _ (le-leb (48 + d) 57 (omega (arith, l))) ∙ omega arith
digit_by d h false q =
    let l : 10 ≤ d = grind (arith, nat_tests, q) in
    cond-false (nat_le (87 + d) 57) _ _ (lt-leb (87 + d) 57 (omega (arith, l))) ∙ omega arith

digit_said : (d : ℕ) → d < 16 → hex_digit (written_digit d) ≡ d
digit_said d h = digit_by d h (nat_lt d 10) refl

pub bytes_said : (bs : List ℕ) → All IsByte bs → hex_bytes (flat_map hex_byte bs) ≡ bs
bytes_said [] a = refl
bytes_said (b ∷ bs) a =
    let l : b < 256 = All-head IsByte b bs a in
    let high = digit_said (b / 16) (omega (arith, l)) in
    let low = digit_said (b % 16) (omega arith) in
    let byte : 16 * hex_digit (written_digit (b / 16)) + hex_digit (written_digit (b % 16)) ≡ b = omega (arith, high, low) in
    ap₂ (λ (x : ℕ) (xs : List ℕ). x ∷ xs) byte (bytes_said bs (All-tail IsByte b bs a))

payload_said : (bs : List ℕ) → All IsByte bs → payload (payload_text (Some bs)) ≡ Some (Some bs)
unfolding payload payload_text
payload_said bs a =
    let ds = flat_map hex_byte bs in
    let even : length ds % 2 ≡ 0 = omega (arith, hex_long bs) in
    let digits : are_byte_digits ds ≡ true = and_from _ _ (ap (λ (n : ℕ). n == 0) even) (hex_written bs a).digits in
    ap (option_map Some) (cond-true (are_byte_digits ds) _ _ digits ∙ ap Some (append-nil (hex_bytes ds) ∙ bytes_said bs a))

payload_word : (bs : List ℕ) → is_word (payload_text (Some bs)) ≡ true
unfolding payload_text
payload_word bs = refl

payload_bytes_from : (bs : List ℕ) → All IsByte bs → From 33 (payload_text (Some bs))
unfolding payload_text
payload_bytes_from bs a = (omega arith, from_less 33 45 (flat_map hex_byte bs) (omega arith) (hex_written bs a).bytes)

-- bytes at the end
pub payload_is : (bs : List ℕ) → All IsByte bs → Argues (Payload ∷ []) (payload_text (Some bs) ∷ []) [] [] (Some bs)
payload_is bs a = record {
  words = (payload_word bs, payload_bytes_from bs a, tt);
  argued = (_, with_given (payload (payload_text (Some bs))) _ (Some bs) (Some []) [] (payload_said bs a) refl, refl, refl, refl);
  known = refl;
  free = λ place. refl;
}

-- ---- The call of all arguments.
pub call_said : (kind : Kind) (fs : List Form) (ws : List (List ℕ)) (zs list : List ℤ) (bytes : Option (List ℕ)) → Argued fs ws zs list bytes → Some (record { kind = kind; args = padded zs; list = list; bytes = bytes }) ≡ call_of kind fs ws
unfolding call_of
call_said kind fs ws zs list bytes a =
    let made : List ℤ → List ℤ → Option (List ℕ) → Option CallValue = λ args l b. Some (record { kind = kind; args = padded args; list = l; bytes = b }) in
    sym (
    ap (option_map (call_with kind)) a.1
    ∙ ap (λ (args : List ℤ). made args (list_behind [] a.0) (payload_behind None a.0)) a.2
    ∙ ap (λ (l : List ℤ). made zs l (payload_behind None a.0)) a.3
    ∙ ap (made zs list) a.4)
