-- Words behind spaces, and lines.
use Rattle.std.proofs.Common.{◌≡◌, ℕ, zero, suc, ◌+◌, ◌-◌, ◌<◌, ◌≤◌, true, false, ◌==◌, List, [], ◌∷◌, ◌++◌, length, refl, ap, ◌∙◌, arith}
use Rattle.std.proofs.lemmas.Bool.{cond-false, ne_eqb}
use Rattle.std.proofs.lemmas.List.{append-nil}
use Rattle.std.proofs.lemmas.List.Splits.{length-slice_split}
use Rattle.std.specs.Prelude.{codes, filter, slice_index}
use Rattle.std.specs.Char.{is_newline}
use Rattle.std.specs.List.{flat_map, slice_split}
use Rattle.std.specs.Str.Lines.{lines, lines_of_parts, strip_carriage_return}
use Rattle.egl_calls.specs.Calls.{CallValue}
use Rattle.trace_reader.specs.Words.{is_space, is_word, words}
use Rattle.journal_text.proofs.WordLaws.{From, from_append, from_less, split_first, split_last}
use Rattle.scene_trace.specs.Lines.{argument_words, call_line, spaced}
use Rattle.call_table.specs.Names.{call_name}
use Rattle.scene_trace.specs.Rows.{call_forms}

-- texts without spaces, none of them empty
abbrev pub AreWords : List (List ℕ) → Type 0
AreWords [] = Unit {0}
AreWords (w ∷ ws) = (is_word w ≡ true) × From 33 w × AreWords ws

split_spaced : (w : List ℕ) (ws : List (List ℕ)) → From 33 w → AreWords ws → slice_split is_space (w ++ flat_map spaced ws) ≡ w ∷ ws
split_spaced w [] f a = ap (slice_split is_space) (append-nil w) ∙ split_last 32 w f
split_spaced w (v ∷ vs) f a = split_first 32 w (v ++ flat_map spaced vs) refl f ∙ ap (λ (r : List (List ℕ)). w ∷ r) (split_spaced v vs a.1 a.2)

all_kept : (ws : List (List ℕ)) → AreWords ws → filter is_word ws ≡ ws
all_kept [] a = refl
all_kept ([] ∷ ws) a = absurd (let e : false ≡ true = a.0 in cc)
all_kept ((b ∷ bs) ∷ ws) a = ap (λ (r : List (List ℕ)). (b ∷ bs) ∷ r) (all_kept ws a.2)

-- the words are found again
pub words_spaced : (w : List ℕ) (ws : List (List ℕ)) → AreWords (w ∷ ws) → words (w ++ flat_map spaced ws) ≡ w ∷ ws
unfolding words
words_spaced w ws a = ap (filter is_word) (split_spaced w ws a.1 a.2) ∙ all_kept (w ∷ ws) a

pub from_spaced : (ws : List (List ℕ)) → AreWords ws → From 14 (flat_map spaced ws)
from_spaced [] a = tt
from_spaced (w ∷ ws) a = (omega arith, from_append 14 w (flat_map spaced ws) (from_less 14 33 w (omega arith) a.1) (from_spaced ws a.2))

-- ---- A line and those behind it.
at_least : (w : List ℕ) (k : ℕ) → From 14 w → k < length w → 14 ≤ slice_index w k
at_least [] k f l = absurd (omega (arith, l))
at_least (b ∷ bs) zero f l = f.0
at_least (b ∷ bs) (suc k) f l = at_least bs k f.1 (omega (arith, l))

no_return : (w : List ℕ) → From 14 w → (slice_index w (length w - 1) == 13) ≡ false
no_return [] f = refl
no_return (b ∷ bs) f =
    let l : 14 ≤ slice_index (b ∷ bs) (length (b ∷ bs) - 1) = at_least (b ∷ bs) (length (b ∷ bs) - 1) f (omega arith) in
    ne_eqb (slice_index (b ∷ bs) (length (b ∷ bs) - 1)) 13 (λ e. absurd (omega (arith, e, l)))

not_stripped : (w : List ℕ) → From 14 w → strip_carriage_return w ≡ w
not_stripped w f = cond-false (slice_index w (length w - 1) == 13) _ _ (no_return w f)

parts_more : (x : List ℕ) (ps : List (List ℕ)) → 0 < length ps → lines_of_parts (x ∷ ps) ≡ strip_carriage_return x ∷ lines_of_parts ps
parts_more x [] l = absurd (omega (arith, l))
parts_more x (y ∷ more) l = refl

pub line_first : (w rest : List ℕ) → From 14 w → lines (w ++ 10 ∷ rest) ≡ w ∷ lines rest
line_first w rest f =
    ap lines_of_parts (split_first 10 w rest refl (from_less 11 14 w (omega arith) f))
    ∙ parts_more w (slice_split is_newline rest) (omega (arith, length-slice_split is_newline rest))
    ∙ ap (λ (x : List ℕ). x ∷ lines rest) (not_stripped w f)

-- ---- The words of a call.
-- those behind the thread
abbrev pub call_words : CallValue → List (List ℕ)
call_words c = call_name c.kind ∷ argument_words 0 (call_forms c.kind) c

-- the line without its end
abbrev pub bare_line : CallValue → List ℕ
bare_line c = codes "0" ++ flat_map spaced (call_words c)

pub line_is : (c : CallValue) → call_line c ≡ bare_line c ++ codes "\n"
unfolding call_line
line_is c = refl
