-- What is written is read back.
use Rattle.std.proofs.Common.{◌≡◌, ℕ, zero, suc, ◌+◌, ◌-◌, ◌*◌, ◌^◌, ◌<◌, ◌≤◌, true, false, ◌==◌, nat_le, List, [], ◌∷◌, ◌++◌, map, length, take, get_or, refl, sym, ap, ◌∙◌, subst, arith, append_assoc, Option, None, Some, ℤ, decimal, All}
use Rattle.std.proofs.lemmas.Bool.{cond-true, cond-false, and_from, lt-leb, eq-eqb, ne_eqb}
use Rattle.std.proofs.lemmas.Fmt.{first_decimal}
use Rattle.std.proofs.lemmas.Grind.{flat_map-append}
use Rattle.std.proofs.lemmas.List.{append-nil}
use Rattle.std.specs.Prelude.{Result, Ok, codes}
use Rattle.std.specs.Char.{is_newline}
use Rattle.std.specs.Fmt.{signed_decimal}
use Rattle.std.specs.List.{slice_split, flat_map, join_with_byte, list_all, range_with_len}
use Rattle.std.specs.Str.{bytes_eq}
use Rattle.egl_calls.specs.declared.entries.Entry.{Entry}
use Rattle.egl_model.specs.State.{State}
use Rattle.egl_model.specs.Sweep.{census}
use Rattle.surface_store.specs.Windows.{WindowValue}
use Rattle.trace_reader.proofs.NumeralLaws.{numeral_within}
use Rattle.trace_reader.specs.Numerals.{is_numeral}
use Rattle.trace_reader.specs.Words.{is_space, begins_with}
use Rattle.trace_reader.specs.declared.traces.Defect.{Defect}
use Rattle.trace_model.specs.Recording.{number_text, outcome_text, list_text, bytes_text, hex_byte, entry_line, entry_lines, census_line, row_line, front_lines, fronts_text, recording_of}
use Rattle.journal_text.proofs.ReadLaws.{taken, on_parts, some_part, behind_first}
use Rattle.journal_text.proofs.RowLaws.{row_bytes_are, row_long}
use Rattle.journal_text.proofs.WordLaws.{From, from_append, from_less, split_first, split_last, from_all, from_decimal, decimal_numeral, number_written, outcome_written, list_written, bytes_written, hex_written, hex_long, take_front, long}
use Rattle.journal_text.specs.Recorded.{parts, is_entry, entry_thread, is_census, counted, at_stage, rows, front, is_row, behind_row, entry_or_census, next}
use Rattle.journal_text.specs.Readings.{read_lines, recorded, fed}
use Rattle.journal_text.specs.Rests.{front_head, shown_row, rest_text}
use Rattle.journal_text.specs.Written.{line_of_entry, line_behind, written_lines, IsWrittenEntry, IsWrittenWindow, AreWritten}
use Rattle.journal_text.specs.declared.stages.Stage.{Stage}
use Rattle.journal_text.specs.declared.stages.Stage.TheVariants.{Entries, Fronts, Rows, Ended}
use Rattle.journal_text.specs.declared.stages.Behind.{Behind}
use Rattle.journal_text.specs.declared.recordings.RecordedLine.{RecordedLine}

-- ---- Lines one behind another, each in its form at its stage.
abbrev Chain : Stage → List RecordedLine → Stage → Type 0
Chain s [] s' = s ≡ s'
Chain s (l ∷ ls) s' = (m : Stage) × (From 11 l.text) × (next s l.text ≡ Some (record { stage = m; thread = l.thread })) × Chain m ls s'

chain_append : (ls ks : List RecordedLine) (s m s' : Stage) → Chain s ls m → Chain m ks s' → Chain s (ls ++ ks) s'
chain_append [] ks s m s' e c = let P : Stage → Type 0 = λ x. Chain x ks s' in subst P (sym e) c
chain_append (l ∷ ls) ks s m s' c d = (c.0, c.1, c.2, chain_append ls ks c.0 m s' c.3 d)

read_chain : (ls : List RecordedLine) (n : ℕ) (s : Stage) (kept : List RecordedLine) → Chain s ls Ended → read_lines n s kept (slice_split is_newline (flat_map fed ls)) ≡ Ok (kept ++ ls)
read_chain [] n s kept e =
    let P : Stage → Type 0 = λ x. read_lines n x kept ([] ∷ []) ≡ Ok (kept ++ []) in
    subst P (sym e) (ap {B = Result (List RecordedLine) Defect} (λ (k : List RecordedLine). Ok k) (sym (append-nil kept)))
read_chain (l ∷ ls) n s kept c =
    let said : Behind = record { stage = c.0; thread = l.thread } in
    let more = flat_map fed ls in
    ap (read_lines n s kept) (ap (slice_split is_newline) (append_assoc l.text (codes "\n") more) ∙ split_first 10 l.text more refl c.1)
    ∙ on_parts n s c.0 l.text kept (kept ++ l ∷ []) (slice_split is_newline more) (taken n s l.text kept (kept ++ l ∷ []) said (sym c.2) refl) (some_part more)
    ∙ read_chain ls (n + 1) c.0 (kept ++ l ∷ []) c.3
    ∙ ap {B = Result (List RecordedLine) Defect} (λ (k : List RecordedLine). Ok k) (append_assoc kept (l ∷ []) ls)

-- ---- Texts that a byte parts.
abbrev AreFrom : ℕ → List (List ℕ) → Type 0
AreFrom n [] = Unit {0}
AreFrom n (w ∷ ws) = From n w × AreFrom n ws

parted : (c : ℕ) (w : List ℕ) (ws : List (List ℕ)) → (c == c) ≡ true → AreFrom (c + 1) (w ∷ ws) → slice_split (λ b. b == c) (join_with_byte c (w ∷ ws)) ≡ w ∷ ws
parted c w [] own a = split_last c w a.0
parted c w (v ∷ vs) own a = split_first c w (join_with_byte c (v ∷ vs)) own a.0 ∙ ap (λ (r : List (List ℕ)). w ∷ r) (parted c v vs own a.1)

no_feed : (w : List ℕ) (ws : List (List ℕ)) → AreFrom 33 (w ∷ ws) → From 11 (join_with_byte 32 (w ∷ ws))
no_feed w [] a = from_less 11 33 w (omega arith) a.0
no_feed w (v ∷ vs) a = from_append 11 w (32 ∷ join_with_byte 32 (v ∷ vs)) (from_less 11 33 w (omega arith) a.0) (omega arith, no_feed v vs a.1)

-- ---- Entries.
abbrev later_words : Entry → List (List ℕ)
later_words e = decimal e.mark ∷ outcome_text e.reply.outcome ∷ number_text e.reply.value ∷ list_text e.reply.list ∷ bytes_text e.reply.bytes ∷ []

abbrev entry_words : Entry → List (List ℕ)
entry_words e = decimal e.thread ∷ later_words e

in_six : (a b c d e f : List ℕ) → a ++ codes " " ++ b ++ codes " " ++ c ++ codes " " ++ d ++ codes " " ++ e ++ codes " " ++ f ≡ join_with_byte 32 (a ∷ b ∷ c ∷ d ∷ e ∷ f ∷ [])
in_six a b c d e f = simp append_assoc refl

entry_joined : (e : Entry) → entry_line e ≡ join_with_byte 32 (entry_words e)
unfolding entry_line
entry_joined e = in_six (decimal e.thread) (decimal e.mark) (outcome_text e.reply.outcome) (number_text e.reply.value) (list_text e.reply.list) (bytes_text e.reply.bytes)

entry_from : (e : Entry) → IsWrittenEntry e → AreFrom 33 (entry_words e)
entry_from e w =
    let line = from_less 33 48 (decimal e.mark) (omega arith) (from_decimal e.mark (omega (arith, w.sized.mark))) in
    let outcome = from_less 33 45 (outcome_text e.reply.outcome) (omega arith) (outcome_written e.reply.outcome w.sized.outcome).bytes in
    let value = from_less 33 45 (number_text e.reply.value) (omega arith) (number_written e.reply.value w.sized.value).bytes in
    let list = from_less 33 44 (list_text e.reply.list) (omega arith) (list_written e.reply.list w.sized.list).bytes in
    let bytes = from_less 33 45 (bytes_text e.reply.bytes) (omega arith) (bytes_written e.reply.bytes w.sized.bytes).bytes in
    (from_less 33 48 (decimal e.thread) (omega arith) (from_decimal e.thread (omega (arith, w.thread))), (line, (outcome, (value, (list, (bytes, tt))))))

entry_is : (e : Entry) → IsWrittenEntry e → is_entry (entry_words e) ≡ true
entry_is e w =
    and_from _ _
    (and_from _ _
    (and_from _ _
    (and_from _ _ (decimal_numeral e.mark (omega (arith, w.sized.mark))) (outcome_written e.reply.outcome w.sized.outcome).form)
    (number_written e.reply.value w.sized.value).form)
    (list_written e.reply.list w.sized.list).form)
    (bytes_written e.reply.bytes w.sized.bytes).form

entry_next : (e : Entry) → IsWrittenEntry e → next Entries (entry_line e) ≡ Some (record { stage = Entries; thread = Some e.thread })
unfolding next parts entry_thread
entry_next e w =
    let ws = entry_words e in
    let split : slice_split is_space (entry_line e) ≡ ws = ap (slice_split is_space) (entry_joined e) ∙ parted 32 (decimal e.thread) (later_words e) refl (entry_from e w) in
    let thread : entry_thread ws ≡ Some e.thread = cond-true (is_entry ws) _ _ (entry_is e w) ∙ numeral_within 4294967295 e.thread (omega (arith, w.thread)) w.thread in
    ap (λ (x : List (List ℕ)). entry_or_census (entry_thread x) x) split
    ∙ ap (λ (o : Option ℕ). entry_or_census o ws) thread

entries_chain : (es : List Entry) → All IsWrittenEntry es → Chain Entries (map line_of_entry es) Entries
entries_chain [] a = refl
entries_chain (e ∷ es) a =
    let w = a 0 e (omega arith) in
    (Entries, subst (From 11) (sym (entry_joined e)) (no_feed (decimal e.thread) (later_words e) (entry_from e w)), entry_next e w, entries_chain es (λ k d h. a (suc k) d (omega (arith, h))))

entries_text : (es : List Entry) → flat_map fed (map line_of_entry es) ≡ entry_lines es
unfolding entry_lines
entries_text [] = refl
entries_text (e ∷ es) = ap (λ (r : List ℕ). fed (line_of_entry e) ++ r) (entries_text es)

-- ---- The census.
census_joined : (w : List ℕ) (ns : List ℕ) → w ++ flat_map (λ n. codes " " ++ decimal n) ns ≡ join_with_byte 32 (w ∷ map decimal ns)
census_joined w [] = append-nil w
census_joined w (n ∷ ns) = ap (λ (r : List ℕ). w ++ (32 ∷ r)) (census_joined (decimal n) ns)

numerals : (ns : List ℕ) → All (λ n. n < 2 ^ 64) ns → list_all is_numeral (map decimal ns) ≡ true
numerals [] a = refl
numerals (n ∷ ns) a = let l : n < 2 ^ 64 = a 0 n (omega arith) in and_from _ _ (decimal_numeral n (omega (arith, l))) (numerals ns (λ k d h. a (suc k) d (omega (arith, h))))

numbers_from : (ns : List ℕ) → All (λ n. n < 2 ^ 64) ns → AreFrom 33 (map decimal ns)
numbers_from [] a = tt
numbers_from (n ∷ ns) a = let l : n < 2 ^ 64 = a 0 n (omega arith) in (from_less 33 48 (decimal n) (omega arith) (from_decimal n (omega (arith, l))), numbers_from ns (λ k d h. a (suc k) d (omega (arith, h))))

from_census : From 33 (codes "census")
from_census = from_all 33 (codes "census") refl

module _ (s : State) (small : All (λ n. n < 2 ^ 64) (census s)) where
  census_words : AreFrom 33 (codes "census" ∷ map decimal (census s))
  census_words = (from_census, numbers_from (census s) small)

  census_is : census_line (census s) ≡ join_with_byte 32 (codes "census" ∷ map decimal (census s))
  unfolding census_line
  census_is = census_joined (codes "census") (census s)

  census_from : From 11 (census_line (census s))
  census_from = subst (From 11) (sym census_is) (no_feed (codes "census") (map decimal (census s)) census_words)

  census_next : next Entries (census_line (census s)) ≡ Some (at_stage Fronts)
  unfolding next parts entry_thread
  census_next =
      let ws = codes "census" ∷ map decimal (census s) in
      let split : slice_split is_space (census_line (census s)) ≡ ws = ap (slice_split is_space) census_is ∙ parted 32 (codes "census") (map decimal (census s)) refl census_words in
      ap (λ (x : List (List ℕ)). entry_or_census (entry_thread x) x) split
      ∙ cond-true (is_census ws) _ _ (numerals (census s) small)

-- ---- The windows' fronts.
abbrev row_text : WindowValue → ℕ → List ℕ
row_text w y = flat_map hex_byte (shown_row w.front y)

abbrev row_lines : WindowValue → List ℕ → List RecordedLine
row_lines w ys = map (λ y. line_behind (row_text w y)) ys

abbrev window_lines : WindowValue → List RecordedLine
window_lines w = line_behind (front_head w) ∷ row_lines w (range_with_len 0 w.front.height)

in_four : (a b c : List ℕ) → codes "front " ++ a ++ codes " " ++ b ++ codes " " ++ c ≡ join_with_byte 32 (codes "front" ∷ a ∷ b ∷ c ∷ [])
in_four a b c = simp append_assoc refl

no_zero : (w : List ℕ) → 48 < get_or w 0 0 → begins_with 48 w ≡ false
no_zero [] h = refl
no_zero (b ∷ bs) h = ne_eqb b 48 (λ e. absurd (omega (arith, h, e)))

counted_is : (limit n : ℕ) → 1 ≤ n → n ≤ limit → limit < 2 ^ 64 → counted limit (decimal n) ≡ Some n
counted_is limit n some l h =
    cond-false (begins_with 48 (decimal n)) _ _ (no_zero (decimal n) (first_decimal n (omega (arith, some)) (omega (arith, l, h))))
    ∙ numeral_within limit n (omega (arith, l, h)) l

small_from : (n : ℕ) → n ≤ 2147483647 → From 33 (decimal n)
small_from n h = from_less 33 48 (decimal n) (omega arith) (from_decimal n (omega (arith, h)))

from_front : From 33 (codes "front")
from_front = from_all 33 (codes "front") refl

module _ (w : WindowValue) (v : IsWrittenWindow w) where
  abbrev numbers : List (List ℕ)
  numbers = decimal v.id.number ∷ decimal w.front.width ∷ decimal w.front.height ∷ []

  abbrev ws : List (List ℕ)
  ws = codes "front" ∷ numbers

  head_is : front_head w ≡ join_with_byte 32 ws
  head_is = ap (λ (z : ℤ). codes "front " ++ signed_decimal z ++ codes " " ++ decimal w.front.width ++ codes " " ++ decimal w.front.height) v.id.id ∙ in_four (decimal v.id.number) (decimal w.front.width) (decimal w.front.height)

  head_words : AreFrom 33 ws
  head_words = (from_front, (small_from v.id.number v.id.last, (small_from w.front.width (omega (arith, v.width)), (small_from w.front.height (omega (arith, v.height)), tt))))

  head_from : From 11 (front_head w)
  head_from = subst (From 11) (sym head_is) (no_feed (codes "front") numbers head_words)

  no_end : bytes_eq (front_head w) (codes "end") ≡ false
  no_end = ap (λ (x : List ℕ). bytes_eq x (codes "end")) head_is

  head_front : front ws ≡ Some (at_stage (Rows w.front.width w.front.height))
  unfolding front
  head_front =
      ap (λ (o : Option ℕ). rows o (counted 2048 (decimal w.front.width)) (counted 2048 (decimal w.front.height))) (counted_is 2147483647 v.id.number v.id.first v.id.last (omega arith))
      ∙ ap (λ (o : Option ℕ). rows (Some v.id.number) o (counted 2048 (decimal w.front.height))) (counted_is 2048 w.front.width v.some_width v.width (omega arith))
      ∙ ap (λ (o : Option ℕ). rows (Some v.id.number) (Some w.front.width) o) (counted_is 2048 w.front.height v.some_height v.height (omega arith))

  head_next : next Fronts (front_head w) ≡ Some (at_stage (Rows w.front.width w.front.height))
  unfolding next parts
  head_next =
      cond-false (bytes_eq (front_head w) (codes "end")) (Some (at_stage Ended)) (front (parts (front_head w))) no_end
      ∙ ap (λ (x : List ℕ). front (slice_split is_space x)) head_is
      ∙ ap front (parted 32 (codes "front") numbers refl head_words)
      ∙ head_front

  digits_long : (y : ℕ) → length (row_text w y) ≡ 8 * w.front.width
  digits_long y = omega (arith, hex_long (shown_row w.front y), row_long w.front y)

  row_is : (y : ℕ) → is_row w.front.width (row_text w y) ≡ true
  row_is y = and_from _ _ (eq-eqb (length (row_text w y)) (8 * w.front.width) (digits_long y)) (hex_written (shown_row w.front y) (row_bytes_are w.front y)).digits

  row_from : (y : ℕ) → From 11 (row_text w y)
  row_from y = from_less 11 45 (row_text w y) (omega arith) (hex_written (shown_row w.front y) (row_bytes_are w.front y)).bytes

  row_next : (h y : ℕ) (m : Stage) → behind_row w.front.width h ≡ m → next (Rows w.front.width h) (row_text w y) ≡ Some (at_stage m)
  unfolding next
  row_next h y m e = cond-true (is_row w.front.width (row_text w y)) _ _ (row_is y) ∙ ap (λ (x : Stage). Some (at_stage x)) e

  more_rows : (h : ℕ) → behind_row w.front.width (suc (suc h)) ≡ Rows w.front.width (suc h)
  more_rows h =
      let less : suc (suc h) - 1 ≡ suc h = omega arith in
      cond-false (nat_le (suc (suc h)) 1) _ _ (lt-leb (suc (suc h)) 1 (omega arith)) ∙ ap (λ (k : ℕ). Rows w.front.width k) less

  rows_chain : (h y : ℕ) → Chain (Rows w.front.width (suc h)) (row_lines w (range_with_len y (suc h))) Fronts
  rows_chain zero y = (Fronts, row_from y, row_next 1 y Fronts refl, refl)
  rows_chain (suc h) y = (Rows w.front.width (suc h), row_from y, row_next (suc (suc h)) y (Rows w.front.width (suc h)) (more_rows h), rows_chain h (y + 1))

  window_chain : Chain Fronts (window_lines w) Fronts
  window_chain =
      let P : ℕ → Type 0 = λ h. Chain (Rows w.front.width h) (row_lines w (range_with_len 0 h)) Fronts in
      let e : suc (w.front.height - 1) ≡ w.front.height = omega (arith, v.some_height) in
      (Rows w.front.width w.front.height, head_from, head_next, subst P e (rows_chain (w.front.height - 1) 0))

rows_text : (w : WindowValue) (ys : List ℕ) → flat_map fed (row_lines w ys) ≡ flat_map (row_line w.front) ys
unfolding row_line
rows_text w [] = refl
rows_text w (y ∷ ys) = ap (λ (r : List ℕ). fed (line_behind (row_text w y)) ++ r) (rows_text w ys)

window_text : (w : WindowValue) → flat_map fed (window_lines w) ≡ front_lines w
unfolding front_lines
window_text w = ap (λ (r : List ℕ). (front_head w ++ codes "\n") ++ r) (rows_text w (range_with_len 0 w.front.height))

windows_chain : (vs : List WindowValue) → All IsWrittenWindow vs → Chain Fronts (flat_map window_lines vs) Fronts
windows_chain [] a = refl
windows_chain (w ∷ vs) a = chain_append (window_lines w) (flat_map window_lines vs) Fronts Fronts Fronts (window_chain w (a 0 w (omega arith))) (windows_chain vs (λ k d h. a (suc k) d (omega (arith, h))))

windows_text : (vs : List WindowValue) → flat_map fed (flat_map window_lines vs) ≡ fronts_text vs
unfolding fronts_text
windows_text [] = refl
windows_text (w ∷ vs) =
    flat_map-append fed (window_lines w) (flat_map window_lines vs)
    ∙ ap (λ (r : List ℕ). r ++ flat_map fed (flat_map window_lines vs)) (window_text w)
    ∙ ap (λ (r : List ℕ). front_lines w ++ r) (windows_text vs)

-- ---- All lines behind the entries.
abbrev rest_lines : State → List RecordedLine
rest_lines s = line_behind (census_line (census s)) ∷ (flat_map window_lines s.windows ++ line_behind (codes "end") ∷ [])

from_end : From 11 (codes "end")
from_end = from_all 11 (codes "end") refl

end_chain : Chain Fronts (line_behind (codes "end") ∷ []) Ended
unfolding next
end_chain = (Ended, from_end, refl, refl)

rest_chain : (s : State) → All (λ n. n < 2 ^ 64) (census s) → All IsWrittenWindow s.windows → Chain Entries (rest_lines s) Ended
rest_chain s small a = (Fronts, census_from s small, census_next s small, chain_append (flat_map window_lines s.windows) (line_behind (codes "end") ∷ []) Fronts Fronts Ended (windows_chain s.windows a) end_chain)

in_rest : (c f : List ℕ) → (c ++ codes "\n") ++ (f ++ codes "end\n") ≡ (c ++ codes "\n" ++ f ++ codes "end") ++ codes "\n"
in_rest c f = simp append_assoc refl

rest_fed : (s : State) → flat_map fed (rest_lines s) ≡ rest_text s ++ codes "\n"
unfolding rest_text
rest_fed s =
    ap (λ (r : List ℕ). (census_line (census s) ++ codes "\n") ++ r)
    (flat_map-append fed (flat_map window_lines s.windows) (line_behind (codes "end") ∷ [])
    ∙ ap (λ (r : List ℕ). r ++ codes "end\n") (windows_text s.windows))
    ∙ in_rest (census_line (census s)) (fronts_text s.windows)

-- ---- The parts of the rest.
fed_all : (l : RecordedLine) (ls : List RecordedLine) → flat_map fed (l ∷ ls) ≡ join_with_byte 10 (map (λ r. r.text) (l ∷ ls)) ++ codes "\n"
fed_all l [] = append-nil (fed l)
fed_all l (m ∷ ls) =
    append_assoc l.text (codes "\n") (flat_map fed (m ∷ ls))
    ∙ ap (λ (r : List ℕ). l.text ++ (10 ∷ r)) (fed_all m ls)
    ∙ sym (append_assoc l.text (10 ∷ join_with_byte 10 (map (λ r. r.text) (m ∷ ls))) (codes "\n"))

push_same : (xs ys : List ℕ) → xs ++ 10 ∷ [] ≡ ys ++ 10 ∷ [] → xs ≡ ys
push_same xs ys h =
    let long_is : length (xs ++ 10 ∷ []) ≡ length (ys ++ 10 ∷ []) = ap (λ (r : List ℕ). length r) h in
    let same : length xs ≡ length ys = omega (arith, long_is, long xs 10, long ys 10) in
    sym (take_front xs 10) ∙ ap (λ (n : ℕ). take n (xs ++ 10 ∷ [])) same ∙ ap (take (length ys)) h ∙ take_front ys 10

chain_from : (ls : List RecordedLine) (s s' : Stage) → Chain s ls s' → AreFrom 11 (map (λ l. l.text) ls)
chain_from [] s s' c = tt
chain_from (l ∷ ls) s s' c = (c.1, chain_from ls c.0 s' c.3)

-- lines that are no entries
abbrev AreBehind : List RecordedLine → Type 0
AreBehind [] = Unit {0}
AreBehind (l ∷ ls) = (l.thread ≡ None) × AreBehind ls

are_append : (ls ks : List RecordedLine) → AreBehind ls → AreBehind ks → AreBehind (ls ++ ks)
are_append [] ks a b = b
are_append (l ∷ ls) ks a b = (a.0, are_append ls ks a.1 b)

rows_are : (w : WindowValue) (ys : List ℕ) → AreBehind (row_lines w ys)
rows_are w [] = tt
rows_are w (y ∷ ys) = (refl, rows_are w ys)

windows_are : (vs : List WindowValue) → AreBehind (flat_map window_lines vs)
windows_are [] = tt
windows_are (w ∷ vs) = (refl, are_append (row_lines w (range_with_len 0 w.front.height)) (flat_map window_lines vs) (rows_are w (range_with_len 0 w.front.height)) (windows_are vs))

rest_are : (s : State) → AreBehind (rest_lines s)
rest_are s = (refl, are_append (flat_map window_lines s.windows) (line_behind (codes "end") ∷ []) (windows_are s.windows) (refl, tt))

behind_is : (ls : List RecordedLine) → AreBehind ls → map line_behind (map (λ l. l.text) ls) ≡ ls
behind_is [] a = refl
behind_is (l ∷ ls) a =
    let same : line_behind l.text ≡ l = ap {B = RecordedLine} (λ (t : Option ℕ). record { text = l.text; thread = t }) (sym a.0) in
    ap (λ (x : RecordedLine). x ∷ map line_behind (map (λ r. r.text) ls)) same ∙ ap (λ (r : List RecordedLine). l ∷ r) (behind_is ls a.1)

rest_written : (s : State) → Chain Entries (rest_lines s) Ended → map line_behind (slice_split is_newline (rest_text s)) ≡ rest_lines s
rest_written s c =
    let first = line_behind (census_line (census s)) in
    let more = flat_map window_lines s.windows ++ line_behind (codes "end") ∷ [] in
    let text : rest_text s ≡ join_with_byte 10 (map (λ l. l.text) (first ∷ more)) = push_same (rest_text s) (join_with_byte 10 (map (λ l. l.text) (first ∷ more))) (sym (rest_fed s) ∙ fed_all first more) in
    ap (λ (x : List ℕ). map line_behind (slice_split is_newline x)) text
    ∙ ap (map line_behind) (parted 10 (census_line (census s)) (map (λ l. l.text) more) refl (chain_from (first ∷ more) Entries Ended c))
    ∙ behind_is (first ∷ more) (rest_are s)

-- ---- The whole recording.
in_whole : (e c f : List ℕ) → codes "recording\n" ++ e ++ c ++ codes "\n" ++ f ++ codes "end\n" ≡ codes "recording" ++ (10 ∷ (e ++ ((c ++ codes "\n" ++ f ++ codes "end") ++ codes "\n")))
in_whole e c f = simp append_assoc refl

from_recording : From 11 (codes "recording")
from_recording = from_all 11 (codes "recording") refl

pub written_back : (n : ℕ) (es : List Entry) (s : State) → AreWritten es s → recorded n (recording_of es s) ≡ Ok (written_lines es s)
unfolding recorded recording_of rest_text
written_back n es s a =
    let ls = map line_of_entry es ++ rest_lines s in
    let chain = rest_chain s a.census a.windows in
    let fed_is : flat_map fed ls ≡ entry_lines es ++ (rest_text s ++ codes "\n") =
    flat_map-append fed (map line_of_entry es) (rest_lines s)
    ∙ ap (λ (r : List ℕ). r ++ flat_map fed (rest_lines s)) (entries_text es)
    ∙ ap (λ (r : List ℕ). entry_lines es ++ r) (rest_fed s) in
    let text : recording_of es s ≡ codes "recording" ++ (10 ∷ flat_map fed ls) =
    in_whole (entry_lines es) (census_line (census s)) (fronts_text s.windows)
    ∙ ap (λ (r : List ℕ). codes "recording" ++ (10 ∷ r)) (sym fed_is) in
    behind_first n (codes "recording") (flat_map fed ls) (recording_of es s) (ap (slice_split is_newline) text ∙ split_first 10 (codes "recording") (flat_map fed ls) refl from_recording) refl
    ∙ read_chain ls (n + 1) Entries [] (chain_append (map line_of_entry es) (rest_lines s) Entries Entries Ended (entries_chain es a.entries) chain)
    ∙ ap {B = Result (List RecordedLine) Defect} (λ (k : List RecordedLine). Ok (map line_of_entry es ++ k)) (sym (rest_written s chain))
