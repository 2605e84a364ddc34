-- The trace of lines that say calls.
use Rattle.std.proofs.Common.{◌≡◌, ℕ, ◌+◌, ◌≤◌, Bool, false, ◌==◌, List, [], ◌∷◌, ◌++◌, length, map, refl, sym, ap, ◌∙◌, arith, append_assoc, None, Some}
use Rattle.std.proofs.lemmas.Bool.{and_left, cond-false, ne_eqb, or_from}
use Rattle.std.proofs.lemmas.List.{append-nil, length-append}
use Rattle.std.specs.Prelude.{codes, if◌then◌else◌, Result, Ok}
use Rattle.std.specs.List.{flat_map}
use Rattle.std.specs.Str.{bytes_eq}
use Rattle.std.specs.Str.Lines.{lines}
use Rattle.egl_calls.specs.Calls.{CallValue}
use Rattle.trace_reader.proofs.AssignedLaws.{assigned_past, by_words}
use Rattle.trace_reader.proofs.BodyLaws.{next_taken}
use Rattle.trace_reader.proofs.HeadLaws.{on_line}
use Rattle.trace_reader.proofs.StepLaws.{behind_first}
use Rattle.trace_reader.specs.Assigned.{assigned_in, assigned_names, where_variable}
use Rattle.trace_reader.specs.Body.{body_of, is_assignment, read_body}
use Rattle.trace_reader.specs.Grammar.{read_on, trace, trace_of_lines, trace_with, with_lines}
use Rattle.trace_reader.specs.Header.{header_of, thread_count}
use Rattle.trace_reader.specs.Heads.{HeadValue, bare, head_line, head_said, video_line, video_of}
use Rattle.trace_reader.specs.Numerals.{is_numeral, numeral}
use Rattle.trace_reader.specs.Payloads.{most_payload_bytes, payload_bytes}
use Rattle.trace_reader.specs.Pixels.{most_pixel_bytes, pixel_bytes}
use Rattle.trace_reader.specs.Words.{begins_with, is_skipped, word_at, words}
use Rattle.trace_reader.specs.declared.traces.Defect.{Defect}
use Rattle.trace_reader.specs.declared.traces.Line.{Line}
use Rattle.journal_text.proofs.WordLaws.{From, from_all}
use Rattle.sprite_scene.specs.Runs.{video_bytes}
use Rattle.scene_trace.specs.Lines.{call_line, line_of, lines_from, trace_of}
use Rattle.call_table.specs.Names.{call_name}
use Rattle.scene_trace.proofs.CallsRead.{Reads}
use Rattle.scene_trace.proofs.Spaced.{AreWords, bare_line, call_words, from_spaced, line_first, line_is, words_spaced}

-- calls, each of which is read back
abbrev pub AreRead : List CallValue → Type 0
AreRead [] = Unit {0}
AreRead (c ∷ cs) = Reads c × AreRead cs

-- of calls, one after another
abbrev pub total : (CallValue → ℕ) → List CallValue → ℕ
total f [] = 0
total f (c ∷ cs) = f c + total f cs

abbrev head : HeadValue
head = record { threads = 1; video = Some video_bytes; windows = [] }

-- ---- A line.
line_words : (c : CallValue) → Reads c → words (bare_line c) ≡ codes "0" ∷ call_words c
line_words c r = let a : AreWords (codes "0" ∷ call_words c) = (refl, from_all 33 (codes "0") refl, r.words) in words_spaced (codes "0") (call_words c) a

line_bytes : (c : CallValue) → Reads c → From 14 (bare_line c)
line_bytes c r = (omega arith, from_spaced (call_words c) r.words)

not_skipped : (c : CallValue) → Reads c → is_skipped (bare_line c) ≡ false
not_skipped c r = or_from (length (words (bare_line c)) == 0) _ (ap (λ (ws : List (List ℕ)). length ws == 0) (line_words c r) ∙ ne_eqb (length (codes "0" ∷ call_words c)) 0 (λ e. absurd (omega (arith, e)))) refl

assigns_none : (c : CallValue) → Reads c → assigned_in (bare_line c) ≡ None
assigns_none c r =
    let ws = codes "0" ∷ call_words c in
    let none : is_assignment ws ≡ false = and_left (begins_with 36 (call_name c.kind)) (bytes_eq (word_at ws 2) (codes "=")) r.call in
    by_words (bare_line c) ws refl (line_words c r) ∙ ap (λ (b : Bool). where_variable (if b then Some (word_at ws 1) else None)) none

body : (c : CallValue) (n : ℕ) → Reads c → body_of 1 [] 0 n (words (bare_line c)) ≡ Ok (line_of n c)
body c n r = ap (body_of 1 [] 0 n) (line_words c r) ∙ r.line n

-- ---- All lines.
more_read : (read : List Line) (c : CallValue) (n : ℕ) (cs : List CallValue) → (read ++ line_of n c ∷ []) ++ lines_from (n + 1) cs ≡ read ++ lines_from n (c ∷ cs)
more_read read c n cs = append_assoc read (line_of n c ∷ []) (lines_from (n + 1) cs)

lines_read : (cs : List CallValue) (n pixels payloads : ℕ) (read : List Line) → AreRead cs → length read + length cs ≤ 100000 → pixels + total (pixel_bytes []) cs ≤ most_pixel_bytes → payloads + total payload_bytes cs ≤ most_payload_bytes →
    read_body head [] n 0 pixels payloads read (map bare_line cs) ≡ Ok (read ++ lines_from n cs)
lines_read [] n pixels payloads read a few small short = ap (λ (ls : List Line). let r : Result (List Line) Defect = Ok ls in r) (sym (append-nil read))
lines_read (c ∷ cs) n pixels payloads read a few small short =
    let longer = length-append read (line_of n c ∷ []) in
    next_taken head n (bare_line c) [] 0 pixels payloads read (map bare_line cs) (line_of n c) (not_skipped c a.0) (omega (arith, few)) (omega (arith, small)) (omega (arith, short)) (body c n a.0)
    ∙ lines_read cs (n + 1) (pixels + pixel_bytes [] c) (payloads + payload_bytes c) (read ++ line_of n c ∷ []) a.1 (omega (arith, few, longer)) (omega (arith, small)) (omega (arith, short))
    ∙ ap (λ (ls : List Line). let r : Result (List Line) Defect = Ok ls in r) (more_read read c n cs)

no_names : (cs : List CallValue) → AreRead cs → assigned_names (map bare_line cs) ≡ []
unfolding assigned_names
no_names [] a = refl
no_names (c ∷ cs) a = assigned_past (bare_line c) (map bare_line cs) (assigns_none c a.0) ∙ no_names cs a.1

cut : (cs : List CallValue) → AreRead cs → lines (flat_map call_line cs) ≡ map bare_line cs
cut [] a = refl
cut (c ∷ cs) a =
    ap (λ (xs : List ℕ). lines (xs ++ flat_map call_line cs)) (line_is c)
    ∙ ap lines (append_assoc (bare_line c) (codes "\n") (flat_map call_line cs))
    ∙ line_first (bare_line c) (flat_map call_line cs) (line_bytes c a.0)
    ∙ ap (λ (ls : List (List ℕ)). bare_line c ∷ ls) (cut cs a.1)

-- ---- What stands in front.
abbrev first_line : List ℕ
first_line = codes "egl-trace 1 1"

abbrev second_line : List ℕ
second_line = codes "video 1073741824"

first_words : words first_line ≡ codes "egl-trace" ∷ codes "1" ∷ codes "1" ∷ []
unfolding words
first_words = refl

second_words : words second_line ≡ codes "video" ∷ codes "1073741824" ∷ []
unfolding words
second_words = refl

header_read : header_of (codes "egl-trace" ∷ codes "1" ∷ codes "1" ∷ []) ≡ Ok 1
unfolding header_of thread_count is_numeral numeral
header_read = refl

video_said : head_said (bare 1) (codes "video" ∷ codes "1073741824" ∷ []) ≡ Some (Ok head)
unfolding head_said video_line video_of is_numeral numeral
video_said = refl

second_read : head_line (bare 1) second_line ≡ Some (Ok head)
unfolding head_line
second_read =
    let some : is_skipped second_line ≡ false = or_from (length (words second_line) == 0) _ (ap (λ (ws : List (List ℕ)). length ws == 0) second_words) refl in
    cond-false (is_skipped second_line) _ _ some ∙ ap (head_said (bare 1)) second_words ∙ video_said

-- a line of a call ends the head
no_head : (ws : List (List ℕ)) → head_said head (codes "0" ∷ ws) ≡ None
unfolding head_said
no_head ws = refl

call_ends : (c : CallValue) → Reads c → head_line head (bare_line c) ≡ None
unfolding head_line
call_ends c r = cond-false (is_skipped (bare_line c)) _ _ (not_skipped c r) ∙ ap (head_said head) (line_words c r) ∙ no_head (call_words c)

calls_on : (cs : List CallValue) → AreRead cs → read_on [] head 3 (map bare_line cs) ≡ with_lines head (read_body head [] 3 0 0 0 [] (map bare_line cs))
calls_on [] a = refl
calls_on (c ∷ cs) a = on_line [] head 3 (bare_line c) None (call_ends c a.0) (map bare_line cs)

first_assigns : assigned_in first_line ≡ None
first_assigns = by_words first_line (codes "egl-trace" ∷ codes "1" ∷ codes "1" ∷ []) refl first_words ∙ refl

second_assigns : assigned_in second_line ≡ None
second_assigns = by_words second_line (codes "video" ∷ codes "1073741824" ∷ []) refl second_words ∙ refl

all_lines : (rest : List ℕ) → lines (codes "egl-trace 1 1\nvideo 1073741824\n" ++ rest) ≡ first_line ∷ second_line ∷ lines rest
all_lines rest =
    line_first first_line (second_line ++ 10 ∷ rest) (from_all 14 first_line refl)
    ∙ ap (λ (ls : List (List ℕ)). first_line ∷ ls) (line_first second_line rest (from_all 14 second_line refl))

-- the trace of calls that are read back and pass no limit
pub calls_trace : (cs : List CallValue) → AreRead cs → length cs ≤ 100000 → total (pixel_bytes []) cs ≤ most_pixel_bytes → total payload_bytes cs ≤ most_payload_bytes →
    trace (codes "egl-trace 1 1\nvideo 1073741824\n" ++ flat_map call_line cs) ≡ Ok (trace_of cs)
unfolding trace
calls_trace cs a few small short =
    let ls = map bare_line cs in
    let all = first_line ∷ second_line ∷ ls in
    let names : assigned_names all ≡ [] = assigned_past first_line (second_line ∷ ls) first_assigns ∙ assigned_past second_line ls second_assigns ∙ no_names cs a in
    ap trace_of_lines (all_lines (flat_map call_line cs) ∙ ap (λ (xs : List (List ℕ)). first_line ∷ second_line ∷ xs) (cut cs a))
    ∙ ap (λ (ns : List (List ℕ)). trace_with ns all) names
    ∙ behind_first [] first_line (Ok 1) (ap header_of first_words ∙ header_read) (second_line ∷ ls)
    ∙ on_line [] (bare 1) 2 second_line (Some (Ok head)) second_read ls
    ∙ calls_on cs a
    ∙ ap (with_lines head) (lines_read cs 3 0 0 [] a (omega (arith, few)) (omega (arith, small)) (omega (arith, short)))
