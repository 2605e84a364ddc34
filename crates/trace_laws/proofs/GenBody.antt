-- Where what is generated is a trace, it has a line for each text line behind the windows.
use Rattle.std.proofs.Common.{◌≡◌, ℕ, zero, suc, ◌+◌, ◌-◌, ◌*◌, ◌/◌, ◌%◌, ◌<◌, ◌≤◌, ◌^◌, Bool, true, false, ◌&&◌, nat_lt, List, [], ◌∷◌, ◌++◌, map, length, length-append, refl, sym, ap, ◌∙◌, arith, append_assoc, decimal, Option, Some}
use Rattle.std.specs.Prelude.{codes, if◌then◌else◌, Result, Ok, Err}
use Rattle.std.specs.List.{flat_map, range_with_len}
use Rattle.std.specs.Str.Lines.{lines}
use Rattle.std.specs.Str.{bytes_eq}
use Rattle.std.proofs.lemmas.Bool.{and_right, cond-false, cond_both}
use Rattle.journal_text.proofs.WordLaws.{From, decimal_numeral, from_all, from_append, from_decimal, from_less}
use Rattle.scene_trace.proofs.Spaced.{AreWords, line_first, words_spaced}
use Rattle.trace_gen.specs.Draws.{drawn, state_after}
use Rattle.trace_gen.specs.Generated.{by_thread, clear_line, closing_lines, color_line, current_line, digit, draw_line, generated, hex, image_line, kind_line, making_lines, numbered, opening_lines, others, parameter_lines, part_lines, post_line, random_line, random_lines, scissor_line, sides, state_behind, swap_line, texture_lines, two, window_line}
use Rattle.trace_gen.specs.declared.thread_lines.Part.TheVariants.{Closing, Making, Opening, Handover, Window}
use Rattle.trace_reader.proofs.StepLaws.{behind_first}
use Rattle.trace_reader.specs.Assigned.{assigned_names}
use Rattle.trace_reader.specs.Grammar.{head_then, read_on, trace, trace_with, with_lines}
use Rattle.trace_reader.specs.Header.{header_of}
use Rattle.trace_reader.specs.Heads.{HeadValue, bare, head_line, head_said, is_bare, window_line as said_window}
use Rattle.trace_reader.specs.Traces.{TraceValue}
use Rattle.trace_reader.specs.Words.{is_skipped, words}
use Rattle.trace_reader.specs.Body.{read_body}
use Rattle.trace_reader.specs.declared.traces.Defect.{Defect}
use Rattle.trace_reader.specs.declared.traces.Reason.{Reason}
use Rattle.trace_laws.proofs.DigitLines.{digit_lines, formed, lines_counts, number_first, number_in, numeral_word, past_in}
use Rattle.trace_laws.proofs.GenLaws.{behind, drawn_few, drawn_more, few, generated_lines, header_from, header_said, header_text, header_words, nine, regrouped, three}

-- ---- Lines of a thread.
making_formed : (t : ℕ) (rest : List ℕ) → t ≤ 16 → formed true (making_lines t ++ rest) ≡ formed true rest
unfolding making_lines
making_formed t rest h = let k = few t (omega (arith, h)) in let l = few (t + 1) (omega (arith, h)) in simp (append_assoc, number_first, number_in)

opening_formed : (t : ℕ) (rest : List ℕ) → t ≤ 16 → formed true (opening_lines t ++ rest) ≡ formed true rest
unfolding opening_lines current_line texture_lines parameter_lines numbered by_thread
opening_formed t rest h = let k = few t (omega (arith, h)) in simp (append_assoc, number_first, number_in)

post_formed : (t : ℕ) (rest : List ℕ) → t ≤ 16 → formed true (post_line t ++ rest) ≡ formed true rest
unfolding post_line
post_formed t rest h = let k = few t (omega (arith, h)) in simp (append_assoc, number_first, number_in)

closing_formed : (t : ℕ) (rest : List ℕ) → t ≤ 16 → formed true (closing_lines t ++ rest) ≡ formed true rest
unfolding closing_lines
closing_formed t rest h =
    let k = few t (omega (arith, h)) in
    let l = few (4 * t) (omega (arith, h)) in
    let wait = codes "0 await " in
    let bind = codes "0 glBindTexture GL_TEXTURE_2D $n" in
    let draw = codes "0 glDrawTexiOES " in
    let last = codes " 0 0 4 4\n" ++ rest in
    let later = codes ".0\n" ++ (draw ++ (decimal (4 * t) ++ last)) in
    let first = codes "\n" ++ (bind ++ (decimal t ++ later)) in
    ap (formed true) (nine wait (decimal t) (codes "\n") bind (codes ".0\n") draw (decimal (4 * t)) (codes " 0 0 4 4\n") rest)
    ∙ number_in t first k
    ∙ number_in t later k
    ∙ number_in (4 * t) last l

many_formed : (f : ℕ → List ℕ) → ((t : ℕ) (rest : List ℕ) → t ≤ 16 → formed true (f t ++ rest) ≡ formed true rest) → (a n : ℕ) (rest : List ℕ) → a + n ≤ 17 → formed true (flat_map f (range_with_len a n) ++ rest) ≡ formed true rest
many_formed f each a zero rest h = refl
many_formed f each a (suc n) rest h =
    let more = flat_map f (range_with_len (a + 1) n) in
    ap (formed true) (append_assoc (f a) more rest) ∙ each a (more ++ rest) (omega (arith, h)) ∙ many_formed f each (a + 1) n rest (omega (arith, h))

-- ---- Lines that are drawn.
two_in : (a b : ℕ) (rest : List ℕ) → a < 10 ^ 64 → b < 10 ^ 64 → formed false (two a b ++ rest) ≡ formed false rest
unfolding two
two_in a b rest h k = simp (append_assoc, number_in)

sides_in : (a b : ℕ) (rest : List ℕ) → a + 1 < 10 ^ 64 → b + 1 < 10 ^ 64 → formed false (sides a b ++ rest) ≡ formed true rest
unfolding sides
sides_in a b rest h k = ap (formed false) (three (codes " 0 ") (two (a + 1) (b + 1)) (codes "\n") rest) ∙ two_in (a + 1) (b + 1) (codes "\n" ++ rest) h k

digit_from : (d : ℕ) → 14 ≤ digit d
digit_from d = cond_both (nat_lt d 10) (48 + d) (87 + d) (λ n. 14 ≤ n) (λ e. omega arith) (λ e. omega arith)

hex_in : (b : ℕ) (rest : List ℕ) → formed false (hex b ++ rest) ≡ formed false rest
hex_in b rest = past_in (hex b) rest (digit_from (b / 16), (digit_from (b % 16), tt))

color_formed : (t x : ℕ) (rest : List ℕ) → t < 10 ^ 64 → formed true (color_line t x ++ rest) ≡ formed true rest
unfolding color_line
color_formed t x rest h =
    let a = drawn_few 65537 1 x (omega arith) (omega arith) in
    let b = drawn_few 65537 2 x (omega arith) (omega arith) in
    let d = drawn_few 65537 3 x (omega arith) (omega arith) in
    simp (append_assoc, number_first, number_in)

scissor_formed : (t x : ℕ) (rest : List ℕ) → t < 10 ^ 64 → formed true (scissor_line t x ++ rest) ≡ formed true rest
unfolding scissor_line
scissor_formed t x rest h =
    let a = drawn_few 64 1 x (omega arith) (omega arith) in
    let b = drawn_few 64 2 x (omega arith) (omega arith) in
    let d = drawn_few 65 3 x (omega arith) (omega arith) in
    let e = drawn_few 65 4 x (omega arith) (omega arith) in
    simp (append_assoc, number_first, number_in, two_in)

clear_formed : (t : ℕ) (rest : List ℕ) → t < 10 ^ 64 → formed true (clear_line t ++ rest) ≡ formed true rest
unfolding clear_line
clear_formed t rest h = simp (append_assoc, number_first)

image_formed : (t x : ℕ) (rest : List ℕ) → t < 10 ^ 64 → formed true (image_line t x ++ rest) ≡ formed true rest
unfolding image_line
image_formed t x rest h =
    let r = hex (drawn 256 1 x) in
    let g = hex (drawn 256 2 x) in
    let b = hex (drawn 256 3 x) in
    let end = codes "ff\n" in
    let start = codes " glTexImage2D GL_TEXTURE_2D 0 GL_RGBA 4 4 0 GL_RGBA GL_UNSIGNED_BYTE *16:" in
    let regroup : image_line t x ++ rest ≡ decimal t ++ (start ++ (r ++ (g ++ (b ++ (end ++ rest))))) = simp append_assoc in
    ap (formed true) regroup
    ∙ number_first t (start ++ (r ++ (g ++ (b ++ (end ++ rest))))) h
    ∙ hex_in (drawn 256 1 x) (g ++ (b ++ (end ++ rest)))
    ∙ hex_in (drawn 256 2 x) (b ++ (end ++ rest))
    ∙ hex_in (drawn 256 3 x) (end ++ rest)

draw_formed : (t x : ℕ) (rest : List ℕ) → t < 10 ^ 64 → formed true (draw_line t x ++ rest) ≡ formed true rest
unfolding draw_line
draw_formed t x rest h =
    let a = drawn_few 64 1 x (omega arith) (omega arith) in
    let b = drawn_few 64 2 x (omega arith) (omega arith) in
    let d = drawn_more 64 3 x (omega arith) (omega arith) in
    let e = drawn_more 64 4 x (omega arith) (omega arith) in
    simp (append_assoc, number_first, two_in, sides_in)

swap_formed : (t : ℕ) (rest : List ℕ) → t < 10 ^ 64 → formed true (swap_line t ++ rest) ≡ formed true rest
unfolding swap_line
swap_formed t rest h = simp (append_assoc, number_first, number_in)

kind_formed : (k t x : ℕ) (rest : List ℕ) → t < 10 ^ 64 → formed true (kind_line k t x ++ rest) ≡ formed true rest
kind_formed zero t x rest h = color_formed t x rest h
kind_formed (suc zero) t x rest h = scissor_formed t x rest h
kind_formed (suc (suc zero)) t x rest h = clear_formed t rest h
kind_formed (suc (suc (suc zero))) t x rest h = image_formed t x rest h
kind_formed (suc (suc (suc (suc zero)))) t x rest h = draw_formed t x rest h
kind_formed (suc (suc (suc (suc (suc k))))) t x rest h = swap_formed t rest h

random_formed : (n threads x : ℕ) (rest : List ℕ) → 0 < threads → threads ≤ 16 → formed true (random_lines n threads x ++ rest) ≡ formed true rest
unfolding random_line
random_formed zero threads x rest h l = refl
random_formed (suc n) threads x rest h l =
    let more = random_lines n threads (state_behind x) in
    ap (formed true) (append_assoc (random_line threads x) more rest)
    ∙ kind_formed (drawn 6 2 x) (drawn threads 1 x) (state_after 2 x) (more ++ rest) (drawn_few threads 1 x h (omega (arith, l)))
    ∙ random_formed n threads (state_behind x) rest h l

-- ---- All behind the windows.
after : ℕ → ℕ → ℕ → List ℕ
after n threads seed =
    codes "0 $d = eglGetDisplay 0\n0 eglInitialize $d\n0 $s0 = eglCreateWindowSurface $d 4 1 []\n0 $c0 = eglCreateContext $d 4 0 []\n0 post 0\n"
    ++ (flat_map (part_lines Making) (others threads)
    ++ (flat_map (part_lines Opening) (range_with_len 0 threads)
    ++ (random_lines n threads seed
    ++ (flat_map (part_lines Handover) (others threads)
    ++ (flat_map (part_lines Closing) (others threads) ++ codes "0 eglSwapBuffers $d $s0\n")))))

after_formed : (n threads seed : ℕ) → 0 < threads → threads ≤ 16 → formed true (after n threads seed) ≡ true
unfolding after
after_formed n threads seed h l =
    let last = codes "0 eglSwapBuffers $d $s0\n" in
    let closing = flat_map (part_lines Closing) (others threads) ++ last in
    let post = flat_map (part_lines Handover) (others threads) ++ closing in
    let random = random_lines n threads seed ++ post in
    let opening = flat_map (part_lines Opening) (range_with_len 0 threads) ++ random in
    many_formed (part_lines Making) (λ t rest k. making_formed t rest k) 1 (threads - 1) opening (omega (arith, h, l))
    ∙ many_formed (part_lines Opening) (λ t rest k. opening_formed t rest k) 0 threads random (omega (arith, l))
    ∙ random_formed n threads seed post h l
    ∙ many_formed (part_lines Handover) (λ t rest k. post_formed t rest k) 1 (threads - 1) closing (omega (arith, h, l))
    ∙ many_formed (part_lines Closing) (λ t rest k. closing_formed t rest k) 1 (threads - 1) last (omega (arith, h, l))

behind_is : (n threads seed : ℕ) → behind n threads seed ++ 10 ∷ [] ≡ flat_map (part_lines Window) (range_with_len 1 threads) ++ after n threads seed
unfolding behind after
behind_is n threads seed = simp append_assoc

-- ---- The windows.
window_text : ℕ → List ℕ
window_text k = (codes "window " ++ decimal k) ++ codes " 64 64"

window_words : (k : ℕ) → k < 10 ^ 64 → words (window_text k) ≡ codes "window" ∷ decimal k ∷ codes "64" ∷ codes "64" ∷ []
unfolding window_text
window_words k h =
    let w : AreWords (codes "window" ∷ decimal k ∷ codes "64" ∷ codes "64" ∷ []) =
    (refl, from_all 33 (codes "window") refl, (numeral_word (decimal k) (decimal_numeral k h), from_less 33 48 (decimal k) (omega arith) (from_decimal k h), (refl, from_all 33 (codes "64") refl, (refl, from_all 33 (codes "64") refl, tt)))) in
    words_spaced (codes "window") (decimal k ∷ codes "64" ∷ codes "64" ∷ []) w

window_from : (k : ℕ) → k < 10 ^ 64 → From 14 (window_text k)
unfolding window_text
window_from k h = from_append 14 (codes "window " ++ decimal k) (codes " 64 64") (from_append 14 (codes "window ") (decimal k) (from_all 14 (codes "window ") refl) (from_less 14 48 (decimal k) (omega arith) (from_decimal k h))) (from_all 14 (codes " 64 64") refl)

window_said : (head : HeadValue) (more : List (List ℕ)) → head_said head (codes "window" ∷ more) ≡ Some (said_window head (codes "window" ∷ more))
unfolding head_said
window_said head more = cond-false (is_bare head && bytes_eq (codes "window") (codes "video")) _ _ (and_right (is_bare head) _ refl)

some_head : (head : HeadValue) (skipped : Bool) (o : Option (Result HeadValue Reason)) (r : Result HeadValue Reason) → o ≡ Some r → (x : Result HeadValue Reason) × ((if skipped then Some (Ok head) else o) ≡ Some x)
some_head head true o r e = (Ok head, refl)
some_head head false o r e = (r, e)

window_head : (head : HeadValue) (k : ℕ) → k < 10 ^ 64 → (x : Result HeadValue Reason) × (head_line head (window_text k) ≡ Some x)
unfolding head_line
window_head head k h =
    let more = decimal k ∷ codes "64" ∷ codes "64" ∷ [] in
    some_head head (is_skipped (window_text k)) (head_said head (words (window_text k))) (said_window head (codes "window" ∷ more)) (ap (head_said head) (window_words k h) ∙ window_said head more)

window_texts : ℕ → ℕ → List (List ℕ)
window_texts a n = map window_text (range_with_len a n)

windows_lined : (a n : ℕ) (rest : List ℕ) → a + n ≤ 17 → lines (flat_map (part_lines Window) (range_with_len a n) ++ rest) ≡ window_texts a n ++ lines rest
unfolding window_texts window_text window_line
windows_lined a zero rest h = refl
windows_lined a (suc n) rest h =
    let more = flat_map (part_lines Window) (range_with_len (a + 1) n) in
    let k = few a (omega (arith, h)) in
    let start = codes "window " ++ decimal a in
    ap lines (append_assoc (window_line a) more rest ∙ append_assoc start (codes " 64 64\n") (more ++ rest) ∙ sym (append_assoc start (codes " 64 64") (10 ∷ (more ++ rest))))
    ∙ line_first (window_text a) (more ++ rest) (window_from a k)
    ∙ ap (λ (ls : List (List ℕ)). window_text a ∷ ls) (windows_lined (a + 1) n rest (omega (arith, h)))

texts_many : (a n : ℕ) → length (window_texts a n) ≡ n
unfolding window_texts
texts_many a zero = refl
texts_many a (suc n) = let h = texts_many (a + 1) n in omega (arith, h)

abbrev ok_trace : TraceValue → Result TraceValue Defect
ok_trace t = Ok t

ok_err : {A : Type 0} (d : Defect) (x : A) → Err d ≡ Ok x → ⊥
ok_err d x h = cc

by_window : (names : List (List ℕ)) (n : ℕ) (rest : List (List ℕ)) (t : TraceValue) (x : Result HeadValue Reason) (body : Result TraceValue Defect) → head_then n (Some x) (λ next. read_on names next (n + 1) rest) body ≡ ok_trace t → (next : HeadValue) × (read_on names next (n + 1) rest ≡ ok_trace t)
by_window names n rest t (Ok next) body h = (next, h)
by_window names n rest t (Err r) body h = absurd (ok_err _ t h)

windows_passed : (names : List (List ℕ)) (head : HeadValue) (m a n : ℕ) (ls : List (List ℕ)) (t : TraceValue) → a + n ≤ 17 → read_on names head m (window_texts a n ++ ls) ≡ ok_trace t → (next : HeadValue) × (read_on names next (m + n) ls ≡ ok_trace t)
unfolding window_texts
windows_passed names head m a zero ls t l h = (head, ap (λ (k : ℕ). read_on names head k ls) (omega arith) ∙ h)
windows_passed names head m a (suc n) ls t l h =
    let x = window_head head a (few a (omega (arith, l))) in
    let rest = window_texts (a + 1) n ++ ls in
    let body = with_lines head (read_body head names m 0 0 0 [] (window_text a ∷ rest)) in
    let p = by_window names m rest t x.0 body (sym (ap (λ o. head_then m o (λ next. read_on names next (m + 1) rest) body) x.1) ∙ h) in
    let q = windows_passed names p.0 (m + 1) (a + 1) n ls t (omega (arith, l)) p.1 in
    (q.0, ap (λ (k : ℕ). read_on names q.0 k ls) (omega arith) ∙ q.1)

-- ---- The lines of the trace.
pub generated_body : (n threads seed : ℕ) (t : TraceValue) → 0 < threads → threads ≤ 16 → trace (generated n threads seed) ≡ Ok t → length t.lines + 1 ≡ 14 * threads + n
unfolding trace
generated_body n threads seed t h l e =
    let b = generated n threads seed in
    let body = lines (after n threads seed) in
    let rest = window_texts 1 threads ++ body in
    let names = assigned_names (lines b) in
    let split : lines b ≡ header_text threads ∷ rest =
    ap lines (regrouped n threads seed)
    ∙ line_first (header_text threads) (behind n threads seed ++ 10 ∷ []) (header_from threads l)
    ∙ ap (λ (bs : List ℕ). header_text threads ∷ lines bs) (behind_is n threads seed)
    ∙ ap (λ (ls : List (List ℕ)). header_text threads ∷ ls) (windows_lined 1 threads (after n threads seed) (omega (arith, l))) in
    let said : header_of (words (header_text threads)) ≡ Ok threads = ap header_of (header_words threads l) ∙ header_said threads h l in
    let read : read_on names (bare threads) 2 rest ≡ ok_trace t = sym (ap (trace_with names) split ∙ behind_first names (header_text threads) (Ok threads) said rest) ∙ e in
    let p = windows_passed names (bare threads) 2 1 threads body t (omega (arith, l)) read in
    let c = lines_counts names p.0 (2 + threads) body t (digit_lines (after n threads seed) (after_formed n threads seed h l)) p.1 in
    let all = generated_lines n threads seed h l in
    let one = ap length split in
    let many = texts_many 1 threads in
    omega (arith, c, all, one, many, length-append (window_texts 1 threads) body)
