-- What is generated has its lines, and its header.
use Rattle.std.proofs.Common.{◌≡◌, ℕ, zero, suc, ◌+◌, ◌-◌, ◌*◌, ◌/◌, ◌%◌, ◌<◌, ◌≤◌, ◌^◌, nat_lt, List, [], ◌∷◌, ◌++◌, length, mod-lt, suc-mul, refl, sym, ap, ◌∙◌, arith, append_assoc, decimal, Some}
use Rattle.std.specs.Prelude.{codes, slice_index_or, Ok}
use Rattle.std.specs.List.{flat_map, range_with_len}
use Rattle.std.specs.Str.Lines.{lines}
use Rattle.std.proofs.lemmas.Bool.{cond_both, cond-true}
use Rattle.std.proofs.lemmas.List.{append-nil}
use Rattle.journal_text.proofs.WordLaws.{From, decimal_numeral, from_all, from_append, from_decimal, from_less}
use Rattle.scene_trace.proofs.Spaced.{AreWords, line_first, words_spaced}
use Rattle.trace_gen.specs.Draws.{drawn, state_after}
use Rattle.trace_gen.specs.Generated.{by_thread, clear_line, closing_lines, color_line, current_line, digit, draw_line, generated, hex, image_line, kind_line, making_lines, numbered, opening_lines, others, parameter_lines, part_lines, post_line, random_line, random_lines, scissor_line, sides, state_behind, swap_line, texture_lines, two, window_line}
use Rattle.trace_gen.specs.declared.thread_lines.Part.TheVariants.{Closing, Making, Opening, Handover, Window}
use Rattle.trace_reader.proofs.NumeralLaws.{numeral_within}
use Rattle.trace_reader.proofs.StepLaws.{behind_first}
use Rattle.trace_reader.specs.Assigned.{assigned_names}
use Rattle.trace_reader.specs.Grammar.{trace, trace_with}
use Rattle.trace_reader.specs.Traces.{TraceValue}
use Rattle.trace_reader.specs.Header.{header_of, thread_count, within}
use Rattle.trace_reader.specs.Numerals.{is_numeral}
use Rattle.trace_reader.specs.Words.{words}
use Rattle.trace_laws.proofs.DigitLines.{numeral_word}
use Rattle.trace_laws.proofs.HeadThreads.{header_keeps}
use Rattle.trace_laws.proofs.LineCounts.{feeds, lines_fed, past, past_decimal}

pub few : (t : ℕ) → t ≤ 100000 → t < 10 ^ 64
few t h = omega (arith, h)

-- pieces in a row
pub three : (a b c r : List ℕ) → ((a ++ b) ++ c) ++ r ≡ a ++ (b ++ (c ++ r))
three a b c r = append_assoc (a ++ b) c r ∙ append_assoc a b (c ++ r)

-- ---- Lines of a thread.
window_fed : (t : ℕ) (rest : List ℕ) → t ≤ 16 → feeds (window_line t ++ rest) ≡ suc (feeds rest)
unfolding window_line
window_fed t rest h = let k = few t (omega (arith, h)) in ap feeds (three (codes "window ") (decimal t) (codes " 64 64\n") rest) ∙ past_decimal t (codes " 64 64\n" ++ rest) k

making_fed : (t : ℕ) (rest : List ℕ) → t ≤ 16 → feeds (making_lines t ++ rest) ≡ suc (suc (suc (feeds rest)))
unfolding making_lines
making_fed t rest h = let k = few t (omega (arith, h)) in let l = few (t + 1) (omega (arith, h)) in simp (append_assoc, past_decimal)

opening_fed : (t : ℕ) (rest : List ℕ) → t ≤ 16 → feeds (opening_lines t ++ rest) ≡ suc (suc (suc (suc (suc (suc (suc (feeds rest)))))))
unfolding opening_lines current_line texture_lines parameter_lines numbered by_thread
opening_fed t rest h = let k = few t (omega (arith, h)) in simp (append_assoc, past_decimal)

post_fed : (t : ℕ) (rest : List ℕ) → t ≤ 16 → feeds (post_line t ++ rest) ≡ suc (feeds rest)
unfolding post_line
post_fed t rest h = let k = few t (omega (arith, h)) in simp (append_assoc, past_decimal)

pub nine : (a d n b z e q f r : List ℕ) → ((((((((a ++ d) ++ n) ++ b) ++ d) ++ z) ++ e) ++ q) ++ f) ++ r ≡ a ++ (d ++ (n ++ (b ++ (d ++ (z ++ (e ++ (q ++ (f ++ r))))))))
nine a d n b z e q f r = simp append_assoc

closing_fed : (t : ℕ) (rest : List ℕ) → t ≤ 16 → feeds (closing_lines t ++ rest) ≡ suc (suc (suc (feeds rest)))
unfolding closing_lines
closing_fed t rest h =
    let k = few t (omega (arith, h)) in
    let l = few (4 * t) (omega (arith, h)) in
    let wait = codes "0 await " in
    let bind = codes "0 glBindTexture GL_TEXTURE_2D $n" in
    let draw = codes "0 glDrawTexiOES " in
    let last = codes " 0 0 4 4\n" ++ rest in
    let later = codes ".0\n" ++ (draw ++ (decimal (4 * t) ++ last)) in
    let first = codes "\n" ++ (bind ++ (decimal t ++ later)) in
    ap feeds (nine wait (decimal t) (codes "\n") bind (codes ".0\n") draw (decimal (4 * t)) (codes " 0 0 4 4\n") rest)
    ∙ past_decimal t first k
    ∙ ap suc (past_decimal t later k)
    ∙ ap (λ n. suc (suc n)) (past_decimal (4 * t) last l)

-- ---- Lines of many threads.
many_fed : (f : ℕ → List ℕ) (k : ℕ) → ((t : ℕ) (rest : List ℕ) → t ≤ 16 → feeds (f t ++ rest) ≡ k + feeds rest) → (a n : ℕ) (rest : List ℕ) → a + n ≤ 17 → feeds (flat_map f (range_with_len a n) ++ rest) ≡ n * k + feeds rest
many_fed f k each a zero rest h = omega arith
many_fed f k each a (suc n) rest h =
    let more = flat_map f (range_with_len (a + 1) n) in
    let e = ap feeds (append_assoc (f a) more rest) in
    let g = each a (more ++ rest) (omega (arith, h)) in
    let r = many_fed f k each (a + 1) n rest (omega (arith, h)) in
    omega (arith, e, g, r, suc-mul n k)

-- ---- Lines that are drawn.
pub drawn_few : (m k x : ℕ) → 0 < m → m ≤ 100000 → drawn m k x < 10 ^ 64
drawn_few m k x h l = let d = mod-lt (state_after k x / 8589934592) h in omega (arith, d, l)

pub drawn_more : (m k x : ℕ) → 0 < m → m ≤ 100000 → drawn m k x + 1 < 10 ^ 64
drawn_more m k x h l = let d = mod-lt (state_after k x / 8589934592) h in omega (arith, d, l)

digit_from : (d : ℕ) → From 11 (digit d ∷ [])
digit_from d = (cond_both (nat_lt d 10) (48 + d) (87 + d) (λ n. 11 ≤ n) (λ e. omega arith) (λ e. omega arith), tt)

hex_past : (b : ℕ) (rest : List ℕ) → feeds (hex b ++ rest) ≡ feeds rest
hex_past b rest = past (hex b) rest ((digit_from (b / 16)).0, ((digit_from (b % 16)).0, tt))

two_past : (a b : ℕ) (rest : List ℕ) → a < 10 ^ 64 → b < 10 ^ 64 → feeds (two a b ++ rest) ≡ feeds rest
unfolding two
two_past a b rest h k = simp (append_assoc, past_decimal)

sides_fed : (a b : ℕ) (rest : List ℕ) → a + 1 < 10 ^ 64 → b + 1 < 10 ^ 64 → feeds (sides a b ++ rest) ≡ suc (feeds rest)
unfolding sides
sides_fed a b rest h k = ap feeds (three (codes " 0 ") (two (a + 1) (b + 1)) (codes "\n") rest) ∙ two_past (a + 1) (b + 1) (codes "\n" ++ rest) h k

color_fed : (t x : ℕ) (rest : List ℕ) → t < 10 ^ 64 → feeds (color_line t x ++ rest) ≡ suc (feeds rest)
unfolding color_line
color_fed t x rest h =
    let a = drawn_few 65537 1 x (omega arith) (omega arith) in
    let b = drawn_few 65537 2 x (omega arith) (omega arith) in
    let d = drawn_few 65537 3 x (omega arith) (omega arith) in
    simp (append_assoc, past_decimal)

scissor_fed : (t x : ℕ) (rest : List ℕ) → t < 10 ^ 64 → feeds (scissor_line t x ++ rest) ≡ suc (feeds rest)
unfolding scissor_line
scissor_fed t x rest h =
    let a = drawn_few 64 1 x (omega arith) (omega arith) in
    let b = drawn_few 64 2 x (omega arith) (omega arith) in
    let d = drawn_few 65 3 x (omega arith) (omega arith) in
    let e = drawn_few 65 4 x (omega arith) (omega arith) in
    simp (append_assoc, past_decimal, two_past)

clear_fed : (t : ℕ) (rest : List ℕ) → t < 10 ^ 64 → feeds (clear_line t ++ rest) ≡ suc (feeds rest)
unfolding clear_line
clear_fed t rest h = simp (append_assoc, past_decimal)

image_fed : (t x : ℕ) (rest : List ℕ) → t < 10 ^ 64 → feeds (image_line t x ++ rest) ≡ suc (feeds rest)
unfolding image_line
image_fed t x rest h =
    let r = hex (drawn 256 1 x) in
    let g = hex (drawn 256 2 x) in
    let b = hex (drawn 256 3 x) in
    let end = codes "ff\n" in
    let start = codes " glTexImage2D GL_TEXTURE_2D 0 GL_RGBA 4 4 0 GL_RGBA GL_UNSIGNED_BYTE *16:" in
    let regroup : image_line t x ++ rest ≡ decimal t ++ (start ++ (r ++ (g ++ (b ++ (end ++ rest))))) = simp append_assoc in
    ap feeds regroup
    ∙ past_decimal t (start ++ (r ++ (g ++ (b ++ (end ++ rest))))) h
    ∙ hex_past (drawn 256 1 x) (g ++ (b ++ (end ++ rest)))
    ∙ hex_past (drawn 256 2 x) (b ++ (end ++ rest))
    ∙ hex_past (drawn 256 3 x) (end ++ rest)

draw_fed : (t x : ℕ) (rest : List ℕ) → t < 10 ^ 64 → feeds (draw_line t x ++ rest) ≡ suc (feeds rest)
unfolding draw_line
draw_fed t x rest h =
    let a = drawn_few 64 1 x (omega arith) (omega arith) in
    let b = drawn_few 64 2 x (omega arith) (omega arith) in
    let d = drawn_more 64 3 x (omega arith) (omega arith) in
    let e = drawn_more 64 4 x (omega arith) (omega arith) in
    simp (append_assoc, past_decimal, two_past, sides_fed)

swap_fed : (t : ℕ) (rest : List ℕ) → t < 10 ^ 64 → feeds (swap_line t ++ rest) ≡ suc (feeds rest)
unfolding swap_line
swap_fed t rest h = simp (append_assoc, past_decimal)

kind_fed : (k t x : ℕ) (rest : List ℕ) → t < 10 ^ 64 → feeds (kind_line k t x ++ rest) ≡ suc (feeds rest)
kind_fed zero t x rest h = color_fed t x rest h
kind_fed (suc zero) t x rest h = scissor_fed t x rest h
kind_fed (suc (suc zero)) t x rest h = clear_fed t rest h
kind_fed (suc (suc (suc zero))) t x rest h = image_fed t x rest h
kind_fed (suc (suc (suc (suc zero)))) t x rest h = draw_fed t x rest h
kind_fed (suc (suc (suc (suc (suc k))))) t x rest h = swap_fed t rest h

random_fed : (n threads x : ℕ) (rest : List ℕ) → 0 < threads → threads ≤ 16 → feeds (random_lines n threads x ++ rest) ≡ n + feeds rest
unfolding random_line
random_fed zero threads x rest h l = omega arith
random_fed (suc n) threads x rest h l =
    let more = random_lines n threads (state_behind x) in
    let e = ap feeds (append_assoc (random_line threads x) more rest) in
    let g = kind_fed (drawn 6 2 x) (drawn threads 1 x) (state_after 2 x) (more ++ rest) (drawn_few threads 1 x h (omega (arith, l))) in
    let r = random_fed n threads (state_behind x) rest h l in
    omega (arith, e, g, r)

-- ---- All lines.
-- all behind the header, but for the line feed of the last
unfoldable pub behind : ℕ → ℕ → ℕ → List ℕ
behind n threads seed =
    flat_map (part_lines Window) (range_with_len 1 threads)
    ++ (codes "0 $d = eglGetDisplay 0\n0 eglInitialize $d\n0 $s0 = eglCreateWindowSurface $d 4 1 []\n0 $c0 = eglCreateContext $d 4 0 []\n0 post 0\n"
    ++ (flat_map (part_lines Making) (others threads)
    ++ (flat_map (part_lines Opening) (range_with_len 0 threads)
    ++ (random_lines n threads seed
    ++ (flat_map (part_lines Handover) (others threads)
    ++ (flat_map (part_lines Closing) (others threads) ++ codes "0 eglSwapBuffers $d $s0"))))))

unfoldable pub header_text : ℕ → List ℕ
header_text threads = codes "egl-trace 1 " ++ decimal threads

pub regrouped : (n threads seed : ℕ) → generated n threads seed ≡ header_text threads ++ 10 ∷ (behind n threads seed ++ 10 ∷ [])
unfolding generated behind header_text
regrouped n threads seed = simp append_assoc

behind_fed : (n threads seed : ℕ) → 0 < threads → threads ≤ 16 → feeds (behind n threads seed) + 2 ≡ 15 * threads + n
unfolding behind
behind_fed n threads seed h l =
    let last = codes "0 eglSwapBuffers $d $s0" in
    let closing = flat_map (part_lines Closing) (others threads) ++ last in
    let post = flat_map (part_lines Handover) (others threads) ++ closing in
    let random = random_lines n threads seed ++ post in
    let opening = flat_map (part_lines Opening) (range_with_len 0 threads) ++ random in
    let making = flat_map (part_lines Making) (others threads) ++ opening in
    let a = many_fed (part_lines Window) 1 (λ t rest k. (let e = window_fed t rest k in omega (arith, e))) 1 threads (codes "0 $d = eglGetDisplay 0\n0 eglInitialize $d\n0 $s0 = eglCreateWindowSurface $d 4 1 []\n0 $c0 = eglCreateContext $d 4 0 []\n0 post 0\n" ++ making) (omega (arith, l)) in
    let b = many_fed (part_lines Making) 3 (λ t rest k. (let e = making_fed t rest k in omega (arith, e))) 1 (threads - 1) opening (omega (arith, h, l)) in
    let d = many_fed (part_lines Opening) 7 (λ t rest k. (let e = opening_fed t rest k in omega (arith, e))) 0 threads random (omega (arith, l)) in
    let r = random_fed n threads seed post h l in
    let p = many_fed (part_lines Handover) 1 (λ t rest k. (let e = post_fed t rest k in omega (arith, e))) 1 (threads - 1) closing (omega (arith, h, l)) in
    let q = many_fed (part_lines Closing) 3 (λ t rest k. (let e = closing_fed t rest k in omega (arith, e))) 1 (threads - 1) last (omega (arith, h, l)) in
    omega (arith, a, b, d, r, p, q)

header_fed : (threads : ℕ) (rest : List ℕ) → threads ≤ 16 → feeds (header_text threads ++ rest) ≡ feeds rest
unfolding header_text
header_fed threads rest l = past_decimal threads rest (few threads (omega (arith, l)))

pub generated_lines : (n threads seed : ℕ) → 0 < threads → threads ≤ 16 → length (lines (generated n threads seed)) ≡ 15 * threads + n
generated_lines n threads seed h l =
    let e = ap (λ b. length (lines b)) (regrouped n threads seed ∙ sym (append_assoc (header_text threads) (10 ∷ behind n threads seed) (10 ∷ []))) in
    let f = lines_fed (header_text threads ++ 10 ∷ behind n threads seed) in
    let g = header_fed threads (10 ∷ behind n threads seed) l in
    let b = behind_fed n threads seed h l in
    omega (arith, e, f, g, b)

-- ---- The header.
pub header_from : (threads : ℕ) → threads ≤ 16 → From 14 (header_text threads)
unfolding header_text
header_from threads l = from_append 14 (codes "egl-trace 1 ") (decimal threads) (from_all 14 (codes "egl-trace 1 ") refl) (from_less 14 48 (decimal threads) (omega arith) (from_decimal threads (few threads (omega (arith, l)))))

pub header_words : (threads : ℕ) → threads ≤ 16 → words (header_text threads) ≡ codes "egl-trace" ∷ codes "1" ∷ decimal threads ∷ []
unfolding header_text
header_words threads l =
    let k = few threads (omega (arith, l)) in
    let w : AreWords (codes "egl-trace" ∷ codes "1" ∷ decimal threads ∷ []) = (refl, from_all 33 (codes "egl-trace") refl, (refl, from_all 33 (codes "1") refl, (numeral_word (decimal threads) (decimal_numeral threads k), from_less 33 48 (decimal threads) (omega arith) (from_decimal threads k), tt))) in
    ap (λ r. words (codes "egl-trace 1 " ++ r)) (sym (append-nil (decimal threads))) ∙ words_spaced (codes "egl-trace") (codes "1" ∷ decimal threads ∷ []) w

within_few : (t : ℕ) → 0 < t → within (Some t) ≡ Ok t
within_few zero h = absurd (omega (arith, h))
within_few (suc t) h = refl

pub header_said : (threads : ℕ) → 0 < threads → threads ≤ 16 → header_of (codes "egl-trace" ∷ codes "1" ∷ decimal threads ∷ []) ≡ Ok threads
unfolding header_of thread_count
header_said threads h l =
    let k = few threads (omega (arith, l)) in
    cond-true (is_numeral (decimal threads)) _ _ (decimal_numeral threads k) ∙ ap within (numeral_within 16 threads k l) ∙ within_few threads h

pub generated_header : (n threads seed : ℕ) → 0 < threads → threads ≤ 16 → header_of (words (slice_index_or (lines (generated n threads seed)) 0 [])) ≡ Ok threads
generated_header n threads seed h l =
    ap (λ b. header_of (words (slice_index_or (lines b) 0 []))) (regrouped n threads seed)
    ∙ ap (λ ls. header_of (words (slice_index_or ls 0 []))) (line_first (header_text threads) (behind n threads seed ++ 10 ∷ []) (header_from threads l))
    ∙ ap header_of (header_words threads l)
    ∙ header_said threads h l

-- ---- Where it is a trace, it has that many threads.
pub generated_threads : (n threads seed : ℕ) (t : TraceValue) → 0 < threads → threads ≤ 16 → trace (generated n threads seed) ≡ Ok t → t.threads ≡ threads
unfolding trace
generated_threads n threads seed t h l e =
    let b = generated n threads seed in
    let rest = lines (behind n threads seed ++ 10 ∷ []) in
    let names = assigned_names (lines b) in
    let split : lines b ≡ header_text threads ∷ rest = ap lines (regrouped n threads seed) ∙ line_first (header_text threads) (behind n threads seed ++ 10 ∷ []) (header_from threads l) in
    let said : header_of (words (header_text threads)) ≡ Ok threads = ap header_of (header_words threads l) ∙ header_said threads h l in
    header_keeps names rest threads t (sym (ap (trace_with names) split ∙ behind_first names (header_text threads) (Ok threads) said rest) ∙ e)
