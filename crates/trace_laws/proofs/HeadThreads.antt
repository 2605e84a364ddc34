-- A trace has as many threads as its header says.
use Rattle.std.proofs.Common.{◌≡◌, ◌⊎◌, inl, inr, ℕ, ◌+◌, Bool, true, false, ◌&&◌, List, [], ◌∷◌, refl, sym, ap, ◌∙◌, Option, None, Some}
use Rattle.std.specs.Prelude.{codes, if◌then◌else◌, Result, Ok, Err}
use Rattle.std.specs.Str.{bytes_eq}
use Rattle.std.proofs.lemmas.Option.{none-some, same_Some}
use Rattle.trace_reader.proofs.StepLaws.{bound, given}
use Rattle.trace_reader.specs.Body.{read_body}
use Rattle.trace_reader.specs.Grammar.{behind_header, head_then, read_on, with_lines}
use Rattle.trace_reader.specs.Heads.{HeadValue, bare, has_room, head_line, head_said, is_bare, placed, video_line, video_of, window_line, window_of, with_video, with_window}
use Rattle.trace_reader.specs.Traces.{TraceValue}
use Rattle.trace_reader.specs.Words.{is_skipped, word_at, words}
use Rattle.trace_reader.specs.declared.traces.Defect.{Defect}
use Rattle.trace_reader.specs.declared.traces.Line.{Line}
use Rattle.trace_reader.specs.declared.traces.Reason.{Reason}
use Rattle.trace_reader.specs.declared.traces.Reason.TheVariants.{Limit}

ok_err : {A : Type 0} (d : Defect) (x : A) → Err d ≡ Ok x → ⊥
ok_err d x h = cc

of_head : Result HeadValue Reason → ℕ
of_head (Ok h) = h.threads
of_head (Err r) = 0

of_trace : Result TraceValue Defect → ℕ
of_trace (Ok t) = t.threads
of_trace (Err d) = 0

of_said : Option (Result HeadValue Reason) → ℕ
of_said (Some (Ok h)) = h.threads
of_said o = 0

abbrev ok_head : HeadValue → Result HeadValue Reason
ok_head h = Ok h

abbrev ok_trace : TraceValue → Result TraceValue Defect
ok_trace t = Ok t

same_head : (a b : HeadValue) → ok_head a ≡ ok_head b → b.threads ≡ a.threads
unfolding of_head
same_head a b h = sym (ap of_head h)

same_trace : (a b : TraceValue) → ok_trace a ≡ ok_trace b → b.threads ≡ a.threads
unfolding of_trace
same_trace a b h = sym (ap of_trace h)

-- ---- A line of the head.
video_keeps : (head next : HeadValue) (ws : List (List ℕ)) → video_line head ws ≡ Ok next → next.threads ≡ head.threads
unfolding video_line
video_keeps head next ws h = let x = bound (video_of ws) (λ (bytes : ℕ). ok_head (with_video head bytes)) next h in same_head (with_video head x.0) next x.1

window_keeps : (head next : HeadValue) (ws : List (List ℕ)) → window_line head ws ≡ Ok next → next.threads ≡ head.threads
unfolding window_line
window_keeps head next ws h =
    let x = bound (window_of head.windows ws) (placed head) next h in
    same_head (with_window head x.0) next (given (has_room head.windows x.0) Limit (ok_head (with_window head x.0)) next x.1)

either : (a w : Bool) (x y r : Result HeadValue Reason) → (if a then Some x else if w then Some y else None) ≡ Some r → (x ≡ r) ⊎ (y ≡ r)
either true w x y r h = inl (same_Some x r h)
either false true x y r h = inr (same_Some y r h)
either false false x y r h = absurd (none-some r h)

said_keeps : (head next : HeadValue) (ws : List (List ℕ)) → head_said head ws ≡ Some (Ok next) → next.threads ≡ head.threads
unfolding head_said
said_keeps head next ws h = elim (either (is_bare head && bytes_eq (word_at ws 0) (codes "video")) (bytes_eq (word_at ws 0) (codes "window")) (video_line head ws) (window_line head ws) (Ok next) h) [
  | inl e ↦ video_keeps head next ws e
  | inr e ↦ window_keeps head next ws e
]

by_skipped : (head next : HeadValue) (skipped : Bool) (ws : List (List ℕ)) → (if skipped then Some (Ok head) else head_said head ws) ≡ Some (Ok next) → next.threads ≡ head.threads
unfolding of_said
by_skipped head next true ws h = sym (ap of_said h)
by_skipped head next false ws h = said_keeps head next ws h

head_keeps : (head next : HeadValue) (line : List ℕ) → head_line head line ≡ Some (Ok next) → next.threads ≡ head.threads
unfolding head_line
head_keeps head next line h = by_skipped head next (is_skipped line) (words line) h

-- ---- All lines.
with_keeps : (head : HeadValue) (r : Result (List Line) Defect) (t : TraceValue) → with_lines head r ≡ Ok t → t.threads ≡ head.threads
with_keeps head (Ok ls) t h = same_trace _ t h
with_keeps head (Err d) t h = absurd (ok_err d t h)

by_head : (names : List (List ℕ)) (head : HeadValue) (n : ℕ) (line : List ℕ) (rest : List (List ℕ)) (t : TraceValue) (o : Option (Result HeadValue Reason)) → head_line head line ≡ o →
    ((next : HeadValue) → read_on names next (n + 1) rest ≡ Ok t → t.threads ≡ next.threads) →
    head_then n o (λ next. read_on names next (n + 1) rest) (with_lines head (read_body head names n 0 0 0 [] (line ∷ rest))) ≡ Ok t → t.threads ≡ head.threads
by_head names head n line rest t (Some (Ok next)) e more h = more next h ∙ head_keeps head next line e
by_head names head n line rest t (Some (Err r)) e more h = absurd (ok_err _ t h)
by_head names head n line rest t None e more h = with_keeps head (read_body head names n 0 0 0 [] (line ∷ rest)) t h

on_keeps : (names : List (List ℕ)) (head : HeadValue) (n : ℕ) (ls : List (List ℕ)) (t : TraceValue) → read_on names head n ls ≡ Ok t → t.threads ≡ head.threads
on_keeps names head n [] t h = same_trace _ t h
on_keeps names head n (line ∷ rest) t h = by_head names head n line rest t (head_line head line) refl (λ next. on_keeps names next (n + 1) rest t) h

pub header_keeps : (names rest : List (List ℕ)) (threads : ℕ) (t : TraceValue) → behind_header names (Ok threads) rest ≡ Ok t → t.threads ≡ threads
header_keeps names rest threads t h = on_keeps names (bare threads) 2 rest t h
