-- No line of a trace is the first of a recording, so a recording behind a trace begins where the trace ends.
use Rattle.std.proofs.Common.{◌≡◌, ℕ, ◌+◌, Bool, true, false, cond, ◌&&◌, List, [], ◌∷◌, ◌++◌, length, refl, sym, ap, ◌∙◌, subst, Option, None, Some}
use Rattle.std.proofs.lemmas.Bool.{cond-false}
use Rattle.std.proofs.lemmas.Slice.Eq.{bytes_eq-Decides}
use Rattle.std.specs.Prelude.{Result, Ok, Err, codes, if◌then◌else◌}
use Rattle.std.specs.Char.{is_newline}
use Rattle.std.specs.List.{slice_split}
use Rattle.std.specs.Str.{bytes_eq}
use Rattle.std.specs.Str.Lines.{lines, lines_of_parts, strip_carriage_return}
use Rattle.trace_reader.specs.declared.traces.Defect.{Defect}
use Rattle.trace_reader.specs.declared.traces.Line.{Line}
use Rattle.trace_reader.specs.declared.traces.Reason.{Reason}
use Rattle.trace_reader.specs.declared.traces.Reason.TheVariants.{Header, Thread}
use Rattle.trace_reader.specs.Assigned.{assigned_names}
use Rattle.trace_reader.specs.Body.{thread_of, body_of, within_limits, body_then, read_body}
use Rattle.trace_reader.specs.Grammar.{with_lines, head_then, read_on, behind_header, trace_with, trace}
use Rattle.trace_reader.specs.Header.{header_of}
use Rattle.trace_reader.specs.Heads.{HeadValue, bare, is_bare, video_line, head_said, head_line}
use Rattle.trace_reader.specs.Numerals.{numeral}
use Rattle.trace_reader.specs.Order.{more_variables}
use Rattle.trace_reader.specs.Pixels.{pixel_bytes}
use Rattle.trace_reader.specs.Payloads.{payload_bytes}
use Rattle.trace_reader.specs.Traces.{TraceValue}
use Rattle.trace_reader.specs.Words.{words, is_skipped}
use Rattle.journal_text.proofs.CutLaws.{split_both}
use Rattle.journal_text.specs.Cuts.{cut_parts, cut_recording}

abbrev mark : List ℕ
mark = codes "recording"

-- none of these lines is `recording`
abbrev AreOther : List (List ℕ) → Type 0
AreOther [] = Unit {0}
AreOther (l ∷ ls) = (bytes_eq l mark ≡ false) × AreOther ls

no_value : {A : Type 0} (d : Defect) (x : A) → Err d ≡ Ok x → ⊥
no_value d x h = let e : Err d ≡ Ok x = h in cc

-- a line that can't be `recording` isn't
other : (l : List ℕ) → (l ≡ mark → ⊥) → bytes_eq l mark ≡ false
other l never = by_test (bytes_eq l mark) refl
  where
    by_test : (b : Bool) → bytes_eq l mark ≡ b → bytes_eq l mark ≡ false
    by_test true h = absurd (never ((bytes_eq-Decides l mark).0 h))
    by_test false h = h

-- ---- What `recording` is in a trace.
not_skipped : is_skipped mark ≡ false
unfolding words
not_skipped = refl

no_thread : (threads count n : ℕ) (names : List (List ℕ)) → body_of threads names count n (words mark) ≡ Err Thread
unfolding words body_of thread_of numeral
no_thread threads count n names = refl

no_head : (head : HeadValue) → head_said head (words mark) ≡ None
unfolding words head_said
no_head head = by_bare (is_bare head)
  where
    by_bare : (b : Bool) → (if b && false then Some (video_line head (words mark)) else None) ≡ None
    by_bare true = refl
    by_bare false = refl

no_header : header_of (words mark) ≡ Err Header
unfolding words header_of
no_header = refl

-- ---- Body lines.
module _ (head : HeadValue) (names : List (List ℕ)) where
  refused : (n count pixels payloads : ℕ) (read : List Line) (ls : List (List ℕ)) (out : List Line) → read_body head names n count pixels payloads read (mark ∷ ls) ≡ Ok out → ⊥
  refused n count pixels payloads read ls out h =
      let f : Line → Result (List Line) Defect = λ l. read_body head names (n + 1) (more_variables count l.assigns) (pixels + pixel_bytes head.windows l.call) (payloads + payload_bytes l.call) (read ++ l ∷ []) ls in
      let at : Result Line Reason → Result (List Line) Defect = λ r. body_then n (within_limits head.windows (length read) pixels payloads r) f in
      let body = at (body_of head.threads names count n (words mark)) in
      let behind : body ≡ Ok out = sym (cond-false (is_skipped mark) (read_body head names (n + 1) count pixels payloads read ls) body not_skipped) ∙ h in
      no_value (record { line = n; reason = Thread }) out (sym (ap at (no_thread head.threads count n names)) ∙ behind)

  abbrev Goes : List (List ℕ) → Type 0
  Goes ls = (n count pixels payloads : ℕ) (read out : List Line) → read_body head names n count pixels payloads read ls ≡ Ok out → AreOther ls

  behind_line : (n : ℕ) (r : Result Line Reason) (more : Line → Result (List Line) Defect) (out : List Line) (P : Type 0) → ((l : Line) → more l ≡ Ok out → P) → body_then n r more ≡ Ok out → P
  behind_line n (Ok l) more out P on h = on l h
  behind_line n (Err r) more out P on h = absurd (no_value (record { line = n; reason = r }) out h)

  behind : (ls : List (List ℕ)) → Goes ls → (n count pixels payloads : ℕ) (read : List Line) (said : Result Line Reason) (out : List Line) (skipped : Bool) →
      cond skipped (read_body head names (n + 1) count pixels payloads read ls) (body_then n (within_limits head.windows (length read) pixels payloads said) (λ l. read_body head names (n + 1) (more_variables count l.assigns) (pixels + pixel_bytes head.windows l.call) (payloads + payload_bytes l.call) (read ++ l ∷ []) ls)) ≡ Ok out → AreOther ls
  behind ls on n count pixels payloads read said out true h = on (n + 1) count pixels payloads read out h
  behind ls on n count pixels payloads read said out false h =
      behind_line n (within_limits head.windows (length read) pixels payloads said) (λ l. read_body head names (n + 1) (more_variables count l.assigns) (pixels + pixel_bytes head.windows l.call) (payloads + payload_bytes l.call) (read ++ l ∷ []) ls) out (AreOther ls)
      (λ l g. on (n + 1) (more_variables count l.assigns) (pixels + pixel_bytes head.windows l.call) (payloads + payload_bytes l.call) (read ++ l ∷ []) out g) h

  body_other : (ls : List (List ℕ)) → Goes ls
  body_other [] n count pixels payloads read out h = tt
  body_other (l ∷ ls) n count pixels payloads read out h = (
    other l (λ e. refused n count pixels payloads read ls out (subst (λ (x : List ℕ). read_body head names n count pixels payloads read (x ∷ ls) ≡ Ok out) e h)),
    behind ls (body_other ls) n count pixels payloads read (body_of head.threads names count n (words l)) out (is_skipped l) h,
  )

-- ---- The lines in front of them.
module _ (names : List (List ℕ)) (t : TraceValue) where
  with_body : (head : HeadValue) (ls : List (List ℕ)) (n : ℕ) (r : Result (List Line) Defect) → read_body head names n 0 0 0 [] ls ≡ r → with_lines head r ≡ Ok t → AreOther ls
  with_body head ls n (Ok read) q h = body_other head names ls n 0 0 0 [] read q
  with_body head ls n (Err d) q h = absurd (no_value d t h)

  abbrev Reads : List (List ℕ) → Type 0
  Reads ls = (head : HeadValue) (n : ℕ) → read_on names head n ls ≡ Ok t → AreOther ls

  -- a line of the head isn't `recording`
  of_head : (head : HeadValue) (l : List ℕ) (next : HeadValue) → head_line head l ≡ Some (Ok next) → l ≡ mark → ⊥
  unfolding head_line
  of_head head l next h e =
      let said : head_line head mark ≡ None = cond-false (is_skipped mark) (Some (Ok head)) (head_said head (words mark)) not_skipped ∙ no_head head in
      let f : None ≡ Some (Ok next) = sym said ∙ ap (head_line head) (sym e) ∙ h in
      cc

  at_line : (l : List ℕ) (ls : List (List ℕ)) → Reads ls → (head : HeadValue) (n : ℕ) (o : Option (Result HeadValue Reason)) → head_line head l ≡ o →
      head_then n o (λ next. read_on names next (n + 1) ls) (with_lines head (read_body head names n 0 0 0 [] (l ∷ ls))) ≡ Ok t → AreOther (l ∷ ls)
  at_line l ls on head n (Some (Ok next)) q h = (other l (of_head head l next q), on next (n + 1) h)
  at_line l ls on head n (Some (Err r)) q h = absurd (no_value (record { line = n; reason = r }) t h)
  at_line l ls on head n None q h = with_body head (l ∷ ls) n (read_body head names n 0 0 0 [] (l ∷ ls)) refl h

  head_other : (ls : List (List ℕ)) → Reads ls
  head_other [] head n h = tt
  head_other (l ∷ ls) head n h = at_line l ls (head_other ls) head n (head_line head l) refl h

  behind_first : (first : List ℕ) (ls : List (List ℕ)) (r : Result ℕ Reason) → header_of (words first) ≡ r → behind_header names r ls ≡ Ok t → AreOther (first ∷ ls)
  behind_first first ls (Ok threads) q h =
      (other first (λ e. let f : Err Header ≡ Ok threads = sym no_header ∙ ap (λ (x : List ℕ). header_of (words x)) (sym e) ∙ q in cc), head_other ls (bare threads) 2 h)
  behind_first first ls (Err r) q h = absurd (no_value (record { line = 1; reason = r }) t h)

  lines_other : (ls : List (List ℕ)) → trace_with names ls ≡ Ok t → AreOther ls
  lines_other [] h = tt
  lines_other (first ∷ ls) h = behind_first first ls (header_of (words first)) refl h

trace_other : (b : List ℕ) (t : TraceValue) → trace b ≡ Ok t → AreOther (lines b)
unfolding trace
trace_other b t h = lines_other (assigned_names (lines b)) t (lines b) h

-- ---- The parts between line feeds, of which each is a line but for its carriage return.
part_and_more : (p : List ℕ) (ps : List (List ℕ)) → lines_of_parts (p ∷ (ps ++ [] ∷ [])) ≡ strip_carriage_return p ∷ lines_of_parts (ps ++ [] ∷ [])
part_and_more p [] = refl
part_and_more p (q ∷ ps) = refl

stripped : strip_carriage_return mark ≡ mark
stripped = refl

parts_other : (ps : List (List ℕ)) (k n : ℕ) → AreOther (lines_of_parts (ps ++ [] ∷ [])) → cut_parts k n ps ≡ None
parts_other [] k n f = refl
parts_other (p ∷ ps) k n f =
    let each : AreOther (strip_carriage_return p ∷ lines_of_parts (ps ++ [] ∷ [])) = subst AreOther (part_and_more p ps) f in
    let unlike : bytes_eq p mark ≡ false = other p (λ e. let same : bytes_eq (strip_carriage_return p) mark ≡ true = ap (λ (x : List ℕ). bytes_eq (strip_carriage_return x) mark) e in let g : false ≡ true = sym each.0 ∙ same in cc) in
    cond-false (bytes_eq p mark) (Some (record { front = k; line = n })) (cut_parts (k + (length p + 1)) (n + 1) ps) unlike ∙ parts_other ps (k + (length p + 1)) (n + 1) each.1

-- no part of a trace in front of its last line feed is `recording`
pub front_other : (front : List ℕ) (t : TraceValue) → trace (front ++ codes "\n") ≡ Ok t → cut_recording front ≡ None
unfolding cut_recording
front_other front t h =
    parts_other (slice_split is_newline front) 0 1 (subst (λ (ps : List (List ℕ)). AreOther (lines_of_parts ps)) (split_both front []) (trace_other (front ++ codes "\n") t h))
