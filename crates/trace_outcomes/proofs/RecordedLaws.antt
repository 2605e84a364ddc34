-- A recording has an outcome exactly where one like it holds.
use Rattle.std.proofs.Common.{◌≡◌, ℕ, suc, ◌+◌, Bool, true, false, ◌&&◌, List, [], ◌∷◌, ◌++◌, map, refl, sym, ap, ◌∙◌, subst, arith, append_assoc, take, drop, inl, Option, None, Some}
use Rattle.std.proofs.lemmas.List.{append-nil}
use Rattle.std.proofs.lemmas.Slice.Eq.{bytes_eq-Decides}
use Rattle.std.specs.Prelude.{codes, if◌then◌else◌, is_some}
use Rattle.std.specs.Str.{bytes_eq}
use Rattle.std.proofs.lemmas.Bool.{and_parts}
use Rattle.egl_calls.specs.declared.entries.Entry.{Entry}
use Rattle.trace_reader.specs.Order.{IsTrace}
use Rattle.trace_reader.specs.Traces.{TraceValue}
use Rattle.trace_model.specs.Recording.{entry_line}
use Rattle.trace_model.specs.Serial.{state_behind}
use Rattle.trace_model.specs.Stalled.{threads_of, is_complete, IsComplete}
use Rattle.journal_text.specs.Rests.{rest_text}
use Rattle.journal_text.specs.Written.{line_behind, line_of_entry}
use Rattle.journal_text.specs.declared.recordings.RecordedLine.{RecordedLine}
use Rattle.trace_check.specs.Verdicts.{behind_entries, beside, by_thread as by_number, compared, entry_due, lines_of, verdict, walk}
use Rattle.trace_check.specs.declared.verdicts.Verdict.{Verdict}
use Rattle.trace_check.specs.declared.verdicts.Verdict.TheVariants.{Holds, Differs, Incomplete}
use Rattle.trace_check.proofs.HoldsLaws.{Plays, all_finished, compared_holds, due_is, no_plays, play_of, plays_more}
use Rattle.trace_check.proofs.RunLaws.{none_unfinished, run_holds}
use Rattle.trace_outcomes.specs.Histories.{after}
use Rattle.trace_outcomes.specs.Outcomes.{OutcomeValue, outcome_of}
use Rattle.trace_outcomes.specs.Recordings.{AreAlike, HaveOneOutcome, IsRecorded, are_same, by_entry, by_thread, entries_in, entry_count, is_holding, is_recorded, outcome_behind, outcome_where, recorded_outcome, rest_in, told_lines, walked}
use Rattle.trace_outcomes.proofs.OutcomeLaws.{complete}
use Rattle.trace_outcomes.proofs.TurnLaws.{after_by}

-- ---- The lines of entries.
one_more : (n : ℕ) → 1 + n ≡ suc n
one_more n = omega arith

entry_more : (l : RecordedLine) (ls : List RecordedLine) (thread : ℕ) → l.thread ≡ Some thread → entries_in (l ∷ ls) ≡ l ∷ entries_in ls
entry_more l ls thread h =
    ap (λ (o : Option ℕ). take (if is_some o then 1 + entry_count ls else 0) (l ∷ ls)) h
    ∙ ap (λ (n : ℕ). take n (l ∷ ls)) (one_more (entry_count ls))

rest_more : (l : RecordedLine) (ls : List RecordedLine) (thread : ℕ) → l.thread ≡ Some thread → rest_in (l ∷ ls) ≡ rest_in ls
rest_more l ls thread h =
    ap (λ (o : Option ℕ). drop (if is_some o then 1 + entry_count ls else 0) (l ∷ ls)) h
    ∙ ap (λ (n : ℕ). drop n (l ∷ ls)) (one_more (entry_count ls))

no_entry : (l : RecordedLine) (ls : List RecordedLine) → l.thread ≡ None → entries_in (l ∷ ls) ≡ []
no_entry l ls h = ap (λ (o : Option ℕ). take (if is_some o then 1 + entry_count ls else 0) (l ∷ ls)) h

all_behind : (l : RecordedLine) (ls : List RecordedLine) → l.thread ≡ None → rest_in (l ∷ ls) ≡ l ∷ ls
all_behind l ls h = ap (λ (o : Option ℕ). drop (if is_some o then 1 + entry_count ls else 0) (l ∷ ls)) h

written_entries : (es : List Entry) (xs : List (List ℕ)) → entries_in (map line_of_entry es ++ map line_behind xs) ≡ map line_of_entry es
written_entries [] [] = refl
written_entries [] (x ∷ xs) = refl
written_entries (e ∷ es) xs =
    entry_more (line_of_entry e) (map line_of_entry es ++ map line_behind xs) e.thread refl
    ∙ ap (λ (ls : List RecordedLine). line_of_entry e ∷ ls) (written_entries es xs)

written_rest : (es : List Entry) (xs : List (List ℕ)) → rest_in (map line_of_entry es ++ map line_behind xs) ≡ map line_behind xs
written_rest [] [] = refl
written_rest [] (x ∷ xs) = refl
written_rest (e ∷ es) xs = rest_more (line_of_entry e) (map line_of_entry es ++ map line_behind xs) e.thread refl ∙ written_rest es xs

-- ---- The lines behind them.
texts_behind : (xs : List (List ℕ)) → map (λ (l : RecordedLine). l.text) (map line_behind xs) ≡ xs
texts_behind [] = refl
texts_behind (x ∷ xs) = ap (λ (ys : List (List ℕ)). x ∷ ys) (texts_behind xs)

-- lines that are those of a text hold, at any place
compared_texts : (xs : List (List ℕ)) (place : ℕ) (ls : List RecordedLine) → xs ≡ map (λ l. l.text) ls → compared place xs ls ≡ Holds
compared_texts [] place [] h = refl
compared_texts [] place (l ∷ ls) h = absurd (let f : [] ≡ l.text ∷ map (λ (r : RecordedLine). r.text) ls = h in cc)
compared_texts (x ∷ xs) place [] h = absurd (let f : x ∷ xs ≡ [] = h in cc)
compared_texts (x ∷ xs) place (l ∷ ls) h =
    let whole : x ∷ xs ≡ l.text ∷ map (λ (r : RecordedLine). r.text) ls = h in
    let first : x ≡ l.text = cc in
    let more : xs ≡ map (λ (r : RecordedLine). r.text) ls = cc in
    ap {B = Verdict} (λ (b : Bool). if b then compared (place + 1) xs ls else Differs place x l.text) ((bytes_eq-Decides l.text x).1 (sym first))
    ∙ compared_texts xs (place + 1) ls more

-- where lines hold behind a journal, it is at its end, and they are those of what is told then
module _ (t : TraceValue) (journal : List Entry) where
  abbrev rest : List (List ℕ)
  rest = lines_of (rest_text (state_behind t journal))

  ended : (place : ℕ) (ls : List RecordedLine) → behind_entries t journal place ls ≡ Holds → IsComplete t journal
  unfolding is_complete
  ended place ls h = (all_finished t journal (threads_of t) (compared place rest ls) h).0

  behind_texts : (place : ℕ) (ls : List RecordedLine) → behind_entries t journal place ls ≡ Holds → rest ≡ map (λ l. l.text) ls
  behind_texts place ls h = compared_holds place rest ls (all_finished t journal (threads_of t) (compared place rest ls) h).1

  behind_holds : (place : ℕ) (ls : List RecordedLine) → IsComplete t journal → rest ≡ map (λ l. l.text) ls → behind_entries t journal place ls ≡ Holds
  unfolding is_complete
  behind_holds place ls c h = none_unfinished t journal (threads_of t) (compared place rest ls) c ∙ compared_texts rest place ls h

-- ---- The walk, turn after turn.
pub walked_on : (t : TraceValue) (journal : List Entry) (l : RecordedLine) (ls : List RecordedLine) (thread : ℕ) → l.thread ≡ Some thread → is_some (entry_due t journal thread) ≡ true → walked t journal (l ∷ ls) ≡ walked t (after t journal thread) ls
walked_on t journal l ls thread q h =
    ap (λ (o : Option ℕ). by_thread o (λ u. by_entry (entry_due t journal u) (λ x. walked t (journal ++ x ∷ []) ls))) q
    ∙ by_due (entry_due t journal thread) refl h
  where
    by_due : (o : Option Entry) → entry_due t journal thread ≡ o → is_some o ≡ true → by_entry o (λ x. walked t (journal ++ x ∷ []) ls) ≡ walked t (after t journal thread) ls
    by_due None due g = absurd (let f : false ≡ true = g in cc)
    by_due (Some e) due g = ap (λ (js : List Entry). walked t js ls) (sym (after_by t journal thread (Some e) due))

pub walk_stops : (t : TraceValue) (journal : List Entry) (l : RecordedLine) (ls : List RecordedLine) (thread : ℕ) → l.thread ≡ Some thread → is_some (entry_due t journal thread) ≡ false → walked t journal (l ∷ ls) ≡ None
walk_stops t journal l ls thread q h =
    ap (λ (o : Option ℕ). by_thread o (λ u. by_entry (entry_due t journal u) (λ x. walked t (journal ++ x ∷ []) ls))) q
    ∙ by_due (entry_due t journal thread) h
  where
    by_due : (o : Option Entry) → is_some o ≡ false → by_entry o (λ x. walked t (journal ++ x ∷ []) ls) ≡ None
    by_due None g = refl
    by_due (Some e) g = absurd (let f : true ≡ false = g in cc)

pub no_walk : (t : TraceValue) (journal : List Entry) (l : RecordedLine) (ls : List RecordedLine) → l.thread ≡ None → walked t journal (l ∷ ls) ≡ None
no_walk t journal l ls q = ap (λ (o : Option ℕ). by_thread o (λ u. by_entry (entry_due t journal u) (λ x. walked t (journal ++ x ∷ []) ls))) q

-- ---- Tests.
same_as_itself : (zs : List (List ℕ)) → are_same zs zs ≡ true
same_as_itself [] = refl
same_as_itself (z ∷ zs) = ap (λ (b : Bool). b && are_same zs zs) ((bytes_eq-Decides z z).1 refl) ∙ same_as_itself zs

same_are_same : (xs ys : List (List ℕ)) → xs ≡ ys → are_same xs ys ≡ true
same_are_same xs ys h = ap (are_same xs) (sym h) ∙ same_as_itself xs

are_same_are : (xs ys : List (List ℕ)) → are_same xs ys ≡ true → xs ≡ ys
are_same_are [] [] h = refl
are_same_are [] (y ∷ ys) h = absurd (let f : false ≡ true = h in cc)
are_same_are (x ∷ xs) [] h = absurd (let f : false ≡ true = h in cc)
are_same_are (x ∷ xs) (y ∷ ys) h = by_text (are_same_are xs ys) (bytes_eq x y) refl h
  where
    by_text : (are_same xs ys ≡ true → xs ≡ ys) → (b : Bool) → bytes_eq x y ≡ b → (b && are_same xs ys) ≡ true → x ∷ xs ≡ y ∷ ys
    by_text on true q g = ap (λ (z : List ℕ). z ∷ xs) ((bytes_eq-Decides x y).0 q) ∙ ap (λ (zs : List (List ℕ)). y ∷ zs) (on g)
    by_text on false q g = absurd (let f : false ≡ true = g in cc)

holding_holds : (v : Verdict) → is_holding v ≡ true → v ≡ Holds
holding_holds Holds h = refl
holding_holds (Differs place expected found) h = absurd (let f : false ≡ true = h in cc)
holding_holds (Incomplete thread line) h = absurd (let f : false ≡ true = h in cc)

-- ---- A recording that holds.
-- its entries are those of a journal, behind which the other lines hold
record IsHeld (t : TraceValue) (journal : List Entry) (ls : List RecordedLine) : Type 0 where
  tail : List Entry
  longer : List Entry
  place : ℕ
  whole : journal ++ tail ≡ longer
  walks : walked t journal (entries_in ls) ≡ Some longer
  entries : entries_in ls ≡ map line_of_entry tail
  behind : behind_entries t longer place (rest_in ls) ≡ Holds

none_held : (t : TraceValue) (journal : List Entry) (place : ℕ) (ls : List RecordedLine) → entries_in ls ≡ [] → rest_in ls ≡ ls → behind_entries t journal place ls ≡ Holds → IsHeld t journal ls
none_held t journal place ls e r h = record {
  tail = [];
  longer = journal;
  place = place;
  whole = append-nil journal;
  walks = ap (walked t journal) e;
  entries = e;
  behind = ap (behind_entries t journal place) r ∙ h;
}

one_held : (t : TraceValue) (journal : List Entry) (l : RecordedLine) (ls : List RecordedLine) (thread : ℕ) (e : Entry) → l.thread ≡ Some thread → entry_due t journal thread ≡ Some e → e.thread ≡ thread → l.text ≡ entry_line e → IsHeld t (journal ++ e ∷ []) ls → IsHeld t journal (l ∷ ls)
one_held t journal l ls thread e q due own text h =
    let number : l.thread ≡ Some e.thread = q ∙ ap (λ (u : ℕ). Some u) (sym own) in
    let line : l ≡ line_of_entry e = λ i. record { text = text i; thread = number i } in
    record {
      tail = e ∷ h.tail;
      longer = h.longer;
      place = h.place;
      whole = sym (append_assoc journal (e ∷ []) h.tail) ∙ h.whole;
      walks =
          ap (walked t journal) (entry_more l ls thread q)
          ∙ ap (λ (o : Option ℕ). by_thread o (λ u. by_entry (entry_due t journal u) (λ x. walked t (journal ++ x ∷ []) (entries_in ls)))) q
          ∙ ap (λ (o : Option Entry). by_entry o (λ x. walked t (journal ++ x ∷ []) (entries_in ls))) due
          ∙ h.walks;
      entries =
          entry_more l ls thread q
          ∙ ap (λ (x : RecordedLine). x ∷ entries_in ls) line
          ∙ ap (λ (xs : List RecordedLine). line_of_entry e ∷ xs) h.entries;
      behind = ap (behind_entries t h.longer h.place) (rest_more l ls thread q) ∙ h.behind;
    }

-- where the walk through lines holds, they are held
abbrev Goes : TraceValue → ℕ → List RecordedLine → Type 0
Goes t place ls = (longer : List Entry) → walk t longer place ls ≡ Holds → IsHeld t longer ls

held : (t : TraceValue) (ls : List RecordedLine) (journal : List Entry) (place : ℕ) → walk t journal place ls ≡ Holds → IsHeld t journal ls
held t [] journal place h = none_held t journal place [] refl refl h
held t (l ∷ ls) journal place h = by_line (λ longer g. held t ls longer (place + 1) g) l.thread refl h
  where
    by_text : Goes t (place + 1) ls → (thread : ℕ) → l.thread ≡ Some thread → (e : Entry) → entry_due t journal thread ≡ Some e → (b : Bool) → bytes_eq l.text (entry_line e) ≡ b → (if b then walk t (journal ++ e ∷ []) (place + 1) ls else Differs place (entry_line e) l.text) ≡ Holds → IsHeld t journal (l ∷ ls)
    by_text on thread q e due true r g = one_held t journal l ls thread e q due (due_is t journal thread e due).1 ((bytes_eq-Decides l.text (entry_line e)).0 r) (on (journal ++ e ∷ []) g)
    by_text on thread q e due false r g = absurd (let f : Differs place (entry_line e) l.text ≡ Holds = g in cc)

    by_due : Goes t (place + 1) ls → (thread : ℕ) → l.thread ≡ Some thread → (o : Option Entry) → entry_due t journal thread ≡ o → beside journal place l.text o (λ longer. walk t longer (place + 1) ls) ≡ Holds → IsHeld t journal (l ∷ ls)
    by_due on thread q None due g = absurd (let f : Differs place (codes "none") l.text ≡ Holds = g in cc)
    by_due on thread q (Some e) due g = by_text on thread q e due (bytes_eq l.text (entry_line e)) refl g

    by_line : Goes t (place + 1) ls → (o : Option ℕ) → l.thread ≡ o → by_number o (λ thread. beside journal place l.text (entry_due t journal thread) (λ longer. walk t longer (place + 1) ls)) (behind_entries t journal place (l ∷ ls)) ≡ Holds → IsHeld t journal (l ∷ ls)
    by_line on None q g = none_held t journal place (l ∷ ls) (no_entry l ls q) (all_behind l ls q) g
    by_line on (Some thread) q g = by_due on thread q (entry_due t journal thread) refl g

-- ---- One like it.
-- the threads alone decide how the entries are walked
walked_same : (t : TraceValue) (ls ms : List RecordedLine) (journal : List Entry) → map (λ (l : RecordedLine). l.thread) ls ≡ map (λ (l : RecordedLine). l.thread) ms → walked t journal ls ≡ walked t journal ms
walked_same t [] [] journal h = refl
walked_same t [] (m ∷ ms) journal h = absurd (let f : [] ≡ m.thread ∷ map (λ (r : RecordedLine). r.thread) ms = h in cc)
walked_same t (l ∷ ls) [] journal h = absurd (let f : l.thread ∷ map (λ (r : RecordedLine). r.thread) ls ≡ [] = h in cc)
walked_same t (l ∷ ls) (m ∷ ms) journal h =
    let whole : l.thread ∷ map (λ (r : RecordedLine). r.thread) ls ≡ m.thread ∷ map (λ (r : RecordedLine). r.thread) ms = h in
    let first : l.thread ≡ m.thread = cc in
    let more : map (λ (r : RecordedLine). r.thread) ls ≡ map (λ (r : RecordedLine). r.thread) ms = cc in
    ap (λ (o : Option ℕ). by_thread o (λ u. by_entry (entry_due t journal u) (λ x. walked t (journal ++ x ∷ []) ls))) first
    ∙ by_turn m.thread (λ js. walked_same t ls ms js more)
  where
    by_due : (o : Option Entry) → ((js : List Entry) → walked t js ls ≡ walked t js ms) → by_entry o (λ x. walked t (journal ++ x ∷ []) ls) ≡ by_entry o (λ x. walked t (journal ++ x ∷ []) ms)
    by_due None on = refl
    by_due (Some e) on = on (journal ++ e ∷ [])

    by_turn : (o : Option ℕ) → ((js : List Entry) → walked t js ls ≡ walked t js ms) → by_thread o (λ u. by_entry (entry_due t journal u) (λ x. walked t (journal ++ x ∷ []) ls)) ≡ by_thread o (λ u. by_entry (entry_due t journal u) (λ x. walked t (journal ++ x ∷ []) ms))
    by_turn None on = refl
    by_turn (Some u) on = by_due (entry_due t journal u) on

recorded_by : (t : TraceValue) (ls : List RecordedLine) (journal : List Entry) (o : Option (List Entry)) → walked t [] (entries_in ls) ≡ o → o ≡ Some journal → is_recorded t ls journal ≡ true → recorded_outcome t ls ≡ Some (outcome_of t journal)
unfolding recorded_outcome
recorded_by t ls journal o w same r =
    ap (outcome_behind t ls) (w ∙ same)
    ∙ ap (λ (b : Bool). outcome_where b t journal) r

module _ (t : TraceValue) (ls kept : List RecordedLine) (a : AreAlike t ls kept) (h : IsHeld t [] kept) where
  same_journal : h.tail ≡ h.longer
  same_journal = h.whole

  is_kept : is_recorded t ls h.longer ≡ true
  unfolding is_recorded
  is_kept =
      let told : told_lines t.lines (entries_in ls) ≡ told_lines t.lines (map line_of_entry h.longer) =
      a.entries ∙ ap (told_lines t.lines) (h.entries ∙ ap (λ (es : List Entry). map line_of_entry es) same_journal) in
      let lines : behind_entries t h.longer (1 + entry_count ls) (rest_in ls) ≡ Holds =
      behind_holds t h.longer (1 + entry_count ls) (rest_in ls) (ended t h.longer h.place (rest_in kept) h.behind) (behind_texts t h.longer h.place (rest_in kept) h.behind ∙ sym a.rest) in
      ap (λ (b : Bool). b && is_holding (behind_entries t h.longer (1 + entry_count ls) (rest_in ls))) (same_are_same (told_lines t.lines (entries_in ls)) (told_lines t.lines (map line_of_entry h.longer)) told)
      ∙ ap is_holding lines

  like_held : recorded_outcome t ls ≡ Some (outcome_of t h.longer)
  like_held = recorded_by t ls h.longer (walked t [] (entries_in kept)) (walked_same t (entries_in ls) (entries_in kept) [] a.threads) h.walks is_kept

held_of : (t : TraceValue) (ls : List RecordedLine) → verdict t ls ≡ Holds → IsHeld t [] ls
unfolding verdict
held_of t ls h = held t ls [] 1 h

itself : (t : TraceValue) (ls : List RecordedLine) → AreAlike t ls ls
itself t ls = record { threads = refl; entries = refl; rest = refl }

pub one_outcome : (t : TraceValue) (ls kept : List RecordedLine) → verdict t kept ≡ Holds → AreAlike t ls kept → HaveOneOutcome t ls kept
one_outcome t ls kept h a =
    let k = held_of t kept h in
    record { outcome = outcome_of t k.longer; first = like_held t ls kept a k; second = like_held t kept kept (itself t kept) k }

-- ---- What has an outcome.
-- the entries that were walked
record IsWalked (t : TraceValue) (journal : List Entry) (ls : List RecordedLine) (longer : List Entry) : Type 0 where
  tail : List Entry
  whole : journal ++ tail ≡ longer
  threads : map (λ (l : RecordedLine). l.thread) ls ≡ map (λ (l : RecordedLine). l.thread) (map line_of_entry tail)
  plays : Plays t longer

module _ (t : TraceValue) (is : IsTrace t) where
  walked_plays : (ls : List RecordedLine) (journal longer : List Entry) → Plays t journal → walked t journal ls ≡ Some longer → IsWalked t journal ls longer
  walked_plays [] journal longer p h =
      let some : Some journal ≡ Some longer = h in
      let same : journal ≡ longer = cc in
      record { tail = []; whole = append-nil journal ∙ same; threads = refl; plays = subst (Plays t) same p }
  walked_plays (l ∷ ls) journal longer p h = by_line (λ js q g. walked_plays ls js longer q g) l.thread refl h
    where
      by_due : ((js : List Entry) → Plays t js → walked t js ls ≡ Some longer → IsWalked t js ls longer) → (thread : ℕ) → l.thread ≡ Some thread → (o : Option Entry) → entry_due t journal thread ≡ o → by_entry o (λ x. walked t (journal ++ x ∷ []) ls) ≡ Some longer → IsWalked t journal (l ∷ ls) longer
      by_due on thread q None due g = absurd (let f : None ≡ Some longer = g in cc)
      by_due on thread q (Some e) due g =
          let next = due_is t journal thread e due in
          let w = on (journal ++ e ∷ []) (plays_more t is journal e next.0 p) g in
          let number : l.thread ≡ Some e.thread = q ∙ ap (λ (u : ℕ). Some u) (sym next.1) in
          record {
            tail = e ∷ w.tail;
            whole = sym (append_assoc journal (e ∷ []) w.tail) ∙ w.whole;
            threads =
                ap (λ (o : Option ℕ). o ∷ map (λ (r : RecordedLine). r.thread) ls) number
                ∙ ap (λ (os : List (Option ℕ)). Some e.thread ∷ os) w.threads;
            plays = w.plays;
          }

      by_line : ((js : List Entry) → Plays t js → walked t js ls ≡ Some longer → IsWalked t js ls longer) → (o : Option ℕ) → l.thread ≡ o → by_thread o (λ u. by_entry (entry_due t journal u) (λ x. walked t (journal ++ x ∷ []) ls)) ≡ Some longer → IsWalked t journal (l ∷ ls) longer
      by_line on None q g = absurd (let f : None ≡ Some longer = g in cc)
      by_line on (Some thread) q g = by_due on thread q (entry_due t journal thread) refl g

  -- what is recorded of a journal that plays the trace
  recorded_is : (ls : List RecordedLine) (journal : List Entry) → walked t [] (entries_in ls) ≡ Some journal → is_recorded t ls journal ≡ true → IsRecorded t ls (outcome_of t journal)
  unfolding is_recorded
  recorded_is ls journal w r =
      let tests = and_parts (are_same (told_lines t.lines (entries_in ls)) (told_lines t.lines (map line_of_entry journal))) (is_holding (behind_entries t journal (1 + entry_count ls) (rest_in ls))) r in
      let lines = holding_holds (behind_entries t journal (1 + entry_count ls) (rest_in ls)) tests.1 in
      let go = walked_plays (entries_in ls) [] journal (no_plays t) w in
      let play = play_of t journal go.plays in
      let over = ended t journal (1 + entry_count ls) (rest_in ls) lines in
      let texts = lines_of (rest_text (state_behind t journal)) in
      let entries = written_entries journal texts in
      let behind = written_rest journal texts in
      record {
        journal = journal;
        play = play;
        complete = over;
        holds = run_holds t is journal play over;
        alike = record {
          threads =
              go.threads
              ∙ ap (λ (es : List Entry). map (λ (l : RecordedLine). l.thread) (map line_of_entry es)) go.whole
              ∙ ap (λ (xs : List RecordedLine). map (λ (l : RecordedLine). l.thread) xs) (sym entries);
          entries =
              are_same_are (told_lines t.lines (entries_in ls)) (told_lines t.lines (map line_of_entry journal)) tests.0
              ∙ ap (told_lines t.lines) (sym entries);
          rest =
              sym (behind_texts t journal (1 + entry_count ls) (rest_in ls) lines)
              ∙ sym (texts_behind texts)
              ∙ ap (λ (xs : List RecordedLine). map (λ (l : RecordedLine). l.text) xs) (sym behind);
        };
        outcome = refl;
        listed = complete t journal is (record { play = play; over = inl over });
      }

  by_where : (ls : List RecordedLine) (o : OutcomeValue) (journal : List Entry) (b : Bool) → is_recorded t ls journal ≡ b → walked t [] (entries_in ls) ≡ Some journal → outcome_where b t journal ≡ Some o → IsRecorded t ls o
  by_where ls o journal true r w h =
      let some : Some (outcome_of t journal) ≡ Some o = h in
      let same : outcome_of t journal ≡ o = cc in
      subst (IsRecorded t ls) same (recorded_is ls journal w r)
  by_where ls o journal false r w h = absurd (let f : None ≡ Some o = h in cc)

  by_walk : (ls : List RecordedLine) (o : OutcomeValue) (js : Option (List Entry)) → walked t [] (entries_in ls) ≡ js → outcome_behind t ls js ≡ Some o → IsRecorded t ls o
  by_walk ls o None w h = absurd (let f : None ≡ Some o = h in cc)
  by_walk ls o (Some journal) w h = by_where ls o journal (is_recorded t ls journal) refl w h

  pub is_of_one : (ls : List RecordedLine) (o : OutcomeValue) → recorded_outcome t ls ≡ Some o → IsRecorded t ls o
  unfolding recorded_outcome
  is_of_one ls o h = by_walk ls o (walked t [] (entries_in ls)) refl h
