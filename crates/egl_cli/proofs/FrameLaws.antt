-- The lines of frames, an entry more at a time.
use Rattle.std.proofs.Common.{◌≡◌, ℕ, ◌+◌, Bool, true, false, List, [], ◌∷◌, ◌++◌, length, refl, sym, ap, ◌∙◌, arith, append_assoc, length-append}
use Rattle.std.proofs.lemmas.Bool.{cond-true, cond-false}
use Rattle.std.proofs.lemmas.List.{append-nil}
use Rattle.std.proofs.lemmas.List.Sums.{sum_by_push}
use Rattle.std.specs.Prelude.{count_by, if◌then◌else◌}
use Rattle.std.specs.List.{sum}
use Rattle.egl_calls.specs.declared.entries.Entry.{Entry}
use Rattle.egl_model.specs.State.{State}
use Rattle.egl_model.specs.Step.{step}
use Rattle.egl_model.specs.History.{replay_from}
use Rattle.model_laws.proofs.Steps.HistoryLaws.{replay_from-append}
use Rattle.screen_compose.specs.declared.placed.Placed.{Placed}
use Rattle.egl_cli.specs.Frames.{picture_of, makes_frame, frame_line, frame_of, frames_of}

-- ---- How many entries make a frame.
abbrev one_of : Entry → ℕ
one_of e = if makes_frame e then 1 else 0

count_more : (journal : List Entry) (e : Entry) → makes_frame e ≡ true → count_by makes_frame (journal ++ e ∷ []) ≡ count_by makes_frame journal + 1
count_more journal e made =
    let one : one_of e ≡ 1 = ap {B = ℕ} (λ (b : Bool). if b then 1 else 0) made in
    omega (arith, sum_by_push one_of journal e, one)

count_same : (journal : List Entry) (e : Entry) → makes_frame e ≡ false → count_by makes_frame (journal ++ e ∷ []) ≡ count_by makes_frame journal
count_same journal e quiet =
    let one : one_of e ≡ 0 = ap {B = ℕ} (λ (b : Bool). if b then 1 else 0) quiet in
    omega (arith, sum_by_push one_of journal e, one)

module _ (w h : ℕ) (placed : List Placed) (first : State) where
  -- the lines of entries, and then that of one more
  frames_more : (journal es : List Entry) (e : Entry) → frames_of w h placed first journal (es ++ e ∷ []) ≡ frames_of w h placed first journal es ++ frame_of w h placed first (journal ++ es) e
  unfolding frames_of
  frames_more journal [] e = append-nil (frame_of w h placed first journal e) ∙ ap (λ (j : List Entry). frame_of w h placed first j e) (sym (append-nil journal))
  frames_more journal (x ∷ es) e =
      let front : List ℕ = frame_of w h placed first journal x in
      let middle : List ℕ = frames_of w h placed first (journal ++ x ∷ []) es in
      ap (λ (r : List ℕ). front ++ r) (frames_more (journal ++ x ∷ []) es e)
      ∙ sym (append_assoc front middle (frame_of w h placed first ((journal ++ x ∷ []) ++ es) e))
      ∙ ap (λ (j : List Entry). (front ++ middle) ++ frame_of w h placed first j e) (append_assoc journal (x ∷ []) es)

  module _ (before : List ℕ) where
    -- behind a journal: the state, how many entries and how many frames there are, and what is printed
    pub record IsPrinted (journal : List Entry) (s : State) (at number : ℕ) (out : List ℕ) : Type 0 where
      pub state : s ≡ replay_from first journal
      pub entries : at ≡ length journal
      pub frames : number ≡ count_by makes_frame journal
      pub text : out ≡ before ++ frames_of w h placed first [] journal

    pub printed_none : IsPrinted [] first 0 0 before
    unfolding frames_of
    printed_none = record { state = refl; entries = refl; frames = refl; text = sym (append-nil before) }

    module _ (journal : List Entry) (s s' : State) (at number : ℕ) (out out' : List ℕ) (e : Entry) (p : IsPrinted journal s at number out) (stepped : s' ≡ (step s e.thread e.call).state) where
      state_more : s' ≡ replay_from first (journal ++ e ∷ [])
      state_more = stepped ∙ ap (λ (x : State). (step x e.thread e.call).state) p.state ∙ sym (replay_from-append first journal (e ∷ []))

      entries_more : at + 1 ≡ length (journal ++ e ∷ [])
      entries_more = omega (arith, p.entries, length-append journal (e ∷ []))

      text_more : out' ≡ out ++ frame_of w h placed first journal e → out' ≡ before ++ frames_of w h placed first [] (journal ++ e ∷ [])
      text_more t =
          t
          ∙ ap (λ (o : List ℕ). o ++ frame_of w h placed first journal e) p.text
          ∙ append_assoc before (frames_of w h placed first [] journal) (frame_of w h placed first journal e)
          ∙ ap (λ (r : List ℕ). before ++ r) (sym (frames_more [] journal e))

      pub printed_frame : makes_frame e ≡ true → out' ≡ out ++ frame_line number (at + 1) (sum (picture_of w h placed s'.windows)) → IsPrinted (journal ++ e ∷ []) s' (at + 1) (number + 1) out'
      printed_frame made t =
          let line : ℕ → ℕ → State → List ℕ = λ n k x. out ++ frame_line n (k + 1) (sum (picture_of w h placed x.windows)) in
          record {
            state = state_more;
            entries = entries_more;
            frames = ap (λ (n : ℕ). n + 1) p.frames ∙ sym (count_more journal e made);
            text = text_more (
                t
                ∙ ap (λ (n : ℕ). line n at s') p.frames
                ∙ ap (λ (k : ℕ). line (count_by makes_frame journal) k s') p.entries
                ∙ ap (λ (x : State). line (count_by makes_frame journal) (length journal) x) state_more
                ∙ ap (λ (r : List ℕ). out ++ r) (sym (cond-true (makes_frame e) _ _ made)));
          }

      pub printed_quiet : makes_frame e ≡ false → out' ≡ out → IsPrinted (journal ++ e ∷ []) s' (at + 1) number out'
      printed_quiet quiet t = record {
        state = state_more;
        entries = entries_more;
        frames = p.frames ∙ sym (count_same journal e quiet);
        text = text_more (t ∙ sym (append-nil out) ∙ ap (λ (r : List ℕ). out ++ r) (sym (cond-false (makes_frame e) _ _ quiet)));
      }
