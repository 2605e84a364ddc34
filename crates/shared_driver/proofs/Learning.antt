-- Turn after turn.
use Rattle.std.proofs.Common.{◌≡◌, ◌⊎◌, ℕ, true, List, [], ◌∷◌, ◌++◌, ap, sym, ◌∙◌, subst}
use Rattle.egl_calls.specs.Errors.{is_waiting}
use Rattle.std.specs.Prelude.{All, Contains}
use Rattle.std.proofs.lemmas.List.{append-nil, append_assoc}
use Rattle.std.proofs.lemmas.List.Elements.{All-append}
use Rattle.egl_calls.specs.declared.entries.Entry.{Entry}
use Rattle.egl_calls.specs.Calls.{CallValue, ReplyValue}
use Rattle.shared_driver.proofs.Owned.{mine_goes, own_one}
use Rattle.shared_driver.specs.Cores.{entry, of_number, wait_end_call, wait_ended}
use Rattle.shared_driver.specs.Tokens.{AnswersAfterWait, Goes, IsSame, Learns, Owns, Token, mine}

pub same_twice : (t u w : Token) → IsSame t u → IsSame u w → IsSame t w
same_twice t u w h k = (k.0 ∙ h.0, k.1 ∙ h.1)

-- what was learnt in two turns was learnt in one
pub learns_twice : (t u w : Token) → IsSame t u → Learns t u → Learns u w → Learns t w
learns_twice t u w s h k = (
  h.0 ++ k.0,
  All-append (λ (e : Entry). ¬ (Owns t e.thread)) h.0 k.0 h.1 (subst (λ (z : ℕ × List ℕ). All (λ (e : Entry). ¬ ((e.thread ≡ z.0) ⊎ (Contains z.1 e.thread))) k.0) (λ j. (s.0 j, s.1 j)) k.1),
  k.2 ∙ ap (λ l. l ++ k.0) h.2 ∙ append_assoc t.seen h.0 k.0,
  k.3 ∙ h.3,
)

-- what was learnt in one turn, and what was added in the next
pub goes_then : (t u w : Token) (more : List Entry) → IsSame t u → Learns t u → Goes u more w → Goes t more w
goes_then t u w more s h k = (
  h.0 ++ k.0,
  All-append (λ (e : Entry). ¬ (Owns t e.thread)) h.0 k.0 h.1 (subst (λ (z : ℕ × List ℕ). All (λ (e : Entry). ¬ ((e.thread ≡ z.0) ⊎ (Contains z.1 e.thread))) k.0) (λ j. (s.0 j, s.1 j)) k.1),
  k.2 ∙ ap (λ l. l ++ more) (ap (λ l. (l ++ k.0) ++ u.tail) h.2 ∙ ap (λ l. ((t.seen ++ h.0) ++ k.0) ++ l) h.3 ∙ ap (λ l. l ++ t.tail) (append_assoc t.seen h.0 k.0)),
  k.3,
)

-- a call began a wait, whose end came in a later turn
pub after_wait : (t u w : Token) (mark : ℕ) (call : CallValue) (begun reply : ReplyValue) → IsSame t u → IsSame u w → is_waiting begun.outcome ≡ true → reply ≡ wait_ended
    → Goes t (entry t.number mark call begun ∷ []) u → mine u ≡ mine t ++ entry t.number mark call begun ∷ [] → Goes u (entry u.number mark wait_end_call wait_ended ∷ []) w → AnswersAfterWait t mark call reply w
after_wait t u w mark call begun reply s z waits ended h own k = (
  begun,
  k.0,
  waits,
  ended,
  subst (λ (q : ℕ × List ℕ). All (λ (d : Entry). ¬ ((d.thread ≡ q.0) ⊎ (Contains q.1 d.thread))) k.0) (λ j. (s.0 j, s.1 j)) k.1,
  (h.0, h.1, seen, k.3),
  mine_goes u w (last u.number ∷ []) z.0 k ∙ ap (λ l. l ++ of_number u.number (last u.number ∷ [])) own ∙ ap (λ l. (mine t ++ first ∷ []) ++ l) (own_one u.number mark wait_end_call wait_ended) ∙ ap (λ l. (mine t ++ first ∷ []) ++ l) is_last
      ∙ append_assoc (mine t) (first ∷ []) (entry t.number mark wait_end_call reply ∷ []),
)
  where
    first : Entry
    first = entry t.number mark call begun

    last : ℕ → Entry
    last n = entry n mark wait_end_call wait_ended

    before : List Entry
    before = (t.seen ++ h.0) ++ t.tail

    is_last : last u.number ∷ [] ≡ entry t.number mark wait_end_call reply ∷ []
    is_last = ap (λ n. last n ∷ []) s.0 ∙ ap (λ r. entry t.number mark wait_end_call r ∷ []) (sym ended)

    seen : w.seen ≡ before ++ (first ∷ (k.0 ++ entry t.number mark wait_end_call reply ∷ []))
    seen = k.2 ∙ ap (λ l. ((u.seen ++ k.0) ++ l) ++ last u.number ∷ []) h.3 ∙ ap (λ l. l ++ last u.number ∷ []) (append-nil (u.seen ++ k.0)) ∙ ap (λ l. (l ++ k.0) ++ last u.number ∷ []) h.2
        ∙ ap (λ l. ((before ++ first ∷ []) ++ k.0) ++ l) is_last ∙ ap (λ l. l ++ entry t.number mark wait_end_call reply ∷ []) (append_assoc before (first ∷ []) k.0)
        ∙ append_assoc before (first ∷ k.0) (entry t.number mark wait_end_call reply ∷ [])
