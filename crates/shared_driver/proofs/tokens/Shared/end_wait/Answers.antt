use Rattle.std.proofs.Common.{refl, ◌∙◌, ◌∷◌, [], sym, subst, arith}
use Rattle.std.proofs.lemmas.List.{append-nil}
use Rattle.shared_driver.specs.Cores.{wait_end_call, wait_ended, entry}
use Rattle.shared_driver.specs.Tokens.{Goes, token_of}
use Rattle.shared_driver.proofs.Learning.{goes_then, learns_twice, same_twice}
use Rattle.shared_driver.proofs.tokens.Shared.end_wait.Goals as goal

pub waiting-init : goal.waiting-init
waiting-init g c = (c.requires.owns, (refl, refl), ([], (λ i d l. absurd (omega arith)), sym (append-nil _), refl), c.requires.place, refl, refl)

pub returns-in-Some-try_end-clause-ended : goal.returns-in-Some-try_end-clause-ended
returns-in-Some-try_end-clause-ended g c =
    let t = token_of c.args.thread.now in
    let u = token_of c.waiting.thread in
    let w = token_of c.try_end.new.thread in
    let h = c.waiting.invariant in
    goes_then t u w (entry t.number c.args.mark wait_end_call wait_ended ∷ []) h.1 h.2 (subst (λ n. Goes u (entry n c.args.mark wait_end_call wait_ended ∷ []) w) h.1.0 c.in-Some-try_end.ensures.ended)

pub waiting-preserved : goal.waiting-preserved
waiting-preserved g c =
    let t = token_of c.args.thread.now in
    let u = token_of c.waiting.thread in
    let w = token_of c.try_end.new.thread in
    let h = c.waiting.invariant in
    (c.try_end.ensures.owns, same_twice t u w h.1 c.try_end.ensures.same, learns_twice t u w h.1 h.2 c.in_default.ensures.none.0, c.in_default.ensures.none.1, c.try_end.ensures.sole ∙ h.4, c.try_end.ensures.places ∙ h.5)
