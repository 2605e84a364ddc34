use Rattle.std.proofs.Common.{◌++◌, ◌∙◌, List, ℕ, ap}
use Rattle.std.specs.Prelude.{codes}
use Rattle.trace_model.specs.Recording.{entry_lines}
use Rattle.trace_model.specs.Serial.{serial}
use Rattle.journal_text.specs.Rests.{rest_text}
use Rattle.egl_cli.proofs.TurnLaws.{recorded}
use Rattle.egl_cli.proofs.turns.put_run.Goals as goal

pub returns-clause-out : goal.returns-clause-out
returns-clause-out c =
    let t = c.args.trace.now in
    let rest = rest_text c.put_turns.new.driver.state in
    let text =
    ap (λ (x : List ℕ). x ++ codes "\n") (c.in_ok-put_rest.ensures ∙ ap (λ (x : List ℕ). x ++ rest) (c.in_ok-put_turns.ensures.out ∙ ap (λ (x : List ℕ). x ++ entry_lines (serial t)) c.in_ok-put_text.ensures)) in
    c.in_ok-put_text-2.ensures ∙ text ∙ recorded t _ _ c.args.out.now c.in_ok-put_turns.ensures.trace c.in_ok-put_turns.ensures.behind
