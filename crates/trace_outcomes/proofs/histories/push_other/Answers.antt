use Rattle.std.proofs.Common.{◌++◌, ◌∷◌, ◌∙◌, ℕ, [], List, ap}
use Rattle.std.specs.Prelude.{is_some}
use Rattle.trace_outcomes.proofs.SearchLaws.{kept, not_kept}
use Rattle.trace_outcomes.proofs.histories.push_other.Goals as goal

pub returns-in_ok-push_schedule-in-Some : goal.returns-in_ok-push_schedule-in-Some
returns-in_ok-push_schedule-in-Some c journal b at =
    let t = c.args.session.now.trace in
    let old = c.args.pending.now.items in
    kept t journal c.args.thread c.args.driver.now.state _ old _ c.args.schedule.now c.requires.thread b.state (c.due.ensures.learnt journal b.knows) (ap is_some c.in-Some.is) at
    (c.in_ok-push_schedule-in-Some.ensures ∙ ap (λ (x : List ℕ). old ++ x ∷ []) c.in_ok-more-in-Some.ensures)

pub returns-in-None : goal.returns-in-None
returns-in-None c journal b at =
    not_kept c.args.session.now.trace journal c.args.thread c.args.driver.now.state _ _ c.requires.thread b.state (c.due.ensures.learnt journal b.knows) (ap is_some c.in-None.is)
