use Rattle.std.proofs.Common.{◌∙◌, ℕ, List, ap}
use Rattle.trace_outcomes.specs.Schedules.{follow}
use Rattle.trace_session.proofs.TurnLaws.{stand_first}
use Rattle.trace_outcomes.proofs.SearchLaws.{at_schedule, is_trace_at, plays_at, first_at}
use Rattle.trace_outcomes.proofs.histories.play_first.Goals as goal

pub replay-requires-clause-behind : goal.replay-requires-clause-behind
replay-requires-clause-behind c = stand_first c.args.trace.now _ _ _ c.new-journal.ensures c.in_ok-session.ensures.trace c.in_ok-driver.ensures.state c.in_ok-session.ensures.learnt

pub descend-requires-clause-is_trace : goal.descend-requires-clause-is_trace
descend-requires-clause-is_trace c = is_trace_at c.args.trace.now _ _ c.in_ok-session.ensures.trace c.in_ok-replay.ensures.trace _ _ c.args.schedule c.new-journal.ensures (c.in_ok-replay.ensures.journal ∙ ap (λ (us : List ℕ). follow c.in_ok-session.session.trace c.new-journal.result.entries us) c.as_slice.ensures) c.in_order.ensures

pub descend-requires-clause-plays : goal.descend-requires-clause-plays
descend-requires-clause-plays c = plays_at c.args.trace.now _ _ c.in_ok-session.ensures.trace c.in_ok-replay.ensures.trace _ _ c.args.schedule c.new-journal.ensures (c.in_ok-replay.ensures.journal ∙ ap (λ (us : List ℕ). follow c.in_ok-session.session.trace c.new-journal.result.entries us) c.as_slice.ensures) c.in_order.ensures

pub descend-requires-clause-schedule : goal.descend-requires-clause-schedule
descend-requires-clause-schedule c = at_schedule c.args.trace.now _ _ c.in_ok-session.ensures.trace c.in_ok-replay.ensures.trace _ _ c.args.schedule c.new-journal.ensures (c.in_ok-replay.ensures.journal ∙ ap (λ (us : List ℕ). follow c.in_ok-session.session.trace c.new-journal.result.entries us) c.as_slice.ensures)

pub returns : goal.returns
returns c = first_at c.args.trace.now _ _ c.in_ok-session.ensures.trace c.in_ok-replay.ensures.trace _ _ c.args.schedule c.new-journal.ensures (c.in_ok-replay.ensures.journal ∙ ap (λ (us : List ℕ). follow c.in_ok-session.session.trace c.new-journal.result.entries us) c.as_slice.ensures) c.descend.new.journal.entries c.args.pending.now.items c.descend.new.pending.items _ c.in_ok-descend.ensures.histories c.in_ok-outcome.ensures
