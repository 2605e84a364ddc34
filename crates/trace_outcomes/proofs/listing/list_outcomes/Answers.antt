use Rattle.trace_outcomes.proofs.SearchLaws.{ordered}
use Rattle.trace_outcomes.proofs.listing.list_outcomes.Goals as goal

pub returns : goal.returns
returns c =
    let met = rw c.in-Some.is at c.in_ok-found.ensures in
    record {
      few = met.few;
      outcomes = ordered c.args.trace.now _ _ met.outcomes c.in_ok-in_order.ensures;
      histories = met.histories;
    }
