use Rattle.std.proofs.Common.{◌≡◌, ◌≤◌, drop, fold}
use Rattle.driver_judge.specs.Judgements.{judge_next}
use Rattle.driver_judge.proofs.folding.judge_items.Given as goal

abbrev pub invariant-each : goal.invariant-each
invariant-each l = record {
  folded : fold (judge_next l.setting) (record { beside = record { state = l.driver.state; kept = l.kept }; tally = l.tally }) (drop l.item-index l.items) ≡ fold (judge_next l.setting) (record { beside = record { state = l.fn.driver.state; kept = l.fn.kept }; tally = l.fn.tally }) l.items;
  made : l.threads ≤ l.driver.made;
  agreed : l.tally.agreed ≤ l.item-index;
  own : l.tally.own ≤ l.item-index;
}
