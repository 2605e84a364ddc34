use Rattle.std.proofs.Common.{arith}
use Rattle.race_report.proofs.RaceLaws.{found_start, found_next, found_last}
use Rattle.race_report.proofs.reports.add_races.Goals as goal

pub each-init : goal.each-init
each-init c = record {
  found = found_start c.args.events.now c.args.pairs.now c.args.first c.requires.found;
  behind = omega arith;
  within = c.requires.within;
  tried = λ k lt. absurd (omega (arith, lt));
}

pub add_race-requires-clause-found : goal.add_race-requires-clause-found
add_race-requires-clause-found c =
    let i = c.each.invariant in
    found_next c.args.events.now c.each.pairs c.args.first c.each.behind c.each.second-index c.args.seconds.now c.requires.seconds i.tried c.each-test.true c.if-behind-second.true i.found

pub returns : goal.returns
returns c =
    let i = c.each.invariant in
    found_last c.args.events.now c.each.pairs c.args.first c.each.behind c.each.second-index c.args.seconds.now c.requires.seconds i.tried c.each-test.false i.within i.found
