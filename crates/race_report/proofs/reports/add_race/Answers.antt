use Rattle.std.proofs.Common.{◌≡◌, true, false, sym, ◌∙◌}
use Rattle.race_report.proofs.RaceLaws.{found_hit, found_miss}
use Rattle.race_report.proofs.reports.add_race.Goals as goal

pub returns-in_ok-push : goal.returns-in_ok-push
returns-in_ok-push c = rw c.in_ok-push.ensures.ok (found_hit c.args.events.now c.args.pairs.now c.args.first c.args.second (c.is_race.ensures.0 c.if-is_race.true) c.requires.found)

pub returns-else-is_race : goal.returns-else-is_race
returns-else-is_race c =
    let miss = c.if-is_race.false in
    found_miss c.args.events.now c.args.pairs.now c.args.first c.args.second (λ r. let hit : c.is_race.result ≡ true = c.is_race.ensures.1 r in let e : true ≡ false = sym hit ∙ miss in cc) c.requires.found
