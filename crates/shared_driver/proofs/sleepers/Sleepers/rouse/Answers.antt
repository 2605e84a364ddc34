use Rattle.std.proofs.Common.{arith}
use Rattle.shared_driver.specs.Sleepers.{free}
use Rattle.shared_driver.proofs.Rousing.{bed_next, none_roused}
use Rattle.shared_driver.proofs.sleepers.Sleepers.rouse.Goals as goal

pub each-init : goal.each-init
each-init c = record { roused = none_roused (free c.args.driver.now c.args.entries.now) c.args.self.now.beds c.nobody-woken.result.beds c.nobody-woken.result.any c.nobody-woken.ensures.1; within = omega arith }

pub each-preserved : goal.each-preserved
each-preserved c =
    let i = c.each.invariant in
    let e = c.empty.ensures in
    record {
      roused = bed_next (free c.args.driver.now c.args.entries.now) c.args.self.now.beds c.each.self.beds c.empty.new.self.beds c.each.woken.beds c.empty.new.woken.beds c.each.woken.any c.empty.new.woken.any c.each.bed c.is_freed_by-freed.result (omega (arith, c.each-test.true)) i.roused c.is_freed_by-freed.ensures e.beds e.woken e.any;
      within = omega (arith, c.each-test.true);
    }
