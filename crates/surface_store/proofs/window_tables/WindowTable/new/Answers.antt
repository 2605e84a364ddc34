use Rattle.std.proofs.Common.{arith}
use Rattle.surface_store.proofs.WindowLaws.{are_windows, declared_sides}
use Rattle.surface_store.proofs.window_tables.WindowTable.new.Goals as goal

pub new-requires-clause-wide : goal.new-requires-clause-wide
new-requires-clause-wide c = let h = declared_sides c.args.specs.now c.each.spec-index _ c.requires c.each-test.true in (h.wide, h.widest)

pub new-requires-clause-high : goal.new-requires-clause-high
new-requires-clause-high c = let h = declared_sides c.args.specs.now c.each.spec-index _ c.requires c.each-test.true in (h.high, h.highest)

pub invariant_of-result : goal.invariant_of-result
invariant_of-result c = are_windows c.args.specs.now c.each.spec-index c.each.windows.items c.requires (omega (arith, c.each-test.false, c.each.auto.spec-index-end)) c.each.invariant
