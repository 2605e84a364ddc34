use Rattle.std.proofs.Common.{◌≡◌, length, take, arith}
use Rattle.std.proofs.lemmas.Grind.{common_steps}
use Rattle.egl_flow.proofs.FlowLaws.{gave_past, gave_within}
use Rattle.egl_flow.proofs.reading.read_all.Goals as goal

pub returns-then-taken-limit-clause-cause : goal.returns-then-taken-limit-clause-cause
returns-then-taken-limit-clause-cause g c =
    let call = c.in-Ok.ensures in
    let piece = take c.in-Ok.n c.take.new.into in
    let whole : length piece ≡ c.in-Ok.n = grind (arith, common_steps) in
    let kept : g.S.Source.faults c.take.new.self ≡ g.S.Source.faults c.args.s.now = grind (arith) in
    let past = gave_past _ _ _ c.pieces.bytes piece c.args.limit c.in-Ok.n c.pieces.invariant.read call.moved whole c.pieces.invariant.within (grind (arith, common_steps)) (grind (arith, common_steps)) in
    (kept, grind (arith, past))

pub returns-then-is_err-clause-cause : goal.returns-then-is_err-clause-cause
returns-then-is_err-clause-cause g c =
    let call = c.in-Ok.ensures in
    let piece = take c.in-Ok.n c.take.new.into in
    let whole : length piece ≡ c.in-Ok.n = grind (arith, common_steps) in
    let kept : g.S.Source.faults c.take.new.self ≡ g.S.Source.faults c.args.s.now = grind (arith) in
    (kept, gave_within _ _ _ c.pieces.bytes piece c.args.limit c.in-Ok.n c.pieces.invariant.read call.moved whole (grind (arith, common_steps)))
