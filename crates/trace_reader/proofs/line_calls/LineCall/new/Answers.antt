use Rattle.std.proofs.Common.{◌≡◌, ◌≤◌, length, get_or, pos, rules}
use Rattle.std.proofs.lemmas.Int.{to_z-of_z}
use Rattle.std.specs.Int.{w64}
use mir.Val.{SFits}
use Rattle.trace_reader.proofs.PackLaws.{few_call}
use Rattle.trace_reader.proofs.line_calls.LineCall.new.Goals as goal

pub returns-then-is_none : goal.returns-then-is_none
returns-then-is_none c =
    let zs = c.args.args.now in
    let first : SFits w64 (get_or zs 0 (pos 0)) = search rules in
    let second : SFits w64 (get_or zs 1 (pos 0)) = search rules in
    let third : SFits w64 (get_or zs 2 (pos 0)) = search rules in
    let fourth : SFits w64 (get_or zs 3 (pos 0)) = search rules in
    let eight : length zs ≡ 8 = search rules in
    let few : c.args.count ≤ 4 = search rules in
    let none : length c.args.list.now ≡ 0 = search rules in
    few_call c.args.kind zs c.args.list.now c.args.bytes c.args.count (pos 0) _ _ _ _ eight few c.requires.zeros none (search rules) (to_z-of_z w64 _ first) (to_z-of_z w64 _ second) (to_z-of_z w64 _ third) (to_z-of_z w64 _ fourth)
