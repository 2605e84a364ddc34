use Rattle.std.proofs.Common.{◌≤◌, ◌∙◌, length, get_or, set, ap, sym, refl, pos, rules, arith}
use Rattle.std.proofs.lemmas.Int.{to_z-of_z}
use Rattle.std.proofs.lemmas.List.{length-set}
use Rattle.std.specs.Int.{w64}
use mir.Val.{SFits}
use Rattle.trace_reader.proofs.ArgumentLaws.{padded_none}
use Rattle.trace_reader.proofs.PackLaws.{padded_all, padded_next}
use Rattle.trace_reader.proofs.line_calls.padded.Goals as goal

pub loop-k-init : goal.loop-k-init
loop-k-init c = record { value = sym padded_none; eight = refl }

pub loop-k-preserved : goal.loop-k-preserved
loop-k-preserved c =
    let fits : SFits w64 (get_or c.args.front.now c.loop-k.k (pos 0)) = search rules in
    record {
      value = padded_next c.args.front.now c.loop-k.args _ c.loop-k.k (pos 0) c.requires (omega arith) (ap (set c.loop-k.args c.loop-k.k) (to_z-of_z w64 _ fits)) c.loop-k.invariant.value;
      eight = length-set c.loop-k.args c.loop-k.k _ ∙ c.loop-k.invariant.eight;
    }

pub returns : goal.returns
returns c =
    let past : length c.args.front.now ≤ c.loop-k.k = omega arith in
    padded_all c.args.front.now c.loop-k.args c.loop-k.k past c.loop-k.invariant.value
