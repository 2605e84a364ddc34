use Rattle.std.proofs.Common.{◌∙◌, ◌+◌, ap, drop, arith}
use Rattle.driver_judge.specs.Answers.{NewNamesValue, new_names}
use Rattle.driver_judge.proofs.NameLaws.{ended, next_name}
use Rattle.driver_judge.proofs.answers.Stands.give_names.Goals as goal

pub each-preserved : goal.each-preserved
each-preserved c = record {
  names = ap (λ (n : NewNamesValue). new_names c.args.group c.args.kind (drop (c.each.place + 1) c.args.ours.now) (drop (c.each.place + 1) c.args.theirs.now) n) c.in_ok-agree.ensures ∙ next_name c.args.group c.args.kind c.args.ours.now c.args.theirs.now c.each.place (record { agree = c.each.agree; stands = c.each.self }) c.each-test.true (omega (arith, c.each.invariant.long)) ∙ c.each.invariant.names;
  long = c.each.invariant.long;
}

pub returns : goal.returns
returns c = ended c.args.group c.args.kind c.args.ours.now c.args.theirs.now c.each.place (record { agree = c.each.agree; stands = c.each.self }) c.each-test.false ∙ c.each.invariant.names
