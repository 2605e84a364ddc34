use Rattle.std.proofs.Common.{◌∙◌, sym, arith, rules, SFits, w64}
use Rattle.std.proofs.lemmas.Int.{to_z-of_z}
use Rattle.driver_judge.proofs.ConfigLaws.{two_more}
use Rattle.driver_judge.proofs.variables.our_list.Goals as goal

pub pairs-preserved : goal.pairs-preserved
pairs-preserved c =
    let fits : SFits w64 c.in-Some.value = search rules in
    record {
      value = rw (c.in_ok-push_pair.ensures.value, c.behind_two-rest.ensures.rest, to_z-of_z w64 c.in-Some.value fits) (two_more c.args.configs.now.pairs c.pairs.found c.pairs.rest.now c.in-Some.value (omega arith) (sym c.first_value.ensures.value ∙ c.in-Some.is) ∙ c.pairs.invariant.value);
      left = c.behind_two-rest.ensures.numbers;
      numbers = c.in_ok-push_pair.ensures.numbers;
    }
