use Rattle.std.proofs.Common.{◌≡◌, ◌<◌, ◌∙◌, sym, ap, arith, rules, tests, length, List, ◌∷◌, [], ◌++◌, ℤ}
use Rattle.std.proofs.lemmas.Grind.{common_steps}
use Rattle.std.proofs.lemmas.Int.{to_z-of_z}
use Rattle.std.proofs.lemmas.List.{length_push}
use Rattle.std.proofs.lemmas.Iterator.Consumers.{YieldsList-turn, YieldsList-end}
use Rattle.std.proofs.lemmas.Iterator.Splits.{YieldsList-from_slice_split}
use Rattle.std.specs.Int.{w128}
use mir.Val.{SFits}
use Rattle.trace_reader.specs.Lists.{is_comma, comma_parts}
use Rattle.trace_reader.proofs.ListLaws.{numbers_behind}
use Rattle.log_reader.specs.Answers.{answer_numbers}
use Rattle.log_reader.proofs.AnswerLaws.{numbers_of_items, bad_item, number_item, no_item}
use Rattle.log_reader.proofs.answers.answer_numbers.Goals as goal

pub items-init : goal.items-init
items-init c =
    let some : 0 < length c.args.text.now = grind (arith, common_steps) in
    ap (λ (zs : List ℤ). numbers_behind zs (answer_numbers (comma_parts c.args.text.now))) c.new-found.ensures ∙ numbers_of_items c.args.text.now some

pub returns-in_default : goal.returns-in_default
unfolding comma_parts
returns-in_default c =
    let turn = YieldsList-turn (YieldsList-from_slice_split _ is_comma c.args.text.now (cc) (cc) (cc) (λ x r q k. search (rules, tests))) c.items.yielded _ c.items.yielded_by _ _ c.in-Some.item c.in-Some.is c.next.ensures.steps in
    sym (bad_item c.items.found _ _ _ turn (sym c.in_default.ensures.value)) ∙ c.items.invariant

pub items-preserved : goal.items-preserved
unfolding comma_parts
items-preserved c =
    let z : ℤ = c.in-Some-answer_number.number in
    let f : SFits w128 z = search rules in
    let pushed : c.push.new.self ≡ c.items.found ++ z ∷ [] = c.in_ok-push.ensures.ok ∙ ap (λ (x : ℤ). c.items.found ++ x ∷ []) (to_z-of_z w128 z f) in
    let turn = YieldsList-turn (YieldsList-from_slice_split _ is_comma c.args.text.now (cc) (cc) (cc) (λ x r q k. search (rules, tests))) c.items.yielded _ c.items.yielded_by _ _ c.in-Some.item c.in-Some.is c.next.ensures.steps in
    rw (pushed, length_push c.items.yielded c.in-Some.item) (number_item c.items.found _ _ _ z turn (sym c.in-Some-answer_number.ensures.value) ∙ c.items.invariant)

pub returns : goal.returns
unfolding comma_parts
returns c =
    let end = YieldsList-end (YieldsList-from_slice_split _ is_comma c.args.text.now (cc) (cc) (cc) (λ x r q k. search (rules, tests))) c.items.yielded _ c.items.yielded_by _ _ c.in-None.is c.next.ensures.steps in
    sym (no_item c.items.found (comma_parts c.args.text.now) _ end.1) ∙ c.items.invariant
