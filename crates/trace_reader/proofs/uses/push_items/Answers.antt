use Rattle.std.proofs.Common.{rules, tests}
use Rattle.std.proofs.lemmas.List.{length_push}
use Rattle.std.proofs.lemmas.Iterator.Consumers.{YieldsList-turn, YieldsList-end}
use Rattle.std.proofs.lemmas.Iterator.Splits.{YieldsList-from_slice_split}
use Rattle.trace_reader.specs.Lists.{is_comma, comma_parts}
use Rattle.trace_reader.proofs.UseLaws.{more_items, more_known, no_more_items, none_unknown, turned_off, kept}
use Rattle.trace_reader.proofs.uses.push_items.Goals.{then-not-branch, else-not-branch}
use Rattle.trace_reader.proofs.uses.push_items.Goals as goal

pub items-preserved : goal.items-preserved
unfolding comma_parts
items-preserved c =
    let turn = YieldsList-turn (YieldsList-from_slice_split _ is_comma c.args.text.now (cc) (cc) (cc) (λ x r q k. search (rules, tests))) c.items.yielded _ c.items.yielded_by _ _ c.in-Some.item c.in-Some.is c.next.ensures.steps in
    record {
      added = rw (c.in_ok-place.ensures, length_push c.items.yielded c.in-Some.item) (more_items c.args.variables.now c.items.uses c.push_reference.new.uses _ c.items.place _ _ _ turn c.in_ok-push_reference.ensures.added c.items.invariant.added);
      known = rw (length_push c.items.yielded c.in-Some.item) (more_known c.args.variables.now c.items.known c.if-not-branch.known _ _ _ _ turn (elim c.if-not-branch.branch [
        | then-not-branch w ↦ turned_off c.items.known c.if-not-branch.known c.in_ok-push_reference.field-0 _ w.known-is w.if-not-branch.true c.in_ok-push_reference.ensures.known
        | else-not-branch w ↦ kept c.items.known c.if-not-branch.known c.in_ok-push_reference.field-0 _ w.known-is w.if-not-branch.false c.in_ok-push_reference.ensures.known
      ]) c.items.invariant.known);
      all = λ h. c.in_ok-push_reference.ensures.all (c.items.invariant.all h);
    }

pub returns-clause-known : goal.returns-clause-known
unfolding comma_parts
returns-clause-known c =
    let end = YieldsList-end (YieldsList-from_slice_split _ is_comma c.args.text.now (cc) (cc) (cc) (λ x r q k. search (rules, tests))) c.items.yielded _ c.items.yielded_by _ _ c.in-None.is c.next.ensures.steps in
    none_unknown c.args.variables.now c.items.known _ (comma_parts c.args.text.now) _ end.1 c.items.invariant.known

pub returns-clause-added : goal.returns-clause-added
unfolding comma_parts
returns-clause-added c =
    let end = YieldsList-end (YieldsList-from_slice_split _ is_comma c.args.text.now (cc) (cc) (cc) (λ x r q k. search (rules, tests))) c.items.yielded _ c.items.yielded_by _ _ c.in-None.is c.next.ensures.steps in
    no_more_items c.args.variables.now c.items.uses _ c.items.place _ (comma_parts c.args.text.now) end.1 c.items.invariant.added
