use Rattle.std.proofs.Common.{◌++◌, ◌∷◌, ◌∙◌, true, false, [], List, sym, ap}
use Rattle.trace_outcomes.specs.Outcomes.{OutcomeValue}
use Rattle.trace_outcomes.proofs.FoundLaws.{with_is, flipped}
use Rattle.trace_outcomes.proofs.found.Found.add.Goals as goal

pub returns-then-not-is_new : goal.returns-then-not-is_new
returns-then-not-is_new c =
    let v = c.self.inside in
    let there = flipped _ _ false c.in-Ok.ensures.added c.if-not-is_new.true in
    rw (← c.self.view_is) (c.reserve.ensures.items ∙ sym (with_is v.keys.keys (record { text = c.in_ok-text.text }) v.outcomes.items c.args.outcome c.self.invariant c.in_ok-text.ensures true there))

pub returns : goal.returns
returns c =
    let v = c.self.inside in
    let absent = flipped _ _ true c.in-Ok.ensures.added c.if-not-is_new.false in
    rw (← c.self.view_is) (
    c.push_reserved.ensures.items
    ∙ ap (λ (os : List OutcomeValue). os ++ c.args.outcome ∷ []) c.reserve.ensures.items
    ∙ sym (with_is v.keys.keys (record { text = c.in_ok-text.text }) v.outcomes.items c.args.outcome c.self.invariant c.in_ok-text.ensures false absent)
    )
