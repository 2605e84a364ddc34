use Rattle.std.proofs.Common.{◌≡◌, refl, ◌∙◌, None, Some}
use Rattle.shared_driver.specs.Cores.{of_number}
use Rattle.play_threads.proofs.PickLaws.{told_if_ok, told_none, told_there}
use Rattle.play_threads.proofs.pickers.LinePicker.learn_told.Goals as goal

pub returns-then-not-self-clause-learnt : goal.returns-then-not-self-clause-learnt
returns-then-not-self-clause-learnt c =
    let p = c.args.self.now in
    let es = c.args.journal.now.entries in
    told_none p _ p.answered c.if-not-self.true (of_number p.thread es) es c.requires refl refl refl refl

pub unreachable-requires : goal.unreachable-requires
unreachable-requires c =
    let p = c.args.self.now in
    let es = c.args.journal.now.entries in
    let t = told_there p p.answered c.if-not-self.false (of_number p.thread es) es c.requires in
    let f : None ≡ Some t.0.last = c.in_default.ensures ∙ t.1 in cc

pub returns-clause-learnt : goal.returns-clause-learnt
returns-clause-learnt c =
    let p = c.args.self.now in
    let es = c.args.journal.now.entries in
    told_if_ok c.learn.result p _ p.answered c.in-Some.entry.now c.if-not-self.false (of_number p.thread es) es c.requires c.in-Some.ensures refl refl refl c.learn.ensures.learnt
