use Rattle.std.proofs.Common.{◌≡◌, ℕ, Option, ap, ◌∙◌, arith, subst}
use Rattle.std.specs.Prelude.{IfSome}
use Rattle.trace_reader.specs.Traces.{TraceValue}
use Rattle.shared_driver.specs.Cores.{of_number}
use Rattle.shared_driver.specs.declared.picks.Pick.{Pick}
use Rattle.play_threads.specs.Picks.{HasLearnt, IsOwnPick}
use Rattle.play_threads.proofs.LoneLaws.{own_picked}
use Rattle.play_threads.proofs.PickLaws.{halted_all, knows_all, learnt_of, picks_if_ok}
use Rattle.play_threads.proofs.pickers.LinePickerPicker.pick.Goals as goal

pub learn_told-requires : goal.learn_told-requires
learn_told-requires c = c.requires.may.learnt

pub own_pick-requires : goal.own_pick-requires
own_pick-requires c =
    let p = c.args.self.now in
    let w = c.learn_told.new.self in
    let many : w.session.trace.threads ≡ p.session.trace.threads = ap (λ (x : TraceValue). x.threads) c.learn_told.ensures.same.1 in
    omega (arith, c.learn_told.ensures.same.0, many, c.requires.may.thread)

pub returns-in-Some : goal.returns-in-Some
returns-in-Some c =
    let p = c.args.self.now in
    let w = c.learn_told.new.self in
    let es = c.args.journal.now.entries in
    let told = c.in_ok-learn_told.ensures.learnt in
    let P : Option Pick → Type 0 = λ o. IfSome o (IsOwnPick w.session.trace told.learned es w.thread) in
    record { picked = own_picked p w es c.args.driver.now c.learn_told.ensures.same.0 c.learn_told.ensures.same.1 c.requires.may.thread told c.learn_told.ensures.told.0 c.learn_told.ensures.told.1 c.in-Some.pick (subst P c.in-Some.is (c.in_ok-pick.ensures told.learned told.knows)) }

pub learn-requires : goal.learn-requires
learn-requires c =
    let p = c.args.self.now in
    let es = c.args.journal.now.entries in
    learnt_of p c.learn_told.new.self es c.learn_told.ensures.same.0 (c.in_ok-learn_told.ensures.learnt)

pub returns : goal.returns
returns c =
    let p = c.args.self.now in
    let q = c.learn.new.self in
    let es = c.args.journal.now.entries in
    let told = c.in_ok-learn.ensures in
    let thread = c.learn.ensures.same.0 ∙ c.learn_told.ensures.same.0 in
    let trace = c.learn.ensures.same.1 ∙ c.learn_told.ensures.same.1 in
    let all : HasLearnt q (of_number p.thread es) es = let P : ℕ → Type 0 = λ n. HasLearnt q (of_number n es) es in subst P c.learn_told.ensures.same.0 told.learnt in
    let own = learnt_of p q es thread all in
    record { picked = picks_if_ok c.picked.result p q es c.args.driver.now thread trace told.all all (c.learn.ensures.told.0 ∙ c.learn_told.ensures.told.0) (c.learn.ensures.told.1 ∙ c.learn_told.ensures.told.1) (c.picked.ensures.pick es (knows_all q es told.all own) (halted_all q es told.all own)) (c.picked.ensures.goes_on es (knows_all q es told.all own) (halted_all q es told.all own)) }
