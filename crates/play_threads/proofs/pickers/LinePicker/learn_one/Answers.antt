use Rattle.std.proofs.Common.{◌≡◌, ◌≢◌, ◌+◌, refl, arith}
use Rattle.play_threads.specs.declared.pickers.LinePicker.{LinePicker}
use Rattle.play_threads.proofs.PickLaws.{learnt_known, learnt_if_ok}
use Rattle.play_threads.proofs.pickers.LinePicker.learn_one.Goals as goal

pub returns-clause-learnt : goal.returns-clause-learnt
returns-clause-learnt c own es h at =
    let p : LinePicker = c.args.self.now in
    let same : c.args.entry.now.thread ≡ p.thread = grind (arith, c.if-entry-self.false) in
    learnt_known p (record p { learnt = p.learnt + 1 }) own es c.args.entry.now at h refl refl same refl refl

pub returns-then-entry-self-clause-learnt : goal.returns-then-entry-self-clause-learnt
returns-then-entry-self-clause-learnt c own es h at =
    let ne : c.args.entry.now.thread ≢ c.args.self.now.thread = grind (arith, c.if-entry-self.true) in
    learnt_if_ok c.learn_other.result c.args.self.now c.learn_other.new.self own es c.args.entry.now at h c.learn_other.ensures.same.0 c.learn_other.ensures.next ne (c.learn_other.ensures.knows h.learned h.knows) c.learn_other.ensures.halted
