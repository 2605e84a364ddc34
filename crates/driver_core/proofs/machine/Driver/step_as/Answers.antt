use Rattle.driver_core.specs.Machine.{outs}
use Rattle.driver_core.proofs.CostLaws.{bounded}
use Rattle.driver_core.proofs.OutsideLaws.{is_in, outside}
use Rattle.driver_core.proofs.machine.Driver.step_as.Goals as goal

pub returns-clause-outside : goal.returns-clause-outside
returns-clause-outside g c = λ s h i e. let away = c.args.self.now.away in
    outside (λ x. g.R.Replies.reply x) c.step_given.result c.args.self.now c.step_given.new.self c.args.thread c.args.call.now c.step_given.ensures.reply c.step_given.ensures.state s (outs away) h (is_in away c.args.thread i) e

pub returns-clause-bound : goal.returns-clause-bound
returns-clause-bound g c = bounded c.args.self.now.state c.step_given.new.self.state c.args.steps.now c.step_given.new.steps c.step_given.ensures.steps c.apart.ensures c.names_apart.ensures
