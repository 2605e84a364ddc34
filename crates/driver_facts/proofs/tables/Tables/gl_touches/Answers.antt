use Rattle.std.proofs.Common.{sym, ◌∙◌}
use Rattle.driver_facts.specs.Tables.{state_in}
use Rattle.driver_facts.proofs.TouchLaws.{gl_untouched}
use Rattle.driver_facts.proofs.tables.Tables.gl_touches.Goals as goal

pub returns-in-Some-gl_refusal-clause-touched : goal.returns-in-Some-gl_refusal-clause-touched
returns-in-Some-gl_refusal-clause-touched c = c.nothing-in-Some-gl_refusal.ensures ∙ sym (gl_untouched (state_in c.args.self.now) c.args.thread c.in-Some.context c.args.kind c.args.call.now c.in-Some-gl_refusal.field-0 (sym c.current_context.ensures ∙ c.in-Some.is) (sym c.gl_refusal.ensures ∙ c.in-Some-gl_refusal.is))
