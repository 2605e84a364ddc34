use Rattle.std.proofs.Common.{ap, sym, ◌∙◌, nat_eq, None, Some}
use Rattle.driver_core.proofs.LateLaws.{surface_by, surface_none, unbound_twice}
use Rattle.driver_core.proofs.machine.Driver.draws_to_surface.Goals as goal

pub returns-in_default : goal.returns-in_default
returns-in_default c = surface_none c.args.self.now.state c.args.thread (sym c.current_context.ensures ∙ c.in_default.is)

pub returns-in-Some-context_part : goal.returns-in-Some-context_part
returns-in-Some-context_part c =
    let part = c.in-Some-context_part.part in
    ap (λ k. nat_eq k 0) c.framebuffer.ensures ∙ unbound_twice part.bound.framebuffer
    ∙ surface_by c.args.self.now.state c.args.thread c.in-Some.context (Some part) (sym c.current_context.ensures ∙ c.in-Some.is) (sym c.in-Some-context_part.is ∙ c.context_part.ensures)

pub returns-in-None : goal.returns-in-None
returns-in-None c = surface_by c.args.self.now.state c.args.thread c.in-Some.context None (sym c.current_context.ensures ∙ c.in-Some.is) (sym c.in-None.is ∙ c.context_part.ensures)
