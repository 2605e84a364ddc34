use Rattle.std.proofs.Common.{◌∙◌, ap, refl, sym, subst, Option}
use Rattle.egl_calls.specs.Calls.{CallValue}
use Rattle.egl_model.specs.State.{State}
use Rattle.egl_model.specs.Step.{Stepped}
use Rattle.model_laws.proofs.Parts.LateDraws.{late_has_context, late_refused}
use Rattle.driver_core.specs.LateDraws.{IsLeft, drawn_late}
use Rattle.driver_core.specs.Machine.{Machine}
use Rattle.driver_core.specs.declared.drawings.Drawing.{Drawing}
use Rattle.driver_core.proofs.LateLaws.{late_done, left_outside, left_state}
use Rattle.driver_core.proofs.machine.Driver.step_late_draw.Goals as goal

pub unreachable-requires-in_default-current_context : goal.unreachable-requires-in_default-current_context
unreachable-requires-in_default-current_context c = late_has_context c.args.self.now.state c.args.thread c.args.call.now c.requires.late (sym c.current_context.ensures ∙ c.in_default-current_context.is)

pub returns-in-Some-gl_refusal-clause-reply : goal.returns-in-Some-gl_refusal-clause-reply
returns-in-Some-gl_refusal-clause-reply c =
    let kind = ap (λ (v : CallValue). v.kind) (sym c.call.view_is) ∙ c.in-Gl.is in
    let refused = late_refused c.args.self.now.state c.args.thread c.in-Some.context c.in-Gl.kind c.args.call.now c.in-Some-gl_refusal.error kind (sym c.current_context.ensures ∙ c.in-Some.is) c.requires.late (sym c.gl_refusal.ensures ∙ c.in-Some-gl_refusal.is) in
    c.undrawn.ensures.reply ∙ c.bare.ensures ∙ sym (ap (λ (x : Stepped). x.reply) refused)

pub returns-in-Some-gl_refusal-clause-state : goal.returns-in-Some-gl_refusal-clause-state
returns-in-Some-gl_refusal-clause-state c =
    let kind = ap (λ (v : CallValue). v.kind) (sym c.call.view_is) ∙ c.in-Gl.is in
    let refused = late_refused c.args.self.now.state c.args.thread c.in-Some.context c.in-Gl.kind c.args.call.now c.in-Some-gl_refusal.error kind (sym c.current_context.ensures ∙ c.in-Some.is) c.requires.late (sym c.gl_refusal.ensures ∙ c.in-Some-gl_refusal.is) in
    ap (λ (x : Stepped). x.state) refused ∙ sym (ap (λ (m : Machine). m.state) c.note_error.ensures) ∙ ap (drawn_late c.note_error.new.self.state c.args.thread) (sym c.undrawn.ensures.drawing)

pub returns-in-Some-gl_refusal-clause-left : goal.returns-in-Some-gl_refusal-clause-left
returns-in-Some-gl_refusal-clause-left c =
    let kind = ap (λ (v : CallValue). v.kind) (sym c.call.view_is) ∙ c.in-Gl.is in
    let refused = late_refused c.args.self.now.state c.args.thread c.in-Some.context c.in-Gl.kind c.args.call.now c.in-Some-gl_refusal.error kind (sym c.current_context.ensures ∙ c.in-Some.is) c.requires.late (sym c.gl_refusal.ensures ∙ c.in-Some-gl_refusal.is) in
    subst (λ (o : Option Drawing). IsLeft c.args.self.now c.args.thread c.args.call.now o c.note_error.new.self) (sym c.undrawn.ensures.drawing)
    (c.note_error.ensures ∙ ap (λ (s : State). record c.args.self.now { state = s }) (sym (ap (λ (x : Stepped). x.state) refused)))

pub returns-in_ok-drawing-in-None-clause-reply : goal.returns-in_ok-drawing-in-None-clause-reply
returns-in_ok-drawing-in-None-clause-reply c =
    let kind = ap (λ (v : CallValue). v.kind) (sym c.call.view_is) ∙ c.in-Gl.is in
    let done = late_done c.args.self.now.state c.args.thread c.in-Some.context c.in-Gl.kind c.args.call.now c.settled.ensures kind (sym c.current_context.ensures ∙ c.in-Some.is) c.requires.late (sym c.gl_refusal.ensures ∙ c.in-None.is) in
    c.bare-reply.ensures ∙ sym (ap (λ (x : Stepped). x.reply) done)

pub returns-in_ok-drawing-in-None-clause-state : goal.returns-in_ok-drawing-in-None-clause-state
returns-in_ok-drawing-in-None-clause-state c =
    let kind = ap (λ (v : CallValue). v.kind) (sym c.call.view_is) ∙ c.in-Gl.is in
    let done = late_done c.args.self.now.state c.args.thread c.in-Some.context c.in-Gl.kind c.args.call.now c.settled.ensures kind (sym c.current_context.ensures ∙ c.in-Some.is) c.requires.late (sym c.gl_refusal.ensures ∙ c.in-None.is) in
    left_state c.args.self.now.state c.args.thread c.args.call.now c.in_ok-drawing-in-None.drawing done c.in_ok-drawing-in-None.ensures.from c.in_ok-drawing-in-None.ensures.rect

pub returns-in_ok-drawing-in-None-clause-left : goal.returns-in_ok-drawing-in-None-clause-left
returns-in_ok-drawing-in-None-clause-left c =
    let kind = ap (λ (v : CallValue). v.kind) (sym c.call.view_is) ∙ c.in-Gl.is in
    let done = late_done c.args.self.now.state c.args.thread c.in-Some.context c.in-Gl.kind c.args.call.now c.settled.ensures kind (sym c.current_context.ensures ∙ c.in-Some.is) c.requires.late (sym c.gl_refusal.ensures ∙ c.in-None.is) in
    (refl, c.requires.late, ap (λ (x : Stepped). x.reply.outcome) done, c.in_ok-drawing-in-None.ensures.from, c.in_ok-drawing-in-None.ensures.rect)

pub returns-in_ok-drawing-in-None-clause-outside : goal.returns-in_ok-drawing-in-None-clause-outside
returns-in_ok-drawing-in-None-clause-outside c =
    let kind = ap (λ (v : CallValue). v.kind) (sym c.call.view_is) ∙ c.in-Gl.is in
    let done = late_done c.args.self.now.state c.args.thread c.in-Some.context c.in-Gl.kind c.args.call.now c.settled.ensures kind (sym c.current_context.ensures ∙ c.in-Some.is) c.requires.late (sym c.gl_refusal.ensures ∙ c.in-None.is) in
    left_outside c.args.self.now c.args.self.now c.args.thread c.args.call.now c.in_ok-drawing-in-None.drawing
    (refl, c.requires.late, ap (λ (x : Stepped). x.reply.outcome) done, c.in_ok-drawing-in-None.ensures.from, c.in_ok-drawing-in-None.ensures.rect)
