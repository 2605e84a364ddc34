use Rattle.std.proofs.Common.{◌≡◌, true, ap, subst, sym, ◌∙◌, IfOk, OnOk}
use Rattle.std.specs.Prelude.{IsOk}
use Rattle.egl_calls.specs.Calls.{CallValue}
use Rattle.egl_calls.specs.declared.kinds.Kind.{Kind}
use Rattle.egl_model.specs.Step.{Stepped}
use Rattle.driver_facts.specs.Memory.{is_bare}
use Rattle.driver_core.proofs.UploadLaws.{upload_step}
use Rattle.driver_core.proofs.machine.Driver.step_in_with_upload.Goals as goal

pub returns-clause-reply : goal.returns-clause-reply
returns-clause-reply g c =
    let kind = ap (λ (v : CallValue). v.kind) (sym c.call.view_is) ∙ c.in-Gl.is in
    let is = upload_step c.args.self.now.state c.args.thread c.in-Gl.kind c.args.call.now c.args.upload kind c.requires.upload in
    subst (λ (x : Stepped). IfOk c.gl_step_with_upload.result (λ r. g.R.Replies.reply r ≡ x.reply)) (sym is) c.gl_step_with_upload.ensures.reply

pub returns-clause-state : goal.returns-clause-state
returns-clause-state g c =
    let kind = ap (λ (v : CallValue). v.kind) (sym c.call.view_is) ∙ c.in-Gl.is in
    let is = upload_step c.args.self.now.state c.args.thread c.in-Gl.kind c.args.call.now c.args.upload kind c.requires.upload in
    subst (λ (x : Stepped). OnOk c.gl_step_with_upload.result (c.gl_step_with_upload.new.self ≡ record c.args.self.now { state = x.state })) (sym is) c.gl_step_with_upload.ensures.state

pub returns-clause-bare : goal.returns-clause-bare
returns-clause-bare g c =
    let kind = ap (λ (v : CallValue). v.kind) (sym c.call.view_is) ∙ c.in-Gl.is in
    subst (λ (z : Kind). is_bare c.args.self.now.state c.args.thread z c.args.call.now ≡ true → IsOk c.gl_step_with_upload.result) (sym kind) c.gl_step_with_upload.ensures.bare
