use Rattle.std.proofs.Common.{ap, sym, ◌∙◌, Some}
use Rattle.egl_model.specs.Effects.{Effect}
use Rattle.egl_model.specs.State.{State}
use Rattle.egl_model.specs.Step.{done}
use Rattle.egl_model.specs.Sweep.{sweep}
use Rattle.egl_model.specs.Textures.{specified, target_texture}
use Rattle.thread_part.specs.declared.uploads.Upload.{Upload}
use Rattle.driver_core.specs.Machine.{Machine}
use Rattle.driver_core.proofs.UploadLaws.{contents_effect, pixels_effect, pixels_level}
use Rattle.driver_core.proofs.machine.Driver.give_upload.Goals as goal

pub give_level-requires : goal.give_level-requires
give_level-requires g c = record { level = rw c.number.ensures (pixels_level c.args.self.now.state c.args.thread c.args.call.now c.in-Pixels.storage (c.requires.upload ∙ ap (λ (u : Upload). Some u) c.in-Pixels.is)) }

pub returns-in_ok-give_level-in-Pixels-clause-reply : goal.returns-in_ok-give_level-in-Pixels-clause-reply
returns-in_ok-give_level-in-Pixels-clause-reply g c =
    let e = pixels_effect c.args.self.now.state c.args.thread c.args.context c.args.kind c.args.call.now c.in-Pixels.storage c.requires.kind c.requires.current (c.requires.upload ∙ ap (λ (u : Upload). Some u) c.in-Pixels.is) in
    c.valued.ensures ∙ sym (ap (λ (x : Effect). done x) e)

pub returns-in_ok-give_level-in-Pixels-clause-state : goal.returns-in_ok-give_level-in-Pixels-clause-state
returns-in_ok-give_level-in-Pixels-clause-state g c =
    let s = c.args.self.now.state in
    let v = c.in-Pixels.storage in
    let e = pixels_effect s c.args.thread c.args.context c.args.kind c.args.call.now v c.requires.kind c.requires.current (c.requires.upload ∙ ap (λ (u : Upload). Some u) c.in-Pixels.is) in
    c.in_ok-give_level-in-Pixels.ensures.state
    ∙ ap (λ l. record c.args.self.now { state = sweep (specified l (Some v) (target_texture s c.args.context) s) }) c.number.ensures
    ∙ sym (ap (λ (x : Effect). record c.args.self.now { state = sweep x.state }) e)

pub returns-in-Contents-clause-reply : goal.returns-in-Contents-clause-reply
returns-in-Contents-clause-reply g c =
    let e = contents_effect c.args.self.now.state c.args.thread c.args.context c.args.kind c.args.call.now c.in-Contents.contents c.requires.kind (c.requires.upload ∙ ap (λ (u : Upload). Some u) c.in-Contents.is) in
    c.valued-in-Contents.ensures ∙ sym (ap (λ (x : Effect). done x) e)

pub returns-in-Contents-clause-state : goal.returns-in-Contents-clause-state
returns-in-Contents-clause-state g c =
    let e = contents_effect c.args.self.now.state c.args.thread c.args.context c.args.kind c.args.call.now c.in-Contents.contents c.requires.kind (c.requires.upload ∙ ap (λ (u : Upload). Some u) c.in-Contents.is) in
    let st = ap (λ (m : Machine). m.state) c.put_contents.ensures in
    c.put_contents.ensures
    ∙ ap (λ (x : State). record c.args.self.now { state = x }) (sym st ∙ sym c.settled.ensures ∙ ap sweep st ∙ sym (ap (λ (x : Effect). sweep x.state) e))
