use Rattle.std.proofs.Common.{◌≡◌, List, [], ◌∷◌, OnOk, subst}
use Rattle.egl_calls.specs.Calls.{CallValue}
use Rattle.egl_names.specs.declared.codes.TheConstants.{GL_SCISSOR_TEST, GL_TEXTURE_2D}
use Rattle.sprite_scene.specs.Calls.{context_calls, enable, replace}
use Rattle.sprite_scene.proofs.Pushes.{four_pushed}
use Rattle.sprite_scene.proofs.call_lists.Calls.push_opening.Goals as goal

pub returns : goal.returns
returns c =
    let P : List CallValue → Type 0 = λ cs. OnOk c.push_gl-2.result (c.push_gl-2.new.self ≡ cs) in
    subst P
    (four_pushed c.args.self.now c.push_context.new.self c.push_fixed.new.self c.push_gl.new.self (context_calls c.args.w c.args.h) (replace ∷ []) (enable GL_TEXTURE_2D ∷ []) (enable GL_SCISSOR_TEST ∷ [])
    c.in_ok-push_context.ensures c.in_ok-push_fixed.ensures c.in_ok-push_gl.ensures)
    c.push_gl-2.ensures
