use Rattle.std.proofs.Common.{◌≡◌, List, [], ◌∷◌, ◌++◌, OnOk, ap, ◌∙◌, subst}
use Rattle.egl_calls.specs.Calls.{CallValue}
use Rattle.egl_names.specs.declared.codes.TheConstants.{GL_TEXTURE_MAG_FILTER, GL_TEXTURE_MIN_FILTER}
use Rattle.sprite_scene.specs.Calls.{bind_texture, set_nearest, tex_image}
use Rattle.sprite_scene.proofs.Pushes.{four_pushed}
use Rattle.sprite_scene.proofs.call_lists.Calls.push_texture.Goals as goal

pub returns : goal.returns
returns c =
    let P : List CallValue → Type 0 = λ cs. OnOk c.push.result (c.push.new.self ≡ cs) in
    subst P
    (ap (λ (i : CallValue). c.push_nearest-2.new.self ++ i ∷ []) c.image.ensures
    ∙ four_pushed c.args.self.now c.push_bind.new.self c.push_nearest.new.self c.push_nearest-2.new.self (bind_texture c.args.name ∷ []) (set_nearest GL_TEXTURE_MIN_FILTER ∷ []) (set_nearest GL_TEXTURE_MAG_FILTER ∷ []) (tex_image c.args.w c.args.h c.args.texels ∷ [])
    c.in_ok-push_bind.ensures c.in_ok-push_nearest.ensures c.in_ok-push_nearest-2.ensures)
    c.push.ensures
