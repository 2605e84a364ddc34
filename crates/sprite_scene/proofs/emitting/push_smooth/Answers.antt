use Rattle.std.proofs.Common.{◌≡◌, List, [], ◌∷◌, ◌++◌, OnOk, Some, ap, ◌∙◌, subst}
use Rattle.egl_calls.specs.Calls.{CallValue}
use Rattle.scene_reader.specs.Items.{least_power}
use Rattle.sprite_scene.specs.Calls.{crop, draw_tex, new_texture, smooth_texels}
use Rattle.sprite_scene.proofs.Pushes.{texture_is, three_pushed}
use Rattle.sprite_scene.proofs.emitting.push_smooth.Goals as goal

pub returns : goal.returns
returns c =
    let s = c.args.drawn.now in
    let old = c.args.calls.now in
    let w = least_power s.width in
    let h = least_power s.height in
    let texels = smooth_texels (Some c.args.atlas.now) s in
    let P : List CallValue → Type 0 = λ cs. OnOk c.push_draw.result (c.push_draw.new.self ≡ cs) in
    let texture = texture_is c.args.name _ w _ h _ texels c.least_power.ensures c.least_power-2.ensures (c.in_ok-texels.ensures ∙ c.in_ok-smooth_texels.ensures) in
    subst P
    (three_pushed old c.push_texture.new.self c.push_crop.new.self (new_texture c.args.name w h texels) (crop 0 0 s.width s.height ∷ []) (draw_tex s ∷ [])
    (c.in_ok-push_texture.ensures ∙ ap (λ (cs : List CallValue). old ++ cs) texture) c.in_ok-push_crop.ensures)
    c.push_draw.ensures
