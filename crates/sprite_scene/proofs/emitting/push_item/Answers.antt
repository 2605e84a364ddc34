use Rattle.std.proofs.Common.{◌≡◌, List, ◌++◌, Bor, OnOk, Option, Some, sym, ap, ◌∙◌, subst}
use Rattle.std.specs.Option.{option_map}
use Rattle.egl_calls.specs.Calls.{CallValue}
use Rattle.scene_reader.specs.Items.{is_item}
use Rattle.scene_reader.specs.declared.items.Atlas.{Atlas}
use Rattle.sprite_scene.specs.Calls.{item_calls, new_texture, smooth_calls, smooth_name}
use Rattle.sprite_scene.proofs.ItemFacts.{smooth_fits, sprite_item}
use Rattle.sprite_scene.proofs.emitting.push_item.Goals as goal

pub push_draw-requires-clause-y : goal.push_draw-requires-clause-y
push_draw-requires-clause-y c =
    let before = c.args.before.now in
    (sprite_item before c.in-Sprite.drawn (ap (is_item before) (sym c.in-Sprite.is) ∙ c.requires.item)).y

pub push_smooth-requires-clause-part : goal.push_smooth-requires-clause-part
push_smooth-requires-clause-part c =
    let before = c.args.before.now in
    smooth_fits before c.in-Smooth.drawn c.in-Some.atlas.now c.requires.items (ap (is_item before) (sym c.in-Smooth.is) ∙ c.requires.item)
    (sym c.atlas_with.ensures ∙ ap (option_map (λ (a : Bor Atlas). a.now)) c.in-Some.is)

pub push_smooth-requires-clause-y : goal.push_smooth-requires-clause-y
push_smooth-requires-clause-y c =
    let before = c.args.before.now in
    (sprite_item before c.in-Smooth.drawn (ap (is_item before) (sym c.in-Smooth.is) ∙ c.requires.item)).y

pub returns-in_ok-share-in-Atlas : goal.returns-in_ok-share-in-Atlas
returns-in_ok-share-in-Atlas c =
    let P : List CallValue → Type 0 = λ cs. OnOk c.push_texture.result (c.push_texture.new.self ≡ cs) in
    let a = c.in-Atlas.atlas in
    let item = item_calls c.args.w c.args.h c.args.before.now in
    subst P (ap (λ (cs : List CallValue). c.args.calls.now ++ cs) (ap (new_texture a.id a.width a.height) c.in_ok-share-in-Atlas.ensures ∙ ap item (sym c.in-Atlas.is))) c.push_texture.ensures

pub returns-in-Some : goal.returns-in-Some
returns-in-Some c =
    let P : List CallValue → Type 0 = λ cs. OnOk c.push_smooth.result (c.push_smooth.new.calls ≡ cs) in
    let before = c.args.before.now in
    let s = c.in-Smooth.drawn in
    let found = sym (ap (option_map (λ (a : Bor Atlas). a.now)) c.in-Some.is) ∙ c.atlas_with.ensures in
    subst P
    (ap (λ (cs : List CallValue). c.args.calls.now ++ cs)
    (ap (λ (o : Option Atlas). smooth_calls (smooth_name before) o s) found ∙ ap (item_calls c.args.w c.args.h before) (sym c.in-Smooth.is)))
    c.push_smooth.ensures
