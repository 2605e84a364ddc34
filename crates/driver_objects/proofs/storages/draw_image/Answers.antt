use Rattle.std.proofs.Common.{◌∙◌, sym}
use Rattle.std.proofs.lemmas.Int.{to_z-of_z}
use Rattle.driver_objects.proofs.ImageLaws.{drawn_owned, fits}
use Rattle.driver_objects.proofs.storages.draw_image.Goals as goal

pub returns-else-frozen-clause-ok : goal.returns-else-frozen-clause-ok
returns-else-frozen-clause-ok c = drawn_owned c.args.part.now _ c.args.rect c.args.image.now c.draw_tex.new.target (sym c.is_owned-frozen.ensures ∙ c.if-frozen.false) (let a = fits c.args.rect.x c.requires.rect.left in let b = fits c.args.rect.y c.requires.rect.bottom in let d = fits c.args.rect.w c.requires.rect.wide in let e = fits c.args.rect.h c.requires.rect.high in simp to_z-of_z at c.in_ok-draw_tex.ensures.ok)
