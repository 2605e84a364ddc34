use Rattle.std.proofs.Common.{◌∙◌, sym}
use Rattle.driver_objects.proofs.ImageLaws.{copied_owned}
use Rattle.driver_objects.proofs.storages.recopy_image.Goals as goal

pub returns-else-frozen-clause-ok : goal.returns-else-frozen-clause-ok
returns-else-frozen-clause-ok c = copied_owned c.args.x c.args.y c.args.from.now c.args.rect c.args.image.now c.copy_tex.new.into (sym c.is_owned-frozen.ensures ∙ c.if-frozen.false) c.in_ok-copy_tex.ensures.ok
