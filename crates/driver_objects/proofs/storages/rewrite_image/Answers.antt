use Rattle.std.proofs.Common.{◌∙◌, sym}
use Rattle.driver_objects.proofs.ImageLaws.{rewritten_owned}
use Rattle.driver_objects.proofs.storages.rewrite_image.Goals as goal

pub returns-else-frozen-clause-ok : goal.returns-else-frozen-clause-ok
returns-else-frozen-clause-ok c = rewritten_owned c.args.call.now c.args.align c.args.image.now c.tex_sub_image.new.into (sym c.is_owned-frozen.ensures ∙ c.if-frozen.false) c.in_ok-tex_sub_image.ensures.ok
