use Rattle.std.proofs.Common.{◌∙◌, sym}
use Rattle.driver_objects.proofs.ImageLaws.{kept_owned}
use Rattle.driver_objects.proofs.storages.clear_image.Goals as goal

pub returns-else-frozen-clause-ok : goal.returns-else-frozen-clause-ok
returns-else-frozen-clause-ok c = kept_owned c.args.part.now c.args.image.now c.clear.new.target (sym c.is_owned-frozen.ensures ∙ c.if-frozen.false) c.in_ok-clear.ensures.ok
