use Rattle.std.proofs.Common.{Some, sym, ◌∙◌}
use Rattle.object_table.proofs.ImageLaws.{other_image, texture_image}
use Rattle.object_table.proofs.table.ObjectTable.link_image.Goals as goal

pub returns-then-has_levels-clause-objects : goal.returns-then-has_levels-clause-objects
returns-then-has_levels-clause-objects g c = texture_image c.args.self.now.objects c.link_pixels.new.self.objects c.drop_levels.new.self.objects c.args.n (Some c.args.storage) (sym c.is_texture-has_levels.ensures ∙ c.if-has_levels.true) c.link_pixels.ensures.objects c.drop_levels.ensures.objects

pub returns-else-has_levels-clause-objects : goal.returns-else-has_levels-clause-objects
returns-else-has_levels-clause-objects g c = other_image c.args.self.now.objects c.link_pixels.new.self.objects c.args.n (Some c.args.storage) (sym c.is_texture-has_levels.ensures ∙ c.if-has_levels.false) c.link_pixels.ensures.objects
