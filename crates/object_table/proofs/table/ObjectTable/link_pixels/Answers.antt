use Rattle.std.proofs.Common.{sym, ◌∙◌}
use Rattle.object_table.proofs.LevelLaws.{fixed_there, level_left, pixels_same, renderbuffer_fixed, renderbuffer_left, when_ok}
use Rattle.object_table.proofs.table.ObjectTable.link_pixels.Goals as goal

pub returns-then-is_texture-clause-objects : goal.returns-then-is_texture-clause-objects
returns-then-is_texture-clause-objects g c =
    let h = sym c.is_texture.ensures ∙ c.if-is_texture.true in
    level_left c.args.self.now.objects c.link.new.self.objects c.args.n c.args.level c.args.target h
    (when_ok c.link.result (c.link.ensures.fixed (fixed_there _ c.args.level h)) c.link.ensures.objects)

pub returns-then-is_renderbuffer-clause-objects : goal.returns-then-is_renderbuffer-clause-objects
returns-then-is_renderbuffer-clause-objects g c =
    let h = sym c.is_renderbuffer.ensures ∙ c.if-is_renderbuffer.true in
    renderbuffer_left c.args.self.now.objects c.link-then-is_renderbuffer.new.self.objects c.args.n c.args.level c.args.target h
    (when_ok c.link-then-is_renderbuffer.result (c.link-then-is_renderbuffer.ensures.fixed (renderbuffer_fixed _ h)) c.link-then-is_renderbuffer.ensures.objects)

pub returns-else-is_renderbuffer-clause-objects : goal.returns-else-is_renderbuffer-clause-objects
returns-else-is_renderbuffer-clause-objects g c = pixels_same c.args.self.now.objects c.args.n c.args.level c.args.target (sym c.is_texture.ensures ∙ c.if-is_texture.false) (sym c.is_renderbuffer.ensures ∙ c.if-is_renderbuffer.false)
