use Rattle.std.proofs.Common.{◌≡◌, refl, sym, true, false, ◌∙◌}
use Rattle.std.specs.Option.{option_and_then}
use Rattle.std.specs.Prelude.{is_some}
use Rattle.egl_model.specs.Objects.{texture_in}
use Rattle.egl_model.specs.Textures.{storage_at}
use Rattle.object_table.proofs.ImageLaws.{level_left, level_same, level_there}
use Rattle.object_table.proofs.LevelLaws.{when_ok}
use Rattle.object_table.proofs.table.ObjectTable.drop_level.Goals as goal

pub returns-then-is_some-clause-objects : goal.returns-then-is_some-clause-objects
returns-then-is_some-clause-objects g c =
    let h : is_some (option_and_then (storage_at c.args.level) (texture_in c.args.self.now.objects c.args.n)) ≡ true = rw (← c.level.ensures) (sym c.is_some.ensures ∙ c.if-is_some.true) in
    level_left c.args.self.now.objects c.link.new.self.objects c.args.n c.args.level (level_there _ c.args.level h) (when_ok c.link.result (c.link.ensures.cleared refl) c.link.ensures.objects)

pub returns-else-is_some-clause-objects : goal.returns-else-is_some-clause-objects
returns-else-is_some-clause-objects g c =
    let h : is_some (option_and_then (storage_at c.args.level) (texture_in c.args.self.now.objects c.args.n)) ≡ false = rw (← c.level.ensures) (sym c.is_some.ensures ∙ c.if-is_some.false) in
    level_same c.args.self.now.objects c.args.n c.args.level h
