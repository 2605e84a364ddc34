use Rattle.std.proofs.Common.{refl}
use Rattle.egl_model.specs.Objects.{with_texture, change_texture}
use Rattle.egl_model.specs.Textures.{with_value}
use Rattle.egl_model.specs.Arguments.{number}
use Rattle.object_table.proofs.ChangeLaws.{Changes, changes, texture_apart}
use Rattle.object_table.proofs.table.ObjectTable.set_parameter.Goals as goal

pub returns : goal.returns
unfolding change_texture
returns c =
    let d : Changes c.self.inside.next c.self.inside.store c.edit_at.new.store c.args.n (with_texture (with_value (number c.args.call.now 1) (number c.args.call.now 2))) = changes c.self.inside.next c.self.inside.store c.edit_at.new.store c.args.n (with_texture (with_value (number c.args.call.now 1) (number c.args.call.now 2))) c.self.invariant (texture_apart _) refl c.edit_at.ensures.object in
    rw (← c.self.view_is) (rw (d.objects, d.holds, d.room) refl)
