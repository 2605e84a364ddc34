use Rattle.std.proofs.Common.{Option, refl, subst}
use Rattle.std.specs.Prelude.{IfSome}
use Rattle.std.proofs.lemmas.List.{set-get_or}
use Rattle.pixel_rows.specs.Rects.{IsInside}
use Rattle.rect_pipeline.specs.Copying.{moved}
use Rattle.driver_objects.specs.Storages.{recopied_storage}
use Rattle.driver_objects.specs.declared.objects.Object.{Object}
use Rattle.egl_model.specs.Objects.{as_storage, change_storage, with_storage}
use Rattle.object_table.specs.Changes.{ChangesOne}
use Rattle.object_table.specs.Copies.{image_under}
use Rattle.object_table.proofs.ChangeLaws.{Changes, changes, same_apart, storage_apart, on_ok, on_err}
use Rattle.object_table.proofs.CopyLaws.{same_pixels}
use Rattle.object_table.proofs.StoreLaws.{object_at}
use Rattle.object_table.proofs.table.ObjectTable.copy.Goals as goal

pub copy_at-requires-clause-inside : goal.copy_at-requires-clause-inside
copy_at-requires-clause-inside c = subst (λ (o : Option Object). IfSome (as_storage o) (λ v. IsInside (moved c.args.rect c.args.x c.args.y) v.width v.height)) (object_at c.self.inside.next c.self.inside.store.nodes c.self.invariant.below c.args.into) (rw (← c.self.view_is) at c.requires.inside)

pub returns-clause-ok : goal.returns-clause-ok
unfolding change_storage
returns-clause-ok c = on_ok c.copy_at.result (λ (e : ChangesOne c.self.inside.store c.args.into (with_storage (recopied_storage c.args.x c.args.y c.args.rect (image_under c.self.inside.store.nodes c.args.from))) c.copy_at.new.store).
    let d : Changes c.self.inside.next c.self.inside.store c.copy_at.new.store c.args.into (with_storage (recopied_storage c.args.x c.args.y c.args.rect (image_under c.self.inside.store.nodes c.args.from))) = changes c.self.inside.next c.self.inside.store c.copy_at.new.store c.args.into (with_storage (recopied_storage c.args.x c.args.y c.args.rect (image_under c.self.inside.store.nodes c.args.from))) c.self.invariant (storage_apart _) refl e in
    rw (← c.self.view_is) (rw (d.objects, d.holds, d.room, same_pixels c.self.inside.next c.self.inside.store.nodes c.self.invariant.below c.args.from) refl)) c.copy_at.ensures.ok

pub returns-clause-err : goal.returns-clause-err
returns-clause-err c = on_err c.copy_at.result (λ (e : ChangesOne c.self.inside.store c.args.into (λ o. o) c.copy_at.new.store).
    let d : Changes c.self.inside.next c.self.inside.store c.copy_at.new.store c.args.into (λ o. o) = changes c.self.inside.next c.self.inside.store c.copy_at.new.store c.args.into (λ o. o) c.self.invariant same_apart refl e in
    rw (← c.self.view_is) (rw (d.objects, d.holds, d.room, set-get_or) refl)) c.copy_at.ensures.err
