use Rattle.std.proofs.Common.{Option, refl, subst}
use Rattle.std.specs.Prelude.{IfSome}
use Rattle.driver_objects.specs.declared.objects.Object.{Object}
use Rattle.egl_model.specs.Objects.{as_storage}
use Rattle.object_table.proofs.StoreLaws.{object_at}
use Rattle.pixel_rows.specs.Rects.{IsInside}
use Rattle.texture_objects.specs.Uploads.{part_rect}
use Rattle.std.proofs.lemmas.List.{set-get_or}
use Rattle.driver_objects.specs.Storages.{rewritten_storage}
use Rattle.egl_model.specs.Objects.{with_storage, change_storage}
use Rattle.object_table.specs.Changes.{ChangesOne}
use Rattle.object_table.proofs.ChangeLaws.{Changes, changes, same_apart, storage_apart, on_ok, on_err, when_err_changes, when_ok_changes, when_ok_counts}
use Rattle.object_table.proofs.table.ObjectTable.rewrite.Goals as goal

pub edit_at-requires-clause-may : goal.edit_at-requires-clause-may
edit_at-requires-clause-may c = (c.requires.kind, c.requires.form, subst (λ (o : Option Object). IfSome (as_storage o) (λ v. IsInside (part_rect c.args.call.now) v.width v.height)) (object_at c.self.inside.next c.self.inside.store.nodes c.self.invariant.below c.args.n) (rw (← c.self.view_is) at c.requires.inside), c.requires.alignment)

pub returns-clause-ok : goal.returns-clause-ok
unfolding change_storage
returns-clause-ok c = on_ok c.edit_at.result (λ (e : ChangesOne c.self.inside.store c.args.n (with_storage (rewritten_storage c.args.call.now c.args.align)) c.edit_at.new.store).
    let d : Changes c.self.inside.next c.self.inside.store c.edit_at.new.store c.args.n (with_storage (rewritten_storage c.args.call.now c.args.align)) = changes c.self.inside.next c.self.inside.store c.edit_at.new.store c.args.n (with_storage (rewritten_storage c.args.call.now c.args.align)) c.self.invariant (storage_apart _) refl e in
    rw (← c.self.view_is) (rw (d.objects, d.holds, d.room) refl)) (when_ok_changes c.edit_at.result c.self.inside.store c.edit_at.new.store c.args.n (with_storage (rewritten_storage c.args.call.now c.args.align)) c.edit_at.ensures.object)

pub returns-clause-err : goal.returns-clause-err
returns-clause-err c = on_err c.edit_at.result (λ (e : ChangesOne c.self.inside.store c.args.n (λ o. o) c.edit_at.new.store).
    let d : Changes c.self.inside.next c.self.inside.store c.edit_at.new.store c.args.n (λ o. o) = changes c.self.inside.next c.self.inside.store c.edit_at.new.store c.args.n (λ o. o) c.self.invariant same_apart refl e in
    rw (← c.self.view_is) (rw (d.objects, d.holds, d.room, set-get_or) refl)) (when_err_changes c.edit_at.result c.self.inside.store c.edit_at.new.store c.args.n (with_storage (rewritten_storage c.args.call.now c.args.align)) c.edit_at.ensures.object)

pub invariant_of-self : goal.invariant_of-self
invariant_of-self c = when_ok_counts c.edit_at.result c.self.inside.next c.self.inside.store c.edit_at.new.store c.args.n (with_storage (rewritten_storage c.args.call.now c.args.align)) c.self.invariant (storage_apart _) refl c.edit_at.ensures.object
