use Rattle.std.proofs.Common.{◌≡◌, ◌∙◌, Option, refl, sym, ap, Some}
use Rattle.driver_objects.specs.Storages.{drawn_storage}
use Rattle.driver_objects.specs.declared.objects.Object.{Object}
use Rattle.egl_model.specs.Objects.{as_storage, with_storage}
use Rattle.object_table.specs.Memory.{is_own_in}
use Rattle.object_table.proofs.ChangeLaws.{Keeps, in_place, storage_keeps, stored_object, was_out}
use Rattle.object_table.proofs.storages.draw_at.Goals as goal

pub put_node-requires-clause-same : goal.put_node-requires-clause-same
put_node-requires-clause-same c was h =
    let e : c.take_node-stored.result ≡ was = was_out c.args.store.now c.take_node-stored.new.self c.args.n was c.take_node-stored.result c.take_node-stored.ensures.node c.take_node-stored.ensures.value h in
    let k : Keeps c.take_node-stored.result.object c.draw_in.new.object = storage_keeps (drawn_storage c.args.part.now _ c.args.rect) c.take_node-stored.result.object c.draw_in.new.object c.in-Ok.ensures.ok in
    rw (← e) (k.rank, k.edges)

pub put_node-requires-in-Err-clause-same : goal.put_node-requires-in-Err-clause-same
put_node-requires-in-Err-clause-same c was h =
    let e : c.take_node-stored.result ≡ was = was_out c.args.store.now c.take_node-stored.new.self c.args.n was c.take_node-stored.result c.take_node-stored.ensures.node c.take_node-stored.ensures.value h in
    rw (← e) (rw c.in-Err.ensures.err (refl, refl))

pub returns-in-Ok-clause-ok : goal.returns-in-Ok-clause-ok
returns-in-Ok-clause-ok c = in_place c.args.store.now c.take_node-stored.new.self c.put_node.new.self c.args.n c.take_node-stored.result _ (with_storage (drawn_storage c.args.part.now _ c.args.rect)) c.take_node-stored.ensures.node c.take_node-stored.ensures.value c.put_node.ensures.value c.take_node-stored.ensures.counts c.put_node.ensures.counts c.put_node.ensures.all_in c.in-Ok.ensures.ok

pub returns-in-Err-clause-err : goal.returns-in-Err-clause-err
returns-in-Err-clause-err c = in_place c.args.store.now c.take_node-stored.new.self c.put_node-in-Err.new.self c.args.n c.take_node-stored.result _ (λ o. o) c.take_node-stored.ensures.node c.take_node-stored.ensures.value c.put_node-in-Err.ensures.value c.take_node-stored.ensures.counts c.put_node-in-Err.ensures.counts c.put_node-in-Err.ensures.all_in (ap Some c.in-Err.ensures.err)

pub returns-in-Err-clause-room : goal.returns-in-Err-clause-room
returns-in-Err-clause-room c = λ h. c.in-Err.ensures.room (ap (λ (o : Option Object). is_own_in (as_storage o)) (sym (stored_object c.args.store.now c.args.n c.take_node-stored.result c.take_node-stored.ensures.node)) ∙ h)
