use Rattle.std.proofs.Common.{◌≡◌, Some, refl, ap, ◌∙◌}
use Rattle.driver_objects.specs.Storages.{recopied_storage}
use Rattle.egl_model.specs.Objects.{with_storage}
use Rattle.egl_model.specs.Parts.{image_in}
use Rattle.ref_store.specs.Kept.{at}
use Rattle.object_table.specs.Nodes.{object_in}
use Rattle.object_table.proofs.ChangeLaws.{Keeps, in_place, seen_image, storage_keeps, was_out}
use Rattle.object_table.proofs.copies.copy_between.Goals as goal

pub put_node-requires-clause-same : goal.put_node-requires-clause-same
put_node-requires-clause-same c was h =
    let e : c.take_node-stored.result ≡ was = was_out c.args.store.now c.take_node-stored.new.self c.args.into was c.take_node-stored.result c.take_node-stored.ensures.node c.take_node-stored.ensures.value h in
    let k : Keeps c.take_node-stored.result.object c.copy_in.new.object = storage_keeps (recopied_storage c.args.x c.args.y c.args.rect _) c.take_node-stored.result.object c.copy_in.new.object c.in-Ok.ensures.ok in
    rw (← e) (k.rank, k.edges)

pub put_node-requires-in-Err-clause-same : goal.put_node-requires-in-Err-clause-same
put_node-requires-in-Err-clause-same c was h =
    let e : c.take_node-stored.result ≡ was = was_out c.args.store.now c.take_node-stored.new.self c.args.into was c.take_node-stored.result c.take_node-stored.ensures.node c.take_node-stored.ensures.value h in
    rw (← e) (rw c.in-Err.ensures.err (refl, refl))

pub returns-in-Ok-clause-ok : goal.returns-in-Ok-clause-ok
returns-in-Ok-clause-ok c = in_place c.args.store.now c.take_node-stored.new.self c.put_node.new.self c.args.into c.take_node-stored.result _ (with_storage (recopied_storage c.args.x c.args.y c.args.rect (image_in (object_in (at c.args.store.now.nodes c.args.from))))) c.take_node-stored.ensures.node c.take_node-stored.ensures.value c.put_node.ensures.value c.take_node-stored.ensures.counts c.put_node.ensures.counts c.put_node.ensures.all_in
    (c.in-Ok.ensures.ok ∙ ap (λ i. with_storage (recopied_storage c.args.x c.args.y c.args.rect i) (Some c.take_node-stored.result.object)) (c.image_at.ensures ∙ seen_image c.args.store.now c.take_node-stored.new.self c.args.into c.args.from c.requires.apart c.take_node-stored.ensures.value c.requires.all_in))

pub returns-in-Err-clause-err : goal.returns-in-Err-clause-err
returns-in-Err-clause-err c = in_place c.args.store.now c.take_node-stored.new.self c.put_node-in-Err.new.self c.args.into c.take_node-stored.result _ (λ o. o) c.take_node-stored.ensures.node c.take_node-stored.ensures.value c.put_node-in-Err.ensures.value c.take_node-stored.ensures.counts c.put_node-in-Err.ensures.counts c.put_node-in-Err.ensures.all_in (ap Some c.in-Err.ensures.err)
