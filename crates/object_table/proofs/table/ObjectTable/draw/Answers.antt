use Rattle.std.proofs.Common.{refl}
use Rattle.std.specs.Option.{option_map}
use Rattle.rect_pipeline.specs.Samplers.{sampled}
use Rattle.std.proofs.lemmas.List.{set-get_or}
use Rattle.driver_objects.specs.Storages.{drawn_storage}
use Rattle.egl_model.specs.Objects.{with_storage, change_storage}
use Rattle.object_table.specs.Changes.{ChangesOne}
use Rattle.object_table.proofs.ChangeLaws.{Changes, changes, same_apart, storage_apart, on_ok, on_err}
use Rattle.object_table.proofs.StoreLaws.{object_at}
use Rattle.object_table.proofs.table.ObjectTable.draw.Goals as goal

pub returns-clause-ok : goal.returns-clause-ok
unfolding change_storage
returns-clause-ok c = on_ok c.draw_at.result (λ (e : ChangesOne c.self.inside.store c.args.n (with_storage (drawn_storage c.args.part.now (option_map (λ s. sampled s.image.now s.texture.now s.base_w s.base_h) c.args.from) c.args.rect)) c.draw_at.new.store).
    let d : Changes c.self.inside.next c.self.inside.store c.draw_at.new.store c.args.n (with_storage (drawn_storage c.args.part.now (option_map (λ s. sampled s.image.now s.texture.now s.base_w s.base_h) c.args.from) c.args.rect)) = changes c.self.inside.next c.self.inside.store c.draw_at.new.store c.args.n (with_storage (drawn_storage c.args.part.now (option_map (λ s. sampled s.image.now s.texture.now s.base_w s.base_h) c.args.from) c.args.rect)) c.self.invariant (storage_apart _) refl e in
    rw (← c.self.view_is) (rw (d.objects, d.holds, d.room) refl)) c.draw_at.ensures.ok

pub returns-clause-err : goal.returns-clause-err
returns-clause-err c = on_err c.draw_at.result (λ (e : ChangesOne c.self.inside.store c.args.n (λ o. o) c.draw_at.new.store).
    let d : Changes c.self.inside.next c.self.inside.store c.draw_at.new.store c.args.n (λ o. o) = changes c.self.inside.next c.self.inside.store c.draw_at.new.store c.args.n (λ o. o) c.self.invariant same_apart refl e in
    rw (← c.self.view_is) (rw (d.objects, d.holds, d.room, set-get_or) refl)) c.draw_at.ensures.err

pub returns-clause-room : goal.returns-clause-room
returns-clause-room c = rw (← c.self.view_is) (rw (object_at c.self.inside.next c.self.inside.store.nodes c.self.invariant.below c.args.n) c.draw_at.ensures.room)
