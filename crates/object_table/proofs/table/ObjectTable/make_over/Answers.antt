use Rattle.std.proofs.Common.{◌≡◌, ◌+◌, ◌-◌, [], refl, ap, arith}
use Rattle.object_table.specs.Nodes.{holds_of}
use Rattle.ref_store.specs.Kept.{StoreValue}
use Rattle.object_table.specs.declared.stored.Stored.{Stored}
use Rattle.object_table.proofs.StoreLaws.{length_objects, length_holds}
use Rattle.object_table.proofs.MakeLaws.{MadeOne, held_first_at, leads_over, made_one, vacant_at}
use Rattle.object_table.proofs.table.ObjectTable.make_over.Goals as goal

pub put_new-requires : goal.put_new-requires
put_new-requires c =
    let l = leads_over c.self.inside.next c.self.inside.store.nodes c.args.first c.self.invariant.below (rw (← c.self.view_is) at c.requires.leads) in
    record {
      number = omega (arith, c.self.invariant.few, rw (← c.self.view_is) at c.requires.room);
      room = omega (arith, rw (← c.self.view_is) at c.requires.room);
      vacant = vacant_at c.self.inside.store.nodes c.self.inside.next c.self.inside.next c.self.invariant.below (omega arith);
      stored = λ n h. (l n h).0;
      below = λ n h. (l n h).1;
      all_in = c.self.invariant.all_in;
    }

pub hold-requires : goal.hold-requires
hold-requires c = rw c.put_new.ensures.adds.added (record { stored = refl; room = omega arith; all_in = c.put_new.ensures.all_in })

made : (c : goal.After-self-1) → MadeOne c.self.inside.next c.self.inside.store.room (c.self.inside.next + 1) c.self.inside.store.nodes c.hold.new.self.nodes c.args.first
made c = made_one c.self.inside.next c.self.inside.store.room (c.self.inside.next + 1) c.self.inside.store.nodes c.put_new.new.self.nodes c.hold.new.self.nodes _ refl c.self.invariant (rw (← c.self.view_is) at c.requires.room) c.put_new.ensures.adds c.put_new.ensures.counted (ap (λ (v : StoreValue Stored). v.nodes) c.hold.ensures.value) c.hold.ensures.counted c.hold.ensures.all_in c.names_apart.ensures

left : (c : goal.After-self-1) → c.hold.new.self.room ≡ c.self.inside.store.room - 1
left c = omega (arith, ap (λ (v : StoreValue Stored). v.room) c.hold.ensures.value, c.put_new.ensures.room)

pub invariant_of-self : goal.invariant_of-self
invariant_of-self c = rw (left c) (made c).counted

pub returns : goal.returns
returns c = rw (← c.self.view_is) (record { objects = (made c).objects; held = λ roots h. rw ((made c).holds, length_objects c.self.inside.next c.self.inside.store.nodes) (held_first_at c.self.inside.next roots (holds_of c.self.inside.next c.self.inside.store.nodes) [] (length_holds c.self.inside.next c.self.inside.store.nodes) (λ n. refl) h) })
