use Rattle.std.proofs.Common.{◌≡◌}
use Rattle.object_table.proofs.ChangeLaws.{Keeps, buffer_keeps, was_out}
use Rattle.object_table.proofs.buffers.put_contents_at.Goals as goal

pub put_node-requires-clause-same : goal.put_node-requires-clause-same
put_node-requires-clause-same c was h =
    let e : c.take_node-stored.result ≡ was = was_out c.args.store.now c.take_node-stored.new.self c.args.n was c.take_node-stored.result c.take_node-stored.ensures.node c.take_node-stored.ensures.value h in
    let k : Keeps c.take_node-stored.result.object c.put_contents_in.new.object = buffer_keeps _ c.take_node-stored.result.object c.put_contents_in.new.object c.put_contents_in.ensures in
    rw (← e) (k.rank, k.edges)
