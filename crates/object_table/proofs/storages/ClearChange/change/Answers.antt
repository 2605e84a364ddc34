use Rattle.object_table.proofs.ChangeLaws.{when_ok_is}
use Rattle.object_table.proofs.storages.ClearChange.change.Goals as goal

pub returns-clause-object : goal.returns-clause-object
returns-clause-object c = when_ok_is c.clear_in.result _ c.args.object.now c.clear_in.new.object c.clear_in.ensures.ok c.clear_in.ensures.err
