use Rattle.object_table.proofs.ChangeLaws.{when_ok_is}
use Rattle.object_table.proofs.storages.RewriteChange.change.Goals as goal

pub returns-clause-object : goal.returns-clause-object
returns-clause-object c = when_ok_is c.rewrite_in.result _ c.args.object.now c.rewrite_in.new.object c.rewrite_in.ensures.ok c.rewrite_in.ensures.err
