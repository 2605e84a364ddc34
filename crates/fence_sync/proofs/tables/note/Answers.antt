use Rattle.std.proofs.Common.{◌∙◌, ap}
use Rattle.std.specs.Map.{keys_of}
use Rattle.fence_sync.proofs.ContextLaws.{keys_inserted}
use Rattle.fence_sync.proofs.tables.note.Goals as goal

pub returns-in-Ok-clause-joined : goal.returns-in-Ok-clause-joined
returns-in-Ok-clause-joined c = ap keys_of c.in-Ok.ensures.entries ∙ keys_inserted c.args.contexts.now.entries c.args.context c.args.from
