use Rattle.std.proofs.Common.{◌∙◌, ap}
use Rattle.std.specs.Map.{keys_of}
use Rattle.fence_sync.proofs.ContextLaws.{is_gone, keys_removed}
use Rattle.fence_sync.proofs.tables.forget.Goals as goal

pub returns-clause-left : goal.returns-clause-left
returns-clause-left c = ap keys_of c.remove.ensures.entries ∙ keys_removed c.args.contexts.now.entries c.args.context

pub returns-clause-gone : goal.returns-clause-gone
returns-clause-gone c = is_gone c.remove.new.self.entries c.args.context c.remove.ensures.updates.1
