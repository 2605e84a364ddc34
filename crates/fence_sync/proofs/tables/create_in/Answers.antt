use Rattle.std.proofs.Common.{sym, ◌∙◌}
use Rattle.fence_sync.proofs.ContextLaws.{joins_known, joins_new}
use Rattle.fence_sync.proofs.FenceLaws.{created_known, created_noted, fences_back, has_none, made_back}
use Rattle.fence_sync.proofs.tables.create_in.Goals as goal

pub returns-then-has-clause-created : goal.returns-then-has-clause-created
returns-then-has-clause-created c = created_known _ _ _ c.args.context c.args.made.now c.requires (sym c.has.ensures ∙ c.if-has.true) c.in_ok-add.ensures.added

pub returns-then-has-clause-known : goal.returns-then-has-clause-known
returns-then-has-clause-known c = sym (joins_known c.args.contexts.now.entries c.args.context (sym c.has.ensures ∙ c.if-has.true))

pub returns-in-Ok-clause-created : goal.returns-in-Ok-clause-created
returns-in-Ok-clause-created c = created_noted _ _ _ _ c.args.context c.args.made.now c.in-Ok.ensures.noted (has_none _ (sym c.has.ensures ∙ c.if-has.false)) c.in_ok-add-2.ensures.added

pub returns-in-Ok-clause-known : goal.returns-in-Ok-clause-known
returns-in-Ok-clause-known c = c.in-Ok.ensures.joined ∙ sym (joins_new c.args.contexts.now.entries c.args.context (sym c.has.ensures ∙ c.if-has.false))

pub returns-in-Err-clause-same : goal.returns-in-Err-clause-same
returns-in-Err-clause-same c = fences_back _ _ _ _ _ c.args.made.now _ c.requires c.in_ok-add-2.ensures.added c.take.ensures c.in-Err.ensures.same

pub returns-in-Err-clause-are_made : goal.returns-in-Err-clause-are_made
returns-in-Err-clause-are_made c = made_back _ _ _ _ _ c.args.made.now _ c.requires c.in_ok-add-2.ensures.added c.take.ensures c.in-Err.ensures.same
