use Rattle.std.proofs.Common.{rules, ◌∷◌, []}
use Rattle.std.proofs.lemmas.List.Elements.{All-append, All-cons, All-nil, All-same}
use Rattle.shared_driver.specs.declared.tokens.Thread.{Thread}
use Rattle.shared_driver.specs.Tokens.{IsOf}
use Rattle.bench.proofs.threads.together.attach.Goals as goal

pub attaching-preserved : goal.attaching-preserved
attaching-preserved g c =
    let owned : Thread → Type 0 = λ t. IsOf c.args.shared.now t in (
      c.in-Ok-attach.ensures.owns.0,
      All-same owned _ _ c.push_reserved.ensures.items (All-append owned c.attaching.tokens.items (c.calls.new.token ∷ []) c.attaching.invariant.1 (All-cons owned c.calls.new.token [] c.calls.ensures (All-nil owned))),
      search rules,
    )
