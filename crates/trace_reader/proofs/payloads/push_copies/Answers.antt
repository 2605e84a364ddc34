use Rattle.std.proofs.Common.{ℕ, List, ◌++◌, sym, ap, ◌∙◌, append_assoc}
use Rattle.trace_reader.specs.Payloads.{repeated}
use Rattle.trace_reader.proofs.PayloadLaws.{repeated_more}
use Rattle.trace_reader.proofs.payloads.push_copies.Goals as goal

pub copies-preserved : goal.copies-preserved
copies-preserved c =
    c.in_ok-extend.ensures.ok
    ∙ ap (λ (xs : List ℕ). xs ++ c.args.bytes.now) c.copies.invariant
    ∙ append_assoc c.args.to.now (repeated c.copies.counter c.args.bytes.now) c.args.bytes.now
    ∙ ap (λ (xs : List ℕ). c.args.to.now ++ xs) (sym (repeated_more c.copies.counter c.args.bytes.now))
