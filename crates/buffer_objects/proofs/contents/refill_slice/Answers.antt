use Rattle.std.proofs.Common.{ℕ, ◌+◌, ◌-◌, List, replicate, ◌∙◌, ap}
use Rattle.buffer_objects.proofs.Writes.{refilled}
use Rattle.buffer_objects.specs.Contents.{written}
use Rattle.buffer_objects.proofs.contents.refill_slice.Goals as goal

pub returns-clause-bytes : goal.returns-clause-bytes
returns-clause-bytes c =
    c.clear_over.ensures
    ∙ ap (λ (x : List ℕ). written (c.args.from + c.min-taken.result) (replicate (c.args.size - c.min-taken.result) 0) x) c.write_over.ensures
    ∙ refilled c.args.from c.args.size c.min-taken.result c.args.given.now c.args.items.now c.requires c.min-taken.ensures
