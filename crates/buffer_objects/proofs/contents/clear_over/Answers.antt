use Rattle.buffer_objects.proofs.Writes.{cleared}
use Rattle.buffer_objects.proofs.contents.clear_over.Goals as goal

pub returns : goal.returns
returns c = cleared _ _ _ _ c.requires (c.fill.ensures.after (λ y h. h))
