use Rattle.std.proofs.Common.{arith}
use Rattle.buffer_objects.proofs.Writes.{put_written}
use Rattle.buffer_objects.proofs.contents.write_over.Goals as goal

pub returns : goal.returns
returns c = put_written _ _ _ _ _ c.requires c.copy_from_slice.ensures.after (omega arith)
