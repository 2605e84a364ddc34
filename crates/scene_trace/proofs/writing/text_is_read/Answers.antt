use Rattle.scene_trace.proofs.SceneRead.{scene_reads}
use Rattle.scene_trace.proofs.writing.text_is_read.Goals as goal

pub returns : goal.returns
returns c = scene_reads c.args.scene.now c.is_scene.ensures c.calls_draw.ensures.texels
