use Rattle.scene_reader.proofs.SceneLaws.{scene_ok}
use Rattle.scene_reader.proofs.laws.what_is_spelled_is_a_scene.Goals as goal

pub returns : goal.returns
returns c = scene_ok
