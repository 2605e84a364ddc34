-- Calls that the one thread of a driver makes in order.
use Rattle.std.specs.Prelude.{◌≡◌, ℕ, List, [], ◌∷◌, ◌++◌}
use Rattle.egl_calls.specs.Calls.{CallValue}
use Rattle.egl_calls.specs.declared.errors.Outcome.TheVariants.{Done}
use Rattle.egl_model.specs.State.{State, opening}
use Rattle.egl_model.specs.Step.{step}
use Rattle.scene_reader.specs.Scenes.{SceneValue}
use Rattle.sprite_scene.specs.Calls.{read_all}
use Rattle.sprite_scene.specs.Painted.{painted}

-- how many bytes of pixels there may be
abbrev pub video_bytes : ℕ
video_bytes = 1073741824

-- a driver without windows, before its first call
abbrev pub opened : State
opened = opening [] video_bytes

-- the state after calls of thread 0
abbrev pub after : State → List CallValue → State
after s [] = s
after s (c ∷ cs) = after (step s 0 c).state cs

-- each of them is done
abbrev pub AreDone : State → List CallValue → Type 0
AreDone s [] = Unit {0}
AreDone s (c ∷ cs) = ((step s 0 c).reply.outcome ≡ Done) × AreDone (step s 0 c).state cs

-- calls that draw a scene: made in order each is done, and the last one reads the picture from the whole target
pub record Draws (scene : SceneValue) (cs : List CallValue) : Type 0 where
  pub before : List CallValue
  pub reads : cs ≡ before ++ read_all scene.width scene.height ∷ []
  pub done : AreDone opened cs
  pub picture : (step (after opened before) 0 (read_all scene.width scene.height)).reply.bytes ≡ painted scene
