-- States whose textures have all their levels.
use Rattle.std.specs.Prelude.{◌≡◌, ℕ, length, Some}
use Rattle.driver_objects.specs.declared.textures.BackedTexture.{BackedTexture}
use Rattle.texture_objects.specs.declared.levels.TheConstants.{LEVELS}
use Rattle.egl_model.specs.Objects.{texture_in}
use Rattle.egl_model.specs.State.{State}

pub record HaveLevels (s : State) : Type 0 where
  pub each : (n : ℕ) (x : BackedTexture) → texture_in s.objects n ≡ Some x → length x.levels ≡ LEVELS
