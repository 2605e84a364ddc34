-- Where calls have names, beside what the table says of their arguments.
use Rattle.std.proofs.Common.{◌≡◌, ◌||◌, refl}
use Rattle.std.specs.Prelude.{is_some}
use Rattle.egl_calls.specs.declared.kinds.GlKind.{GlKind}
use Rattle.egl_calls.specs.declared.kinds.GlKind.TheVariants.{GetError}
use Rattle.driver_judge.specs.UsedNames.{gl_names, has_objects, takes_image}

-- one kind stands apart, so that the others are tried one by one
pub names_told : (k : GlKind) → has_objects k ≡ (is_some (gl_names k) || takes_image k)
names_told GetError = refl
names_told k = refl
