-- What framebuffers have attached.
use Rattle.std.proofs.Common.{◌≡◌, ℕ, ◌<◌, ◌≤◌, ℤ, pos, negsuc, true, false, refl, arith, Option, None, Some}
use Rattle.std.proofs.lemmas.Bool.{false≢true}
use Rattle.std.proofs.lemmas.Int.{ints}
use Rattle.std.specs.Prelude.{IsSome, is_some}
use Rattle.egl_calls.specs.Ranges.{IsNumber, unsigned}
use Rattle.driver_objects.specs.declared.objects.Object.{Object}
use Rattle.driver_objects.specs.declared.objects.Object.TheVariants.{Renderbuffer, Texture}
use Rattle.egl_model.specs.Framebuffers.{attached_as}
use Rattle.egl_model.specs.Links.{rank_in}
use Rattle.egl_model.specs.Objects.{as_renderbuffer, as_texture}

pub texture_as : (name x : ℕ) (o : Option Object) → is_some (as_texture o) ≡ true → attached_as name x o ≡ Some (record { texture = true; name = name; object = x })
texture_as name x (Some (Texture t)) h = refl
texture_as name x o h = absurd (false≢true h)

pub renderbuffer_as : (name x : ℕ) (o : Option Object) → is_some (as_renderbuffer o) ≡ true → attached_as name x o ≡ Some (record { texture = false; name = name; object = x })
renderbuffer_as name x (Some (Renderbuffer r)) h = refl
renderbuffer_as name x o h = absurd (false≢true h)

pub nothing_as : (name x : ℕ) (o : Option Object) → is_some (as_texture o) ≡ false → is_some (as_renderbuffer o) ≡ false → attached_as name x o ≡ None
nothing_as name x (Some (Texture t)) h k = absurd (let e : true ≡ false = h in cc)
nothing_as name x (Some (Renderbuffer r)) h k = absurd (let e : true ≡ false = k in cc)
nothing_as name x o h k = refl

-- ---- What may be attached is there, and ranks below framebuffers.
pub texture_there : (o : Option Object) → is_some (as_texture o) ≡ true → IsSome o × (rank_in o < 2)
texture_there (Some (Texture t)) h = (refl, omega arith)
texture_there o h = absurd (false≢true h)

pub renderbuffer_there : (o : Option Object) → is_some (as_renderbuffer o) ≡ true → IsSome o × (rank_in o < 2)
renderbuffer_there (Some (Renderbuffer r)) h = (refl, omega arith)
renderbuffer_there o h = absurd (false≢true h)

-- ---- A code has 32 bits.
pub list_fits : (z : ℤ) → IsNumber z → unsigned z ≤ 4294967295
list_fits (pos n) h = let l = h.high in omega (arith, ints, l)
list_fits (negsuc n) h = omega arith
