-- What is known of calls that give pixels and that no rule refuses.
use Rattle.std.proofs.Common.{◌≡◌, ℕ, ◌<◌, ◌≤◌, ℤ, pos, negsuc, ◌≤ℤ◌, false, arith}
use Rattle.std.specs.Prelude.{int_lt}
use Rattle.std.proofs.lemmas.Bool.{ltb-false}
use Rattle.std.proofs.lemmas.Int.{ints}
use Rattle.egl_calls.proofs.Truths.{neither_first, neither_second}
use Rattle.egl_calls.specs.Calls.{CallValue}
use Rattle.egl_calls.specs.Arguments.{number, signed}
use Rattle.egl_calls.specs.Ranges.{unsigned}
use Rattle.egl_calls.specs.declared.kinds.Kind.TheVariants.{Gl}
use Rattle.egl_calls.specs.declared.kinds.GlKind.TheVariants.{TexImage2d}
use Rattle.call_rules.specs.GlAllowed.{CopyAllowed, ImageAllowed}
use Rattle.call_rules.specs.TextureRules.{is_no_level_side}
use Rattle.call_rules.specs.declared.gl_facts.GlFacts.{GlFacts}
use Rattle.driver_objects.specs.Storages.{IsCopiedSide}
use Rattle.model_laws.proofs.Calls.TextureCalls.{side_few}
use Rattle.texture_objects.specs.Uploads.{IsImageCall, IsSide}

not_negative : (z : ℤ) → int_lt z (pos 0) ≡ false → pos 0 ≤ℤ z
not_negative (pos n) h = omega (arith, ints)
not_negative (negsuc n) h = absurd (cc)

high_side : (z : ℤ) → unsigned z ≤ 1024 → z ≤ℤ pos 1024
high_side (pos n) h = omega (arith, ints, h)
high_side (negsuc n) h = omega (arith, ints)

side : (level : ℕ) (z : ℤ) → is_no_level_side level z ≡ false → IsSide z
side level z h = record { low = not_negative z (neither_first _ _ (neither_first _ _ h)); high = high_side z (side_few level z h) }

copied_side : (z : ℤ) → IsSide z → IsCopiedSide z
copied_side z h = record { low = h.low; high = h.high }

level_few : (z : ℤ) → int_lt (pos 10) z ≡ false → unsigned z < 11
level_few (pos n) h = let e = ltb-false 10 n h in omega (arith, e)
level_few (negsuc n) h = omega arith

-- ---- glTexImage2D.
pub image_call : (c : CallValue) (f : GlFacts) → c.kind ≡ Gl TexImage2d → ImageAllowed c f → IsImageCall c
image_call c f h a = record { kind = h; form = a.form; width = side _ (signed c 3) a.width; height = side _ (signed c 4) a.height }

pub level_below : (c : CallValue) (f : GlFacts) → ImageAllowed c f → number c 1 < 11
level_below c f a = level_few (signed c 1) (neither_second _ _ a.level)

-- ---- glCopyTexImage2D.
pub copied_wide : (c : CallValue) (f : GlFacts) → CopyAllowed c f → IsCopiedSide (signed c 5)
copied_wide c f a = copied_side _ (side _ (signed c 5) a.width)

pub copied_high : (c : CallValue) (f : GlFacts) → CopyAllowed c f → IsCopiedSide (signed c 6)
copied_high c f a = copied_side _ (side _ (signed c 6) a.height)

pub copied_below : (c : CallValue) (f : GlFacts) → CopyAllowed c f → number c 1 < 11
copied_below c f a = level_few (signed c 1) (neither_second _ _ a.level)
