-- What is known of the calls that copy pixels where they aren't refused.
use Rattle.std.proofs.Common.{◌≡◌, ℕ, ◌<◌, ℤ, pos, negsuc, ◌≤ℤ◌, refl, sym, subst, arith, Option, None, Some}
use Rattle.std.specs.Prelude.{IfSome}
use Rattle.std.specs.Option.{option_and_then, option_map_or}
use Rattle.std.proofs.lemmas.Int.{ints}
use Rattle.egl_calls.specs.Calls.{CallValue}
use Rattle.egl_calls.specs.Arguments.{number, signed}
use Rattle.egl_calls.specs.Ranges.{unsigned}
use Rattle.egl_calls.specs.declared.kinds.Kind.TheVariants.{Gl}
use Rattle.egl_calls.specs.declared.kinds.GlKind.TheVariants.{CopyTexImage2d, CopyTexSubImage2d}
use Rattle.call_rules.specs.GlAllowed.{CopyPartAllowed}
use Rattle.call_rules.proofs.GlLaws.{copy_part_allowed}
use Rattle.pixel_rows.specs.Rects.{IsInSide, IsInside}
use Rattle.rect_pipeline.specs.Copying.{moved}
use Rattle.driver_objects.specs.Storages.{IsCopiedSide, StorageValue}
use Rattle.egl_model.specs.Copies.{copied_part_rect}
use Rattle.egl_model.specs.GlCalls.{gl_refusal}
use Rattle.egl_model.specs.GlFacts.{gl_facts_of}
use Rattle.egl_model.specs.Objects.{storage_in}
use Rattle.egl_model.specs.State.{State}
use Rattle.egl_model.specs.Textures.{level_of, level_storage}
use Rattle.model_laws.proofs.Calls.CopyCalls.{copy_passed}
use Rattle.thread_part.proofs.Givens.{copied_below as given_below, copied_high as given_high, copied_wide as given_wide}

-- ---- glCopyTexImage2D.
pub copied_wide : (s : State) (t n : ℕ) (c : CallValue) → c.kind ≡ Gl CopyTexImage2d → gl_refusal s t n CopyTexImage2d c ≡ None → IsCopiedSide (signed c 5)
copied_wide s t n c h r = given_wide c (gl_facts_of s t n c) (copy_passed s t n c h r)

pub copied_high : (s : State) (t n : ℕ) (c : CallValue) → c.kind ≡ Gl CopyTexImage2d → gl_refusal s t n CopyTexImage2d c ≡ None → IsCopiedSide (signed c 6)
copied_high s t n c h r = given_high c (gl_facts_of s t n c) (copy_passed s t n c h r)

pub copied_below : (s : State) (t n : ℕ) (c : CallValue) → c.kind ≡ Gl CopyTexImage2d → gl_refusal s t n CopyTexImage2d c ≡ None → number c 1 < 11
copied_below s t n c h r = given_below c (gl_facts_of s t n c) (copy_passed s t n c h r)

-- ---- glCopyTexSubImage2D.
pub copy_part_passed : (s : State) (t n : ℕ) (c : CallValue) → c.kind ≡ Gl CopyTexSubImage2d → gl_refusal s t n CopyTexSubImage2d c ≡ None → CopyPartAllowed c (gl_facts_of s t n c)
unfolding gl_refusal
copy_part_passed s t n c h r = copy_part_allowed c (gl_facts_of s t n c) h r

placed : (z : ℤ) → pos 0 ≤ℤ z → pos (unsigned z) ≡ z
placed (pos n) h = refl
placed (negsuc n) h = absurd (let e = h in omega (arith, ints, e))

in_side : (start size : ℤ) (side : ℕ) → IsInSide start size side → IsInSide (pos (unsigned start)) size side
in_side start size side h = subst (λ z. IsInSide z size side) (sym (placed start h.first)) h

abbrev width_of : Option StorageValue → ℕ
width_of o = option_map_or (λ v. v.width) o 0

abbrev height_of : Option StorageValue → ℕ
height_of o = option_map_or (λ v. v.height) o 0

inside : (c : CallValue) (o : Option StorageValue) → IsInSide (signed c 2) (signed c 6) (width_of o) → IsInSide (signed c 3) (signed c 7) (height_of o) → IfSome o (λ v. IsInside (moved (copied_part_rect c) (number c 2) (number c 3)) v.width v.height)
inside c None a b = tt
inside c (Some v) a b = record { columns = in_side _ _ _ a; rows = in_side _ _ _ b }

pub copy_part_within : (s : State) (t n m : ℕ) (c : CallValue) → c.kind ≡ Gl CopyTexSubImage2d → gl_refusal s t n CopyTexSubImage2d c ≡ None → level_storage s n (level_of c) ≡ Some m → IfSome (storage_in s.objects m) (λ v. IsInside (moved (copied_part_rect c) (number c 2) (number c 3)) v.width v.height)
copy_part_within s t n m c h r e =
    let a = copy_part_passed s t n c h r in
    subst (λ (o : Option ℕ). IfSome (option_and_then (storage_in s.objects) o) (λ v. IsInside (moved (copied_part_rect c) (number c 2) (number c 3)) v.width v.height)) e
    (inside c (option_and_then (storage_in s.objects) (level_storage s n (level_of c))) a.columns a.rows)
