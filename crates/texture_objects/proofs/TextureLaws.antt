-- The laws of parameters.
use Rattle.std.proofs.Common.{◌≡◌, ◌≢◌, ℕ, pos, Some, is_some, sym, ◌∙◌, arith}
use Rattle.std.proofs.lemmas.Bool.Decides.{nat_tests}
use Rattle.egl_names.specs.declared.codes.TheConstants.{GL_TEXTURE_MIN_FILTER, GL_TEXTURE_MAG_FILTER, GL_TEXTURE_WRAP_S, GL_TEXTURE_WRAP_T}
use Rattle.texture_objects.specs.Textures.{TextureValue, is_parameter_pair, parameter, with_parameter}

pub accepts : (pname value : ℕ) (t : TextureValue) → is_some (with_parameter pname value t) ≡ is_parameter_pair pname value
accepts pname value t = grind (arith, nat_tests)

pub answers : (pname value : ℕ) (t u : TextureValue) → with_parameter pname value t ≡ Some u → parameter pname u ≡ Some (pos value)
answers pname value t u e = grind (arith, nat_tests)

-- ---- What a change of a parameter leaves.
keeps-crop : (pname value : ℕ) (t u : TextureValue) → with_parameter pname value t ≡ Some u → u.crop ≡ t.crop
keeps-crop pname value t u e = grind (arith, nat_tests)

keeps-min : (pname value : ℕ) (t u : TextureValue) → with_parameter pname value t ≡ Some u → pname ≢ GL_TEXTURE_MIN_FILTER → u.min_filter ≡ t.min_filter
keeps-min pname value t u e n = grind (arith, nat_tests)

keeps-mag : (pname value : ℕ) (t u : TextureValue) → with_parameter pname value t ≡ Some u → pname ≢ GL_TEXTURE_MAG_FILTER → u.mag_filter ≡ t.mag_filter
keeps-mag pname value t u e n = grind (arith, nat_tests)

keeps-wrap_s : (pname value : ℕ) (t u : TextureValue) → with_parameter pname value t ≡ Some u → pname ≢ GL_TEXTURE_WRAP_S → u.wrap_s ≡ t.wrap_s
keeps-wrap_s pname value t u e n = grind (arith, nat_tests)

keeps-wrap_t : (pname value : ℕ) (t u : TextureValue) → with_parameter pname value t ≡ Some u → pname ≢ GL_TEXTURE_WRAP_T → u.wrap_t ≡ t.wrap_t
keeps-wrap_t pname value t u e n = grind (arith, nat_tests)

same-parameter : (other : ℕ) (t u : TextureValue) → (other ≡ GL_TEXTURE_MIN_FILTER → u.min_filter ≡ t.min_filter) → (other ≡ GL_TEXTURE_MAG_FILTER → u.mag_filter ≡ t.mag_filter) →
    (other ≡ GL_TEXTURE_WRAP_S → u.wrap_s ≡ t.wrap_s) → (other ≡ GL_TEXTURE_WRAP_T → u.wrap_t ≡ t.wrap_t) → parameter other u ≡ parameter other t
same-parameter other t u a b c d = grind (arith, nat_tests)

pub keeps : (pname value other : ℕ) (t u : TextureValue) → with_parameter pname value t ≡ Some u → pname ≢ other →
    (parameter other u ≡ parameter other t) × (u.crop ≡ t.crop)
keeps pname value other t u e n = (
  same-parameter other t u
      (λ s. keeps-min pname value t u e (λ q. n (q ∙ sym s)))
      (λ s. keeps-mag pname value t u e (λ q. n (q ∙ sym s)))
      (λ s. keeps-wrap_s pname value t u e (λ q. n (q ∙ sym s)))
      (λ s. keeps-wrap_t pname value t u e (λ q. n (q ∙ sym s))),
  keeps-crop pname value t u e,
)
