-- The walk over the criteria, and the parts of a key.
use Rattle.std.proofs.Common.{◌≡◌, ℕ, ◌<◌, ◌≤◌, Bool, true, false, ◌&&◌, List, [], ◌∷◌, refl, sym, ◌∙◌, arith, ℤ, pos}
use Rattle.std.specs.Prelude.{bit_and, ◌==◌}
use Rattle.std.specs.List.{list_all}
use Rattle.std.proofs.lemmas.Bool.Decides.{nat_tests}
use Rattle.std.proofs.lemmas.Nat.{and_le_l}
use Rattle.egl_names.specs.declared.codes.TheConstants.{EGL_SURFACE_TYPE}
use Rattle.config_match.specs.declared.table.Config.{Config}
use Rattle.config_match.specs.declared.matching.TheConstants.{AT_LEAST, EXACT, MASK}
use Rattle.config_match.specs.Table.{attribute_of}
use Rattle.config_match.specs.Configs.{wanted, value, has_at_least, has_exactly, has_bits, at_least, exact, mask, meets_all}

-- a number past 32 bits is no part of one that fits them
pub past_all_bits : (s bits : ℕ) → s < 4294967296 → 4294967295 < bits → (bit_and s bits == bits) ≡ false
past_all_bits s bits l m = let below : bit_and s bits ≤ s = and_le_l s bits in grind (arith, nat_tests)

pub surface_bits_are : (c : Config) → value c EGL_SURFACE_TYPE ≡ c.surface.0
unfolding attribute_of
surface_bits_are c = refl

at_least_are : AT_LEAST ≡ at_least
at_least_are = refl

exact_are : EXACT ≡ exact
exact_are = refl

mask_are : MASK ≡ mask
mask_are = refl

-- the criteria by the tables of the code
meets_is : (list : List ℤ) (c : Config) →
    meets_all list c
    ≡ (list_all (λ name. has_at_least c name (wanted list name (pos 0))) AT_LEAST
    && list_all (λ e. has_exactly c e.0 (wanted list e.0 e.1)) EXACT
    && list_all (λ e. has_bits c e.0 (wanted list e.0 e.1)) MASK)
unfolding meets_all
meets_is list c = refl

and_three : (a b d : Bool) → a ≡ true → b ≡ true → (a && b && d) ≡ d
and_three true true d p q = refl
and_three true false d p q = cc
and_three false b d p q = cc

and_first : (a b d : Bool) → a ≡ false → (a && b && d) ≡ false
and_first false b d p = refl
and_first true b d p = cc

and_second : (a b d : Bool) → b ≡ false → (a && b && d) ≡ false
and_second true false d p = refl
and_second false b d p = refl
and_second true true d p = cc

pub no_size : (list : List ℤ) (c : Config) → list_all (λ name. has_at_least c name (wanted list name (pos 0))) AT_LEAST ≡ false → false ≡ meets_all list c
no_size list c p = sym (meets_is list c ∙ and_first _ _ _ p)

pub no_value : (list : List ℤ) (c : Config) → list_all (λ e. has_exactly c e.0 (wanted list e.0 e.1)) EXACT ≡ false → false ≡ meets_all list c
no_value list c p = sym (meets_is list c ∙ and_second _ _ _ p)

pub bits_left : (list : List ℤ) (c : Config) → list_all (λ name. has_at_least c name (wanted list name (pos 0))) AT_LEAST ≡ true → list_all (λ e. has_exactly c e.0 (wanted list e.0 e.1)) EXACT ≡ true
    → list_all (λ e. has_bits c e.0 (wanted list e.0 e.1)) MASK ≡ meets_all list c
bits_left list c p q = sym (meets_is list c ∙ and_three _ _ _ p q)

pub eleven : {a b c d e f g h i j k a' b' c' d' e' f' g' h' i' j' k' : ℕ} → a ≡ a' → b ≡ b' → c ≡ c' → d ≡ d' → e ≡ e' → f ≡ f' → g ≡ g' → h ≡ h' → i ≡ i' → j ≡ j' → k ≡ k'
    → (a ∷ b ∷ c ∷ d ∷ e ∷ f ∷ g ∷ h ∷ i ∷ j ∷ k ∷ []) ≡ (a' ∷ b' ∷ c' ∷ d' ∷ e' ∷ f' ∷ g' ∷ h' ∷ i' ∷ j' ∷ k' ∷ [])
eleven p q r s t u v w x y z = cc
