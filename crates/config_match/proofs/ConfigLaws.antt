-- Which numbers are ids of configs, and which configs are compatible.
use Rattle.std.proofs.Common.{◌≡◌, ℕ, zero, suc, ℤ, pos, negsuc, ◌<◌, Bool, true, false, ◌&&◌, List, Option, None, Some, Result, refl, sym, ap, ◌∙◌, map, arith}
use Rattle.std.specs.Prelude.{IfOk, int_le, is_some, bit_and, unwrap_or}
use Rattle.std.specs.List.{list_all}
use Rattle.std.specs.Option.{option_map, option_and_then}
use Rattle.std.specs.Ordering.{int_eq}
use Rattle.std.proofs.lemmas.Bool.Decides.{nat_tests}
use Rattle.std.proofs.lemmas.Cmp.{int_eq_equiv}
use Rattle.egl_calls.specs.Ranges.{unsigned}
use Rattle.egl_names.specs.declared.codes.TheConstants.{EGL_PBUFFER_BIT, EGL_SURFACE_TYPE}
use Rattle.config_match.specs.declared.table.Config.{Config}
use Rattle.config_match.specs.Table.{attribute, attribute_of, config_in, configs, is_config, all_ids}
use Rattle.config_match.specs.Compatible.{are_compatible, are_compatible_in, compared, is_same}
use Rattle.config_match.specs.Laws.{AllHavePbuffers, IsCompatibility}
use Rattle.config_match.proofs.ChoiceLaws.{if_ok_same}

none_past : (n : ℕ) → 8 < n → config_in configs n ≡ None
none_past n l = grind (arith, nat_tests)

past_one : (n : ℕ) → 8 < n → (int_le (pos 1) (pos n) && int_le (pos n) (pos 8)) ≡ false
past_one n l = grind (arith, nat_tests)

past : (n : ℕ) → 8 < n → is_config (pos n) ≡ (int_le (pos 1) (pos n) && int_le (pos n) (pos 8))
unfolding is_config
past n l = ap is_some (none_past n l) ∙ sym (past_one n l)

id_at : (n : ℕ) → is_config (pos n) ≡ (int_le (pos 1) (pos n) && int_le (pos n) (pos 8))
unfolding is_config
id_at zero = refl
id_at (suc zero) = refl
id_at (suc (suc zero)) = refl
id_at (suc (suc (suc zero))) = refl
id_at (suc (suc (suc (suc zero)))) = refl
id_at (suc (suc (suc (suc (suc zero))))) = refl
id_at (suc (suc (suc (suc (suc (suc zero)))))) = refl
id_at (suc (suc (suc (suc (suc (suc (suc zero))))))) = refl
id_at (suc (suc (suc (suc (suc (suc (suc (suc zero)))))))) = refl
id_at (suc (suc (suc (suc (suc (suc (suc (suc (suc n))))))))) = past (suc (suc (suc (suc (suc (suc (suc (suc (suc n))))))))) (omega arith)

below : (n : ℕ) → is_config (negsuc n) ≡ (int_le (pos 1) (negsuc n) && int_le (negsuc n) (pos 8))
unfolding is_config
below n = refl

pub ids_are : (id : ℤ) → is_config id ≡ (int_le (pos 1) id && int_le id (pos 8))
ids_are (pos n) = id_at n
ids_are (negsuc n) = below n

-- a config has the bit of pbuffers
HasPbuffers : ℤ → Type 0
HasPbuffers id = bit_and (unsigned (unwrap_or (attribute id (pos EGL_SURFACE_TYPE)) (pos 0))) EGL_PBUFFER_BIT ≡ EGL_PBUFFER_BIT

no_config : (id : ℤ) → is_config id ≡ false → is_config id ≡ true → HasPbuffers id
no_config id f t = absurd (let e : false ≡ true = sym f ∙ t in cc)

pbuffers_at : (n : ℕ) → is_config (pos n) ≡ true → HasPbuffers (pos n)
unfolding HasPbuffers attribute attribute_of
pbuffers_at zero h = no_config (pos 0) (ids_are (pos 0)) h
pbuffers_at (suc zero) h = refl
pbuffers_at (suc (suc zero)) h = refl
pbuffers_at (suc (suc (suc zero))) h = refl
pbuffers_at (suc (suc (suc (suc zero)))) h = refl
pbuffers_at (suc (suc (suc (suc (suc zero))))) h = refl
pbuffers_at (suc (suc (suc (suc (suc (suc zero)))))) h = refl
pbuffers_at (suc (suc (suc (suc (suc (suc (suc zero))))))) h = refl
pbuffers_at (suc (suc (suc (suc (suc (suc (suc (suc zero)))))))) h = refl
pbuffers_at (suc (suc (suc (suc (suc (suc (suc (suc (suc n))))))))) h =
    let m = suc (suc (suc (suc (suc (suc (suc (suc (suc n)))))))) in no_config (pos m) (ids_are (pos m) ∙ past_one m (omega arith)) h

pub pbuffers_are : AllHavePbuffers
unfolding HasPbuffers
pbuffers_are (pos n) h = pbuffers_at n h
pbuffers_are (negsuc n) h = no_config (negsuc n) (ids_are (negsuc n)) h

pub all_are : {E : Type 0} (r : Result (List ℤ) E) (rows : List Config) → rows ≡ configs → IfOk r (λ ids. ids ≡ map (λ c. pos c.id) rows) → IfOk r (λ ids. ids ≡ all_ids)
unfolding all_ids
all_are r rows e h = if_ok_same r (map (λ c. pos c.id) rows) all_ids (ap (map (λ (c : Config). pos c.id)) e) h

pub is_config_of : (rows : List Config) (n : ℕ) (id : ℤ) → rows ≡ configs → n ≡ unsigned id → is_some (config_in rows n) ≡ is_config id
unfolding is_config
is_config_of rows n id r e = ap (λ (cs : List Config). is_some (config_in cs n)) r ∙ ap (λ (k : ℕ). is_some (config_in configs k)) e

compatible_at : (first second : ℤ) → are_compatible_in configs (unsigned first) (unsigned second) ≡ are_compatible first second
unfolding are_compatible attribute
compatible_at first second = refl

pub compatible_of : (rows : List Config) (m n : ℕ) (first second : ℤ) → rows ≡ configs → m ≡ unsigned first → n ≡ unsigned second → are_compatible_in rows m n ≡ are_compatible first second
compatible_of rows m n first second r p q =
    ap (λ (cs : List Config). are_compatible_in cs m n) r
    ∙ ap (λ (k : ℕ). are_compatible_in configs k n) p
    ∙ ap (are_compatible_in configs (unsigned first)) q
    ∙ compatible_at first second

-- whether two configs that were looked for are there and compatible
both : Option Config → Option Config → Bool
both c d = list_all (λ name. is_same (option_map pos (option_and_then (λ e. attribute_of e name) c)) (option_map pos (option_and_then (λ e. attribute_of e name) d))) compared

both_at : (first second : ℤ) → are_compatible first second ≡ both (config_in configs (unsigned first)) (config_in configs (unsigned second))
unfolding are_compatible attribute both
both_at first second = refl

equal : (n : ℕ) → int_eq (pos n) (pos n) ≡ true
equal n = int_eq_equiv.refl (pos n)

swapped : (m n : ℕ) → int_eq (pos m) (pos n) ≡ int_eq (pos n) (pos m)
swapped m n = int_eq_equiv.symm (pos m) (pos n)

with_itself : (c : Option Config) → both c c ≡ is_some c
unfolding both attribute_of
with_itself None = refl
with_itself (Some c) = rw (equal c.red, equal c.green, equal c.blue, equal c.alpha, equal c.depth, equal c.stencil) refl

other_way : (c d : Option Config) → both c d ≡ both d c
unfolding both attribute_of
other_way None None = refl
other_way None (Some d) = refl
other_way (Some c) None = refl
other_way (Some c) (Some d) = rw (swapped c.red d.red, swapped c.green d.green, swapped c.blue d.blue, swapped c.alpha d.alpha, swapped c.depth d.depth, swapped c.stencil d.stencil) refl

itself : (id : ℤ) → are_compatible id id ≡ is_config id
unfolding is_config
itself id = both_at id id ∙ with_itself (config_in configs (unsigned id))

pub compatibility : IsCompatibility
compatibility = record {
  itself = itself;
  either_way = λ first second. both_at first second ∙ other_way (config_in configs (unsigned first)) (config_in configs (unsigned second)) ∙ sym (both_at second first);
}
