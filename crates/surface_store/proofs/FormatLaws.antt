-- The formats of the eight configs, and of a number that is no config's id.
use Rattle.std.proofs.Common.{◌≡◌, ℕ, ℤ, pos, negsuc, ◌<◌, ◌≤◌, ◌≤ℤ◌, Option, None, Some, true, false, ◌∙◌, zero, suc, refl, ap, arith}
use Rattle.std.specs.Prelude.{◌==◌, ◌||◌, if◌then◌else◌}
use Rattle.std.specs.Option.{option_map, option_and_then}
use Rattle.std.proofs.lemmas.Bool.{false≢true, and_parts}
use Rattle.std.proofs.lemmas.Bool.Decides.{nat_tests, Decides-int_eq}
use Rattle.egl_calls.specs.Ranges.{unsigned}
use Rattle.egl_names.specs.declared.codes.TheConstants.{EGL_RED_SIZE, EGL_GREEN_SIZE, EGL_BLUE_SIZE, EGL_ALPHA_SIZE}
use Rattle.config_match.specs.declared.table.Config.{Config}
use Rattle.config_match.specs.Compatible.{are_compatible, is_same}
use Rattle.config_match.specs.Table.{attribute, attribute_of, config_in, configs}
use Rattle.pixel_formats.specs.declared.formats.Format.{Format}
use Rattle.pixel_formats.specs.declared.formats.Format.TheVariants.{Rgb565, Rgb888, Rgba8888, Rgba4444, Rgba5551}
use Rattle.surface_store.specs.Formats.{format_of}
use Rattle.surface_store.specs.Laws.{HasSizesOf}

no_config : (n : ℕ) → 8 < n → config_in configs n ≡ None
no_config n l = grind (arith, nat_tests)

no_attribute : (n name : ℕ) → config_in configs n ≡ None → attribute (pos n) (pos name) ≡ None
unfolding attribute
no_attribute n name e = ap (λ (c : Option Config). option_map pos (option_and_then (λ d. attribute_of d name) c)) e

past : (n : ℕ) → 8 < n → format_of (pos n) ≡ Rgba8888
unfolding format_of
past n l =
    let e : config_in configs n ≡ None = no_config n l in
    rw (no_attribute n EGL_RED_SIZE e) refl

-- the formats by the ids
abbrev pub by_id : ℕ → Format
by_id n = if (n == 1) || (n == 2) then Rgb565 else if n == 3 then Rgb888 else if n == 6 then Rgba4444 else if n == 7 then Rgba5551 else Rgba8888

plain : (n : ℕ) → 8 < n → Rgba8888 ≡ by_id n
plain n l = grind (arith, nat_tests)

below : (n : ℕ) → format_of (negsuc n) ≡ Rgba8888
unfolding format_of attribute attribute_of
below n = refl

by_id_at : (n : ℕ) → format_of (pos n) ≡ by_id n
unfolding format_of attribute attribute_of
by_id_at zero = refl
by_id_at (suc zero) = refl
by_id_at (suc (suc zero)) = refl
by_id_at (suc (suc (suc zero))) = refl
by_id_at (suc (suc (suc (suc zero)))) = refl
by_id_at (suc (suc (suc (suc (suc zero))))) = refl
by_id_at (suc (suc (suc (suc (suc (suc zero)))))) = refl
by_id_at (suc (suc (suc (suc (suc (suc (suc zero))))))) = refl
by_id_at (suc (suc (suc (suc (suc (suc (suc (suc zero)))))))) = refl
by_id_at (suc (suc (suc (suc (suc (suc (suc (suc (suc n))))))))) = past (suc (suc (suc (suc (suc (suc (suc (suc (suc n))))))))) (omega arith) ∙ plain (suc (suc (suc (suc (suc (suc (suc (suc (suc n))))))))) (omega arith)

-- what a negative number gives is what 0 gives
pub format_is : (config : ℤ) → format_of config ≡ by_id (unsigned config)
format_is (pos n) = by_id_at n
format_is (negsuc n) = below n

sizes_at : (n : ℕ) → 1 ≤ n → n ≤ 8 → HasSizesOf (pos n)
unfolding format_of attribute attribute_of
sizes_at zero l m = absurd (omega arith)
sizes_at (suc zero) l m = record { red = refl; green = refl; blue = refl; alpha = refl }
sizes_at (suc (suc zero)) l m = record { red = refl; green = refl; blue = refl; alpha = refl }
sizes_at (suc (suc (suc zero))) l m = record { red = refl; green = refl; blue = refl; alpha = refl }
sizes_at (suc (suc (suc (suc zero)))) l m = record { red = refl; green = refl; blue = refl; alpha = refl }
sizes_at (suc (suc (suc (suc (suc zero))))) l m = record { red = refl; green = refl; blue = refl; alpha = refl }
sizes_at (suc (suc (suc (suc (suc (suc zero)))))) l m = record { red = refl; green = refl; blue = refl; alpha = refl }
sizes_at (suc (suc (suc (suc (suc (suc (suc zero))))))) l m = record { red = refl; green = refl; blue = refl; alpha = refl }
sizes_at (suc (suc (suc (suc (suc (suc (suc (suc zero)))))))) l m = record { red = refl; green = refl; blue = refl; alpha = refl }
sizes_at (suc (suc (suc (suc (suc (suc (suc (suc (suc n))))))))) l m = absurd (omega arith)

pub sizes : (config : ℤ) → pos 1 ≤ℤ config → config ≤ℤ pos 8 → HasSizesOf config
sizes (pos n) l m = sizes_at n (grind (arith)) (grind (arith))
sizes (negsuc n) l m = absurd (grind (arith))

-- two numbers that are there and equal
same_numbers : (x y : Option ℤ) → is_same x y ≡ true → x ≡ y
same_numbers (Some x) (Some y) h = ap Some ((Decides-int_eq x y).0 h)
same_numbers (Some x) None h = absurd (false≢true h)
same_numbers None y h = absurd (false≢true h)

pub alike : (first second : ℤ) → are_compatible first second ≡ true → format_of first ≡ format_of second
unfolding are_compatible format_of
alike first second h =
    let reds = and_parts _ _ h in
    let greens = and_parts _ _ reds.1 in
    let blues = and_parts _ _ greens.1 in
    let alphas = and_parts _ _ blues.1 in
    let red : attribute first (pos EGL_RED_SIZE) ≡ attribute second (pos EGL_RED_SIZE) = same_numbers _ _ reds.0 in
    let green : attribute first (pos EGL_GREEN_SIZE) ≡ attribute second (pos EGL_GREEN_SIZE) = same_numbers _ _ greens.0 in
    let blue : attribute first (pos EGL_BLUE_SIZE) ≡ attribute second (pos EGL_BLUE_SIZE) = same_numbers _ _ blues.0 in
    let alpha : attribute first (pos EGL_ALPHA_SIZE) ≡ attribute second (pos EGL_ALPHA_SIZE) = same_numbers _ _ alphas.0 in
    rw (red, green, blue, alpha) refl
