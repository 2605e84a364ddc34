-- What the conditions of the calls on names and on textures ask (OpenGL ES 1.1, sections 3.7.1, 3.7.2 and 3.7.11).
use Rattle.std.specs.Prelude.{ℕ, ◌+◌, ◌/◌, ◌^◌, ℤ, pos, Bool, not, ◌&&◌, ◌||◌, ◌==◌, if◌then◌else◌, int_lt, nat_lt}
use Rattle.egl_calls.specs.Ranges.{unsigned}
use Rattle.egl_names.specs.declared.codes.TheConstants.{GL_ALPHA, GL_LUMINANCE, GL_LUMINANCE_ALPHA, GL_RGB, GL_RGBA, GL_UNSIGNED_BYTE, GL_UNSIGNED_SHORT_4_4_4_4, GL_UNSIGNED_SHORT_5_5_5_1, GL_UNSIGNED_SHORT_5_6_5}

-- so many names are given at once, at most
abbrev pub is_no_count : ℤ → Bool
is_no_count n = int_lt n (pos 0) || int_lt (pos 256) n

-- ---- Pixels that are given: their formats, and the types of their components.
abbrev pub is_image_format : ℕ → Bool
is_image_format format =
    (format == GL_RGB) || (format == GL_RGBA) || (format == GL_ALPHA) || (format == GL_LUMINANCE) || (format == GL_LUMINANCE_ALPHA)

abbrev pub is_image_type : ℕ → Bool
is_image_type kind =
    (kind == GL_UNSIGNED_BYTE) || (kind == GL_UNSIGNED_SHORT_5_6_5) || (kind == GL_UNSIGNED_SHORT_4_4_4_4)
    || (kind == GL_UNSIGNED_SHORT_5_5_5_1)

-- ---- Levels. A texture has those from 0 to 10
abbrev pub is_no_level : ℤ → Bool
is_no_level level = int_lt level (pos 0) || int_lt (pos 10) level

-- the longest side of a level
abbrev pub longest_side : ℕ → ℕ
longest_side level = if nat_lt 10 level then 0 else 1024 / 2 ^ level

-- 0, or a power of 2 up to 1,024
abbrev pub is_power : ℕ → Bool
is_power n =
    (n == 0) || (n == 1) || (n == 2) || (n == 4) || (n == 8) || (n == 16) || (n == 32) || (n == 64) || (n == 128) || (n == 256)
    || (n == 512) || (n == 1024)

abbrev pub is_no_level_side : ℕ → ℤ → Bool
is_no_level_side level side = int_lt side (pos 0) || nat_lt (longest_side level) (unsigned side) || not (is_power (unsigned side))

-- a part of a side: where it begins and how long it is
abbrev pub is_no_part : ℕ → ℤ → ℤ → Bool
is_no_part side first size = int_lt first (pos 0) || int_lt size (pos 0) || nat_lt side (unsigned first + unsigned size)

-- it is no part of a level's either, where the level is there; none has a negative side, wherever it were to lie
abbrev pub is_outside_side : Bool → ℕ → ℤ → ℤ → Bool
is_outside_side is_stored side first size = int_lt size (pos 0) || (is_no_part side first size && is_stored)
