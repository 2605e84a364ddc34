-- What holds of a texture's parameters, of complete levels, and of the pixels that calls give.
use Rattle.std.specs.Prelude.{◌≡◌, ◌≢◌, ◌↔◌, ℕ, pos, ◌*◌, ◌^◌, ◌<◌, ◌≤◌, true, false, not, ◌||◌, ◌&&◌, ◌==◌, List, ◌∷◌, replicate, is_some}
use Rattle.std.specs.declared.option.Option.{Option}
use Rattle.std.specs.declared.option.Option.TheVariants.{None, Some}
use Rattle.egl_calls.specs.Calls.{CallValue}
use Rattle.egl_calls.specs.Ranges.{unsigned}
use Rattle.pixel_formats.specs.Formats.{base_of}
use Rattle.pixel_formats.specs.Pixels.{quantize}
use Rattle.pixel_rows.specs.Images.{ImageValue, IsImage, blank, no_pixel, pixel_at}
use Rattle.pixel_rows.specs.Payloads.{payload_pixel, row_long}
use Rattle.pixel_rows.specs.Rects.{is_in}
use Rattle.texture_objects.specs.Greatest.{IsGreatest}
use Rattle.texture_objects.specs.Levels.{are_enough, crop_sides, is_complete, last_level, level_at, level_for, log_of, mipmap_of}
use Rattle.texture_objects.specs.MinFilters.{uses_mipmaps}
use Rattle.texture_objects.specs.Textures.{TextureValue, is_parameter_pair, parameter, with_parameter}
use Rattle.texture_objects.specs.Uploads.{IsImageCall, data_form, given, part_rect, rewritten, signed, uploaded, whole_rect}
use Rattle.texture_objects.specs.declared.levels.Shape.{Shape}

-- a pair is accepted exactly where the table has it
abbrev pub AcceptsTheTable : Type 0
AcceptsTheTable = (pname value : ℕ) (t : TextureValue) → is_some (with_parameter pname value t) ≡ is_parameter_pair pname value

-- a parameter that was set is answered
abbrev pub AnswersWhatIsSet : Type 0
AnswersWhatIsSet = (pname value : ℕ) (t u : TextureValue) → with_parameter pname value t ≡ Some u → parameter pname u ≡ Some (pos value)

-- the others are as they were, and so is the crop rectangle
abbrev pub KeepsOtherParameters : Type 0
KeepsOtherParameters = (pname value other : ℕ) (t u : TextureValue) → with_parameter pname value t ≡ Some u → pname ≢ other →
    (parameter other u ≡ parameter other t) × (u.crop ≡ t.crop)

-- the floor of the logarithm to base 2
abbrev pub IsFloorOfLog : Type 0
IsFloorOfLog = (side : ℕ) → 0 < side → side < 2 ^ 32 → (2 ^ log_of side ≤ side) × (side < 2 * 2 ^ log_of side)

-- level 0 has storage, and where the filter uses mipmaps, each level from 1 to the last has just the storage that
-- it wants
pub record IsComplete (t : TextureValue) (levels : List (Option Shape)) : Type 0 where
  pub base : Shape
  pub stored : level_at levels 0 ≡ Some base
  pub mipmaps : uses_mipmaps t.min_filter ≡ true → (k : ℕ) → 1 ≤ k → k ≤ last_level base → level_at levels k ≡ Some (mipmap_of base k)

-- the test of completeness says just that
abbrev pub IsCompleteByItsLevels : Type 0
IsCompleteByItsLevels = (t : TextureValue) (levels : List (Option Shape)) → (is_complete t levels ≡ true) ↔ IsComplete t levels

-- with mipmaps the sampled level is the greatest with enough texels
abbrev pub SamplesTheGreatestLevel : Type 0
SamplesTheGreatestLevel = (t : TextureValue) (levels : List (Option Shape)) (base : Shape) (w h : ℕ) → level_at levels 0 ≡ Some base → uses_mipmaps t.min_filter ≡ true →
    IsGreatest (are_enough (crop_sides t) (record { w = w; h = h })) (last_level base) (level_for t levels w h)

-- storage at level 0 alone
abbrev pub only : Option Shape → List (Option Shape)
only base = base ∷ replicate 10 None

-- so a texture is complete where it has storage, and its filter uses no mipmaps or its storage is 1 by 1, and then
-- level 0 is sampled
pub record IsPlain (t : TextureValue) (base : Shape) : Type 0 where
  pub complete : is_complete t (only (Some base)) ≡ (not (uses_mipmaps t.min_filter) || ((base.w == 1) && (base.h == 1)))
  pub incomplete : is_complete t (only None) ≡ false
  pub level : (w h : ℕ) → is_complete t (only (Some base)) ≡ true → level_for t (only (Some base)) w h ≡ 0

abbrev pub IsPlainWithoutMipmaps : Type 0
IsPlainWithoutMipmaps = (t : TextureValue) (base : Shape) → 0 < base.w → 0 < base.h → IsPlain t base

-- a pixel of a new image is read from its place in the data
abbrev pub ReadsPixelsAtTheirPlaces : Type 0
ReadsPixelsAtTheirPlaces = (c : CallValue) (align x y : ℕ) → IsImageCall c → x < (uploaded c align).width → y < (uploaded c align).height →
    pixel_at (uploaded c align) x y ≡ quantize (data_form c) (payload_pixel (given c.bytes) (data_form c) (row_long (whole_rect c) (data_form c) align) x y)

-- a null pointer gives zeros: a new image is blank
abbrev pub NullGivesZeros : Type 0
NullGivesZeros = (c : CallValue) (align : ℕ) → IsImageCall c → c.bytes ≡ None →
    uploaded c align ≡ blank (data_form c) (unsigned (signed c 3)) (unsigned (signed c 4))

-- and the pixels of a part read as those of a blank one, where data and storage have one base format
abbrev pub NullGivesAPartZeros : Type 0
NullGivesAPartZeros = (c : CallValue) (v : ImageValue) (align x y : ℕ) → IsImage v → base_of (data_form c) ≡ base_of v.format → c.bytes ≡ None →
    x < v.width → y < v.height → is_in (part_rect c) x y ≡ true → pixel_at (rewritten c align v) x y ≡ quantize v.format no_pixel
