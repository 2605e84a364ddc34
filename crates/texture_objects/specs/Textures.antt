-- Textures: their parameters (OpenGL ES 1.1, "Texture Parameters"; OES_draw_texture).
use Rattle.std.specs.Prelude.{◌≡◌, ℕ, ℤ, pos, Bool, ◌||◌, ◌&&◌, ◌==◌, List, [], ◌∷◌, length, replicate, if◌then◌else◌, slice_index_or, All}
use Rattle.std.specs.Option.{option_map}
use Rattle.std.specs.declared.option.Option.{Option}
use Rattle.std.specs.declared.option.Option.TheVariants.{None, Some}
use Rattle.egl_calls.specs.Ranges.{IsNumber}
use Rattle.egl_names.specs.declared.codes.TheConstants.{GL_TEXTURE_MIN_FILTER, GL_TEXTURE_MAG_FILTER, GL_TEXTURE_WRAP_S, GL_TEXTURE_WRAP_T}
use Rattle.texture_objects.specs.MagFilters.{is_mag_filter, mag_filter_code, mag_filter_of}
use Rattle.texture_objects.specs.MinFilters.{is_min_filter, min_filter_code, min_filter_of}
use Rattle.texture_objects.specs.WrapModes.{is_wrap_mode, wrap_mode_code, wrap_mode_of}
use Rattle.texture_objects.specs.declared.parameters.MagFilter.{MagFilter}
use Rattle.texture_objects.specs.declared.parameters.MagFilter.TheVariants.{Linear}
use Rattle.texture_objects.specs.declared.parameters.MinFilter.{MinFilter}
use Rattle.texture_objects.specs.declared.parameters.MinFilter.TheVariants.{NearestMipmapLinear}
use Rattle.texture_objects.specs.declared.parameters.WrapMode.{WrapMode}
use Rattle.texture_objects.specs.declared.parameters.WrapMode.TheVariants.{Repeat}

-- how a texture is sampled. Its pixels aren't its own: each level's stand in a storage
pub record TextureValue : Type 0 where
  pub min_filter : MinFilter
  pub mag_filter : MagFilter
  pub wrap_s : WrapMode
  pub wrap_t : WrapMode
  -- four numbers: left, bottom, width and height in texels; a negative width or height turns the picture
  pub crop : List ℤ

-- a new texture
abbrev pub fresh : TextureValue
fresh = record {
  min_filter = NearestMipmapLinear;
  mag_filter = Linear;
  wrap_s = Repeat;
  wrap_t = Repeat;
  crop = replicate 4 (pos 0);
}

-- the numbers of the crop rectangle
abbrev pub crop_left : TextureValue → ℤ
crop_left t = slice_index_or t.crop 0 (pos 0)

abbrev pub crop_bottom : TextureValue → ℤ
crop_bottom t = slice_index_or t.crop 1 (pos 0)

abbrev pub crop_width : TextureValue → ℤ
crop_width t = slice_index_or t.crop 2 (pos 0)

abbrev pub crop_height : TextureValue → ℤ
crop_height t = slice_index_or t.crop 3 (pos 0)

-- what is true of each crop rectangle: four 32-bit numbers, signed or not
pub record IsCrop (xs : List ℤ) : Type 0 where
  pub four : length xs ≡ 4
  pub numbers : All IsNumber xs

-- the crop rectangle of four numbers
abbrev pub crop_of : ℤ → ℤ → ℤ → ℤ → List ℤ
crop_of u v w h = u ∷ v ∷ w ∷ h ∷ []

-- the pairs of a parameter and a value of glTexParameterx, by their codes
abbrev pub is_parameter_pair : ℕ → ℕ → Bool
is_parameter_pair pname value =
    ((pname == GL_TEXTURE_MIN_FILTER) && is_min_filter value)
    || ((pname == GL_TEXTURE_MAG_FILTER) && is_mag_filter value)
    || (((pname == GL_TEXTURE_WRAP_S) || (pname == GL_TEXTURE_WRAP_T)) && is_wrap_mode value)

-- a texture once a parameter has a value; none where the pair is none of those
abbrev pub with_parameter : ℕ → ℕ → TextureValue → Option TextureValue
with_parameter pname value t =
    if pname == GL_TEXTURE_MIN_FILTER then option_map (λ f. record t { min_filter = f }) (min_filter_of value)
    else if pname == GL_TEXTURE_MAG_FILTER then option_map (λ f. record t { mag_filter = f }) (mag_filter_of value)
    else if pname == GL_TEXTURE_WRAP_S then option_map (λ m. record t { wrap_s = m }) (wrap_mode_of value)
    else if pname == GL_TEXTURE_WRAP_T then option_map (λ m. record t { wrap_t = m }) (wrap_mode_of value)
    else None

-- the value of a parameter, by its code
abbrev pub parameter : ℕ → TextureValue → Option ℤ
parameter pname t =
    if pname == GL_TEXTURE_MIN_FILTER then Some (pos (min_filter_code t.min_filter))
    else if pname == GL_TEXTURE_MAG_FILTER then Some (pos (mag_filter_code t.mag_filter))
    else if pname == GL_TEXTURE_WRAP_S then Some (pos (wrap_mode_code t.wrap_s))
    else if pname == GL_TEXTURE_WRAP_T then Some (pos (wrap_mode_code t.wrap_t))
    else None
