-- Of what there may be an EGL image, by how storages are looked up (EGL 1.5, section 3.9), and textures that lose their levels (OES_EGL_image).
use Rattle.std.specs.Prelude.{ℕ, zero, suc, Bool, false, not, ◌&&◌, is_some, Option, None, Some}
use Rattle.std.specs.List.{list_any}
use Rattle.texture_objects.specs.Levels.{is_complete}
use Rattle.driver_objects.specs.Storages.{StorageValue}
use Rattle.driver_objects.specs.declared.objects.Object.{Object}
use Rattle.driver_objects.specs.declared.objects.Object.TheVariants.{Renderbuffer, Texture}
use Rattle.driver_objects.specs.declared.textures.BackedTexture.{BackedTexture}
use Rattle.egl_model.specs.Images.{above_base, has_pixels}
use Rattle.egl_model.specs.Textures.{with_level}
use Rattle.object_table.specs.Samples.{shapes_by}

abbrev pub has_pixels_by : (ℕ → Option StorageValue) → Option ℕ → Bool
has_pixels_by look None = false
has_pixels_by look (Some k) = has_pixels (look k)

abbrev pub is_source_by : (ℕ → Option StorageValue) → Option Object → Bool
is_source_by look (Some (Texture x)) = list_any is_some (shapes_by look x.levels)
is_source_by look (Some (Renderbuffer r)) = has_pixels_by look r.storage
is_source_by look o = false

abbrev pub is_incomplete_by : (ℕ → Option StorageValue) → Option Object → Bool
is_incomplete_by look (Some (Texture x)) = list_any is_some (above_base (shapes_by look x.levels)) && not (is_complete x.texture (shapes_by look x.levels))
is_incomplete_by look o = false

-- a texture whose levels from 1 to some level have lost their storages
abbrev pub emptied : ℕ → BackedTexture → BackedTexture
emptied zero x = x
emptied (suc k) x = with_level (suc k) None (emptied k x)
