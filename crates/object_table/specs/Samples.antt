-- What a draw samples of a texture, by how storages are looked up (OES_draw_texture).
use Rattle.std.specs.Prelude.{ℕ, map, if◌then◌else◌, List, Option, None}
use Rattle.std.specs.Option.{option_and_then, option_map}
use Rattle.egl_calls.specs.Ranges.{unsigned}
use Rattle.pixel_rows.specs.declared.rects.Rect.{Rect}
use Rattle.texture_objects.specs.Levels.{is_complete, level_at, level_for}
use Rattle.texture_objects.specs.declared.levels.Shape.{Shape}
use Rattle.rect_pipeline.specs.Samplers.{SamplerValue}
use Rattle.driver_objects.specs.Storages.{StorageValue}
use Rattle.driver_objects.specs.declared.textures.BackedTexture.{BackedTexture}
use Rattle.egl_model.specs.Draws.{sampler_over, shape_of}
use Rattle.egl_model.specs.Objects.{as_storage}
use Rattle.egl_model.specs.Textures.{storage_at}
use Rattle.ref_store.specs.Kept.{Kept, at}
use Rattle.object_table.specs.declared.stored.Stored.{Stored}
use Rattle.object_table.specs.Nodes.{object_in}

abbrev pub stored_in : List (Option (Kept Stored)) → ℕ → Option StorageValue
stored_in nodes n = as_storage (object_in (at nodes n))

abbrev pub shape_by : (ℕ → Option StorageValue) → Option ℕ → Option Shape
shape_by look o = option_map shape_of (option_and_then look o)

abbrev pub shapes_by : (ℕ → Option StorageValue) → List (Option ℕ) → List (Option Shape)
shapes_by look levels = map (shape_by look) levels

abbrev pub sampler_with : (ℕ → Option StorageValue) → List (Option Shape) → Rect → BackedTexture → Option SamplerValue
sampler_with look shapes r x =
    if is_complete x.texture shapes then sampler_over x.texture (level_at shapes 0) (option_and_then look (storage_at (level_for x.texture shapes (unsigned r.w) (unsigned r.h)) x)) else None

-- the same of a texture that there may be
abbrev pub sampler_from : (ℕ → Option StorageValue) → Rect → Option BackedTexture → Option SamplerValue
sampler_from look r o = option_and_then (λ x. sampler_with look (shapes_by look x.levels) r x) o
