-- What a driver has while a scene is drawn.
use Rattle.std.proofs.Common.{◌≡◌, ℕ, ◌≤◌, ◌<◌, ℤ, pos, true, List, [], ◌∷◌, length, Option, None, Some, get_or}
use Rattle.std.specs.Prelude.{replicate}
use Rattle.egl_calls.specs.declared.errors.EglError.TheVariants.{Success}
use Rattle.egl_calls.specs.declared.errors.GlError.TheVariants.{NoError}
use Rattle.context_state.specs.Parts.{PartValue, whole}
use Rattle.pixel_formats.specs.declared.formats.Format.TheVariants.{Rgba8888}
use Rattle.pixel_formats.specs.declared.pixels.Pixel.{Pixel}
use Rattle.pixel_rows.specs.Images.{ImageValue, IsImage, pixel_at}
use Rattle.share_group.specs.Groups.{GroupValue}
use Rattle.share_group.specs.Names.{object_of}
use Rattle.share_group.specs.declared.names.Name.{Name}
use Rattle.texture_objects.specs.Textures.{TextureValue}
use Rattle.texture_objects.specs.declared.parameters.MinFilter.TheVariants.{Nearest}
use Rattle.texture_objects.specs.declared.parameters.WrapMode.TheVariants.{Repeat}
use Rattle.driver_objects.specs.Storages.{stored}
use Rattle.driver_objects.specs.declared.contexts.Context.{Context as ContextObject}
use Rattle.driver_objects.specs.declared.objects.Object.{Object}
use Rattle.driver_objects.specs.declared.objects.Object.TheVariants.{Context, Group, Texture, Surface, Storage}
use Rattle.driver_objects.specs.declared.surfaces.BackedSurface.{BackedSurface}
use Rattle.egl_model.specs.declared.records.ClientApi.TheVariants.{OpenGlEs}
use Rattle.egl_model.specs.declared.records.ThreadRecord.{ThreadRecord}
use Rattle.egl_model.specs.State.{State, record_of}
use Rattle.egl_model.specs.Sweep.{live_bytes}

-- ---- The thread: its surface is the object 0 by the handle 3, and its context the object 2 by the handle 4.
abbrev pub drawing_record : ThreadRecord
drawing_record = record {
  error = Success;
  api = OpenGlEs;
  context = Some (record { object = 2; handle = 4 });
  draw = Some (record { object = 0; handle = 3 });
  read = Some (record { object = 0; handle = 3 });
  wait = None;
}

pub record IsThread (s : State) : Type 0 where
  pub is : record_of s 0 ≡ drawing_record
  pub video : s.video ≡ 1073741824

-- ---- The sides of the target, the scissor box, the name and the texture that are bound, the pixels of the target, and the names of textures.
pub record View : Type 0 where
  pub w : ℕ
  pub h : ℕ
  pub clip : List ℤ
  pub name : ℕ
  pub texture : Option ℕ
  pub target : ImageValue
  pub names : List Name

-- what the context keeps for itself
abbrev pub settings : View → PartValue
settings v = record {
  error = NoError;
  clear_color = replicate 4 (pos 0);
  color = replicate 4 (pos 65536);
  mask = replicate 4 true;
  viewport = whole v.w v.h;
  scissor_box = v.clip;
  is_scissor_enabled = true;
  is_texture_enabled = true;
  is_replacing = true;
  pack_alignment = 4;
  unpack_alignment = 4;
  bound = record { texture = v.name; array_buffer = 0; element_array_buffer = 0; renderbuffer = 0; framebuffer = 0 };
  was_current = true;
}

-- the context, with such a part
abbrev pub context_with : Option ℕ → ℕ → PartValue → ContextObject
context_with texture name p = record {
  config = 4;
  display = 1;
  part = Some p;
  group = 3;
  texture = 4;
  bound = record { texture = texture; array_buffer = None; element_array_buffer = None; renderbuffer = None; framebuffer = None };
  names = record { texture = name; array_buffer = 0; element_array_buffer = 0; renderbuffer = 0; framebuffer = 0 };
  flushed = 0;
}

abbrev pub context_of : View → ContextObject
context_of v = context_with v.texture v.name (settings v)

abbrev pub group_with : List Name → GroupValue
group_with names = record { textures = names; buffers = []; renderbuffers = []; framebuffers = [] }

-- a table in which the surface, its storage, the context and its group are so
pub record Shows (os : List (Option Object)) (context : ContextObject) (target : ImageValue) (names : List Name) : Type 0 where
  pub surface : BackedSurface
  pub surface_at : get_or os 0 None ≡ Some (Surface surface)
  pub surface_storage : surface.storage ≡ 1
  pub target_at : get_or os 1 None ≡ Some (Storage (stored target))
  pub context_at : get_or os 2 None ≡ Some (Context context)
  pub group_at : get_or os 3 None ≡ Some (Group (group_with names))
  pub long : 5 ≤ length os

-- a state in which a scene is drawn, with at most so many bytes of pixels
pub record Stands (s : State) (v : View) (bytes : ℕ) : Type 0 where
  pub thread : IsThread s
  pub shows : Shows s.objects (context_of v) v.target v.names
  pub few : live_bytes s.objects ≤ bytes

-- ---- Textures.
-- the levels of a texture with a storage at level 0
abbrev pub one_level : Option ℕ → List (Option ℕ)
one_level o = o ∷ None ∷ None ∷ None ∷ None ∷ None ∷ None ∷ None ∷ None ∷ None ∷ None ∷ []

-- a texture that shows the nearest texel
pub record IsNearest (t : TextureValue) : Type 0 where
  pub filter : t.min_filter ≡ Nearest
  pub across : t.wrap_s ≡ Repeat
  pub up : t.wrap_t ≡ Repeat

-- an image with bytes for components, and these pixels
pub record IsPicture (w h : ℕ) (pixel : ℕ → ℕ → Pixel) (i : ImageValue) : Type 0 where
  pub whole : IsImage i
  pub format : i.format ≡ Rgba8888
  pub width : i.width ≡ w
  pub height : i.height ≡ h
  pub each : (x y : ℕ) → x < w → y < h → pixel_at i x y ≡ pixel x y

-- the texture that is an object
pub record IsTextureAt (os : List (Option Object)) (object : ℕ) (t : TextureValue) (level : Option ℕ) : Type 0 where
  pub beyond : 5 ≤ object
  pub is : get_or os object None ≡ Some (Texture (record { texture = t; levels = one_level level }))

-- a storage of frozen pixels
pub record IsStored (os : List (Option Object)) (storage w h : ℕ) (pixel : ℕ → ℕ → Pixel) : Type 0 where
  pub image : ImageValue
  pub beyond : 5 ≤ storage
  pub is : get_or os storage None ≡ Some (Storage (stored image))
  pub picture : IsPicture w h pixel image

-- a name with a texture of these pixels
pub record Has (os : List (Option Object)) (names : List Name) (name w h : ℕ) (pixel : ℕ → ℕ → Pixel) : Type 0 where
  pub object : ℕ
  pub storage : ℕ
  pub texture : TextureValue
  pub named : object_of name names ≡ Some object
  pub textured : IsTextureAt os object texture (Some storage)
  pub nearest : IsNearest texture
  pub pixels : IsStored os storage w h pixel
