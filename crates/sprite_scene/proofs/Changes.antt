-- What a change of one object, or a new one, leaves of what a scene is drawn with.
use Rattle.std.proofs.Common.{◌≡◌, ◌≢◌, ℕ, ◌+◌, ◌<◌, ◌≤◌, inl, inr, List, [], ◌∷◌, ◌++◌, length, refl, sym, ap, ◌∙◌, arith, Option, None, Some, get_or, set, is_some}
use Rattle.std.proofs.lemmas.Bool.{cases_eq}
use Rattle.std.proofs.lemmas.List.{get_or-set_other, get_or-set_same, get_or_append_left, length-append, length-set}
use Rattle.std.proofs.lemmas.List.Sums.{sum_by-append, sum_by-set}
use Rattle.std.specs.List.{sum_by}
use Rattle.pixel_formats.specs.declared.pixels.Pixel.{Pixel}
use Rattle.pixel_rows.specs.Images.{ImageValue}
use Rattle.share_group.specs.declared.names.Name.{Name}
use Rattle.texture_objects.specs.Textures.{TextureValue}
use Rattle.driver_objects.specs.declared.contexts.Context.{Context as ContextObject}
use Rattle.driver_objects.specs.declared.objects.Object.{Object}
use Rattle.driver_objects.specs.declared.objects.Object.TheVariants.{Texture, Surface, Storage}
use Rattle.driver_objects.specs.declared.textures.BackedTexture.{BackedTexture}
use Rattle.share_group.specs.Names.{object_of}
use Rattle.driver_objects.specs.Storages.{stored}
use Rattle.egl_model.specs.Objects.{with_texture}
use Rattle.egl_model.specs.Textures.{with_pixels}
use Rattle.egl_model.specs.Sweep.{bytes_in, live_bytes}
use Rattle.model_laws.proofs.References.Places.{below}
use Rattle.sprite_scene.proofs.Views.{Has, IsNearest, IsStored, IsTextureAt, Shows}

abbrev pub Objects : Type 0
Objects = List (Option Object)

-- an object that is there has a place
pub placed : (os : Objects) (n : ℕ) (o : Object) → get_or os n None ≡ Some o → n < length os
placed os n o h = below os n (ap (λ (x : Option Object). is_some x) h)

pub here : (os : Objects) (n : ℕ) (f : Option Object → Option Object) (o : Object) → get_or os n None ≡ Some o → get_or (set os n (f (get_or os n None))) n None ≡ f (Some o)
here os n f o h = get_or-set_same os n (f (get_or os n None)) None (placed os n o h) ∙ ap f h

pub there : (os : Objects) (n m : ℕ) (y : Option Object) → n ≢ m → get_or (set os n y) m None ≡ get_or os m None
there os n m y ne = get_or-set_other os n m y None (λ e. ne (sym e))

pub old : (os : Objects) (n : ℕ) (y o : Object) → get_or os n None ≡ Some o → get_or (os ++ Some y ∷ []) n None ≡ Some o
old os n y o h = get_or_append_left os (Some y ∷ []) None n (placed os n o h) ∙ h

-- ---- Bytes.
pub bytes-set : (os : Objects) (n : ℕ) (y : Option Object) (o : Object) → get_or os n None ≡ Some o → bytes_in y ≡ bytes_in (Some o) → live_bytes (set os n y) ≡ live_bytes os
unfolding live_bytes
bytes-set os n y o h e =
    let a = sum_by-set bytes_in os n y None (placed os n o h) in
    let b = ap bytes_in h in
    omega (arith, a, b, e)

pub bytes-new : (os : Objects) (y : Object) → live_bytes (os ++ Some y ∷ []) ≡ live_bytes os + bytes_in (Some y)
unfolding live_bytes
bytes-new os y = let a = sum_by-append bytes_in os (Some y ∷ []) in omega (arith, a)

-- ---- A new object.
pub shows_new : (os : Objects) (c : ContextObject) (i : ImageValue) (names : List Name) (y : Object) → Shows os c i names → Shows (os ++ Some y ∷ []) c i names
shows_new os c i names y v = record {
  surface = v.surface;
  surface_at = old os 0 y (Surface v.surface) v.surface_at;
  surface_storage = v.surface_storage;
  target_at = old os 1 y _ v.target_at;
  context_at = old os 2 y _ v.context_at;
  group_at = old os 3 y _ v.group_at;
  long = let l = v.long in let e = length-append os (Some y ∷ []) in omega (arith, l, e);
}

pub texture_new : (os : Objects) (x : ℕ) (t : TextureValue) (level : Option ℕ) (y : Object) → IsTextureAt os x t level → IsTextureAt (os ++ Some y ∷ []) x t level
texture_new os x t level y a = record { beyond = a.beyond; is = old os x y _ a.is }

pub stored_new : (os : Objects) (x w h : ℕ) (pixel : ℕ → ℕ → Pixel) (y : Object) → IsStored os x w h pixel → IsStored (os ++ Some y ∷ []) x w h pixel
stored_new os x w h pixel y a = record { image = a.image; beyond = a.beyond; is = old os x y _ a.is; picture = a.picture }

pub has_new : (os : Objects) (names : List Name) (name w h : ℕ) (pixel : ℕ → ℕ → Pixel) (y : Object) → Has os names name w h pixel → Has (os ++ Some y ∷ []) names name w h pixel
has_new os names name w h pixel y a = record {
  object = a.object;
  storage = a.storage;
  texture = a.texture;
  named = a.named;
  textured = texture_new os a.object a.texture (Some a.storage) y a.textured;
  nearest = a.nearest;
  pixels = stored_new os a.storage w h pixel y a.pixels;
}

-- ---- A change of the target, the context or the group.
texture_set : (os : Objects) (n : ℕ) (y : Option Object) (x : ℕ) (t : TextureValue) (level : Option ℕ) → n ≢ x → IsTextureAt os x t level → IsTextureAt (set os n y) x t level
texture_set os n y x t level ne a = record { beyond = a.beyond; is = there os n x y ne ∙ a.is }

stored_set : (os : Objects) (n : ℕ) (y : Option Object) (x w h : ℕ) (pixel : ℕ → ℕ → Pixel) → n ≢ x → IsStored os x w h pixel → IsStored (set os n y) x w h pixel
stored_set os n y x w h pixel ne a = record { image = a.image; beyond = a.beyond; is = there os n x y ne ∙ a.is; picture = a.picture }

pub texture_low : (os : Objects) (n : ℕ) (y : Option Object) (x : ℕ) (t : TextureValue) (level : Option ℕ) → n < 5 → IsTextureAt os x t level → IsTextureAt (set os n y) x t level
texture_low os n y x t level l a = let b = a.beyond in texture_set os n y x t level (omega (arith, b, l)) a

pub has_low : (os : Objects) (names : List Name) (name w h : ℕ) (pixel : ℕ → ℕ → Pixel) (n : ℕ) (y : Option Object) → n < 5 → Has os names name w h pixel → Has (set os n y) names name w h pixel
has_low os names name w h pixel n y l a = record {
  object = a.object;
  storage = a.storage;
  texture = a.texture;
  named = a.named;
  textured = texture_low os n y a.object a.texture (Some a.storage) l a.textured;
  nearest = a.nearest;
  pixels = let b = a.pixels.beyond in stored_set os n y a.storage w h pixel (omega (arith, b, l)) a.pixels;
}

-- ---- A change of a texture leaves the lower objects.
pub shows_high : (os : Objects) (c : ContextObject) (i : ImageValue) (names : List Name) (n : ℕ) (y : Option Object) → 5 ≤ n → Shows os c i names → Shows (set os n y) c i names
shows_high os c i names n y l v = record {
  surface = v.surface;
  surface_at = there os n 0 y (omega (arith, l)) ∙ v.surface_at;
  surface_storage = v.surface_storage;
  target_at = there os n 1 y (omega (arith, l)) ∙ v.target_at;
  context_at = there os n 2 y (omega (arith, l)) ∙ v.context_at;
  group_at = there os n 3 y (omega (arith, l)) ∙ v.group_at;
  long = let k = v.long in let e = length-set os n y in omega (arith, k, e);
}

-- ---- A change of a texture, which leaves what isn't one.
-- a texture whose parameters have changed
abbrev pub retextured : (TextureValue → TextureValue) → BackedTexture → BackedTexture
retextured g x = record x { texture = g x.texture }

-- what leaves storages as they are
abbrev pub LeavesStorages : (Option Object → Option Object) → Type 0
LeavesStorages f = (i : ImageValue) → f (Some (Storage (stored i))) ≡ Some (Storage (stored i))

pub stored_kept : (os : Objects) (n : ℕ) (f : Option Object → Option Object) (x w h : ℕ) (pixel : ℕ → ℕ → Pixel) → LeavesStorages f → IsStored os x w h pixel →
    IsStored (set os n (f (get_or os n None))) x w h pixel
stored_kept os n f x w h pixel leaves a = record {
  image = a.image;
  beyond = a.beyond;
  is = elim (cases_eq n x) [
    | inl e ↦ ap (λ k. get_or (set os n (f (get_or os n None))) k None) (sym e) ∙ here os n f (Storage (stored a.image)) (ap (λ k. get_or os k None) e ∙ a.is) ∙ leaves a.image
    | inr ne ↦ there os n x (f (get_or os n None)) ne ∙ a.is
  ];
  picture = a.picture;
}

pub parameter_here : (os : Objects) (x : ℕ) (g : TextureValue → TextureValue) (t : TextureValue) (level : Option ℕ) → IsTextureAt os x t level →
    IsTextureAt (set os x (with_texture (retextured g) (get_or os x None))) x (g t) level
parameter_here os x g t level a = record { beyond = a.beyond; is = here os x (with_texture (retextured g)) _ a.is }

-- a texture whose parameters may have changed, or not
pub record Retextured (os : Objects) (x : ℕ) (g : TextureValue → TextureValue) (t : TextureValue) (level : Option ℕ) : Type 0 where
  pub texture : TextureValue
  pub nearest : IsNearest texture
  pub is : IsTextureAt os x texture level

retextured_at : (os : Objects) (n : ℕ) (g : TextureValue → TextureValue) (x : ℕ) (t : TextureValue) (level : Option ℕ) → ((u : TextureValue) → IsNearest u → IsNearest (g u)) → IsNearest t → IsTextureAt os x t level →
    Retextured (set os n (with_texture (retextured g) (get_or os n None))) x g t level
retextured_at os n g x t level keeps near a = elim (cases_eq n x) [
  | inl e ↦ record {
    texture = g t;
    nearest = keeps t near;
    is = record {
      beyond = a.beyond;
      is = ap (λ k. get_or (set os n (with_texture (retextured g) (get_or os n None))) k None) (sym e) ∙ here os n (with_texture (retextured g)) _ (ap (λ k. get_or os k None) e ∙ a.is);
    };
  }
  | inr ne ↦ record { texture = t; nearest = near; is = texture_set os n (with_texture (retextured g) (get_or os n None)) x t level ne a }
]

pub has_parameter : (os : Objects) (names : List Name) (name w h : ℕ) (pixel : ℕ → ℕ → Pixel) (n : ℕ) (g : TextureValue → TextureValue) → ((u : TextureValue) → IsNearest u → IsNearest (g u)) →
    Has os names name w h pixel → Has (set os n (with_texture (retextured g) (get_or os n None))) names name w h pixel
has_parameter os names name w h pixel n g keeps a =
    let r = retextured_at os n g a.object a.texture (Some a.storage) keeps a.nearest a.textured in
    record {
      object = a.object;
      storage = a.storage;
      texture = r.texture;
      named = a.named;
      textured = r.is;
      nearest = r.nearest;
      pixels = stored_kept os n (with_texture (retextured g)) a.storage w h pixel (λ i. refl) a.pixels;
    }

-- ---- A texture gets its level 0.
level_in : Option Object → Option ℕ
level_in (Some (Texture x)) = get_or x.levels 0 None
level_in o = None

other_texture : (os : Objects) (n x : ℕ) (t u : TextureValue) (k : ℕ) → IsTextureAt os n t None → IsTextureAt os x u (Some k) → n ≢ x
unfolding level_in
other_texture os n x t u k a b e =
    let same : None ≡ Some k = ap level_in (sym a.is ∙ ap (λ m. get_or os m None) e ∙ b.is) in
    absurd cc

pub level_here : (os : Objects) (x : ℕ) (t : TextureValue) (k : ℕ) → IsTextureAt os x t None → IsTextureAt (set os x (with_pixels 0 (Some k) (get_or os x None))) x t (Some k)
level_here os x t k a = record { beyond = a.beyond; is = here os x (with_pixels 0 (Some k)) _ a.is }

pub has_level : (os : Objects) (names : List Name) (name w h : ℕ) (pixel : ℕ → ℕ → Pixel) (n : ℕ) (t : TextureValue) (k : ℕ) → IsTextureAt os n t None →
    Has os names name w h pixel → Has (set os n (with_pixels 0 (Some k) (get_or os n None))) names name w h pixel
has_level os names name w h pixel n t k none a = record {
  object = a.object;
  storage = a.storage;
  texture = a.texture;
  named = a.named;
  textured = texture_set os n (with_pixels 0 (Some k) (get_or os n None)) a.object a.texture (Some a.storage) (other_texture os n a.object t a.texture a.storage none a.textured) a.textured;
  nearest = a.nearest;
  pixels = stored_kept os n (with_pixels 0 (Some k)) a.storage w h pixel (λ i. refl) a.pixels;
}

-- ---- Other names.
pub has_named : (os : Objects) (names : List Name) (name w h : ℕ) (pixel : ℕ → ℕ → Pixel) (more : List Name) → object_of name more ≡ object_of name names → Has os names name w h pixel → Has os more name w h pixel
has_named os names name w h pixel more e a = record {
  object = a.object;
  storage = a.storage;
  texture = a.texture;
  named = e ∙ a.named;
  textured = a.textured;
  nearest = a.nearest;
  pixels = a.pixels;
}
