-- A new texture with its texels.
use Rattle.std.proofs.Common.{◌≡◌, ◌≢◌, ℕ, ◌+◌, ◌*◌, ◌<◌, ◌≤◌, List, refl, true, None}
use Rattle.egl_names.specs.declared.codes.TheConstants.{GL_TEXTURE_MAG_FILTER, GL_TEXTURE_MIN_FILTER}
use Rattle.pixel_formats.specs.declared.pixels.Pixel.{Pixel}
use Rattle.share_group.specs.Names.{object_of}
use Rattle.texture_objects.specs.Textures.{fresh}
use Rattle.egl_model.specs.State.{State}
use Rattle.scene_reader.specs.Items.{is_texture_side}
use Rattle.sprite_scene.specs.Calls.{bind_texture, new_texture, set_nearest, tex_image}
use Rattle.sprite_scene.proofs.NameLaws.{object_put}
use Rattle.sprite_scene.proofs.PixelCalls.{Made, image_goes, image_of}
use Rattle.sprite_scene.proofs.Plays.{Plays, plays_one, plays_then}
use Rattle.sprite_scene.proofs.TextureCalls.{Changed, Making, bind_new_goes, grown, grown_goes, shrunk, shrunk_goes, with_new, with_texture_named}
use Rattle.sprite_scene.proofs.Views.{Has, IsPicture, Stands, View}

-- a name with a new texture of these pixels, besides those that there were
pub record HasNew (s : State) (v : View) (b name w h : ℕ) (pixel : ℕ → ℕ → Pixel) (a : State) : Type 0 where
  pub object : ℕ
  pub stands : Stands a (with_texture_named v name object) (b + w * h * 4)
  pub has : Has a.objects (with_new v.names name object) name w h pixel
  pub keeps : (other i j : ℕ) (old : ℕ → ℕ → Pixel) → name ≢ other → Has s.objects v.names other i j old → Has a.objects (with_new v.names name object) other i j old

pub texture_plays : (s : State) (v : View) (b name w h : ℕ) (texels : List ℕ) (pixel : ℕ → ℕ → Pixel) → Stands s v b → 0 < name → object_of name v.names ≡ None → is_texture_side w ≡ true → is_texture_side h ≡ true → b + w * h * 4 ≤ 1073741824 →
    IsPicture w h pixel (image_of w h texels) → Plays s (new_texture name w h texels) (HasNew s v b name w h pixel)
texture_plays s v b name w h texels pixel k some none sw sh room picture =
    plays_then s (bind_texture name) _ (Making s v b name fresh) (HasNew s v b name w h pixel) (bind_new_goes s v b name k some none) (λ a m.
    let u = with_texture_named v name m.object in
    plays_then a (set_nearest GL_TEXTURE_MIN_FILTER) _ (Changed a u b m.object (shrunk fresh) None) (HasNew s v b name w h pixel) (shrunk_goes a u b m.object fresh None m.stands refl m.texture) (λ c n.
    plays_then c (set_nearest GL_TEXTURE_MAG_FILTER) _ (Changed c u b m.object (grown (shrunk fresh)) None) (HasNew s v b name w h pixel) (grown_goes c u b m.object (shrunk fresh) None n.stands refl n.texture) (λ d o.
    plays_one d (tex_image w h texels) (Made d u b m.object w h pixel) (HasNew s v b name w h pixel)
    (image_goes d u b m.object w h (grown (shrunk fresh)) texels pixel o.stands refl (object_put name m.object v.names) o.texture (record { filter = refl; across = refl; up = refl }) sw sh room picture) (λ e p.
    record {
      object = m.object;
      stands = p.stands;
      has = p.has;
      keeps = λ other i j old ne z. p.keeps other i j old (o.keeps other i j old (n.keeps other i j old (m.keeps other i j old ne z)));
    }))))
