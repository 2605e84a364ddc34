-- The calls that draw a scene.
use Rattle.std.specs.Prelude.{ℕ, ◌+◌, ℤ, pos, ◌&&◌, nat_lt, if◌then◌else◌, List, [], ◌∷◌, ◌++◌, length, map, Option, None, Some}
use Rattle.egl_calls.specs.Calls.{CallValue}
use Rattle.egl_calls.specs.declared.kinds.Kind.{Kind}
use Rattle.egl_calls.specs.declared.kinds.Kind.TheVariants.{Egl, Gl}
use Rattle.egl_calls.specs.declared.kinds.EglKind.TheVariants.{CreatePbufferSurface}
use Rattle.egl_calls.specs.declared.kinds.GlKind.TheVariants.{Enable, Scissor, BindTexture, TexParameterx, TexParameteriv, TexImage2d, DrawTexi, ReadPixels}
use Rattle.egl_names.specs.declared.codes.TheConstants.{EGL_WIDTH, EGL_HEIGHT, GL_NEAREST, GL_RGBA, GL_SCISSOR_TEST, GL_TEXTURE_2D, GL_TEXTURE_CROP_RECT_OES, GL_TEXTURE_MAG_FILTER, GL_TEXTURE_MIN_FILTER, GL_UNSIGNED_BYTE}
use Rattle.pixel_formats.specs.declared.pixels.Pixel.{Pixel}
use Rattle.pixel_rows.specs.Images.{no_pixel}
use Rattle.scene_reader.specs.Items.{atlas_with, least_power}
use Rattle.scene_reader.specs.Scenes.{SceneValue}
use Rattle.scene_reader.specs.declared.items.Atlas.{Atlas}
use Rattle.scene_reader.specs.declared.items.Item.{Item}
use Rattle.scene_reader.specs.declared.items.Item.TheVariants.{Atlas as AtlasItem, Sprite, Smooth, Tile, Clip, NoClip}
use Rattle.scene_reader.specs.declared.items.Part.{Part}
use Rattle.scene_reader.specs.declared.items.ScaledPart.{ScaledPart}
use Rattle.sprite_scene.specs.Draws.{tiles}
use Rattle.sprite_scene.specs.declared.drawing.TheConstants.{CREATE_CONTEXT, GET_DISPLAY, INITIALIZE, MAKE_CURRENT, REPLACE}
use Rattle.sprite_scene.specs.Painted.{picture}
use Rattle.sprite_scene.specs.Samples.{smooth_at}

-- the eight numbers of a call
abbrev pub numbers : ℤ → ℤ → ℤ → ℤ → ℤ → ℤ → ℤ → ℤ → List ℤ
numbers a b c d e f g h = a ∷ b ∷ c ∷ d ∷ e ∷ f ∷ g ∷ h ∷ []

-- a call without a list and bytes
abbrev pub plain : Kind → List ℤ → CallValue
plain kind args = record { kind = kind; args = args; list = []; bytes = None }

-- one that is the same in each scene
abbrev pub fixed : Kind × List ℤ → CallValue
fixed c = plain c.0 c.1

abbrev pub listed : Kind → List ℤ → List ℤ → CallValue
listed kind args list = record { kind = kind; args = args; list = list; bytes = None }

-- ---- Display 1, and a surface and a context of the config whose components have 8 bits, the handles 3 and 4.
abbrev pub get_display : CallValue
get_display = fixed GET_DISPLAY

abbrev pub initialize : CallValue
initialize = fixed INITIALIZE

abbrev pub create_pbuffer : ℕ → ℕ → CallValue
create_pbuffer w h = listed (Egl CreatePbufferSurface) (numbers (pos 1) (pos 4) (pos 0) (pos 0) (pos 0) (pos 0) (pos 0) (pos 0)) (pos EGL_WIDTH ∷ pos w ∷ pos EGL_HEIGHT ∷ pos h ∷ [])

abbrev pub create_context : CallValue
create_context = fixed CREATE_CONTEXT

abbrev pub make_current : CallValue
make_current = fixed MAKE_CURRENT

abbrev pub context_calls : ℕ → ℕ → List CallValue
context_calls w h = get_display ∷ initialize ∷ create_pbuffer w h ∷ create_context ∷ make_current ∷ []

-- ---- Textures replace what is there, inside the scissor box.
abbrev pub replace : CallValue
replace = fixed REPLACE

abbrev pub enable : ℕ → CallValue
enable cap = plain (Gl Enable) (numbers (pos cap) (pos 0) (pos 0) (pos 0) (pos 0) (pos 0) (pos 0) (pos 0))

abbrev pub opening_calls : ℕ → ℕ → List CallValue
opening_calls w h = context_calls w h ++ replace ∷ enable GL_TEXTURE_2D ∷ enable GL_SCISSOR_TEST ∷ []

abbrev pub scissor : ℤ → ℤ → ℕ → ℕ → CallValue
scissor x y w h = plain (Gl Scissor) (numbers x y (pos w) (pos h) (pos 0) (pos 0) (pos 0) (pos 0))

-- ---- A texture, and its texels.
abbrev pub bind_texture : ℕ → CallValue
bind_texture name = plain (Gl BindTexture) (numbers (pos GL_TEXTURE_2D) (pos name) (pos 0) (pos 0) (pos 0) (pos 0) (pos 0) (pos 0))

abbrev pub set_nearest : ℕ → CallValue
set_nearest pname = plain (Gl TexParameterx) (numbers (pos GL_TEXTURE_2D) (pos pname) (pos GL_NEAREST) (pos 0) (pos 0) (pos 0) (pos 0) (pos 0))

abbrev pub tex_image : ℕ → ℕ → List ℕ → CallValue
tex_image w h texels = record {
  kind = Gl TexImage2d;
  args = numbers (pos GL_TEXTURE_2D) (pos 0) (pos GL_RGBA) (pos w) (pos h) (pos 0) (pos GL_RGBA) (pos GL_UNSIGNED_BYTE);
  list = [];
  bytes = Some texels;
}

abbrev pub new_texture : ℕ → ℕ → ℕ → List ℕ → List CallValue
new_texture name w h texels =
    bind_texture name ∷ set_nearest GL_TEXTURE_MIN_FILTER ∷ set_nearest GL_TEXTURE_MAG_FILTER ∷ tex_image w h texels ∷ []

-- the texels of a smooth part, in the corner of a texture
abbrev pub smooth_texel : Option Atlas → ScaledPart → ℕ → ℕ → Pixel
smooth_texel o s i j = if nat_lt i s.width && nat_lt j s.height then smooth_at o s i j else no_pixel

unfoldable pub smooth_texels : Option Atlas → ScaledPart → List ℕ
smooth_texels o s = picture (smooth_texel o s) (least_power s.width) (least_power s.height)

-- an atlas's texture has the atlas's id as its name, and the textures of smooth parts have those above, by their places among the items
abbrev pub smooth_name : List Item → ℕ
smooth_name before = 65 + length before

-- ---- A draw of the part of a texture that is cut out.
abbrev pub crop : ℕ → ℕ → ℕ → ℕ → CallValue
crop u v w h = listed (Gl TexParameteriv) (numbers (pos GL_TEXTURE_2D) (pos GL_TEXTURE_CROP_RECT_OES) (pos 0) (pos 0) (pos 0) (pos 0) (pos 0) (pos 0)) (pos u ∷ pos v ∷ pos w ∷ pos h ∷ [])

abbrev pub crop_part : Part → CallValue
crop_part p = crop p.u p.v p.width p.height

abbrev pub draw_tex : ScaledPart → CallValue
draw_tex s = plain (Gl DrawTexi) (numbers s.x s.y (pos 0) (pos s.width) (pos s.height) (pos 0) (pos 0) (pos 0))

-- ---- What each item behind others is drawn by, on a target of sides w and h.
abbrev pub smooth_calls : ℕ → Option Atlas → ScaledPart → List CallValue
smooth_calls name o s = new_texture name (least_power s.width) (least_power s.height) (smooth_texels o s) ++ crop 0 0 s.width s.height ∷ draw_tex s ∷ []

abbrev pub item_calls : ℕ → ℕ → List Item → Item → List CallValue
item_calls w h before (AtlasItem a) = new_texture a.id a.width a.height a.texels
item_calls w h before (Sprite s) = bind_texture s.part.atlas ∷ crop_part s.part ∷ draw_tex s ∷ []
item_calls w h before (Smooth s) = smooth_calls (smooth_name before) (atlas_with before s.part.atlas) s
item_calls w h before (Tile t) = bind_texture t.part.atlas ∷ crop_part t.part ∷ map draw_tex (tiles t)
item_calls w h before (Clip c) = scissor c.x c.y c.width c.height ∷ []
item_calls w h before NoClip = scissor (pos 0) (pos 0) w h ∷ []

abbrev pub calls_from : ℕ → ℕ → List Item → List Item → List CallValue
calls_from w h before [] = []
calls_from w h before (i ∷ more) = item_calls w h before i ++ calls_from w h (before ++ i ∷ []) more

-- the whole target is read
abbrev pub read_all : ℕ → ℕ → CallValue
read_all w h = plain (Gl ReadPixels) (numbers (pos 0) (pos 0) (pos w) (pos h) (pos GL_RGBA) (pos GL_UNSIGNED_BYTE) (pos 0) (pos 0))

abbrev pub calls_of : SceneValue → List CallValue
calls_of s = opening_calls s.width s.height ++ calls_from s.width s.height [] s.items ++ read_all s.width s.height ∷ []
