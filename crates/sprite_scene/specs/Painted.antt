-- The picture of a scene.
use Rattle.std.specs.Prelude.{ℕ, List, [], ◌∷◌, reverse, Option, None}
use Rattle.std.specs.List.{find, flat_map, range_with_len}
use Rattle.std.specs.Option.{option_map_or}
use Rattle.pixel_formats.specs.declared.pixels.Pixel.{Pixel}
use Rattle.pixel_rows.specs.Images.{no_pixel}
use Rattle.scene_reader.specs.Scenes.{SceneValue}
use Rattle.sprite_scene.specs.Draws.{Draw, draws_from, writes}
use Rattle.sprite_scene.specs.Samples.{sample}

-- the last draw that writes a pixel
abbrev pub last_over : List Draw → ℕ → ℕ → Option Draw
last_over ds x y = find (writes x y) (reverse ds)

-- a pixel is the sample of the last draw that covers it and whose clip holds it, or zero where there is none
abbrev pub pixel_of : List Draw → ℕ → ℕ → Pixel
pixel_of ds x y = option_map_or (λ d. sample d x y) (last_over ds x y) no_pixel

-- the draws of a scene, first to last
abbrev pub draws : SceneValue → List Draw
draws s = draws_from None [] s.items

-- red, green, blue and alpha
abbrev pub rgba : Pixel → List ℕ
rgba p = p.r ∷ p.g ∷ p.b ∷ p.a ∷ []

-- a row of so many pixels
abbrev pub painted_row : (ℕ → ℕ → Pixel) → ℕ → ℕ → List ℕ
painted_row pixel w y = flat_map (λ x. rgba (pixel x y)) (range_with_len 0 w)

-- so many rows of them
unfoldable pub picture : (ℕ → ℕ → Pixel) → ℕ → ℕ → List ℕ
picture pixel w h = flat_map (λ y. painted_row pixel w y) (range_with_len 0 h)

-- the bytes of the picture, row by row from row 0, each from left to right
abbrev pub painted : SceneValue → List ℕ
painted s = picture (pixel_of (draws s)) s.width s.height
