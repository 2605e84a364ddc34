-- Fragments of whole rows: products or texels first, and then what the colour gives.
use Rattle.std.proofs.Common.{◌≡◌, Bool, true, false, refl, sym, ap, ◌∙◌}
use Rattle.pixel_formats.specs.declared.formats.Base.{Base}
use Rattle.pixel_formats.specs.declared.formats.Base.TheVariants.{Rgb, Rgba, Alpha, Luminance, LuminanceAlpha}
use Rattle.pixel_formats.specs.declared.pixels.Pixel.{Pixel}
use Rattle.pixel_rows.specs.Masks.{masked}
use Rattle.pixel_rows.specs.declared.masks.Mask.{Mask}
use Rattle.rect_pipeline.specs.Drawing.{fragment_of}
use Rattle.rect_pipeline.specs.Fragments.{combined, multiplied_where}
use Rattle.rect_pipeline.specs.declared.fragments.Environment.{Environment}

abbrev alpha : Mask
alpha = record { r = false; g = false; b = false; a = true }

abbrev colours : Mask
colours = record { r = true; g = true; b = true; a = false }

rgb : (r : Bool) (f t : Pixel) → masked alpha (multiplied_where r f t) f ≡ combined r Rgb f t
rgb true f t = refl
rgb false f t = refl

rgba : (r : Bool) (f t : Pixel) → multiplied_where r f t ≡ combined r Rgba f t
rgba true f t = refl
rgba false f t = refl

alone : (r : Bool) (f t : Pixel) → masked colours (multiplied_where r f t) f ≡ combined r Alpha f t
alone true f t = refl
alone false f t = refl

luminance : (r : Bool) (f t : Pixel) → masked alpha (multiplied_where r f t) f ≡ combined r Luminance f t
luminance true f t = refl
luminance false f t = refl

both : (r : Bool) (f t : Pixel) → multiplied_where r f t ≡ combined r LuminanceAlpha f t
both true f t = refl
both false f t = refl

as_base : (e : Environment) (b : Base) (t : Pixel) → e.base ≡ b → combined e.replaces b e.colour t ≡ fragment_of e t
as_base e b t is = ap (λ x. combined e.replaces x e.colour t) (sym is)

pub rgb_fragment : (e : Environment) (p t : Pixel) → e.base ≡ Rgb → p ≡ multiplied_where e.replaces e.colour t → masked alpha p e.colour ≡ fragment_of e t
rgb_fragment e p t is made = ap (λ x. masked alpha x e.colour) made ∙ rgb e.replaces e.colour t ∙ as_base e Rgb t is

pub rgba_fragment : (e : Environment) (p t : Pixel) → e.base ≡ Rgba → p ≡ multiplied_where e.replaces e.colour t → p ≡ fragment_of e t
rgba_fragment e p t is made = made ∙ rgba e.replaces e.colour t ∙ as_base e Rgba t is

pub alpha_fragment : (e : Environment) (p t : Pixel) → e.base ≡ Alpha → p ≡ multiplied_where e.replaces e.colour t → masked colours p e.colour ≡ fragment_of e t
alpha_fragment e p t is made = ap (λ x. masked colours x e.colour) made ∙ alone e.replaces e.colour t ∙ as_base e Alpha t is

pub luminance_fragment : (e : Environment) (p t : Pixel) → e.base ≡ Luminance → p ≡ multiplied_where e.replaces e.colour t → masked alpha p e.colour ≡ fragment_of e t
luminance_fragment e p t is made = ap (λ x. masked alpha x e.colour) made ∙ luminance e.replaces e.colour t ∙ as_base e Luminance t is

pub both_fragment : (e : Environment) (p t : Pixel) → e.base ≡ LuminanceAlpha → p ≡ multiplied_where e.replaces e.colour t → p ≡ fragment_of e t
both_fragment e p t is made = made ∙ both e.replaces e.colour t ∙ as_base e LuminanceAlpha t is
