-- Surfaces.
use Rattle.std.specs.Prelude.{◌≡◌, ℕ, ℤ, pos, ◌≤◌, ◌≤ℤ◌, Bool, true, false, ◌==◌, if◌then◌else◌, Option, None, Some, IfSome}
use Rattle.egl_calls.specs.Ranges.{unsigned}
use Rattle.egl_names.specs.declared.codes.TheConstants.{EGL_CONFIG_ID, EGL_WIDTH, EGL_HEIGHT, EGL_SWAP_BEHAVIOR, EGL_RENDER_BUFFER, EGL_LARGEST_PBUFFER, EGL_BUFFER_PRESERVED, EGL_BUFFER_DESTROYED, EGL_SINGLE_BUFFER, EGL_BACK_BUFFER}
use Rattle.pixel_rows.specs.Images.{ImageValue, IsImage, blank}
use Rattle.surface_store.specs.Formats.{format_of}
use Rattle.surface_store.specs.declared.windows.WindowSpec.{WindowSpec}

-- a surface: its config's id, its sides, what EGL_LARGEST_PBUFFER asked for, the pixels that it was made with until
-- they are taken out, the id of its window if it is a window's, whether its creation asked for EGL_SINGLE_BUFFER, and
-- whether a swap preserves the back buffer
pub record SurfaceValue : Type 0 where
  pub config : ℤ
  pub width : ℕ
  pub height : ℕ
  pub is_largest : Bool
  pub back : Option ImageValue
  pub window : Option ℤ
  pub single : Bool
  pub preserve : Bool

-- a new pbuffer, whose stored components are all 0 (EGL 1.5, section 3.5.2)
abbrev pub pbuffer : ℤ → ℕ → ℕ → Bool → SurfaceValue
pbuffer config w h largest = record {
  config = config;
  width = w;
  height = h;
  is_largest = largest;
  back = Some (blank (format_of config) w h);
  window = None;
  single = false;
  preserve = true;
}

-- a new surface of a window (EGL 1.5, section 3.5.1)
abbrev pub for_window : ℤ → WindowSpec → Bool → SurfaceValue
for_window config spec single = record {
  config = config;
  width = spec.w;
  height = spec.h;
  is_largest = false;
  back = Some (blank (format_of config) spec.w spec.h);
  window = Some spec.id;
  single = single;
  preserve = true;
}

-- 1 for true
abbrev pub flag : Bool → ℤ
flag b = pos (if b then 1 else 0)

-- the value of an attribute by its code (EGL 1.5, section 3.5.6)
abbrev pub value_at : SurfaceValue → ℕ → Option ℤ
value_at s a =
    if a == EGL_CONFIG_ID then Some s.config
    else if a == EGL_WIDTH then Some (pos s.width)
    else if a == EGL_HEIGHT then Some (pos s.height)
    else if a == EGL_SWAP_BEHAVIOR then Some (pos (if s.preserve then EGL_BUFFER_PRESERVED else EGL_BUFFER_DESTROYED))
    else if a == EGL_RENDER_BUFFER then Some (pos (if s.single then EGL_SINGLE_BUFFER else EGL_BACK_BUFFER))
    else if a == EGL_LARGEST_PBUFFER then Some (flag s.is_largest)
    else None

-- the same by a number, and nothing where it is no attribute of a surface
abbrev pub query : SurfaceValue → ℤ → Option ℤ
query s attribute = value_at s (unsigned attribute)

-- a surface whose pixels were taken out
abbrev pub taken : SurfaceValue → SurfaceValue
taken s = record s { back = None }

-- an image with the format of a config's surfaces and with these sides
pub record IsBackOf (config : ℤ) (w h : ℕ) (image : ImageValue) : Type 0 where
  pub whole : IsImage image
  pub format : image.format ≡ format_of config
  pub width : image.width ≡ w
  pub height : image.height ≡ h

-- the id of a config, sides of at most 2,048, and pixels that fit them
pub record IsMade (config : ℤ) (w h : ℕ) (pixels : Option ImageValue) : Type 0 where
  pub first : pos 1 ≤ℤ config
  pub last : config ≤ℤ pos 8
  pub wide : w ≤ 2048
  pub high : h ≤ 2048
  pub fit : IfSome pixels (IsBackOf config w h)

-- the same of a surface
abbrev pub IsSurface : SurfaceValue → Type 0
IsSurface s = IsMade s.config s.width s.height s.back
