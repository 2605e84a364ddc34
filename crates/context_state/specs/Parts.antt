-- The state that a context of OpenGL ES keeps for itself.
use Rattle.std.specs.Prelude.{◌≡◌, ◌⊎◌, ℕ, ℤ, pos, negsuc, Bool, true, false, List, [], ◌∷◌, ◌||◌, ◌==◌, IsTrue, if◌then◌else◌, ◌≤ℤ◌, min, replicate, slice_index_or, All}
use Rattle.egl_calls.specs.Ranges.{IsNumber}
use Rattle.egl_calls.specs.declared.errors.GlError.{GlError}
use Rattle.egl_calls.specs.declared.errors.GlError.TheVariants.{NoError}
use Rattle.context_state.specs.declared.bindings.Bindings.{Bindings}
use Rattle.context_state.specs.Bindings.{no_bindings}

pub record PartValue : Type 0 where
  -- the error that glGetError answers next (OpenGL ES 1.1, section 2.5)
  pub error : GlError
  -- red, green, blue and alpha of clears, in fixed point (OpenGL ES 1.1, section 4.2.3), and of draws (section 2.7)
  pub clear_color : List ℤ
  pub color : List ℤ
  -- whether red, green, blue and alpha are written (section 4.2.2)
  pub mask : List Bool
  -- left, bottom, width and height (OpenGL ES 1.1, section 2.10.1), and those of the scissor box (section 4.1.2)
  pub viewport : List ℤ
  pub scissor_box : List ℤ
  -- whether GL_SCISSOR_TEST and GL_TEXTURE_2D are enabled, and whether the texture environment is GL_REPLACE (section 3.7.12)
  pub is_scissor_enabled : Bool
  pub is_texture_enabled : Bool
  pub is_replacing : Bool
  -- the alignments of rows that are read and that are given (sections 4.3.1 and 3.6.1)
  pub pack_alignment : ℕ
  pub unpack_alignment : ℕ
  -- the names that it has bound
  pub bound : Bindings
  -- whether the context has been current to a thread
  pub was_current : Bool

-- the state of a new context
abbrev pub fresh : PartValue
fresh = record {
  error = NoError;
  clear_color = replicate 4 (pos 0);
  color = replicate 4 (pos 65536);
  mask = replicate 4 true;
  viewport = replicate 4 (pos 0);
  scissor_box = replicate 4 (pos 0);
  is_scissor_enabled = false;
  is_texture_enabled = false;
  is_replacing = false;
  pack_alignment = 4;
  unpack_alignment = 4;
  bound = no_bindings;
  was_current = false;
}

-- a fixed-point number held between 0 and 1, where 1 is 65,536
abbrev pub clamped : ℤ → ℤ
clamped (pos n) = pos (min n 65536)
clamped (negsuc n) = pos 0

-- what clamping leaves
pub record IsClamped (z : ℤ) : Type 0 where
  pub low : pos 0 ≤ℤ z
  pub high : z ≤ℤ pos 65536

abbrev pub AreClamped : List ℤ → Type 0
AreClamped [] = Unit {0}
AreClamped (z ∷ zs) = IsClamped z × AreClamped zs

-- left, bottom, width and height of a viewport or a scissor box: 32-bit numbers, and no side is negative
pub record IsBox (xs : List ℤ) : Type 0 where
  pub numbers : All IsNumber xs
  pub wide : pos 0 ≤ℤ slice_index_or xs 2 (pos 0)
  pub high : pos 0 ≤ℤ slice_index_or xs 3 (pos 0)

-- the alignments that rows of pixels may have, in bytes
abbrev pub is_alignment : ℕ → Bool
is_alignment n = (n == 1) || (n == 2) || (n == 4) || (n == 8)

abbrev pub IsAlignment : ℕ → Type 0
IsAlignment n = (n ≡ 1) ⊎ (n ≡ 2) ⊎ (n ≡ 4) ⊎ (n ≡ 8)

-- what is true of the colours, boxes and alignments of each context
pub record AreInRange (clears draws view clip : List ℤ) (packs unpacks : ℕ) : Type 0 where
  pub clear_color : AreClamped clears
  pub color : AreClamped draws
  pub viewport : IsBox view
  pub scissor_box : IsBox clip
  pub pack_alignment : IsTrue (is_alignment packs)
  pub unpack_alignment : IsTrue (is_alignment unpacks)

-- a surface of these sides
abbrev pub whole : ℕ → ℕ → List ℤ
whole w h = pos 0 ∷ pos 0 ∷ pos w ∷ pos h ∷ []

-- the first time that a context is made current its viewport and scissor box become the draw surface (EGL 1.5, section 3.7.3)
abbrev pub first_current : ℕ → ℕ → PartValue → PartValue
first_current w h p = if p.was_current then p else record p { viewport = whole w h; scissor_box = whole w h; was_current = true }

-- an error is kept until glGetError reads it, and further ones are lost (OpenGL ES 1.1, section 2.5)
abbrev pub kept : GlError → GlError → GlError
kept e NoError = e
kept e former = former

abbrev pub noted : GlError → PartValue → PartValue
noted e p = record p { error = kept e p.error }
