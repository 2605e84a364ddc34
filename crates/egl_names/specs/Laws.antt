-- What is true of the names and the words, whatever the text and the number.
use Rattle.std.specs.Prelude.{◌≡◌, ◌+◌, ℕ, ℤ, pos, List, codes, None, Some, length, map, slice_get}
use Rattle.std.specs.List.{Contains}
use Rattle.egl_calls.specs.Errors.{egl_code, gl_code}
use Rattle.egl_calls.specs.declared.errors.EglError.{EglError}
use Rattle.egl_calls.specs.declared.errors.EglError.TheVariants.{Success, NotInitialized, BadAccess, BadAlloc, BadAttribute, BadConfig, BadContext, BadCurrentSurface, BadDisplay, BadMatch, BadNativePixmap, BadNativeWindow, BadParameter, BadSurface, ContextLost}
use Rattle.egl_calls.specs.declared.errors.GlError.{GlError}
use Rattle.egl_calls.specs.declared.errors.GlError.TheVariants.{NoError, InvalidEnum, InvalidValue, InvalidOperation, OutOfMemory, InvalidFramebufferOperation}
use Rattle.egl_names.specs.Names.{names, first_code, name_of, code_of, plain_words, bit_words, number_word}
use Rattle.egl_names.specs.Constants.{name_constants, plain_constants, bit_constants}

-- the name of a name's code is that name, and the code of a code's name is that code
pub record AreInverse : Type 0 where
  pub from_name : (w : List ℕ) (n : ℕ) → code_of w ≡ Some n → name_of (pos n) ≡ Some w
  pub from_code : (z : ℤ) (w : List ℕ) → name_of z ≡ Some w → (n : ℕ) × (z ≡ pos n) × (code_of w ≡ Some n)

-- a code is the first code and the place in the list; what isn't on the list has none, and no other number is a code
pub record AreOnTheList : Type 0 where
  pub each : (k : ℕ) (w : List ℕ) → slice_get names k ≡ Some w → code_of w ≡ Some (first_code + k)
  pub place : (w : List ℕ) (n : ℕ) → code_of w ≡ Some n → (k : ℕ) × (n ≡ first_code + k) × (slice_get names k ≡ Some w)
  pub count : length names ≡ 164

-- no name stands twice, no word of the second list does, and none is a name
pub record AreDistinct : Type 0 where
  pub names : (i j : ℕ) (w : List ℕ) → slice_get names i ≡ Some w → slice_get names j ≡ Some w → i ≡ j
  pub words : (w : List ℕ) (z : ℤ) → number_word w ≡ Some z → code_of w ≡ None

-- the name of each error (EGL 1.5, section 3.1)
abbrev pub egl_error_name : EglError → List ℕ
egl_error_name Success = codes "EGL_SUCCESS"
egl_error_name NotInitialized = codes "EGL_NOT_INITIALIZED"
egl_error_name BadAccess = codes "EGL_BAD_ACCESS"
egl_error_name BadAlloc = codes "EGL_BAD_ALLOC"
egl_error_name BadAttribute = codes "EGL_BAD_ATTRIBUTE"
egl_error_name BadConfig = codes "EGL_BAD_CONFIG"
egl_error_name BadContext = codes "EGL_BAD_CONTEXT"
egl_error_name BadCurrentSurface = codes "EGL_BAD_CURRENT_SURFACE"
egl_error_name BadDisplay = codes "EGL_BAD_DISPLAY"
egl_error_name BadMatch = codes "EGL_BAD_MATCH"
egl_error_name BadNativePixmap = codes "EGL_BAD_NATIVE_PIXMAP"
egl_error_name BadNativeWindow = codes "EGL_BAD_NATIVE_WINDOW"
egl_error_name BadParameter = codes "EGL_BAD_PARAMETER"
egl_error_name BadSurface = codes "EGL_BAD_SURFACE"
egl_error_name ContextLost = codes "EGL_CONTEXT_LOST"

-- (OpenGL ES 1.1, section 2.5; OES_framebuffer_object)
abbrev pub gl_error_name : GlError → List ℕ
gl_error_name NoError = codes "GL_NO_ERROR"
gl_error_name InvalidEnum = codes "GL_INVALID_ENUM"
gl_error_name InvalidValue = codes "GL_INVALID_VALUE"
gl_error_name InvalidOperation = codes "GL_INVALID_OPERATION"
gl_error_name OutOfMemory = codes "GL_OUT_OF_MEMORY"
gl_error_name InvalidFramebufferOperation = codes "GL_INVALID_FRAMEBUFFER_OPERATION_OES"

-- each error's code is the code of its name
pub record ErrorsAreNamed : Type 0 where
  pub egl : (e : EglError) → code_of (egl_error_name e) ≡ Some (egl_code e)
  pub gl : (e : GlError) → code_of (gl_error_name e) ≡ Some (gl_code e)

-- each constant is the code, or the number, of the word that it is named after, and there is one for each
pub record ConstantsAreNamed : Type 0 where
  pub codes : (w : List ℕ) (n : ℕ) → Contains name_constants (w, n) → code_of w ≡ Some n
  pub count : map (λ c. c.0) name_constants ≡ names
  pub plain : plain_constants ≡ plain_words
  pub bits : bit_constants ≡ bit_words
