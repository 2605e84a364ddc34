use Rattle.std.specs.Prelude.{◌≡◌, ◌+◌, ◌<◌, ◌≤◌, ◌⊎◌, ℕ, pos, ◌<ℤ◌, true, false, ◌==◌, is_some, Some}
-- Where EGL_BAD_ALLOC (EGL 1.5, sections 3.5.1, 3.5.2, 3.7.1, 3.8.1 and 3.9) and GL_OUT_OF_MEMORY (OpenGL ES 1.1, sections 2.9 and 3.7.1) come, in the words of the state before the call.
use Rattle.egl_calls.specs.Calls.{CallValue}
use Rattle.egl_calls.specs.declared.errors.EglError.{EglError}
use Rattle.egl_calls.specs.declared.errors.GlError.{GlError}
use Rattle.egl_calls.specs.declared.errors.Outcome.TheVariants.{Egl as RefusedEgl, Gl as RefusedGl}
use Rattle.egl_calls.specs.declared.places.TheConstants.{BUFFER_SIZE, CONFIG, DISPLAY, SYNC_TYPE}
use Rattle.egl_calls.specs.Arguments.{signed}
use Rattle.egl_names.specs.declared.codes.TheConstants.{EGL_SYNC_FENCE}
use Rattle.attrib_lists.specs.declared.allowed.Allowed.TheVariants.{Window}
use Rattle.config_match.specs.Table.{is_config}
use Rattle.call_rules.specs.EglAllowed.{ContextAsked, ImageAsked, PbufferAsked}
use Rattle.call_rules.specs.EglRules.{has_attributes, has_code}
use Rattle.egl_model.specs.State.{State}
use Rattle.egl_model.specs.Arguments.{number}
use Rattle.egl_model.specs.Configs.{is_list_allowed}
use Rattle.egl_model.specs.Currents.{current_context, display_at}
use Rattle.egl_model.specs.Displays.{is_display, is_initialized}
use Rattle.driver_objects.specs.declared.surfaces.BackedSurface.{BackedSurface}
use Rattle.egl_model.specs.Objects.{surface_in}
use Rattle.egl_model.specs.Windows.{is_window_config, named_place, named_spec}
use Rattle.egl_model.specs.Surfaces.{asked_height, asked_width, asks_for_largest, surface_bytes, side_of}
use Rattle.egl_model.specs.Facts.{facts_of}
use Rattle.egl_model.specs.Renderbuffers.{renderbuffer_bytes}
use Rattle.egl_model.specs.Sweep.{live_bytes}
use Rattle.egl_model.specs.Step.{bare, step}
use Rattle.egl_model.specs.Copies.{copied_bytes}
use Rattle.egl_model.specs.Textures.{image_bytes}

-- the reply to a call is this error
abbrev pub Answers : State → ℕ → CallValue → EglError → Type 0
Answers s t c e = (step s t c).reply ≡ bare (RefusedEgl e)

abbrev pub AnswersGl : State → ℕ → CallValue → GlError → Type 0
AnswersGl s t c e = (step s t c).reply ≡ bare (RefusedGl e)

-- nothing is wrong with what the call asks for
abbrev pub IsFaultlessPbuffer : State → ℕ → CallValue → Type 0
IsFaultlessPbuffer s t c = PbufferAsked (facts_of s t c)

abbrev pub IsFaultlessContext : State → ℕ → CallValue → Type 0
IsFaultlessContext s t c = ContextAsked (facts_of s t c)

abbrev pub IsFaultlessImage : State → ℕ → CallValue → Type 0
IsFaultlessImage s t c = ImageAsked c (facts_of s t c)

-- the config has windows, the list is allowed, and the window is declared
pub record IsFaultlessWindow (s : State) (c : CallValue) : Type 0 where
  pub display : is_display (number c DISPLAY) ≡ true
  pub initialized : is_initialized s (number c DISPLAY) ≡ true
  pub config : is_config (signed c CONFIG) ≡ true
  pub list : is_list_allowed Window c ≡ true
  pub windows : is_window_config (signed c CONFIG) ≡ true
  pub declared : is_some (named_place s c) ≡ true

-- a fence without attributes, and a context of the display is current to the thread
pub record IsFaultlessSync (s : State) (t : ℕ) (c : CallValue) : Type 0 where
  pub display : is_display (number c DISPLAY) ≡ true
  pub initialized : is_initialized s (number c DISPLAY) ≡ true
  pub fence : has_code c SYNC_TYPE EGL_SYNC_FENCE ≡ true
  pub list : has_attributes c ≡ false
  pub current : is_some (current_context s t) ≡ true
  pub here : (display_at s (current_context s t) == number c DISPLAY) ≡ true

-- a surface that there is shows in the window that the call names
pub record IsWindowUsed (s : State) (c : CallValue) : Type 0 where
  pub place : ℕ
  pub object : ℕ
  pub surface : BackedSurface
  pub named : named_place s c ≡ Some place
  pub there : surface_in s.objects object ≡ Some surface
  pub shows : surface.window ≡ Some place

-- the bytes of a surface of the window's sides
abbrev pub window_bytes : State → CallValue → ℕ
window_bytes s c = surface_bytes (signed c CONFIG) (named_spec s c).w (named_spec s c).h

-- the pixels that live and those of such a surface are more than there may be
abbrev pub WantsWindowPixels : State → CallValue → Type 0
WantsWindowPixels s c = s.video < live_bytes s.objects + window_bytes s c

-- a side above 2,048 is asked for, without EGL_LARGEST_PBUFFER
abbrev pub AsksTooLarge : CallValue → Type 0
AsksTooLarge c = ((pos 2048 <ℤ asked_width c) ⊎ (pos 2048 <ℤ asked_height c)) × (asks_for_largest c ≡ false)

-- the bytes of the new pixels
abbrev pub asked_bytes : CallValue → ℕ
asked_bytes c = surface_bytes (signed c CONFIG) (side_of (asked_width c)) (side_of (asked_height c))

-- the pixels that live and the new ones are more than there may be
abbrev pub WantsVideo : State → CallValue → Type 0
WantsVideo s c = s.video < live_bytes s.objects + asked_bytes c

-- the same for the level that a glTexImage2D gives
abbrev pub WantsImage : State → CallValue → Type 0
WantsImage s c = s.video < live_bytes s.objects + image_bytes c

-- and for the one that a glCopyTexImage2D gives
abbrev pub WantsCopy : State → CallValue → Type 0
WantsCopy s c = s.video < live_bytes s.objects + copied_bytes c

-- the same for the contents that a glBufferData gives
abbrev pub WantsData : State → CallValue → Type 0
WantsData s c = s.video < live_bytes s.objects + number c BUFFER_SIZE

-- and for the pixels that a glRenderbufferStorageOES gives
abbrev pub WantsStorage : State → CallValue → Type 0
WantsStorage s c = s.video < live_bytes s.objects + renderbuffer_bytes c

-- the numbers for handles are used up
abbrev pub WantsNumber : State → Type 0
WantsNumber s = 2147483648 ≤ s.next_handle

-- all pixels fit
abbrev pub PixelsFit : State → Type 0
PixelsFit s = live_bytes s.objects ≤ s.video
