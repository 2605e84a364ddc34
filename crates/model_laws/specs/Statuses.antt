-- What is attached to a framebuffer, in the words by which its status is told (OES_framebuffer_object, "Framebuffer Completeness").
use Rattle.std.specs.Prelude.{◌≡◌, ◌≢◌, ◌<◌, ◌⊎◌, ℕ, pos, false, true, ◌==◌, List, [], Option, None, Some}
use Rattle.std.specs.Option.{option_and_then}
use Rattle.egl_calls.specs.Calls.{CallValue}
use Rattle.egl_calls.specs.declared.errors.Outcome.TheVariants.{Done}
use Rattle.egl_calls.specs.declared.kinds.GlKind.TheVariants.{CheckFramebufferStatus}
use Rattle.framebuffer_objects.specs.Completeness.{is_color_renderable}
use Rattle.framebuffer_objects.specs.Framebuffers.{FramebufferValue, at_point}
use Rattle.framebuffer_objects.specs.declared.framebuffers.Attached.{Attached}
use Rattle.framebuffer_objects.specs.declared.points.Point.{Point}
use Rattle.framebuffer_objects.specs.declared.points.Point.TheVariants.{Color, Depth, Stencil}
use Rattle.driver_objects.specs.Storages.{StorageValue}
use Rattle.driver_objects.specs.declared.objects.Object.{Object}
use Rattle.driver_objects.specs.declared.renderbuffers.BackedRenderbuffer.{BackedRenderbuffer}
use Rattle.egl_model.specs.Framebuffers.{attached_storage, current_framebuffer_name, framebuffer_of}
use Rattle.egl_model.specs.Objects.{renderbuffer_in, storage_in}
use Rattle.egl_model.specs.State.{State}
use Rattle.egl_model.specs.Step.{step}
use Rattle.model_laws.specs.Laws.{IsAllowedGl}

-- level 0 of a texture, or a renderbuffer, has a storage of w by h pixels of a format with red, green and blue
pub record IsColor (os : List (Option Object)) (object w h : ℕ) : Type 0 where
  pub storage : StorageValue
  pub stored : option_and_then (storage_in os) (attached_storage os object) ≡ Some storage
  pub color : is_color_renderable storage.format ≡ true
  pub width : storage.width ≡ w
  pub height : storage.height ≡ h

-- a renderbuffer has w by h pixels of storage for a point
pub record IsStoredFor (point : Point) (os : List (Option Object)) (object w h : ℕ) : Type 0 where
  pub renderbuffer : BackedRenderbuffer
  pub there : renderbuffer_in os object ≡ Some renderbuffer
  pub kind : renderbuffer.renderbuffer.point ≡ Some point
  pub width : renderbuffer.renderbuffer.width ≡ w
  pub height : renderbuffer.renderbuffer.height ≡ h

abbrev pub IsFor : Point → List (Option Object) → ℕ → ℕ → ℕ → Type 0
IsFor Color os object w h = IsColor os object w h
IsFor Depth os object w h = IsStoredFor Depth os object w h
IsFor Stencil os object w h = IsStoredFor Stencil os object w h

-- what is attached at a point may be there, with sides of w and h above 0
pub record MayBeThere (os : List (Option Object)) (f : FramebufferValue) (point : Point) (w h : ℕ) : Type 0 where
  pub attached : Attached
  pub there : at_point point f ≡ Some attached
  pub fits : IsFor point os attached.object w h
  pub wide : 0 < w
  pub high : 0 < h

-- nothing is attached at a point
abbrev pub IsEmptyAt : FramebufferValue → Point → Type 0
IsEmptyAt f point = at_point point f ≡ None

-- nothing, or what may be there with these sides
abbrev pub IsLike : List (Option Object) → FramebufferValue → ℕ → ℕ → Point → Type 0
IsLike os f w h point = IsEmptyAt f point ⊎ MayBeThere os f point w h

-- ---- What each status tells.
-- GL_FRAMEBUFFER_COMPLETE_OES: a colour is attached, and what else is attached has its sides
pub record IsComplete (os : List (Option Object)) (f : FramebufferValue) : Type 0 where
  pub w : ℕ
  pub h : ℕ
  pub color : MayBeThere os f Color w h
  pub depth : IsLike os f w h Depth
  pub stencil : IsLike os f w h Stencil

-- GL_FRAMEBUFFER_INCOMPLETE_ATTACHMENT_OES: at some point stands what may not be there
pub record HasUnfit (os : List (Option Object)) (f : FramebufferValue) : Type 0 where
  pub point : Point
  pub attached : Attached
  pub there : at_point point f ≡ Some attached
  pub unfit : (w h : ℕ) → MayBeThere os f point w h → ⊥

-- GL_FRAMEBUFFER_INCOMPLETE_MISSING_ATTACHMENT_OES: nothing is attached
abbrev pub IsBare : FramebufferValue → Type 0
IsBare f = (point : Point) → IsEmptyAt f point

-- GL_FRAMEBUFFER_INCOMPLETE_DIMENSIONS_OES: all may be there, and two have different sides
pub record HasUnlike (os : List (Option Object)) (f : FramebufferValue) : Type 0 where
  pub fits : (point : Point) → (w : ℕ) × (h : ℕ) × IsLike os f w h point
  pub first : Point
  pub second : Point
  pub w : ℕ
  pub h : ℕ
  pub other_w : ℕ
  pub other_h : ℕ
  pub one : MayBeThere os f first w h
  pub other : MayBeThere os f second other_w other_h
  pub differ : (w ≢ other_w) ⊎ (h ≢ other_h)

-- GL_FRAMEBUFFER_UNSUPPORTED_OES: no colour is attached, and what is has the same sides
pub record LacksColor (os : List (Option Object)) (f : FramebufferValue) : Type 0 where
  pub w : ℕ
  pub h : ℕ
  pub color : IsEmptyAt f Color
  pub depth : IsLike os f w h Depth
  pub stencil : IsLike os f w h Stencil
  pub some : IsBare f → ⊥

-- ---- The call.
-- thread t, whose current context is n, calls glCheckFramebufferStatusOES, and no rule refuses it
abbrev pub IsCheck : State → ℕ → ℕ → CallValue → Type 0
IsCheck s t n c = IsAllowedGl s t n CheckFramebufferStatus c

-- the framebuffer that is bound is one of the context's, with this value
pub record HasFramebufferBound (s : State) (t n : ℕ) (f : FramebufferValue) : Type 0 where
  pub named : (current_framebuffer_name s t == 0) ≡ false
  pub value : framebuffer_of s n ≡ Some f

-- or that of the window system
abbrev pub HasWindowBound : State → ℕ → Type 0
HasWindowBound s t = (current_framebuffer_name s t == 0) ≡ true

abbrev pub AnswersStatus : State → ℕ → CallValue → ℕ → Type 0
AnswersStatus s t c status = (step s t c).reply ≡ record { outcome = Done; value = pos status; list = []; bytes = [] }
