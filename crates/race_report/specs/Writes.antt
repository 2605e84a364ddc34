-- What a call changes is among what it writes, but for the framebuffer from which a deletion detaches.
use Rattle.std.specs.Prelude.{◌≡◌, ℕ, ◌<◌, ◌⊎◌, ℤ, pos, List, length, slice_index_or, IfSome, Option, None, Some}
use Rattle.std.specs.List.{Contains}
use Rattle.egl_calls.specs.Calls.{CallValue}
use Rattle.egl_calls.specs.Ranges.{unsigned}
use Rattle.egl_calls.specs.declared.kinds.Kind.{Kind}
use Rattle.egl_calls.specs.declared.kinds.Kind.TheVariants.{Gl}
use Rattle.call_table.specs.Rows.{gl_role}
use Rattle.call_table.specs.declared.roles.Role.{Role}
use Rattle.call_table.specs.declared.roles.Role.TheVariants.{Deletes}
use Rattle.framebuffer_objects.specs.Framebuffers.{FramebufferValue}
use Rattle.framebuffer_objects.specs.declared.framebuffers.Attached.{Attached}
use Rattle.driver_objects.specs.declared.objects.Object.{Object}
use Rattle.surface_store.specs.Windows.{WindowValue}
use Rattle.surface_store.specs.WindowTables.{window_at}
use Rattle.egl_model.specs.Currents.{current_context}
use Rattle.egl_model.specs.Framebuffers.{target_framebuffer}
use Rattle.egl_model.specs.Objects.{as_buffer, as_framebuffer, as_renderbuffer, as_storage, as_texture}
use Rattle.egl_model.specs.State.{State}
use Rattle.driver_facts.specs.Touches.{front}
use Rattle.driver_facts.specs.declared.touches.Touches.{Touches}

-- a value is as it was, or is gone
abbrev pub StaysOrGoes : {A : Type 0} → Option A → Option A → Type 0
StaysOrGoes x y = (y ≡ x) ⊎ (y ≡ None)

-- a texture, a storage, a buffer, a renderbuffer or a framebuffer is as it was, or is gone; and so is what isn't one
abbrev pub IsAsItWas : Option Object → Option Object → Type 0
IsAsItWas o p =
    StaysOrGoes (as_texture o) (as_texture p) × StaysOrGoes (as_storage o) (as_storage p) × StaysOrGoes (as_buffer o) (as_buffer p)
    × StaysOrGoes (as_renderbuffer o) (as_renderbuffer p) × StaysOrGoes (as_framebuffer o) (as_framebuffer p)

-- ---- What is left out. A deletion detaches what it deletes from the framebuffer that its context has bound, and that framebuffer isn't among what it writes.
-- of a call with a role, by a thread with this current context: the framebuffer from which it may detach
abbrev pub left_out_of : Option ℕ → Role → State → Option ℕ
left_out_of (Some n) (Deletes names) s = target_framebuffer s n
left_out_of o r s = None

abbrev pub left_out_by : Kind → Option ℕ → State → Option ℕ
left_out_by (Gl k) o s = left_out_of o (gl_role k) s
left_out_by k o s = None

abbrev pub left_out : State → ℕ → CallValue → Option ℕ
left_out s t c = left_out_by c.kind (current_context s t) s

-- a point has what it had, or has nothing where that is written
abbrev pub LosesAt : List ℤ → Option Attached → Option Attached → Type 0
LosesAt writes a b = (b ≡ a) ⊎ ((b ≡ None) × IfSome a (λ x. Contains writes (pos x.object)))

abbrev pub LosesIn : List ℤ → FramebufferValue → FramebufferValue → Type 0
LosesIn writes f g = LosesAt writes f.color g.color × LosesAt writes f.depth g.depth × LosesAt writes f.stencil g.stencil

-- a framebuffer has lost nothing but what is written
pub record Loses (writes : List ℤ) (o p : Option Object) : Type 0 where
  pub before : FramebufferValue
  pub was : as_framebuffer o ≡ Some before
  pub after : FramebufferValue
  pub is : as_framebuffer p ≡ Some after
  pub lost : LosesIn writes before after

-- ---- What a call may do.
-- an object that isn't written is as it was, or gone; or it is the framebuffer that is left out, and has lost nothing but what is written
abbrev pub Becomes : List ℤ → Option ℕ → ℕ → Option Object → Option Object → Type 0
Becomes writes left n o p = IsAsItWas o p ⊎ ((left ≡ Some n) × Loses writes o p)

abbrev pub Spares : List ℤ → Option ℕ → List (Option Object) → List (Option Object) → Type 0
Spares writes left before after = (n : ℕ) → n < length before → Contains writes (pos n) ⊎ Becomes writes left n (slice_index_or before n None) (slice_index_or after n None)

-- what a window shows is written, or as it was
abbrev pub Shows : List ℤ → List WindowValue → List WindowValue → Type 0
Shows writes before after = (k : ℕ) → Contains writes (front (unsigned (window_at before k).id)) ⊎ (window_at after k ≡ window_at before k)

pub record IsWrittenBy (t : Touches) (left : Option ℕ) (before after : State) : Type 0 where
  pub objects : Spares t.writes left before.objects after.objects
  pub windows : Shows t.writes before.windows after.windows
