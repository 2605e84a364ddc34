-- What a call leaves that gives a texture's level or a renderbuffer other pixels (OpenGL ES 1.1, sections 3.7.1 and 3.7.2; OES_framebuffer_object; OES_EGL_image).
use Rattle.std.specs.Prelude.{◌≡◌, ◌≢◌, ℕ, true, Option, Some}
use Rattle.driver_objects.specs.Storages.{StorageValue}
use Rattle.egl_model.specs.Objects.{storage_in}
use Rattle.egl_model.specs.State.{State, has_object, object_at}

-- each object but the one that gets them is as it was, where it is still there, and so is each storage: siblings keep the pixels that they share
pub record LeavesSiblings (before after : State) (target : Option ℕ) : Type 0 where
  pub objects : (n : ℕ) → target ≢ Some n → has_object before n ≡ true → has_object after n ≡ true → object_at after n ≡ object_at before n
  pub pixels : (n : ℕ) (v : StorageValue) → storage_in before.objects n ≡ Some v → has_object after n ≡ true → storage_in after.objects n ≡ Some v
