-- Calls of eglInitialize and eglTerminate (EGL 1.5, section 3.2).
use Rattle.std.specs.Prelude.{ℕ}
use Rattle.egl_calls.specs.Calls.{CallValue}
use Rattle.egl_calls.specs.declared.kinds.EglKind.TheVariants.{Initialize, Terminate}
use Rattle.egl_model.specs.State.{State}
use Rattle.model_laws.specs.Laws.{IsAllowedEgl}

-- thread t calls eglInitialize, no wait holds it up, and no rule refuses it
abbrev pub IsInitialized : State → ℕ → CallValue → Type 0
IsInitialized s t c = IsAllowedEgl s t Initialize c

-- the same of eglTerminate
abbrev pub IsTerminated : State → ℕ → CallValue → Type 0
IsTerminated s t c = IsAllowedEgl s t Terminate c
