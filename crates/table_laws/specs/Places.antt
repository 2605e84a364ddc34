-- The kinds of calls for which a token keeps a place in the journal, as a list.
use Rattle.std.specs.Prelude.{Bool, true, false}
use Rattle.egl_calls.specs.declared.kinds.EglKind.{EglKind}
use Rattle.egl_calls.specs.declared.kinds.EglKind.TheVariants.{Terminate, DestroySurface, DestroyContext, WaitClient, ReleaseThread, DestroySync, DestroyImage}
use Rattle.egl_calls.specs.declared.kinds.GlKind.{GlKind}
use Rattle.egl_calls.specs.declared.kinds.GlKind.TheVariants.{Flush, Finish, DeleteTextures, DeleteBuffers, DeleteRenderbuffers, DeleteFramebuffers}
use Rattle.egl_calls.specs.declared.kinds.OwnKind.{OwnKind}
use Rattle.egl_calls.specs.declared.kinds.OwnKind.TheVariants.{WaitEnd, Halt}

abbrev pub egl_takes_place : EglKind → Bool
egl_takes_place Terminate = true
egl_takes_place DestroySurface = true
egl_takes_place DestroyContext = true
egl_takes_place WaitClient = true
egl_takes_place ReleaseThread = true
egl_takes_place DestroySync = true
egl_takes_place DestroyImage = true
egl_takes_place k = false

abbrev pub gl_takes_place : GlKind → Bool
gl_takes_place Flush = true
gl_takes_place Finish = true
gl_takes_place DeleteTextures = true
gl_takes_place DeleteBuffers = true
gl_takes_place DeleteRenderbuffers = true
gl_takes_place DeleteFramebuffers = true
gl_takes_place k = false

abbrev pub own_takes_place : OwnKind → Bool
own_takes_place Halt = true
own_takes_place k = false

-- the inner kinds: the place of a wait's end is kept from its beginning
abbrev pub is_inner : OwnKind → Bool
is_inner WaitEnd = true
is_inner Halt = true
is_inner k = false
