-- Each kind has its own row.
use Rattle.std.proofs.Common.{◌≡◌, Some, refl}
use Rattle.egl_calls.specs.declared.kinds.EglKind.{EglKind}
use Rattle.egl_calls.specs.declared.kinds.EglKind.TheVariants.{GetError as EglGetError}
use Rattle.egl_calls.specs.declared.kinds.GlKind.{GlKind}
use Rattle.egl_calls.specs.declared.kinds.GlKind.TheVariants.{GetError as GlGetError}
use Rattle.egl_calls.specs.declared.kinds.OwnKind.{OwnKind}
use Rattle.egl_calls.specs.declared.kinds.OwnKind.TheVariants.{Halt}
use Rattle.call_table.specs.Rows.{egl_kind, gl_kind, named_kind, own_kind}

-- one kind stands apart, so that the others are tried one by one
pub egl_own : (k : EglKind) → egl_kind k ≡ Some k
egl_own EglGetError = refl
egl_own k = refl

pub gl_own : (k : GlKind) → gl_kind k ≡ Some k
gl_own GlGetError = refl
gl_own k = refl

pub own_own : (k : OwnKind) → own_kind k ≡ named_kind k
own_own Halt = refl
own_own k = refl
