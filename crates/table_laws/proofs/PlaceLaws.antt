-- Each kind's role, computed; one kind stands apart, so that the others are tried one by one.
use Rattle.std.proofs.Common.{◌≡◌, refl}
use Rattle.std.specs.Prelude.{is_none}
use Rattle.egl_calls.specs.Journals.{is_halt_kind}
use Rattle.egl_calls.specs.declared.kinds.EglKind.{EglKind}
use Rattle.egl_calls.specs.declared.kinds.EglKind.TheVariants.{GetError as EglGetError}
use Rattle.egl_calls.specs.declared.kinds.GlKind.{GlKind}
use Rattle.egl_calls.specs.declared.kinds.GlKind.TheVariants.{GetError as GlGetError}
use Rattle.egl_calls.specs.declared.kinds.Kind.TheVariants.{Own}
use Rattle.egl_calls.specs.declared.kinds.OwnKind.{OwnKind}
use Rattle.egl_calls.specs.declared.kinds.OwnKind.TheVariants.{Post}
use Rattle.call_table.specs.Roles.{lets_go}
use Rattle.call_table.specs.Rows.{egl_role, gl_role, named_kind}
use Rattle.table_laws.specs.Places.{egl_takes_place, gl_takes_place, is_inner, own_takes_place}

pub egl_placed : (k : EglKind) → lets_go (egl_role k) ≡ egl_takes_place k
egl_placed EglGetError = refl
egl_placed k = refl

pub gl_placed : (k : GlKind) → lets_go (gl_role k) ≡ gl_takes_place k
gl_placed GlGetError = refl
gl_placed k = refl

pub own_placed : (k : OwnKind) → is_halt_kind (Own k) ≡ own_takes_place k
own_placed Post = refl
own_placed k = refl

pub inner_placed : (k : OwnKind) → is_none (named_kind k) ≡ is_inner k
inner_placed Post = refl
inner_placed k = refl
