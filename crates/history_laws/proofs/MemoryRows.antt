-- Which rows of the table say GL_OUT_OF_MEMORY, and what is known where those before them don't hold.
use Rattle.std.proofs.Common.{◌≡◌, ℕ, Bool, true, false, not, ◌||◌, ◌&&◌, refl, sym, subst, ap, ◌∙◌, Option, None, Some, is_some, ℤ, pos}
use Rattle.std.specs.Prelude.{int_lt, ◌==◌}
use Rattle.std.proofs.lemmas.Bool.{and_from, and_parts, not-false, not_from_true, or_from, or_parts}
use Rattle.std.proofs.lemmas.Bool.Decides.{Decides-eqb}
use Rattle.egl_calls.specs.Arguments.{number, signed}
use Rattle.egl_calls.specs.Calls.{CallValue}
use Rattle.egl_calls.specs.declared.errors.GlError.{GlError}
use Rattle.egl_calls.specs.declared.errors.GlError.TheVariants.{OutOfMemory}
use Rattle.egl_calls.specs.declared.kinds.GlKind.{GlKind}
use Rattle.egl_calls.specs.declared.kinds.GlKind.TheVariants.{BufferData, CopyTexImage2d, RenderbufferStorage, TexImage2d}
use Rattle.egl_calls.specs.declared.kinds.Kind.{Kind}
use Rattle.egl_calls.specs.declared.kinds.Kind.TheVariants.{Gl, Own}
use Rattle.egl_calls.specs.declared.kinds.OwnKind.{OwnKind}
use Rattle.egl_calls.specs.declared.kinds.OwnKind.TheVariants.{WaitEnd}
use Rattle.egl_names.specs.declared.codes.TheConstants.{GL_RENDERBUFFER_OES, GL_TEXTURE_2D}
use Rattle.refusal_rows.specs.Rows.{first_error}
use Rattle.refusal_rows.proofs.RowLaws.{first_is, is_not_said, some_says}
use Rattle.call_table.specs.Rows.{gl_role, own_rules}
use Rattle.call_table.specs.declared.roles.Role.{Role}
use Rattle.call_table.specs.declared.roles.Role.TheVariants.{Copies, Specifies}
use Rattle.share_group.specs.declared.names.NameKind.TheVariants.{Buffer, Renderbuffer, Texture}
use Rattle.call_rules.specs.CopyRules.{has_alpha}
use Rattle.call_rules.specs.GlAllowed.{CopyAsked, DataAsked, ImageAsked, IsSide, StorageAsked}
use Rattle.call_rules.specs.GlRules.{gl_refusal, gl_rows, gl_rows_by, ruled}
use Rattle.call_rules.specs.RenderbufferRules.{is_no_side}
use Rattle.call_rules.specs.TextureRules.{is_image_format, is_image_type, is_no_level_side}
use Rattle.call_rules.specs.declared.gl_facts.GlFacts.{GlFacts}
use Rattle.call_rules.proofs.GlLaws.{refused_first}
use Rattle.texture_objects.specs.Forms.{form_of}
use Rattle.call_rules.proofs.TestLaws.{given_last, is_not_below, not_below, unless}
use Rattle.egl_model.specs.Framebuffers.{bound_framebuffer, is_complete}
use Rattle.egl_model.specs.GlFacts.{gl_facts_of, has_read_alpha}
use Rattle.egl_model.specs.State.{State}
use Rattle.history_laws.specs.Memory.{IsFaultlessCopy, IsFaultlessData, IsFaultlessLevel, IsFaultlessStorage, wants_bytes}

-- ---- Each of four roles is of one call.
-- what is asked of a role's call, or of all calls where the role isn't one of them
abbrev pub OfRole : Role → (GlKind → Type 0) → Type 0
OfRole (Specifies Texture) P = P TexImage2d
OfRole (Specifies Buffer) P = P BufferData
OfRole (Specifies Renderbuffer) P = P RenderbufferStorage
OfRole Copies P = P CopyTexImage2d
OfRole r P = (k : GlKind) → P k

of_kind : (P : GlKind → Type 0) (k : GlKind) → OfRole (gl_role k) P → P k
of_kind P TexImage2d p = p
of_kind P BufferData p = p
of_kind P RenderbufferStorage p = p
of_kind P CopyTexImage2d p = p
of_kind P k p = p k

pub of_role : (r : Role) (P : GlKind → Type 0) (k : GlKind) → gl_role k ≡ r → OfRole r P → P k
of_role r P k e = subst (λ r. OfRole r P → P k) e (of_kind P k)

-- ---- The error stands in the rows of four calls.
abbrev is_out_of_memory : GlError → Bool
is_out_of_memory OutOfMemory = true
is_out_of_memory e = false

-- a table that has it is that of one of them; one kind stands apart, so that the others are tried one by one
said_by : (k : GlKind) (c : CallValue) (f : GlFacts) → (not (some_says is_out_of_memory (gl_rows k c f)) || wants_bytes (gl_role k)) ≡ true
said_by TexImage2d c f = refl
said_by k c f = refl

where_said : (said wants : Bool) → (not said || wants) ≡ true → (said ≡ false → ⊥) → wants ≡ true
where_said true wants e n = e
where_said false wants e n = absurd (n refl)

pub four_want : (c : CallValue) (f : GlFacts) (k : GlKind) → c.kind ≡ Gl k → gl_refusal c f ≡ Some OutOfMemory → wants_bytes (gl_role k) ≡ true
four_want c f k h n =
    let first = first_is OutOfMemory (gl_rows k c f) (refused_first c f k OutOfMemory h n) in
    where_said (some_says is_out_of_memory (gl_rows k c f)) (wants_bytes (gl_role k)) (said_by k c f) (λ s. is_not_said is_out_of_memory OutOfMemory (gl_rows k c f) refl s first)

-- and in those of no call of this project
own_said : (k : OwnKind) (c : CallValue) (f : GlFacts) → some_says is_out_of_memory (ruled (own_rules k) c f) ≡ false
own_said WaitEnd c f = refl
own_said k c f = refl

pub own_wants_none : (c : CallValue) (f : GlFacts) (k : OwnKind) → c.kind ≡ Own k → gl_refusal c f ≡ Some OutOfMemory → ⊥
unfolding gl_refusal
own_wants_none c f k h n = is_not_said is_out_of_memory OutOfMemory (ruled (own_rules k) c f) refl (own_said k c f) (sym (ap (λ (kind : Kind). first_error (gl_rows_by kind c f)) h) ∙ n)

-- ---- Tests of two things.
equal : (a b : ℕ) → not (a == b) ≡ false → a ≡ b
equal a b h = (Decides-eqb a b).0 (not-false (a == b) h)

is_equal : (a b : ℕ) → a ≡ b → not (a == b) ≡ false
is_equal a b h = not_from_true (a == b) ((Decides-eqb a b).1 h)

-- where there is a third, the first asks for the second
implied : (a b d : Bool) → d ≡ true → (a && (not b && d)) ≡ false → a ≡ true → b ≡ true
implied true b d i h e = not-false b (given_last (not b) d i h)
implied false b d i h e = absurd (let g : false ≡ true = e in cc)

is_implied : (a b d : Bool) → (a ≡ true → b ≡ true) → (a && (not b && d)) ≡ false
is_implied true b d h = unless b d (h refl)
is_implied false b d h = refl

side : (z : ℤ) → is_no_side z ≡ false → IsSide z
side z h = let o = or_parts (int_lt z (pos 0)) (int_lt (pos 2048) z) h in record { low = not_below _ _ o.0; high = not_below _ _ o.1 }

is_side : (z : ℤ) → IsSide z → is_no_side z ≡ false
is_side z s = or_from _ _ (is_not_below z (pos 0) s.low) (is_not_below (pos 2048) z s.high)

-- ---- Nothing but bytes is wrong where no row before the last holds.
pub level_faultless : (c : CallValue) → ImageAsked c → IsFaultlessLevel c
level_faultless c a =
    let kinds = and_parts (is_image_format (number c 6)) (is_image_type (number c 7)) (not-false _ a.1.0) in
    let sides = or_parts (is_no_level_side (number c 1) (signed c 3)) (is_no_level_side (number c 1) (signed c 4)) a.1.1.1.1.0 in
    record {
      target = equal (number c 0) GL_TEXTURE_2D a.0;
      format = kinds.0;
      kind = kinds.1;
      internal = not-false _ a.1.1.0;
      level = a.1.1.1.0;
      width = sides.0;
      height = sides.1;
      border = not-false _ a.1.1.1.1.1.0;
      same = equal (number c 2) (number c 6) a.1.1.1.1.1.1.0;
      pair = not-false _ (given_last (not (is_some (form_of (number c 6) (number c 7)))) (is_image_format (number c 6) && is_image_type (number c 7)) (not-false _ a.1.0) a.1.1.1.1.1.1.1.0);
    }

pub level_asked : (c : CallValue) → IsFaultlessLevel c → ImageAsked c
level_asked c f = (
  is_equal (number c 0) GL_TEXTURE_2D f.target,
  (
    not_from_true _ (and_from (is_image_format (number c 6)) (is_image_type (number c 7)) f.format f.kind),
    (
      not_from_true _ f.internal,
      (
        f.level,
        (
          or_from (is_no_level_side (number c 1) (signed c 3)) (is_no_level_side (number c 1) (signed c 4)) f.width f.height,
          (
            not_from_true _ f.border,
            (
              is_equal (number c 2) (number c 6) f.same,
              (unless (is_some (form_of (number c 6) (number c 7))) (is_image_format (number c 6) && is_image_type (number c 7)) f.pair, tt),
            ),
          ),
        ),
      ),
    ),
  ),
)

pub copy_faultless : (s : State) (t n : ℕ) (c : CallValue) → CopyAsked c (gl_facts_of s t n c) → IsFaultlessCopy s t c
copy_faultless s t n c a =
    let sides = or_parts (is_no_level_side (number c 1) (signed c 5)) (is_no_level_side (number c 1) (signed c 6)) a.1.1.1.0 in
    let complete = not-false (is_complete (bound_framebuffer s t)) a.1.1.1.1.1.0 in
    record {
      target = equal (number c 0) GL_TEXTURE_2D a.0;
      internal = not-false _ a.1.0;
      level = a.1.1.0;
      width = sides.0;
      height = sides.1;
      border = not-false _ a.1.1.1.1.0;
      complete = complete;
      alpha = implied (has_alpha (number c 2)) (has_read_alpha s t) (is_complete (bound_framebuffer s t)) complete a.1.1.1.1.1.1.0;
    }

pub copy_asked : (s : State) (t n : ℕ) (c : CallValue) → IsFaultlessCopy s t c → CopyAsked c (gl_facts_of s t n c)
copy_asked s t n c f = (
  is_equal (number c 0) GL_TEXTURE_2D f.target,
  (
    not_from_true _ f.internal,
    (
      f.level,
      (
        or_from (is_no_level_side (number c 1) (signed c 5)) (is_no_level_side (number c 1) (signed c 6)) f.width f.height,
        (
          not_from_true _ f.border,
          (
            not_from_true _ f.complete,
            (is_implied (has_alpha (number c 2)) (has_read_alpha s t) (is_complete (bound_framebuffer s t)) f.alpha, tt),
          ),
        ),
      ),
    ),
  ),
)

pub data_faultless : (s : State) (t n : ℕ) (c : CallValue) → DataAsked c (gl_facts_of s t n c) → IsFaultlessData s n c
data_faultless s t n c a = record {
  target = not-false _ a.0;
  usage = not-false _ a.1.0;
  size = not_below (signed c 1) (pos 0) a.1.1.0;
  bound = not-false _ a.1.1.1.0;
}

pub data_asked : (s : State) (t n : ℕ) (c : CallValue) → IsFaultlessData s n c → DataAsked c (gl_facts_of s t n c)
data_asked s t n c f = (
  not_from_true _ f.target,
  (
    not_from_true _ f.usage,
    (
      is_not_below (signed c 1) (pos 0) f.size,
      (not_from_true _ f.bound, tt),
    ),
  ),
)

pub storage_faultless : (s : State) (t n : ℕ) (c : CallValue) → StorageAsked c (gl_facts_of s t n c) → IsFaultlessStorage s n c
storage_faultless s t n c a =
    let sides = or_parts (is_no_side (signed c 2)) (is_no_side (signed c 3)) a.1.1.0 in
    record {
      target = equal (number c 0) GL_RENDERBUFFER_OES a.0;
      format = not-false _ a.1.0;
      width = side _ sides.0;
      height = side _ sides.1;
      bound = not-false _ a.1.1.1.0;
    }

pub storage_asked : (s : State) (t n : ℕ) (c : CallValue) → IsFaultlessStorage s n c → StorageAsked c (gl_facts_of s t n c)
storage_asked s t n c f = (
  is_equal (number c 0) GL_RENDERBUFFER_OES f.target,
  (
    not_from_true _ f.format,
    (
      or_from (is_no_side (signed c 2)) (is_no_side (signed c 3)) (is_side _ f.width) (is_side _ f.height),
      (not_from_true _ f.bound, tt),
    ),
  ),
)
