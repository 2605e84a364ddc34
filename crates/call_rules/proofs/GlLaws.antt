-- What no refusal of a call of OpenGL ES says.
use Rattle.std.proofs.Common.{◌≡◌, ℕ, ◌+◌, ◌≤◌, ◌<◌, arith, List, [], ◌∷◌, ℤ, pos, Bool, true, false, not, ◌||◌, ◌&&◌, None, Some, is_some, refl, sym, ap, ◌∙◌, ◌⊎◌, inl, inr, bit_or}
use Rattle.std.specs.Prelude.{int_lt, nat_lt, ◌≤ℤ◌, ◌+ℤ◌, ◌==◌}
use Rattle.std.proofs.lemmas.Int.{ints}
use Rattle.std.proofs.lemmas.Bool.{not-false, or_parts, or_from, or_cases, and_parts, and_from, not_from_true}
use Rattle.std.proofs.lemmas.Bool.Decides.{Decides-eqb}
use Rattle.egl_calls.specs.Calls.{CallValue}
use Rattle.egl_calls.specs.declared.kinds.Kind.{Kind}
use Rattle.egl_calls.specs.declared.kinds.Kind.TheVariants.{Gl, Own}
use Rattle.egl_calls.specs.declared.kinds.GlKind.{GlKind}
use Rattle.egl_calls.specs.declared.kinds.GlKind.TheVariants.{Clear, ReadPixels, TexImage2d, TexSubImage2d, CopyTexImage2d, CopyTexSubImage2d, BufferData, BufferSubData, RenderbufferStorage}
use Rattle.egl_calls.specs.declared.kinds.OwnKind.TheVariants.{ReadBuffer}
use Rattle.egl_calls.specs.declared.errors.GlError.{GlError}
use Rattle.egl_calls.specs.declared.errors.GlError.TheVariants.{OutOfMemory}
use Rattle.egl_calls.specs.Ranges.{unsigned}
use Rattle.egl_names.specs.declared.codes.TheConstants.{GL_RGB, GL_RGBA, GL_UNSIGNED_BYTE, GL_UNSIGNED_SHORT_5_6_5}
use Rattle.call_rules.specs.declared.gl_facts.GlFacts.{GlFacts}
use Rattle.refusal_rows.specs.Rows.{AllOff, IsFirst, Row, ◌⇒◌, first_error}
use Rattle.call_table.specs.Rows.{gl_rules, own_rules}
use Rattle.egl_calls.specs.Arguments.{number, signed}
use Rattle.pixel_rows.specs.Rects.{IsInSide}
use Rattle.call_rules.specs.GlRules.{buffer_bits, is_read_format, is_read_type, is_read_pair, read_format, read_type, gl_rows, gl_rows_by, gl_refusal, no_gl_facts, ruled}
use Rattle.call_rules.specs.TextureRules.{is_image_format, is_image_type, is_no_level_side, is_no_part, is_outside_side}
use Rattle.texture_objects.specs.Forms.{form_of}
use Rattle.call_rules.specs.GlAllowed.{but_last, ClearAllowed, CopyAllowed, CopyAsked, CopyPartAllowed, ImageAllowed, ImageAsked, IsSide, PartAllowed, ReadAllowed, BufferPartAllowed, DataAsked, StorageAllowed, StorageAsked}
use Rattle.call_rules.specs.RenderbufferRules.{is_no_side}
use Rattle.refusal_rows.proofs.RowLaws.{all_off, first_is, first_of, from_others, none_on, past_off}
use Rattle.call_rules.proofs.TestLaws.{not_below, is_not_below, within, past, is_past, given_last, unless}

-- the rows of a call before the last, and a last one that asks for bytes
abbrev asked : GlKind → CallValue → GlFacts → List (Row GlError)
asked k c f = ruled (but_last (gl_rules k)) c f

abbrev memory_row : GlFacts → ℕ → Row GlError
memory_row f bytes = nat_lt f.video_limit (f.live_bytes + bytes) ⇒ OutOfMemory

of_kind : (c : CallValue) (f : GlFacts) (k : GlKind) → c.kind ≡ Gl k → gl_refusal c f ≡ first_error (gl_rows k c f)
unfolding gl_refusal
of_kind c f k h = ap (λ (kind : Kind). first_error (gl_rows_by kind c f)) h

pub rows_off : (c : CallValue) (f : GlFacts) (k : GlKind) → c.kind ≡ Gl k → gl_refusal c f ≡ None → AllOff (gl_rows k c f)
rows_off c f k h n = all_off (gl_rows k c f) (sym (of_kind c f k h) ∙ n)

pub refused_not : (c : CallValue) (f : GlFacts) (k : GlKind) → c.kind ≡ Gl k → AllOff (gl_rows k c f) → gl_refusal c f ≡ None
refused_not c f k h a = of_kind c f k h ∙ none_on (gl_rows k c f) a

pub clear_allowed : (c : CallValue) (f : GlFacts) → c.kind ≡ Gl Clear → gl_refusal c f ≡ None → ClearAllowed c f
clear_allowed c f h n =
    let a = rows_off c f Clear h n in
    let m = and_parts (not (int_lt (signed c 0) (pos 0))) (bit_or (unsigned (signed c 0)) buffer_bits == buffer_bits) (not-false _ a.0) in
    record {
      mask = not_below (signed c 0) (pos 0) (unsigned_test (int_lt (signed c 0) (pos 0)) m.0);
      bits = (Decides-eqb (bit_or (unsigned (signed c 0)) buffer_bits) buffer_bits).0 m.1;
      complete = not-false _ a.1.0;
    }
  where
    unsigned_test : (b : Bool) → not b ≡ true → b ≡ false
    unsigned_test false e = refl
    unsigned_test true e = absurd (let g : false ≡ true = e in cc)

pub clear_passes : (c : CallValue) (f : GlFacts) → c.kind ≡ Gl Clear → ClearAllowed c f → gl_refusal c f ≡ None
clear_passes c f h a = refused_not c f Clear h (
  not_from_true _ (and_from _ _ (ap not (is_not_below (signed c 0) (pos 0) a.mask)) ((Decides-eqb (bit_or (unsigned (signed c 0)) buffer_bits) buffer_bits).1 a.bits)),
  (not_from_true _ a.complete, tt),
)

side : (z : ℤ) → is_no_side z ≡ false → IsSide z
side z h = let o = or_parts (int_lt z (pos 0)) (int_lt (pos 2048) z) h in record { low = not_below _ _ o.0; high = not_below _ _ o.1 }

side_off : (z : ℤ) → IsSide z → is_no_side z ≡ false
side_off z s = or_from _ _ (is_not_below z (pos 0) s.low) (is_not_below (pos 2048) z s.high)

pair : (format kind a b x y : ℕ) → (((format == a) && (kind == x)) || ((format == b) && (kind == y))) ≡ true → ((format ≡ a) × (kind ≡ x)) ⊎ ((format ≡ b) × (kind ≡ y))
pair format kind a b x y h = elim (or_cases ((format == a) && (kind == x)) ((format == b) && (kind == y)) h) [
  | inl e ↦ let p = and_parts (format == a) (kind == x) e in inl ((Decides-eqb format a).0 p.0, (Decides-eqb kind x).0 p.1)
  | inr e ↦ let p = and_parts (format == b) (kind == y) e in inr ((Decides-eqb format b).0 p.0, (Decides-eqb kind y).0 p.1)
]

pub read_allowed : (c : CallValue) (f : GlFacts) → c.kind ≡ Gl ReadPixels → gl_refusal c f ≡ None → ReadAllowed c f
read_allowed c f h n =
    let a = rows_off c f ReadPixels h n in
    let sides = or_parts (is_no_side (signed c 2)) (is_no_side (signed c 3)) a.0 in
    record {
      width = side _ sides.0;
      height = side _ sides.1;
      pair = pair (read_format c) (read_type c) GL_RGBA GL_RGB GL_UNSIGNED_BYTE GL_UNSIGNED_SHORT_5_6_5 (not-false _ (given_last (not (is_read_pair (read_format c) (read_type c))) (is_read_format (read_format c) && is_read_type (read_type c)) (not-false _ a.1.0) a.1.1.0));
      complete = not-false _ a.1.1.1.0;
    }

pair_known : (format kind : ℕ) → ((format ≡ GL_RGBA) × (kind ≡ GL_UNSIGNED_BYTE)) ⊎ ((format ≡ GL_RGB) × (kind ≡ GL_UNSIGNED_SHORT_5_6_5)) → (is_read_format format && is_read_type kind) ≡ true
pair_known format kind (inl p) = ap (λ n. is_read_format n && is_read_type kind) p.0 ∙ ap (λ n. is_read_format GL_RGBA && is_read_type n) p.1
pair_known format kind (inr p) = ap (λ n. is_read_format n && is_read_type kind) p.0 ∙ ap (λ n. is_read_format GL_RGB && is_read_type n) p.1

pair_read : (format kind : ℕ) → ((format ≡ GL_RGBA) × (kind ≡ GL_UNSIGNED_BYTE)) ⊎ ((format ≡ GL_RGB) × (kind ≡ GL_UNSIGNED_SHORT_5_6_5)) → is_read_pair format kind ≡ true
pair_read format kind (inl p) = ap (λ n. is_read_pair n kind) p.0 ∙ ap (is_read_pair GL_RGBA) p.1
pair_read format kind (inr p) = ap (λ n. is_read_pair n kind) p.0 ∙ ap (is_read_pair GL_RGB) p.1

pub read_passes : (c : CallValue) (f : GlFacts) → c.kind ≡ Gl ReadPixels → ReadAllowed c f → gl_refusal c f ≡ None
read_passes c f h a = refused_not c f ReadPixels h (
  or_from _ _ (side_off _ a.width) (side_off _ a.height),
  (
    not_from_true _ (pair_known (read_format c) (read_type c) a.pair),
    (
      unless (is_read_pair (read_format c) (read_type c)) (is_read_format (read_format c) && is_read_type (read_type c)) (pair_read (read_format c) (read_type c) a.pair),
      (not_from_true _ a.complete, tt),
    ),
  ),
)

-- ---- Pixels that are given.
-- a format and a type that there are, and that go together
known_pair : (c : CallValue) → not (is_image_format (number c 6) && is_image_type (number c 7)) ≡ false → (not (is_some (form_of (number c 6) (number c 7))) && (is_image_format (number c 6) && is_image_type (number c 7))) ≡ false → is_some (form_of (number c 6) (number c 7)) ≡ true
known_pair c k h = not-false _ (given_last (not (is_some (form_of (number c 6) (number c 7)))) (is_image_format (number c 6) && is_image_type (number c 7)) (not-false _ k) h)

pub image_allowed : (c : CallValue) (f : GlFacts) → c.kind ≡ Gl TexImage2d → gl_refusal c f ≡ None → ImageAllowed c f
image_allowed c f h n =
    let a = rows_off c f TexImage2d h n in
    let sides = or_parts (is_no_level_side (number c 1) (signed c 3)) (is_no_level_side (number c 1) (signed c 4)) a.1.1.1.1.0 in
    record {
      level = a.1.1.1.0;
      width = sides.0;
      height = sides.1;
      form = known_pair c a.1.0 a.1.1.1.1.1.1.1.0;
      room = within f.video_limit (f.live_bytes + f.image_bytes) a.1.1.1.1.1.1.1.1.0;
    }

-- where there are no more bytes
abbrev is_out_of_memory : GlError → Bool
is_out_of_memory OutOfMemory = true
is_out_of_memory e = false

last : (b : Bool) (e : GlError) → first_error ((b ⇒ e) ∷ []) ≡ Some e → b ≡ true
last true e h = refl
last false e h = absurd (let g : Some e ≡ None = sym h in cc)

pub image_wants : (c : CallValue) (f : GlFacts) → c.kind ≡ Gl TexImage2d → gl_refusal c f ≡ Some OutOfMemory → ImageAsked c × (f.video_limit < f.live_bytes + f.image_bytes)
image_wants c f h n =
    let o = from_others is_out_of_memory OutOfMemory (asked TexImage2d c no_gl_facts) (memory_row f f.image_bytes ∷ []) refl (refl, (refl, (refl, (refl, (refl, (refl, (refl, (refl, tt)))))))) (sym (of_kind c f TexImage2d h) ∙ n) in
    (o.0, past f.video_limit (f.live_bytes + f.image_bytes) (last (nat_lt f.video_limit (f.live_bytes + f.image_bytes)) OutOfMemory o.1))

pub wanting_image : (c : CallValue) (f : GlFacts) → c.kind ≡ Gl TexImage2d → ImageAsked c × (f.video_limit < f.live_bytes + f.image_bytes) → gl_refusal c f ≡ Some OutOfMemory
wanting_image c f h w =
    of_kind c f TexImage2d h ∙ past_off (asked TexImage2d c no_gl_facts) (memory_row f f.image_bytes ∷ []) w.0
    ∙ ap (λ b. first_error ((b ⇒ OutOfMemory) ∷ [])) (is_past f.video_limit (f.live_bytes + f.image_bytes) w.1)

ends_inside : (side : ℕ) (a b : ℤ) → pos 0 ≤ℤ a → pos 0 ≤ℤ b → unsigned a + unsigned b ≤ side → (a +ℤ b) ≤ℤ pos side
ends_inside side a b h k l = grind (arith, ints)

part_inside : (side : ℕ) (first size : ℤ) → is_no_part side first size ≡ false → IsInSide first size side
part_inside side first size h =
    let o = or_parts (int_lt first (pos 0) || int_lt size (pos 0)) (nat_lt side (unsigned first + unsigned size)) h in
    let p = or_parts (int_lt first (pos 0)) (int_lt size (pos 0)) o.0 in
    let low = not_below first (pos 0) p.0 in let some = not_below size (pos 0) p.1 in
    record { first = low; some = some; last = ends_inside side first size low some (within side (unsigned first + unsigned size) o.1) }

no_part : (is_stored : Bool) (side : ℕ) (first size : ℤ) → is_stored ≡ true → is_outside_side is_stored side first size ≡ false → is_no_part side first size ≡ false
no_part is_stored side first size stored h = given_last (is_no_part side first size) is_stored stored (or_parts (int_lt size (pos 0)) (is_no_part side first size && is_stored) h).1

pub part_allowed : (c : CallValue) (f : GlFacts) → c.kind ≡ Gl TexSubImage2d → gl_refusal c f ≡ None → PartAllowed c f
part_allowed c f h n =
    let a = rows_off c f TexSubImage2d h n in
    let stored = not-false f.is_stored a.1.1.1.0 in
    let sides = or_parts (is_outside_side f.is_stored f.stored_width (signed c 2) (signed c 4)) (is_outside_side f.is_stored f.stored_height (signed c 3) (signed c 5)) a.1.1.1.1.0 in
    record {
      level = a.1.1.0;
      stored = stored;
      inside = record { columns = part_inside f.stored_width (signed c 2) (signed c 4) (no_part f.is_stored f.stored_width (signed c 2) (signed c 4) stored sides.0); rows = part_inside f.stored_height (signed c 3) (signed c 5) (no_part f.is_stored f.stored_height (signed c 3) (signed c 5) stored sides.1) };
      form = known_pair c a.1.0 a.1.1.1.1.1.1.0;
    }

-- ---- Pixels that are copied.
pub copy_allowed : (c : CallValue) (f : GlFacts) → c.kind ≡ Gl CopyTexImage2d → gl_refusal c f ≡ None → CopyAllowed c f
copy_allowed c f h n =
    let a = rows_off c f CopyTexImage2d h n in
    let sides = or_parts (is_no_level_side (number c 1) (signed c 5)) (is_no_level_side (number c 1) (signed c 6)) a.1.1.1.0 in
    record {
      level = a.1.1.0;
      width = sides.0;
      height = sides.1;
      complete = not-false _ a.1.1.1.1.1.0;
      room = within f.video_limit (f.live_bytes + f.copied_bytes) a.1.1.1.1.1.1.1.0;
    }

pub copy_wants : (c : CallValue) (f : GlFacts) → c.kind ≡ Gl CopyTexImage2d → gl_refusal c f ≡ Some OutOfMemory → CopyAsked c f × (f.video_limit < f.live_bytes + f.copied_bytes)
copy_wants c f h n =
    let o = from_others is_out_of_memory OutOfMemory (asked CopyTexImage2d c f) (memory_row f f.copied_bytes ∷ []) refl (refl, (refl, (refl, (refl, (refl, (refl, (refl, tt))))))) (sym (of_kind c f CopyTexImage2d h) ∙ n) in
    (o.0, past f.video_limit (f.live_bytes + f.copied_bytes) (last (nat_lt f.video_limit (f.live_bytes + f.copied_bytes)) OutOfMemory o.1))

pub wanting_copy : (c : CallValue) (f : GlFacts) → c.kind ≡ Gl CopyTexImage2d → CopyAsked c f × (f.video_limit < f.live_bytes + f.copied_bytes) → gl_refusal c f ≡ Some OutOfMemory
wanting_copy c f h w =
    of_kind c f CopyTexImage2d h ∙ past_off (asked CopyTexImage2d c f) (memory_row f f.copied_bytes ∷ []) w.0
    ∙ ap (λ b. first_error ((b ⇒ OutOfMemory) ∷ [])) (is_past f.video_limit (f.live_bytes + f.copied_bytes) w.1)

pub copy_part_allowed : (c : CallValue) (f : GlFacts) → c.kind ≡ Gl CopyTexSubImage2d → gl_refusal c f ≡ None → CopyPartAllowed c f
copy_part_allowed c f h n =
    let a = rows_off c f CopyTexSubImage2d h n in
    let stored = not-false f.is_stored a.1.1.0 in
    let sides = or_parts (is_outside_side f.is_stored f.stored_width (signed c 2) (signed c 6)) (is_outside_side f.is_stored f.stored_height (signed c 3) (signed c 7)) a.1.1.1.0 in
    record {
      level = a.1.0;
      stored = stored;
      columns = part_inside f.stored_width (signed c 2) (signed c 6) (no_part f.is_stored f.stored_width (signed c 2) (signed c 6) stored sides.0);
      rows = part_inside f.stored_height (signed c 3) (signed c 7) (no_part f.is_stored f.stored_height (signed c 3) (signed c 7) stored sides.1);
      complete = not-false _ a.1.1.1.1.0;
    }

-- ---- Buffers.
pub data_room : (c : CallValue) (f : GlFacts) → c.kind ≡ Gl BufferData → gl_refusal c f ≡ None → f.live_bytes + f.data_bytes ≤ f.video_limit
data_room c f h n = within f.video_limit (f.live_bytes + f.data_bytes) (rows_off c f BufferData h n).1.1.1.1.0

pub data_wants : (c : CallValue) (f : GlFacts) → c.kind ≡ Gl BufferData → gl_refusal c f ≡ Some OutOfMemory → DataAsked c f × (f.video_limit < f.live_bytes + f.data_bytes)
data_wants c f h n =
    let o = from_others is_out_of_memory OutOfMemory (asked BufferData c f) (memory_row f f.data_bytes ∷ []) refl (refl, (refl, (refl, (refl, tt)))) (sym (of_kind c f BufferData h) ∙ n) in
    (o.0, past f.video_limit (f.live_bytes + f.data_bytes) (last (nat_lt f.video_limit (f.live_bytes + f.data_bytes)) OutOfMemory o.1))

pub wanting_data : (c : CallValue) (f : GlFacts) → c.kind ≡ Gl BufferData → DataAsked c f × (f.video_limit < f.live_bytes + f.data_bytes) → gl_refusal c f ≡ Some OutOfMemory
wanting_data c f h w =
    of_kind c f BufferData h ∙ past_off (asked BufferData c f) (memory_row f f.data_bytes ∷ []) w.0
    ∙ ap (λ b. first_error ((b ⇒ OutOfMemory) ∷ [])) (is_past f.video_limit (f.live_bytes + f.data_bytes) w.1)

buffer_part : (c : CallValue) (f : GlFacts) → AllOff (ruled (own_rules ReadBuffer) c f) → BufferPartAllowed c f
buffer_part c f a =
    let o = or_parts (int_lt (signed c 1) (pos 0)) (int_lt (signed c 2) (pos 0)) a.1.0 in
    let bound = not-false f.is_buffer_bound a.1.1.0 in
    record { offset = not_below _ _ o.0; size = not_below _ _ o.1; bound = bound; inside = within f.buffer_size (number c 1 + number c 2) (given_last (nat_lt f.buffer_size (number c 1 + number c 2)) f.is_buffer_bound bound a.1.1.1.0) }

pub buffer_part_allowed : (c : CallValue) (f : GlFacts) → c.kind ≡ Gl BufferSubData → gl_refusal c f ≡ None → BufferPartAllowed c f
buffer_part_allowed c f h n = buffer_part c f (rows_off c f BufferSubData h n)

pub read_buffer_allowed : (c : CallValue) (f : GlFacts) → c.kind ≡ Own ReadBuffer → gl_refusal c f ≡ None → BufferPartAllowed c f
unfolding gl_refusal
read_buffer_allowed c f h n = buffer_part c f (all_off (ruled (own_rules ReadBuffer) c f) (sym (ap (λ (kind : Kind). first_error (gl_rows_by kind c f)) h) ∙ n))

-- ---- Renderbuffers.
pub storage_allowed : (c : CallValue) (f : GlFacts) → c.kind ≡ Gl RenderbufferStorage → gl_refusal c f ≡ None → StorageAllowed c f
storage_allowed c f h n =
    let a = rows_off c f RenderbufferStorage h n in
    let sides = or_parts (is_no_side (signed c 2)) (is_no_side (signed c 3)) a.1.1.0 in
    record {
      format = not-false _ a.1.0;
      width = side _ sides.0;
      height = side _ sides.1;
      bound = not-false _ a.1.1.1.0;
      room = within f.video_limit (f.live_bytes + f.storage_bytes) a.1.1.1.1.0;
    }

pub storage_wants : (c : CallValue) (f : GlFacts) → c.kind ≡ Gl RenderbufferStorage → gl_refusal c f ≡ Some OutOfMemory → StorageAsked c f × (f.video_limit < f.live_bytes + f.storage_bytes)
storage_wants c f h n =
    let o = from_others is_out_of_memory OutOfMemory (asked RenderbufferStorage c f) (memory_row f f.storage_bytes ∷ []) refl (refl, (refl, (refl, (refl, tt)))) (sym (of_kind c f RenderbufferStorage h) ∙ n) in
    (o.0, past f.video_limit (f.live_bytes + f.storage_bytes) (last (nat_lt f.video_limit (f.live_bytes + f.storage_bytes)) OutOfMemory o.1))

pub wanting_storage : (c : CallValue) (f : GlFacts) → c.kind ≡ Gl RenderbufferStorage → StorageAsked c f × (f.video_limit < f.live_bytes + f.storage_bytes) → gl_refusal c f ≡ Some OutOfMemory
wanting_storage c f h w =
    of_kind c f RenderbufferStorage h ∙ past_off (asked RenderbufferStorage c f) (memory_row f f.storage_bytes ∷ []) w.0
    ∙ ap (λ b. first_error ((b ⇒ OutOfMemory) ∷ [])) (is_past f.video_limit (f.live_bytes + f.storage_bytes) w.1)

-- ---- Any call, by its rows.
pub refused_first : (c : CallValue) (f : GlFacts) (k : GlKind) (e : GlError) → c.kind ≡ Gl k → gl_refusal c f ≡ Some e → IsFirst e (gl_rows k c f)
refused_first c f k e h n = first_of e (gl_rows k c f) (sym (of_kind c f k h) ∙ n)

pub first_refused : (c : CallValue) (f : GlFacts) (k : GlKind) (e : GlError) → c.kind ≡ Gl k → IsFirst e (gl_rows k c f) → gl_refusal c f ≡ Some e
first_refused c f k e h n = of_kind c f k h ∙ first_is e (gl_rows k c f) n

-- ---- The rows of a call are those of the table; one kind stands apart, so that the others are tried one by one.
pub told_rows : (k : GlKind) (c : CallValue) (f : GlFacts) → gl_rows k c f ≡ ruled (gl_rules k) c f
told_rows Clear c f = refl
told_rows k c f = refl
