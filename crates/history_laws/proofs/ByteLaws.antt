-- New pixels and contents take the bytes that their calls count.
use Rattle.std.proofs.Common.{◌≡◌, ◌⊎◌, inl, inr, ℕ, ◌+◌, ◌*◌, ◌≤◌, ◌||◌, ◌==◌, ℤ, pos, negsuc, cond, true, List, [], ◌∷◌, ◌++◌, length, get_or, set, min, is_some, refl, sym, ap, ◌∙◌, arith, zero-mul, mul_comm, Option, None, Some}
use Rattle.std.specs.Prelude.{◌≤ℤ◌}
use Rattle.std.specs.List.{sum_by}
use Rattle.std.specs.Option.{option_map, option_map_or}
use Rattle.std.proofs.lemmas.Bool.{cases_lt, cond_both, eqb-true, or_cases}
use Rattle.std.proofs.lemmas.Int.{ints}
use Rattle.std.proofs.lemmas.List.{set_past}
use Rattle.std.proofs.lemmas.List.Sums.{sum_by-append, sum_by-set}
use Rattle.std.proofs.lemmas.Option.{none-some, same_Some}
use Rattle.egl_calls.specs.Arguments.{number, signed}
use Rattle.egl_calls.specs.Calls.{CallValue}
use Rattle.egl_calls.specs.Ranges.{unsigned}
use Rattle.egl_calls.specs.declared.kinds.GlKind.{GlKind}
use Rattle.call_table.specs.Rows.{gl_role}
use Rattle.call_table.specs.declared.roles.Role.TheVariants.{Copies, Specifies}
use Rattle.share_group.specs.declared.names.NameKind.TheVariants.{Buffer as buffers, Renderbuffer as renderbuffers, Texture as textures}
use Rattle.pixel_formats.specs.Formats.{bytes_of}
use Rattle.pixel_formats.specs.declared.formats.Format.{Format}
use Rattle.pixel_rows.specs.Images.{ImageValue, blank, frozen}
use Rattle.pixel_rows.specs.Painting.{painted}
use Rattle.pixel_rows.specs.Payloads.{loaded}
use Rattle.rect_pipeline.specs.Copying.{copied_into}
use Rattle.texture_objects.specs.Uploads.{uploaded}
use Rattle.buffer_objects.specs.Buffers.{BufferValue}
use Rattle.buffer_objects.specs.Contents.{given}
use Rattle.buffer_objects.proofs.Writes.{length-filled}
use Rattle.framebuffer_objects.specs.InternalFormats.{format_of}
use Rattle.framebuffer_objects.specs.Renderbuffers.{RenderbufferValue}
use Rattle.driver_objects.specs.Storages.{StorageValue, storage_bytes, stored}
use Rattle.driver_objects.specs.declared.objects.Object.{Object}
use Rattle.driver_objects.specs.declared.objects.Object.TheVariants.{Buffer, Renderbuffer, Storage, Texture}
use Rattle.egl_model.specs.Buffers.{set_data, target_buffer, with_data}
use Rattle.egl_model.specs.Copies.{copied_bytes, copied_format, copied_from, copied_level, copies_nothing, read_image}
use Rattle.egl_model.specs.GlCalls.{gl_effect}
use Rattle.egl_model.specs.Objects.{as_buffer, buffer_in, change_buffer, change_renderbuffer, with_buffer, with_renderbuffer}
use Rattle.egl_model.specs.Renderbuffers.{new_kind, new_pixels, renderbuffer_bytes, stored_as, target_renderbuffer, with_kind}
use Rattle.egl_model.specs.State.{State}
use Rattle.egl_model.specs.Sweep.{bytes_in, live_bytes}
use Rattle.egl_model.specs.Textures.{change_pixels, has_no_side, image_bytes, level_of, new_level, specified, specified_in, target_texture, unpack_alignment, with_pixels}
use Rattle.model_laws.specs.Laws.{IsAllowedGl}
use Rattle.model_laws.proofs.Calls.CopyCalls.{copy_passed}
use Rattle.model_laws.proofs.References.Places.{below}
use Rattle.model_laws.proofs.Calls.RenderbufferCalls.{storage_passed}
use Rattle.model_laws.proofs.Calls.TextureCalls.{side_few, small, specify_allowed}
use Rattle.history_laws.proofs.MemoryRows.{of_role}

-- ---- An object that is put in a place for one with as many bytes.
same_at : (os : List (Option Object)) (n : ℕ) (o : Option Object) → bytes_in o ≡ bytes_in (get_or os n None) → live_bytes (set os n o) ≡ live_bytes os
unfolding live_bytes
same_at os n o e = elim (cases_lt n (length os)) [
  | inl h ↦ let a = sum_by-set bytes_in os n o None h in omega (arith, a, e)
  | inr h ↦ ap (sum_by bytes_in) (set_past os n o h)
]

pixels_same : (k : ℕ) (p : Option ℕ) (o : Option Object) → bytes_in (with_pixels k p o) ≡ bytes_in o
pixels_same k p (Some (Texture x)) = refl
pixels_same k p (Some (Renderbuffer r)) = refl
pixels_same k p o = refl

kind_same : (r : RenderbufferValue) (o : Option Object) → bytes_in (with_renderbuffer (with_kind r) o) ≡ bytes_in o
kind_same r (Some (Renderbuffer x)) = refl
kind_same r o = refl

changed_same : (k : ℕ) (p : Option ℕ) (n : ℕ) (os : List (Option Object)) → live_bytes (change_pixels k p n os) ≡ live_bytes os
unfolding change_pixels
changed_same k p n os = same_at os n (with_pixels k p (get_or os n None)) (pixels_same k p (get_or os n None))

kinded_same : (r : RenderbufferValue) (n : ℕ) (os : List (Option Object)) → live_bytes (change_renderbuffer (with_kind r) n os) ≡ live_bytes os
unfolding change_renderbuffer
kinded_same r n os = same_at os n (with_renderbuffer (with_kind r) (get_or os n None)) (kind_same r (get_or os n None))

-- ---- A storage, or none.
abbrev bytes_given : Option StorageValue → ℕ
bytes_given o = option_map_or storage_bytes o 0

one_more : (os : List (Option Object)) (v : StorageValue) → live_bytes (os ++ Some (Storage v) ∷ []) ≡ live_bytes os + storage_bytes v
unfolding live_bytes
one_more os v = let a = sum_by-append bytes_in os (Some (Storage v) ∷ []) in omega (arith, a)

specified_bytes : (k : ℕ) (o : Option StorageValue) (x : ℕ) (os : List (Option Object)) → live_bytes (specified_in k o x os) ≡ live_bytes os + bytes_given o
specified_bytes k None x os = let a = changed_same k None x os in omega (arith, a)
specified_bytes k (Some v) x os = changed_same k (Some (length os)) x (os ++ Some (Storage v) ∷ []) ∙ one_more os v

-- no pixels where a side is 0
no_area : (w h b : ℕ) → (w ≡ 0) ⊎ (h ≡ 0) → w * h * b ≡ 0
no_area w h b (inl e) = ap (λ k. k * h * b) e ∙ ap (λ k. k * b) (zero-mul h) ∙ zero-mul b
no_area w h b (inr e) = ap (λ k. w * k * b) e ∙ ap (λ k. k * b) (mul_comm w 0 ∙ zero-mul w) ∙ zero-mul b

min_zero : (n m : ℕ) → n ≡ 0 → min n m ≡ 0
min_zero n m e = omega (arith, e)

no_side : (w h m b : ℕ) → ((w == 0) || (h == 0)) ≡ true → min w m * min h m * b ≡ 0
no_side w h m b e = no_area (min w m) (min h m) b (elim (or_cases (w == 0) (h == 0) e) [
  | inl a ↦ inl (min_zero w m (eqb-true w 0 a))
  | inr a ↦ inr (min_zero h m (eqb-true h 0 a))
])

-- ---- glTexImage2D.
uploaded_bytes : (c : CallValue) (align : ℕ) → unsigned (signed c 3) ≤ 1024 → unsigned (signed c 4) ≤ 1024 → storage_bytes (stored (frozen (uploaded c align))) ≡ image_bytes c
unfolding loaded painted
uploaded_bytes c align a b = rw (small (unsigned (signed c 3)) a, small (unsigned (signed c 4)) b) refl

level_bytes : (c : CallValue) (align : ℕ) → unsigned (signed c 3) ≤ 1024 → unsigned (signed c 4) ≤ 1024 → bytes_given (new_level c align) ≡ image_bytes c
level_bytes c align a b = cond_both (has_no_side c) None (Some (stored (frozen (uploaded c align)))) (λ v. bytes_given v ≡ image_bytes c)
    (λ e. sym (no_side (number c 3) (number c 4) 1024 _ e)) (λ e. uploaded_bytes c align a b)

image_at : (s : State) (c : CallValue) (align x : ℕ) (o : Option ℕ) → o ≡ Some x → unsigned (signed c 3) ≤ 1024 → unsigned (signed c 4) ≤ 1024 →
    live_bytes (specified (level_of c) (new_level c align) o s).objects ≡ live_bytes s.objects + image_bytes c
image_at s c align x None e a b = absurd (none-some x e)
image_at s c align x (Some y) e a b = specified_bytes (level_of c) (new_level c align) y s.objects ∙ ap (λ k. live_bytes s.objects + k) (level_bytes c align a b)

abbrev CountsImage : State → ℕ → ℕ → ℕ → CallValue → GlKind → Type 0
CountsImage s t n x c k = IsAllowedGl s t n k c → target_texture s n ≡ Some x → live_bytes (gl_effect s t n k c).state.objects ≡ live_bytes s.objects + image_bytes c

pub image_counted : (s : State) (t n x : ℕ) (k : GlKind) (c : CallValue) → gl_role k ≡ Specifies textures → CountsImage s t n x c k
image_counted s t n x k c r = of_role (Specifies textures) (CountsImage s t n x c) k r (λ h e.
    let f = specify_allowed s t n c h.call.kind h.allowed in
    image_at s c (unpack_alignment s n) x (target_texture s n) e (side_few _ (signed c 3) f.width) (side_few _ (signed c 4) f.height))

-- ---- glCopyTexImage2D.
copy_bytes : (c : CallValue) (i : ImageValue) → unsigned (signed c 5) ≤ 1024 → unsigned (signed c 6) ≤ 1024 → storage_bytes (copied_level c i) ≡ copied_bytes c
unfolding copied_into painted
copy_bytes c i a b = rw (small (unsigned (signed c 5)) a, small (unsigned (signed c 6)) b) refl

from_image : (s : State) (c : CallValue) (i : ImageValue) (y : ℕ) (o : Option ImageValue) → o ≡ Some i → unsigned (signed c 5) ≤ 1024 → unsigned (signed c 6) ≤ 1024 →
    live_bytes (copied_from o c (Some y) s).objects ≡ live_bytes s.objects + copied_bytes c
from_image s c i y None e a b = absurd (none-some i e)
from_image s c i y (Some j) e a b = specified_bytes (level_of c) (Some (copied_level c j)) y s.objects ∙ ap (λ k. live_bytes s.objects + k) (copy_bytes c j a b)

nothing_copied : (s : State) (c : CallValue) (y : ℕ) → copies_nothing c ≡ true → live_bytes (specified (level_of c) None (Some y) s).objects ≡ live_bytes s.objects + copied_bytes c
nothing_copied s c y e = specified_bytes (level_of c) None y s.objects ∙ ap (λ k. live_bytes s.objects + k) (sym (no_side (number c 5) (number c 6) 1024 (bytes_of (copied_format c)) e))

copy_at : (s : State) (t x : ℕ) (c : CallValue) (i : ImageValue) (o : Option ℕ) → o ≡ Some x → read_image s t ≡ Some i → unsigned (signed c 5) ≤ 1024 → unsigned (signed c 6) ≤ 1024 →
    live_bytes (cond (copies_nothing c) (specified (level_of c) None o s) (copied_from (read_image s t) c o s)).objects ≡ live_bytes s.objects + copied_bytes c
copy_at s t x c i None e r a b = absurd (none-some x e)
copy_at s t x c i (Some y) e r a b = cond_both (copies_nothing c) (specified (level_of c) None (Some y) s) (copied_from (read_image s t) c (Some y) s) (λ (z : State). live_bytes z.objects ≡ live_bytes s.objects + copied_bytes c)
    (λ q. nothing_copied s c y q) (λ q. from_image s c i y (read_image s t) r a b)

abbrev CountsCopy : State → ℕ → ℕ → ℕ → CallValue → ImageValue → GlKind → Type 0
CountsCopy s t n x c i k = IsAllowedGl s t n k c → target_texture s n ≡ Some x → read_image s t ≡ Some i → live_bytes (gl_effect s t n k c).state.objects ≡ live_bytes s.objects + copied_bytes c

pub copy_counted : (s : State) (t n x : ℕ) (k : GlKind) (c : CallValue) (i : ImageValue) → gl_role k ≡ Copies → CountsCopy s t n x c i k
copy_counted s t n x k c i r = of_role Copies (CountsCopy s t n x c i) k r (λ h e r.
    let f = copy_passed s t n c h.call.kind h.allowed in
    copy_at s t x c i (target_texture s n) e r (side_few _ (signed c 5) f.width) (side_few _ (signed c 6) f.height))

-- ---- glRenderbufferStorageOES.
within_sides : (n : ℕ) → n ≤ 2048 → min n 2048 ≡ n
within_sides n h = omega (arith, h)

longest : (z : ℤ) → z ≤ℤ pos 2048 → unsigned z ≤ 2048
longest (pos n) h = omega (arith, ints, h)
longest (negsuc n) h = omega arith

blank_bytes : (w h : ℕ) (o : Option Format) → w ≤ 2048 → h ≤ 2048 → bytes_given (option_map (λ i. stored (frozen i)) (option_map (λ f. blank f w h) o)) ≡ option_map_or (λ f. min w 2048 * min h 2048 * bytes_of f) o 0
blank_bytes w h None a b = refl
blank_bytes w h (Some f) a b = rw (within_sides w a, within_sides h b) refl

storage_at : (s : State) (c : CallValue) (x : ℕ) (o : Option ℕ) → o ≡ Some x → number c 2 ≤ 2048 → number c 3 ≤ 2048 → live_bytes (stored_as (new_kind c) (new_pixels c) o s).objects ≡ live_bytes s.objects + renderbuffer_bytes c
storage_at s c x None e a b = absurd (none-some x e)
storage_at s c x (Some y) e a b =
    specified_bytes 0 (new_pixels c) y (change_renderbuffer (with_kind (new_kind c)) y s.objects)
    ∙ ap (λ k. k + bytes_given (new_pixels c)) (kinded_same (new_kind c) y s.objects)
    ∙ ap (λ k. live_bytes s.objects + k) (blank_bytes (number c 2) (number c 3) (format_of (number c 1)) a b)

abbrev CountsStorage : State → ℕ → ℕ → ℕ → CallValue → GlKind → Type 0
CountsStorage s t n x c k = IsAllowedGl s t n k c → target_renderbuffer s n ≡ Some x → live_bytes (gl_effect s t n k c).state.objects ≡ live_bytes s.objects + renderbuffer_bytes c

pub storage_counted : (s : State) (t n x : ℕ) (k : GlKind) (c : CallValue) → gl_role k ≡ Specifies renderbuffers → CountsStorage s t n x c k
storage_counted s t n x k c r = of_role (Specifies renderbuffers) (CountsStorage s t n x c) k r (λ h e.
    let f = storage_passed s t n c h.call.kind h.allowed in
    storage_at s c x (target_renderbuffer s n) e (longest (signed c 2) f.width.high) (longest (signed c 3) f.height.high))

-- ---- glBufferData.
is_buffer : (o : Option Object) (b : BufferValue) → as_buffer o ≡ Some b → o ≡ Some (Buffer b)
is_buffer (Some (Buffer x)) b h = ap (λ (y : BufferValue). Some (Buffer y)) (same_Some x b h)
is_buffer o b h = absurd (none-some b h)

contents_in : (os : List (Option Object)) (c : CallValue) (y : ℕ) (b : BufferValue) → get_or os y None ≡ Some (Buffer b) → live_bytes (change_buffer (with_data c) y os) + length b.contents ≡ live_bytes os + number c 1
unfolding change_buffer live_bytes
contents_in os c y b e =
    let l = below os y (ap is_some e) in
    let d = sum_by-set bytes_in os y (with_buffer (with_data c) (get_or os y None)) None l in
    let old = ap bytes_in e in
    let new = ap (λ o. bytes_in (with_buffer (with_data c) o)) e in
    let size = length-filled (number c 1) (given c.bytes) in
    omega (arith, d, old, new, size)

contents_at : (s : State) (c : CallValue) (x : ℕ) (b : BufferValue) (o : Option ℕ) → o ≡ Some x → buffer_in s.objects x ≡ Some b → live_bytes (set_data c o s).objects + length b.contents ≡ live_bytes s.objects + number c 1
contents_at s c x b None e h = absurd (none-some x e)
contents_at s c x b (Some y) e h = contents_in s.objects c y b (ap (λ k. get_or s.objects k None) (same_Some y x e) ∙ is_buffer (get_or s.objects x None) b h)

abbrev CountsContents : State → ℕ → ℕ → ℕ → CallValue → BufferValue → GlKind → Type 0
CountsContents s t n x c b k = IsAllowedGl s t n k c → target_buffer s n c ≡ Some x → buffer_in s.objects x ≡ Some b → live_bytes (gl_effect s t n k c).state.objects + length b.contents ≡ live_bytes s.objects + number c 1

pub contents_counted : (s : State) (t n x : ℕ) (k : GlKind) (c : CallValue) (b : BufferValue) → gl_role k ≡ Specifies buffers → CountsContents s t n x c b k
contents_counted s t n x k c b r = of_role (Specifies buffers) (CountsContents s t n x c b) k r (λ h e i.
    contents_at s c x b (target_buffer s n c) e i)
