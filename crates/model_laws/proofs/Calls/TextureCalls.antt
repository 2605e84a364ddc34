-- What the calls on textures keep.
use Rattle.std.proofs.Common.{◌≡◌, ℕ, ◌+◌, ◌||◌, ◌/◌, ◌^◌, ◌≤◌, ℤ, pos, pow_pos, ltb, Bool, true, false, List, [], ◌∷◌, ◌++◌, refl, ap, subst, ◌∙◌, arith, length, min, Option, None, Some}
use Rattle.std.specs.Prelude.{int_lt, is_some, unwrap_or}
use Rattle.std.specs.Option.{option_and_then, option_map, option_map_or}
use Rattle.std.proofs.lemmas.Bool.{cond_both, or_parts, ltb-false}
use Rattle.std.proofs.lemmas.Option.{none-some}
use Rattle.std.proofs.lemmas.Nat.{div_below}
use Rattle.egl_calls.specs.Calls.{CallValue}
use Rattle.egl_calls.specs.Ranges.{unsigned}
use Rattle.egl_calls.specs.declared.kinds.Kind.TheVariants.{Gl}
use Rattle.egl_calls.specs.declared.kinds.GlKind.TheVariants.{TexImage2d}
use Rattle.egl_calls.specs.Arguments.{signed}
use Rattle.call_rules.specs.GlAllowed.{ImageAllowed}
use Rattle.call_rules.specs.TextureRules.{is_no_level_side, longest_side}
use Rattle.call_rules.proofs.GlLaws.{image_allowed}
use Rattle.pixel_rows.specs.Images.{frozen}
use Rattle.pixel_rows.specs.Painting.{painted}
use Rattle.pixel_rows.specs.Payloads.{loaded}
use Rattle.texture_objects.specs.Forms.{base_code}
use Rattle.texture_objects.specs.Uploads.{uploaded}
use Rattle.driver_objects.specs.Storages.{StorageValue, rewritten_image, storage_bytes, stored}
use Rattle.driver_objects.specs.declared.kinds.ObjectKind.TheVariants.{Storage as a_storage}
use Rattle.driver_objects.specs.declared.objects.Object.{Object}
use Rattle.driver_objects.specs.declared.objects.Object.TheVariants.{Context, Storage, Texture}
use Rattle.egl_model.specs.Currents.{current_context}
use Rattle.model_laws.specs.Extents.{quiet}
use Rattle.model_laws.specs.Full.{Full}
use Rattle.egl_model.specs.GlCalls.{gl_refusal}
use Rattle.egl_model.specs.GlFacts.{gl_facts_of, stored_level}
use Rattle.egl_model.specs.Graph.{is_in}
use Rattle.egl_model.specs.Objects.{as_storage, as_texture, change_storage, change_texture, storage_in, texture_in, with_texture}
use Rattle.egl_model.specs.Parts.{put_own}
use Rattle.model_laws.specs.Shapes.{IsFree, pixels_in, shapes}
use Rattle.model_laws.specs.Sound.{IsWhole}
use Rattle.egl_model.specs.State.{State, object_at}
use Rattle.egl_model.specs.Sweep.{live_bytes}
use Rattle.egl_model.specs.Textures.{change_pixels, has_no_side, image_bytes, level_of, level_storage, new_level, rewritten_part, set_crop, set_parameter, specified, specified_in, storage_at, target_texture, unpack_alignment, with_crop, with_pixels, with_value}
use Rattle.model_laws.proofs.Steps.Blinds.{blind-context, blind-length, blind-object, blind-own_part, free_pixels}
use Rattle.model_laws.proofs.Changes.Keeps.{Acts, Blind, acts_of, acts_self, by_moves, by_quiet_moves}
use Rattle.model_laws.proofs.Calls.GlCalls.{acts-written}
use Rattle.model_laws.proofs.Changes.LinkSetters.{setter-pixels, setter-texture, suits-crop, suits-pixels, suits-value}
use Rattle.model_laws.proofs.Changes.Moves.{Add, Change, own_in}
use Rattle.model_laws.proofs.Changes.NewObjects.{free_new, full-uploaded, without_pixels}
use Rattle.model_laws.proofs.References.Places.{new_kind}
use Rattle.model_laws.proofs.Changes.Setters.{form-rewritten}
use Rattle.model_laws.proofs.References.Slots.{in_levels, no_edge, only_one}
use Rattle.model_laws.proofs.Changes.Writes.{IsBlind}

-- ---- What the calls look at.
pub blind-target : (t n : ℕ) (s : State) → Blind t s (λ a. target_texture a n)
blind-target t n s = blind-context (λ o. option_map (λ c. unwrap_or c.bound.texture c.texture) o) (λ c x. refl) t n s

pub blind-alignment : (t n : ℕ) (s : State) → current_context s t ≡ Some n → Blind t s (λ a. unpack_alignment a n)
blind-alignment t n s i w v x ne = ap (λ p. option_map_or (λ q. q.unpack_alignment) p 4) (blind-own_part t n s i w v x ne)

texture-blind : IsBlind as_texture
texture-blind (Some (Context c)) = refl
texture-blind (Some (Storage v)) = refl
texture-blind o = refl

pub blind-texture : (t : ℕ) (o : Option ℕ) (s : State) → Blind t s (λ a. option_and_then (texture_in a.objects) o)
blind-texture t None s w v x ne = refl
blind-texture t (Some n) s w v x ne = blind-object as_texture texture-blind t n s w v x ne

-- the storage of a level
pub blind-level : (t n k : ℕ) (s : State) → Blind t s (λ a. level_storage a n k)
blind-level t n k s w v x ne =
    ap (λ o. option_and_then (storage_at k) (option_and_then (texture_in (put_own s v x).objects) o)) (blind-target t n s w v x ne)
    ∙ ap (λ o. option_and_then (storage_at k) o) (blind-texture t (target_texture s n) s w v x ne)

-- what parts and copies ask of a level: whether it has storage, its sides and its base format
abbrev pub level_form : Option StorageValue → Bool × ℕ × ℕ × ℕ
level_form o = (is_some o, option_map_or (λ v. v.width) o 0, option_map_or (λ v. v.height) o 0, option_map_or (λ v. base_code v.format) o 0)

form-blind : IsBlind (λ o. level_form (as_storage o))
form-blind (Some (Context c)) = refl
form-blind (Some (Storage v)) = refl
form-blind o = refl

blind-stored : (t : ℕ) (o : Option ℕ) (s : State) → Blind t s (λ a. level_form (option_and_then (storage_in a.objects) o))
blind-stored t None s w v x ne = refl
blind-stored t (Some n) s w v x ne = blind-object (λ o. level_form (as_storage o)) form-blind t n s w v x ne

pub blind-level_form : (t n : ℕ) (c : CallValue) (s : State) → Blind t s (λ a. level_form (stored_level a n c))
blind-level_form t n c s w v x ne =
    ap (λ o. level_form (option_and_then (storage_in (put_own s v x).objects) o)) (blind-level t n (level_of c) s w v x ne)
    ∙ blind-stored t (level_storage s n (level_of c)) s w v x ne

-- ---- glTexParameterx.
acts-value : (s : State) (t pname value : ℕ) (o : Option ℕ) → Acts quiet t s (λ a. set_parameter pname value o a)
unfolding change_texture
acts-value s t pname value None = acts_self t s
acts-value s t pname value (Some x) = by_quiet_moves t s (Change x (with_texture (with_value pname value)) ∷ []) refl (setter-texture _, tt) (λ w. (suits-value t (shapes s.objects) s x pname value, tt))

pub acts-parameter : (s : State) (t n pname value : ℕ) → Acts quiet t s (λ a. set_parameter pname value (target_texture a n) a)
acts-parameter s t n pname value = acts_of quiet t s (λ a. target_texture a n) (λ o a. set_parameter pname value o a) (blind-target t n s) (acts-value s t pname value (target_texture s n))

-- ---- glTexParameteriv.
acts-cropped : (s : State) (t : ℕ) (xs : List ℤ) (o : Option ℕ) → Acts quiet t s (λ a. set_crop xs o a)
unfolding change_texture
acts-cropped s t xs None = acts_self t s
acts-cropped s t xs (Some x) = by_quiet_moves t s (Change x (with_texture (with_crop xs)) ∷ []) refl (setter-texture _, tt) (λ w. (suits-crop t (shapes s.objects) s x xs, tt))

pub acts-crop : (s : State) (t n : ℕ) (xs : List ℤ) → Acts quiet t s (λ a. set_crop xs (target_texture a n) a)
acts-crop s t n xs = acts_of quiet t s (λ a. target_texture a n) (λ o a. set_crop xs o a) (blind-target t n s) (acts-cropped s t xs (target_texture s n))

-- ---- glTexImage2D.
longest_few : (level : ℕ) → longest_side level ≤ 1024
longest_few level = cond_both (ltb 10 level) 0 (1024 / 2 ^ level) (λ n. n ≤ 1024) (λ e. omega arith)
    (λ e. let p = pow_pos level in let b = div_below 1024 (2 ^ level) 1025 p (omega (arith, p)) in omega (arith, b))

-- a side that a level may have
pub side_few : (level : ℕ) (z : ℤ) → is_no_level_side level z ≡ false → unsigned z ≤ 1024
side_few level z h =
    let a = or_parts (int_lt z (pos 0) || ltb (longest_side level) (unsigned z)) _ h in
    let b = or_parts (int_lt z (pos 0)) (ltb (longest_side level) (unsigned z)) a.0 in
    let l = ltb-false _ _ b.1 in let f = longest_few level in omega (arith, l, f)

-- what is known where glTexImage2D isn't refused
pub specify_allowed : (s : State) (t n : ℕ) (c : CallValue) → c.kind ≡ Gl TexImage2d → gl_refusal s t n TexImage2d c ≡ None → ImageAllowed c (gl_facts_of s t n c)
unfolding gl_refusal
specify_allowed s t n c h r = image_allowed c (gl_facts_of s t n c) h r

pub small : (n : ℕ) → n ≤ 1024 → min n 1024 ≡ n
small n h = omega (arith, h)

new_bytes : (c : CallValue) (align : ℕ) → unsigned (signed c 3) ≤ 1024 → unsigned (signed c 4) ≤ 1024 → storage_bytes (stored (frozen (uploaded c align))) ≡ image_bytes c
unfolding loaded painted
new_bytes c align a b = rw (small (unsigned (signed c 3)) a, small (unsigned (signed c 4)) b) refl

pub acts-new_level : (s : State) (t k x : ℕ) (v : StorageValue) → Full (Some (Storage v)) → live_bytes s.objects + storage_bytes v ≤ s.video → Acts quiet t s (λ a. record a { objects = specified_in k (Some v) x a.objects })
unfolding live_bytes change_pixels
acts-new_level s t k x v full fit =
    let m = length s.objects in let new = Some (Storage v) ∷ [] in let sh = shapes s.objects ++ shapes new in
    acts_of quiet t s (λ a. length a.objects) (λ m a. record a { objects = change_pixels k (Some m) x (a.objects ++ Some (Storage v) ∷ []) }) (blind-length t s)
    (by_moves t s (Add new ∷ Change x (with_pixels k (Some m)) ∷ []) ((full, tt), (setter-pixels _ _, tt)) (λ p. omega (arith, fit))
    (λ w. (
      (tt, without_pixels _ _ _ refl refl, tt),
      λ u. (suits-pixels t sh _ x k (Some m) (new_kind s.objects new 0 m a_storage (omega arith) refl) (λ j h. subst (IsFree sh) (only_one j m h) (free_new s (Some (Storage v)) refl w)), tt),
    )))

pub acts-no_level : (s : State) (t k x : ℕ) → Acts quiet t s (λ a. record a { objects = specified_in k None x a.objects })
unfolding change_pixels
acts-no_level s t k x = by_quiet_moves t s (Change x (with_pixels k None) ∷ []) refl (setter-pixels _ _, tt) (λ w. (suits-pixels t (shapes s.objects) s x k None tt (λ j h. no_edge j h), tt))

acts-level : (s : State) (t n k : ℕ) (c : CallValue) (align : ℕ) (o : Option ℕ) → ImageAllowed c (gl_facts_of s t n c) → Acts quiet t s (λ a. specified k (new_level c align) o a)
acts-level s t n k c align None h = acts_self t s
acts-level s t n k c align (Some x) h =
    let w = side_few _ (signed c 3) h.width in let e = side_few _ (signed c 4) h.height in let room = h.room in
    cond_both (has_no_side c) None (Some (stored (frozen (uploaded c align)))) (λ v. Acts quiet t s (λ a. specified k v (Some x) a)) (λ _. acts-no_level s t k x)
    (λ _. acts-new_level s t k x (stored (frozen (uploaded c align))) (full-uploaded c align (omega (arith, w)) (omega (arith, e))) (let b = new_bytes c align w e in omega (arith, b, room)))

pub acts-specified : (s : State) (t n : ℕ) (c : CallValue) → c.kind ≡ Gl TexImage2d → gl_refusal s t n TexImage2d c ≡ None → current_context s t ≡ Some n → Acts quiet t s (λ a. specified (level_of c) (new_level c (unpack_alignment a n)) (target_texture a n) a)
acts-specified s t n c h r i = acts_of quiet t s (λ a. unpack_alignment a n) (λ align a. specified (level_of c) (new_level c align) (target_texture a n) a) (blind-alignment t n s i)
    (acts_of quiet t s (λ a. target_texture a n) (λ o a. specified (level_of c) (new_level c (unpack_alignment s n)) o a) (blind-target t n s) (acts-level s t n (level_of c) c (unpack_alignment s n) (target_texture s n) (specify_allowed s t n c h r)))

-- ---- glTexSubImage2D.
in_texture : (n k : ℕ) (o : Option Object) → option_and_then (storage_at k) (as_texture o) ≡ Some n → is_in n (pixels_in o) ≡ true
in_texture n k (Some (Texture x)) h = in_levels n k x.levels h
in_texture n k o h = absurd (none-some n h)

unowned : (n k : ℕ) (o : Option Object) → option_and_then (storage_at k) (as_texture o) ≡ Some n → own_in o ≡ None
unowned n k (Some (Texture x)) h = refl
unowned n k o h = absurd (none-some n h)

-- what a texture has at a level is no surface's
pub free_level : (s : State) (n k : ℕ) (o : Option ℕ) → option_and_then (storage_at k) (option_and_then (texture_in s.objects) o) ≡ Some n → IsWhole (shapes s.objects) s → IsFree (shapes s.objects) n
free_level s n k None h w = absurd (none-some n h)
free_level s n k (Some x) h w = free_pixels s x n (unowned n k (object_at s x) h) (in_texture n k (object_at s x) h) w

acts-rewritten_at : (s : State) (t : ℕ) (c : CallValue) (align : ℕ) (o : Option ℕ) → ((n : ℕ) → o ≡ Some n → IsWhole (shapes s.objects) s → IsFree (shapes s.objects) n) → Acts quiet t s (λ a. rewritten_part c align o a)
unfolding change_storage
acts-rewritten_at s t c align None free = acts_self t s
acts-rewritten_at s t c align (Some n) free = acts-written t n s (rewritten_image c align) (form-rewritten c align) (free n refl)

pub acts-rewritten : (s : State) (t n : ℕ) (c : CallValue) → current_context s t ≡ Some n → Acts quiet t s (λ a. rewritten_part c (unpack_alignment a n) (level_storage a n (level_of c)) a)
acts-rewritten s t n c i = acts_of quiet t s (λ a. unpack_alignment a n) (λ align a. rewritten_part c align (level_storage a n (level_of c)) a) (blind-alignment t n s i)
    (acts_of quiet t s (λ a. level_storage a n (level_of c)) (λ o a. rewritten_part c (unpack_alignment s n) o a) (blind-level t n (level_of c) s)
    (acts-rewritten_at s t c (unpack_alignment s n) (level_storage s n (level_of c)) (λ m e w. free_level s m (level_of c) (target_texture s n) e w)))
