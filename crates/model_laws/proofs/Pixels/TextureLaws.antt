-- What the calls on textures leave, and where pixels want.
use Rattle.std.proofs.Common.{◌≡◌, ◌≢◌, ◌⊎◌, ℕ, ◌<◌, ◌≤◌, Bool, true, false, ◌==◌, is_some, inl, inr, List, [], ◌∷◌, ◌++◌, length, get_or, set, refl, sym, ap, subst, ◌∙◌, Option, None, Some}
use Rattle.std.proofs.lemmas.Bool.{cond_both, cases_eq, cases_lt, eq-eqb, eqb-true, false≢true}
use Rattle.std.proofs.lemmas.List.{get_or-set_other, get_or-set_same, get_or_past, set_past}
use Rattle.std.proofs.lemmas.Option.{none-some, same_Some}
use Rattle.egl_calls.specs.Calls.{CallValue}
use Rattle.egl_calls.specs.declared.kinds.GlKind.{GlKind}
use Rattle.egl_calls.specs.declared.kinds.GlKind.TheVariants.{CopyTexImage2d, TexImage2d}
use Rattle.egl_calls.specs.declared.errors.GlError.TheVariants.{OutOfMemory}
use Rattle.call_rules.specs.GlAllowed.{CopyAsked, ImageAsked}
use Rattle.call_rules.proofs.GlLaws.{copy_wants, image_wants, wanting_copy, wanting_image}
use Rattle.driver_objects.specs.Storages.{StorageValue}
use Rattle.driver_objects.specs.declared.objects.Object.{Object}
use Rattle.driver_objects.specs.declared.objects.Object.TheVariants.{Renderbuffer, Texture, Storage}
use Rattle.driver_objects.specs.declared.textures.BackedTexture.{BackedTexture}
use Rattle.egl_model.specs.Copies.{copied, copied_from, copied_level, copies_nothing, read_image}
use Rattle.pixel_rows.specs.Images.{ImageValue}
use Rattle.egl_model.specs.Currents.{current_context}
use Rattle.egl_model.specs.GlCalls.{gl_effect, gl_refusal}
use Rattle.egl_model.specs.GlFacts.{gl_facts_of}
use Rattle.model_laws.specs.Laws.{IsAllowedGl, IsGlCall}
use Rattle.egl_model.specs.Objects.{as_storage, as_texture, storage_in, texture_in}
use Rattle.egl_model.specs.State.{State, object_at}
use Rattle.egl_model.specs.Step.{Stepped, done, step}
use Rattle.egl_model.specs.Sweep.{sweep, swept, roots}
use Rattle.egl_model.specs.Textures.{change_pixels, level_of, new_level, specified, specified_in, storage_at, target_texture, unpack_alignment, with_level, with_pixels}
use Rattle.model_laws.specs.Wants.{AnswersGl, WantsCopy, WantsImage}
use Rattle.model_laws.proofs.References.Places.{at_old}
use Rattle.model_laws.proofs.Steps.RefusalLaws.{gl_call}
use Rattle.model_laws.proofs.Steps.StepLaws.{gl_done}
use Rattle.model_laws.proofs.References.SweepLaws.{left_as_it_was}
use Rattle.model_laws.proofs.Pixels.WantLaws.{gl_refusal_of_reply, reply_of_gl_refusal}

-- ---- A call that no rule refuses.
pub allowed_gl : (s : State) (t n : ℕ) (k : GlKind) (c : CallValue) → IsAllowedGl s t n k c → step s t c ≡ record { reply = done (gl_effect s t n k c); state = sweep (gl_effect s t n k c).state }
allowed_gl s t n k c h = gl_call s t k c h.call ∙ gl_done s t n k c h.current h.allowed

-- what is there behind a sweep is what was there before
pub swept_same : (rs : List ℕ) (os : List (Option Object)) (n : ℕ) → (get_or (swept rs os) n None ≡ None) ⊎ (get_or (swept rs os) n None ≡ get_or os n None)
swept_same rs os n = by (is_some (get_or (swept rs os) n None)) refl
  where
    none_there : (o : Option Object) → is_some o ≡ false → o ≡ None
    none_there None h = refl
    none_there (Some x) h = absurd (false≢true (sym h))

    by : (b : Bool) → is_some (get_or (swept rs os) n None) ≡ b → (get_or (swept rs os) n None ≡ None) ⊎ (get_or (swept rs os) n None ≡ get_or os n None)
    by true h = inr (left_as_it_was rs os n h)
    by false h = inl (none_there (get_or (swept rs os) n None) h)

-- ---- glTexImage2D wants pixels.
pub image_is_refused : (s : State) (t n : ℕ) (c : CallValue) → IsGlCall s t TexImage2d c → current_context s t ≡ Some n → AnswersGl s t c OutOfMemory → ImageAsked c × WantsImage s c
unfolding gl_refusal
image_is_refused s t n c h i a = image_wants c (gl_facts_of s t n c) h.kind (gl_refusal_of_reply s t n TexImage2d c OutOfMemory h i a)

pub image_wants_pixels : (s : State) (t n : ℕ) (c : CallValue) → IsGlCall s t TexImage2d c → current_context s t ≡ Some n → ImageAsked c × WantsImage s c → AnswersGl s t c OutOfMemory
unfolding gl_refusal
image_wants_pixels s t n c h i w = reply_of_gl_refusal s t n TexImage2d c OutOfMemory h i (wanting_image c (gl_facts_of s t n c) h.kind w)

-- ---- glCopyTexImage2D wants pixels.
pub copy_is_refused : (s : State) (t n : ℕ) (c : CallValue) → IsGlCall s t CopyTexImage2d c → current_context s t ≡ Some n → AnswersGl s t c OutOfMemory → CopyAsked c (gl_facts_of s t n c) × WantsCopy s c
unfolding gl_refusal
copy_is_refused s t n c h i a = copy_wants c (gl_facts_of s t n c) h.kind (gl_refusal_of_reply s t n CopyTexImage2d c OutOfMemory h i a)

pub copy_wants_pixels : (s : State) (t n : ℕ) (c : CallValue) → IsGlCall s t CopyTexImage2d c → current_context s t ≡ Some n → CopyAsked c (gl_facts_of s t n c) × WantsCopy s c → AnswersGl s t c OutOfMemory
unfolding gl_refusal
copy_wants_pixels s t n c h i w = reply_of_gl_refusal s t n CopyTexImage2d c OutOfMemory h i (wanting_copy c (gl_facts_of s t n c) h.kind w)

-- the object of a number after a change
pub changed_at : (f : Option Object → Option Object) → f None ≡ None → (n : ℕ) (os : List (Option Object)) → get_or (set os n (f (get_or os n None))) n None ≡ f (get_or os n None)
changed_at f none n os = elim (cases_lt n (length os)) [
  | inl l ↦ get_or-set_same os n (f (get_or os n None)) None l
  | inr l ↦ let p = past l in ap (λ (xs : List (Option Object)). get_or xs n None) (set_past os n (f (get_or os n None)) l) ∙ p ∙ sym (ap f p ∙ none)
]
  where
    past : length os ≤ n → get_or os n None ≡ None
    past l = get_or_past os n None l

-- ---- A level is given alone.
other_level : (k j : ℕ) (o : Option ℕ) (y : BackedTexture) → j ≢ k → storage_at j (with_level k o y) ≡ storage_at j y
other_level k j o y ne = get_or-set_other y.levels k j o None ne

-- of an object that there was, what a change of a level leaves
record KeepsLevels (k : ℕ) (here : Bool) (before after : Option Object) : Type 0 where
  levels : (j : ℕ) (y z : BackedTexture) → (here ≡ true → j ≢ k) → as_texture before ≡ Some y → as_texture after ≡ Some z → storage_at j z ≡ storage_at j y
  pixels : as_storage before ≡ as_storage after

same_levels : (k : ℕ) (here : Bool) (o : Option Object) → KeepsLevels k here o o
same_levels k here o = record { levels = λ j y z ne h i. ap (storage_at j) (same_Some z y (sym i ∙ h)); pixels = refl }

set_levels : (k : ℕ) (w : Option ℕ) (o : Option Object) → KeepsLevels k true o (with_pixels k w o)
set_levels k w (Some (Texture x)) = record { levels = λ j y z ne h i. ap (storage_at j) (sym (same_Some _ z i)) ∙ other_level k j w x (ne refl) ∙ ap (storage_at j) (same_Some x y h); pixels = refl }
set_levels k w (Some (Renderbuffer x)) = record { levels = λ j y z ne h i. absurd (none-some y h); pixels = refl }
set_levels k w o = same_levels k true o

there : (n : ℕ) (os : List (Option Object)) → is_some (get_or os n None) ≡ true → n < length os
there n os h = elim (cases_lt n (length os)) [
  | inl l ↦ l
  | inr l ↦ absurd (false≢true (sym (ap is_some (get_or_past os n None l)) ∙ h))
]

changed_levels : (k : ℕ) (w : Option ℕ) (x0 x : ℕ) (os : List (Option Object)) → KeepsLevels k (x == x0) (get_or os x None) (get_or (change_pixels k w x0 os) x None)
unfolding change_pixels
changed_levels k w x0 x os = elim (cases_eq x x0) [
  | inl e ↦ rw (e, eq-eqb x0 x0 refl, changed_at (with_pixels k w) refl x0 os) (set_levels k w (get_or os x0 None))
  | inr ne ↦ rw (get_or-set_other os x0 x (with_pixels k w (get_or os x0 None)) None ne) (same_levels k (x == x0) (get_or os x None))
]

specified_levels : (k : ℕ) (v : Option StorageValue) (x0 x : ℕ) (os : List (Option Object)) → is_some (get_or os x None) ≡ true → KeepsLevels k (x == x0) (get_or os x None) (get_or (specified_in k v x0 os) x None)
specified_levels k None x0 x os h = changed_levels k None x0 x os
specified_levels k (Some v) x0 x os h = subst (λ (o : Option Object). KeepsLevels k (x == x0) o (get_or (specified_in k (Some v) x0 os) x None)) (at_old os (Some (Storage v) ∷ []) None x (there x os h)) (changed_levels k (Some (length os)) x0 x (os ++ Some (Storage v) ∷ []))

-- so is it of the whole call, behind whose change a sweep may take objects
record KeepsOthers (k x : ℕ) (target : Option ℕ) (before after : Option Object) : Type 0 where
  levels : (j : ℕ) (y z : BackedTexture) → (target ≡ Some x → j ≢ k) → as_texture before ≡ Some y → as_texture after ≡ Some z → storage_at j z ≡ storage_at j y
  pixels : is_some after ≡ true → as_storage before ≡ as_storage after

others_same : (k x : ℕ) (target : Option ℕ) (o : Option Object) → KeepsOthers k x target o o
others_same k x target o = record { levels = λ j y z ne h i. ap (storage_at j) (same_Some z y (sym i ∙ h)); pixels = λ h. refl }

others_of : (k x x0 : ℕ) (before after : Option Object) → KeepsLevels k (x == x0) before after → KeepsOthers k x (Some x0) before after
others_of k x x0 before after l = record { levels = λ j y z ne h i. l.levels j y z (λ e. ne (ap Some (sym (eqb-true x x0 e)))) h i; pixels = λ h. l.pixels }

others_gone : (k x : ℕ) (target : Option ℕ) (before after : Option Object) → after ≡ None → KeepsOthers k x target before after
others_gone k x target before after e = record {
  levels = λ j y z ne h i. absurd (none-some z (sym (ap as_texture e) ∙ i));
  pixels = λ h. absurd (false≢true (sym (ap is_some e) ∙ h));
}

specified_others : (k x : ℕ) (v : Option StorageValue) (target : Option ℕ) (s : State) → is_some (object_at s x) ≡ true → KeepsOthers k x target (object_at s x) (object_at (specified k v target s) x)
specified_others k x v None s h = others_same k x None (object_at s x)
specified_others k x v (Some x0) s h = others_of k x x0 (object_at s x) (object_at (specified k v (Some x0) s) x) (specified_levels k v x0 x s.objects h)

swept_others : (k x : ℕ) (target : Option ℕ) (before : Option Object) (a : State) → KeepsOthers k x target before (object_at a x) → KeepsOthers k x target before (object_at (sweep a) x)
swept_others k x target before a o = elim (swept_same (roots a) a.objects x) [
  | inl e ↦ others_gone k x target before (object_at (sweep a) x) e
  | inr e ↦ subst (λ (y : Option Object). KeepsOthers k x target before y) (sym e) o
]

keeps_others : (s : State) (t n x : ℕ) (c : CallValue) → IsAllowedGl s t n TexImage2d c → is_some (object_at s x) ≡ true → KeepsOthers (level_of c) x (target_texture s n) (object_at s x) (object_at (step s t c).state x)
keeps_others s t n x c h there =
    let v = new_level c (unpack_alignment s n) in let a = specified (level_of c) v (target_texture s n) s in
    subst (λ (y : Stepped). KeepsOthers (level_of c) x (target_texture s n) (object_at s x) (object_at y.state x)) (sym (allowed_gl s t n TexImage2d c h))
    (swept_others (level_of c) x (target_texture s n) (object_at s x) a (specified_others (level_of c) x v (target_texture s n) s there))

-- the same of a copy
copied_others : (s : State) (t n x : ℕ) (c : CallValue) → is_some (object_at s x) ≡ true → KeepsOthers (level_of c) x (target_texture s n) (object_at s x) (object_at (copied s t n c) x)
copied_others s t n x c there = cond_both (copies_nothing c) (specified (level_of c) None (target_texture s n) s) (copied_from (read_image s t) c (target_texture s n) s) (λ (a : State). KeepsOthers (level_of c) x (target_texture s n) (object_at s x) (object_at a x))
    (λ _. specified_others (level_of c) x None (target_texture s n) s there) (λ _. of_image (read_image s t))
  where
    of_image : (o : Option ImageValue) → KeepsOthers (level_of c) x (target_texture s n) (object_at s x) (object_at (copied_from o c (target_texture s n) s) x)
    of_image (Some i) = specified_others (level_of c) x (Some (copied_level c i)) (target_texture s n) s there
    of_image None = others_same (level_of c) x (target_texture s n) (object_at s x)

copy_keeps_others : (s : State) (t n x : ℕ) (c : CallValue) → IsAllowedGl s t n CopyTexImage2d c → is_some (object_at s x) ≡ true → KeepsOthers (level_of c) x (target_texture s n) (object_at s x) (object_at (step s t c).state x)
copy_keeps_others s t n x c h there =
    subst (λ (y : Stepped). KeepsOthers (level_of c) x (target_texture s n) (object_at s x) (object_at y.state x)) (sym (allowed_gl s t n CopyTexImage2d c h))
    (swept_others (level_of c) x (target_texture s n) (object_at s x) (copied s t n c) (copied_others s t n x c there))

some_texture : (o : Option Object) (y : BackedTexture) → as_texture o ≡ Some y → is_some o ≡ true
some_texture (Some x) y h = refl
some_texture None y h = absurd (none-some y h)

pub some_storage : (o : Option Object) (y : StorageValue) → as_storage o ≡ Some y → is_some o ≡ true
some_storage (Some x) y h = refl
some_storage None y h = absurd (none-some y h)

pub level_alone : (s : State) (t n : ℕ) (c : CallValue) (x j : ℕ) (y z : BackedTexture) → IsAllowedGl s t n TexImage2d c → (target_texture s n ≡ Some x → j ≢ level_of c) → texture_in s.objects x ≡ Some y → texture_in (step s t c).state.objects x ≡ Some z → storage_at j z ≡ storage_at j y
level_alone s t n c x j y z h ne before after = (keeps_others s t n x c h (some_texture (object_at s x) y before)).levels j y z ne before after

pub copied_level_alone : (s : State) (t n : ℕ) (c : CallValue) (x j : ℕ) (y z : BackedTexture) → IsAllowedGl s t n CopyTexImage2d c → (target_texture s n ≡ Some x → j ≢ level_of c) → texture_in s.objects x ≡ Some y → texture_in (step s t c).state.objects x ≡ Some z → storage_at j z ≡ storage_at j y
copied_level_alone s t n c x j y z h ne before after = (copy_keeps_others s t n x c h (some_texture (object_at s x) y before)).levels j y z ne before after

pub pixels_alone : (s : State) (t n : ℕ) (c : CallValue) (x : ℕ) (v : StorageValue) → IsAllowedGl s t n TexImage2d c → storage_in s.objects x ≡ Some v → is_some (object_at (step s t c).state x) ≡ true → storage_in (step s t c).state.objects x ≡ Some v
pixels_alone s t n c x v h before there = sym ((keeps_others s t n x c h (some_storage (object_at s x) v before)).pixels there) ∙ before

pub copied_pixels_alone : (s : State) (t n : ℕ) (c : CallValue) (x : ℕ) (v : StorageValue) → IsAllowedGl s t n CopyTexImage2d c → storage_in s.objects x ≡ Some v → is_some (object_at (step s t c).state x) ≡ true → storage_in (step s t c).state.objects x ≡ Some v
copied_pixels_alone s t n c x v h before there = sym ((copy_keeps_others s t n x c h (some_storage (object_at s x) v before)).pixels there) ∙ before
