-- What a call touches, by how its step goes.
use Rattle.std.proofs.Common.{◌≡◌, ◌≢◌, ℕ, zero, suc, ◌+◌, ◌<◌, ℤ, pos, Bool, true, false, List, [], ◌∷◌, ◌++◌, map, length, drop, drop-cons, get_or, refl, sym, ap, ◌∙◌, arith, append_assoc, Option, None, Some}
use Rattle.egl_calls.specs.Errors.{is_done}
use Rattle.std.specs.Prelude.{if◌then◌else◌, is_some, ◌||◌, IfSome}
use Rattle.std.proofs.lemmas.List.{append-nil, drop_all}
use Rattle.std.specs.List.{filter_map, cons_option}
use Rattle.std.specs.Option.{option_map_or, option_and_then}
use Rattle.egl_calls.specs.Calls.{CallValue}
use Rattle.egl_calls.specs.Ranges.{unsigned}
use Rattle.egl_calls.specs.declared.errors.EglError.{EglError}
use Rattle.egl_calls.specs.declared.errors.GlError.{GlError}
use Rattle.egl_calls.specs.declared.errors.Outcome.TheVariants.{Done, Waiting}
use Rattle.egl_calls.specs.declared.kinds.Kind.{Kind}
use Rattle.egl_calls.specs.declared.kinds.Kind.TheVariants.{Own}
use Rattle.egl_calls.specs.declared.kinds.EglKind.{EglKind}
use Rattle.egl_calls.specs.declared.kinds.EglKind.TheVariants.{SwapBuffers}
use Rattle.egl_calls.specs.declared.kinds.GlKind.{GlKind}
use Rattle.egl_calls.specs.declared.kinds.GlKind.TheVariants.{GetError as GlGetError}
use Rattle.egl_calls.specs.declared.kinds.OwnKind.{OwnKind}
use Rattle.egl_calls.specs.declared.kinds.OwnKind.TheVariants.{ReadBuffer, WaitEnd}
use Rattle.call_table.specs.Rows.{gl_role}
use Rattle.context_state.specs.Kinds.{context_gl_call}
use Rattle.share_group.specs.declared.names.NameKind.{NameKind}
use Rattle.driver_objects.specs.Objects.{filled}
use Rattle.driver_objects.specs.declared.textures.BackedTexture.{BackedTexture}
use Rattle.egl_model.specs.Currents.{current_context}
use Rattle.egl_model.specs.EglCalls.{egl_effect, egl_refusal}
use Rattle.egl_model.specs.Effects.{outcome_of}
use Rattle.egl_model.specs.GlCalls.{effect_by, gl_effect, object_effect, gl_refusal}
use Rattle.egl_model.specs.Names.{group_of, object_named}
use Rattle.egl_model.specs.Objects.{texture_in}
use Rattle.egl_model.specs.OwnCalls.{buffer_effect, buffer_refusal}
use Rattle.egl_model.specs.State.{State, record_of}
use Rattle.egl_model.specs.Step.{after_gl_rules, buffer_step_on, egl_step, gl_step, own_step, step_by, wait_step}
use Rattle.egl_model.specs.Textures.{storage_at}
use Rattle.egl_model.specs.Waits.{is_signalled, is_wait_end}
use Rattle.model_laws.proofs.Steps.StepLaws.{egl_done, egl_refused, gl_done, gl_refused, gl_without_context, step_goes, step_waits}
use Rattle.driver_facts.specs.declared.touches.Touches.{Touches}
use Rattle.driver_facts.specs.Touches.{buffer_touches_on, egl_touches, gl_touches, gl_touches_on, levels_in, nothing, object, objects_named, own_touches, tells, touches_by, touches_of, where_done}

-- ---- A thread that waits.
wait_nothing : (s : State) (t : ℕ) (c : CallValue) (k : Kind) (signalled : Bool) → where_done (wait_step s t (is_wait_end k) signalled) (touches_by s t k c) ≡ nothing
wait_nothing s t c (Own WaitEnd) true = refl
wait_nothing s t c (Own WaitEnd) false = refl
wait_nothing s t c k signalled = refl

pub touches_waiting : (s : State) (t : ℕ) (c : CallValue) (sync : ℕ) → (record_of s t).wait ≡ Some sync → touches_of s t c ≡ nothing
unfolding touches_of
touches_waiting s t c sync h = ap (λ a. where_done a (touches_by s t c.kind c)) (step_waits s t c sync h) ∙ wait_nothing s t c c.kind (is_signalled s sync)

pub touches_going : (s : State) (t : ℕ) (c : CallValue) → (record_of s t).wait ≡ None → touches_of s t c ≡ where_done (step_by s t c.kind c) (touches_by s t c.kind c)
unfolding touches_of
touches_going s t c h = ap (λ a. where_done a (touches_by s t c.kind c)) (step_goes s t c h)

-- ---- Calls of EGL. Only a client wait may wait, and it touches nothing.
either_nothing : (b : Bool) → (if b then nothing else nothing) ≡ nothing
either_nothing true = refl
either_nothing false = refl

egl_by : (s : State) (t : ℕ) (k : EglKind) (c : CallValue) → (if is_done (outcome_of (egl_effect s t k c)) then egl_touches s t k else nothing) ≡ egl_touches s t k
egl_by s t SwapBuffers c = refl
egl_by s t k c = either_nothing (is_done (outcome_of (egl_effect s t k c)))

pub egl_touched : (s : State) (t : ℕ) (k : EglKind) (c : CallValue) → is_some (egl_refusal s t k c) ≡ false → where_done (egl_step s t k c) (egl_touches s t k) ≡ egl_touches s t k
egl_touched s t k c = by (egl_refusal s t k c) refl
  where
    by : (o : Option EglError) → egl_refusal s t k c ≡ o → is_some o ≡ false → where_done (egl_step s t k c) (egl_touches s t k) ≡ egl_touches s t k
    by None e h = ap (λ a. where_done a (egl_touches s t k)) (egl_done s t k c e) ∙ egl_by s t k c
    by (Some x) e h = absurd (let z : true ≡ false = h in cc)

pub egl_untouched : (s : State) (t : ℕ) (k : EglKind) (c : CallValue) → is_some (egl_refusal s t k c) ≡ true → where_done (egl_step s t k c) (egl_touches s t k) ≡ nothing
egl_untouched s t k c = by (egl_refusal s t k c) refl
  where
    by : (o : Option EglError) → egl_refusal s t k c ≡ o → is_some o ≡ true → where_done (egl_step s t k c) (egl_touches s t k) ≡ nothing
    by None e h = absurd (let z : false ≡ true = h in cc)
    by (Some x) e h = ap (λ a. where_done a (egl_touches s t k)) (egl_refused s t k c x e)

-- ---- Calls of OpenGL ES. None of them waits.
object_never_waits : (s : State) (t n : ℕ) (c : CallValue) (k : GlKind) → (object_effect s t n k c).waits ≡ false
object_never_waits s t n c GlGetError = refl
object_never_waits s t n c k = refl

waits_by : (o : Option GlKind) (s : State) (t n : ℕ) (c : CallValue) (k : GlKind) → (effect_by o s t n k c).waits ≡ false
waits_by (Some own) s t n c k = refl
waits_by None s t n c k = object_never_waits s t n c k

pub gl_never_waits : (s : State) (t n : ℕ) (c : CallValue) (k : GlKind) → (gl_effect s t n k c).waits ≡ false
gl_never_waits s t n c k = waits_by (context_gl_call k) s t n c k

pub gl_without : (s : State) (t : ℕ) (k : GlKind) (c : CallValue) → current_context s t ≡ None → where_done (gl_step s t k c) (gl_touches_on s t (current_context s t) k c) ≡ nothing
gl_without s t k c h = ap (λ a. where_done a (gl_touches_on s t (current_context s t) k c)) (gl_without_context s t k c h) ∙ ap (λ o. gl_touches_on s t o k c) h

pub gl_untouched : (s : State) (t n : ℕ) (k : GlKind) (c : CallValue) (e : GlError) → current_context s t ≡ Some n → gl_refusal s t n k c ≡ Some e → where_done (gl_step s t k c) (gl_touches_on s t (current_context s t) k c) ≡ nothing
gl_untouched s t n k c e current h = ap (λ a. where_done a (gl_touches_on s t (current_context s t) k c)) (gl_refused s t n k c e current h)

pub gl_touched : (s : State) (t n : ℕ) (k : GlKind) (c : CallValue) → current_context s t ≡ Some n → gl_refusal s t n k c ≡ None → where_done (gl_step s t k c) (gl_touches_on s t (current_context s t) k c) ≡ gl_touches s t n k c
gl_touched s t n k c current h =
    let x = gl_touches_on s t (current_context s t) k c in
    ap (λ a. where_done a x) (gl_done s t n k c current h)
    ∙ ap (λ (b : Bool). if is_done (if b then Waiting else Done) then x else nothing) (gl_never_waits s t n c k)
    ∙ ap (λ o. gl_touches_on s t o k c) current

-- ---- This project's own calls.
abbrev buffer_by : (s : State) (t n : ℕ) (c : CallValue) → Option GlError → Touches
buffer_by s t n c o = where_done (after_gl_rules s n o (buffer_effect s t n c)) (buffer_touches_on s (Some n) c)

abbrev buffer_on : (s : State) (t : ℕ) (c : CallValue) → Option ℕ → Touches
buffer_on s t c o = where_done (buffer_step_on s t o c) (buffer_touches_on s o c)

pub buffer_without : (s : State) (t : ℕ) (c : CallValue) → current_context s t ≡ None → where_done (own_step s t ReadBuffer c) (own_touches s t ReadBuffer c) ≡ nothing
buffer_without s t c h = ap (buffer_on s t c) h

pub buffer_untouched : (s : State) (t n : ℕ) (c : CallValue) (e : GlError) → current_context s t ≡ Some n → buffer_refusal s t n c ≡ Some e → where_done (own_step s t ReadBuffer c) (own_touches s t ReadBuffer c) ≡ nothing
buffer_untouched s t n c e current h = ap (buffer_on s t c) current ∙ ap (buffer_by s t n c) h

pub buffer_touched : (s : State) (t n : ℕ) (c : CallValue) → current_context s t ≡ Some n → buffer_refusal s t n c ≡ None → where_done (own_step s t ReadBuffer c) (own_touches s t ReadBuffer c) ≡ buffer_touches_on s (Some n) c
buffer_touched s t n c current h = ap (buffer_on s t c) current ∙ ap (buffer_by s t n c) h

pub own_touched : (s : State) (t : ℕ) (k : OwnKind) (c : CallValue) → k ≢ ReadBuffer → where_done (own_step s t k c) (own_touches s t k c) ≡ own_touches s t k c
own_touched s t ReadBuffer c other = absurd (other refl)
own_touched s t WaitEnd c other = refl
own_touched s t k c other = refl

-- ---- Lists of objects.
-- the first of some slots, and those behind it
slot_first : (o : Option ℕ) (xs : List (Option ℕ)) → map pos (filled (o ∷ xs)) ≡ object o ++ map pos (filled xs)
slot_first None xs = refl
slot_first (Some n) xs = refl

slot_step : (xs : List (Option ℕ)) (k : ℕ) → map pos (filled (drop k xs)) ≡ object (get_or xs k None) ++ map pos (filled (drop (suc k) xs))
slot_step [] zero = refl
slot_step [] (suc k) = refl
slot_step (x ∷ xs) zero = slot_first x xs
slot_step (x ∷ xs) (suc k) = slot_step xs k

level_at : (o : Option BackedTexture) (k : ℕ) → option_and_then (storage_at k) o ≡ get_or (option_map_or (λ (y : BackedTexture). y.levels) o []) k None
level_at None zero = refl
level_at None (suc k) = refl
level_at (Some x) k = refl

-- the storages in front of a level, with its own
pub levels_more : (s : State) (x k : ℕ) (o : Option ℕ) (old new all : List ℤ) → o ≡ option_and_then (storage_at k) (texture_in s.objects x) → new ≡ old ++ object o
    → old ++ map pos (filled (drop k (levels_in s x))) ≡ all → new ++ map pos (filled (drop (k + 1) (levels_in s x))) ≡ all
levels_more s x k o old new all f g h =
    let xs = levels_in s x in
    let next : suc k ≡ k + 1 = omega arith in
    ap (λ ys. ys ++ map pos (filled (drop (k + 1) xs))) (g ∙ ap (λ p. old ++ object p) (f ∙ level_at (texture_in s.objects x) k))
    ∙ append_assoc old (object (get_or xs k None)) (map pos (filled (drop (k + 1) xs)))
    ∙ ap (λ ys. old ++ ys) (sym (slot_step xs k ∙ ap (λ i. object (get_or xs k None) ++ map pos (filled (drop i xs))) next))
    ∙ h

name_first : (o : Option ℕ) (ns : List ℕ) → map pos (cons_option o ns) ≡ object o ++ map pos ns
name_first None ns = refl
name_first (Some n) ns = refl

from_place : (xs : List ℤ) (k : ℕ) → k < length xs → drop k xs ≡ get_or xs k (pos 0) ∷ drop (k + 1) xs
from_place xs k l = drop-cons xs k (pos 0) l ∙ ap (λ i. get_or xs k (pos 0) ∷ drop i xs) (let q : suc k ≡ k + 1 = omega arith in q)

name_step : (s : State) (n k : ℕ) (kind : NameKind) (xs : List ℤ) → k < length xs → objects_named s n kind (drop k xs) ≡ object (object_named s (group_of s n) kind (unsigned (get_or xs k (pos 0)))) ++ objects_named s n kind (drop (k + 1) xs)
name_step s n k kind xs l =
    ap (objects_named s n kind) (from_place xs k l)
    ∙ name_first (object_named s (group_of s n) kind (unsigned (get_or xs k (pos 0)))) (filter_map (λ (x : ℤ). object_named s (group_of s n) kind (unsigned x)) (drop (k + 1) xs))

-- the objects of the names in front of a place, with that of the name there
pub names_more : (s : State) (n k : ℕ) (kind : NameKind) (xs : List ℤ) (name : ℕ) (o : Option ℕ) (old new all : List ℤ) → k < length xs → name ≡ unsigned (get_or xs k (pos 0)) → o ≡ object_named s (group_of s n) kind name → new ≡ old ++ object o
    → old ++ objects_named s n kind (drop k xs) ≡ all → new ++ objects_named s n kind (drop (k + 1) xs) ≡ all
names_more s n k kind xs name o old new all l e f g h =
    let rest = objects_named s n kind (drop (k + 1) xs) in
    let at : ℕ → Option ℕ = λ m. object_named s (group_of s n) kind m in
    ap (λ ys. ys ++ rest) (g ∙ ap (λ p. old ++ object p) (f ∙ ap at e))
    ∙ append_assoc old (object (at (unsigned (get_or xs k (pos 0))))) rest
    ∙ ap (λ ys. old ++ ys) (sym (name_step s n k kind xs l))
    ∙ h

-- no level stands behind the last
pub levels_end : (s : State) (x : ℕ) (new all : List ℤ) → IfSome (texture_in s.objects x) (λ y. length y.levels ≡ 11) → new ++ map pos (filled (drop 11 (levels_in s x))) ≡ all → new ≡ all
levels_end s x new all h e = sym (append-nil new) ∙ ap (λ ys. new ++ map pos (filled ys)) (sym (levels_out (texture_in s.objects x) h)) ∙ e
  where
    levels_out : (o : Option BackedTexture) → IfSome o (λ (y : BackedTexture). length y.levels ≡ 11) → drop 11 (option_map_or (λ (y : BackedTexture). y.levels) o []) ≡ []
    levels_out None i = refl
    levels_out (Some y) i = drop_all 11 y.levels (let l = i in omega (arith, l))

-- ---- A call that asks or changes more than its context's own state has a role that tells what it touches.
told : (k : GlKind) → (is_some (context_gl_call k) || tells (gl_role k)) ≡ true
told GlGetError = refl
told k = refl

pub role_told : (k : GlKind) → context_gl_call k ≡ None → tells (gl_role k) ≡ true
role_told k h = ap (λ o. is_some o || tells (gl_role k)) (sym h) ∙ told k
