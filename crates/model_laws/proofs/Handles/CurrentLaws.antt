-- What eglMakeCurrent makes current.
use Rattle.std.proofs.Common.{◌≡◌, ℕ, ◌<◌, Bool, true, false, cond, ◌&&◌, ◌==◌, List, get_or, set, refl, sym, ap, ◌∙◌, ◌⊎◌, inl, inr, length, Option, None, Some, is_some}
use Rattle.std.specs.Prelude.{Contains, find}
use Rattle.std.proofs.lemmas.Bool.{and_parts, eqb-true, false≢true}
use Rattle.std.proofs.lemmas.List.{get_or-set_same}
use Rattle.std.proofs.lemmas.List.Elements.{All-contains_itself}
use Rattle.egl_calls.specs.Arguments.{is_zero}
use Rattle.egl_calls.specs.Calls.{CallValue}
use Rattle.egl_calls.specs.declared.errors.EglError.TheVariants.{Success}
use Rattle.egl_calls.specs.declared.kinds.EglKind.TheVariants.{MakeCurrent}
use Rattle.call_rules.specs.EglAllowed.{CurrentAllowed}
use Rattle.call_rules.specs.EglRules.{is_release}
use Rattle.call_rules.proofs.EglLaws.{current_allowed}
use Rattle.display_table.specs.declared.handles.Handle.{Handle}
use Rattle.display_table.specs.declared.handles.HandleKind.{HandleKind}
use Rattle.display_table.specs.declared.handles.HandleKind.TheVariants.{Context as a_context, Surface as a_surface}
use Rattle.egl_model.specs.declared.records.Bound.{Bound}
use Rattle.egl_model.specs.declared.records.ThreadRecord.{ThreadRecord}
use Rattle.egl_model.specs.State.{State, initial, record_of}
use Rattle.egl_model.specs.Arguments.{number}
use Rattle.display_table.specs.Handles.{is_named_on, is_same_kind}
use Rattle.egl_model.specs.Handles.{handle_at}
use Rattle.egl_model.specs.MakeCurrent.{bound_anew, bound_by, context_handle, draw_handle, made_current, read_handle}
use Rattle.egl_model.specs.EglCalls.{egl_refusal}
use Rattle.egl_model.specs.Facts.{facts_of}
use Rattle.egl_model.specs.Step.{step}
use Rattle.model_laws.specs.CurrentCalls.{HasNoneCurrent, IsBoundBy, IsMadeCurrent, IsValid}
use Rattle.model_laws.proofs.Handles.KindSteps.{found, same_kind}
use Rattle.model_laws.proofs.Steps.RefusalLaws.{allowed_egl_state}
use Rattle.model_laws.proofs.References.Places.{same_at_set}

either : (P : State → Type 0) (b : Bool) (x y : State) → P x → P y → P (cond b x y)
either P true x y p q = p
either P false x y p q = q

-- what f tells of the thread's record, where the error says nothing to f
told : {A : Type 0} (f : ThreadRecord → A) (s : State) (t : ℕ) (c : CallValue) → ((r : ThreadRecord) → f (record r { error = Success }) ≡ f r) → IsMadeCurrent s t c →
    f (record_of (step s t c).state t) ≡ f (record_of (bound_anew s t c) t)
told f s t c e h =
    ap (λ (a : State). f (record_of a t)) (allowed_egl_state s t MakeCurrent c h)
    ∙ same_at_set f (made_current s t c).threads t (record (record_of (made_current s t c) t) { error = Success }) initial (e (record_of (made_current s t c) t)) t

at_set : {A : Type 0} (f : ThreadRecord → A) (ts : List ThreadRecord) (t : ℕ) (r : ThreadRecord) → t < length ts → f (get_or (set ts t r) t initial) ≡ f r
at_set f ts t r l = ap f (get_or-set_same ts t r initial l)

-- ---- A release.
if_released : (P : State → Type 0) (b : Bool) (x y : State) → b ≡ true → P x → P (cond b x y)
if_released P true x y e p = p
if_released P false x y e p = absurd (let f : false ≡ true = e in cc)

pub none_current : (s : State) (t : ℕ) (c : CallValue) → IsMadeCurrent s t c → t < length s.threads → is_release c ≡ true → HasNoneCurrent (record_of (step s t c).state t)
none_current s t c h l e = record {
  context = told (λ r. r.context) s t c (λ r. refl) h ∙ if_released (λ a. (record_of a t).context ≡ None) (is_release c) _ _ e (at_set (λ r. r.context) s.threads t _ l);
  draw = told (λ r. r.draw) s t c (λ r. refl) h ∙ if_released (λ a. (record_of a t).draw ≡ None) (is_release c) _ _ e (at_set (λ r. r.draw) s.threads t _ l);
  read = told (λ r. r.read) s t c (λ r. refl) h ∙ if_released (λ a. (record_of a t).read ≡ None) (is_release c) _ _ e (at_set (λ r. r.read) s.threads t _ l);
}

-- ---- A context and surfaces.
pub if_given : (P : State → Type 0) (b : Bool) (x y : State) → b ≡ false → P y → P (cond b x y)
if_given P true x y e p = absurd (let f : true ≡ false = e in cc)
if_given P false x y e p = p

-- what a look-up finds is the valid handle that is asked for
pub found_valid : (s : State) (display n : ℕ) (k : HandleKind) (h : Handle) → find (is_named_on display n k) s.handles ≡ Some h → IsValid s display n k h
found_valid s display n k h e =
    let f = found (Contains s.handles) (is_named_on display n k) s.handles h (All-contains_itself s.handles) e in
    let all = and_parts ((h.number == n) && is_same_kind h.kind k) (h.display == display) f.1 in
    let named = and_parts (h.number == n) (is_same_kind h.kind k) all.0 in
    record { valid = f.0; on_display = eqb-true h.display display all.1; has_number = eqb-true h.number n named.0; of_kind = same_kind h.kind k named.1 }

bound_by_valid : (s : State) (display n : ℕ) (k : HandleKind) (o : Option Handle) (b : Option Bound) → find (is_named_on display n k) s.handles ≡ o → is_some o ≡ true → b ≡ bound_by o → IsBoundBy s display n k b
bound_by_valid s display n k None b e i w = absurd (let f : false ≡ true = i in cc)
bound_by_valid s display n k (Some h) b e i w =
    let v = found_valid s display n k h e in
    (h, v, w ∙ ap (λ m. Some (record { object = h.object; handle = m })) v.has_number)

allowed : (s : State) (t : ℕ) (c : CallValue) → IsMadeCurrent s t c → is_release c ≡ false → CurrentAllowed c (facts_of s t c)
unfolding egl_refusal
allowed s t c h e = current_allowed c (facts_of s t c) h.call.kind e h.allowed

pub context_told : (s : State) (t : ℕ) (c : CallValue) → IsMadeCurrent s t c → t < length s.threads → is_release c ≡ false → (record_of (step s t c).state t).context ≡ bound_by (context_handle s c)
context_told s t c h l e = told (λ r. r.context) s t c (λ r. refl) h ∙ if_given (λ a. (record_of a t).context ≡ bound_by (context_handle s c)) (is_release c) _ _ e (at_set (λ r. r.context) s.threads t _ l)

pub context_is_bound : (s : State) (t : ℕ) (c : CallValue) → IsMadeCurrent s t c → t < length s.threads → is_release c ≡ false → IsBoundBy s (number c 0) (number c 3) a_context (record_of (step s t c).state t).context
context_is_bound s t c h l e = bound_by_valid s (number c 0) (number c 3) a_context (context_handle s c) _ refl (allowed s t c h e).context
    (context_told s t c h l e)

-- ---- Surfaces.
not_release : (d r x : Bool) → (d ≡ false) ⊎ (r ≡ false) → (d && r && x) ≡ false
not_release d r x (inl e) = ap (λ b. b && r && x) e
not_release true r x (inr e) = ap (λ b. b && x) e
not_release false r x (inr e) = refl

-- a surface that is given is valid
draw_valid : (s : State) (t : ℕ) (c : CallValue) → CurrentAllowed c (facts_of s t c) → is_zero c 1 ≡ false → is_some (draw_handle s c) ≡ true
draw_valid s t c a e = elim a.surfaces [
  | inl x ↦ x.draw
  | inr n ↦ absurd (false≢true (sym e ∙ n.draw))
]

read_valid : (s : State) (t : ℕ) (c : CallValue) → CurrentAllowed c (facts_of s t c) → is_zero c 2 ≡ false → is_some (read_handle s c) ≡ true
read_valid s t c a e = elim a.surfaces [
  | inl x ↦ x.read
  | inr n ↦ absurd (false≢true (sym e ∙ n.read))
]

draw_told : (s : State) (t : ℕ) (c : CallValue) → IsMadeCurrent s t c → t < length s.threads → is_release c ≡ false → (record_of (step s t c).state t).draw ≡ bound_by (draw_handle s c)
draw_told s t c h l e = told (λ r. r.draw) s t c (λ r. refl) h ∙ if_given (λ a. (record_of a t).draw ≡ bound_by (draw_handle s c)) (is_release c) _ _ e (at_set (λ r. r.draw) s.threads t _ l)

read_told : (s : State) (t : ℕ) (c : CallValue) → IsMadeCurrent s t c → t < length s.threads → is_release c ≡ false → (record_of (step s t c).state t).read ≡ bound_by (read_handle s c)
read_told s t c h l e = told (λ r. r.read) s t c (λ r. refl) h ∙ if_given (λ a. (record_of a t).read ≡ bound_by (read_handle s c)) (is_release c) _ _ e (at_set (λ r. r.read) s.threads t _ l)

pub draw_is_bound : (s : State) (t : ℕ) (c : CallValue) → IsMadeCurrent s t c → t < length s.threads → is_zero c 1 ≡ false → IsBoundBy s (number c 0) (number c 1) a_surface (record_of (step s t c).state t).draw
draw_is_bound s t c h l e =
    let r = not_release (is_zero c 1) (is_zero c 2) (is_zero c 3) (inl e) in
    let given = ap (λ b. cond b None (handle_at s c 1 a_surface)) e in
    bound_by_valid s (number c 0) (number c 1) a_surface (handle_at s c 1 a_surface) _ refl
    (sym (ap (λ (o : Option Handle). is_some o) given) ∙ draw_valid s t c (allowed s t c h r) e)
    (draw_told s t c h l r ∙ ap bound_by given)

pub read_is_bound : (s : State) (t : ℕ) (c : CallValue) → IsMadeCurrent s t c → t < length s.threads → is_zero c 2 ≡ false → IsBoundBy s (number c 0) (number c 2) a_surface (record_of (step s t c).state t).read
read_is_bound s t c h l e =
    let r = not_release (is_zero c 1) (is_zero c 2) (is_zero c 3) (inr e) in
    let given = ap (λ b. cond b None (handle_at s c 2 a_surface)) e in
    bound_by_valid s (number c 0) (number c 2) a_surface (handle_at s c 2 a_surface) _ refl
    (sym (ap (λ (o : Option Handle). is_some o) given) ∙ read_valid s t c (allowed s t c h r) e)
    (read_told s t c h l r ∙ ap bound_by given)

-- without surfaces the thread has none
by_release : {A : Type 0} (b : Bool) → (b ≡ true → A) → (b ≡ false → A) → A
by_release true f g = f refl
by_release false f g = g refl

pub no_draw : (s : State) (t : ℕ) (c : CallValue) → IsMadeCurrent s t c → t < length s.threads → is_zero c 1 ≡ true → (record_of (step s t c).state t).draw ≡ None
no_draw s t c h l e = by_release (is_release c) (λ r. (none_current s t c h l r).draw) (λ r. draw_told s t c h l r ∙ ap (λ b. bound_by (cond b None (handle_at s c 1 a_surface))) e)

pub no_read : (s : State) (t : ℕ) (c : CallValue) → IsMadeCurrent s t c → t < length s.threads → is_zero c 2 ≡ true → (record_of (step s t c).state t).read ≡ None
no_read s t c h l e = by_release (is_release c) (λ r. (none_current s t c h l r).read) (λ r. read_told s t c h l r ∙ ap (λ b. bound_by (cond b None (handle_at s c 2 a_surface))) e)

-- ---- What stays.
pub handles_stay : (s : State) (t : ℕ) (c : CallValue) → IsMadeCurrent s t c → (step s t c).state.handles ≡ s.handles
handles_stay s t c h =
    ap (λ (a : State). a.handles) (allowed_egl_state s t MakeCurrent c h) ∙ either (λ a. a.handles ≡ s.handles) (is_release c) _ _ refl refl

pub waits_for_nothing : (s : State) (t : ℕ) (c : CallValue) → IsMadeCurrent s t c → (record_of (step s t c).state t).wait ≡ None
waits_for_nothing s t c h =
    told (λ r. r.wait) s t c (λ r. refl) h
    ∙ either (λ a. (record_of a t).wait ≡ (record_of s t).wait) (is_release c) _ _ (same_at_set (λ r. r.wait) s.threads t _ initial refl t) (same_at_set (λ r. r.wait) s.threads t _ initial refl t)
    ∙ h.call.goes
