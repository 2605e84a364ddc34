-- What look-ups of handles and of groups find.
use Rattle.std.proofs.Common.{◌≡◌, ℕ, Bool, true, false, ◌==◌, List, [], ◌∷◌, zero, suc, refl, sym, ap, subst, ◌∙◌, Option, None, Some, get_or, set, is_some}
use Rattle.std.specs.Prelude.{All, find}
use Rattle.std.specs.List.{list_any}
use Rattle.std.specs.Option.{option_map, option_map_or}
use Rattle.std.proofs.lemmas.Bool.{and_parts, cond_both, eqb-true, or_parts}
use Rattle.std.proofs.lemmas.List.{get_or-set_other}
use Rattle.std.proofs.lemmas.List.Elements.{All-head, All-tail}
use Rattle.driver_objects.specs.declared.kinds.ObjectKind.{ObjectKind}
use Rattle.driver_objects.specs.declared.kinds.ObjectKind.TheVariants.{Group as a_group}
use Rattle.driver_objects.specs.declared.objects.Object.{Object}
use Rattle.driver_objects.specs.declared.objects.Object.TheVariants.{Context}
use Rattle.display_table.specs.declared.handles.Handle.{Handle}
use Rattle.display_table.specs.declared.handles.HandleKind.{HandleKind}
use Rattle.display_table.specs.declared.handles.HandleKind.TheVariants.{Context as c_kind, Surface as s_kind, Image as i_kind, Sync as y_kind}
use Rattle.egl_model.specs.declared.records.ThreadRecord.{ThreadRecord}
use Rattle.egl_model.specs.State.{State, initial}
use Rattle.display_table.specs.Handles.{is_named, is_named_on, is_same_kind}
use Rattle.egl_model.specs.Handles.{valid}
use Rattle.model_laws.specs.Kinds.{NamesItsKind, named_kind}
use Rattle.egl_model.specs.Currents.{has_context, has_surface, is_bound, is_context_elsewhere, is_surface_elsewhere}
use Rattle.egl_model.specs.MakeCurrent.{bound_by}
use Rattle.egl_model.specs.Objects.{as_context}
use Rattle.model_laws.specs.Shapes.{Goes, HasKind, Leads, Shape, slots_in}
use Rattle.model_laws.specs.Sound.{IsGiven, IsBoundGiven, IsWhole}
use Rattle.model_laws.proofs.Changes.Moves.{NoneElse}

same_kind : (k l : HandleKind) → is_same_kind k l ≡ true → k ≡ l
same_kind c_kind c_kind h = refl
same_kind s_kind s_kind h = refl
same_kind i_kind i_kind h = refl
same_kind y_kind y_kind h = refl
same_kind k l h = absurd (let e : false ≡ true = h in cc)

-- what is found by a test that asks for a kind is of the kind
pub found_goes : (sh : List (Option Shape)) (p : Handle → Bool) (k : HandleKind) → ((h : Handle) → p h ≡ true → is_same_kind h.kind k ≡ true) → (hs : List Handle) → All (NamesItsKind sh) hs →
    Goes sh (named_kind k) (option_map (λ h. h.object) (find p hs))
found_goes sh p k asks [] a = tt
found_goes sh p k asks (h ∷ hs) a = cond_both (p h) (Some h) (find p hs) (λ o. Goes sh (named_kind k) (option_map (λ h. h.object) o))
    (λ e. subst (λ k. HasKind sh (named_kind k) h.object) (same_kind h.kind k (asks h e)) (All-head (NamesItsKind sh) h hs a))
    (λ e. found_goes sh p k asks hs (All-tail (NamesItsKind sh) h hs a))

pub asks_on : (d n : ℕ) (k : HandleKind) (h : Handle) → is_named_on d n k h ≡ true → is_same_kind h.kind k ≡ true
asks_on d n k h e = (and_parts (h.number == n) (is_same_kind h.kind k) (and_parts (is_named n k h) (h.display == d) e).0).1

pub asks_anywhere : (n : ℕ) (k : HandleKind) (h : Handle) → is_named n k h ≡ true → is_same_kind h.kind k ≡ true
asks_anywhere n k h e = (and_parts (h.number == n) (is_same_kind h.kind k) e).1

-- what is bound by a handle is what the handle names
pub bound_goes : (sh : List (Option Shape)) (k : ObjectKind) (o : Option Handle) → Goes sh k (option_map (λ h. h.object) o) → Goes sh k (option_map (λ b. b.object) (bound_by o))
bound_goes sh k None g = tt
bound_goes sh k (Some h) g = g

pub is_some-bound_by : (h : Option Handle) → is_some (bound_by h) ≡ is_some h
is_some-bound_by None = refl
is_some-bound_by (Some h) = refl

pub found_below : (s : State) (p : Handle → Bool) (hs : List Handle) → All (λ h. IsGiven s h.number) hs → IsBoundGiven s (bound_by (find p hs))
found_below s p [] all = tt
found_below s p (h ∷ hs) all = cond_both (p h) (Some h) (find p hs) (λ o. IsBoundGiven s (bound_by o))
    (λ e. All-head (λ h. IsGiven s h.number) h hs all)
    (λ e. found_below s p hs (All-tail (λ h. IsGiven s h.number) h hs all))

-- the group of what a number names, where it is a context
pub group_goes : (sh : List (Option Shape)) (o : Option Object) → Leads sh (slots_in o) → Goes sh a_group (option_map (λ x. x.group) (as_context o))
group_goes sh (Some (Context c)) l = l.0
group_goes sh o l = tt

-- ---- What no refusal of eglMakeCurrent says of other threads.
none_at : (p : ThreadRecord → Bool) → p initial ≡ false → (ts : List ThreadRecord) → list_any p ts ≡ false → (u : ℕ) → p (get_or ts u initial) ≡ false
none_at p d [] h u = d
none_at p d (r ∷ ts) h zero = (or_parts (p r) (list_any p ts) h).0
none_at p d (r ∷ ts) h (suc u) = none_at p d ts (or_parts (p r) (list_any p ts) h).1 u

none_else : (p : ThreadRecord → Bool) → p initial ≡ false → (ts : List ThreadRecord) (t : ℕ) → list_any p (set ts t initial) ≡ false → NoneElse p ts t
none_else p d ts t h u ne = ap p (sym (get_or-set_other ts t u initial initial ne)) ∙ none_at p d (set ts t initial) h u

pub context_free : (ts : List ThreadRecord) (t n : ℕ) (h : Option Handle) → option_map_or (λ h. is_context_elsewhere ts t h.object) h false ≡ false → is_bound n (bound_by h) ≡ true → NoneElse (has_context n) ts t
unfolding is_context_elsewhere
context_free ts t n None free b = absurd (let e : false ≡ true = b in cc)
context_free ts t n (Some h) free b = λ u ne. ap (λ m. has_context m (get_or ts u initial)) (sym (eqb-true h.object n b)) ∙ none_else (has_context h.object) refl ts t free u ne

pub surface_free : (ts : List ThreadRecord) (t n : ℕ) (h : Option Handle) → option_map_or (λ h. is_surface_elsewhere ts t h.object) h false ≡ false → is_bound n (bound_by h) ≡ true → NoneElse (has_surface n) ts t
unfolding is_surface_elsewhere
surface_free ts t n None free b = absurd (let e : false ≡ true = b in cc)
surface_free ts t n (Some h) free b = λ u ne. ap (λ m. has_surface m (get_or ts u initial)) (sym (eqb-true h.object n b)) ∙ none_else (has_surface h.object) refl ts t free u ne

-- what a valid handle names is of its kind
pub goes_valid : (sh : List (Option Shape)) (s : State) (d n : ℕ) (k : HandleKind) → IsWhole sh s → Goes sh (named_kind k) (option_map (λ b. b.object) (bound_by (valid s d n k)))
goes_valid sh s d n k w = bound_goes sh (named_kind k) (valid s d n k) (found_goes sh (is_named_on d n k) k (asks_on d n k) s.handles w.kinds.handles)
