-- Handles of theirs stand for one valid handle of ours each.
use Rattle.std.proofs.Common.{◌≡◌, ◌⊎◌, inl, inr, ℕ, ◌≤◌, ◌<◌, ◌==◌, ◌&&◌, ◌||◌, not, ℤ, pos, negsuc, Bool, true, false, List, [], ◌∷◌, length, get_or, map, refl, sym, ap, subst, ◌∙◌, zero, suc, arith, cond, is_some, if◌then◌else◌, Option, None, Some}
use Rattle.std.specs.Prelude.{All, Contains, find, int_le, unwrap_or}
use Rattle.std.specs.Ordering.{int_eq}
use Rattle.std.proofs.lemmas.Bool.Decides.{Decides-eqb, nat_tests}
use Rattle.std.proofs.lemmas.List.Elements.{All-contains, All-contains_itself, All-push}
use Rattle.display_table.specs.Handles.{is_named_on, is_same_kind, kind_place}
use Rattle.display_table.specs.declared.TheConstants.{HANDLES_END}
use Rattle.display_table.specs.declared.handles.Handle.{Handle}
use Rattle.display_table.specs.declared.handles.HandleKind.{HandleKind}
use Rattle.display_table.specs.declared.handles.HandleKind.TheVariants.{Context, Surface, Image, Sync}
use Rattle.call_rules.specs.EglRules.{egl_rows}
use Rattle.driver_core.specs.Judging.{noted_on}
use Rattle.driver_facts.specs.Verdicts.{refusals, refusals_by}
use Rattle.driver_facts.specs.declared.verdicts.Refusals.TheVariants.{Unjudged}
use Rattle.egl_calls.specs.Arguments.{number, signed}
use Rattle.egl_calls.specs.Calls.{CallValue}
use Rattle.egl_calls.specs.Ranges.{unsigned}
use Rattle.egl_calls.specs.declared.errors.EglError.{EglError}
use Rattle.egl_calls.specs.declared.errors.GlError.{GlError}
use Rattle.egl_calls.specs.declared.kinds.EglKind.{EglKind}
use Rattle.egl_calls.specs.declared.kinds.EglKind.TheVariants.{DestroyContext, DestroyImage, DestroySurface, DestroySync}
use Rattle.egl_calls.specs.declared.places.TheConstants.{DISPLAY}
use Rattle.egl_model.specs.Displays.{is_display, is_initialized}
use Rattle.egl_model.specs.Facts.{facts_of}
use Rattle.egl_model.specs.Currents.{current_context}
use Rattle.egl_model.specs.State.{State, opening, record_of, set_error}
use Rattle.egl_model.specs.Step.{Stepped, note_error, step}
use Rattle.egl_model.specs.Syncs.{serve, sync_handle}
use Rattle.log_reader.specs.Logs.{LogValue}
use Rattle.log_reader.specs.declared.answers.Answer.{Answer}
use Rattle.log_reader.specs.declared.outcomes.LogOutcome.{LogOutcome}
use Rattle.log_reader.specs.declared.outcomes.LogOutcome.TheVariants.{Done, Egl as Refused, Gl as RefusedGl, Unnamed}
use Rattle.model_laws.specs.Laws.{HandlesAreNew, IsKnownOrNew}
use Rattle.model_laws.specs.NewHandles.{HasNewHandle}
use Rattle.model_laws.proofs.Handles.KindSteps.{same_kind}
use Rattle.model_laws.proofs.Handles.NewHandleLaws.{answers_number, gets_handle}
use Rattle.model_laws.proofs.Steps.StepKeeps.{keeps-step}
use Rattle.refusal_rows.specs.Rows.{Row}
use Rattle.share_group.specs.declared.names.NameKind.{NameKind}
use Rattle.surface_store.specs.declared.windows.WindowSpec.{WindowSpec}
use Rattle.driver_judge.specs.Answers.{NewNamesValue, StandsValue, basis_of, destroying, destroying_call, held, is_first_display, is_free, is_taken, is_valid_handle, listed_behind, may_be_display, may_stand, names_given, new_name, new_names, noted_behind, stands_behind, with_display, with_given, with_new_handle, without_freed}
use Rattle.driver_judge.specs.Fences.{is_signaled_by, served_beside, step_beside}
use Rattle.driver_judge.specs.Judgements.{begun, judged, setting}
use Rattle.driver_judge.specs.Maps.{Both, Key, found, handle_for, handle_of, is_key, may_be_given, nothing, our_handle, their_handle, with_entry, with_handle}
use Rattle.driver_judge.specs.Outcomes.{are_none, errors_of, refused_with}
use Rattle.driver_judge.specs.Sorts.{sort_of}
use Rattle.driver_judge.specs.declared.bases.Basis.{Basis}
use Rattle.driver_judge.specs.declared.sorts.Mapped.{Mapped}
use Rattle.driver_judge.specs.declared.sorts.Mapped.TheVariants.{Display, Handle as AHandle}
use Rattle.driver_judge.specs.declared.sorts.Sort.{Sort}
use Rattle.driver_judge.specs.declared.sorts.Sort.TheVariants.{FreedNames, NewHandle, NewNames, SameHandle}
use Rattle.driver_judge.proofs.EntryLaws.{found_put, found_put_other, same_key}
use Rattle.driver_judge.proofs.MadeLaws.{held_up, made_is_allowed, step_most}
use Rattle.driver_judge.proofs.RowLaws.{no_errors}
use Rattle.driver_judge.proofs.SortLaws.{MakesHandle, makes_handle, making_is_step}
use Rattle.driver_judge.proofs.WalkLaws.{Steady, all_keep}

-- ---- A handle that is there is valid.
found_in : (p : Handle → Bool) (hs : List Handle) (h : Handle) (k : ℕ) → p h ≡ true → k < length hs → get_or hs k h ≡ h → is_some (find p hs) ≡ true
found_in p [] h k q l e = absurd (omega arith)
found_in p (x ∷ hs) h zero q l e = ap (λ b. is_some (cond b (Some x) (find p hs))) (ap p e ∙ q)
found_in p (x ∷ hs) h (suc k) q l e = or_later (p x) x (find p hs) (found_in p hs h k q (omega arith) e)
  where
    or_later : (b : Bool) (x : Handle) (o : Option Handle) → is_some o ≡ true → is_some (cond b (Some x) o) ≡ true
    or_later true x o i = refl
    or_later false x o i = i

equal_self : (n : ℕ) → (n == n) ≡ true
equal_self n = (Decides-eqb n n).1 refl

named_itself : (h : Handle) → is_named_on h.display h.number h.kind h ≡ true
named_itself h =
    ap (λ b. (b && is_same_kind h.kind h.kind) && (h.display == h.display)) (equal_self h.number)
    ∙ ap (λ b. b && (h.display == h.display)) (equal_self (kind_place h.kind))
    ∙ equal_self h.display

held_number : (n : ℕ) → n ≤ 4294967295 → held (pos n) ≡ pos n
held_number n l = let within : (int_le (pos 0) (pos n) && int_le (pos n) (pos 4294967295)) ≡ true = grind (arith, nat_tests, l) in ap (λ (b : Bool). if b then pos n else pos 0) within

few_by : (n : ℕ) (a b : Bool) → (n == 1) ≡ a → (n == 2) ≡ b → (a || b) ≡ true → n ≤ 4294967295
few_by n true b e f h = let is : n ≡ 1 = (Decides-eqb n 1).0 e in omega (arith, is)
few_by n false true e f h = let is : n ≡ 2 = (Decides-eqb n 2).0 f in omega (arith, is)
few_by n false false e f h = cc

few_displays : (n : ℕ) → is_display n ≡ true → n ≤ 4294967295
few_displays n h = few_by n (n == 1) (n == 2) refl refl h

held_display : (d : ℤ) → is_display (unsigned d) ≡ true → held d ≡ d
held_display (pos n) h = held_number n (few_displays n h)
held_display (negsuc n) h = cc

-- what the calls that destroy ask
record IsThere (s : State) (kind : HandleKind) (d n : ℕ) : Type 0 where
  display : is_display d ≡ true
  initialized : is_initialized s d ≡ true
  handle : is_some (find (is_named_on d n kind) s.handles) ≡ true

destroy_rows : EglKind → HandleKind → State → ℕ → ℤ → ℤ → List (Row EglError)
destroy_rows k kind s t display handle = egl_rows k (destroying_call kind display handle) (facts_of s t (destroying_call kind display handle))

there_off : (s : State) (t : ℕ) (kind : HandleKind) (display handle : ℤ) → IsThere s kind (unsigned (held display)) (unsigned (held handle)) → errors_of (refusals_by s t (destroying kind) (destroying_call kind display handle)) ≡ []
unfolding destroy_rows
there_off s t Context display handle h = ap (λ es. map Refused es) (no_errors 16 (destroy_rows DestroyContext Context s t display handle) (ap not h.display, (ap not h.initialized, (ap not h.handle, tt))))
there_off s t Surface display handle h = ap (λ es. map Refused es) (no_errors 16 (destroy_rows DestroySurface Surface s t display handle) (ap not h.display, (ap not h.initialized, (ap not h.handle, tt))))
there_off s t Image display handle h = ap (λ es. map Refused es) (no_errors 16 (destroy_rows DestroyImage Image s t display handle) (ap not h.display, (ap not h.initialized, (ap not h.handle, tt))))
there_off s t Sync display handle h = ap (λ es. map Refused es) (no_errors 16 (destroy_rows DestroySync Sync s t display handle) (ap not h.display, (ap not h.initialized, (ap not h.handle, tt))))

by_wait : State → ℕ → HandleKind → ℤ → ℤ → Option ℕ → Bool
by_wait s t kind display handle o = are_none (errors_of (if is_some o then Unjudged else refusals_by s t (destroying kind) (destroying_call kind display handle)))

-- to a thread that waits nothing is refused
waiting_valid : (s : State) (t : ℕ) (kind : HandleKind) (display handle : ℤ) (sync : ℕ) → (record_of s t).wait ≡ Some sync → is_valid_handle s t kind display handle ≡ true
unfolding is_valid_handle refusals by_wait
waiting_valid s t kind display handle sync w = ap (by_wait s t kind display handle) w

valid_by : (s : State) (t : ℕ) (kind : HandleKind) (display handle : ℤ) (o : Option ℕ) → (record_of s t).wait ≡ o → IsThere s kind (unsigned (held display)) (unsigned (held handle)) → is_valid_handle s t kind display handle ≡ true
unfolding is_valid_handle refusals by_wait
valid_by s t kind display handle (Some sync) w h = waiting_valid s t kind display handle sync w
valid_by s t kind display handle None w h = ap (by_wait s t kind display handle) w ∙ ap are_none (there_off s t kind display handle h)

there_is : (s : State) (h : Handle) (display : ℤ) → Contains s.handles h → h.display ≡ unsigned display → is_display (unsigned display) ≡ true → is_initialized s (unsigned display) ≡ true → h.number ≤ 4294967295 → IsThere s h.kind (unsigned (held display)) (unsigned (held (pos h.number)))
there_is s h display c e i j l =
    let d : held display ≡ display = held_display display i in
    let n : held (pos h.number) ≡ pos h.number = held_number h.number l in
    record {
      display = ap (λ z. is_display (unsigned z)) d ∙ i;
      initialized = ap (λ z. is_initialized s (unsigned z)) d ∙ j;
      handle =
          ap (λ z. is_some (find (is_named_on (unsigned z) (unsigned (held (pos h.number))) h.kind) s.handles)) d
          ∙ ap (λ z. is_some (find (is_named_on (unsigned display) (unsigned z) h.kind) s.handles)) n
          ∙ ap (λ x. is_some (find (is_named_on x h.number h.kind) s.handles)) (sym e)
          ∙ found_in (is_named_on h.display h.number h.kind) s.handles h c.0 (named_itself h) c.1 c.2;
    }

is_valid : (s : State) (t : ℕ) (h : Handle) (display : ℤ) → Contains s.handles h → h.display ≡ unsigned display → is_display (unsigned display) ≡ true → is_initialized s (unsigned display) ≡ true → h.number ≤ 4294967295 → is_valid_handle s t h.kind display (pos h.number) ≡ true
is_valid s t h display c e i j l = valid_by s t h.kind display (pos h.number) (record_of s t).wait refl (there_is s h display c e i j l)

-- ---- What is valid leads back from their number for it.
-- each valid handle and each that something stands for was made, and what stands for a valid one stands for no other
pub record HandlesStand (s : State) (m : Both) : Type 0 where
  pub first : 0 < s.next_handle
  pub most : s.next_handle ≤ HANDLES_END
  pub below : (h : Handle) → Contains s.handles h → (0 < h.number) × (h.number < s.next_handle)
  pub given : (kind : HandleKind) (n : ℕ) (v : ℤ) → handle_for m (AHandle kind) n ≡ Some v → n < s.next_handle
  pub back : (h : Handle) (v : ℤ) → Contains s.handles h → handle_for m (AHandle h.kind) h.number ≡ Some v → handle_of m (AHandle h.kind) h.display v ≡ Some (pos h.number)

known_or_new : (s a : State) (h : Handle) → HandlesAreNew s a → Contains a.handles h → IsKnownOrNew s a h
known_or_new s a h n c = All-contains (IsKnownOrNew s a) a.handles h n.each c

pub moved_stand : (s a : State) (m : Both) → HandlesAreNew s a → a.next_handle ≤ HANDLES_END → HandlesStand s m → HandlesStand a m
moved_stand s a m n most x = record {
  first = let r = n.rises in let f = x.first in omega (arith, r, f);
  most = most;
  below = λ h c. elim (known_or_new s a h n c) [
    | inl k ↦ (let b = x.below h k in (b.0, let r = n.rises in let l = b.1 in omega (arith, r, l)))
    | inr i ↦ (let f = x.first in let l = i.0 in (omega (arith, f, l), i.1))
  ];
  given = λ kind k v f. let g = x.given kind k v f in let r = n.rises in omega (arith, g, r);
  back = λ h v c f. elim (known_or_new s a h n c) [
    | inl k ↦ x.back h v k f
    | inr i ↦ absurd (let g = x.given h.kind h.number v f in let l = i.0 in omega (arith, g, l))
  ];
}

pub same_stand : (s a : State) (m : Both) → a.handles ≡ s.handles → a.next_handle ≡ s.next_handle → HandlesStand s m → HandlesStand a m
same_stand s a m e f x = record {
  first = subst (λ n. 0 < n) (sym f) x.first;
  most = subst (λ n. n ≤ HANDLES_END) (sym f) x.most;
  below = λ h c. let b = x.below h (subst (λ hs. Contains hs h) e c) in (b.0, subst (λ n. h.number < n) (sym f) b.1);
  given = λ kind k v g. subst (λ n. k < n) (sym f) (x.given kind k v g);
  back = λ h v c g. x.back h v (subst (λ hs. Contains hs h) e c) g;
}

-- ---- A display more says nothing of handles.
no_display : (kind : HandleKind) → (kind_place kind == 4) ≡ false
no_display Context = refl
no_display Surface = refl
no_display Image = refl
no_display Sync = refl

middle_false : (a x : Bool) → (a && false && x) ≡ false
middle_false true x = refl
middle_false false x = refl

beside_display : (kind : HandleKind) (d : ℕ) (v w : ℤ) → is_key (d, kind_place kind, v) (0, 4, w) ≡ false
beside_display kind d v w = ap (λ b. (d == 0) && b && int_eq v w) (no_display kind) ∙ middle_false (d == 0) (int_eq v w)

pub display_stands : (s : State) (m : Both) (ours : ℕ) (theirs : ℤ) → HandlesStand s m → HandlesStand s (with_handle Display 0 ours theirs m)
display_stands s m ours theirs x = record {
  first = x.first;
  most = x.most;
  below = x.below;
  given = λ kind n v f. x.given kind n v (sym (for_other kind n) ∙ f);
  back = λ h v c f. found_put_other (their_handle (AHandle h.kind) h.display v) (their_handle Display 0 theirs) (pos ours) m.ours (beside_display h.kind h.display v theirs) ∙ x.back h v c (sym (for_other h.kind h.number) ∙ f);
}
  where
    for_other : (kind : HandleKind) (n : ℕ) → handle_for (with_handle Display 0 ours theirs m) (AHandle kind) n ≡ handle_for m (AHandle kind) n
    for_other kind n = found_put_other (our_handle (AHandle kind) n) (our_handle Display ours) theirs m.theirs (beside_display kind 0 (pos n) (pos ours))

-- ---- A pair more, of a number of theirs that stands for nothing that is valid.
record MayMakeOn (s : State) (d : ℕ) : Type 0 where
  display : is_display d ≡ true
  initialized : is_initialized s d ≡ true

record MayStand (s : State) (m : Both) (kind : HandleKind) (d n : ℕ) (theirs : ℤ) : Type 0 where
  made : n < s.next_handle
  home : (h : Handle) → Contains s.handles h → h.number ≡ n → h.display ≡ d
  apart : (h : Handle) → Contains s.handles h → h.kind ≡ kind → h.display ≡ d → handle_for m (AHandle h.kind) h.number ≡ Some theirs → handle_of m (AHandle kind) d theirs ≡ Some (pos h.number) → ⊥

same_number : (a b : ℕ) → pos a ≡ pos b → a ≡ b
same_number a b e = ap unsigned e

same_value : (v w : ℤ) → Some v ≡ Some w → v ≡ w
same_value v w e = ap (λ o. unwrap_or o v) e

key_kind : (k l : HandleKind) → kind_place k ≡ kind_place l → k ≡ l
key_kind k l e = same_kind k l ((Decides-eqb (kind_place k) (kind_place l)).1 e)

given_by : (s : State) (m : Both) (kind : HandleKind) (d n : ℕ) (theirs : ℤ) (k : HandleKind) (j : ℕ) (v : ℤ) (b : Bool) → is_key (our_handle (AHandle k) j) (our_handle (AHandle kind) n) ≡ b → HandlesStand s m → MayStand s m kind d n theirs → handle_for (with_handle (AHandle kind) d n theirs m) (AHandle k) j ≡ Some v → j < s.next_handle
given_by s m kind d n theirs k j v true e x y f =
    let same : j ≡ n = same_number j n (ap (λ (q : Key). q.2) (same_key (our_handle (AHandle k) j) (our_handle (AHandle kind) n) e)) in
    subst (λ i. i < s.next_handle) (sym same) y.made
given_by s m kind d n theirs k j v false e x y f = x.given k j v (sym (found_put_other (our_handle (AHandle k) j) (our_handle (AHandle kind) n) theirs m.theirs e) ∙ f)

-- a handle that stood for something before
back_other : (s : State) (m : Both) (kind : HandleKind) (d n : ℕ) (theirs : ℤ) (h : Handle) (v : ℤ) (b : Bool) → is_key (their_handle (AHandle h.kind) h.display v) (their_handle (AHandle kind) d theirs) ≡ b → HandlesStand s m → MayStand s m kind d n theirs → Contains s.handles h → handle_for m (AHandle h.kind) h.number ≡ Some v → handle_of (with_handle (AHandle kind) d n theirs m) (AHandle h.kind) h.display v ≡ Some (pos h.number)
back_other s m kind d n theirs h v true e x y c f =
    let key : their_handle (AHandle h.kind) h.display v ≡ their_handle (AHandle kind) d theirs = same_key (their_handle (AHandle h.kind) h.display v) (their_handle (AHandle kind) d theirs) e in
    let of : h.kind ≡ kind = key_kind h.kind kind (ap (λ (q : Key). q.1) key) in
    let on : h.display ≡ d = ap (λ (q : Key). q.0) key in
    let value : v ≡ theirs = ap (λ (q : Key). q.2) key in
    absurd (y.apart h c of on (f ∙ ap Some value) (sym (ap (λ (q : Key). found q m.ours) key) ∙ x.back h v c f))
back_other s m kind d n theirs h v false e x y c f = found_put_other (their_handle (AHandle h.kind) h.display v) (their_handle (AHandle kind) d theirs) (pos n) m.ours e ∙ x.back h v c f

back_by : (s : State) (m : Both) (kind : HandleKind) (d n : ℕ) (theirs : ℤ) (h : Handle) (v : ℤ) (b : Bool) → is_key (our_handle (AHandle h.kind) h.number) (our_handle (AHandle kind) n) ≡ b → HandlesStand s m → MayStand s m kind d n theirs → Contains s.handles h → handle_for (with_handle (AHandle kind) d n theirs m) (AHandle h.kind) h.number ≡ Some v → handle_of (with_handle (AHandle kind) d n theirs m) (AHandle h.kind) h.display v ≡ Some (pos h.number)
back_by s m kind d n theirs h v true e x y c f =
    let ours : Key = our_handle (AHandle kind) n in
    let key : our_handle (AHandle h.kind) h.number ≡ ours = same_key (our_handle (AHandle h.kind) h.number) ours e in
    let place : kind_place h.kind ≡ kind_place kind = ap (λ (q : Key). q.1) key in
    let same : h.number ≡ n = same_number h.number n (ap (λ (q : Key). q.2) key) in
    let on : h.display ≡ d = y.home h c same in
    let value : theirs ≡ v = same_value theirs v (sym (found_put ours theirs m.theirs) ∙ sym (ap (λ (q : Key). found q (with_entry ours theirs m.theirs)) key) ∙ f) in
    ap (λ (q : Key). found q (with_entry (their_handle (AHandle kind) d theirs) (pos n) m.ours)) (λ i. (on i, place i, sym value i))
    ∙ found_put (their_handle (AHandle kind) d theirs) (pos n) m.ours
    ∙ ap (λ j. Some (pos j)) (sym same)
back_by s m kind d n theirs h v false e x y c f =
    back_other s m kind d n theirs h v (is_key (their_handle (AHandle h.kind) h.display v) (their_handle (AHandle kind) d theirs)) refl x y c
    (sym (found_put_other (our_handle (AHandle h.kind) h.number) (our_handle (AHandle kind) n) theirs m.theirs e) ∙ f)

pair_stands : (s : State) (m : Both) (kind : HandleKind) (d n : ℕ) (theirs : ℤ) → HandlesStand s m → MayStand s m kind d n theirs → HandlesStand s (with_handle (AHandle kind) d n theirs m)
pair_stands s m kind d n theirs x y = record {
  first = x.first;
  most = x.most;
  below = x.below;
  given = λ k j v f. given_by s m kind d n theirs k j v (is_key (our_handle (AHandle k) j) (our_handle (AHandle kind) n)) refl x y f;
  back = λ h v c f. back_by s m kind d n theirs h v (is_key (our_handle (AHandle h.kind) h.number) (our_handle (AHandle kind) n)) refl x y c f;
}

-- ---- A new handle.
second_not : (a b : Bool) → (not a && not b) ≡ true → b ≡ false
second_not true b h = cc
second_not false true h = cc
second_not false false h = refl

true_false : true ≡ false → ⊥
true_false e = cc

-- their number may stand for it, so what it stands for already isn't valid
not_valid : (s : State) (m : Both) (t : ℕ) (kind : HandleKind) (display theirs : ℤ) (n : ℕ) → may_stand s m t kind display theirs ≡ true → handle_of m (AHandle kind) (unsigned display) theirs ≡ Some (pos n) → is_valid_handle s t kind display (pos n) ≡ false
not_valid s m t kind display theirs n free e = sym (ap (is_taken s t kind display) e) ∙ second_not (int_eq theirs (pos 0)) (is_taken s t kind display (handle_of m (AHandle kind) (unsigned display) theirs)) free

new_may_stand : (s a : State) (m : Both) (t : ℕ) (kind : HandleKind) (display theirs : ℤ) → MayMakeOn s (unsigned display) → HasNewHandle s a (unsigned display) kind → HandlesAreNew s a → may_stand s m t kind display theirs ≡ true → HandlesStand s m → MayStand a m kind (unsigned display) s.next_handle theirs
new_may_stand s a m t kind display theirs may new n free x = record {
  made = let next = new.next in omega (arith, next);
  home = λ h c same. elim (at_home h c) [
    | inl l ↦ absurd (omega (arith, l, same))
    | inr e ↦ e
  ];
  apart = λ h c of on f g. elim (known_or_new s a h n c) [
    | inl k ↦ true_false (
        sym (ap (λ j. is_valid_handle s t j display (pos h.number)) (sym of) ∙ is_valid s t h display k on may.display may.initialized (let b = x.below h k in let l = b.1 in let most = x.most in omega (arith, l, most)))
        ∙ not_valid s m t kind display theirs h.number free g
        )
    | inr i ↦ (let l = i.0 in let b = x.given h.kind h.number theirs f in omega (arith, l, b))
  ];
}
  where
    at_home : (h : Handle) → Contains a.handles h → (h.number < s.next_handle) ⊎ (h.display ≡ unsigned display)
    at_home h c =
        let last = new.handle.1 in
        All-contains (λ (g : Handle). (g.number < s.next_handle) ⊎ (g.display ≡ unsigned display)) a.handles h
        (subst (All (λ (g : Handle). (g.number < s.next_handle) ⊎ (g.display ≡ unsigned display))) (sym last.last)
        (All-push (λ (g : Handle). (g.number < s.next_handle) ⊎ (g.display ≡ unsigned display)) s.handles new.handle.0 (λ k d l. inl (x.below (get_or s.handles k d) (All-contains_itself s.handles k d l)).1) (inr last.on_display)))
        c

waiting_may_stand : (s : State) (m : Both) (t : ℕ) (kind : HandleKind) (display theirs : ℤ) (sync : ℕ) → (record_of s t).wait ≡ Some sync → may_stand s m t kind display theirs ≡ true → HandlesStand s m → MayStand s m kind (unsigned display) 0 theirs
waiting_may_stand s m t kind display theirs sync w free x = record {
  made = x.first;
  home = λ h c same. absurd (let b = x.below h c in let l = b.0 in omega (arith, l, same));
  apart = λ h c of on f g. true_false (sym (waiting_valid s t kind display (pos h.number) sync w) ∙ not_valid s m t kind display theirs h.number free g);
}

-- behind any step, and behind a fence that is served
pub step_stands : (s : State) (t : ℕ) (c : CallValue) (m : Both) → HandlesStand s m → HandlesStand (step s t c).state m
step_stands s t c m x = moved_stand s (step s t c).state m (keeps-step s t c).frame.handles (step_most s t c x.most) x

served_stands : (s : State) (m : Both) (o : Option Handle) → HandlesStand s m → HandlesStand (serve o s) m
served_stands s m None x = x
served_stands s m (Some h) x = same_stand s (serve (Some h) s) m refl refl x

served_if : (s : State) (m : Both) (o : Option Handle) (b : Bool) → HandlesStand s m → HandlesStand (if b then serve o s else s) m
served_if s m o true x = served_stands s m o x
served_if s m o false x = x

beside_stands : (s : State) (t : ℕ) (c : CallValue) (theirs : Answer) (m : Both) → HandlesStand s m → HandlesStand (step_beside s t c theirs).state m
unfolding step_beside
beside_stands s t c theirs m x = step_stands (served_beside s c theirs) t c m (served_if s m (sync_handle s c) (is_signaled_by c.kind c theirs) x)

abbrev Behind : Stepped → Both → HandleKind → CallValue → ℤ → Type 0
Behind r m kind c theirs = HandlesStand r.state (with_handle (AHandle kind) (number c DISPLAY) (unsigned r.reply.value) theirs m)

new_by : (s : State) (t : ℕ) (c : CallValue) (m : Both) (kind : HandleKind) (theirs : ℤ) (w : Option ℕ) → (record_of s t).wait ≡ w → (k : MakesHandle c kind) → errors_of (refusals s t c) ≡ [] → may_stand s m t kind (signed c DISPLAY) theirs ≡ true → HandlesStand s m → Behind (step s t c) m kind c theirs
new_by s t c m kind theirs (Some sync) w k none free x =
    subst (λ (r : Stepped). Behind r m kind c theirs) (sym (held_up s t k.call c sync k.is w))
    (pair_stands s m kind (number c DISPLAY) 0 theirs x (waiting_may_stand s m t kind (signed c DISPLAY) theirs sync w free x))
new_by s t c m kind theirs None w k none free x =
    let a = made_is_allowed s t k.call kind c k.is k.made w none in
    let after : State = (step s t c).state in
    let n : HandlesAreNew s after = (keeps-step s t c).frame.handles in
    let may : MayMakeOn s (number c DISPLAY) = record { display = a.1.display; initialized = a.1.initialized } in
    let pair = new_may_stand s after m t kind (signed c DISPLAY) theirs may (gets_handle s t k.call c kind a.0 k.made) n free x in
    subst (λ (z : ℤ). HandlesStand after (with_handle (AHandle kind) (number c DISPLAY) (unsigned z) theirs m)) (sym (answers_number s t k.call c kind a.0 k.made))
    (pair_stands after m kind (number c DISPLAY) s.next_handle theirs (moved_stand s after m n (step_most s t c x.most) x) pair)

new_stands : (s : State) (t : ℕ) (c : CallValue) (theirs : Answer) (m : Both) (kind : HandleKind) → sort_of s t c ≡ NewHandle kind → errors_of (refusals s t c) ≡ [] → may_stand s m t kind (signed c DISPLAY) theirs.value ≡ true → HandlesStand s m → Behind (step_beside s t c theirs) m kind c theirs.value
new_stands s t c theirs m kind e none free x =
    let k : MakesHandle c kind = makes_handle s t c kind e in
    subst (λ (r : Stepped). Behind r m kind c theirs.value) (sym (making_is_step s t c theirs kind k)) (new_by s t c m kind theirs.value (record_of s t).wait refl k none free x)

-- ---- What an answer leaves. Lists of names say nothing of handles.
given_handles : (group : ℕ) (kind : NameKind) (z w : ℤ) (n : NewNamesValue) (b : Bool) → (if b then record n { stands = with_given group kind z w n.stands } else record n { agree = false }).stands.handles ≡ n.stands.handles
given_handles group kind z w n true = refl
given_handles group kind z w n false = refl

new_names_handles : (group : ℕ) (kind : NameKind) (zs ws : List ℤ) (n : NewNamesValue) → (new_names group kind zs ws n).stands.handles ≡ n.stands.handles
unfolding new_names
new_names_handles group kind [] ws n = refl
new_names_handles group kind (z ∷ zs) [] n = refl
new_names_handles group kind (z ∷ zs) (w ∷ ws) n = new_names_handles group kind zs ws (new_name group kind z w n) ∙ given_handles group kind z w n (may_be_given n.stands.names group kind w)

as_many_handles : (b : Bool) (m : StandsValue) (n : NewNamesValue) → n.stands.handles ≡ m.handles → (if b then n else record { agree = false; stands = m }).stands.handles ≡ m.handles
as_many_handles true m n e = e
as_many_handles false m n e = refl

names_given_handles : (m : StandsValue) (group : Option ℕ) (kind : NameKind) (ours theirs : List ℤ) → (names_given m group kind ours theirs).stands.handles ≡ m.handles
names_given_handles m None kind ours theirs = refl
names_given_handles m (Some group) kind ours theirs = as_many_handles (length ours == length theirs) m _ (new_names_handles group kind ours theirs (record { agree = true; stands = m }))

listed_handles : (m : StandsValue) (a : Basis) (sort : Sort) (ours theirs : List ℤ) → (listed_behind m a sort ours theirs).handles ≡ m.handles
listed_handles m a (NewNames kind) ours theirs = names_given_handles m a.group kind ours theirs
listed_handles m a sort ours theirs = refl

freed_handles : (group : Option ℕ) (kind : NameKind) (zs : List ℤ) (m : StandsValue) → (without_freed group kind zs m).handles ≡ m.handles
freed_handles None kind zs m = refl
freed_handles (Some group) kind zs m = refl

if_display : (s : State) (m : StandsValue) (ours theirs : ℤ) (b : Bool) → HandlesStand s m.handles → HandlesStand s (if b then record m { handles = with_handle Display 0 (unsigned ours) theirs m.handles } else m).handles
if_display s m ours theirs true x = display_stands s m.handles (unsigned ours) theirs x
if_display s m ours theirs false x = x

shown_stands : (s : State) (m : StandsValue) (kind : Mapped) (ours theirs : ℤ) → HandlesStand s m.handles → HandlesStand s (with_display kind ours theirs m).handles
shown_stands s m Display ours theirs x = if_display s m ours theirs (is_first_display m.handles Display ours && may_be_display m.handles Display theirs) x
shown_stands s m (AHandle kind) ours theirs x = x

-- by whether their number may stand for it
if_free : (s : State) (t : ℕ) (c : CallValue) (theirs : Answer) (m : StandsValue) (kind : HandleKind) (b : Bool) → may_stand s m.handles t kind (signed c DISPLAY) theirs.value ≡ b → sort_of s t c ≡ NewHandle kind → errors_of (refusals s t c) ≡ [] → HandlesStand s m.handles → HandlesStand (step_beside s t c theirs).state (with_new_handle b kind c (step_beside s t c theirs).reply.value theirs.value m).handles
if_free s t c theirs m kind true free e none x = new_stands s t c theirs m.handles kind e none free x
if_free s t c theirs m kind false free e none x = beside_stands s t c theirs m.handles x

noted_stands : (s : State) (t : ℕ) (c : CallValue) (theirs : Answer) (m : StandsValue) (a : Basis) (sort : Sort) → sort_of s t c ≡ sort → a.free ≡ is_free s m.handles t sort c theirs.value → errors_of (refusals s t c) ≡ [] → HandlesStand s m.handles → HandlesStand (step_beside s t c theirs).state (noted_behind a c sort (step_beside s t c theirs).reply.value theirs.value m).handles
noted_stands s t c theirs m a (NewHandle kind) e f none x = if_free s t c theirs m kind a.free (sym f) e none x
noted_stands s t c theirs m a (SameHandle kind) e f none x = shown_stands (step_beside s t c theirs).state m kind (step_beside s t c theirs).reply.value theirs.value (beside_stands s t c theirs m.handles x)
noted_stands s t c theirs m a (FreedNames kind) e f none x = subst (λ (b : Both). HandlesStand (step_beside s t c theirs).state b) (sym (freed_handles a.group kind c.list m)) (beside_stands s t c theirs m.handles x)
noted_stands s t c theirs m a sort e f none x = beside_stands s t c theirs m.handles x

answer_stands : (s : State) (t : ℕ) (c : CallValue) (theirs : Answer) (m : StandsValue) → errors_of (refusals s t c) ≡ [] → HandlesStand s m.handles → HandlesStand (step_beside s t c theirs).state (stands_behind m (basis_of s m.handles t c theirs.value) c (step_beside s t c theirs).reply theirs).handles
unfolding stands_behind basis_of
answer_stands s t c theirs m none x =
    let a : Basis = basis_of s m.handles t c theirs.value in
    let listed : StandsValue = listed_behind m a a.sort (step_beside s t c theirs).reply.list theirs.list in
    let same : listed.handles ≡ m.handles = listed_handles m a a.sort (step_beside s t c theirs).reply.list theirs.list in
    noted_stands s t c theirs listed a a.sort refl (ap (λ (b : Both). is_free s b t (sort_of s t c) c theirs.value) (sym same)) none (subst (λ (b : Both). HandlesStand s b) (sym same) x)

-- ---- All lines.
refused_stands : (s : State) (t : ℕ) (e : LogOutcome) (m : Both) → HandlesStand s m → HandlesStand (refused_with s t e) m
refused_stands s t Done m x = x
refused_stands s t (Refused e) m x = same_stand s (set_error s t e) m refl refl x
refused_stands s t (RefusedGl e) m x = noted_is (current_context s t) e
  where
    noted_is : (o : Option ℕ) (e : GlError) → HandlesStand (noted_on o e s) m
    noted_is None e = x
    noted_is (Some n) e = same_stand s (note_error s n e) m refl refl x
refused_stands s t (Unnamed z) m x = x

abbrev pub Stand : State → StandsValue → Type 0
Stand s m = HandlesStand s m.handles

handles_steady : Steady Stand
handles_steady = record {
  refused = λ s t e m x. refused_stands s t e m.handles x;
  goes = λ s t c m x. step_stands s t c m.handles x;
  done = λ s t c theirs m none x. answer_stands s t c theirs m none x;
}

pub opened_stand : (windows : List WindowSpec) (video : ℕ) → HandlesStand (opening windows video) nothing
opened_stand windows video = record {
  first = omega arith;
  most = omega arith;
  below = λ h c. absurd (let l = c.1 in omega (arith, l));
  given = λ kind n v f. absurd (let e : None ≡ Some v = f in cc);
  back = λ h v c f. absurd (let l = c.1 in omega (arith, l));
}

pub handles_stand : (l : LogValue) (delta : ℕ) → Stand (judged l delta).beside.state (judged l delta).beside.kept.stands
unfolding judged
handles_stand l delta = all_keep Stand handles_steady (setting l delta) (begun l) l.items (opened_stand l.windows l.video)

-- so two that are valid, for which one number stands, have one number
pub one_valid : (s : State) (m : Both) (g h : Handle) (theirs : ℤ) → HandlesStand s m → Contains s.handles g → Contains s.handles h → g.kind ≡ h.kind → g.display ≡ h.display → handle_for m (AHandle g.kind) g.number ≡ Some theirs → handle_for m (AHandle h.kind) h.number ≡ Some theirs → g.number ≡ h.number
one_valid s m g h theirs x c d kind display f e =
    let same : handle_of m (AHandle g.kind) g.display theirs ≡ handle_of m (AHandle h.kind) h.display theirs = ap (λ k. handle_of m (AHandle k) g.display theirs) kind ∙ ap (λ n. handle_of m (AHandle h.kind) n theirs) display in
    same_number g.number h.number (same_value (pos g.number) (pos h.number) (sym (x.back g theirs c f) ∙ same ∙ x.back h theirs d e))
