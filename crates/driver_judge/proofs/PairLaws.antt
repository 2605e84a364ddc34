-- Numbers of theirs stand for one of ours each.
use Rattle.std.proofs.Common.{◌≡◌, ℕ, ◌==◌, ◌&&◌, not, ℤ, pos, Bool, true, false, List, [], ◌∷◌, length, refl, sym, ap, ◌∙◌, is_some, is_none, if◌then◌else◌, Option, None, Some, unwrap_or}
use Rattle.std.specs.List.{IsDistinct}
use Rattle.std.specs.Ordering.{int_eq}
use Rattle.display_table.specs.declared.handles.HandleKind.{HandleKind}
use Rattle.display_table.specs.declared.handles.HandleKind.TheVariants.{Context, Surface, Image, Sync}
use Rattle.display_table.specs.Handles.{kind_place}
use Rattle.egl_calls.specs.Arguments.{number}
use Rattle.egl_calls.specs.Calls.{CallValue, ReplyValue}
use Rattle.egl_calls.specs.Ranges.{unsigned}
use Rattle.egl_calls.specs.declared.places.TheConstants.{DISPLAY}
use Rattle.egl_model.specs.State.{State}
use Rattle.log_reader.specs.Logs.{LogValue}
use Rattle.log_reader.specs.declared.answers.Answer.{Answer}
use Rattle.share_group.specs.declared.names.NameKind.{NameKind}
use Rattle.driver_judge.specs.Answers.{NewNamesValue, StandsValue, basis_of, is_first_display, listed_behind, may_be_display, names_given, new_name, new_names, noted_behind, stands_behind, with_display, with_given, with_new_handle, without_freed}
use Rattle.driver_judge.specs.Fences.{step_beside}
use Rattle.driver_judge.specs.Judgements.{begun, judged, setting}
use Rattle.driver_judge.specs.Laws.{IsOneToOne}
use Rattle.driver_judge.specs.Maps.{Both, Key, found, given_as, given_for, handle_of, is_key, may_be_given, name_key, nothing, our_handle, paired, their_handle, with_entry, with_handle, without_entry, without_name, without_names, without_pair}
use Rattle.driver_judge.specs.declared.bases.Basis.{Basis}
use Rattle.driver_judge.specs.declared.sorts.Mapped.{Mapped}
use Rattle.driver_judge.specs.declared.sorts.Mapped.TheVariants.{Display, Handle}
use Rattle.driver_judge.specs.declared.sorts.Sort.{Sort}
use Rattle.driver_judge.specs.declared.sorts.Sort.TheVariants.{NewHandle, SameHandle, NewNames, FreedNames}
use Rattle.driver_judge.proofs.EntryLaws.{IsApart, apart_put, apart_taken, found_put, found_put_other, found_taken, found_taken_other, key_self, same_key}
use Rattle.driver_judge.proofs.HandleLaws.{handles_stand, one_valid}
use Rattle.driver_judge.proofs.WalkLaws.{Steady, all_keep}

-- the key of theirs in the place of ours, in one group, or of no display
abbrev pub theirs_at : Key → ℤ → Key
theirs_at k v = (k.0, k.1, v)

-- what stands for a number of ours, at the places that a test names, stands for that one
record LeadsBack (test : ℕ → Bool) (m : Both) : Type 0 where
  theirs : IsApart m.theirs
  ours : IsApart m.ours
  back : (k : Key) (v : ℤ) → test k.1 ≡ true → found k m.theirs ≡ Some v → found (theirs_at k v) m.ours ≡ Some k.2

no_some : {A : Type 0} (v : A) → None ≡ Some v → ⊥
no_some v e = cc

same_some : (v w : ℤ) → Some v ≡ Some w → v ≡ w
same_some v w e = ap (λ o. unwrap_or o v) e

true_false : true ≡ false → ⊥
true_false e = cc

-- ---- One more pair, of a number of theirs that stands for nothing.
other_pair : (m : Both) (k l : Key) (v w : ℤ) (b : Bool) → is_key (theirs_at k v) l ≡ b → found l m.ours ≡ None → found (theirs_at k v) m.ours ≡ Some k.2 → found (theirs_at k v) (with_entry l w m.ours) ≡ Some k.2
other_pair m k l v w true e none h = absurd (no_some k.2 (sym none ∙ sym (ap (λ x. found x m.ours) (same_key (theirs_at k v) l e)) ∙ h))
other_pair m k l v w false e none h = found_put_other (theirs_at k v) l w m.ours e ∙ h

put_back : (test : ℕ → Bool) (m : Both) (o : Key) (t : ℤ) (k : Key) (v : ℤ) (b : Bool) → is_key k o ≡ b → LeadsBack test m → found (theirs_at o t) m.ours ≡ None → test k.1 ≡ true → found k (with_entry o t m.theirs) ≡ Some v → found (theirs_at k v) (with_entry (theirs_at o t) o.2 m.ours) ≡ Some k.2
put_back test m o t k v true e h none is f =
    let same : k ≡ o = same_key k o e in
    let value : t ≡ v = same_some t v (sym (found_put o t m.theirs) ∙ sym (ap (λ x. found x (with_entry o t m.theirs)) same) ∙ f) in
    ap (λ x. found x (with_entry (theirs_at o t) o.2 m.ours)) (λ i. ((same i).0, (same i).1, sym value i)) ∙ found_put (theirs_at o t) o.2 m.ours ∙ ap (λ x. Some x.2) (sym same)
put_back test m o t k v false e h none is f =
    other_pair m k (theirs_at o t) v o.2 (is_key (theirs_at k v) (theirs_at o t)) refl none (h.back k v is (sym (found_put_other k o t m.theirs e) ∙ f))

pair_leads : (test : ℕ → Bool) (m : Both) (o : Key) (t : ℤ) → LeadsBack test m → found (theirs_at o t) m.ours ≡ None → LeadsBack test (paired o (theirs_at o t) m)
pair_leads test m o t h none = record {
  theirs = apart_put o t m.theirs h.theirs;
  ours = apart_put (theirs_at o t) o.2 m.ours h.ours;
  back = λ k v is f. put_back test m o t k v (is_key k o) refl h none is f;
}

-- ---- One more pair at another place.
place_apart : (test : ℕ → Bool) (k l : Key) (b : Bool) → is_key k l ≡ b → test k.1 ≡ true → test l.1 ≡ false → b ≡ false
place_apart test k l true e is off = absurd (true_false (sym is ∙ ap (λ (x : Key). test x.1) (same_key k l e) ∙ off))
place_apart test k l false e is off = refl

elsewhere_leads : (test : ℕ → Bool) (m : Both) (o t : Key) → LeadsBack test m → test o.1 ≡ false → test t.1 ≡ false → LeadsBack test (paired o t m)
elsewhere_leads test m o t h off also = record {
  theirs = apart_put o t.2 m.theirs h.theirs;
  ours = apart_put t o.2 m.ours h.ours;
  back = λ k v is f.
      let apart : is_key k o ≡ false = place_apart test k o (is_key k o) refl is off in
      let beside : is_key (theirs_at k v) t ≡ false = place_apart test (theirs_at k v) t (is_key (theirs_at k v) t) refl is also in
      found_put_other (theirs_at k v) t o.2 m.ours beside ∙ h.back k v is (sym (found_put_other k o t.2 m.theirs apart) ∙ f);
}

-- ---- One pair less.
taken_other : (test : ℕ → Bool) (m : Both) (o : Key) (t : ℤ) (k : Key) (v : ℤ) (b : Bool) → is_key (theirs_at k v) (theirs_at o t) ≡ b → is_key k o ≡ false → LeadsBack test m → test o.1 ≡ true → found o m.theirs ≡ Some t → found (theirs_at k v) m.ours ≡ Some k.2 → found (theirs_at k v) (without_entry (theirs_at o t) m.ours) ≡ Some k.2
taken_other test m o t k v true e n h is f g =
    let same : theirs_at k v ≡ theirs_at o t = same_key (theirs_at k v) (theirs_at o t) e in
    let name : k.2 ≡ o.2 = same_some k.2 o.2 (sym g ∙ ap (λ x. found x m.ours) same ∙ h.back o t is f) in
    let key : k ≡ o = λ i. ((same i).0, (same i).1, name i) in
    absurd (true_false (sym (key_self k) ∙ ap (is_key k) key ∙ n))
taken_other test m o t k v false e n h is f g = found_taken_other (theirs_at k v) (theirs_at o t) m.ours h.ours e ∙ g

taken_back : (test : ℕ → Bool) (m : Both) (o : Key) (t : ℤ) (k : Key) (v : ℤ) (b : Bool) → is_key k o ≡ b → LeadsBack test m → test o.1 ≡ true → found o m.theirs ≡ Some t → test k.1 ≡ true → found k (without_entry o m.theirs) ≡ Some v → found (theirs_at k v) (without_entry (theirs_at o t) m.ours) ≡ Some k.2
taken_back test m o t k v true e h at f is g = absurd (no_some v (sym (ap (λ x. found x (without_entry o m.theirs)) (same_key k o e) ∙ found_taken o m.theirs h.theirs) ∙ g))
taken_back test m o t k v false e h at f is g =
    taken_other test m o t k v (is_key (theirs_at k v) (theirs_at o t)) refl e h at f (h.back k v is (sym (found_taken_other k o m.theirs h.theirs e) ∙ g))

taken_leads : (test : ℕ → Bool) (m : Both) (o : Key) (t : ℤ) → LeadsBack test m → test o.1 ≡ true → found o m.theirs ≡ Some t → LeadsBack test (record { theirs = without_entry o m.theirs; ours = without_entry (theirs_at o t) m.ours })
taken_leads test m o t h at f = record {
  theirs = apart_taken o m.theirs h.theirs;
  ours = apart_taken (theirs_at o t) m.ours h.ours;
  back = λ k v is g. taken_back test m o t k v (is_key k o) refl h at f is g;
}

nothing_leads : (test : ℕ → Bool) → LeadsBack test nothing
unfolding IsDistinct
nothing_leads test = record { theirs = tt; ours = tt; back = λ k v is f. absurd (no_some v f) }

-- ---- What stands for what. Each name leads back, and each display.
abbrev any_place : ℕ → Bool
any_place p = true

abbrev of_display : ℕ → Bool
of_display p = p == 4

record StandsBack (m : StandsValue) : Type 0 where
  names : LeadsBack any_place m.names
  handles : LeadsBack of_display m.handles

free_name : (z : Bool) (o : Option ℤ) → (not z && not (is_some o)) ≡ true → o ≡ None
free_name true o h = cc
free_name false None h = refl
free_name false (Some v) h = cc

given_back : (group : ℕ) (kind : NameKind) (z w : ℤ) (m : StandsValue) → StandsBack m → may_be_given m.names group kind w ≡ true → StandsBack (with_given group kind z w m)
given_back group kind z w m h free = record {
  names = pair_leads any_place m.names (name_key group kind z) w h.names (free_name (int_eq w (pos 0)) (given_as m.names group kind w) free);
  handles = h.handles;
}

new_name_by : (group : ℕ) (kind : NameKind) (z w : ℤ) (n : NewNamesValue) (b : Bool) → may_be_given n.stands.names group kind w ≡ b → StandsBack n.stands → StandsBack (if b then record n { stands = with_given group kind z w n.stands } else record n { agree = false }).stands
new_name_by group kind z w n true e h = given_back group kind z w n.stands h e
new_name_by group kind z w n false e h = h

new_names_back : (group : ℕ) (kind : NameKind) (zs ws : List ℤ) (n : NewNamesValue) → StandsBack n.stands → StandsBack (new_names group kind zs ws n).stands
unfolding new_names
new_names_back group kind [] ws n h = h
new_names_back group kind (z ∷ zs) [] n h = h
new_names_back group kind (z ∷ zs) (w ∷ ws) n h = new_names_back group kind zs ws (new_name group kind z w n) (new_name_by group kind z w n (may_be_given n.stands.names group kind w) refl h)

as_many_back : (b : Bool) (m : StandsValue) (n : NewNamesValue) → StandsBack m → StandsBack n.stands → StandsBack (if b then n else record { agree = false; stands = m }).stands
as_many_back true m n h g = g
as_many_back false m n h g = h

names_given_back : (m : StandsValue) (group : Option ℕ) (kind : NameKind) (ours theirs : List ℤ) → StandsBack m → StandsBack (names_given m group kind ours theirs).stands
names_given_back m None kind ours theirs h = h
names_given_back m (Some group) kind ours theirs h = as_many_back (length ours == length theirs) m (new_names group kind ours theirs (record { agree = true; stands = m })) h (new_names_back group kind ours theirs (record { agree = true; stands = m }) h)

listed_back : (m : StandsValue) (a : Basis) (sort : Sort) (ours theirs : List ℤ) → StandsBack m → StandsBack (listed_behind m a sort ours theirs)
listed_back m a (NewNames kind) ours theirs h = names_given_back m a.group kind ours theirs h
listed_back m a sort ours theirs h = h

-- names that are freed
pair_freed : (group : ℕ) (kind : NameKind) (z : ℤ) (o : Option ℤ) (m : Both) → given_for m group kind z ≡ o → LeadsBack any_place m → LeadsBack any_place (without_pair group kind z o m)
pair_freed group kind z None m e h = h
pair_freed group kind z (Some w) m e h = taken_leads any_place m (name_key group kind z) w h refl e

names_freed : (group : ℕ) (kind : NameKind) (zs : List ℤ) (m : Both) → LeadsBack any_place m → LeadsBack any_place (without_names group kind zs m)
unfolding without_names
names_freed group kind [] m h = h
names_freed group kind (z ∷ zs) m h = names_freed group kind zs (without_name group kind z m) (pair_freed group kind z (given_for m group kind z) m refl h)

freed_back : (group : Option ℕ) (kind : NameKind) (zs : List ℤ) (m : StandsValue) → StandsBack m → StandsBack (without_freed group kind zs m)
freed_back None kind zs m h = h
freed_back (Some group) kind zs m h = record { names = names_freed group kind zs m.names h.names; handles = h.handles }

-- handles and displays
no_display : (kind : HandleKind) → of_display (kind_place kind) ≡ false
no_display Context = refl
no_display Surface = refl
no_display Image = refl
no_display Sync = refl

handle_back : (free : Bool) (kind : HandleKind) (c : CallValue) (ours theirs : ℤ) (m : StandsValue) → StandsBack m → StandsBack (with_new_handle free kind c ours theirs m)
handle_back true kind c ours theirs m h = record {
  names = h.names;
  handles = elsewhere_leads of_display m.handles (our_handle (Handle kind) (unsigned ours)) (their_handle (Handle kind) (number c DISPLAY) theirs) h.handles (no_display kind) (no_display kind);
}
handle_back false kind c ours theirs m h = h

free_display : (a z : Bool) (o : Option ℤ) → (a && (not z && is_none o)) ≡ true → o ≡ None
free_display true true o h = cc
free_display true false None h = refl
free_display true false (Some v) h = cc
free_display false z o h = cc

display_by : (ours theirs : ℤ) (m : StandsValue) (b : Bool) → (is_first_display m.handles Display ours && may_be_display m.handles Display theirs) ≡ b → StandsBack m → StandsBack (if b then record m { handles = with_handle Display 0 (unsigned ours) theirs m.handles } else m)
display_by ours theirs m true e h = record {
  names = h.names;
  handles = pair_leads of_display m.handles (our_handle Display (unsigned ours)) theirs h.handles (free_display (is_first_display m.handles Display ours) (int_eq theirs (pos 0)) (handle_of m.handles Display 0 theirs) e);
}
display_by ours theirs m false e h = h

display_back : (kind : Mapped) (ours theirs : ℤ) (m : StandsValue) → StandsBack m → StandsBack (with_display kind ours theirs m)
display_back Display ours theirs m h = display_by ours theirs m (is_first_display m.handles Display ours && may_be_display m.handles Display theirs) refl h
display_back (Handle kind) ours theirs m h = h

noted_back : (a : Basis) (c : CallValue) (sort : Sort) (ours theirs : ℤ) (m : StandsValue) → StandsBack m → StandsBack (noted_behind a c sort ours theirs m)
noted_back a c (NewHandle kind) ours theirs m h = handle_back a.free kind c ours theirs m h
noted_back a c (SameHandle kind) ours theirs m h = display_back kind ours theirs m h
noted_back a c (FreedNames kind) ours theirs m h = freed_back a.group kind c.list m h
noted_back a c sort ours theirs m h = h

answer_back : (m : StandsValue) (a : Basis) (c : CallValue) (ours : ReplyValue) (theirs : Answer) → StandsBack m → StandsBack (stands_behind m a c ours theirs)
unfolding stands_behind
answer_back m a c ours theirs h = noted_back a c a.sort ours.value theirs.value (listed_behind m a a.sort ours.list theirs.list) (listed_back m a a.sort ours.list theirs.list h)

-- ---- All lines.
abbrev Back : State → StandsValue → Type 0
Back s m = StandsBack m

pairs_steady : Steady Back
pairs_steady = record {
  refused = λ s t e m h. h;
  goes = λ s t c m h. h;
  done = λ s t c theirs m none h. answer_back m (basis_of s m.handles t c theirs.value) c (step_beside s t c theirs).reply theirs h;
}

-- numbers of ours for which one number stands are one
apart_by_back : (test : ℕ → Bool) (m : Both) (k l : Key) (v : ℤ) → LeadsBack test m → theirs_at k v ≡ theirs_at l v → test k.1 ≡ true → test l.1 ≡ true → found k m.theirs ≡ Some v → found l m.theirs ≡ Some v → k.2 ≡ l.2
apart_by_back test m k l v h same at also f g = same_some k.2 l.2 (sym (h.back k v at f) ∙ ap (λ x. found x m.ours) same ∙ h.back l v also g)

pos_same : (a b : ℕ) → pos a ≡ pos b → a ≡ b
pos_same a b e = ap unsigned e

pub one_to_one : (l : LogValue) (delta : ℕ) → IsOneToOne (judged l delta).beside.state (judged l delta).beside.kept.stands
unfolding judged
one_to_one l delta =
    let all = all_keep Back pairs_steady (setting l delta) (begun l) l.items (record { names = nothing_leads any_place; handles = nothing_leads of_display }) in
    record {
      names = λ group kind a b theirs f g. apart_by_back any_place _ (name_key group kind a) (name_key group kind b) theirs all.names refl refl refl f g;
      displays = λ a b theirs f g. pos_same a b (apart_by_back of_display _ (our_handle Display a) (our_handle Display b) theirs all.handles refl refl refl f g);
      handles = λ g h theirs c d kind display e f. one_valid _ _ g h theirs (handles_stand l delta) c d kind display e f;
    }
