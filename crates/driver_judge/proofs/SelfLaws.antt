-- Behind lines that answer as ours no line is at fault, and each name stands for itself.
use Rattle.std.proofs.Common.{◌≡◌, ℕ, ◌==◌, ◌&&◌, ◌||◌, not, ℤ, pos, Bool, true, false, List, [], ◌∷◌, ◌++◌, length, refl, sym, ap, subst, ◌∙◌, zero, suc, set, get_or, replicate, if◌then◌else◌, unwrap_or, Option, None, Some}
use Rattle.std.proofs.lemmas.Bool.{and_right, or_from}
use Rattle.std.specs.List.{IsDistinct, list_any}
use Rattle.std.specs.Option.{option_or}
use Rattle.std.proofs.lemmas.Bool.Decides.{Decides-int_eq}
use Rattle.std.specs.Ordering.{int_eq}
use Rattle.egl_calls.specs.Arguments.{number}
use Rattle.egl_calls.specs.Calls.{CallValue, ReplyValue}
use Rattle.egl_calls.specs.Ranges.{unsigned}
use Rattle.egl_calls.specs.declared.places.TheConstants.{DISPLAY}
use Rattle.log_reader.specs.Logs.{LogValue}
use Rattle.log_reader.specs.declared.answers.Answer.{Answer}
use Rattle.share_group.specs.declared.names.NameKind.{NameKind}
use Rattle.trace_reader.specs.declared.traces.Line.{Line}
use Rattle.trace_reader.specs.declared.traces.Reference.{Reference}
use Rattle.egl_model.specs.Images.{source_kind}
use Rattle.driver_judge.specs.Answers.{NewNamesValue, StandsValue, is_first_display, listed_behind, may_be_display, names_given, new_name, new_names, noted_behind, stands_behind, with_display, with_given, with_renamed, without_freed}
use Rattle.driver_judge.specs.Judgements.{opened}
use Rattle.driver_judge.specs.Configs.{ConfigsValue}
use Rattle.driver_judge.specs.Calls.{goes_by_current, sets_current}
use Rattle.driver_judge.specs.Judging.{KeptValue, adrift_at, assigned, fault_of, formats_behind, kept_behind, nothing_kept, refused_behind, set_adrift, variable_behind, with_variable}
use Rattle.driver_judge.specs.Maps.{Both, Entries, Key, found, given_as, given_for, is_key, may_be_given, name_key, with_entry, with_handle, without_entry, without_name, without_names, without_pair}
use Rattle.driver_judge.specs.UsedNames.{image_name, is_ever_renamed, is_other, is_renamed_in, name_places, uses_renamed, uses_renamed_by}
use Rattle.driver_judge.specs.Variables.{VariableValue, kept, lost_in, variable_at}
use Rattle.driver_judge.specs.declared.bases.Basis.{Basis}
use Rattle.driver_judge.specs.declared.sorts.Mapped.{Mapped}
use Rattle.driver_judge.specs.declared.sorts.Mapped.TheVariants.{Handle as AHandle}
use Rattle.driver_judge.specs.declared.sorts.Sort.{Sort}
use Rattle.driver_judge.specs.declared.sorts.Sort.TheVariants.{NewHandle, SameHandle, NewNames, FreedNames}
use Rattle.driver_judge.specs.declared.used_names.NamePlaces.{NamePlaces}
use Rattle.driver_judge.specs.declared.used_names.NamePlaces.TheVariants.{AtPlace, InList, OfImage}
use Rattle.driver_judge.proofs.EntryLaws.{IsApart, apart_put, apart_taken, found_put, found_put_other, found_taken, found_taken_other, same_key}

-- ---- Entries in which each number stands for itself.
pub record AreSelf (es : Entries) : Type 0 where
  pub apart : IsApart es
  pub self : (k : Key) (v : ℤ) → found k es ≡ Some v → v ≡ k.2

same_some : (v w : ℤ) → Some v ≡ Some w → v ≡ w
same_some v w e = ap (λ o. unwrap_or o v) e

put_by : (k l : Key) (v : ℤ) (es : Entries) (b : Bool) → is_key k l ≡ b → AreSelf es → found k (with_entry l l.2 es) ≡ Some v → v ≡ k.2
put_by k l v es true e h f =
    let same : k ≡ l = same_key k l e in
    same_some v l.2 (sym f ∙ ap (λ x. found x (with_entry l l.2 es)) same ∙ found_put l l.2 es) ∙ ap (λ (x : Key). x.2) (sym same)
put_by k l v es false e h f = h.self k v (sym (found_put_other k l l.2 es e) ∙ f)

put_self : (l : Key) (es : Entries) → AreSelf es → AreSelf (with_entry l l.2 es)
put_self l es h = record { apart = apart_put l l.2 es h.apart; self = λ k v f. put_by k l v es (is_key k l) refl h f }

taken_by : (k l : Key) (v : ℤ) (es : Entries) (b : Bool) → is_key k l ≡ b → AreSelf es → found k (without_entry l es) ≡ Some v → v ≡ k.2
taken_by k l v es true e h f = absurd (let n : None ≡ Some v = sym (ap (λ x. found x (without_entry l es)) (same_key k l e) ∙ found_taken l es h.apart) ∙ f in cc)
taken_by k l v es false e h f = h.self k v (sym (found_taken_other k l es h.apart e) ∙ f)

taken_self : (l : Key) (es : Entries) → AreSelf es → AreSelf (without_entry l es)
taken_self l es h = record { apart = apart_taken l es h.apart; self = λ k v f. taken_by k l v es (is_key k l) refl h f }

none_self : AreSelf []
unfolding IsDistinct
none_self = record { apart = tt; self = λ k v f. absurd (let n : None ≡ Some v = f in cc) }

-- ---- Names.
pub record NamesSelf (m : StandsValue) : Type 0 where
  pub theirs : AreSelf m.names.theirs
  pub ours : AreSelf m.names.ours
  pub renamed : m.renamed ≡ []

not_renamed : (kind : NameKind) (z : ℤ) (r : Entries) → with_renamed kind z z r ≡ r
not_renamed kind z r = ap (λ (b : Bool). if b then r else with_entry (name_key 0 kind z) (pos 1) (with_entry (name_key 0 kind z) (pos 1) r)) ((Decides-int_eq z z).1 refl)

given_self : (group : ℕ) (kind : NameKind) (z : ℤ) (m : StandsValue) → NamesSelf m → NamesSelf (with_given group kind z z m)
given_self group kind z m h = record {
  theirs = put_self (name_key group kind z) m.names.theirs h.theirs;
  ours = put_self (name_key group kind z) m.names.ours h.ours;
  renamed = not_renamed kind z m.renamed ∙ h.renamed;
}

given_if : (group : ℕ) (kind : NameKind) (z : ℤ) (n : NewNamesValue) (b : Bool) → NamesSelf n.stands → NamesSelf (if b then record n { stands = with_given group kind z z n.stands } else record n { agree = false }).stands
given_if group kind z n true h = given_self group kind z n.stands h
given_if group kind z n false h = h

new_self : (group : ℕ) (kind : NameKind) (zs : List ℤ) (n : NewNamesValue) → NamesSelf n.stands → NamesSelf (new_names group kind zs zs n).stands
unfolding new_names
new_self group kind [] n h = h
new_self group kind (z ∷ zs) n h = new_self group kind zs (new_name group kind z z n) (given_if group kind z n (may_be_given n.stands.names group kind z) h)

as_many_self : (b : Bool) (m : StandsValue) (n : NewNamesValue) → NamesSelf m → NamesSelf n.stands → NamesSelf (if b then n else record { agree = false; stands = m }).stands
as_many_self true m n h g = g
as_many_self false m n h g = h

names_given_self : (m : StandsValue) (group : Option ℕ) (kind : NameKind) (zs : List ℤ) → NamesSelf m → NamesSelf (names_given m group kind zs zs).stands
names_given_self m None kind zs h = h
names_given_self m (Some group) kind zs h = as_many_self (length zs == length zs) m _ h (new_self group kind zs (record { agree = true; stands = m }) h)

listed_self : (m : StandsValue) (a : Basis) (sort : Sort) (zs : List ℤ) → NamesSelf m → NamesSelf (listed_behind m a sort zs zs)
listed_self m a (NewNames kind) zs h = names_given_self m a.group kind zs h
listed_self m a sort zs h = h

-- what was given for a name that is freed is the name itself
pair_freed : (group : ℕ) (kind : NameKind) (z : ℤ) (o : Option ℤ) (m : Both) → AreSelf m.theirs → AreSelf m.ours → AreSelf (without_pair group kind z o m).theirs × AreSelf (without_pair group kind z o m).ours
pair_freed group kind z None m h g = (h, g)
pair_freed group kind z (Some w) m h g = (taken_self (name_key group kind z) m.theirs h, taken_self (name_key group kind w) m.ours g)

names_freed : (group : ℕ) (kind : NameKind) (zs : List ℤ) (m : Both) → AreSelf m.theirs → AreSelf m.ours → AreSelf (without_names group kind zs m).theirs × AreSelf (without_names group kind zs m).ours
unfolding without_names
names_freed group kind [] m h g = (h, g)
names_freed group kind (z ∷ zs) m h g = let one = pair_freed group kind z (given_for m group kind z) m h g in names_freed group kind zs (without_name group kind z m) one.0 one.1

freed_self : (group : Option ℕ) (kind : NameKind) (zs : List ℤ) (m : StandsValue) → NamesSelf m → NamesSelf (without_freed group kind zs m)
freed_self None kind zs m h = h
freed_self (Some group) kind zs m h = let both = names_freed group kind zs m.names h.theirs h.ours in record { theirs = both.0; ours = both.1; renamed = h.renamed }

if_self : (b : Bool) (hs : Both) (m : StandsValue) → NamesSelf m → NamesSelf (if b then record m { handles = hs } else m)
if_self true hs m h = record { theirs = h.theirs; ours = h.ours; renamed = h.renamed }
if_self false hs m h = h

display_self : (kind : Mapped) (ours theirs : ℤ) (m : StandsValue) → NamesSelf m → NamesSelf (with_display kind ours theirs m)
display_self kind ours theirs m h = if_self (is_first_display m.handles kind ours && may_be_display m.handles kind theirs) (with_handle kind 0 (unsigned ours) theirs m.handles) m h

noted_self : (a : Basis) (c : CallValue) (sort : Sort) (ours theirs : ℤ) (m : StandsValue) → NamesSelf m → NamesSelf (noted_behind a c sort ours theirs m)
noted_self a c (NewHandle kind) ours theirs m h = if_self a.free (with_handle (AHandle kind) (number c DISPLAY) (unsigned ours) theirs m.handles) m h
noted_self a c (SameHandle kind) ours theirs m h = display_self kind ours theirs m h
noted_self a c (FreedNames kind) ours theirs m h = freed_self a.group kind c.list m h
noted_self a c sort ours theirs m h = h

pub answer_self : (m : StandsValue) (a : Basis) (c : CallValue) (r : ReplyValue) (theirs : Answer) → theirs.list ≡ r.list → NamesSelf m → NamesSelf (stands_behind m a c r theirs)
unfolding stands_behind
answer_self m a c r theirs e h = noted_self a c a.sort r.value theirs.value (listed_behind m a a.sort r.list theirs.list) (subst (λ zs. NamesSelf (listed_behind m a a.sort r.list zs)) (sym e) (listed_self m a a.sort r.list h))

-- ---- No name that a line uses is another's.
not_other : (o : Option ℤ) (z : ℤ) → ((v : ℤ) → o ≡ Some v → v ≡ z) → is_other o z ≡ false
not_other None z h = refl
not_other (Some w) z h = ap not ((Decides-int_eq w z).1 (h w refl))

not_renamed_in : (m : StandsValue) (group : Option ℕ) (kind : NameKind) (z : ℤ) → NamesSelf m → is_renamed_in m.names group kind z ≡ false
not_renamed_in m None kind z h = refl
not_renamed_in m (Some group) kind z h =
    let first = not_other (given_for m.names group kind z) z (λ v f. h.theirs.self (name_key group kind z) v f) in
    let second = not_other (given_as m.names group kind z) z (λ v f. h.ours.self (name_key group kind z) v f) in
    and_right (not (int_eq z (pos 0))) (is_other (given_for m.names group kind z) z || is_other (given_as m.names group kind z) z) (or_from (is_other (given_for m.names group kind z) z) (is_other (given_as m.names group kind z) z) first second)

none_renamed_in : (m : StandsValue) (group : Option ℕ) (kind : NameKind) (zs : List ℤ) → NamesSelf m → list_any (is_renamed_in m.names group kind) zs ≡ false
none_renamed_in m group kind [] h = refl
none_renamed_in m group kind (z ∷ zs) h = ap (λ b. b || list_any (is_renamed_in m.names group kind) zs) (not_renamed_in m group kind z h) ∙ none_renamed_in m group kind zs h

not_used_by : (m : StandsValue) (group : Option ℕ) (c : CallValue) (o : Option NamePlaces) → NamesSelf m → uses_renamed_by m.renamed m.names group c o ≡ false
not_used_by m group c None h = refl
not_used_by m group c (Some (AtPlace kind place)) h = not_renamed_in m group kind _ h
not_used_by m group c (Some (InList kind)) h = none_renamed_in m group kind c.list h
not_used_by m group c (Some OfImage) h = ap (λ r. is_ever_renamed r (source_kind c) (image_name c)) h.renamed

not_used : (m : StandsValue) (group : Option ℕ) (l : Line) → NamesSelf m → uses_renamed m.renamed m.names group l ≡ false
unfolding uses_renamed
not_used m group l h = not_used_by m group l.call (name_places l.call.kind) h

-- ---- No line is at fault.
pub record IsFaultless (k : KeptValue) : Type 0 where
  pub variables : (v : ℕ) → (variable_at k.variables v).lost ≡ None
  pub adrift : (t : ℕ) → adrift_at k t ≡ None
  pub names : NamesSelf k.stands

none_lost : (vs : List VariableValue) (rs : List Reference) → ((v : ℕ) → (variable_at vs v).lost ≡ None) → lost_in vs rs ≡ None
none_lost vs [] h = refl
none_lost vs (r ∷ rs) h = ap (λ o. option_or o (lost_in vs rs)) (h r.variable) ∙ none_lost vs rs h

none_if : (b : Bool) (o : Option ℕ) → o ≡ None → (if b then o else None) ≡ None
none_if true o h = h
none_if false o h = refl

pub faultless : (k : KeptValue) (l : Line) → IsFaultless k → fault_of k l ≡ None
unfolding fault_of
faultless k l h =
    ap (λ o. option_or o (if goes_by_current l.call.kind then adrift_at k l.thread else None)) (none_lost k.variables l.uses h.variables)
    ∙ none_if (goes_by_current l.call.kind) (adrift_at k l.thread) (h.adrift l.thread)

pub names_ours : (k : KeptValue) (group : Option ℕ) (l : Line) → IsFaultless k → uses_renamed k.stands.renamed k.stands.names group l ≡ false
names_ours k group l h = not_used k.stands group l h.names

-- one variable more
more_kept : (vs : List VariableValue) (v : VariableValue) (n : ℕ) → v.lost ≡ None → ((u : ℕ) → (variable_at vs u).lost ≡ None) → (variable_at (vs ++ v ∷ []) n).lost ≡ None
more_kept [] v zero e h = e
more_kept [] v (suc n) e h = refl
more_kept (x ∷ vs) v zero e h = h zero
more_kept (x ∷ vs) v (suc n) e h = more_kept vs v n e (λ u. h (suc u))

assigned_kept : (o : Option ℕ) (vs : List VariableValue) (v : VariableValue) (n : ℕ) → v.lost ≡ None → ((u : ℕ) → (variable_at vs u).lost ≡ None) → (variable_at (assigned o v vs) n).lost ≡ None
assigned_kept None vs v n e h = h n
assigned_kept (Some w) vs v n e h = more_kept vs v n e h

still_none : (xs : List (Option ℕ)) (t u : ℕ) → ((n : ℕ) → get_or xs n None ≡ None) → get_or (set xs t None) u None ≡ None
still_none [] t zero h = refl
still_none [] t (suc u) h = refl
still_none (x ∷ xs) zero zero h = refl
still_none (x ∷ xs) zero (suc u) h = h (suc u)
still_none (x ∷ xs) (suc t) zero h = h zero
still_none (x ∷ xs) (suc t) (suc u) h = still_none xs t u (λ n. h (suc n))

if_none : (b : Bool) (t u : ℕ) (k : KeptValue) → ((n : ℕ) → adrift_at k n ≡ None) → adrift_at (if b then set_adrift t None k else k) u ≡ None
if_none true t u k h = still_none k.adrift t u h
if_none false t u k h = h u

if_variables : (b : Bool) (t n : ℕ) (k : KeptValue) → ((u : ℕ) → (variable_at k.variables u).lost ≡ None) → (variable_at (if b then set_adrift t None k else k).variables n).lost ≡ None
if_variables true t n k h = h n
if_variables false t n k h = h n

if_names : (b : Bool) (t : ℕ) (k : KeptValue) → NamesSelf k.stands → NamesSelf (if b then set_adrift t None k else k).stands
if_names true t k h = h
if_names false t k h = h

pub refused_faultless : (k : KeptValue) (l : Line) → IsFaultless k → IsFaultless (refused_behind l k)
refused_faultless k l h = record { variables = λ n. assigned_kept l.assigns k.variables nothing_kept n refl h.variables; adrift = h.adrift; names = h.names }

pub carried_faultless : (configs : ConfigsValue) (k : KeptValue) (l : Line) (c : CallValue) (a : Basis) (r : ReplyValue) (theirs : Answer) → theirs.list ≡ r.list → IsFaultless k → IsFaultless (kept_behind configs l c a r theirs None k)
carried_faultless configs k l c a r theirs e h =
    let before : KeptValue = record k { stands = stands_behind k.stands a c r theirs } in
    let after : KeptValue = record (with_variable l (variable_behind configs l a.sort r theirs false) before) { formats = formats_behind c k.formats } in
    record {
      variables = λ n. if_variables (sets_current l.call.kind) l.thread n after (λ u. assigned_kept l.assigns k.variables (variable_behind configs l a.sort r theirs false) u refl h.variables);
      adrift = λ t. if_none (sets_current l.call.kind) l.thread t after h.adrift;
      names = if_names (sets_current l.call.kind) l.thread after (answer_self k.stands a c r theirs e h.names);
    }

none_past : {A : Type 0} (n t : ℕ) (d : A) → get_or (replicate n d) t d ≡ d
none_past zero t d = refl
none_past (suc n) zero d = refl
none_past (suc n) (suc t) d = none_past n t d

no_variable : (v : ℕ) → (variable_at [] v).lost ≡ None
no_variable zero = refl
no_variable (suc v) = refl

pub opened_faultless : (l : LogValue) → IsFaultless (opened l).kept
opened_faultless l = record { variables = no_variable; adrift = λ t. none_past l.threads t None; names = record { theirs = none_self; ours = none_self; renamed = refl } }
