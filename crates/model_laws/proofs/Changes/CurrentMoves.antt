-- A thread's record changed: what is bound stays bound to one thread, and each thread has both surfaces or none.
use Rattle.std.proofs.Common.{◌≡◌, ◌≢◌, ℕ, ◌+◌, ◌<◌, ◌≤◌, Bool, true, ◌||◌, List, refl, sym, ap, ◌∙◌, arith, inl, inr, get_or, set, length, Option, is_some}
use Rattle.std.specs.Prelude.{All}
use Rattle.std.proofs.lemmas.Bool.{both_ways, cases_eq, cases_lt, or_cases}
use Rattle.std.proofs.lemmas.List.{get_or-set_other, get_or-set_same, set_past}
use Rattle.std.proofs.lemmas.List.Elements.{All-filter, All-get_or, All-push, All-weaker}
use Rattle.std.proofs.lemmas.List.Kept.{AllPairs-filter}
use Rattle.std.proofs.lemmas.List.Quantifiers.{all_pairs_push}
use Rattle.std.proofs.lemmas.Option.{IfSome_then}
use Rattle.display_table.specs.declared.handles.Handle.{Handle}
use Rattle.display_table.specs.declared.handles.HandleKind.{HandleKind}
use Rattle.egl_model.specs.declared.records.Bound.{Bound}
use Rattle.egl_model.specs.declared.records.ThreadRecord.{ThreadRecord}
use Rattle.egl_model.specs.State.{State, initial, record_of, set_record}
use Rattle.egl_model.specs.Currents.{has_context, has_surface, is_bound}
use Rattle.egl_model.specs.MakeCurrent.{bind}
use Rattle.model_laws.specs.Shapes.{Leads, Shape}
use Rattle.model_laws.specs.Slots.{held_slots}
use Rattle.model_laws.specs.Sound.{HasBothOrNone, IsAlone, IsGiven, IsBoundGiven, NumbersAreGiven}
use Rattle.model_laws.proofs.Changes.Moves.{Binds, NoneElse, apply, Name, Keep}
use Rattle.model_laws.proofs.References.Places.{each_at_set, same_at_set}

-- ---- At most one record passes a test.
AtMostOne : (ThreadRecord → Bool) → List ThreadRecord → Type 0
AtMostOne p ts = (t u : ℕ) → p (get_or ts t initial) ≡ true → p (get_or ts u initial) ≡ true → t ≡ u

apart : {A : Type 0} (p : ThreadRecord → Bool) (ts : List ThreadRecord) (t u : ℕ) (r : ThreadRecord) → (p r ≡ true → NoneElse p ts t) → t < length ts → u ≢ t →
    p (get_or (set ts t r) t initial) ≡ true → p (get_or (set ts t r) u initial) ≡ true → A
apart p ts t u r free l ne h k = absurd (both_ways (p (get_or ts u initial))
    (free (ap p (sym (get_or-set_same ts t r initial l)) ∙ h) u ne)
    (ap p (sym (get_or-set_other ts t u r initial ne)) ∙ k))

-- where a record is written, and what passes there passes nowhere else, still at most one passes
one_still : (p : ThreadRecord → Bool) (ts : List ThreadRecord) (t : ℕ) (r : ThreadRecord) → AtMostOne p ts → (p r ≡ true → NoneElse p ts t) → AtMostOne p (set ts t r)
unfolding AtMostOne
one_still p ts t r old free u v h k = elim (cases_lt t (length ts)) [
  | inr past ↦ let e = sym (set_past ts t r past) in old u v (ap (λ (rs : List ThreadRecord). p (get_or rs u initial)) e ∙ h) (ap (λ (rs : List ThreadRecord). p (get_or rs v initial)) e ∙ k)
  | inl l ↦ elim (cases_eq u t) [
    | inl e ↦ elim (cases_eq v t) [
      | inl f ↦ e ∙ sym f
      | inr f ↦ apart p ts t v r free l f (ap (λ w. p (get_or (set ts t r) w initial)) (sym e) ∙ h) k
    ]
    | inr e ↦ elim (cases_eq v t) [
      | inl f ↦ apart p ts t u r free l e (ap (λ w. p (get_or (set ts t r) w initial)) (sym f) ∙ k) h
      | inr f ↦ old u v (ap p (sym (get_or-set_other ts t u r initial e)) ∙ h) (ap p (sym (get_or-set_other ts t v r initial f)) ∙ k)
    ]
  ]
]

-- ---- Bound anew.
bound_record : State → ℕ → Option Bound → Option Bound → Option Bound → ThreadRecord
bound_record s t c d r = record (record_of s t) { context = c; draw = d; read = r }

surface_free : (t : ℕ) (sh : List (Option Shape)) (s : State) (c d r : Option Bound) → Binds t sh s c d r → (n : ℕ) → (is_bound n d || is_bound n r) ≡ true → NoneElse (has_surface n) s.threads t
surface_free t sh s c d r b n h = elim (or_cases (is_bound n d) (is_bound n r) h) [
  | inl e ↦ b.draws n e
  | inr e ↦ b.reads n e
]

pub alone-bind : (t : ℕ) (sh : List (Option Shape)) (s : State) (c d r : Option Bound) → Binds t sh s c d r → IsAlone s → IsAlone (bind s t c d r)
unfolding AtMostOne bound_record
alone-bind t sh s c d r b a = record {
  contexts = λ u v n. one_still (has_context n) s.threads t (bound_record s t c d r) (λ u v. a.contexts u v n) (b.contexts n) u v;
  surfaces = λ u v n. one_still (has_surface n) s.threads t (bound_record s t c d r) (λ u v. a.surfaces u v n) (surface_free t sh s c d r b n) u v;
}

pub both-bind : (t : ℕ) (sh : List (Option Shape)) (s : State) (c d r : Option Bound) → Binds t sh s c d r → HasBothOrNone s → HasBothOrNone (bind s t c d r)
unfolding bound_record
both-bind t sh s c d r b h = record {
  draw = each_at_set (λ r. is_some r.draw ≡ true → is_some r.context ≡ true) s.threads t (bound_record s t c d r) initial b.draw h.draw;
  read = each_at_set (λ r. is_some r.read ≡ is_some r.draw) s.threads t (bound_record s t c d r) initial b.read h.read;
}

pub below-bind : (t : ℕ) (sh : List (Option Shape)) (s : State) (c d r : Option Bound) → Binds t sh s c d r → NumbersAreGiven s → NumbersAreGiven (bind s t c d r)
unfolding bound_record
below-bind t sh s c d r b h = record {
  next = h.next;
  handles = h.handles;
  apart = h.apart;
  context = each_at_set (λ r. IsBoundGiven s r.context) s.threads t (bound_record s t c d r) initial b.context_below h.context;
  draw = each_at_set (λ r. IsBoundGiven s r.draw) s.threads t (bound_record s t c d r) initial b.draw_below h.draw;
  read = each_at_set (λ r. IsBoundGiven s r.read) s.threads t (bound_record s t c d r) initial b.read_below h.read;
}

pub held-bind : (t : ℕ) (sh : List (Option Shape)) (s : State) (c d r : Option Bound) → Binds t sh s c d r → ((u : ℕ) → Leads sh (held_slots (record_of s u))) → (u : ℕ) → Leads sh (held_slots (record_of (bind s t c d r) u))
unfolding bound_record
held-bind t sh s c d r b h =
    each_at_set (λ r. Leads sh (held_slots r)) s.threads t (bound_record s t c d r) initial (b.leads.0, (b.leads.1.0, (b.leads.1.1.0, (h t).1.1.1))) h

-- ---- Another error or wait: what is bound stays.
pub record SameBound (s : State) (t : ℕ) (r : ThreadRecord) : Type 0 where
  pub context : r.context ≡ (record_of s t).context
  pub draw : r.draw ≡ (record_of s t).draw
  pub read : r.read ≡ (record_of s t).read

same_test : (f : Option Bound → Option Bound → Option Bound → Bool) (s : State) (t : ℕ) (r : ThreadRecord) → SameBound s t r → (u : ℕ) →
    f (record_of (set_record s t r) u).context (record_of (set_record s t r) u).draw (record_of (set_record s t r) u).read ≡ f (record_of s u).context (record_of s u).draw (record_of s u).read
same_test f s t r e u = same_at_set (λ (r : ThreadRecord). f r.context r.draw r.read) s.threads t r initial (rw (e.context, e.draw, e.read) refl) u

pub alone-record : (s : State) (t : ℕ) (r : ThreadRecord) → SameBound s t r → IsAlone s → IsAlone (set_record s t r)
alone-record s t r e a = record {
  contexts = λ u v n h k. a.contexts u v n (sym (same_test (λ c d r. is_bound n c) s t r e u) ∙ h) (sym (same_test (λ c d r. is_bound n c) s t r e v) ∙ k);
  surfaces = λ u v n h k. a.surfaces u v n (sym (same_test (λ c d r. is_bound n d || is_bound n r) s t r e u) ∙ h) (sym (same_test (λ c d r. is_bound n d || is_bound n r) s t r e v) ∙ k);
}

pub both-record : (s : State) (t : ℕ) (r : ThreadRecord) → SameBound s t r → HasBothOrNone s → HasBothOrNone (set_record s t r)
both-record s t r e b = record {
  draw = each_at_set (λ r. is_some r.draw ≡ true → is_some r.context ≡ true) s.threads t r initial (rw (e.context, e.draw) (b.draw t)) b.draw;
  read = each_at_set (λ r. is_some r.read ≡ is_some r.draw) s.threads t r initial (rw (e.draw, e.read) (b.read t)) b.read;
}

pub below-record : (s : State) (t : ℕ) (r : ThreadRecord) → SameBound s t r → NumbersAreGiven s → NumbersAreGiven (set_record s t r)
below-record s t r e h = record {
  next = h.next;
  handles = h.handles;
  apart = h.apart;
  context = each_at_set (λ r. IsBoundGiven s r.context) s.threads t r initial (rw e.context (h.context t)) h.context;
  draw = each_at_set (λ r. IsBoundGiven s r.draw) s.threads t r initial (rw e.draw (h.draw t)) h.draw;
  read = each_at_set (λ r. IsBoundGiven s r.read) s.threads t r initial (rw e.read (h.read t)) h.read;
}

pub held-record : (sh : List (Option Shape)) (s : State) (t : ℕ) (r : ThreadRecord) → Leads sh (held_slots r) → ((u : ℕ) → Leads sh (held_slots (record_of s u))) → (u : ℕ) → Leads sh (held_slots (record_of (set_record s t r) u))
held-record sh s t r l h = each_at_set (λ r. Leads sh (held_slots r)) s.threads t r initial l h

-- ---- A new handle has the next number, and fewer handles are apart as they were.
still_bound : (s a : State) (o : Option Bound) → a.next_handle ≡ s.next_handle + 1 → IsBoundGiven s o → IsBoundGiven a o
still_bound s a o e h = IfSome_then o h (λ b i. (i.0, omega (arith, e, i.1)))

not_next : (s : State) (k : ℕ) (d : Handle) (next : ℕ) → next ≡ s.next_handle → All (λ h. IsGiven s h.number) s.handles → k < length s.handles → (get_or s.handles k d).number ≢ next
not_next s k d next e all h = λ same. let i : (get_or s.handles k d).number < s.next_handle = (All-get_or (λ h. IsGiven s h.number) s.handles k d h all).1 in absurd (omega (arith, e, same, i))

pub below-name : (t : ℕ) (s : State) (d : ℕ) (kind : HandleKind) (n : ℕ) → NumbersAreGiven s → NumbersAreGiven (apply t (Name d kind n) s)
below-name t s d kind n b = record {
  next = let three = b.next in omega (arith, three);
  handles = All-push (λ h. (3 ≤ h.number) × (h.number < s.next_handle + 1)) s.handles _ (All-weaker (λ h. IsGiven s h.number) (λ h. (3 ≤ h.number) × (h.number < s.next_handle + 1)) (λ h i. (i.0, omega (arith, i.1))) s.handles b.handles) (b.next, omega arith);
  apart = all_pairs_push (λ g h. g.number ≢ h.number) s.handles _ b.apart (λ k e h. not_next s k e s.next_handle refl b.handles h);
  context = λ u. still_bound s (apply t (Name d kind n) s) (record_of s u).context refl (b.context u);
  draw = λ u. still_bound s (apply t (Name d kind n) s) (record_of s u).draw refl (b.draw u);
  read = λ u. still_bound s (apply t (Name d kind n) s) (record_of s u).read refl (b.read u);
}

pub below-keep : (t : ℕ) (s : State) (p : Handle → Bool) → NumbersAreGiven s → NumbersAreGiven (apply t (Keep p) s)
below-keep t s p b = record {
  next = b.next;
  handles = All-filter p (λ h. IsGiven s h.number) s.handles b.handles;
  apart = AllPairs-filter (λ g h. g.number ≢ h.number) p s.handles b.apart;
  context = b.context;
  draw = b.draw;
  read = b.read;
}
