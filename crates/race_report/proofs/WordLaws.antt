-- Events are led to as the words say.
use Rattle.std.proofs.Common.{◌≡◌, ℕ, zero, suc, ◌⊎◌, inl, inr, List, [], ◌∷◌, ◌++◌, None, Some, Option, length, refl, sym, ap, ◌∙◌, subst, arith}
use Rattle.std.proofs.lemmas.List.Elements.{Contains-append_cases, Contains-append_left, Contains-append_right, Contains-push, Contains-push_cases}
use Rattle.std.proofs.lemmas.Option.{none-some}
use Rattle.std.specs.List.{Contains, filter_map, cons_option}
use Rattle.std.specs.Option.{option_to_list}
use Rattle.std.specs.Prelude.{slice_get, find}
use Rattle.egl_calls.specs.declared.entries.Entry.{Entry}
use Rattle.trace_reader.specs.declared.traces.Line.{Line}
use Rattle.trace_reader.specs.declared.traces.Reference.{Reference}
use Rattle.race_report.specs.declared.events.Event.{Event}
use Rattle.race_report.specs.Order.{Leads}
use Rattle.driver_facts.specs.declared.touches.Touches.{Touches}
use Rattle.race_report.specs.Leading.{variable_place, is_played_by, uses_of, used_places, awaited_place, maker_place, waited_by, behind_of}
use Rattle.race_report.specs.Events.{event_of, events_in, events_of}
use Rattle.race_report.specs.Words.{UsesAnswer, LeadsIn}

-- ---- Lists.
pub contains_none : {X : Type 0} (x : X) → Contains {X = X} [] x → ⊥
contains_none x h = let w = h.1 in absurd (omega (arith, w))

pub contains_cases : {X : Type 0} (y : X) (ys : List X) (x : X) → Contains (y ∷ ys) x → (y ≡ x) ⊎ Contains ys x
contains_cases {X} y ys x h = elim (Contains-append_cases (y ∷ []) ys x h) [
  | inl one ↦ (elim (Contains-push_cases {X = X} [] y x one) [ inl none ↦ absurd (contains_none x none) | inr e ↦ inl e ])
  | inr more ↦ inr more
]

pub contains_first : {X : Type 0} (y : X) (ys : List X) → Contains (y ∷ ys) y
contains_first {X} y ys = Contains-append_left (y ∷ []) ys y (Contains-push {X = X} [] y)

pub contains_later : {X : Type 0} (y : X) (ys : List X) (x : X) → Contains ys x → Contains (y ∷ ys) x
contains_later y ys x h = Contains-append_right (y ∷ []) ys x h

in_option : (o : Option ℕ) (i : ℕ) → Contains (option_to_list o) i → o ≡ Some i
in_option None i h = absurd (contains_none i h)
in_option (Some k) i h = elim (contains_cases k [] i h) [ inl e ↦ ap (λ (n : ℕ). Some n) e | inr none ↦ absurd (contains_none i none) ]

option_in : (o : Option ℕ) (i : ℕ) → o ≡ Some i → Contains (option_to_list o) i
option_in o i e = let P : Option ℕ → Type 0 = λ x. Contains (option_to_list x) i in subst P (sym e) (contains_first i [])

-- a reference whose place is i
record Has (f : Reference → Option ℕ) (rs : List Reference) (i : ℕ) : Type 0 where
  pub reference : Reference
  pub used : Contains rs reference
  pub place : f reference ≡ Some i

more_has : (f : Reference → Option ℕ) (r : Reference) (rs : List Reference) (i : ℕ) → Has f rs i → Has f (r ∷ rs) i
more_has f r rs i h = record { reference = h.reference; used = contains_later r rs h.reference h.used; place = h.place }

has_of : (f : Reference → Option ℕ) (rs : List Reference) (i : ℕ) → Contains (filter_map f rs) i → Has f rs i
has_of f [] i h = absurd (contains_none i h)
has_of f (r ∷ rs) i h = by_place (has_of f rs i) (f r) refl h
  where
    by_place : (Contains (filter_map f rs) i → Has f rs i) → (o : Option ℕ) → f r ≡ o → Contains (cons_option o (filter_map f rs)) i → Has f (r ∷ rs) i
    by_place rest None e g = more_has f r rs i (rest g)
    by_place rest (Some k) e g = elim (contains_cases k (filter_map f rs) i g) [
      | inl same ↦ record { reference = r; used = contains_first r rs; place = e ∙ ap (λ (n : ℕ). Some n) same }
      | inr more ↦ more_has f r rs i (rest more)
    ]

of_has : (f : Reference → Option ℕ) (rs : List Reference) (i : ℕ) (r : Reference) → Contains rs r → f r ≡ Some i → Contains (filter_map f rs) i
of_has f [] i r h e = absurd (contains_none r h)
of_has f (q ∷ rs) i r h e = elim (contains_cases q rs r h) [
  | inl same ↦ (let P : Option ℕ → Type 0 = λ o. Contains (cons_option o (filter_map f rs)) i in
      subst P (sym (ap f same ∙ e)) (contains_first i (filter_map f rs)))
  | inr more ↦ behind (f q) (of_has f rs i r more e)
]
  where
    behind : (o : Option ℕ) → Contains (filter_map f rs) i → Contains (cons_option o (filter_map f rs)) i
    behind None g = g
    behind (Some k) g = contains_later k (filter_map f rs) i g

-- ---- What stands behind an entry.
pub said : (lines : List Line) (journal : List Entry) (i : ℕ) (e : Entry) → Contains (behind_of lines journal e) i
    → UsesAnswer lines journal i e ⊎ ((awaited_place journal e.call ≡ Some i) ⊎ (maker_place journal (waited_by journal e e.call.kind) ≡ Some i))
unfolding used_places
said lines journal i e h =
    let used = used_places lines journal (uses_of (find (is_played_by e) lines)) in
    let awaited = option_to_list (awaited_place journal e.call) in
    let made = option_to_list (maker_place journal (waited_by journal e e.call.kind)) in
    elim (Contains-append_cases (used ++ awaited) made i h) [
      | inl front ↦ (elim (Contains-append_cases used awaited i front) [
        | inl one ↦ inl (let g = has_of (λ r. variable_place lines journal r.variable) (uses_of (find (is_played_by e) lines)) i one in record { reference = g.reference; used = g.used; answer = g.place })
        | inr post ↦ inr (inl (in_option (awaited_place journal e.call) i post))
      ])
      | inr sync ↦ inr (inr (in_option (maker_place journal (waited_by journal e e.call.kind)) i sync))
    ]

pub meant : (lines : List Line) (journal : List Entry) (i : ℕ) (e : Entry) → UsesAnswer lines journal i e ⊎ ((awaited_place journal e.call ≡ Some i) ⊎ (maker_place journal (waited_by journal e e.call.kind) ≡ Some i))
    → Contains (behind_of lines journal e) i
unfolding used_places
meant lines journal i e w =
    let used = used_places lines journal (uses_of (find (is_played_by e) lines)) in
    let awaited = option_to_list (awaited_place journal e.call) in
    let made = option_to_list (maker_place journal (waited_by journal e e.call.kind)) in
    elim w [
      | inl u ↦ Contains-append_left (used ++ awaited) made i (Contains-append_left used awaited i (of_has (λ r. variable_place lines journal r.variable) (uses_of (find (is_played_by e) lines)) i u.reference u.used u.answer))
      | inr v ↦ (elim v [
        | inl p ↦ Contains-append_left (used ++ awaited) made i (Contains-append_right used awaited i (option_in (awaited_place journal e.call) i p))
        | inr q ↦ Contains-append_right (used ++ awaited) made i (option_in (maker_place journal (waited_by journal e e.call.kind)) i q)
      ])
    ]

-- ---- Events and entries stand at the same places.
pub record IsEventAt (lines : List Line) (journal es : List Entry) (k : ℕ) (x : Event) : Type 0 where
  pub entry : Entry
  pub there : slice_get es k ≡ Some entry
  pub thread : x.thread ≡ entry.thread
  pub behind : x.behind ≡ behind_of lines journal entry

entry_at : (lines : List Line) (journal es : List Entry) (ts : List Touches) (k : ℕ) (x : Event) → slice_get (events_in lines journal es ts) k ≡ Some x → IsEventAt lines journal es k x
entry_at lines journal [] ts k x g = absurd (none-some x g)
entry_at lines journal (e ∷ es) [] k x g = absurd (none-some x g)
entry_at lines journal (e ∷ es) (t ∷ ts) zero x g =
    let q : Some (event_of lines journal e t) ≡ Some x = g in
    let same : event_of lines journal e t ≡ x = cc in
    record { entry = e; there = refl; thread = ap (λ (y : Event). y.thread) (sym same); behind = ap (λ (y : Event). y.behind) (sym same) }
entry_at lines journal (e ∷ es) (t ∷ ts) (suc k) x g =
    let a = entry_at lines journal es ts k x g in
    record { entry = a.entry; there = a.there; thread = a.thread; behind = a.behind }

pub record HasEvent (lines : List Line) (journal : List Entry) (events : List Event) (k : ℕ) (e : Entry) : Type 0 where
  pub event : Event
  pub there : slice_get events k ≡ Some event
  pub thread : event.thread ≡ e.thread
  pub behind : event.behind ≡ behind_of lines journal e

event_at : (lines : List Line) (journal es : List Entry) (ts : List Touches) (k : ℕ) (e : Entry) → length ts ≡ length es → slice_get es k ≡ Some e → HasEvent lines journal (events_in lines journal es ts) k e
event_at lines journal [] ts k e long g = absurd (none-some e g)
event_at lines journal (d ∷ es) [] k e long g = absurd (omega (arith, long))
event_at lines journal (d ∷ es) (t ∷ ts) zero e long g =
    let q : Some d ≡ Some e = g in
    let same : d ≡ e = cc in
    record { event = event_of lines journal d t; there = refl; thread = ap (λ (y : Entry). y.thread) same; behind = ap (λ (y : Entry). behind_of lines journal y) same }
event_at lines journal (d ∷ es) (t ∷ ts) (suc k) e long g =
    let a = event_at lines journal es ts k e (omega (arith, long)) g in
    record { event = a.event; there = a.there; thread = a.thread; behind = a.behind }

pub leads_only : (lines : List Line) (journal : List Entry) (ts : List Touches) (i j : ℕ) → Leads (events_of lines journal ts) i j → LeadsIn lines journal i j
unfolding events_of
leads_only lines journal ts i j l =
    let a = entry_at lines journal journal ts i l.earlier l.there in
    let b = entry_at lines journal journal ts j l.later l.here in
    let P : List ℕ → Type 0 = λ x. Contains x i in
    record {
      before = l.before;
      earlier = a.entry;
      there = a.there;
      later = b.entry;
      here = b.there;
      way = elim l.way [
        | inl same ↦ inl (sym a.thread ∙ same ∙ b.thread)
        | inr named ↦ inr (said lines journal i b.entry (subst P b.behind named))
      ];
    }

pub leads_all : (lines : List Line) (journal : List Entry) (ts : List Touches) (i j : ℕ) → length ts ≡ length journal → LeadsIn lines journal i j → Leads (events_of lines journal ts) i j
unfolding events_of
leads_all lines journal ts i j long l =
    let a = event_at lines journal journal ts i l.earlier long l.there in
    let b = event_at lines journal journal ts j l.later long l.here in
    let P : List ℕ → Type 0 = λ x. Contains x i in
    record {
      before = l.before;
      earlier = a.event;
      there = a.there;
      later = b.event;
      here = b.there;
      way = elim l.way [
        | inl same ↦ inl (a.thread ∙ same ∙ sym b.thread)
        | inr w ↦ inr (subst P (sym b.behind) (meant lines journal i l.later w))
      ];
    }
