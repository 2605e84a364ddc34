-- The handles of two displays.
use Rattle.std.proofs.Common.{◌≡◌, ◌≢◌, ℕ, ◌+◌, ◌≤◌, Bool, true, false, not, ◌==◌, if◌then◌else◌, List, [], ◌∷◌, ◌++◌, Option, None, Some, refl, sym, ◌∙◌, ap, arith, IfSome, IsSome, subst}
use Rattle.std.specs.List.{filter, find}
use Rattle.std.specs.Map.{keys_of}
use Rattle.std.specs.Option.{option_to_list, option_or}
use Rattle.std.proofs.lemmas.Bool.{ne_eqb, eq-eqb}
use Rattle.display_table.specs.declared.handles.Handle.{Handle}
use Rattle.display_table.specs.declared.handles.HandleKind.{HandleKind}
use Rattle.display_table.specs.Handles.{is_named, is_named_on, is_on, is_same_kind, newest, off_display, on_display, without, RiseFrom, Takes}
use Rattle.display_table.specs.Tables.{at_number, either, handles_in, listed, handle_named, AreApart, ArePlaces, AreTables, IsHandle, IsLast, NumbersRise, Places}
use Rattle.display_table.proofs.PlaceLaws.{none_there, rise-more}
use Rattle.display_table.specs.declared.TheConstants.{HANDLES_END}
use Rattle.std.proofs.lemmas.List.{map-append}
use Rattle.egl_calls.proofs.Truths.{and_true, and_false}
use Rattle.display_table.proofs.ListedLaws.{listed-same, listed-more, listed-none, filter-listed, listed-last, last_or-push, find-listed, rise-listed, IsNumbered}

-- nothing stands at a number that wasn't given
beyond : (d next n : ℕ) (o : Option Handle) → next ≤ n → IfSome o (IsHandle d next n) → o ≡ None
beyond d next n None l i = refl
beyond d next n (Some h) l i = absurd (omega arith)

either_beyond : (next n : ℕ) (a b : Option Handle) → next ≤ n → IfSome a (IsHandle 1 next n) → IfSome b (IsHandle 2 next n) → either a b ≡ None
either_beyond next n a b l i j = rw (beyond 1 next n a l i, beyond 2 next n b l j) refl

pub made-first : (f g f' : ℕ → Option Handle) (next m : ℕ) (h : Handle) → m ≡ next → AreTables f g next → ((k : ℕ) → f' k ≡ (if k == m then Some h else f k)) → handles_in f' g (next + 1) ≡ handles_in f g next ++ h ∷ []
unfolding handles_in
made-first f g f' next m h same t e =
    let here : f' next ≡ Some h = e next ∙ ap (λ b. if b then Some h else f next) (eq-eqb next m (sym same)) in
    let below : listed (λ k. either (f' k) (g k)) next ≡ listed (λ k. either (f k) (g k)) next = listed-same _ _ next (λ k l. ap (λ o. either o (g k)) (e k ∙ ap (λ b. if b then Some h else f k) (ne_eqb k m (λ q. absurd (omega arith))))) in
    rw (listed-more (λ k. either (f' k) (g k)) next, below, here) refl

pub made-second : (f g g' : ℕ → Option Handle) (next m : ℕ) (h : Handle) → m ≡ next → AreTables f g next → ((k : ℕ) → g' k ≡ (if k == m then Some h else g k)) → handles_in f g' (next + 1) ≡ handles_in f g next ++ h ∷ []
unfolding handles_in
made-second f g g' next m h same t e =
    let here : g' next ≡ Some h = e next ∙ ap (λ b. if b then Some h else g next) (eq-eqb next m (sym same)) in
    let none : f next ≡ None = beyond 1 next next (f next) (omega arith) (t.first.each next) in
    let below : listed (λ k. either (f k) (g' k)) next ≡ listed (λ k. either (f k) (g k)) next = listed-same _ _ next (λ k l. ap (λ o. either (f k) o) (e k ∙ ap (λ b. if b then Some h else g k) (ne_eqb k m (λ q. absurd (omega arith))))) in
    rw (listed-more (λ k. either (f k) (g' k)) next, below, none, here) refl

pub same-tables : (f g f' g' : ℕ → Option Handle) (next : ℕ) → ((k : ℕ) → f' k ≡ f k) → ((k : ℕ) → g' k ≡ g k) → handles_in f' g' next ≡ handles_in f g next
unfolding handles_in
same-tables f g f' g' next e d = listed-same _ _ next (λ k l. rw (e k, d k) refl)

-- at one place

-- only the place of its number has a handle that a number names
other_first : (p : Handle → Bool) (d e next k : ℕ) (a b : Option Handle) → IfSome a (IsHandle d next k) → IfSome b (IsHandle e next k) → ((h : Handle) → h.number ≡ k → p h ≡ false) → find p (option_to_list (either a b)) ≡ None
other_first p d e next k None None i j miss = refl
other_first p d e next k None (Some h) i j miss = rw (miss h j.number) refl
other_first p d e next k (Some h) b i j miss = rw (miss h i.number) refl

named_in : (p : Handle → Bool) (n next : ℕ) (f g : ℕ → Option Handle) → AreTables f g next → ((h : Handle) → h.number ≢ n → p h ≡ false) → find p (handles_in f g next) ≡ find p (option_to_list (either (f n) (g n)))
unfolding handles_in
named_in p n next f g t miss = find-listed p (λ k. either (f k) (g k)) n next
    (λ k ne. other_first p 1 2 next k (f k) (g k) (t.first.each k) (t.second.each k) (λ h e. miss h (λ q. ne (sym e ∙ q))))
    (λ l. either_beyond next n (f n) (g n) l (t.first.each n) (t.second.each n))

no_number : (n : ℕ) (kind : HandleKind) (h : Handle) → h.number ≢ n → is_named n kind h ≡ false
no_number n kind h ne = rw (ne_eqb h.number n ne) refl

no_number_on : (d n : ℕ) (kind : HandleKind) (h : Handle) → h.number ≢ n → is_named_on d n kind h ≡ false
no_number_on d n kind h ne = rw (ne_eqb h.number n ne) refl

number_here : (n : ℕ) (kind : HandleKind) (h : Handle) → h.number ≡ n → is_named n kind h ≡ is_same_kind h.kind kind
number_here n kind h e = rw (eq-eqb h.number n e) refl

display_here : (d n : ℕ) (kind : HandleKind) (h : Handle) → h.number ≡ n → h.display ≡ d → is_named_on d n kind h ≡ is_same_kind h.kind kind
display_here d n kind h e q = rw (eq-eqb h.number n e, eq-eqb h.display d q, and_true (is_same_kind h.kind kind)) refl

display_there : (d n : ℕ) (kind : HandleKind) (h : Handle) → h.display ≢ d → is_named_on d n kind h ≡ false
display_there d n kind h ne = rw (ne_eqb h.display d ne, and_false (is_named n kind h)) refl

found_one : (p : Handle → Bool) (s : Bool) (h : Handle) → p h ≡ s → find p (h ∷ []) ≡ (if s then Some h else None)
found_one p s h e = rw e refl

one_of_two : (h : Handle) → h.display ≡ 2 → h.display ≢ 1
one_of_two h e q = absurd (omega arith)

two_of_one : (h : Handle) → h.display ≡ 1 → h.display ≢ 2
two_of_one h e q = absurd (omega arith)

found_here : (kind : HandleKind) (next n : ℕ) (a b : Option Handle) → IfSome a (IsHandle 1 next n) → IfSome b (IsHandle 2 next n) → find (is_named_on 1 n kind) (option_to_list (either a b)) ≡ handle_named kind a
found_here kind next n None None i j = refl
found_here kind next n None (Some h) i j = found_one (is_named_on 1 n kind) false h (display_there 1 n kind h (one_of_two h j.display))
found_here kind next n (Some h) b i j = found_one (is_named_on 1 n kind) (is_same_kind h.kind kind) h (display_here 1 n kind h i.number i.display)

found_there : (kind : HandleKind) (next n : ℕ) (a b : Option Handle) → AreApart a b → IfSome a (IsHandle 1 next n) → IfSome b (IsHandle 2 next n) → find (is_named_on 2 n kind) (option_to_list (either a b)) ≡ handle_named kind b
found_there kind next n None None p i j = refl
found_there kind next n None (Some h) p i j = found_one (is_named_on 2 n kind) (is_same_kind h.kind kind) h (display_here 2 n kind h j.number j.display)
found_there kind next n (Some h) None p i j = found_one (is_named_on 2 n kind) false h (display_there 2 n kind h (two_of_one h i.display))
found_there kind next n (Some h) (Some k) p i j = absurd p

found_either : (kind : HandleKind) (next n : ℕ) (a b : Option Handle) → IfSome a (IsHandle 1 next n) → IfSome b (IsHandle 2 next n) → find (is_named n kind) (option_to_list (either a b)) ≡ handle_named kind (either a b)
found_either kind next n None None i j = refl
found_either kind next n None (Some h) i j = found_one (is_named n kind) (is_same_kind h.kind kind) h (number_here n kind h j.number)
found_either kind next n (Some h) b i j = found_one (is_named n kind) (is_same_kind h.kind kind) h (number_here n kind h i.number)

-- a handle of another display than both
found_nowhere : (kind : HandleKind) (d next n : ℕ) (a b : Option Handle) → d ≢ 1 → d ≢ 2 → IfSome a (IsHandle 1 next n) → IfSome b (IsHandle 2 next n) → find (is_named_on d n kind) (option_to_list (either a b)) ≡ None
found_nowhere kind d next n None None x y i j = refl
found_nowhere kind d next n None (Some h) x y i j = found_one (is_named_on d n kind) false h (display_there d n kind h (λ q. y (sym q ∙ j.display)))
found_nowhere kind d next n (Some h) b x y i j = found_one (is_named_on d n kind) false h (display_there d n kind h (λ q. x (sym q ∙ i.display)))

module _ (kind : HandleKind) (next : ℕ) (f g : ℕ → Option Handle) (t : AreTables f g next) (d n : ℕ) where
  pub valid-first : d ≡ 1 → find (is_named_on d n kind) (handles_in f g next) ≡ handle_named kind (f n)
  valid-first e = rw e (named_in (is_named_on 1 n kind) n next f g t (no_number_on 1 n kind) ∙ found_here kind next n (f n) (g n) (t.first.each n) (t.second.each n))

  pub valid-second : d ≡ 2 → find (is_named_on d n kind) (handles_in f g next) ≡ handle_named kind (g n)
  valid-second e = rw e (named_in (is_named_on 2 n kind) n next f g t (no_number_on 2 n kind) ∙ found_there kind next n (f n) (g n) (t.apart n) (t.first.each n) (t.second.each n))

  pub valid-neither : d ≢ 1 → d ≢ 2 → find (is_named_on d n kind) (handles_in f g next) ≡ None
  valid-neither x y = named_in (is_named_on d n kind) n next f g t (no_number_on d n kind) ∙ found_nowhere kind d next n (f n) (g n) x y (t.first.each n) (t.second.each n)

  -- none of the second display has the number of one of the first
  second_none : (a b : Option Handle) → AreApart a b → handle_named kind (either a b) ≡ option_or (handle_named kind a) (handle_named kind b)
  second_none None b p = refl
  second_none (Some h) None p = elim (is_same_kind h.kind kind) as (λ s. (if s then Some h else None) ≡ option_or (if s then Some h else None) None) [ true ↦ refl | false ↦ refl ]
  second_none (Some h) (Some k) p = absurd p

  pub valid-either : find (is_named n kind) (handles_in f g next) ≡ option_or (handle_named kind (f n)) (handle_named kind (g n))
  valid-either = (named_in (is_named n kind) n next f g t (no_number n kind) ∙ found_either kind next n (f n) (g n) (t.first.each n) (t.second.each n) ∙ second_none (f n) (g n) (t.apart n))

-- filters of one place

-- a filter that tells the handles of a place by a test of the place
place_without : (p : Handle → Bool) (t : Bool) (a b : Option Handle) → ((h : Handle) → a ≡ Some h → p h ≡ not t) → ((h : Handle) → b ≡ Some h → p h ≡ not t) → filter p (option_to_list (either a b)) ≡ option_to_list (either (if t then None else a) (if t then None else b))
place_without p true None None x y = refl
place_without p false None None x y = refl
place_without p true None (Some h) x y = rw (y h refl) refl
place_without p false None (Some h) x y = rw (y h refl) refl
place_without p true (Some h) b x y = rw (x h refl) refl
place_without p false (Some h) b x y = rw (x h refl) refl

number_of : (d next k : ℕ) (a : Option Handle) → IfSome a (IsHandle d next k) → (h : Handle) → a ≡ Some h → h.number ≡ k
number_of d next k None i h e = cc
number_of d next k (Some j) i h e = let q : j ≡ h = cc in ap (λ (x : Handle). x.number) (sym q) ∙ i.number

pub removed : (m n next : ℕ) (f g f' g' : ℕ → Option Handle) → m ≡ n → AreTables f g next → ((k : ℕ) → f' k ≡ (if k == m then None else f k)) → ((k : ℕ) → g' k ≡ (if k == m then None else g k)) → handles_in f' g' next ≡ without n (handles_in f g next)
unfolding handles_in
removed m n next f g f' g' same t x y = sym (filter-listed (λ h. not (h.number == n)) (λ k. either (f k) (g k)) (λ k. either (f' k) (g' k)) next
    (λ k. rw (x k, y k, same) (place_without (λ h. not (h.number == n)) (k == n) (f k) (g k)
    (λ h e. ap (λ i. not (i == n)) (number_of 1 next k (f k) (t.first.each k) h e))
    (λ h e. ap (λ i. not (i == n)) (number_of 2 next k (g k) (t.second.each k) h e)))))

place_first : (next k : ℕ) (a b : Option Handle) → IfSome a (IsHandle 1 next k) → IfSome b (IsHandle 2 next k) → filter (is_on 1) (option_to_list (either a b)) ≡ option_to_list a
place_first next k None None i j = refl
place_first next k None (Some h) i j = rw (ne_eqb h.display 1 (one_of_two h j.display)) refl
place_first next k (Some h) b i j = rw (eq-eqb h.display 1 i.display) refl

place_second : (next k : ℕ) (a b : Option Handle) → AreApart a b → IfSome a (IsHandle 1 next k) → IfSome b (IsHandle 2 next k) → filter (is_on 2) (option_to_list (either a b)) ≡ option_to_list b
place_second next k None None p i j = refl
place_second next k None (Some h) p i j = rw (eq-eqb h.display 2 j.display) refl
place_second next k (Some h) None p i j = rw (ne_eqb h.display 2 (two_of_one h i.display)) refl
place_second next k (Some h) (Some l) p i j = absurd p

place_off_first : (next k : ℕ) (a b : Option Handle) → AreApart a b → IfSome a (IsHandle 1 next k) → IfSome b (IsHandle 2 next k) → filter (λ h. not (is_on 1 h)) (option_to_list (either a b)) ≡ option_to_list b
place_off_first next k None None p i j = refl
place_off_first next k None (Some h) p i j = rw (ne_eqb h.display 1 (one_of_two h j.display)) refl
place_off_first next k (Some h) None p i j = rw (eq-eqb h.display 1 i.display) refl
place_off_first next k (Some h) (Some l) p i j = absurd p

place_off_second : (next k : ℕ) (a b : Option Handle) → IfSome a (IsHandle 1 next k) → IfSome b (IsHandle 2 next k) → filter (λ h. not (is_on 2 h)) (option_to_list (either a b)) ≡ option_to_list a
place_off_second next k None None i j = refl
place_off_second next k None (Some h) i j = rw (eq-eqb h.display 2 j.display) refl
place_off_second next k (Some h) b i j = rw (ne_eqb h.display 2 (two_of_one h i.display)) refl

module _ (next : ℕ) (f g : ℕ → Option Handle) (t : AreTables f g next) where
  pub on-first : on_display 1 (handles_in f g next) ≡ listed f next
  unfolding handles_in
  on-first = filter-listed (is_on 1) (λ k. either (f k) (g k)) f next (λ k. place_first next k (f k) (g k) (t.first.each k) (t.second.each k))

  pub on-second : on_display 2 (handles_in f g next) ≡ listed g next
  unfolding handles_in
  on-second = filter-listed (is_on 2) (λ k. either (f k) (g k)) g next (λ k. place_second next k (f k) (g k) (t.apart k) (t.first.each k) (t.second.each k))

  pub off-first : off_display 1 (handles_in f g next) ≡ listed g next
  unfolding handles_in
  off-first = filter-listed (λ h. not (is_on 1 h)) (λ k. either (f k) (g k)) g next (λ k. place_off_first next k (f k) (g k) (t.apart k) (t.first.each k) (t.second.each k))

  pub off-second : off_display 2 (handles_in f g next) ≡ listed f next
  unfolding handles_in
  off-second = filter-listed (λ h. not (is_on 2 h)) (λ k. either (f k) (g k)) f next (λ k. place_off_second next k (f k) (g k) (t.first.each k) (t.second.each k))

numbered_place : (next k : ℕ) (a b : Option Handle) → IfSome a (IsHandle 1 next k) → IfSome b (IsHandle 2 next k) → IfSome (either a b) (IsNumbered 3 k)
numbered_place next k None None i j = tt
numbered_place next k None (Some h) i j = record { number = j.number; high = j.low }
numbered_place next k (Some h) b i j = record { number = i.number; high = i.low }

pub rising : (next : ℕ) (f g : ℕ → Option Handle) → AreTables f g next → RiseFrom 3 (handles_in f g next) next
unfolding handles_in
rising next f g t = rise-listed 3 (λ k. either (f k) (g k)) next (λ k. numbered_place next k (f k) (g k) (t.first.each k) (t.second.each k)) t.low

-- the newest handle of a display, taken

apart_right : (a b : Option Handle) (h : Handle) → AreApart a b → a ≡ Some h → b ≡ None
apart_right a None h p e = refl
apart_right None (Some k) h p e = cc
apart_right (Some j) (Some k) h p e = absurd p

apart_left : (a b : Option Handle) (h : Handle) → AreApart a b → b ≡ Some h → a ≡ None
apart_left None b h p e = refl
apart_left (Some j) None h p e = cc
apart_left (Some j) (Some k) h p e = absurd p

apart_some : (a b : Option Handle) → AreApart a b → IsSome a → b ≡ None
apart_some a None p s = refl
apart_some None (Some k) p s = absurd (let f : false ≡ true = s in cc)
apart_some (Some j) (Some k) p s = absurd p

is_handle : (d next n : ℕ) (o : Option Handle) (h : Handle) → o ≡ Some h → IfSome o (IsHandle d next n) → IsHandle d next n h
is_handle d next n o h e i = subst (λ (x : Option Handle). IfSome x (IsHandle d next n)) e i

fewer : (d next n : ℕ) (t : Bool) (a b : Option Handle) → b ≡ (if t then None else a) → IfSome a (IsHandle d next n) → IfSome b (IsHandle d next n)
fewer d next n true a b e i = rw e tt
fewer d next n false a b e i = rw e i

apart_fewer : (t : Bool) (a b c : Option Handle) → c ≡ (if t then None else a) → AreApart a b → AreApart c b
apart_fewer true a b c e p = rw e tt
apart_fewer false a b c e p = rw e p

none_right : (a : Option Handle) → AreApart a None
none_right None = tt
none_right (Some h) = tt

apart_fewer_right : (t : Bool) (a b c : Option Handle) → c ≡ (if t then None else b) → AreApart a b → AreApart a c
apart_fewer_right true a b c e p = rw e (none_right a)
apart_fewer_right false a b c e p = rw e p

fewer-first : (next : ℕ) (f g f' : ℕ → Option Handle) (m : ℕ) → AreTables f g next → ((k : ℕ) → f' k ≡ (if k == m then None else f k)) → AreTables f' g next
fewer-first next f g f' m t e = record {
  first = record { each = λ n. fewer 1 next n (n == m) (f n) (f' n) (e n) (t.first.each n) };
  second = t.second;
  apart = λ n. apart_fewer (n == m) (f n) (g n) (f' n) (e n) (t.apart n);
  low = t.low;
  high = t.high;
}

fewer-second : (next : ℕ) (f g g' : ℕ → Option Handle) (m : ℕ) → AreTables f g next → ((k : ℕ) → g' k ≡ (if k == m then None else g k)) → AreTables f g' next
fewer-second next f g g' m t e = record {
  first = t.first;
  second = record { each = λ n. fewer 2 next n (n == m) (g n) (g' n) (e n) (t.second.each n) };
  apart = λ n. apart_fewer_right (n == m) (f n) (g n) (g' n) (e n) (t.apart n);
  low = t.low;
  high = t.high;
}

newest_of : (d : ℕ) (hs : List Handle) (xs : List Handle) (h : Handle) → on_display d hs ≡ xs ++ h ∷ [] → newest d hs ≡ Some h
unfolding newest
newest_of d hs xs h e = rw e (last_or-push None xs h)

newest_none : (d : ℕ) (hs : List Handle) → on_display d hs ≡ [] → newest d hs ≡ None
unfolding newest
newest_none d hs e = rw e refl

takes_one : (d : ℕ) (hs ks : List Handle) (xs : List Handle) (h : Handle) → on_display d hs ≡ xs ++ h ∷ [] → on_display d ks ≡ xs → ks ≡ without h.number hs → off_display d ks ≡ off_display d hs → Takes d hs ks (Some h.object)
takes_one d hs ks xs h e q r o = record {
  object = rw (newest_of d hs xs h e) refl;
  rest = rw (newest_of d hs xs h e) r;
  objects = rw (e, q, map-append (λ (k : Handle). k.object) xs (h ∷ [])) refl;
  none = tt;
  others = o;
}

takes_none : (d : ℕ) (hs ks : List Handle) → on_display d hs ≡ [] → ks ≡ hs → Takes d hs ks None
takes_none d hs ks e q = record {
  object = rw (newest_none d hs e) refl;
  rest = rw (newest_none d hs e) q;
  objects = rw (q, e) refl;
  none = e;
  others = rw q refl;
}

module _ (next : ℕ) (f g : ℕ → Option Handle) (t : AreTables f g next) where
  pub takes-first : (f' : ℕ → Option Handle) (h : Handle) → IsLast f f' h → Takes 1 (handles_in f g next) (handles_in f' g next) (Some h.object)
  takes-first f' h l =
      let u : AreTables f' g next = fewer-first next f g f' l.number t l.rest in
      let i : IsHandle 1 next l.number h = is_handle 1 next l.number (f l.number) h l.found (t.first.each l.number) in
      let free : g l.number ≡ None = apart_right (f l.number) (g l.number) h (t.apart l.number) l.found in
      takes_one 1 (handles_in f g next) (handles_in f' g next) (listed f' next) h
      (on-first next f g t ∙ listed-last f f' l.number next h i.high l.found l.last l.rest)
      (on-first next f' g u)
      (removed l.number h.number next f g f' g (sym i.number) t l.rest (none_there g l.number free))
      (off-first next f' g u ∙ sym (off-first next f g t))

  pub takes-second : (g' : ℕ → Option Handle) (h : Handle) → IsLast g g' h → Takes 2 (handles_in f g next) (handles_in f g' next) (Some h.object)
  takes-second g' h l =
      let u : AreTables f g' next = fewer-second next f g g' l.number t l.rest in
      let i : IsHandle 2 next l.number h = is_handle 2 next l.number (g l.number) h l.found (t.second.each l.number) in
      let free : f l.number ≡ None = apart_left (f l.number) (g l.number) h (t.apart l.number) l.found in
      takes_one 2 (handles_in f g next) (handles_in f g' next) (listed g' next) h
      (on-second next f g t ∙ listed-last g g' l.number next h i.high l.found l.last l.rest)
      (on-second next f g' u)
      (removed l.number h.number next f g f g' (sym i.number) t (none_there f l.number free) l.rest)
      (off-second next f g' u ∙ sym (off-second next f g t))

  pub takes_none-first : (f' : ℕ → Option Handle) → ((n : ℕ) → (f n ≡ None) × (f' n ≡ None)) → Takes 1 (handles_in f g next) (handles_in f' g next) None
  takes_none-first f' e = takes_none 1 (handles_in f g next) (handles_in f' g next)
      (on-first next f g t ∙ listed-none f next (λ k l. (e k).0))
      (same-tables f g f' g next (λ k. (e k).1 ∙ sym (e k).0) (λ k. refl))

  pub takes_none-second : (g' : ℕ → Option Handle) → ((n : ℕ) → (g n ≡ None) × (g' n ≡ None)) → Takes 2 (handles_in f g next) (handles_in f g' next) None
  takes_none-second g' e = takes_none 2 (handles_in f g next) (handles_in f g' next)
      (on-second next f g t ∙ listed-none g next (λ k l. (e k).0))
      (same-tables f g f g' next (λ k. refl) (λ k. (e k).1 ∙ sym (e k).0))

-- the places of both displays

pub no_places : (next : ℕ) → 3 ≤ next → next ≤ HANDLES_END → ArePlaces [] [] next
unfolding at_number NumbersRise
no_places next low high = record {
  tables = record {
    first = record { each = λ n. tt };
    second = record { each = λ n. tt };
    apart = λ n. tt;
    low = low;
    high = high;
  };
  first_rises = low;
  second_rises = low;
}

pub no_handles : (next : ℕ) → handles_in (at_number []) (at_number []) next ≡ []
unfolding handles_in at_number
no_handles next = listed-none _ next (λ k l. refl)

pub removed-first : (m next : ℕ) (f g f' : ℕ → Option Handle) → AreTables f g next → IsSome (f m) → ((k : ℕ) → f' k ≡ (if k == m then None else f k)) → handles_in f' g next ≡ without m (handles_in f g next)
removed-first m next f g f' t some e = removed m m next f g f' g refl t e (none_there g m (apart_some (f m) (g m) (t.apart m) some))

-- the numbers of both fit what a handle may have

pub first-fits : (first second : Places) (next : ℕ) → ArePlaces first second next → NumbersRise 3 (keys_of first) HANDLES_END
first-fits first second next p = rise-more 3 (keys_of first) next HANDLES_END p.tables.high p.first_rises

pub second-fits : (first second : Places) (next : ℕ) → ArePlaces first second next → NumbersRise 3 (keys_of second) HANDLES_END
second-fits first second next p = rise-more 3 (keys_of second) next HANDLES_END p.tables.high p.second_rises
