-- The places that are found by the things that events touch.
use Rattle.std.proofs.Common.{◌≡◌, ℕ, zero, suc, ◌+◌, ◌<◌, ◌≤◌, ◌⊎◌, inl, inr, Bool, true, false, cond, ◌||◌, nat_lt, ltb, leb, ℤ, List, [], ◌∷◌, ◌++◌, length, take, drop, get_or, map, Some, refl, sym, ap, ◌∙◌, subst, arith, eq-eqb, ne_eqb, lt-ltb, ltb-true, ltb-false, leb-true, leb-false}
use Rattle.std.proofs.lemmas.Bool.{or_cases}
use Rattle.std.proofs.lemmas.Bool.Decides.{Decides-int_eq}
use Rattle.std.proofs.lemmas.List.{append-nil, take-append-drop, length-take-le, length-drop, get_or-take, get_or-drop}
use Rattle.std.proofs.lemmas.List.Elements.{All-nil, All-cons, All-head, All-tail, All-append, All-map, All-filter, Contains-append_left, Contains-append_right, filter-append}
use Rattle.std.proofs.lemmas.List.Folds.{Any-from_list_any}
use Rattle.std.proofs.lemmas.List.Sorted.{All-permutation, Contains-permutation}
use Rattle.std.proofs.lemmas.Option.{none-some}
use Rattle.std.specs.Int.RustNames.{unsigned_abs}
use Rattle.std.specs.List.{All, AllWithin, Contains, filter, list_any}
use Rattle.std.specs.List.Sorted.{IsPermutation, IsNonDecreasing}
use Rattle.std.specs.Ordering.{int_eq}
use Rattle.std.specs.Prelude.{slice_get}
use Rattle.race_report.specs.declared.accesses.Access.{Access}
use Rattle.race_report.specs.declared.accesses.Accesses.{Accesses}
use Rattle.race_report.specs.declared.events.Event.{Event}
use Rattle.race_report.specs.Accesses.{access, writes_from, touches_from, AreAccesses, has_key, places_behind, users, AreSeconds}
use Rattle.race_report.specs.Conflicts.{share, conflict}
use Rattle.race_report.proofs.WordLaws.{contains_none, contains_cases, contains_first, contains_later}

-- ---- The accesses with a key stand together.
filter_none : {X : Type 0} (p : X → Bool) (xs : List X) → All (λ x. p x ≡ false) xs → filter p xs ≡ []
filter_none p [] h = refl
filter_none p (x ∷ xs) h = ap (λ (b : Bool). cond b (x ∷ filter p xs) (filter p xs)) (All-head (λ y. p y ≡ false) x xs h) ∙ filter_none p xs (All-tail (λ y. p y ≡ false) x xs h)

filter_all : {X : Type 0} (p : X → Bool) (xs : List X) → All (λ x. p x ≡ true) xs → filter p xs ≡ xs
filter_all p [] h = refl
filter_all {X} p (x ∷ xs) h = ap (λ (b : Bool). cond b (x ∷ filter p xs) (filter p xs)) (All-head (λ y. p y ≡ true) x xs h) ∙ ap (λ (l : List X). x ∷ l) (filter_all p xs (All-tail (λ y. p y ≡ true) x xs h))

with_key_is : (key : ℕ) (xs : List Access) (i j : ℕ) → i ≤ length xs → j ≤ length (drop i xs)
    → AllWithin (λ (a : Access). ltb a.key key ≡ true) xs 0 i → AllWithin (λ (a : Access). ltb a.key key ≡ false) xs i (length xs)
    → AllWithin (λ (a : Access). leb a.key key ≡ true) (drop i xs) 0 j → AllWithin (λ (a : Access). leb a.key key ≡ false) (drop i xs) j (length (drop i xs))
    → take j (drop i xs) ≡ filter (has_key key) xs
with_key_is key xs i j in_front in_rest below from upto behind =
    let p : Access → Bool = has_key key in
    let ys : List Access = drop i xs in
    let whole : filter p xs ≡ filter p (take i xs) ++ filter p ys = ap (λ (l : List Access). filter p l) (sym (take-append-drop i xs)) ∙ filter-append p (take i xs) ys in
    let rest : filter p ys ≡ filter p (take j ys) ++ filter p (drop j ys) = ap (λ (l : List Access). filter p l) (sym (take-append-drop j ys)) ∙ filter-append p (take j ys) (drop j ys) in
    let front : filter p (take i xs) ≡ [] = filter_none p (take i xs) less in
    let mid : filter p (take j ys) ≡ take j ys = filter_all p (take j ys) same in
    let back : filter p (drop j ys) ≡ [] = filter_none p (drop j ys) more in
    sym (whole ∙ ap (λ (l : List Access). l ++ filter p ys) front ∙ rest ∙ ap (λ (l : List Access). l ++ filter p (drop j ys)) mid ∙ ap (λ (l : List Access). take j ys ++ l) back ∙ append-nil (take j ys))
  where
    less : All (λ a. has_key key a ≡ false) (take i xs)
    less k d lt =
        let within : k < i = (let e = length-take-le i xs in_front in omega (arith, e, lt)) in
        let t = ltb-true (get_or xs k d).key key (below k d (omega arith) within) in
        let P : Access → Type 0 = λ a. has_key key a ≡ false in
        subst P (sym (get_or-take i xs k d within)) (ne_eqb (get_or xs k d).key key (λ e. omega (arith, t, e)))

    same : All (λ a. has_key key a ≡ true) (take j (drop i xs))
    same k d lt =
        let within : k < j = (let e = length-take-le j (drop i xs) in_rest in omega (arith, e, lt)) in
        let inside : i + k < length xs = (let e = length-drop i xs in omega (arith, e, within, in_rest)) in
        let a : (get_or (drop i xs) k d).key ≤ key = leb-true (get_or (drop i xs) k d).key key (upto k d (omega arith) within) in
        let b : key ≤ (get_or xs (i + k) d).key = ltb-false (get_or xs (i + k) d).key key (from (i + k) d (omega arith) inside) in
        let e = ap (λ (x : Access). x.key) (get_or-drop i xs k d) in
        let P : Access → Type 0 = λ x. has_key key x ≡ true in
        subst P (sym (get_or-take j (drop i xs) k d within)) (eq-eqb (get_or (drop i xs) k d).key key (omega (arith, a, b, e)))

    more : All (λ a. has_key key a ≡ false) (drop j (drop i xs))
    more k d lt =
        let inside : j + k < length (drop i xs) = (let e = length-drop j (drop i xs) in omega (arith, e, lt)) in
        let t = leb-false (get_or (drop i xs) (j + k) d).key key (behind (j + k) d (omega arith) inside) in
        let P : Access → Type 0 = λ a. has_key key a ≡ false in
        subst P (sym (get_or-drop j (drop i xs) k d)) (ne_eqb (get_or (drop i xs) (j + k) d).key key (λ e. omega (arith, t, e)))

-- as two searches by halving cut them out
pub found_by_key : (key : ℕ) (xs ys zs : List Access) (i j : ℕ) → i ≤ length xs → j ≤ length ys → ys ≡ drop i xs → zs ≡ take j ys
    → AllWithin (λ (a : Access). ltb a.key key ≡ true) xs 0 i → AllWithin (λ (a : Access). ltb a.key key ≡ false) xs i (length xs)
    → AllWithin (λ (a : Access). leb a.key key ≡ true) ys 0 j → AllWithin (λ (a : Access). leb a.key key ≡ false) ys j (length ys) → zs ≡ filter (has_key key) xs
found_by_key key xs ys zs i j in_front in_rest rest found below from upto behind =
    let P : List Access → Type 0 = λ y. j ≤ length y → zs ≡ take j y → AllWithin (λ (a : Access). leb a.key key ≡ true) y 0 j → AllWithin (λ (a : Access). leb a.key key ≡ false) y j (length y) → zs ≡ filter (has_key key) xs in
    let at : P (drop i xs) = λ within is a b. is ∙ with_key_is key xs i j in_front within below from a b in
    (subst P (sym rest) at) in_rest found upto behind

-- ---- What is contained.
contains_map : {X Y : Type 0} (f : X → Y) (xs : List X) (x : X) → Contains xs x → Contains (map f xs) (f x)
contains_map f [] x h = absurd (contains_none x h)
contains_map {X} f (y ∷ ys) x h = elim (contains_cases y ys x h) [
  | inl e ↦ (let P : X → Type 0 = λ z. Contains (f y ∷ map f ys) (f z) in subst P e (contains_first (f y) (map f ys)))
  | inr more ↦ contains_later (f y) (map f ys) (f x) (contains_map f ys x more)
]

chosen : {X : Type 0} (b : Bool) (y : X) (ys : List X) → b ≡ true → Contains (cond b (y ∷ ys) ys) y
chosen {X} b y ys e = (let P : Bool → Type 0 = λ c. Contains (cond c (y ∷ ys) ys) y in subst P (sym e) (contains_first y ys))

unchosen : {X : Type 0} (b : Bool) (y x : X) (ys : List X) → Contains ys x → Contains (cond b (y ∷ ys) ys) x
unchosen true y x ys h = contains_later y ys x h
unchosen false y x ys h = h

contains_filter : {X : Type 0} (p : X → Bool) (xs : List X) (x : X) → p x ≡ true → Contains xs x → Contains (filter p xs) x
contains_filter p [] x px h = absurd (contains_none x h)
contains_filter {X} p (y ∷ ys) x px h = elim (contains_cases y ys x h) [
  | inl e ↦ (let P : X → Type 0 = λ z. Contains (filter p (y ∷ ys)) z in subst P e (chosen (p y) y (filter p ys) (ap p e ∙ px)))
  | inr more ↦ unchosen (p y) y x (filter p ys) (contains_filter p ys x px more)
]

contains_place : (first : ℕ) (uses : List Access) (a : Access) → first < a.place → Contains uses a → Contains (places_behind first uses) a.place
unfolding places_behind
contains_place first [] a lt h = absurd (contains_none a h)
contains_place first (b ∷ bs) a lt h = elim (contains_cases b bs a h) [
  | inl e ↦ (let P : Access → Type 0 = λ x. Contains (places_behind first (b ∷ bs)) x.place in
      let Q : Access → Type 0 = λ x. first < x.place in
      subst P e (chosen (nat_lt first b.place) b.place (places_behind first bs) (lt-ltb first b.place (subst Q (sym e) lt))))
  | inr more ↦ unchosen (nat_lt first b.place) b.place a.place (places_behind first bs) (contains_place first bs a lt more)
]

-- an access to a thing is among the users of things where that is one of them
contains_user : (first : ℕ) (accesses : List Access) (xs : List ℤ) (x : ℤ) (j : ℕ) → first < j → Contains accesses (access j x) → Contains xs x → Contains (users first accesses xs) j
unfolding users
contains_user first accesses [] x j lt h c = absurd (contains_none x c)
contains_user first accesses (y ∷ ys) x j lt h c = elim (contains_cases y ys x c) [
  | inl e ↦ Contains-append_left (places_behind first (filter (has_key (unsigned_abs y)) accesses)) (users first accesses ys) j
      (contains_place first (filter (has_key (unsigned_abs y)) accesses) (access j x) lt
      (contains_filter (has_key (unsigned_abs y)) accesses (access j x) (eq-eqb (unsigned_abs x) (unsigned_abs y) (ap unsigned_abs (sym e))) h))
  | inr more ↦ Contains-append_right (places_behind first (filter (has_key (unsigned_abs y)) accesses)) (users first accesses ys) j (contains_user first accesses ys x j lt h more)
]

one_event : (d e : Event) → Some d ≡ Some e → d ≡ e
one_event d e q = cc

-- each write of an event is among the accesses
contains_write : (k : ℕ) (events : List Event) (i j : ℕ) (e : Event) (x : ℤ) → k + i ≡ j → slice_get events i ≡ Some e → Contains e.writes x → Contains (writes_from k events) (access j x)
unfolding writes_from
contains_write k [] i j e x at g h = absurd (none-some e g)
contains_write k (d ∷ ds) zero j e x at g h =
    let P : Event → Type 0 = λ y. Contains y.writes x in
    let Q : ℕ → Type 0 = λ n. Contains (map (access k) d.writes ++ writes_from (k + 1) ds) (access n x) in
    let same : k ≡ j = omega (arith, at) in
    subst Q same (Contains-append_left (map (access k) d.writes) (writes_from (k + 1) ds) (access k x) (contains_map (access k) d.writes x (subst P (sym (one_event d e g)) h)))
contains_write k (d ∷ ds) (suc i) j e x at g h = Contains-append_right (map (access k) d.writes) (writes_from (k + 1) ds) (access j x) (contains_write (k + 1) ds i j e x (omega (arith, at)) g h)

-- and so is each read or write among all of them
contains_touch : (k : ℕ) (events : List Event) (i j : ℕ) (e : Event) (x : ℤ) → k + i ≡ j → slice_get events i ≡ Some e → Contains e.reads x ⊎ Contains e.writes x → Contains (touches_from k events) (access j x)
unfolding touches_from
contains_touch k [] i j e x at g h = absurd (none-some e g)
contains_touch k (d ∷ ds) zero j e x at g h =
    let P : Event → Type 0 = λ y. Contains y.reads x ⊎ Contains y.writes x in
    let Q : ℕ → Type 0 = λ n. Contains (map (access k) d.reads ++ (map (access k) d.writes ++ touches_from (k + 1) ds)) (access n x) in
    let same : k ≡ j = omega (arith, at) in
    subst Q same (elim (subst P (sym (one_event d e g)) h) [
      | inl read ↦ Contains-append_left (map (access k) d.reads) (map (access k) d.writes ++ touches_from (k + 1) ds) (access k x) (contains_map (access k) d.reads x read)
      | inr written ↦ Contains-append_right (map (access k) d.reads) (map (access k) d.writes ++ touches_from (k + 1) ds) (access k x)
          (Contains-append_left (map (access k) d.writes) (touches_from (k + 1) ds) (access k x) (contains_map (access k) d.writes x written))
    ])
contains_touch k (d ∷ ds) (suc i) j e x at g h = Contains-append_right (map (access k) d.reads) (map (access k) d.writes ++ touches_from (k + 1) ds) (access j x)
    (Contains-append_right (map (access k) d.writes) (touches_from (k + 1) ds) (access j x) (contains_touch (k + 1) ds i j e x (omega (arith, at)) g h))

-- ---- All places are those of events.
abbrev IsAt : ℕ → Access → Type 0
IsAt n a = a.place < n

writes_within : (n k : ℕ) (events : List Event) → k + length events ≤ n → All (IsAt n) (writes_from k events)
unfolding writes_from
writes_within n k [] le = All-nil (IsAt n)
writes_within n k (e ∷ es) le = All-append (IsAt n) (map (access k) e.writes) (writes_from (k + 1) es) (All-map (IsAt n) (access k) e.writes (λ i d lt. omega (arith, le))) (writes_within n (k + 1) es (omega (arith, le)))

touches_within : (n k : ℕ) (events : List Event) → k + length events ≤ n → All (IsAt n) (touches_from k events)
unfolding touches_from
touches_within n k [] le = All-nil (IsAt n)
touches_within n k (e ∷ es) le = All-append (IsAt n) (map (access k) e.reads) (map (access k) e.writes ++ touches_from (k + 1) es) (All-map (IsAt n) (access k) e.reads (λ i d lt. omega (arith, le)))
    (All-append (IsAt n) (map (access k) e.writes) (touches_from (k + 1) es) (All-map (IsAt n) (access k) e.writes (λ i d lt. omega (arith, le))) (touches_within n (k + 1) es (omega (arith, le))))

abbrev IsBehind : ℕ → ℕ → ℕ → Type 0
IsBehind first n j = (first < j) × (j < n)

places_within : (first n : ℕ) (uses : List Access) → All (IsAt n) uses → All (IsBehind first n) (places_behind first uses)
unfolding places_behind
places_within first n [] h = All-nil (IsBehind first n)
places_within first n (a ∷ uses) h = by_test (nat_lt first a.place) refl (places_within first n uses (All-tail (IsAt n) a uses h))
  where
    by_test : (b : Bool) → nat_lt first a.place ≡ b → All (IsBehind first n) (places_behind first uses) → All (IsBehind first n) (cond b (a.place ∷ places_behind first uses) (places_behind first uses))
    by_test true e rest = All-cons (IsBehind first n) a.place (places_behind first uses) (ltb-true first a.place e, All-head (IsAt n) a uses h) rest
    by_test false e rest = rest

users_within : (first n : ℕ) (accesses : List Access) (xs : List ℤ) → All (IsAt n) accesses → All (IsBehind first n) (users first accesses xs)
unfolding users
users_within first n accesses [] h = All-nil (IsBehind first n)
users_within first n accesses (x ∷ xs) h = All-append (IsBehind first n) (places_behind first (filter (has_key (unsigned_abs x)) accesses)) (users first accesses xs)
    (places_within first n (filter (has_key (unsigned_abs x)) accesses) (All-filter (has_key (unsigned_abs x)) (IsAt n) accesses h)) (users_within first n accesses xs h)

-- ---- Events that conflict share a thing.
record Shares (some others : List ℤ) : Type 0 where
  pub thing : ℤ
  pub one : Contains some thing
  pub other : Contains others thing

shares : (some others : List ℤ) → share some others ≡ true → Shares some others
shares some others h =
    let a = Any-from_list_any (λ x. list_any (λ y. int_eq y x) others) some h in
    let b = Any-from_list_any (λ y. int_eq y a.1) others a.4 in
    let P : ℤ → Type 0 = λ y. Contains others y in
    record { thing = a.1; one = (a.0, a.2, a.3); other = subst P ((Decides-int_eq b.1 a.1).0 b.4) (b.0, b.2, b.3) }

pub seconds_are : (events : List Event) (first : ℕ) (d : Event) (index : Accesses) (l : List ℕ) → slice_get events first ≡ Some d → AreAccesses events index
    → IsPermutation (users first index.touches d.writes ++ users first index.writes d.reads) l → IsNonDecreasing l → AreSeconds events first l
seconds_are events first d index l gd are same rising = record {
  rising = rising;
  within = All-permutation (IsBehind first n) (some ++ others) l same (All-append (IsBehind first n) some others
      (users_within first n index.touches d.writes (All-permutation (IsAt n) (touches_from 0 events) index.touches are.touches (touches_within n 0 events (omega arith))))
      (users_within first n index.writes d.reads (All-permutation (IsAt n) (writes_from 0 events) index.writes are.writes (writes_within n 0 events (omega arith)))));
  whole = λ j a e lt ga ge c. (let P : Event → Type 0 = λ x. conflict x e ≡ true in
      Contains-permutation (some ++ others) l j same (is_user j e lt ge (subst P (one_event a d (sym ga ∙ gd)) c)));
}
  where
    n : ℕ
    n = length events

    some : List ℕ
    some = users first index.touches d.writes

    others : List ℕ
    others = users first index.writes d.reads

    by_write : (j : ℕ) (e : Event) (x : ℤ) → first < j → slice_get events j ≡ Some e → Contains d.writes x → Contains e.reads x ⊎ Contains e.writes x → Contains (some ++ others) j
    by_write j e x lt ge c h = Contains-append_left some others j (contains_user first index.touches d.writes x j lt
        (Contains-permutation (touches_from 0 events) index.touches (access j x) are.touches (contains_touch 0 events j j e x (omega arith) ge h)) c)

    by_read : (j : ℕ) (e : Event) (x : ℤ) → first < j → slice_get events j ≡ Some e → Contains d.reads x → Contains e.writes x → Contains (some ++ others) j
    by_read j e x lt ge c h = Contains-append_right some others j (contains_user first index.writes d.reads x j lt
        (Contains-permutation (writes_from 0 events) index.writes (access j x) are.writes (contains_write 0 events j j e x (omega arith) ge h)) c)

    is_user : (j : ℕ) (e : Event) → first < j → slice_get events j ≡ Some e → conflict d e ≡ true → Contains (some ++ others) j
    is_user j e lt ge c = elim (or_cases (share d.writes e.writes || share d.writes e.reads) (share d.reads e.writes) c) [
      | inl more ↦ (elim (or_cases (share d.writes e.writes) (share d.writes e.reads) more) [
        | inl w ↦ (let s = shares d.writes e.writes w in by_write j e s.thing lt ge s.one (inr s.other))
        | inr r ↦ (let s = shares d.writes e.reads r in by_write j e s.thing lt ge s.one (inl s.other))
      ])
      | inr w ↦ (let s = shares d.reads e.writes w in by_read j e s.thing lt ge s.one s.other)
    ]
