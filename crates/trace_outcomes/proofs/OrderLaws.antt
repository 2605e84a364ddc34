-- Outcomes by how early they differ from the first: the same ones, and they rise.
use Rattle.std.proofs.Common.{◌≡◌, ◌⊎◌, ℕ, zero, suc, ◌+◌, ◌-◌, ◌<◌, ◌≤◌, Bool, true, false, not, List, [], ◌∷◌, ◌++◌, length, append_assoc, refl, sym, ap, ◌∙◌, subst, arith, inl, inr}
use Rattle.std.proofs.lemmas.List.{map-append}
use Rattle.std.specs.Prelude.{map, filter, cond, if◌then◌else◌}
use Rattle.std.proofs.lemmas.Bool.{not-true}
use Rattle.trace_outcomes.specs.Outcomes.{OutcomeValue, agrees_at, in_order, key_of, rising}
use Rattle.trace_outcomes.specs.Plays.{IsAmong, AreDistinct, AreRising, RiseByDifference, difference_from}
use Rattle.trace_outcomes.proofs.AmongLaws.{among_back, among_either, among_front, among_passing, passing_among}

-- those that differ from the first outcome at a place, those that agree, and what comes of these line after line
abbrev apart : OutcomeValue → ℕ → List OutcomeValue → List OutcomeValue
apart first place os = filter (λ o. not (agrees_at first place o)) os

abbrev alike : OutcomeValue → ℕ → List OutcomeValue → List OutcomeValue
alike first place os = filter (agrees_at first place) os

abbrev behind : OutcomeValue → ℕ → ℕ → List OutcomeValue → List OutcomeValue
behind first place more os = rising first (place + 1) more (alike first place os)

-- ---- The same ones.
rising_among : (first : OutcomeValue) (more place : ℕ) (x : OutcomeValue) (os : List OutcomeValue) → IsAmong x (rising first place more os) → IsAmong x os
rising_among first zero place x os h = h
rising_among first (suc more) place x os h = by_part (λ g. rising_among first more (place + 1) x (alike first place os) g) (among_either x (apart first place os) (behind first place more os) h)
  where
    by_part : (IsAmong x (behind first place more os) → IsAmong x (alike first place os)) → IsAmong x (apart first place os) ⊎ IsAmong x (behind first place more os) → IsAmong x os
    by_part on (inl g) = (among_passing (λ o. not (agrees_at first place o)) x os g).among
    by_part on (inr g) = (among_passing (agrees_at first place) x os (on g)).among

among_rising : (first : OutcomeValue) (more place : ℕ) (x : OutcomeValue) (os : List OutcomeValue) → IsAmong x os → IsAmong x (rising first place more os)
among_rising first zero place x os h = h
among_rising first (suc more) place x os h = by_test (λ g. among_rising first more (place + 1) x (alike first place os) g) (agrees_at first place x) refl
  where
    by_test : (IsAmong x (alike first place os) → IsAmong x (behind first place more os)) → (b : Bool) → agrees_at first place x ≡ b → IsAmong x (apart first place os ++ behind first place more os)
    by_test on true q = among_back x (apart first place os) (behind first place more os) (on (passing_among (agrees_at first place) x os q h))
    by_test on false q = among_front x (apart first place os) (behind first place more os) (passing_among (λ o. not (agrees_at first place o)) x os (ap not q) h)

pub ordered_among : (x : OutcomeValue) (os : List OutcomeValue) → IsAmong x (in_order os) → IsAmong x os
ordered_among x [] h = h
ordered_among x (o ∷ os) (inl e) = inl e
ordered_among x (o ∷ os) (inr h) = inr (rising_among o (length o.answers) 0 x os h)

pub among_ordered : (x : OutcomeValue) (os : List OutcomeValue) → IsAmong x os → IsAmong x (in_order os)
among_ordered x [] h = h
among_ordered x (o ∷ os) (inl e) = inl e
among_ordered x (o ∷ os) (inr h) = inr (among_rising o (length o.answers) 0 x os h)

-- ---- Line after line.
pub rising_on : (first : OutcomeValue) (n place : ℕ) (done left differing agreeing all : List OutcomeValue) → place < n → differing ≡ filter (λ o. not (agrees_at first place o)) left → agreeing ≡ filter (agrees_at first place) left → done ++ rising first place (n - place) left ≡ all
    → (done ++ differing) ++ rising first (place + 1) (n - (place + 1)) agreeing ≡ all
rising_on first n place done left differing agreeing all lt d a h =
    let next : n - place ≡ suc (n - (place + 1)) = omega (arith, lt) in
    append_assoc done differing (rising first (place + 1) (n - (place + 1)) agreeing)
    ∙ ap (λ (xs : List OutcomeValue). done ++ (xs ++ rising first (place + 1) (n - (place + 1)) agreeing)) d
    ∙ ap (λ (xs : List OutcomeValue). done ++ (filter (λ o. not (agrees_at first place o)) left ++ rising first (place + 1) (n - (place + 1)) xs)) a
    ∙ ap (λ (m : ℕ). done ++ rising first place m left) (sym next)
    ∙ h

pub rising_over : (first : OutcomeValue) (n place : ℕ) (done left all : List OutcomeValue) → n - place ≡ 0 → done ++ rising first place (n - place) left ≡ all → done ++ left ≡ all
rising_over first n place done left all z h = ap (λ (m : ℕ). done ++ rising first place m left) (sym z) ∙ h

-- ---- Each once.
-- an outcome with this key, among these
record IsKeyOf (key : List ℕ) (os : List OutcomeValue) : Type 0 where
  outcome : OutcomeValue
  among : IsAmong outcome os
  same : key_of outcome ≡ key

key_among : (o : OutcomeValue) (os : List OutcomeValue) → IsAmong o os → IsAmong (key_of o) (map key_of os)
key_among o [] h = absurd h
key_among o (x ∷ xs) (inl e) = inl (ap key_of e)
key_among o (x ∷ xs) (inr h) = inr (key_among o xs h)

of_key : (key : List ℕ) (os : List OutcomeValue) → IsAmong key (map key_of os) → IsKeyOf key os
of_key key [] h = absurd h
of_key key (x ∷ xs) (inl e) = record { outcome = x; among = inl refl; same = e }
of_key key (x ∷ xs) (inr h) = let k = of_key key xs h in record { outcome = k.outcome; among = inr k.among; same = k.same }

-- outcomes with one key are one, where no two are alike
one_of_key : (a b : OutcomeValue) (os : List OutcomeValue) → AreDistinct (map key_of os) → IsAmong a os → IsAmong b os → key_of a ≡ key_of b → a ≡ b
one_of_key a b [] d i j h = absurd i
one_of_key a b (x ∷ xs) d (inl e) (inl f) h = sym e ∙ f
one_of_key a b (x ∷ xs) d (inl e) (inr j) h =
    let P : List ℕ → Type 0 = λ k. IsAmong k (map key_of xs) in
    absurd (d.0 (subst P (sym (ap key_of e ∙ h)) (key_among b xs j)))
one_of_key a b (x ∷ xs) d (inr i) (inl f) h =
    let P : List ℕ → Type 0 = λ k. IsAmong k (map key_of xs) in
    absurd (d.0 (subst P (h ∙ sym (ap key_of f)) (key_among a xs i)))
one_of_key a b (x ∷ xs) d (inr i) (inr j) h = one_of_key a b xs d.1 i j h

distinct_passing : (p : OutcomeValue → Bool) (os : List OutcomeValue) → AreDistinct (map key_of os) → AreDistinct (map key_of (filter p os))
distinct_passing p [] d = tt
distinct_passing p (x ∷ xs) d = by_test (distinct_passing p xs d.1) (p x)
  where
    alone : IsAmong (key_of x) (map key_of (filter p xs)) → ⊥
    alone h =
        let k = of_key (key_of x) (filter p xs) h in
        let P : List ℕ → Type 0 = λ key. IsAmong key (map key_of xs) in
        d.0 (subst P k.same (key_among k.outcome xs (among_passing p k.outcome xs k.among).among))

    by_test : AreDistinct (map key_of (filter p xs)) → (b : Bool) → AreDistinct (map key_of (cond b (x ∷ filter p xs) (filter p xs)))
    by_test on true = (alone, on)
    by_test on false = on

distinct_behind : (xs ys : List (List ℕ)) → AreDistinct xs → AreDistinct ys → ((k : List ℕ) → IsAmong k xs → IsAmong k ys → ⊥) → AreDistinct (xs ++ ys)
distinct_behind [] ys d e other = e
distinct_behind (x ∷ xs) ys d e other = (λ h. by_part (among_either x xs ys h), distinct_behind xs ys d.1 e (λ k i j. other k (inr i) j))
  where
    by_part : IsAmong x xs ⊎ IsAmong x ys → ⊥
    by_part (inl h) = d.0 h
    by_part (inr h) = other x (inl refl) h

distinct_rising : (first : OutcomeValue) (more place : ℕ) (os : List OutcomeValue) → AreDistinct (map key_of os) → AreDistinct (map key_of (rising first place more os))
distinct_rising first zero place os d = d
distinct_rising first (suc more) place os d =
    let P : List (List ℕ) → Type 0 = λ ks. AreDistinct ks in
    subst P (sym (map-append key_of (apart first place os) (behind first place more os)))
    (distinct_behind (map key_of (apart first place os)) (map key_of (behind first place more os))
    (distinct_passing (λ o. not (agrees_at first place o)) os d)
    (distinct_rising first more (place + 1) (alike first place os) (distinct_passing (agrees_at first place) os d))
    no_other)
  where
    no_other : (k : List ℕ) → IsAmong k (map key_of (apart first place os)) → IsAmong k (map key_of (behind first place more os)) → ⊥
    no_other k i j =
        let a = of_key k (apart first place os) i in
        let b = of_key k (behind first place more os) j in
        let pa = among_passing (λ o. not (agrees_at first place o)) a.outcome os a.among in
        let pb = among_passing (agrees_at first place) b.outcome os (rising_among first more (place + 1) b.outcome (alike first place os) b.among) in
        let one : a.outcome ≡ b.outcome = one_of_key a.outcome b.outcome os d pa.among pb.among (a.same ∙ sym b.same) in
        let both : true ≡ false = sym pb.passes ∙ sym (ap (agrees_at first place) one) ∙ not-true (agrees_at first place a.outcome) pa.passes in
        cc

pub ordered_distinct : (os : List OutcomeValue) → AreDistinct (map key_of os) → AreDistinct (map key_of (in_order os))
ordered_distinct [] d = d
ordered_distinct (o ∷ os) d = (alone, distinct_rising o (length o.answers) 0 os d.1)
  where
    alone : IsAmong (key_of o) (map key_of (rising o 0 (length o.answers) os)) → ⊥
    alone h =
        let k = of_key (key_of o) (rising o 0 (length o.answers) os) h in
        let P : List ℕ → Type 0 = λ key. IsAmong key (map key_of os) in
        d.0 (subst P k.same (key_among k.outcome os (rising_among o (length o.answers) 0 k.outcome os k.among)))

-- ---- They rise.
rising_level : (f : OutcomeValue → ℕ) (n : ℕ) (xs : List OutcomeValue) → ((x : OutcomeValue) → IsAmong x xs → f x ≡ n) → AreRising f xs
rising_level f n [] h = tt
rising_level f n (x ∷ xs) h = (λ y i. omega (arith, h x (inl refl), h y (inr i)), rising_level f n xs (λ y i. h y (inr i)))

rising_same : (f g : OutcomeValue → ℕ) (xs : List OutcomeValue) → ((x : OutcomeValue) → IsAmong x xs → f x ≡ g x) → AreRising g xs → AreRising f xs
rising_same f g [] h r = tt
rising_same f g (x ∷ xs) h r = (λ y i. omega (arith, h x (inl refl), h y (inr i), r.0 y i), rising_same f g xs (λ y i. h y (inr i)) r.1)

rising_behind : (f : OutcomeValue → ℕ) (xs ys : List OutcomeValue) → AreRising f xs → AreRising f ys → ((x y : OutcomeValue) → IsAmong x xs → IsAmong y ys → f x ≤ f y) → AreRising f (xs ++ ys)
rising_behind f [] ys r s h = s
rising_behind f (x ∷ xs) ys r s h = (λ y i. by_part y (among_either y xs ys i), rising_behind f xs ys r.1 s (λ a b i j. h a b (inr i) j))
  where
    by_part : (y : OutcomeValue) → IsAmong y xs ⊎ IsAmong y ys → f x ≤ f y
    by_part y (inl i) = r.0 y i
    by_part y (inr j) = h x y (inl refl) j

from_place : (first : OutcomeValue) (more place : ℕ) (o : OutcomeValue) → place ≤ difference_from first place more o
from_place first zero place o = omega arith
from_place first (suc more) place o = by_test (from_place first more (place + 1) o) (agrees_at first place o)
  where
    by_test : place + 1 ≤ difference_from first (place + 1) more o → (b : Bool) → place ≤ (if b then difference_from first (place + 1) more o else place)
    by_test on true = omega (arith, on)
    by_test on false = omega arith

rising_rises : (first : OutcomeValue) (more place : ℕ) (os : List OutcomeValue) → AreRising (difference_from first place more) (rising first place more os)
rising_rises first zero place os = rising_level (difference_from first place zero) place os (λ x i. refl)
rising_rises first (suc more) place os =
    rising_behind (difference_from first place (suc more)) (apart first place os) (behind first place more os)
    (rising_level (difference_from first place (suc more)) place (apart first place os) here)
    (rising_same (difference_from first place (suc more)) (difference_from first (place + 1) more) (behind first place more os) later (rising_rises first more (place + 1) (alike first place os)))
    (λ x y i j. omega (arith, here x i, from_place first (suc more) place y))
  where
    here : (x : OutcomeValue) → IsAmong x (apart first place os) → difference_from first place (suc more) x ≡ place
    here x i = ap (λ (b : Bool). if b then difference_from first (place + 1) more x else place) (not-true (agrees_at first place x) (among_passing (λ o. not (agrees_at first place o)) x os i).passes)

    later : (x : OutcomeValue) → IsAmong x (behind first place more os) → difference_from first place (suc more) x ≡ difference_from first (place + 1) more x
    later x i = ap (λ (b : Bool). if b then difference_from first (place + 1) more x else place) (among_passing (agrees_at first place) x os (rising_among first more (place + 1) x (alike first place os) i)).passes

pub ordered_rise : (os : List OutcomeValue) → RiseByDifference (in_order os)
ordered_rise [] = tt
ordered_rise (o ∷ os) = rising_rises o (length o.answers) 0 os
