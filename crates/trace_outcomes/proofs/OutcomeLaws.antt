-- The outcomes of histories, each once.
use Rattle.std.proofs.Common.{◌≡◌, ◌⊎◌, ℕ, Bool, true, false, ◌||◌, List, [], ◌∷◌, ◌++◌, refl, sym, ap, ◌∙◌, subst, inl, inr}
use Rattle.std.proofs.lemmas.List.{map-append}
use Rattle.std.proofs.lemmas.Slice.Eq.{bytes_eq-Decides}
use Rattle.std.specs.Prelude.{if◌then◌else◌, map}
use Rattle.std.specs.Str.{bytes_eq}
use Rattle.egl_calls.specs.declared.entries.Entry.{Entry}
use Rattle.trace_reader.specs.Order.{IsTrace}
use Rattle.trace_reader.specs.Traces.{TraceValue}
use Rattle.trace_outcomes.specs.Histories.{histories}
use Rattle.trace_outcomes.specs.Outcomes.{OutcomeValue, outcome_of, key_of, is_among, with_outcome, with_all, met, outcomes}
use Rattle.trace_outcomes.specs.Plays.{IsAmong, IsHistory, HasOutcome, IsListed, AreDistinct, RiseByDifference}
use Rattle.trace_outcomes.proofs.AmongLaws.{among_front, among_back, among_either}
use Rattle.trace_outcomes.proofs.OrderLaws.{ordered_among, among_ordered, ordered_distinct, ordered_rise}
use Rattle.trace_outcomes.proofs.PlayLaws.{each_plays, each_is_among}

-- ---- Whether a key is among others.
-- an outcome with this key, among these
record Keyed (key : List ℕ) (found : List OutcomeValue) : Type 0 where
  outcome : OutcomeValue
  among : IsAmong outcome found
  same : key_of outcome ≡ key

keyed_of : (key : List ℕ) (found : List OutcomeValue) → is_among (map key_of found) key ≡ true → Keyed key found
keyed_of key [] h = absurd (let f : false ≡ true = h in cc)
keyed_of key (o ∷ os) h = by_test (λ g. keyed_of key os g) (bytes_eq key (key_of o)) refl h
  where
    by_test : (is_among (map key_of os) key ≡ true → Keyed key os) → (b : Bool) → bytes_eq key (key_of o) ≡ b → (b || is_among (map key_of os) key) ≡ true → Keyed key (o ∷ os)
    by_test on true q g = record { outcome = o; among = inl refl; same = sym ((bytes_eq-Decides key (key_of o)).0 q) }
    by_test on false q g = let k = on g in record { outcome = k.outcome; among = inr k.among; same = k.same }

none_among : (key : List ℕ) (keys : List (List ℕ)) → is_among keys key ≡ false → IsAmong key keys → ⊥
none_among key [] h g = g
none_among key (k ∷ ks) h g = by_test (λ f i. none_among key ks f i) (bytes_eq key k) refl h g
  where
    by_test : (is_among ks key ≡ false → IsAmong key ks → ⊥) → (b : Bool) → bytes_eq key k ≡ b → (b || is_among ks key) ≡ false → IsAmong key (k ∷ ks) → ⊥
    by_test on true q f g = let no : true ≡ false = f in cc
    by_test on false q f (inl e) = let no : true ≡ false = sym ((bytes_eq-Decides key k).1 (sym e)) ∙ q in cc
    by_test on false q f (inr i) = on f i

-- ---- One outcome more.
-- those that are there stay
stays : (o x : OutcomeValue) (found : List OutcomeValue) → IsAmong x found → IsAmong x (with_outcome found o)
stays o x found h = by_test (is_among (map key_of found) (key_of o))
  where
    by_test : (b : Bool) → IsAmong x (if b then found else found ++ o ∷ [])
    by_test true = h
    by_test false = among_front x found (o ∷ []) h

-- it, or one like it, is there
is_there : (o : OutcomeValue) (found : List OutcomeValue) → Keyed (key_of o) (with_outcome found o)
is_there o found = by_test (is_among (map key_of found) (key_of o)) refl
  where
    by_test : (b : Bool) → is_among (map key_of found) (key_of o) ≡ b → Keyed (key_of o) (if b then found else found ++ o ∷ [])
    by_test true q = keyed_of (key_of o) found q
    by_test false q = record { outcome = o; among = among_back o found (o ∷ []) (inl refl); same = refl }

-- and none else has come
comes_from : (o x : OutcomeValue) (found : List OutcomeValue) → IsAmong x (with_outcome found o) → IsAmong x found ⊎ (o ≡ x)
comes_from o x found h = by_test (is_among (map key_of found) (key_of o)) h
  where
    at_end : IsAmong x found ⊎ IsAmong x (o ∷ []) → IsAmong x found ⊎ (o ≡ x)
    at_end (inl g) = inl g
    at_end (inr (inl e)) = inr e
    at_end (inr (inr g)) = absurd g

    by_test : (b : Bool) → IsAmong x (if b then found else found ++ o ∷ []) → IsAmong x found ⊎ (o ≡ x)
    by_test true g = inl g
    by_test false g = at_end (among_either x found (o ∷ []) g)

distinct_more : (xs : List (List ℕ)) (x : List ℕ) → AreDistinct xs → (IsAmong x xs → ⊥) → AreDistinct (xs ++ x ∷ [])
distinct_more [] x d n = (λ h. h, tt)
distinct_more (y ∷ ys) x d n = (λ h. other (among_either y ys (x ∷ []) h), distinct_more ys x d.1 (λ h. n (inr h)))
  where
    other : IsAmong y ys ⊎ IsAmong y (x ∷ []) → ⊥
    other (inl g) = d.0 g
    other (inr (inl e)) = n (inl (sym e))
    other (inr (inr g)) = g

stay_distinct : (o : OutcomeValue) (found : List OutcomeValue) → AreDistinct (map key_of found) → AreDistinct (map key_of (with_outcome found o))
stay_distinct o found d = by_test (is_among (map key_of found) (key_of o)) refl
  where
    by_test : (b : Bool) → is_among (map key_of found) (key_of o) ≡ b → AreDistinct (map key_of (if b then found else found ++ o ∷ []))
    by_test true q = d
    by_test false q =
        let P : List (List ℕ) → Type 0 = λ ks. AreDistinct ks in
        subst P (sym (map-append key_of found (o ∷ []))) (distinct_more (map key_of found) (key_of o) d (none_among (key_of o) (map key_of found) q))

-- ---- Those of histories.
-- a history among these has this outcome
record IsOf (t : TraceValue) (o : OutcomeValue) (journals : List (List Entry)) : Type 0 where
  journal : List Entry
  among : IsAmong journal journals
  outcome : outcome_of t journal ≡ o

all_come : (t : TraceValue) (o : OutcomeValue) (journals : List (List Entry)) (found : List OutcomeValue) → IsAmong o (with_all t found journals) → IsAmong o found ⊎ IsOf t o journals
all_come t o [] found h = inl h
all_come t o (j ∷ js) found h = later (all_come t o js (with_outcome found (outcome_of t j)) h)
  where
    first : IsAmong o found ⊎ (outcome_of t j ≡ o) → IsAmong o found ⊎ IsOf t o (j ∷ js)
    first (inl g) = inl g
    first (inr e) = inr (record { journal = j; among = inl refl; outcome = e })

    later : IsAmong o (with_outcome found (outcome_of t j)) ⊎ IsOf t o js → IsAmong o found ⊎ IsOf t o (j ∷ js)
    later (inl g) = first (comes_from (outcome_of t j) o found g)
    later (inr i) = inr (record { journal = i.journal; among = inr i.among; outcome = i.outcome })

all_stay : (t : TraceValue) (o : OutcomeValue) (journals : List (List Entry)) (found : List OutcomeValue) → IsAmong o found → IsAmong o (with_all t found journals)
all_stay t o [] found h = h
all_stay t o (j ∷ js) found h = all_stay t o js (with_outcome found (outcome_of t j)) (stays (outcome_of t j) o found h)

all_there : (t : TraceValue) (journal : List Entry) (journals : List (List Entry)) (found : List OutcomeValue) → IsAmong journal journals → Keyed (key_of (outcome_of t journal)) (with_all t found journals)
all_there t journal [] found h = absurd h
all_there t journal (j ∷ js) found (inl e) =
    let k = is_there (outcome_of t j) found in
    record {
      outcome = k.outcome;
      among = all_stay t k.outcome js (with_outcome found (outcome_of t j)) k.among;
      same = k.same ∙ ap (λ (x : List Entry). key_of (outcome_of t x)) e;
    }
all_there t journal (j ∷ js) found (inr h) = all_there t journal js (with_outcome found (outcome_of t j)) h

all_distinct : (t : TraceValue) (journals : List (List Entry)) (found : List OutcomeValue) → AreDistinct (map key_of found) → AreDistinct (map key_of (with_all t found journals))
all_distinct t [] found d = d
all_distinct t (j ∷ js) found d = all_distinct t js (with_outcome found (outcome_of t j)) (stay_distinct (outcome_of t j) found d)

-- ---- Those of a trace.
has_outcome : (t : TraceValue) → IsTrace t → (o : OutcomeValue) → IsAmong o [] ⊎ IsOf t o (histories t) → HasOutcome t o
has_outcome t is o (inl g) = absurd g
has_outcome t is o (inr i) = record { journal = i.journal; history = each_plays t is i.journal i.among; outcome = i.outcome }

among_met : (t : TraceValue) (o : OutcomeValue) → IsTrace t → IsAmong o (met t) → HasOutcome t o
unfolding met
among_met t o is h = has_outcome t is o (all_come t o (histories t) [] h)

keyed_met : (t : TraceValue) (journal : List Entry) → IsTrace t → IsHistory t journal → Keyed (key_of (outcome_of t journal)) (met t)
unfolding met
keyed_met t journal is h = all_there t journal (histories t) [] (each_is_among t is journal h)

distinct_met : (t : TraceValue) → AreDistinct (map key_of (met t))
unfolding met
distinct_met t = all_distinct t (histories t) [] tt

-- and in their order
pub sound : (t : TraceValue) (o : OutcomeValue) → IsTrace t → IsAmong o (outcomes t) → HasOutcome t o
unfolding outcomes
sound t o is h = among_met t o is (ordered_among o (met t) h)

pub complete : (t : TraceValue) (journal : List Entry) → IsTrace t → IsHistory t journal → IsListed t journal (outcomes t)
unfolding outcomes
complete t journal is h =
    let k = keyed_met t journal is h in
    record { outcome = k.outcome; among = among_ordered k.outcome (met t) k.among; same = k.same }

pub once : (t : TraceValue) → AreDistinct (map key_of (outcomes t))
unfolding outcomes
once t = ordered_distinct (met t) (distinct_met t)

pub rise : (t : TraceValue) → RiseByDifference (outcomes t)
unfolding outcomes
rise t = ordered_rise (met t)
