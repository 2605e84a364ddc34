-- Outcomes by the set of their keys.
use Rattle.std.proofs.Common.{◌≡◌, ℕ, Bool, true, false, not, ◌||◌, ◌++◌, List, [], ◌∷◌, map, refl, sym, ap, ◌∙◌}
use Rattle.std.proofs.lemmas.List.{map-append}
use Rattle.std.specs.List.{list_any}
use Rattle.std.specs.Prelude.{if◌then◌else◌}
use Rattle.std.specs.Str.{bytes_eq}
use Rattle.trace_outcomes.specs.declared.found.Key.{Key}
use Rattle.trace_outcomes.specs.Outcomes.{OutcomeValue, key_of, is_among, with_outcome}

abbrev pub texts : List Key → List (List ℕ)
texts keys = map (λ k. k.text) keys

list_any-texts : (p : List ℕ → Bool) (keys : List Key) → list_any p (texts keys) ≡ list_any (λ k. p k.text) keys
list_any-texts p [] = refl
list_any-texts p (k ∷ keys) = ap (λ (b : Bool). p k.text || b) (list_any-texts p keys)

twice : (x : Bool) → not (not x) ≡ x
twice true = refl
twice false = refl

pub flipped : (b x r : Bool) → b ≡ not x → b ≡ r → x ≡ not r
flipped b x r h g = sym (twice x) ∙ ap not (sym h) ∙ ap not g

-- an outcome whose key is there already, or isn't
module _ (keys : List Key) (k : Key) (found : List OutcomeValue) (o : OutcomeValue) (all : texts keys ≡ map key_of found) (text : k.text ≡ key_of o) (b : Bool) (h : list_any (λ (x : Key). bytes_eq k.text x.text) keys ≡ b) where
  among_is : is_among (map key_of found) (key_of o) ≡ b
  among_is =
      sym (ap (λ (ks : List (List ℕ)). is_among ks (key_of o)) all)
      ∙ sym (ap (is_among (texts keys)) text)
      ∙ list_any-texts (bytes_eq k.text) keys
      ∙ h

  pub with_is : with_outcome found o ≡ (if b then found else found ++ o ∷ [])
  with_is = ap (λ (x : Bool). if x then found else found ++ o ∷ []) among_is

  pub keys_is : texts (if list_any (λ (x : Key). bytes_eq k.text x.text) keys then keys else keys ++ k ∷ []) ≡ map key_of (if b then found else found ++ o ∷ [])
  keys_is = ap (λ (x : Bool). texts (if x then keys else keys ++ k ∷ [])) h ∙ by_test b
    where
      by_test : (x : Bool) → texts (if x then keys else keys ++ k ∷ []) ≡ map key_of (if x then found else found ++ o ∷ [])
      by_test true = all
      by_test false =
          map-append (λ (x : Key). x.text) keys (k ∷ [])
          ∙ ap (λ (r : List (List ℕ)). r ++ k.text ∷ []) all
          ∙ ap (λ (r : List ℕ). map key_of found ++ r ∷ []) text
          ∙ sym (map-append key_of found (o ∷ []))
