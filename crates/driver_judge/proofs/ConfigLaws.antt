-- Attribute lists in our numbers.
use Rattle.std.proofs.Common.{◌≡◌, ◌≤◌, ◌<◌, ℤ, pos, List, [], ◌∷◌, ◌++◌, length, get_or, drop, refl, sym, ap, ◌∙◌, append_assoc, arith}
use Rattle.std.specs.Prelude.{Option, None, Some}
use Rattle.std.specs.Option.{option_map}
use Rattle.std.proofs.lemmas.List.{append-nil}
use Rattle.driver_judge.specs.declared.configs.ConfigPair.{ConfigPair}
use Rattle.driver_judge.specs.Configs.{our_list, our_value, with_value}

-- numbers in front of a list, where there is one
abbrev pub behind : List ℤ → Option (List ℤ) → Option (List ℤ)
behind found o = option_map (λ xs. found ++ xs) o

none_behind : (found : List ℤ) (a : ℤ) (o : Option (List ℤ)) → behind found (with_value a None o) ≡ None
none_behind found a None = refl
none_behind found a (Some xs) = refl

some_behind : (found : List ℤ) (a v : ℤ) (o : Option (List ℤ)) → behind (found ++ a ∷ v ∷ []) o ≡ behind found (with_value a (Some v) o)
some_behind found a v None = refl
some_behind found a v (Some xs) = ap Some (append_assoc found (a ∷ v ∷ []) xs)

-- two more
pub two_more : (pairs : List ConfigPair) (found rest : List ℤ) (v : ℤ) → 2 ≤ length rest → our_value pairs (get_or rest 0 (pos 0)) (get_or rest 1 (pos 0)) ≡ Some v → behind (found ++ get_or rest 0 (pos 0) ∷ v ∷ []) (our_list pairs (drop 2 rest)) ≡ behind found (our_list pairs rest)
unfolding our_list
two_more pairs found [] v h e = absurd (omega arith)
two_more pairs found (a ∷ []) v h e = absurd (omega arith)
two_more pairs found (a ∷ b ∷ rest) v h e = some_behind found a v (our_list pairs rest) ∙ ap (λ o. behind found (with_value a o (our_list pairs rest))) (sym e)

-- a value that is none of ours
pub none_left : (pairs : List ConfigPair) (found rest : List ℤ) → 2 ≤ length rest → our_value pairs (get_or rest 0 (pos 0)) (get_or rest 1 (pos 0)) ≡ None → behind found (our_list pairs rest) ≡ None
unfolding our_list
none_left pairs found [] h e = absurd (omega arith)
none_left pairs found (a ∷ []) h e = absurd (omega arith)
none_left pairs found (a ∷ b ∷ rest) h e = ap (λ o. behind found (with_value a o (our_list pairs rest))) e ∙ none_behind found a (our_list pairs rest)

-- at most one
pub one_left : (pairs : List ConfigPair) (found rest : List ℤ) → length rest ≡ 1 → Some (found ++ get_or rest 0 (pos 0) ∷ []) ≡ behind found (our_list pairs rest)
unfolding our_list
one_left pairs found [] h = absurd (omega arith)
one_left pairs found (a ∷ []) h = refl
one_left pairs found (a ∷ b ∷ rest) h = absurd (omega arith)

pub nothing_left : (pairs : List ConfigPair) (found rest : List ℤ) → length rest < 1 → Some found ≡ behind found (our_list pairs rest)
unfolding our_list
nothing_left pairs found [] h = ap Some (sym (append-nil found))
nothing_left pairs found (a ∷ rest) h = absurd (omega arith)
