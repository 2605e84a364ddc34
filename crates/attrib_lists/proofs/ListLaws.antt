-- The laws of attribute lists.
use Rattle.std.proofs.Common.{◌≡◌, ℕ, suc, ◌+◌, ◌-◌, ◌*◌, ◌/◌, ◌%◌, Bool, true, false, List, [], ◌∷◌, ◌++◌, length, reverse, refl, sym, ap, ◌∙◌, arith, cond, eqb, ℤ, Option, None, Some}
use Rattle.std.specs.Prelude.{not, if◌then◌else◌, find}
use Rattle.std.specs.List.{position_from}
use Rattle.std.specs.Option.{option_map, option_or}
use Rattle.std.specs.Ordering.{int_eq}
use Rattle.std.proofs.lemmas.Bool.Decides.{Decides-int_eq, nat_tests}
use Rattle.attrib_lists.specs.declared.allowed.Allowed.{Allowed}
use Rattle.attrib_lists.specs.Ranges.{is_allowed}
use Rattle.attrib_lists.specs.Lists.{pairs, value_of, bad_pair, lone_place, bad_place}
use Rattle.attrib_lists.specs.Laws.{NamesTheFirst, TheLastCounts}
use Rattle.attrib_lists.proofs.PairLaws.{pairs_append, found_last, pushed, differs}

-- the first place, counted from one further on
position_later : (t : ℤ × ℤ → Bool) (k : ℕ) (ps : List (ℤ × ℤ)) → position_from t (k + 1) ps ≡ option_map (λ n. n + 1) (position_from t k ps)
position_later t k [] = refl
position_later t k (p ∷ ps) = go (t p) (position_later t (k + 1) ps)
  where
    go : (b : Bool) → position_from t ((k + 1) + 1) ps ≡ option_map (λ n. n + 1) (position_from t (k + 1) ps) → cond b (Some (k + 1)) (position_from t ((k + 1) + 1) ps) ≡ option_map (λ n. n + 1) (cond b (Some k) (position_from t (k + 1) ps))
    go true h = refl
    go false h = h

-- a list with a pair more has a lone attribute two places further on
lone_later : (n : ℕ) → cond (eqb (suc (suc n) % 2) 1) (Some (suc (suc n) - 1)) None ≡ option_map (λ k. 2 + k) (cond (eqb (n % 2) 1) (Some (n - 1)) None)
lone_later n = go (eqb (n % 2) 1) refl
  where
    go : (b : Bool) → eqb (n % 2) 1 ≡ b → cond (eqb (suc (suc n) % 2) 1) (Some (suc (suc n) - 1)) None ≡ option_map (λ k. 2 + k) (cond (eqb (n % 2) 1) (Some (n - 1)) None)
    go true e =
        let odd : n % 2 ≡ 1 = grind (arith, nat_tests) in
        let same : suc (suc n) % 2 ≡ n % 2 = omega arith in
        ap (λ (m : ℕ). cond (eqb m 1) (Some (suc (suc n) - 1)) None) same
        ∙ ap (λ (b : Bool). cond b (Some (suc (suc n) - 1)) None) e
        ∙ ap Some (omega arith)
        ∙ sym (ap (λ (b : Bool). option_map (λ k. 2 + k) (cond b (Some (n - 1)) None)) e)
    go false e =
        let same : suc (suc n) % 2 ≡ n % 2 = omega arith in
        ap (λ (m : ℕ). cond (eqb m 1) (Some (suc (suc n) - 1)) None) same
        ∙ ap (λ (b : Bool). cond b (Some (suc (suc n) - 1)) None) e
        ∙ sym (ap (λ (b : Bool). option_map (λ k. 2 + k) (cond b (Some (n - 1)) None)) e)

-- the places of both kinds, two further on
both_later : (o l : Option ℕ) → option_or (option_map (λ k. 2 * k) (option_map (λ n. n + 1) o)) (option_map (λ k. 2 + k) l) ≡ option_map (λ k. 2 + k) (option_or (option_map (λ k. 2 * k) o) l)
both_later None l = refl
both_later (Some n) l = ap Some (omega arith)

bad_pair_first : (allowed : Allowed) (a v : ℤ) (rest : List ℤ) (b : Bool) → is_allowed allowed a v ≡ b →
    option_or (option_map (λ k. 2 * k) (cond (not b) (Some 0) (position_from (λ p. not (is_allowed allowed p.0 p.1)) (0 + 1) (pairs rest)))) (lone_place (a ∷ v ∷ rest))
    ≡ (if b then option_map (λ k. 2 + k) (bad_place allowed rest) else Some 0)
unfolding bad_place
bad_pair_first allowed a v rest false e = refl
bad_pair_first allowed a v rest true e =
    ap (λ (o : Option ℕ). option_or (option_map (λ k. 2 * k) o) (lone_place (a ∷ v ∷ rest))) (position_later (λ p. not (is_allowed allowed p.0 p.1)) 0 (pairs rest))
    ∙ ap (λ (l : Option ℕ). option_or (option_map (λ k. 2 * k) (option_map (λ n. n + 1) (bad_pair allowed rest))) l) (lone_later (length rest))
    ∙ both_later (bad_pair allowed rest) (lone_place rest)

bad_first : (allowed : Allowed) (a v : ℤ) (rest : List ℤ) → bad_place allowed (a ∷ v ∷ rest) ≡ (if is_allowed allowed a v then option_map (λ k. 2 + k) (bad_place allowed rest) else Some 0)
unfolding bad_place
bad_first allowed a v rest = bad_pair_first allowed a v rest (is_allowed allowed a v) refl

bad_empty : (allowed : Allowed) → bad_place allowed [] ≡ None
unfolding bad_place
bad_empty allowed = refl

bad_lone : (allowed : Allowed) (a : ℤ) → bad_place allowed (a ∷ []) ≡ Some 0
unfolding bad_place
bad_lone allowed a = refl

pub names_the_first : NamesTheFirst
names_the_first = record { empty = bad_empty; lone = bad_lone; pair = bad_first }

-- a pair behind a list
value_pushed : (list : List ℤ) (a v asked : ℤ) → length list % 2 ≡ 0 → value_of (list ++ a ∷ v ∷ []) asked ≡ cond (int_eq a asked) (Some v) (value_of list asked)
unfolding value_of
value_pushed list a v asked e =
    let even : length list ≡ 2 * (length list / 2) = omega arith in
    ap (λ (ps : List (ℤ × ℤ)). option_map (λ p. p.1) (find (λ p. int_eq p.0 asked) (reverse ps))) (pairs_append (length list / 2) list (a ∷ v ∷ []) even)
    ∙ ap (option_map (λ p. p.1)) (found_last asked a v (pairs list))
    ∙ pushed (int_eq a asked) (a, v) _

value_empty : (asked : ℤ) → value_of [] asked ≡ None
unfolding value_of
value_empty asked = refl

pub the_last_counts : TheLastCounts
the_last_counts = record {
  empty = value_empty;
  last = λ list a v e. value_pushed list a v a e ∙ ap (λ (b : Bool). cond b (Some v) (value_of list a)) ((Decides-int_eq a a).1 refl);
  other = λ list a v asked e n. value_pushed list a v asked e ∙ ap (λ (b : Bool). cond b (Some v) (value_of list asked)) (differs a asked (int_eq a asked) refl n);
}
