-- The object of a name once another name was put.
use Rattle.std.proofs.Common.{◌≡◌, ◌≢◌, ℕ, true, false, cond, inl, inr, List, [], ◌∷◌, refl, sym, ap, ◌∙◌, arith, Some}
use Rattle.std.specs.List.{find}
use Rattle.std.proofs.lemmas.Bool.{cases_eq, cases_lt, cond-false, cond-true, eq-eqb, ne_eqb}
use Rattle.share_group.specs.Names.{is_of, object_in, object_of, put}
use Rattle.share_group.specs.declared.names.Name.{Name}
use Rattle.share_group.proofs.NameLaws.{put-less, put-more, put-same}

first_found : (e : Name) (xs : List Name) → find (is_of e.name) (e ∷ xs) ≡ Some e
first_found e xs = cond-true (is_of e.name e) (Some e) (find (is_of e.name) xs) (eq-eqb e.name e.name refl)

passed : (k : ℕ) (x : Name) (xs : List Name) → x.name ≢ k → find (is_of k) (x ∷ xs) ≡ find (is_of k) xs
passed k x xs ne = cond-false (is_of k x) (Some x) (find (is_of k) xs) (ne_eqb x.name k ne)

pub find_put : (e : Name) (xs : List Name) → find (is_of e.name) (put e xs) ≡ Some e
find_put e [] = first_found e []
find_put e (x ∷ xs) = elim (cases_lt e.name x.name) [
  | inl l ↦ ap (find (is_of e.name)) (put-less e x xs l) ∙ first_found e (x ∷ xs)
  | inr l ↦ elim (cases_eq e.name x.name) [
    | inl q ↦ ap (find (is_of e.name)) (put-same e x xs q) ∙ first_found e xs
    | inr ne ↦ ap (find (is_of e.name)) (put-more e x xs (omega arith)) ∙ passed e.name x (put e xs) (λ q. ne (sym q)) ∙ find_put e xs
  ]
]

pub find_put_other : (k : ℕ) (e : Name) (xs : List Name) → e.name ≢ k → find (is_of k) (put e xs) ≡ find (is_of k) xs
find_put_other k e [] ne = passed k e [] ne
find_put_other k e (x ∷ xs) ne = elim (cases_lt e.name x.name) [
  | inl l ↦ ap (find (is_of k)) (put-less e x xs l) ∙ passed k e (x ∷ xs) ne
  | inr l ↦ elim (cases_eq e.name x.name) [
    | inl q ↦ ap (find (is_of k)) (put-same e x xs q) ∙ passed k e xs ne ∙ sym (passed k x xs (λ r. ne (q ∙ r)))
    | inr other ↦ ap (find (is_of k)) (put-more e x xs (omega arith)) ∙ ap (λ o. cond (is_of k x) (Some x) o) (find_put_other k e xs ne)
  ]
]

pub object_put : (name x : ℕ) (xs : List Name) → object_of name (put (record { name = name; object = Some x }) xs) ≡ Some x
object_put name x xs = ap object_in (find_put (record { name = name; object = Some x }) xs)

pub object_put_other : (k name x : ℕ) (xs : List Name) → name ≢ k → object_of k (put (record { name = name; object = Some x }) xs) ≡ object_of k xs
object_put_other k name x xs ne = ap object_in (find_put_other k (record { name = name; object = Some x }) xs ne)
