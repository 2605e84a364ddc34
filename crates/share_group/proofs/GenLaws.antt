-- One more generated name.
use Rattle.std.proofs.Common.{◌≡◌, ℕ, ◌+◌, ◌∷◌, [], ◌++◌, List, refl, sym, ◌∙◌, ap, map, pos, ℤ}
use Rattle.std.proofs.lemmas.List.{map-append}
use Rattle.share_group.specs.declared.names.Name.{Name}
use Rattle.share_group.specs.Names.{after, all_without, fresh, given, put, unused_from, Rise}
use Rattle.share_group.specs.Trees.{TreeValue}
use Rattle.share_group.proofs.NameLaws.{after_more, given_more, taken_back}

pub more_tree : (k : ℕ) (xs ys zs : List Name) → ys ≡ after k xs → zs ≡ put (fresh (unused_from 1 ys)) ys → zs ≡ after (k + 1) xs
more_tree k xs ys zs e q = q ∙ ap (λ ws. put (fresh (unused_from 1 ws)) ws) e ∙ sym (after_more k xs)

pub more_names : (k : ℕ) (xs ys : List Name) (ns ms : List ℕ) (n : ℕ) → ys ≡ after k xs → ns ≡ given k xs → n ≡ unused_from 1 ys → ms ≡ ns ++ n ∷ [] → ms ≡ given (k + 1) xs
more_names k xs ys ns ms n e q r w = w ∙ rw (q, r, e) (sym (given_more k xs))

pub more_numbers : (k : ℕ) (xs ys : List Name) (ns ms : List ℤ) (n : ℕ) → ys ≡ after k xs → ns ≡ map (λ i. pos i) (given k xs) → n ≡ unused_from 1 ys → ms ≡ ns ++ pos n ∷ [] → ms ≡ map (λ i. pos i) (given (k + 1) xs)
more_numbers k xs ys ns ms n e q r w = w ∙ rw (q, r, e, given_more k xs, map-append (λ i. pos i) (given k xs) (unused_from 1 (after k xs) ∷ [])) refl

pub back : (k end : ℕ) (xs ys : List Name) (ns : List ℕ) → Rise 1 xs end → ys ≡ after k xs → ns ≡ given k xs → all_without ns ys ≡ xs
back k end xs ys ns r e q = rw (e, q) (taken_back k xs end r)

pub no_more : (xs : List Name) → after 0 xs ≡ xs
unfolding after
no_more xs = refl

pub none_given : (xs : List Name) → given 0 xs ≡ []
unfolding given
none_given xs = refl

abbrev tree : ℕ → ℕ → List Name → TreeValue
tree a b xs = record { low = a; last = b; names = xs }

tree_eq : (a b : ℕ) (xs : List Name) (t : TreeValue) → a ≡ t.low → b ≡ t.last → xs ≡ t.names → tree a b xs ≡ t
tree_eq a b xs t e f g = rw (e, f, g) refl

-- a tree whose generated names were freed again is as it was
pub taken_tree : (k end : ℕ) (s t g r : TreeValue) (ns : List ℕ) → Rise s.low s.names end → s.low ≡ 1 → t.low ≡ s.low → t.last ≡ s.last → t.names ≡ after k s.names → g ≡ t → ns ≡ given k s.names → r ≡ record g { names = all_without ns g.names } → r ≡ s
taken_tree k end s t g r ns rise one low last names same list q =
    let again : all_without ns g.names ≡ s.names = back k end s.names g.names ns (rw one at rise) (ap (λ (u : TreeValue). u.names) same ∙ names) list in
    q ∙ tree_eq g.low g.last (all_without ns g.names) s (ap (λ (u : TreeValue). u.low) same ∙ low) (ap (λ (u : TreeValue). u.last) same ∙ last) again
