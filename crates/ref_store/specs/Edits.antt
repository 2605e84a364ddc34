-- A node that is changed where it stands.
use Rattle.std.specs.Prelude.{◌≡◌, ℕ, List, Option, None, Some}
use Rattle.ref_store.specs.Kept.{Kept, at, node_at}
use Rattle.ref_store.specs.Changes.{change, with_node}

module _ {K : Type 0} where
  -- y counts as x does: it has the same rank, edges and size, and it is of the same kind and mark
  pub record CountsAs (rank : K → ℕ) (edges : K → List ℕ) (size kind mark : K → ℕ) (x y : K) : Type 0 where
    pub same_rank : rank y ≡ rank x
    pub same_edges : edges y ≡ edges x
    pub same_size : size y ≡ size x
    pub same_kind : kind y ≡ kind x
    pub same_mark : mark y ≡ mark x

  -- the node at a key became another one, and all else is as it was
  pub record Edited (does : K → K → Type 0) (old : List (Option (Kept K))) (id : ℕ) (new : List (Option (Kept K))) : Type 0 where
    pub before : K
    pub after : K
    pub was : node_at old id ≡ Some before
    pub made : does before after
    pub now : new ≡ change (with_node (λ _. after)) old id

  -- what an edit leaves and answers: nothing where no node is stored, and else what the edit does to the node
  abbrev pub Edits : {R : Type 0} → (K → K → R → Type 0) → List (Option (Kept K)) → ℕ → Option R → List (Option (Kept K)) → Type 0
  Edits does old id None new = (at old id ≡ None) × (new ≡ old)
  Edits does old id (Some r) new = Edited (λ x y. does x y r) old id new
