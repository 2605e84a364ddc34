-- A node is changed where it stands.
use Rattle.std.proofs.Common.{◌≡◌, ℕ, false, List, [], set, refl, sym, ap, ◌∙◌, Option, None, Some}
use Rattle.std.proofs.lemmas.List.{length-set, set-get_or}
use Rattle.std.specs.Option.{option_map}
use Rattle.ref_store.specs.Kept.{at, node_at, node_in, AllIn}
use Rattle.ref_store.specs.Counts.{count}
use Rattle.ref_store.specs.Changes.{change, with_node}
use Rattle.ref_store.specs.Edits.{Edits}
use Rattle.ref_store.specs.Cells.{values, kept, IsStore, node_of, out_in}
use Rattle.ref_store.specs.CellChanges.{cell_node, CellEdits}
use Rattle.ref_store.specs.declared.cells.Cell.{Cell}
use Rattle.ref_store.specs.declared.cells.Place.TheVariants.{In}
use Rattle.ref_store.proofs.SoundLaws.{cell_sound}
use Rattle.ref_store.proofs.KeptCounts.{edited_counts}
use Rattle.ref_store.proofs.OutLaws.{in_by, node_all_in, store_of}
use Rattle.ref_store.proofs.ValueLaws.{node_is, values_at, values_change}

module _ {K : Type 0} where
  node_kept : (o : Option (Cell K)) → node_in (option_map kept o) ≡ cell_node o
  node_kept None = refl
  node_kept (Some c) = refl

  pub node_values : (cells : List (Option (Cell K))) (n : ℕ) → node_at (values cells) n ≡ cell_node (at cells n)
  node_values cells n = ap node_in (values_at cells n) ∙ node_kept (at cells n)

-- what an edit of a store leaves
pub record Left {K R : Type 0} (edges : K → List ℕ) (rank : K → ℕ) (does : K → K → R → Type 0) (cells : List (Option (Cell K))) (id : ℕ) (r : Option R) (new : List (Option (Cell K))) : Type 0 where
  pub store : IsStore edges rank new
  pub edits : Edits does (values cells) id r (values new)
  pub counts : (n : ℕ) → count edges (values new) n ≡ count edges (values cells) n
  pub all_in : AllIn (values new)

module _ {K R : Type 0} (edges : K → List ℕ) (rank : K → ℕ) (does : K → K → R → Type 0) (same_edges : (x y : K) (r : R) → does x y r → edges y ≡ edges x) (same_rank : (x y : K) (r : R) → does x y r → rank y ≡ rank x) (cells : List (Option (Cell K))) (id : ℕ) (s : IsStore edges rank cells) (a : AllIn (values cells)) where
  left_same : (r : Option R) → Edits does (values cells) id r (values cells) → Left edges rank does cells id r cells
  left_same r h = record { store = s; edits = h; counts = λ n. refl; all_in = a }

  left_edited : (c : Cell K) (y : K) (r : R) → at cells id ≡ Some c → out_in (Some c) ≡ false → does (node_of c.place) y r → Left edges rank does cells id (Some r) (set cells id (Some (record c { place = In y })))
  left_edited c y r e i d =
      let f = λ (x : K). y in
      let v : values (set cells id (Some (record c { place = In y }))) ≡ change (with_node f) (values cells) id = values_change (with_node f) cells id c (Some (record c { place = In y })) e (ap (λ b. Some (record { node = y; outside = c.outside; is_out = b })) (sym i)) in
      let all : AllIn (values (set cells id (Some (record c { place = In y })))) = in_by _ (change (with_node f) (values cells) id) v (node_all_in f (values cells) id a) in
      let was : node_at (values cells) id ≡ Some (node_of c.place) = node_is cells id c e in
      record {
        store = store_of edges rank cells _ s (cell_sound edges rank cells id c (record c { place = In y }) [] e refl (same_edges (node_of c.place) y r d) (same_rank (node_of c.place) y r d) s.sound) all (length-set cells id (Some (record c { place = In y })));
        edits = record { before = node_of c.place; after = y; was = was; made = d; now = v };
        counts = λ n. rw v (edited_counts edges y (values cells) id (λ x h. let q : node_of c.place ≡ x = (let z : Some (node_of c.place) ≡ Some x = sym was ∙ h in cc) in same_edges (node_of c.place) y r d ∙ ap edges q) n);
        all_in = all;
      }

  pub left_by : (o : Option (Cell K)) (r : Option R) (w : Option (Cell K)) → at cells id ≡ o → out_in o ≡ false → CellEdits does o r w → Left edges rank does cells id r (set cells id w)
  left_by None None w e i d = rw (d, ← e) (rw (set-get_or cells id None) (left_same None (values_at cells id ∙ ap (option_map kept) e, refl)))
  left_by None (Some r) w e i d = absurd d
  left_by (Some c) None w e i d = absurd d
  left_by (Some c) (Some r) w e i d = rw d.2 (left_edited c d.0 r e i d.1)
