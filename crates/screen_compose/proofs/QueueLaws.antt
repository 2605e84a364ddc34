-- Each move keeps the order of the frames.
use Rattle.std.proofs.Common.{◌≡◌, ◌≢◌, ℕ, zero, suc, true, false, true≢false, List, [], ◌∷◌, ◌++◌, length, set, sym, refl, ap, ◌∙◌, subst, append_assoc, inl, inr, ◌⊎◌}
use mathlib.Core.Option.{some, some-injective, some-ne-none}
use lib.ListN.{get_elem?}
use Rattle.crossbeam_queue.specs.Fifo.{Pushes, Pops, Forks, Merges, Learns}
use Rattle.crossbeam_queue.proofs.Lists.{at_set}
use Rattle.screen_compose.specs.declared.screens.Frame.{Frame}
use Rattle.screen_compose.specs.declared.queues.Side.{Side}
use Rattle.screen_compose.specs.Queues.{AreLast, IsInOrder, Knows, side}

-- a pass that may do nothing knows nothing
idle : (putter taker : ℕ) (put taken : List Frame) (k : ℕ) (v : Side) → v.puts ≡ false → v.takes ≡ false → Knows putter taker put taken k v
idle putter taker put taken k v a b = record {
  puts = λ p. absurd (true≢false (sym p ∙ a));
  takes = λ p. absurd (true≢false (sym p ∙ b));
}

-- one view more, behind all others
last_place : (vs : List Side) (v w : Side) (k : ℕ) → get_elem? (vs ++ v ∷ []) k ≡ some w → (get_elem? vs k ≡ some w) ⊎ ((k ≡ length vs) × (v ≡ w))
last_place [] v w zero e = inr (refl, some-injective v w e)
last_place [] v w (suc k) e = absurd (some-ne-none w (sym e))
last_place (x ∷ xs) v w zero e = inl e
last_place (x ∷ xs) v w (suc k) e = elim (last_place xs v w k e) [
  | inl h ↦ inl h
  | inr h ↦ inr (ap suc h.0, h.1)
]

-- all views, once one was changed
module _ (F : ℕ → Side → Type 0) where
  all_set : (views : List Side) (port : ℕ) (w : Side) → F port w → ((k : ℕ) (u : Side) → k ≢ port → get_elem? views k ≡ some u → F k u) → (k : ℕ) (u : Side) → get_elem? (set views port w) k ≡ some u → F k u
  all_set views port w mine others k u e = elim (at_set views port k w u e) [
    | inl x ↦ subst (λ (y : ℕ × Side). F y.0 y.1) (λ i. (sym x.0 i, x.1 i)) mine
    | inr x ↦ others k u x.0 x.1
  ]

pub begins : IsInOrder [] (side true true [] [] ∷ [])
begins = record {
  putter = 0;
  taker = 0;
  put = [];
  taken = [];
  order = refl;
  knows = λ k v e. elim (last_place [] (side true true [] []) v k e) [
    | inl h ↦ absurd (some-ne-none v (sym h))
    | inr h ↦ subst (λ (y : ℕ × Side). Knows 0 0 [] [] y.0 y.1) (λ i. (sym h.0 i, h.1 i)) (record { puts = λ p. (refl, refl); takes = λ p. (refl, refl) })
  ];
}

pub puts : (n port : ℕ) (v : Side) (x : Frame) → v.puts ≡ true → Pushes IsInOrder n port v x (λ w. w ≡ side v.puts v.takes (v.put ++ x ∷ []) v.taken)
puts n port v x may held views _ h at =
    let w : Side = side v.puts v.takes (v.put ++ x ∷ []) v.taken in
    let mine = h.knows port v at in
    let put : List Frame = h.put ++ x ∷ [] in
    let here = mine.puts may in (
      w,
      record {
        putter = h.putter;
        taker = h.taker;
        put = put;
        taken = h.taken;
        order = ap (λ l. l ++ x ∷ []) h.order ∙ append_assoc h.taken held (x ∷ []);
        knows = all_set (Knows h.putter h.taker put h.taken) views port w
            (record { puts = λ p. (here.0, ap (λ l. l ++ x ∷ []) here.1); takes = mine.takes })
            (λ k u other e. record { puts = λ p. absurd (other (((h.knows k u e).puts p).0 ∙ sym here.0)); takes = (h.knows k u e).takes });
      },
      refl,
    )

pub takes : (port : ℕ) (v : Side) → v.takes ≡ true → Pops IsInOrder port v (λ x w. w ≡ side v.puts v.takes v.put (v.taken ++ x ∷ []))
takes port v may x held views h at =
    let w : Side = side v.puts v.takes v.put (v.taken ++ x ∷ []) in
    let mine = h.knows port v at in
    let taken : List Frame = h.taken ++ x ∷ [] in
    let here = mine.takes may in (
      w,
      record {
        putter = h.putter;
        taker = h.taker;
        put = h.put;
        taken = taken;
        order = h.order ∙ sym (append_assoc h.taken (x ∷ []) held);
        knows = all_set (Knows h.putter h.taker h.put taken) views port w
            (record { puts = mine.puts; takes = λ p. (here.0, ap (λ l. l ++ x ∷ []) here.1) })
            (λ k u other e. record { puts = (h.knows k u e).puts; takes = λ p. absurd (other (((h.knows k u e).takes p).0 ∙ sym here.0)) });
      },
      refl,
    )

pub splits : (port : ℕ) (v : Side) → v.puts ≡ true → v.takes ≡ true → Forks IsInOrder port v (side true false v.put []) (side false true [] v.taken)
splits port v a b held views h at =
    let left : Side = side true false v.put [] in
    let right : Side = side false true [] v.taken in
    let mine = h.knows port v at in
    let p = mine.puts a in
    let t = mine.takes b in
    let vs : List Side = set views port left in
    record {
      putter = h.putter;
      taker = length vs;
      put = h.put;
      taken = h.taken;
      order = h.order;
      knows = λ k u e. elim (last_place vs right u k e) [
        | inl x ↦ all_set (Knows h.putter (length vs) h.put h.taken) views port left
            (record { puts = λ q. p; takes = λ q. absurd (true≢false (sym q)) })
            (λ j y other f. record { puts = (h.knows j y f).puts; takes = λ q. absurd (other (((h.knows j y f).takes q).0 ∙ sym t.0)) }) k u x
        | inr x ↦ subst (λ (y : ℕ × Side). Knows h.putter (length vs) h.put h.taken y.0 y.1) (λ i. (sym x.0 i, x.1 i))
            (record { puts = λ q. absurd (true≢false (sym q)); takes = λ q. (refl, t.1) })
      ];
    }

pub joins : (port : ℕ) (v : Side) (other : ℕ) (u : Side) → v.puts ≡ true → u.takes ≡ true → Merges IsInOrder port v other u (side true true v.put u.taken) (side false false [] [])
joins port v other u a b held views h at two at' =
    let both : Side = side true true v.put u.taken in
    let spent : Side = side false false [] [] in
    let p = (h.knows port v at).puts a in
    let vs : List Side = set views port both in
    let was : get_elem? views other ≡ some u = elim (at_set views port other both u at') [
      | inl x ↦ absurd (two x.0)
      | inr x ↦ x.1
    ] in
    let t = (h.knows other u was).takes b in
    record {
      putter = h.putter;
      taker = port;
      put = h.put;
      taken = h.taken;
      order = h.order;
      knows = all_set (Knows h.putter port h.put h.taken) vs other spent
          (idle h.putter port h.put h.taken other spent refl refl)
          (λ k y apart e. all_set (λ j z. j ≢ other → Knows h.putter port h.put h.taken j z) views port both
          (λ _. record { puts = λ q. p; takes = λ q. (refl, t.1) })
          (λ j z else f away. record { puts = (h.knows j z f).puts; takes = λ q. absurd (away (((h.knows j z f).takes q).0 ∙ sym t.0)) }) k y e apart);
    }

pub last_put : (port : ℕ) (v : Side) → v.puts ≡ true → Learns IsInOrder port v (λ held. AreLast v.put held)
last_put port v a held views h at = (h.taken, ((h.knows port v at).puts a).1 ∙ h.order)

pub first_taken : (port : ℕ) (v : Side) → v.takes ≡ true → Learns IsInOrder port v (λ held. (put : List Frame) × (put ≡ v.taken ++ held))
first_taken port v b held views h at = (h.put, h.order ∙ ap (λ l. l ++ held) (sym ((h.knows port v at).takes b).1))

pub left_over : (port : ℕ) (v : Side) → v.puts ≡ true → v.takes ≡ true → Learns IsInOrder port v (λ held. v.put ≡ v.taken ++ held)
left_over port v a b held views h at = ((h.knows port v at).puts a).1 ∙ h.order ∙ ap (λ l. l ++ held) (sym ((h.knows port v at).takes b).1)
