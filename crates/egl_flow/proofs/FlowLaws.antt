-- Pieces that were read, one after another.
use Rattle.std.proofs.Common.{◌≡◌, ℕ, List, ◌++◌, sym, ap, ◌∙◌, append_assoc, Option, None, Some, take, drop, ◌+◌, ◌-◌, ◌<◌, ◌≤◌, length, length-append, arith}
use Rattle.std.proofs.lemmas.List.{take-append-drop, drop-drop}
use Rattle.std.proofs.Math.Seq.{take-add}
use Rattle.egl_flow.specs.Flow.{Gave, Took}
use Rattle.egl_flow.specs.Causes.{GavePast, GaveWithin}

pub gave_more : (old mid new : Option (List ℕ)) (bytes piece : List ℕ) → Gave old bytes mid → Gave mid piece new → Gave old (bytes ++ piece) new
gave_more None mid new bytes piece p q = tt
gave_more (Some x) None new bytes piece p q = absurd p
gave_more (Some x) (Some y) None bytes piece p q = q
gave_more (Some x) (Some y) (Some z) bytes piece p q = p ∙ ap (λ (r : List ℕ). bytes ++ r) q ∙ sym (append_assoc bytes piece z)

-- what a source over bytes gives
pub piece_moved : (bs into rest : List ℕ) (at n : ℕ) → rest ≡ drop at bs → take n into ≡ take n rest → drop at bs ≡ take n into ++ drop (at + n) bs
piece_moved bs into rest at n r e = let d = drop-drop n at bs in let t = take-append-drop n (drop at bs) in let p = ap (take n) r in cc

pub took_more : (old mid new : Option (List ℕ)) (bytes : List ℕ) (at n : ℕ) → Took old (take at bytes) mid → Took mid (take n (drop at bytes)) new → Took old (take (at + n) bytes) new
took_more None mid new bytes at n p q = tt
took_more (Some x) None new bytes at n p q = absurd p
took_more (Some x) (Some y) None bytes at n p q = q
took_more (Some x) (Some y) (Some z) bytes at n p q = q ∙ ap (λ (r : List ℕ). r ++ take n (drop at bytes)) p ∙ append_assoc x (take at bytes) (take n (drop at bytes)) ∙ ap (λ (r : List ℕ). x ++ r) (sym (take-add at n bytes))

-- a piece past the limit, of at most one byte more than there was room for
pub gave_past : (old mid new : Option (List ℕ)) (bytes piece : List ℕ) (limit n : ℕ) → Gave old bytes mid → Gave mid piece new → length piece ≡ n → length bytes ≤ limit → n ≤ limit - length bytes + 1 → limit < length bytes + n → GavePast old new limit (length bytes + n)
gave_past old mid new bytes piece limit n p q e within near past =
    (omega (arith, within, near, past), (bytes ++ piece, length-append bytes piece ∙ ap (λ m. length bytes + m) e, gave_more old mid new bytes piece p q))

pub gave_within : (old mid new : Option (List ℕ)) (bytes piece : List ℕ) (limit n : ℕ) → Gave old bytes mid → Gave mid piece new → length piece ≡ n → length bytes + n ≤ limit → GaveWithin old new limit
gave_within old mid new bytes piece limit n p q e within =
    (bytes ++ piece, omega (arith, length-append bytes piece, e, within), gave_more old mid new bytes piece p q)
