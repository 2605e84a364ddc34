-- The numbers of a call that asks or sets the state of its context alone have 32 bits.
use Rattle.std.proofs.Common.{◌≡◌, ℕ, zero, suc, ◌+◌, Bool, true, false, ◌&&◌, ◌||◌, ◌==◌, cond, ℤ, pos, negsuc, ◌≤ℤ◌, List, [], ◌∷◌, get_or, refl, arith, rules, to_z, of_z}
use Rattle.std.specs.Prelude.{int_lt, All}
use Rattle.std.specs.Int.{w64}
use Rattle.std.proofs.lemmas.Int.{ints, to_z-of_z}
use Rattle.std.proofs.lemmas.Bool.{and_right}
use Rattle.egl_calls.proofs.Truths.{neither_first, neither_second}
use Rattle.egl_calls.specs.declared.kinds.Kind.{Kind}
use Rattle.egl_calls.specs.declared.kinds.Kind.TheVariants.{Egl, Gl, Own}
use Rattle.egl_calls.specs.Ranges.{IsNumber, IsArgument, AreArguments, is_client_wait}
use Rattle.context_state.specs.Kinds.{is_context_call}
use Rattle.context_state.specs.Parts.{IsBox}

no_wait : (k : Kind) → is_context_call k ≡ true → is_client_wait k ≡ false
no_wait (Egl e) h = absurd (cc)
no_wait (Gl g) h = refl
no_wait (Own o) h = refl

lower : (b : Bool) (z : ℤ) → b ≡ false → z ≤ℤ pos (cond b 9223372036854775807 4294967295) → z ≤ℤ pos 4294967295
lower true z h l = absurd (cc)
lower false z h l = l

is_number : (k : Kind) (p : ℕ) (z : ℤ) → is_context_call k ≡ true → IsArgument k p z → IsNumber z
is_number k p z l a = record { low = a.low; high = lower ((p == 3) && is_client_wait k) z (and_right _ _ (no_wait k l)) a.high }

-- also past the list's end, where 0 stands
pub small_number : (k : Kind) (p : ℕ) (zs : List ℤ) (i : ℕ) → is_context_call k ≡ true → AreArguments k p zs → IsNumber (get_or zs i (pos 0))
small_number k p [] i l a = record { low = omega (arith, ints); high = omega (arith, ints) }
small_number k p (z ∷ zs) zero l a = is_number k p z l a.0
small_number k p (z ∷ zs) (suc i) l a = small_number k (p + 1) zs i l a.1

not_negative : (z : ℤ) → int_lt z (pos 0) ≡ false → pos 0 ≤ℤ z
not_negative (pos n) h = omega (arith, ints)
not_negative (negsuc n) h = absurd (cc)

-- a number that is kept and read again is the number
same : (z : ℤ) → IsNumber z → to_z w64 (of_z w64 z) ≡ z
same z n = let low = n.low in let high = n.high in to_z-of_z w64 z (search rules)

four : (x y w h x' y' w' h' : ℤ) → x' ≡ x → y' ≡ y → w' ≡ w → h' ≡ h → IsBox (x ∷ y ∷ w ∷ h ∷ []) → IsBox (x' ∷ y' ∷ w' ∷ h' ∷ [])
four x y w h x' y' w' h' a b c d e = rw (a, b, c, d) e

each_of_four : (x y w h : ℤ) → IsNumber x → IsNumber y → IsNumber w → IsNumber h → All IsNumber (x ∷ y ∷ w ∷ h ∷ [])
each_of_four x y w h a b c d zero e l = a
each_of_four x y w h a b c d (suc zero) e l = b
each_of_four x y w h a b c d (suc (suc zero)) e l = c
each_of_four x y w h a b c d (suc (suc (suc zero))) e l = d
each_of_four x y w h a b c d (suc (suc (suc (suc k)))) e l = absurd (omega arith)

box_in_range : (x y w h : ℤ) → IsNumber x → IsNumber y → IsNumber w → IsNumber h → (int_lt w (pos 0) || int_lt h (pos 0)) ≡ false → IsBox (x ∷ y ∷ w ∷ h ∷ [])
box_in_range x y w h a b c d e = record {
  numbers = each_of_four x y w h a b c d;
  wide = not_negative w (neither_first _ _ e);
  high = not_negative h (neither_second _ _ e);
}

pub kept_box : (k : Kind) (zs : List ℤ) → is_context_call k ≡ true → AreArguments k 0 zs → (int_lt (get_or zs 2 (pos 0)) (pos 0) || int_lt (get_or zs 3 (pos 0)) (pos 0)) ≡ false →
    IsBox (to_z w64 (of_z w64 (get_or zs 0 (pos 0))) ∷ to_z w64 (of_z w64 (get_or zs 1 (pos 0))) ∷ to_z w64 (of_z w64 (get_or zs 2 (pos 0))) ∷ to_z w64 (of_z w64 (get_or zs 3 (pos 0))) ∷ [])
kept_box k zs l a e =
    let n : (i : ℕ) → IsNumber (get_or zs i (pos 0)) = λ i. small_number k 0 zs i l a in
    four _ _ _ _ _ _ _ _ (same _ (n 0)) (same _ (n 1)) (same _ (n 2)) (same _ (n 3)) (box_in_range _ _ _ _ (n 0) (n 1) (n 2) (n 3) e)
