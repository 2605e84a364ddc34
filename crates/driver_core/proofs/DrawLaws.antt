-- The numbers of draws.
use Rattle.std.proofs.Common.{◌≡◌, ◌==◌, ℕ, zero, suc, ◌+◌, ℤ, pos, ◌≤ℤ◌, ◌*ℤ◌, Bool, true, false, ◌&&◌, cond, List, [], ◌∷◌, get_or, sym, ap, ◌∙◌, subst, arith, rules, to_z, of_z, None}
use Rattle.std.specs.Prelude.{int_lt}
use Rattle.std.proofs.lemmas.Bool.{or_parts, and_right}
use Rattle.std.specs.Int.{w64}
use Rattle.std.proofs.lemmas.Int.{ints, to_z-of_z}
use Rattle.egl_calls.specs.Calls.{CallValue}
use Rattle.egl_calls.specs.Arguments.{signed}
use Rattle.egl_calls.specs.Ranges.{AreArguments, IsArgument, IsNumber, is_client_wait}
use Rattle.egl_calls.specs.declared.kinds.Kind.{Kind}
use Rattle.egl_calls.specs.declared.kinds.Kind.TheVariants.{Gl}
use Rattle.egl_calls.specs.declared.kinds.GlKind.{GlKind}
use Rattle.egl_calls.specs.declared.kinds.GlKind.TheVariants.{DrawTexi, DrawTexx}
use Rattle.call_rules.specs.GlRules.{draws_nothing}
use Rattle.call_rules.proofs.GlLaws.{rows_off}
use Rattle.call_rules.proofs.TestLaws.{not_below}
use Rattle.rect_pipeline.specs.Signed.{IsDrawNumber}
use Rattle.driver_objects.specs.Storages.{IsDrawnRect}
use Rattle.egl_model.specs.Draws.{fixed}
use Rattle.egl_model.specs.GlCalls.{gl_refusal}
use Rattle.egl_model.specs.GlFacts.{gl_facts_of}
use Rattle.egl_model.specs.State.{State}
use Rattle.driver_core.specs.Draws.{is_draw}

lower : (b : Bool) (z : ℤ) → b ≡ false → z ≤ℤ pos (cond b 9223372036854775807 4294967295) → z ≤ℤ pos 4294967295
lower true z h l = absurd (cc)
lower false z h l = l

is_number : (k : Kind) (p : ℕ) (z : ℤ) → is_client_wait k ≡ false → IsArgument k p z → IsNumber z
is_number k p z w a = record { low = a.low; high = lower ((p == 3) && is_client_wait k) z (and_right _ _ w) a.high }

number_fits : (k : Kind) (p : ℕ) (zs : List ℤ) (i : ℕ) → is_client_wait k ≡ false → AreArguments k p zs → IsNumber (get_or zs i (pos 0))
number_fits k p [] i w a = record { low = omega (arith, ints); high = omega (arith, ints) }
number_fits k p (z ∷ zs) zero w a = is_number k p z w a.0
number_fits k p (z ∷ zs) (suc i) w a = number_fits k (p + 1) zs i w a.1

same : (z : ℤ) → IsNumber z → to_z w64 (of_z w64 z) ≡ z
same z n = let low = n.low in let high = n.high in to_z-of_z w64 z (search rules)

-- a number that is kept and read again
pub number_read : (k : Kind) (zs : List ℤ) (i : ℕ) → is_client_wait k ≡ false → AreArguments k 0 zs → IsNumber (to_z w64 (of_z w64 (get_or zs i (pos 0))))
number_read k zs i w a = let n = number_fits k 0 zs i w a in subst IsNumber (sym (same (get_or zs i (pos 0)) n)) n

some_whole : (z : ℤ) → pos 1 ≤ℤ z → pos 1 ≤ℤ (z *ℤ pos 65536)
some_whole z h = grind (arith, ints)

some : (k : GlKind) (z : ℤ) → pos 1 ≤ℤ z → pos 1 ≤ℤ fixed k z
some DrawTexi z h = some_whole z h
some k z h = h

has_sides : (k : GlKind) (c : CallValue) → draws_nothing c ≡ false → (pos 1 ≤ℤ fixed k (signed c 3)) × (pos 1 ≤ℤ fixed k (signed c 4))
has_sides k c h =
    let o = or_parts (int_lt (signed c 3) (pos 1)) (int_lt (signed c 4) (pos 1)) h in
    (some k _ (not_below _ _ o.0), some k _ (not_below _ _ o.1))

-- ---- The rectangle of a draw, whose numbers are kept and read again.
kept : (z : ℤ) → IsDrawNumber z → to_z w64 (of_z w64 z) ≡ z
kept z n = let low = n.low in let high = n.high in to_z-of_z w64 z (search rules)

four : (x y w h x' y' w' h' : ℤ) → x' ≡ x → y' ≡ y → w' ≡ w → h' ≡ h → IsDrawnRect (record { x = x; y = y; w = w; h = h }) → IsDrawnRect (record { x = x'; y = y'; w = w'; h = h' })
four x y w h x' y' w' h' a b c d e = rw (a, b, c, d) e

pub rect_drawn : (k : GlKind) (c : CallValue) (x y w h a b : ℤ) → IsDrawNumber x → IsDrawNumber y → IsDrawNumber w → IsDrawNumber h → w ≡ fixed k (to_z w64 (of_z w64 a)) → h ≡ fixed k (to_z w64 (of_z w64 b)) →
    IsNumber a → IsNumber b → a ≡ signed c 3 → b ≡ signed c 4 → draws_nothing c ≡ false →
    IsDrawnRect (record { x = to_z w64 (of_z w64 x); y = to_z w64 (of_z w64 y); w = to_z w64 (of_z w64 w); h = to_z w64 (of_z w64 h) })
rect_drawn k c x y w h a b m n p q e f i j u v o =
    let sides = has_sides k c o in
    four x y w h _ _ _ _ (kept x m) (kept y n) (kept w p) (kept h q) (record {
      left = m;
      bottom = n;
      wide = p;
      high = q;
      columns = subst (λ z. pos 1 ≤ℤ z) (sym (e ∙ ap (fixed k) (same a i ∙ u))) sides.0;
      rows = subst (λ z. pos 1 ≤ℤ z) (sym (f ∙ ap (fixed k) (same b j ∙ v))) sides.1;
    })

pub draw_has_sides : (s : State) (t n : ℕ) (k : GlKind) (c : CallValue) → c.kind ≡ Gl k → is_draw k ≡ true → gl_refusal s t n k c ≡ None → draws_nothing c ≡ false
unfolding gl_refusal
draw_has_sides s t n DrawTexi c h d r = (rows_off c (gl_facts_of s t n c) DrawTexi h r).0
draw_has_sides s t n DrawTexx c h d r = (rows_off c (gl_facts_of s t n c) DrawTexx h r).0
draw_has_sides s t n k c h d r = absurd (let e : false ≡ true = d in cc)
