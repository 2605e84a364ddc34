-- The laws of levels.
use Rattle.std.proofs.Common.{◌≡◌, ℕ, zero, suc, ◌+◌, ◌-◌, ◌*◌, ◌^◌, ◌<◌, ◌≤◌, ◌==◌, Bool, true, false, not, ◌&&◌, ◌||◌, ◌↔◌, cond, max, List, length, Option, Some, None, IsSome, refl, sym, ap, subst, ◌∙◌, arith, inl, inr, pow_pos, add-one, unwrap_or, IfSome, IfNone}
use Rattle.std.specs.Prelude.{nat_le}
use Rattle.std.proofs.Math.Nat.{pow-succ'}
use Rattle.std.proofs.Math.Pow.{pow_mono}
use Rattle.std.proofs.lemmas.Bool.{cases_order, false≢true, and_parts, and_from}
use Rattle.std.proofs.lemmas.Bool.Decides.{nat_tests}
use Rattle.std.proofs.lemmas.List.{get_or_past}
use Rattle.egl_calls.proofs.Truths.{implied}
use Rattle.pixel_formats.specs.declared.formats.Format.{Format}
use Rattle.pixel_formats.specs.declared.formats.Format.TheVariants.{Rgb565, Rgb888, Rgba8888, Rgba4444, Rgba5551, A8, L8, La88}
use Rattle.texture_objects.specs.Greatest.{IsGreatest, greatest}
use Rattle.texture_objects.specs.Laws.{IsComplete, IsPlain, only}
use Rattle.texture_objects.specs.Levels.{are_enough, crop_sides, each_passes, has_mipmaps, is_complete, is_complete_over, is_same_format, is_same_shape, is_stored, last_level, level_at, level_for, level_over, log_of, mipmap_of, place_of}
use Rattle.texture_objects.specs.MinFilters.{uses_mipmaps}
use Rattle.texture_objects.specs.Textures.{TextureValue}
use Rattle.texture_objects.specs.declared.levels.Shape.{Shape}
use Rattle.texture_objects.specs.declared.levels.Sides.{Sides}
use Rattle.texture_objects.specs.declared.parameters.MinFilter.{MinFilter}
use Rattle.texture_objects.proofs.GreatestLaws.{all-pass, each-next, each-passes, greatest-holds, greatest-is, greatest-within}

-- ---- The logarithm.
doubled : (r : ℕ) → 2 ^ (r + 1) ≡ 2 * 2 ^ r
doubled r = ap (λ m. 2 ^ m) (add-one r) ∙ pow-succ' 2 r

above : (side r j : ℕ) → side < 2 * 2 ^ r → r < j → nat_le (2 ^ j) side ≡ false
above side r j h l =
    let up : 2 ^ (r + 1) ≤ 2 ^ j = pow_mono (omega arith) in
    let twice : 2 ^ (r + 1) ≡ 2 * 2 ^ r = doubled r in
    grind (arith, nat_tests)

-- what std says of a logarithm makes it the greatest
pub is-log : (side r : ℕ) → 2 ^ r ≤ side → side < 2 * 2 ^ r → r ≤ 31 → log_of side ≡ r
unfolding log_of
is-log side r h l m = greatest-is (λ k. nat_le (2 ^ k) side) 31 r (record {
  within = m;
  passes = inr (grind (arith, nat_tests));
  last = λ j n o. above side r j l n;
})

no_power : (j : ℕ) → nat_le (2 ^ j) 0 ≡ false
no_power j = let some : 0 < 2 ^ j = pow_pos j in grind (arith, nat_tests)

pub log-none : (side : ℕ) → side ≡ 0 → log_of side ≡ 0
unfolding log_of
log-none side e = ap (λ s. greatest (λ k. nat_le (2 ^ k) s) 31) e ∙ greatest-is (λ k. nat_le (2 ^ k) 0) 31 0 (record {
  within = omega arith;
  passes = inl refl;
  last = λ j h l. no_power j;
})

-- a side of at least two pixels is halved
log-some : (side : ℕ) → 2 ≤ side → 1 ≤ log_of side
unfolding log_of
log-some side h =
    let g = greatest-holds (λ k. nat_le (2 ^ k) side) 31 in
    let two : nat_le (2 ^ 1) side ≡ true = grind (arith, nat_tests) in
    elim (cases_order (greatest (λ k. nat_le (2 ^ k) side) 31) 0) [
      | inl s ↦ absurd (false≢true (sym (g.last 1 (omega arith) (omega arith)) ∙ two))
      | inr o ↦ elim o [
        | inl s ↦ absurd (omega arith)
        | inr s ↦ omega arith
      ]
    ]

pub log-or : (o : Option ℕ) (side : ℕ) → IfNone o (side ≡ 0) → IfSome o (λ k. 2 ^ k ≤ side) → IfSome o (λ k. side < 2 * 2 ^ k) → IfSome o (λ k. k < 32) → unwrap_or o 0 ≡ log_of side
log-or None side n p q r = sym (log-none side n)
log-or (Some k) side n p q r = sym (is-log side k p q (omega arith))

log-below : (side k : ℕ) → 0 < side → IsGreatest (λ k. nat_le (2 ^ k) side) 31 k → 2 ^ k ≤ side
log-below side k h g = elim (g.passes) [
  | inl z ↦ let one : 2 ^ k ≡ 2 ^ 0 = ap (λ j. 2 ^ j) z in omega arith
  | inr p ↦ grind (arith, nat_tests)
]

log-above : (side k : ℕ) → side < 2 ^ 32 → IsGreatest (λ k. nat_le (2 ^ k) side) 31 k → side < 2 * 2 ^ k
log-above side k l g = elim (cases_order k 31) [
  | inl s ↦ let most : 2 ^ k ≡ 2 ^ 31 = ap (λ j. 2 ^ j) s in omega arith
  | inr o ↦ elim o [
    | inl s ↦
        let next : nat_le (2 ^ (k + 1)) side ≡ false = g.last (k + 1) (omega arith) (omega arith) in
        let twice : 2 ^ (k + 1) ≡ 2 * 2 ^ k = doubled k in
        grind (arith, nat_tests)
    | inr s ↦ absurd (omega (arith, g.within))
  ]
]

pub floor-of-log : (side : ℕ) → 0 < side → side < 2 ^ 32 → (2 ^ log_of side ≤ side) × (side < 2 * 2 ^ log_of side)
unfolding log_of
floor-of-log side h l = (log-below side _ h (greatest-holds (λ k. nat_le (2 ^ k) side) 31), log-above side _ l (greatest-holds (λ k. nat_le (2 ^ k) side) 31))

-- ---- Shapes.
format_at : ℕ → Format
format_at n =
    cond (n == 0) Rgb565 (cond (n == 1) Rgb888 (cond (n == 2) Rgba8888 (cond (n == 3) Rgba4444
    (cond (n == 4) Rgba5551 (cond (n == 5) A8 (cond (n == 6) L8 La88))))))

at-place : (f : Format) → format_at (place_of f) ≡ f
unfolding format_at
at-place Rgb565 = refl
at-place Rgb888 = refl
at-place Rgba8888 = refl
at-place Rgba4444 = refl
at-place Rgba5551 = refl
at-place A8 = refl
at-place L8 = refl
at-place La88 = refl

equal : (m n : ℕ) → (m == n) ≡ true → m ≡ n
equal m n h = grind (arith, nat_tests)

self : (n : ℕ) → (n == n) ≡ true
self n = grind (arith, nat_tests)

same_format : (f g : Format) → is_same_format f g ≡ true → f ≡ g
same_format f g h = sym (at-place f) ∙ ap format_at (equal (place_of f) (place_of g) h) ∙ at-place g

abbrev shape : Format → ℕ → ℕ → Shape
shape f w h = record { format = f; w = w; h = h }

shape-same : (f g : Format) (a b c d : ℕ) → f ≡ g → a ≡ b → c ≡ d → shape f a c ≡ shape g b d
shape-same f g a b c d e k l = ap (λ x. shape x a c) e ∙ ap (λ x. shape g x c) k ∙ ap (λ x. shape g b x) l

same_shape : (s t : Shape) → is_same_shape s t ≡ true → s ≡ t
same_shape s t h =
    let outer = and_parts (is_same_format s.format t.format && (s.w == t.w)) (s.h == t.h) h in
    let inner = and_parts (is_same_format s.format t.format) (s.w == t.w) outer.0 in
    shape-same s.format t.format s.w t.w s.h t.h (same_format s.format t.format inner.0) (equal s.w t.w inner.1) (equal s.h t.h outer.1)

pub same-self : (s : Shape) → is_same_shape s s ≡ true
same-self s = and_from (is_same_format s.format s.format && (s.w == s.w)) (s.h == s.h) (and_from (is_same_format s.format s.format) (s.w == s.w) (self (place_of s.format)) (self s.w)) (self s.h)

stored-is : (o : Option Shape) (s : Shape) → is_stored o s ≡ true → o ≡ Some s
stored-is None s h = absurd (false≢true h)
stored-is (Some r) s h = ap (λ x. Some x) (same_shape r s h)

-- ---- Completeness.
or_of_rest : (a b : Bool) → (a ≡ true → b ≡ true) → (not a || b) ≡ true
or_of_rest true b f = f refl
or_of_rest false b f = refl

complete-parts : (t : TextureValue) (levels : List (Option Shape)) (o : Option Shape) → level_at levels 0 ≡ o → is_complete_over t.min_filter levels o ≡ true → IsComplete t levels
complete-parts t levels None e h = absurd (false≢true h)
complete-parts t levels (Some base) e h = record {
  base = base;
  stored = e;
  mipmaps = λ u k l m. stored-is (level_at levels k) (mipmap_of base k)
      (each-passes (λ j. is_stored (level_at levels j) (mipmap_of base j)) 1 (last_level base) (implied (uses_mipmaps t.min_filter) (has_mipmaps levels base) h u) k l (omega arith));
}

parts-complete : (t : TextureValue) (levels : List (Option Shape)) → IsComplete t levels → is_complete t levels ≡ true
parts-complete t levels c =
    ap (λ o. is_complete_over t.min_filter levels o) c.stored
    ∙ or_of_rest (uses_mipmaps t.min_filter) (has_mipmaps levels c.base) (λ u.
    all-pass (λ j. is_stored (level_at levels j) (mipmap_of c.base j)) 1 (last_level c.base) (λ k l m.
    ap (λ o. is_stored o (mipmap_of c.base k)) (c.mipmaps u k l (omega arith)) ∙ same-self (mipmap_of c.base k)))

pub complete-by-levels : (t : TextureValue) (levels : List (Option Shape)) → (is_complete t levels ≡ true) ↔ IsComplete t levels
complete-by-levels t levels = (λ h. complete-parts t levels (level_at levels 0) refl h, parts-complete t levels)

-- ---- The sampled level.
pub samples-greatest : (t : TextureValue) (levels : List (Option Shape)) (base : Shape) (w h : ℕ) → level_at levels 0 ≡ Some base → uses_mipmaps t.min_filter ≡ true →
    IsGreatest (are_enough (crop_sides t) (record { w = w; h = h })) (last_level base) (level_for t levels w h)
samples-greatest t levels base w h e u =
    let drawn : Sides = record { w = w; h = h } in
    let q : level_for t levels w h ≡ greatest (are_enough (crop_sides t) drawn) (last_level base) =
    ap (λ o. level_over t.min_filter o (crop_sides t) drawn) e ∙ ap (λ b. cond b (greatest (are_enough (crop_sides t) drawn) (last_level base)) 0) u in
    rw q (greatest-holds (are_enough (crop_sides t) drawn) (last_level base))

some-stored : (o : Option Shape) (s : Shape) → is_stored o s ≡ true → IsSome o
some-stored None s h = absurd (false≢true h)
some-stored (Some r) s h = refl

-- a level up to the last of complete ones has storage
pub level-stored : (filter : MinFilter) (levels : List (Option Shape)) (base : Shape) (k : ℕ) → level_at levels 0 ≡ Some base → is_complete_over filter levels (Some base) ≡ true → uses_mipmaps filter ≡ true →
    k ≤ last_level base → IsSome (level_at levels k)
level-stored filter levels base zero e h u l = rw e refl
level-stored filter levels base (suc k) e h u l =
    some-stored (level_at levels (suc k)) (mipmap_of base (suc k))
    (each-passes (λ j. is_stored (level_at levels j) (mipmap_of base j)) 1 (last_level base) (implied (uses_mipmaps filter) (has_mipmaps levels base) h u) (suc k) (omega arith) (omega arith))

no_storage : (o : Option Shape) → IsSome o → o ≡ None → ⊥
no_storage o s e = let none : IsSome {T = Shape} None = subst (λ x. IsSome x) e s in false≢true none

-- a level with storage is one of the levels
pub stored-within : (levels : List (Option Shape)) (k n : ℕ) → length levels ≡ n → IsSome (level_at levels k) → k < n
stored-within levels k n e s = elim (cases_order k n) [
  | inl q ↦ absurd (no_storage (level_at levels k) s (get_or_past levels k None (omega arith)))
  | inr o ↦ elim o [
    | inl q ↦ q
    | inr q ↦ absurd (no_storage (level_at levels k) s (get_or_past levels k None (omega arith)))
  ]
]

-- ---- Storage at level 0 alone.
no_first : (levels : List (Option Shape)) (base : Shape) → level_at levels 1 ≡ None → 1 ≤ last_level base → has_mipmaps levels base ≡ false
no_first levels base e h =
    each-next (λ j. is_stored (level_at levels j) (mipmap_of base j)) 1 (last_level base) h
    ∙ ap (λ o. is_stored o (mipmap_of base 1) && each_passes (λ j. is_stored (level_at levels j) (mipmap_of base j)) (1 + 1) (last_level base - 1)) e

last-one : (base : Shape) → max base.w base.h ≡ 1 → last_level base ≡ 0
last-one base e = is-log (max base.w base.h) 0 (omega arith) (omega arith) (omega arith)

no-mipmaps : (levels : List (Option Shape)) (base : Shape) → last_level base ≡ 0 → has_mipmaps levels base ≡ true
unfolding each_passes
no-mipmaps levels base e = ap (λ n. each_passes (λ j. is_stored (level_at levels j) (mipmap_of base j)) 1 n) e

one_by_one : (w h : ℕ) → 0 < w → 0 < h → max w h ≡ 1 → ((w == 1) && (h == 1)) ≡ true
one_by_one w h a b e = grind (arith, nat_tests)

wider : (w h : ℕ) → 1 < max w h → ((w == 1) && (h == 1)) ≡ false
wider w h e = grind (arith, nat_tests)

alone : (base : Shape) → 0 < base.w → 0 < base.h → has_mipmaps (only (Some base)) base ≡ ((base.w == 1) && (base.h == 1))
alone base a b = elim (cases_order 1 (max base.w base.h)) [
  | inl s ↦ no-mipmaps (only (Some base)) base (last-one base (sym s)) ∙ sym (one_by_one base.w base.h a b (sym s))
  | inr o ↦ elim o [
    | inl s ↦ no_first (only (Some base)) base refl (log-some (max base.w base.h) (omega arith)) ∙ sym (wider base.w base.h s)
    | inr s ↦ absurd (omega arith)
  ]
]

mipmaps-last : (base : Shape) → has_mipmaps (only (Some base)) base ≡ true → last_level base ≡ 0
mipmaps-last base h = elim (cases_order (last_level base) 0) [
  | inl s ↦ s
  | inr o ↦ elim o [
    | inl s ↦ absurd (omega arith)
    | inr s ↦ absurd (false≢true (sym (no_first (only (Some base)) base refl (omega arith)) ∙ h))
  ]
]

sampled-zero : (uses : Bool) (base : Shape) (test : ℕ → Bool) → (not uses || has_mipmaps (only (Some base)) base) ≡ true → cond uses (greatest test (last_level base)) 0 ≡ 0
sampled-zero false base test h = refl
sampled-zero true base test h =
    let last : last_level base ≡ 0 = mipmaps-last base h in
    let within : greatest test (last_level base) ≤ last_level base = greatest-within test (last_level base) in
    omega arith

pub plain : (t : TextureValue) (base : Shape) → 0 < base.w → 0 < base.h → IsPlain t base
plain t base a b = record {
  complete = ap (λ m. not (uses_mipmaps t.min_filter) || m) (alone base a b);
  incomplete = refl;
  level = λ w h e. sampled-zero (uses_mipmaps t.min_filter) base (are_enough (crop_sides t) (record { w = w; h = h })) e;
}
