-- Windows that are declared together may be stacked on a screen.
use Rattle.std.proofs.Common.{◌≡◌, ℕ, suc, ℤ, pos, ◌+◌, ◌*◌, ◌<◌, ◌≤◌, Bool, true, false, List, [], ◌∷◌, length, refl, ap, ◌∙◌, arith}
use Rattle.std.proofs.lemmas.Bool.Decides.{nat_tests}
use Rattle.std.specs.Prelude.{nat_le, if◌then◌else◌}
use Rattle.std.specs.Ordering.{int_eq}
use Rattle.std.proofs.lemmas.Bool.{and_parts}
use Rattle.surface_store.specs.declared.windows.WindowSpec.{WindowSpec}
use Rattle.surface_store.specs.Windows.{is_spec, has_id, are_distinct, windows_ok}
use Rattle.screen_compose.specs.Placing.{places, is_near, lies_near, are_placed, is_side, screen_ok}
use Rattle.egl_cli.specs.Frames.{placed_over, stacked_over, stacked}

as_many : (below : ℕ) (specs : List WindowSpec) → length (stacked_over below specs) ≡ length specs
as_many below [] = refl
as_many below (s ∷ specs) = ap (λ (n : ℕ). suc n) (as_many (below + 1) specs)

same_ids : (id : ℤ) (below : ℕ) (specs : List WindowSpec) → places id (stacked_over below specs) ≡ has_id id specs
same_ids id below [] = refl
same_ids id below (s ∷ specs) = ap (λ (b : Bool). if int_eq s.id id then true else b) (same_ids id (below + 1) specs)

near : (n : ℕ) → n ≤ 1024 → is_near (pos n) ≡ true
near n few = grind (arith, nat_tests, few)

lies : (below : ℕ) (s : WindowSpec) → below < 64 → lies_near (placed_over below s) ≡ true
lies below s few = let n = near (16 * below) (omega (arith, few)) in rw n refl

parts : (a b c : Bool) → (if a then (if b then false else c) else false) ≡ true → (b ≡ false) × (c ≡ true)
parts true false c h = (refl, h)
parts true true c h = absurd (let f : false ≡ true = h in cc)
parts false b c h = absurd (let f : false ≡ true = h in cc)

whole : (a b c : Bool) → a ≡ true → b ≡ false → c ≡ true → (if a then (if b then false else c) else false) ≡ true
whole a b c p q r = rw (p, q, r) refl

distinct : (below : ℕ) (specs : List WindowSpec) → below + length specs ≤ 64 → are_distinct specs ≡ true → are_placed (stacked_over below specs) ≡ true
distinct below [] few d = refl
distinct below (s ∷ specs) few d =
    let p = parts (is_spec s) (has_id s.id specs) (are_distinct specs) d in
    whole (lies_near (placed_over below s)) (places s.id (stacked_over (below + 1) specs)) (are_placed (stacked_over (below + 1) specs))
    (lies below s (omega (arith, few))) (same_ids s.id (below + 1) specs ∙ p.0) (distinct (below + 1) specs (omega (arith, few)) p.1)

pub few_windows : (specs : List WindowSpec) → windows_ok specs ≡ true → length specs ≤ 64
few_windows specs ok = let f = (and_parts (nat_le (length specs) 64) (are_distinct specs) ok).0 in grind (arith, nat_tests, f)

side : (n : ℕ) → 0 < n → n ≤ 2048 → is_side n ≡ true
side n some few = grind (arith, nat_tests, some, few)

pub stacked_ok : (w h : ℕ) (specs : List WindowSpec) → 0 < w → w ≤ 2048 → 0 < h → h ≤ 2048 → windows_ok specs ≡ true → screen_ok w h (stacked specs) ≡ true
stacked_ok w h specs some_w few_w some_h few_h ok =
    let few = few_windows specs ok in
    let wide = side w some_w few_w in
    let high = side h some_h few_h in
    let count : nat_le (length (stacked specs)) 64 ≡ true = let e = as_many 0 specs in grind (arith, nat_tests, few, e) in
    let all = distinct 0 specs (omega (arith, few)) (and_parts (nat_le (length specs) 64) (are_distinct specs) ok).1 in
    rw (wide, high, count, all) refl
