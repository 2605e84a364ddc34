-- The sides and the texels of an atlas.
use Rattle.std.proofs.Common.{◌≡◌, ℕ, ◌*◌, ◌<◌, ◌≤◌, true, false, List, length, refl, sym, ap, ◌∙◌, arith, Option, None, Some, Ok, Err, ⊎_elim}
use Rattle.std.proofs.lemmas.Bool.{cond-true, cond-false, and_parts, cases_lt, eq-eqb, ne_eqb}
use Rattle.std.proofs.lemmas.Bool.Decides.{nat_tests}
use Rattle.std.proofs.Math.Nat.{mul-le-mul}
use Rattle.std.specs.Prelude.{◌&&◌, is_none}
use Rattle.trace_reader.specs.declared.traces.Reason.TheVariants.{Argument}
use Rattle.trace_reader.specs.Payloads.{payload_size}
use Rattle.scene_reader.specs.declared.items.Item.{Item}
use Rattle.scene_reader.specs.Items.{atlas_with, is_between, is_new_atlas, is_texture_side, texel_bytes}
use Rattle.scene_reader.specs.Lines.{sized}

no_side : (n : ℕ) → 1024 < n → is_texture_side n ≡ false
no_side n l = grind (arith, nat_tests)

side_small : (n : ℕ) → is_texture_side n ≡ true → n ≤ 1024
side_small n h = ⊎_elim
    (λ (l : 1024 < n). absurd (let e : false ≡ true = sym (no_side n l) ∙ h in cc))
    (λ (l : n ≤ 1024). l)
    (cases_lt 1024 n)

pub new_width : (before : List Item) (id width height : ℕ) → is_new_atlas before id width height ≡ true → width ≤ 1024
new_width before id width height h =
    let sides = and_parts (is_between 1 64 id && is_none (atlas_with before id) && is_texture_side width) (is_texture_side height) h in
    side_small width (and_parts (is_between 1 64 id && is_none (atlas_with before id)) (is_texture_side width) sides.0).1

pub new_height : (before : List Item) (id width height : ℕ) → is_new_atlas before id width height ≡ true → height ≤ 1024
new_height before id width height h = side_small height (and_parts (is_between 1 64 id && is_none (atlas_with before id) && is_texture_side width) (is_texture_side height) h).1

pub few_texels : (w h : ℕ) → w ≤ 1024 → h ≤ 1024 → texel_bytes w h ≤ 4194304
few_texels w h l m = omega (arith, mul-le-mul {n₁ = 4 * w} {m₁ = h} {n₂ = 4096} {m₂ = 1024} (omega arith) m)

-- a payload of another size isn't taken, nor is the null pointer
pub other_size : (size : ℕ) (said : Option (List ℕ)) → (payload_size said ≡ size → ⊥) → sized size (Some said) ≡ Err Argument
other_size size None h = refl
other_size size (Some bs) h = cond-false _ _ _ (ne_eqb (length bs) size h)

pub same_size : (size : ℕ) (said : Option (List ℕ)) (bs : List ℕ) → payload_size said ≡ size → said ≡ Some bs → sized size (Some said) ≡ Ok bs
same_size size said bs h e =
    let l : length bs ≡ size = sym (ap payload_size e) ∙ h in
    ap (λ (o : Option (List ℕ)). sized size (Some o)) e ∙ cond-true _ _ _ (eq-eqb (length bs) size l)
