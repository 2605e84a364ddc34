-- Windows as they are declared.
use Rattle.std.proofs.Common.{◌≡◌, ◌<◌, ℕ, eqb, Some, Bool, true, false, cond, List, [], ◌∷◌, map, take, get_or, zero, suc, ap, refl, ◌∙◌, arith}
use Rattle.std.specs.Prelude.{All, length}
use Rattle.std.proofs.lemmas.Bool.{and_parts, leb-true}
use Rattle.std.proofs.Math.Seq.{take-length}
use Rattle.std.proofs.lemmas.List.{length-map}
use Rattle.std.proofs.lemmas.List.Elements.{All-cons, All-nil}
use Rattle.surface_store.specs.Windows.{WindowValue, are_distinct, has_id, is_spec, opened, windows_ok}
use Rattle.egl_calls.specs.Ranges.{unsigned}
use Rattle.std.proofs.lemmas.List.Quantifiers.{position-Some}
use Rattle.surface_store.specs.WindowTables.{AreWindows, HasSides, no_window, place_of}
use Rattle.surface_store.specs.declared.windows.WindowSpec.{WindowSpec}

-- a window that may be declared has sides from 1 to 2,048
pub spec_sides : (s : WindowSpec) → is_spec s ≡ true → HasSides (opened s)
spec_sides s h =
    let a = and_parts _ _ h in let b = and_parts _ _ a.0 in let d = and_parts _ _ b.0 in let e = and_parts _ _ d.0 in
    record { wide = leb-true 1 s.w e.1; widest = leb-true s.w 2048 d.1; high = leb-true 1 s.h b.1; highest = leb-true s.h 2048 a.1 }

-- the first of windows that may be declared may be, and so may the others
pub first_spec : (s : WindowSpec) (ws : List WindowSpec) → are_distinct (s ∷ ws) ≡ true → is_spec s ≡ true
first_spec s ws h = by (is_spec s) h
  where
    by : (b : Bool) → cond b (cond (has_id s.id ws) false (are_distinct ws)) false ≡ true → b ≡ true
    by true h = refl
    by false h = h

pub other_specs : (s : WindowSpec) (ws : List WindowSpec) → are_distinct (s ∷ ws) ≡ true → are_distinct ws ≡ true
other_specs s ws h = by (is_spec s) (has_id s.id ws) h
  where
    by : (b d : Bool) → cond b (cond d false (are_distinct ws)) false ≡ true → are_distinct ws ≡ true
    by true false h = h
    by true true h = absurd (let e : false ≡ true = h in cc)
    by false d h = absurd (let e : false ≡ true = h in cc)

distinct_sides : (ws : List WindowSpec) → are_distinct ws ≡ true → All HasSides (map opened ws)
distinct_sides [] h = All-nil HasSides
distinct_sides (s ∷ ws) h = All-cons HasSides (opened s) (map opened ws) (spec_sides s (first_spec s ws h)) (distinct_sides ws (other_specs s ws h))

pub opened_sides : (ws : List WindowSpec) → windows_ok ws ≡ true → All HasSides (map opened ws)
opened_sides ws h = distinct_sides ws (and_parts _ _ h).1

-- a place is one of the list's
pub place_inside : (id : ℕ) (ws : List WindowValue) (k : ℕ) → place_of id ws ≡ Some k → k < length ws
place_inside id ws k e = (position-Some (λ (w : WindowValue). eqb (unsigned w.id) id) ws k no_window e).0

spec_at : (ws : List WindowSpec) (k : ℕ) (d : WindowSpec) → are_distinct ws ≡ true → k < length ws → HasSides (opened (get_or ws k d))
spec_at [] k d h l = absurd (omega (arith, l))
spec_at (s ∷ ws) zero d h l = spec_sides s (first_spec s ws h)
spec_at (s ∷ ws) (suc k) d h l = spec_at ws k d (other_specs s ws h) (omega (arith, l))

pub declared_sides : (ws : List WindowSpec) (k : ℕ) (d : WindowSpec) → windows_ok ws ≡ true → k < length ws → HasSides (opened (get_or ws k d))
declared_sides ws k d h l = spec_at ws k d (and_parts _ _ h).1 l

-- all windows as they are declared
opened_all : (ws : List WindowSpec) (items : List WindowValue) → windows_ok ws ≡ true → items ≡ map opened ws → AreWindows items
opened_all ws items h e = rw e (record { few = omega (arith, length-map ws opened, leb-true (length ws) 64 (and_parts _ _ h).0); sides = opened_sides ws h })

pub are_windows : (ws : List WindowSpec) (k : ℕ) (items : List WindowValue) → windows_ok ws ≡ true → k ≡ length ws → items ≡ map opened (take k ws) → AreWindows items
are_windows ws k items h e f = opened_all ws items h (f ∙ ap (λ n. map opened (take n ws)) e ∙ ap (map opened) (take-length ws))
