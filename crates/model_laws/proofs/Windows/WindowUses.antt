-- A window is used where a surface shows in it.
use Rattle.std.proofs.Common.{◌≡◌, ℕ, zero, suc, ◌+◌, ◌<◌, Bool, true, false, cond, List, [], ◌∷◌, refl, ap, ◌∙◌, arith, Option, None, Some, get_or}
use Rattle.std.proofs.lemmas.Bool.{eq-eqb, eqb-true, lt-ltb, ltb-true}
use Rattle.std.proofs.lemmas.List.Sums.{sum_by-cons}
use Rattle.std.specs.List.{sum_by}
use Rattle.std.specs.Option.{option_map_or}
use Rattle.egl_calls.specs.Calls.{CallValue}
use Rattle.driver_objects.specs.declared.objects.Object.{Object}
use Rattle.driver_objects.specs.declared.objects.Object.TheVariants.{Surface}
use Rattle.driver_objects.specs.declared.surfaces.BackedSurface.{BackedSurface}
use Rattle.egl_model.specs.State.{State}
use Rattle.egl_model.specs.Objects.{as_surface}
use Rattle.egl_model.specs.Parts.{is_place}
use Rattle.egl_model.specs.Windows.{is_used_at, named_place, one_at, surfaces_at}
use Rattle.model_laws.specs.Wants.{IsWindowUsed}

-- a surface of the window at a place stands among objects
record ShowsAt (k : ℕ) (os : List (Option Object)) : Type 0 where
  object : ℕ
  surface : BackedSurface
  there : as_surface (get_or os object None) ≡ Some surface
  shows : is_place k surface.window ≡ true

abbrev counted : ℕ → Option Object → ℕ
counted k o = option_map_or (one_at k) o 0

first : (k : ℕ) (o : Option Object) (os : List (Option Object)) → 0 < counted k o → ShowsAt k (o ∷ os)
first k (Some (Surface x)) os l = by (is_place k x.window) refl l
  where
    by : (b : Bool) → is_place k x.window ≡ b → 0 < cond b 1 0 → ShowsAt k (Some (Surface x) ∷ os)
    by true p l = record { object = 0; surface = x; there = refl; shows = p }
    by false p l = absurd (omega arith)
first k o os l = absurd (omega arith)

behind : (k : ℕ) (o : Option Object) (os : List (Option Object)) → ShowsAt k os → ShowsAt k (o ∷ os)
behind k o os u = record { object = suc u.object; surface = u.surface; there = u.there; shows = u.shows }

one_shows : (k : ℕ) (o : Option Object) (os : List (Option Object)) (n : ℕ) → counted k o ≡ n → 0 < counted k o + sum_by (counted k) os → (0 < sum_by (counted k) os → ShowsAt k os) → ShowsAt k (o ∷ os)
one_shows k o os zero e l rest = behind k o os (rest (omega (arith, e, l)))
one_shows k o os (suc n) e l rest = first k o os (omega (arith, e))

some_shows : (k : ℕ) (os : List (Option Object)) → 0 < surfaces_at k os → ShowsAt k os
unfolding surfaces_at
some_shows k [] l = absurd (omega arith)
some_shows k (o ∷ os) l = one_shows k o os (counted k o) refl (let f = sum_by-cons (counted k) o os in omega (arith, f, l)) (some_shows k os)

counts : (k : ℕ) (o : Option Object) (x : BackedSurface) → as_surface o ≡ Some x → is_place k x.window ≡ true → counted k o ≡ 1
counts k (Some (Surface y)) x e p = let same : y ≡ x = cc in ap (λ (z : BackedSurface). cond (is_place k z.window) 1 0) same ∙ ap (λ b. cond b 1 0) p
counts k o x e p = absurd (let f : None ≡ Some x = e in cc)

is_counted : (k : ℕ) (os : List (Option Object)) (n : ℕ) (x : BackedSurface) → as_surface (get_or os n None) ≡ Some x → is_place k x.window ≡ true → 0 < surfaces_at k os
unfolding surfaces_at
is_counted k [] n x e p = absurd (let f : None ≡ Some x = e in cc)
is_counted k (o ∷ os) zero x e p = let f = sum_by-cons (counted k) o os in let g = counts k o x e p in omega (arith, f, g)
is_counted k (o ∷ os) (suc n) x e p = let f = sum_by-cons (counted k) o os in let g = is_counted k os n x e p in omega (arith, f, g)

-- ---- The same of the window that a call names.
place_is : (k : ℕ) (o : Option ℕ) → is_place k o ≡ true → o ≡ Some k
place_is k None h = absurd (let f : false ≡ true = h in cc)
place_is k (Some m) h = ap Some (eqb-true m k h)

is_place_of : (k : ℕ) (o : Option ℕ) → o ≡ Some k → is_place k o ≡ true
is_place_of k o h = ap (is_place k) h ∙ eq-eqb k k refl

used_by : (s : State) (c : CallValue) (p : Option ℕ) → named_place s c ≡ p → is_used_at s.objects p ≡ true → IsWindowUsed s c
used_by s c None e h = absurd (let f : false ≡ true = h in cc)
used_by s c (Some k) e h =
    let u = some_shows k s.objects (ltb-true 0 (surfaces_at k s.objects) h) in
    record { place = k; object = u.object; surface = u.surface; named = e; there = u.there; shows = place_is k u.surface.window u.shows }

pub window_is_used : (s : State) (c : CallValue) → is_used_at s.objects (named_place s c) ≡ true → IsWindowUsed s c
window_is_used s c h = used_by s c (named_place s c) refl h

pub used_window : (s : State) (c : CallValue) → IsWindowUsed s c → is_used_at s.objects (named_place s c) ≡ true
used_window s c u =
    ap (is_used_at s.objects) u.named
    ∙ lt-ltb 0 (surfaces_at u.place s.objects) (is_counted u.place s.objects u.object u.surface u.there (is_place_of u.place u.surface.window u.shows))
