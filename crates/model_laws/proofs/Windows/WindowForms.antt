-- What of windows stays where one of them shows another image.
use Rattle.std.proofs.Common.{◌≡◌, ℕ, ltb, eqb, length, List, set, refl, ap, ◌∙◌, Bool, true, false, cond, Option, None, Some}
use Rattle.std.specs.List.{position_or_len}
use Rattle.std.specs.Option.{option_map, option_map_or}
use Rattle.std.proofs.lemmas.List.{length-set}
use Rattle.std.proofs.lemmas.List.Folds.{position_or_len-set}
use Rattle.egl_calls.specs.Ranges.{unsigned}
use Rattle.pixel_rows.specs.Images.{ImageValue}
use Rattle.surface_store.specs.Windows.{WindowValue, posted}
use Rattle.surface_store.specs.WindowTables.{fits, no_window, place_of, posted_to, swapped_windows, window_at, window_of}
use Rattle.model_laws.specs.Sound.{front_sides, window_sides}
use Rattle.model_laws.specs.Swaps.{form_of, forms}
use Rattle.model_laws.proofs.References.Places.{same_at_set, same_map_set}

-- ---- Forms.
forms_put : (i : ImageValue) (ws : List WindowValue) (o : Option ℕ) → forms (option_map_or (λ k. set ws k (posted i (window_at ws k))) o ws) ≡ forms ws
forms_put i ws None = refl
forms_put i ws (Some k) = same_map_set form_of ws k (posted i (window_at ws k)) no_window refl

pub forms-swapped : (id : ℕ) (i : ImageValue) (ws : List WindowValue) → forms (swapped_windows id i ws) ≡ forms ws
forms-swapped id i ws = by (fits id i ws)
  where
    by : (b : Bool) → forms (cond b (posted_to id i ws) ws) ≡ forms ws
    by true = forms_put i ws (place_of id ws)
    by false = refl

-- ---- Places of ids.
pub place-put : (j k : ℕ) (i : ImageValue) (ws : List WindowValue) → place_of j (set ws k (posted i (window_at ws k))) ≡ place_of j ws
place-put j k i ws =
    let new = set ws k (posted i (window_at ws k)) in
    let test : WindowValue → Bool = λ w. eqb (unsigned w.id) j in
    ap (λ n. cond (ltb n (length new)) (Some n) None) (position_or_len-set test ws k (posted i (window_at ws k)) no_window refl)
    ∙ ap (λ l. cond (ltb (position_or_len test ws) l) (Some (position_or_len test ws)) None) (length-set ws k (posted i (window_at ws k)))

-- what f tells of the window of an id, where it tells nothing of pixels
told_at : {A : Type 0} (f : WindowValue → A) → ((i : ImageValue) (w : WindowValue) → f (posted i w) ≡ f w) → (k : ℕ) (i : ImageValue) (ws : List WindowValue) (o : Option ℕ) →
    option_map f (option_map (window_at (set ws k (posted i (window_at ws k)))) o) ≡ option_map f (option_map (window_at ws) o)
told_at f e k i ws None = refl
told_at f e k i ws (Some m) = ap Some (same_at_set f ws k (posted i (window_at ws k)) no_window (e i (window_at ws k)) m)

told_put : {A : Type 0} (f : WindowValue → A) → ((i : ImageValue) (w : WindowValue) → f (posted i w) ≡ f w) → (j k : ℕ) (i : ImageValue) (ws : List WindowValue) →
    option_map f (window_of j (set ws k (posted i (window_at ws k)))) ≡ option_map f (window_of j ws)
told_put f e j k i ws =
    ap (λ (o : Option ℕ). option_map f (option_map (window_at (set ws k (posted i (window_at ws k)))) o)) (place-put j k i ws)
    ∙ told_at f e k i ws (place_of j ws)

sides_put : (j : ℕ) (i : ImageValue) (ws : List WindowValue) (o : Option ℕ) → window_sides j (option_map_or (λ k. set ws k (posted i (window_at ws k))) o ws) ≡ window_sides j ws
sides_put j i ws None = refl
sides_put j i ws (Some k) = told_put front_sides (λ i w. refl) j k i ws

pub window_sides-swapped : (j id : ℕ) (i : ImageValue) (ws : List WindowValue) → window_sides j (swapped_windows id i ws) ≡ window_sides j ws
window_sides-swapped j id i ws = by (fits id i ws)
  where
    by : (b : Bool) → window_sides j (cond b (posted_to id i ws) ws) ≡ window_sides j ws
    by true = sides_put j i ws (place_of id ws)
    by false = refl
