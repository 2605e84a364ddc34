-- No move of a call takes a part out.
use Rattle.std.proofs.Common.{◌≡◌, refl, ℕ, ◌<◌, length, set, zero, suc, Bool, true, false, cond, List, [], ◌∷◌, ◌++◌, sym, subst, get_or, Option, None, Some}
use Rattle.std.specs.Prelude.{All}
use Rattle.std.specs.Option.{option_map_or}
use Rattle.std.proofs.lemmas.List.Elements.{All-set}
use Rattle.pixel_rows.specs.Images.{ImageValue}
use Rattle.surface_store.specs.Windows.{WindowValue, posted}
use Rattle.surface_store.specs.WindowTables.{fits, no_window, place_of, posted_to, swapped_windows, window_at}
use Rattle.surface_store.proofs.WindowLaws.{place_inside}
use Rattle.model_laws.specs.Full.{Full, IsFull, IsWindow}
use Rattle.driver_objects.specs.declared.objects.Object.{Object}
use Rattle.egl_model.specs.State.{State, object_at}
use Rattle.egl_model.specs.Sweep.{is_reached, sweep}
use Rattle.model_laws.proofs.Changes.Moves.{Add, AllFull, AllHold, AllSet, Wait, Bind, Change, Flags, Keep, Move, Name, Note, Swap, Resize, Sets, apply, play}
use Rattle.model_laws.proofs.References.Places.{each_at_set}
use Rattle.model_laws.proofs.References.SweepLaws.{object_at-sweep}

pub holds_of : (ms : List Move) → AllSet ms → AllHold ms
holds_of [] h = tt
holds_of (Flags a b ∷ ms) h = (tt, holds_of ms h.1)
holds_of (Swap id i ∷ ms) h = (tt, holds_of ms h.1)
holds_of (Note e ∷ ms) h = (tt, holds_of ms h.1)
holds_of (Wait x ∷ ms) h = (tt, holds_of ms h.1)
holds_of (Bind c d r ∷ ms) h = (tt, holds_of ms h.1)
holds_of (Change n f ∷ ms) h = (h.0.body, holds_of ms h.1)
holds_of (Resize n f b ∷ ms) h = (h.0.0, holds_of ms h.1)
holds_of (Add os ∷ ms) h = (tt, holds_of ms h.1)
holds_of (Name d k n ∷ ms) h = (tt, holds_of ms h.1)
holds_of (Keep p ∷ ms) h = (tt, holds_of ms h.1)

full_new : (os : List (Option Object)) → AllFull os → (n : ℕ) → Full (get_or os n None)
full_new [] a n = tt
full_new (o ∷ os) a zero = a.0
full_new (o ∷ os) a (suc n) = full_new os a.1 n

full_append : (xs ys : List (Option Object)) → ((n : ℕ) → Full (get_or xs n None)) → AllFull ys → (n : ℕ) → Full (get_or (xs ++ ys) n None)
full_append [] ys h a n = full_new ys a n
full_append (x ∷ xs) ys h a zero = h zero
full_append (x ∷ xs) ys h a (suc n) = full_append xs ys (λ k. h (suc k)) a n

-- a window keeps its sides and its format
window_put : (i : ImageValue) (ws : List WindowValue) (o : Option ℕ) → ((k : ℕ) → o ≡ Some k → k < length ws) → All IsWindow ws → All IsWindow (option_map_or (λ k. set ws k (posted i (window_at ws k))) o ws)
window_put i ws None inside a = a
window_put i ws (Some k) inside a = let h = a k no_window (inside k refl) in All-set IsWindow ws k (posted i (window_at ws k)) (record { sides = record { wide = h.sides.wide; widest = h.sides.widest; high = h.sides.high; highest = h.sides.highest }; format = h.format; owned = h.owned }) a

window_posted : (id : ℕ) (i : ImageValue) (ws : List WindowValue) → All IsWindow ws → All IsWindow (posted_to id i ws)
window_posted id i ws a = window_put i ws (place_of id ws) (place_inside id ws) a

window_swapped : (id : ℕ) (i : ImageValue) (ws : List WindowValue) → All IsWindow ws → All IsWindow (swapped_windows id i ws)
window_swapped id i ws a = by (fits id i ws)
  where
    by : (b : Bool) → All IsWindow (cond b (posted_to id i ws) ws)
    by true = window_posted id i ws a
    by false = a

full-apply : (t : ℕ) (m : Move) (s : State) → Sets m → IsFull s → IsFull (apply t m s)
full-apply t (Flags a b) s h f = record { each = f.each; windows = f.windows }
full-apply t (Swap id i) s h f = record { each = f.each; windows = window_swapped id i s.windows f.windows }
full-apply t (Note e) s h f = record { each = f.each; windows = f.windows }
full-apply t (Wait x) s h f = record { each = f.each; windows = f.windows }
full-apply t (Bind c d r) s h f = record { each = f.each; windows = f.windows }
full-apply t (Name d k n) s h f = record { each = f.each; windows = f.windows }
full-apply t (Keep p) s h f = record { each = f.each; windows = f.windows }
full-apply t (Change n g) s h f = record { each = each_at_set Full s.objects n (g (get_or s.objects n None)) None (h.full (get_or s.objects n None) (f.each n)) f.each; windows = f.windows }
full-apply t (Resize n g b) s h f = record { each = each_at_set Full s.objects n (g (get_or s.objects n None)) None (h.1 (get_or s.objects n None) (f.each n)) f.each; windows = f.windows }
full-apply t (Add os) s h f = record { each = full_append s.objects os f.each h; windows = f.windows }

pub full-play : (t : ℕ) (ms : List Move) (s : State) → AllSet ms → IsFull s → IsFull (play t ms s)
full-play t [] s h f = f
full-play t (m ∷ ms) s h f = full-play t ms (apply t m s) h.1 (full-apply t m s h.0 f)

full-kept : (b : Bool) (o : Option Object) → Full o → Full (cond b o None)
full-kept true o h = h
full-kept false o h = tt

pub full_swept : (s : State) → IsFull s → IsFull (sweep s)
full_swept s f = record { each = λ n. subst Full (sym (object_at-sweep s n)) (full-kept (is_reached s n) (object_at s n) (f.each n)); windows = f.windows }
