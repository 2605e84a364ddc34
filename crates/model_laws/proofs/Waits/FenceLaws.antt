-- What signals fences, and what a flush leaves.
use Rattle.std.proofs.Common.{◌≡◌, ◌≢◌, ℕ, zero, suc, ◌<◌, true, false, ◌||◌, List, [], ◌∷◌, refl, sym, ap, ◌∙◌, arith, get_or, set, is_some, length, Option, None, Some}
use Rattle.std.proofs.lemmas.Bool.{lt-ltb, or_parts, or_right}
use Rattle.std.proofs.lemmas.List.{get_or-set_other}
use Rattle.std.specs.Option.{option_map, option_map_or}
use Rattle.driver_objects.specs.Objects.{kind_of}
use Rattle.driver_objects.specs.declared.fences.Fence.{Fence}
use Rattle.driver_objects.specs.declared.kinds.ObjectKind.TheVariants.{Context as a_context}
use Rattle.driver_objects.specs.declared.objects.Object.{Object}
use Rattle.driver_objects.specs.declared.objects.Object.TheVariants.{Context}
use Rattle.egl_model.specs.Flushes.{flush_in, flushed, flushed_to}
use Rattle.model_laws.specs.Kinds.{IsA}
use Rattle.egl_model.specs.Objects.{as_context, as_fence, change_context, context_in, fence_in, with_context}
use Rattle.egl_model.specs.State.{State, object_at, has_object}
use Rattle.egl_model.specs.Waits.{has_flushed, is_signalled, signals}
use Rattle.model_laws.proofs.References.Places.{same_at_set}

-- ---- A fence, by its context.
told : (s : State) (n : ℕ) (x : Fence) → fence_in s.objects n ≡ Some x → is_signalled s n ≡ signals s.objects n x
told s n x e = ap (λ o. option_map_or (signals s.objects n) o false) e

gone : (n : ℕ) (o : Option Object) → is_some o ≡ false → has_flushed n (as_context o) ≡ true
gone n None h = refl
gone n (Some x) h = absurd (let e : true ≡ false = h in cc)

pub gone_signals : (s : State) (n : ℕ) (x : Fence) → fence_in s.objects n ≡ Some x → has_object s x.context ≡ false → is_signalled s n ≡ true
gone_signals s n x e h = told s n x e ∙ or_right x.served (has_flushed n (context_in s.objects x.context)) (gone n (object_at s x.context) h)

is_there : (n : ℕ) (o : Option Object) → has_flushed n (as_context o) ≡ false → option_map kind_of o ≡ Some a_context
is_there n (Some (Context c)) h = refl
is_there n o h = absurd (let e : true ≡ false = h in cc)

pub unsignalled_there : (s : State) (n : ℕ) (x : Fence) → fence_in s.objects n ≡ Some x → is_signalled s n ≡ false → IsA a_context s x.context
unsignalled_there s n x e u = is_there n (object_at s x.context) (or_parts x.served (has_flushed n (context_in s.objects x.context)) (sym (told s n x e) ∙ u)).1

-- ---- A flush.
pub at_changed : (f : Option Object → Option Object) → f None ≡ None → (os : List (Option Object)) (c : ℕ) → get_or (set os c (f (get_or os c None))) c None ≡ f (get_or os c None)
at_changed f z [] c = sym z
at_changed f z (o ∷ os) zero = refl
at_changed f z (o ∷ os) (suc c) = at_changed f z os c

-- what f tells of an object, where it tells nothing of how far a context is flushed
pub seen_flushed : {A : Type 0} (f : Option Object → A) → ((k : ℕ) (o : Option Object) → f (with_context (flushed_to k) o) ≡ f o) → (n : Option ℕ) (os : List (Option Object)) (m : ℕ) → f (get_or (flush_in n os) m None) ≡ f (get_or os m None)
unfolding change_context
seen_flushed f e None os m = refl
seen_flushed f e (Some n) os m = same_at_set f os n _ None (e (length os) (get_or os n None)) m

pub fence-flushed : (k : ℕ) (o : Option Object) → as_fence (with_context (flushed_to k) o) ≡ as_fence o
fence-flushed k (Some (Context c)) = refl
fence-flushed k o = refl

fence_stays : (s : State) (n c : ℕ) → fence_in (flushed (Some c) s).objects n ≡ fence_in s.objects n
unfolding change_context
fence_stays s n c = same_at_set as_fence s.objects c _ None (fence-flushed (length s.objects) (get_or s.objects c None)) n

stands_below : (os : List (Option Object)) (n : ℕ) (x : Fence) → as_fence (get_or os n None) ≡ Some x → n < length os
stands_below [] n x e = absurd (let f : None ≡ Some x = e in cc)
stands_below (o ∷ os) zero x e = omega arith
stands_below (o ∷ os) (suc n) x e = let l = stands_below os n x e in omega (arith, l)

up_to : (n k : ℕ) (o : Option Object) → n < k → has_flushed n (as_context (with_context (flushed_to k) o)) ≡ true
up_to n k (Some (Context c)) l = lt-ltb n k l
up_to n k o l = refl

context_flushed : (s : State) (n c : ℕ) → n < length s.objects → has_flushed n (context_in (flushed (Some c) s).objects c) ≡ true
unfolding change_context
context_flushed s n c l = ap (λ o. has_flushed n (as_context o)) (at_changed (with_context (flushed_to (length s.objects))) refl s.objects c) ∙ up_to n (length s.objects) (get_or s.objects c None) l

pub flush_signals : (s : State) (n c : ℕ) (x : Fence) → fence_in s.objects n ≡ Some x → x.context ≡ c → is_signalled (flushed (Some c) s) n ≡ true
flush_signals s n c x e h =
    let a = flushed (Some c) s in
    told a n x (fence_stays s n c ∙ e) ∙ or_right x.served (has_flushed n (context_in a.objects x.context)) (rw h (context_flushed s n c (stands_below s.objects n x e)))

other_context : (s : State) (m c : ℕ) → m ≢ c → context_in (flushed (Some c) s).objects m ≡ context_in s.objects m
unfolding change_context
other_context s m c ne = ap as_context (get_or-set_other s.objects c m _ None ne)

pub flush_leaves : (s : State) (n c : ℕ) (x : Fence) → fence_in s.objects n ≡ Some x → x.context ≢ c → is_signalled (flushed (Some c) s) n ≡ is_signalled s n
flush_leaves s n c x e ne =
    let a = flushed (Some c) s in
    told a n x (fence_stays s n c ∙ e) ∙ ap (λ o. x.served || has_flushed n o) (other_context s x.context c ne) ∙ sym (told s n x e)
