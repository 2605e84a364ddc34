-- How the fences are kept. No public clause cites this module.
use Rattle.std.specs.Prelude.{ℕ, zero, suc, ◌<◌, ◌≤◌, Bool, true, false, ◌||◌, nat_lt, List, [], ◌++◌, Option, None, Some, IfSome}
use Rattle.std.specs.Option.{option_to_list}
use Rattle.fence_sync.specs.declared.fences.Fence.{Fence}
use Rattle.fence_sync.specs.declared.tables.Kept.{Kept}

-- whether a fence was flushed, by the first number of its context's fences that weren't
abbrev pub is_flushed : Option ℕ → ℕ → Bool
is_flushed None n = true
is_flushed (Some from) n = nat_lt n from

abbrev pub fence_of : (ℕ → Option ℕ) → ℕ → Option Kept → Option Fence
fence_of unflushed n None = None
fence_of unflushed n (Some k) = Some (record { sync = n; context = k.context; is_signalled = k.is_signalled || is_flushed (unflushed k.context) n })

-- what stands at the numbers below a bound, in rising order
unfoldable pub listed : (ℕ → Option Fence) → ℕ → List Fence
listed at zero = []
listed at (suc n) = listed at n ++ option_to_list (at n)

unfoldable pub fences_in : (ℕ → Option Kept) → (ℕ → Option ℕ) → ℕ → List Fence
fences_in kept unflushed made = listed (λ n. fence_of unflushed n (kept n)) made

-- numbers were given, and no context's first unflushed one is past them
pub record AreMade (kept : ℕ → Option Kept) (unflushed : ℕ → Option ℕ) (made : ℕ) : Type 0 where
  pub each : (n : ℕ) → IfSome (kept n) (λ k. n < made)
  pub from : (c : ℕ) → IfSome (unflushed c) (λ first. first ≤ made)

abbrev pub signalled_at : (ℕ → Option ℕ) → ℕ → Option Kept → Bool
signalled_at unflushed n None = false
signalled_at unflushed n (Some k) = k.is_signalled || is_flushed (unflushed k.context) n

-- a fence that is signalled by itself
abbrev pub marked_kept : Kept → Kept
marked_kept k = record k { is_signalled = true }
