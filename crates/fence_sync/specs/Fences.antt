-- Fences, in the order of their making, and the waits for them (EGL 1.5, section 3.8.1).
use Rattle.std.specs.Prelude.{ℕ, Bool, true, false, not, ◌==◌, if◌then◌else◌, List, [], ◌∷◌, Option, None, Some, map}
use Rattle.std.specs.List.{filter, find, list_any}
use Rattle.std.specs.Map.{lookup}
use Rattle.std.specs.Ordering.{nat_cmp}
use Rattle.std.specs.BTreeMap.{insert_entry, is_at}
use Rattle.std.specs.BTreeSet.{insert_key}
use Rattle.std.specs.Map.{remove_entry}
use Rattle.fence_sync.specs.declared.fences.Fence.{Fence}

-- the fences that weren't destroyed, the contexts that made a fence and haven't ended, by rising numbers, the sync that
-- each waiting thread waits for, by rising threads, and how many fences were made
pub record FencesValue : Type 0 where
  pub fences : List Fence
  pub contexts : List ℕ
  pub waits : List (ℕ × ℕ)
  pub made : ℕ

abbrev pub is_of : ℕ → Fence → Bool
is_of sync f = f.sync == sync

abbrev pub signalled_in : Option Fence → Bool
signalled_in None = false
signalled_in (Some f) = f.is_signalled

abbrev pub is_signalled : ℕ → List Fence → Bool
is_signalled sync fences = signalled_in (find (is_of sync) fences)

-- each fence of a context becomes signalled
abbrev pub flushed_of : ℕ → Fence → Fence
flushed_of context f = record f { is_signalled = (if f.context == context then true else f.is_signalled) }

abbrev pub flushed : ℕ → List Fence → List Fence
flushed context fences = map (flushed_of context) fences

-- the fence of this number becomes signalled
abbrev pub signalled_one : ℕ → Fence → Fence
signalled_one sync f = record f { is_signalled = (if f.sync == sync then true else f.is_signalled) }

abbrev pub signalled : ℕ → List Fence → List Fence
signalled sync fences = map (signalled_one sync) fences

abbrev pub without : ℕ → List Fence → List Fence
without sync fences = filter (λ f. not (is_of sync f)) fences

-- whether a context is among those that made a fence and haven't ended
abbrev pub is_live : ℕ → List ℕ → Bool
is_live context contexts = list_any (is_at (nat_cmp context)) contexts

-- it is among them from its first fence on
abbrev pub with_context : ℕ → List ℕ → List ℕ
with_context context contexts = if is_live context contexts then contexts else insert_key nat_cmp contexts context

-- until it ends
abbrev pub without_context : ℕ → List ℕ → List ℕ
without_context context [] = []
without_context context (c ∷ cs) = if is_at (nat_cmp context) c then cs else c ∷ without_context context cs

-- the sync that a thread waits for
abbrev pub wait_of : ℕ → List (ℕ × ℕ) → Option ℕ
wait_of thread waits = lookup (is_at (nat_cmp thread)) waits

abbrev pub with_wait : ℕ → ℕ → List (ℕ × ℕ) → List (ℕ × ℕ)
with_wait thread sync waits = insert_entry nat_cmp waits thread sync

abbrev pub without_wait : ℕ → List (ℕ × ℕ) → List (ℕ × ℕ)
without_wait thread waits = remove_entry (is_at (nat_cmp thread)) waits

-- the sync of a wait that can end
abbrev pub ended : Option ℕ → List Fence → Option ℕ
ended None fences = None
ended (Some sync) fences = if is_signalled sync fences then Some sync else None

abbrev pub waits_after : Option ℕ → ℕ → List (ℕ × ℕ) → List (ℕ × ℕ)
waits_after None thread waits = waits
waits_after (Some sync) thread waits = without_wait thread waits
