-- What contracts see of the displays, and how the code keeps their handles.
use Rattle.std.specs.Prelude.{◌≡◌, ℕ, zero, suc, ◌+◌, ◌≤◌, ◌<◌, Bool, true, false, List, [], ◌∷◌, ◌++◌, Option, None, Some, IfSome, nat_eq, nat_le, if◌then◌else◌, ◌==◌}
use Rattle.std.specs.Map.{keys_of, lookup}
use Rattle.std.specs.Option.{option_flatten, option_to_list}
use Rattle.display_table.specs.declared.handles.Handle.{Handle}
use Rattle.display_table.specs.declared.handles.HandleKind.{HandleKind}
use Rattle.display_table.specs.Handles.{is_same_kind}
use Rattle.display_table.specs.declared.errors.HandleError.{HandleError}
use Rattle.display_table.specs.declared.errors.HandleError.TheVariants.{Limit, NoMemory}
use Rattle.display_table.specs.declared.TheConstants.{HANDLES_END}

-- whether each display is initialised, the valid handles of both, and the number of the next handle
pub record DisplaysValue : Type 0 where
  pub first : Bool
  pub second : Bool
  pub handles : List Handle
  pub next_handle : ℕ

-- handles have lower numbers, so that each fits an EGLint
abbrev pub are_used_up : ℕ → Bool
are_used_up next = nat_le HANDLES_END next

-- a display's flag is set to `on`
abbrev pub with_flag : ℕ → Bool → DisplaysValue → DisplaysValue
with_flag display on d = record d { first = (if display == 1 then on else d.first); second = (if display == 2 then on else d.second) }

abbrev pub flag_of : ℕ → DisplaysValue → Bool
flag_of display d = if display == 1 then d.first else if display == 2 then d.second else false

-- why a handle was refused
abbrev pub HasCause : ℕ → HandleError → Type 0
HasCause next Limit = are_used_up next ≡ true
HasCause next NoMemory = are_used_up next ≡ false

-- a display's handles by their numbers, in the order of their making: a destroyed handle leaves an empty place
abbrev pub Places : Type 0
Places = List (ℕ × Option Handle)

-- the valid handle of a number
unfoldable pub at_number : Places → ℕ → Option Handle
at_number places number = option_flatten (lookup (nat_eq number) places)

-- numbers rise, from `low` at least, and are below `end`
unfoldable pub NumbersRise : ℕ → List ℕ → ℕ → Type 0
NumbersRise low [] end = low ≤ end
NumbersRise low (n ∷ more) end = (low ≤ n) × NumbersRise (n + 1) more end

-- the first of two
abbrev pub either : Option Handle → Option Handle → Option Handle
either (Some h) other = Some h
either None other = other

-- the handles with numbers below a bound, in rising order, where `at` has the handle of a number
unfoldable pub listed : (ℕ → Option Handle) → ℕ → List Handle
listed at zero = []
listed at (suc n) = listed at n ++ option_to_list (at n)

-- what is kept under a number of a display's handles
pub record IsHandle (shown next n : ℕ) (h : Handle) : Type 0 where
  pub number : h.number ≡ n
  pub display : h.display ≡ shown
  pub low : 3 ≤ n
  pub high : n < next

-- a display's handles
pub record AreHandles (shown next : ℕ) (at : ℕ → Option Handle) : Type 0 where
  pub each : (n : ℕ) → IfSome (at n) (IsHandle shown next n)

-- not both
abbrev pub AreApart : Option Handle → Option Handle → Type 0
AreApart None b = Unit {0}
AreApart (Some h) None = Unit {0}
AreApart (Some h) (Some k) = ⊥

-- what holds between calls: the handles of each display, and numbers that fit
pub record AreTables (firsts seconds : ℕ → Option Handle) (next : ℕ) : Type 0 where
  pub first : AreHandles 1 next firsts
  pub second : AreHandles 2 next seconds
  pub apart : (n : ℕ) → AreApart (firsts n) (seconds n)
  pub low : 3 ≤ next
  pub high : next ≤ HANDLES_END

-- the same of the places of both displays, whose numbers rise and are below the next
pub record ArePlaces (first second : Places) (next : ℕ) : Type 0 where
  pub tables : AreTables (at_number first) (at_number second) next
  pub first_rises : NumbersRise 3 (keys_of first) next
  pub second_rises : NumbersRise 3 (keys_of second) next

-- a handle, where it has this kind
abbrev pub handle_named : HandleKind → Option Handle → Option Handle
handle_named kind None = None
handle_named kind (Some h) = if is_same_kind h.kind kind then Some h else None

-- a handle stood at the last number, and no longer does
pub record IsLast (old new : ℕ → Option Handle) (h : Handle) : Type 0 where
  pub number : ℕ
  pub found : old number ≡ Some h
  pub last : (n : ℕ) → number < n → old n ≡ None
  pub rest : (n : ℕ) → new n ≡ (if n == number then None else old n)

-- the handles of two displays, each kept by its number
unfoldable pub handles_in : (ℕ → Option Handle) → (ℕ → Option Handle) → ℕ → List Handle
handles_in firsts seconds next = listed (λ n. either (firsts n) (seconds n)) next
