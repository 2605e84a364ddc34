-- What frees a thread that sleeps.
use Rattle.std.specs.Prelude.{◌==◌, ◌&&◌, ◌||◌, not, nat_lt, ℕ, Bool, true, false, if◌then◌else◌, List}
use Rattle.std.specs.List.{list_any}
use Rattle.egl_calls.specs.Errors.{is_waiting}
use Rattle.egl_calls.specs.Journals.{is_halt}
use Rattle.egl_calls.specs.declared.entries.Entry.{Entry}
use Rattle.egl_calls.specs.declared.kinds.Kind.{Kind}
use Rattle.egl_calls.specs.declared.kinds.Kind.TheVariants.{Own}
use Rattle.egl_calls.specs.declared.kinds.OwnKind.TheVariants.{Post as PostKind}
use Rattle.egl_calls.specs.declared.places.TheConstants.{POSTED}
use Rattle.egl_calls.specs.Arguments.{number}
use Rattle.egl_model.specs.Waits.{is_ready}
use Rattle.driver_core.specs.Machine.{Machine}
use Rattle.shared_driver.specs.declared.sleepers.Bed.{Bed}
use Rattle.shared_driver.specs.declared.sleepers.Bed.TheVariants.{Empty, Taken, Shared}
use Rattle.shared_driver.specs.declared.sleepers.Wanted.{Wanted}
use Rattle.shared_driver.specs.declared.sleepers.Wanted.TheVariants.{Entry as AnyEntry, Post, Answer, Signal}

abbrev pub is_post : Kind → Bool
is_post (Own PostKind) = true
is_post k = false

-- an entry is a post of this number
abbrev pub is_post_of : ℕ → Entry → Bool
is_post_of n e = is_post e.call.kind && (number e.call POSTED == n)

-- an entry is the answer of a call with this mark
abbrev pub answers : ℕ → Entry → Bool
answers mark e = (e.mark == mark) && not (is_waiting e.reply.outcome)

-- an entry brings what a thread wants, where this tells whether its wait can end
abbrev pub brings : Wanted → Bool → Entry → Bool
brings AnyEntry can_end e = true
brings (Post n) can_end e = is_post_of n e
brings (Answer mark) can_end e = answers mark e
brings Signal can_end e = can_end

abbrev pub is_signal : Wanted → Bool
is_signal Signal = true
is_signal w = false

-- the wait of the bed's thread can end, where that waits for a sync
abbrev pub can_end : Machine → Bed → Bool
can_end d Empty = false
can_end d (Taken n w) = is_signal w && (nat_lt n d.made && is_ready d.state n)
can_end d Shared = false

-- An entry frees the threads of a bed, where this tells whether a wait can end. Where a thread gave up, it frees all
abbrev pub frees : Bed → Bool → Entry → Bool
frees Empty can_end e = false
frees (Taken n w) can_end e = is_halt e || brings w can_end e
frees Shared can_end e = true

-- one of these entries does so, behind which the driver stands
abbrev pub free : Machine → List Entry → Bed → Bool
free d es b = list_any (frees b (can_end d b)) es

abbrev pub is_taken : Bed → Bool
is_taken Empty = false
is_taken (Taken n w) = true
is_taken Shared = true

-- a bed with one token more in it
abbrev pub with_token : Bed → ℕ → Wanted → Bed
with_token Empty n w = Taken n w
with_token (Taken m v) n w = if m == n then Taken n w else Shared
with_token Shared n w = Shared
