-- How another driver's answer to a call agrees with ours.
use Rattle.std.specs.Prelude.{ℕ, ℤ, pos, Bool, true, false, not, ◌&&◌, ◌==◌, int_le, List, [], ◌∷◌, length, map, replicate, if◌then◌else◌, is_none, is_some, Option, None, Some}
use Rattle.std.specs.List.{filter}
use Rattle.std.specs.Option.{option_map, option_or}
use Rattle.std.specs.Ordering.{int_eq}
use Rattle.egl_calls.specs.Arguments.{number, signed}
use Rattle.egl_calls.specs.Calls.{CallValue, ReplyValue}
use Rattle.egl_calls.specs.Ranges.{unsigned}
use Rattle.egl_calls.specs.declared.kinds.Kind.{Kind}
use Rattle.egl_calls.specs.declared.kinds.Kind.TheVariants.{Egl}
use Rattle.egl_calls.specs.declared.kinds.EglKind.TheVariants.{DestroyContext, DestroyImage, DestroySurface, DestroySync}
use Rattle.egl_calls.specs.declared.places.TheConstants.{DISPLAY}
use Rattle.display_table.specs.declared.handles.HandleKind.{HandleKind}
use Rattle.display_table.specs.declared.handles.HandleKind.TheVariants.{Context, Surface, Image, Sync}
use Rattle.share_group.specs.declared.names.NameKind.{NameKind}
use Rattle.egl_model.specs.Currents.{current_context}
use Rattle.egl_model.specs.Names.{group_of}
use Rattle.egl_model.specs.State.{State}
use Rattle.log_reader.specs.declared.answers.Answer.{Answer}
use Rattle.driver_judge.specs.declared.bases.Basis.{Basis}
use Rattle.driver_judge.specs.declared.configs.ConfigPair.{ConfigPair}
use Rattle.driver_judge.specs.declared.differences.Difference.{Difference}
use Rattle.driver_judge.specs.declared.differences.Difference.TheVariants.{Value, Items, Pixels, Length}
use Rattle.driver_judge.specs.declared.differences.PixelDifference.{PixelDifference}
use Rattle.driver_judge.specs.declared.pixels.Grid.{Grid}
use Rattle.driver_judge.specs.declared.sorts.Mapped.{Mapped}
use Rattle.driver_judge.specs.declared.sorts.Mapped.TheVariants.{Display, Handle}
use Rattle.driver_judge.specs.declared.sorts.Sort.{Sort}
use Rattle.driver_judge.specs.declared.sorts.Sort.TheVariants.{Own, NewHandle, SameHandle, ConfigList, ConfigId, NewNames, FreedNames, SameName, PixelBytes}
use Rattle.driver_judge.specs.Configs.{our_configs, their_config, their_configs}
use Rattle.driver_judge.specs.Maps.{Both, Entries, handle_for, handle_of, may_be_given, name_key, nothing, their_name, with_entry, with_handle, with_name, without_names}
use Rattle.driver_facts.specs.Verdicts.{refusals}
use Rattle.driver_judge.specs.Outcomes.{are_none, errors_of}
use Rattle.driver_judge.specs.Pixels.{grid_of, no_grid, pixel_difference}
use Rattle.driver_judge.specs.Sorts.{sort_of}

-- which of their handles and names stand for ours, and which numbers of a kind ever were names with another number on the other side
pub record StandsValue : Type 0 where
  pub handles : Both
  pub names : Both
  pub renamed : Entries

abbrev pub nothing_stands : StandsValue
nothing_stands = record { handles = nothing; names = nothing; renamed = [] }

-- ---- What of the state before a call its answer is compared by.
-- the call that destroys what a handle of a kind names
abbrev pub destroying : HandleKind → Kind
destroying Context = Egl DestroyContext
destroying Surface = Egl DestroySurface
destroying Image = Egl DestroyImage
destroying Sync = Egl DestroySync

-- a number of a handle or a display; any other stands for none
abbrev pub held : ℤ → ℤ
held z = if int_le (pos 0) z && int_le z (pos 4294967295) then z else pos 0

abbrev pub destroying_call : HandleKind → ℤ → ℤ → CallValue
destroying_call kind display handle = record { kind = destroying kind; args = held display ∷ held handle ∷ pos 0 ∷ pos 0 ∷ pos 0 ∷ pos 0 ∷ pos 0 ∷ pos 0 ∷ []; list = []; bytes = None }

-- a handle is valid where the call that destroys what it names isn't refused (EGL 1.5, section 2.1)
unfoldable pub is_valid_handle : State → ℕ → HandleKind → ℤ → ℤ → Bool
is_valid_handle s t kind display handle = are_none (errors_of (refusals s t (destroying_call kind display handle)))

-- their number stands for another handle of this kind and display that is valid
abbrev pub is_taken : State → ℕ → HandleKind → ℤ → Option ℤ → Bool
is_taken s t kind display None = false
is_taken s t kind display (Some ours) = is_valid_handle s t kind display ours

-- their number may stand for a new handle: it isn't 0, and isn't taken
abbrev pub may_stand : State → Both → ℕ → HandleKind → ℤ → ℤ → Bool
may_stand s m t kind display theirs = not (int_eq theirs (pos 0)) && not (is_taken s t kind display (handle_of m (Handle kind) (unsigned display) theirs))

abbrev pub is_free : State → Both → ℕ → Sort → CallValue → ℤ → Bool
is_free s m t (NewHandle kind) c theirs = may_stand s m t kind (signed c DISPLAY) theirs
is_free s m t sort c theirs = true

abbrev pub grid_for : State → ℕ → Sort → CallValue → Grid
grid_for s t PixelBytes c = grid_of s t (current_context s t) c
grid_for s t sort c = no_grid

-- the group whose names a thread's calls use
unfoldable pub thread_group : State → ℕ → Option ℕ
thread_group s t = option_map (group_of s) (current_context s t)

unfoldable pub basis_of : State → Both → ℕ → CallValue → ℤ → Basis
basis_of s m t c theirs = record {
  sort = sort_of s t c;
  group = thread_group s t;
  grid = grid_for s t (sort_of s t c) c;
  free = is_free s m t (sort_of s t c) c theirs;
}

-- ---- Values. What would have agreed, and nothing where no number of theirs would.
abbrev pub is_expected : Option ℤ → ℤ → Bool
is_expected None z = false
is_expected (Some e) z = int_eq e z

abbrev pub value_beside : Option ℤ → ℤ → Option Difference
value_beside expected found = if is_expected expected found then None else Some (Value expected found)

-- their handle for ours; none is 0 in each driver
abbrev pub their_handle_for : Both → Mapped → ℤ → Option ℤ
their_handle_for m kind ours = if int_eq ours (pos 0) then Some (pos 0) else handle_for m kind (unsigned ours)

abbrev pub name_for : Both → Option ℕ → NameKind → ℤ → Option ℤ
name_for m (Some group) kind ours = if int_eq ours (pos 0) then Some (pos 0) else their_name m group kind ours
name_for m None kind ours = Some ours

abbrev pub new_value : Bool → ℤ → Option Difference
new_value free theirs = if free then None else Some (Value None theirs)

-- a display has no pair before it was answered once; then their number may stand for it, unless it is 0 or stands for another
abbrev pub is_display : Mapped → Bool
is_display Display = true
is_display (Handle kind) = false

abbrev pub is_first_display : Both → Mapped → ℤ → Bool
is_first_display m kind ours = is_display kind && not (int_eq ours (pos 0)) && is_none (handle_for m kind (unsigned ours))

abbrev pub may_be_display : Both → Mapped → ℤ → Bool
may_be_display m kind theirs = not (int_eq theirs (pos 0)) && is_none (handle_of m kind 0 theirs)

unfoldable pub same_value : Both → Mapped → ℤ → ℤ → Option Difference
same_value m kind ours theirs = if is_first_display m kind ours then new_value (may_be_display m kind theirs) theirs else value_beside (their_handle_for m kind ours) theirs

-- what of a value differs
unfoldable pub value_difference : List ConfigPair → StandsValue → Basis → Sort → ℤ → ℤ → Option Difference
value_difference pairs m a Own ours theirs = None
value_difference pairs m a (NewHandle kind) ours theirs = new_value a.free theirs
value_difference pairs m a (SameHandle kind) ours theirs = same_value m.handles kind ours theirs
value_difference pairs m a ConfigList ours theirs = value_beside (Some ours) theirs
value_difference pairs m a ConfigId ours theirs = value_beside (their_config pairs ours) theirs
value_difference pairs m a (SameName kind) ours theirs = value_beside (name_for m.names a.group kind ours) theirs
value_difference pairs m a sort ours theirs = value_beside (Some ours) theirs

-- ---- Lists.
abbrev pub are_same : List ℤ → List ℤ → Bool
are_same [] [] = true
are_same [] (z ∷ zs) = false
are_same (e ∷ es) [] = false
are_same (e ∷ es) (z ∷ zs) = int_eq e z && are_same es zs

abbrev pub each_some : List ℤ → List (Option ℤ)
each_some zs = map (λ z. Some z) zs

abbrev pub each_none : List ℤ → List (Option ℤ)
each_none zs = replicate (length zs) None

abbrev pub items_beside : List ℤ → List ℤ → Option Difference
items_beside expected found = if are_same expected found then None else Some (Items (each_some expected) found)

-- whether one config is another's
abbrev pub is_theirs : List ConfigPair → ℤ → Bool
is_theirs pairs z = is_some (their_config pairs z)

-- the configs that both have are the same, in one order; how many there are isn't compared
abbrev pub configs_beside : List ConfigPair → List ℤ → List ℤ → Option Difference
configs_beside pairs ours theirs =
    if are_same (filter (is_theirs pairs) ours) (our_configs pairs theirs) then None
    else Some (Items (each_some (their_configs pairs ours)) theirs)

-- ---- New names, beside ours one by one: whether each may be given, and what stands for what behind them.
pub record NewNamesValue : Type 0 where
  pub agree : Bool
  pub stands : StandsValue

abbrev pub with_renamed : NameKind → ℤ → ℤ → Entries → Entries
with_renamed kind ours theirs renamed = if int_eq ours theirs then renamed else with_entry (name_key 0 kind theirs) (pos 1) (with_entry (name_key 0 kind ours) (pos 1) renamed)

abbrev pub with_given : ℕ → NameKind → ℤ → ℤ → StandsValue → StandsValue
with_given group kind ours theirs m = record m { names = with_name group kind ours theirs m.names; renamed = with_renamed kind ours theirs m.renamed }

abbrev pub new_name : ℕ → NameKind → ℤ → ℤ → NewNamesValue → NewNamesValue
new_name group kind ours theirs n =
    if may_be_given n.stands.names group kind theirs then record n { stands = with_given group kind ours theirs n.stands }
    else record n { agree = false }

unfoldable pub new_names : ℕ → NameKind → List ℤ → List ℤ → NewNamesValue → NewNamesValue
new_names group kind [] ws n = n
new_names group kind (z ∷ zs) [] n = n
new_names group kind (z ∷ zs) (w ∷ ws) n = new_names group kind zs ws (new_name group kind z w n)

-- where there are as many; without a current context there are no names to give
abbrev pub names_given : StandsValue → Option ℕ → NameKind → List ℤ → List ℤ → NewNamesValue
names_given m (Some group) kind ours theirs = if length ours == length theirs then new_names group kind ours theirs (record { agree = true; stands = m }) else record { agree = false; stands = m }
names_given m None kind ours theirs = record { agree = are_same ours theirs; stands = m }

abbrev pub names_beside : Bool → List ℤ → List ℤ → Option Difference
names_beside agree ours theirs = if agree then None else Some (Items (each_none ours) theirs)

-- what of a list differs
unfoldable pub list_difference : List ConfigPair → StandsValue → Basis → Sort → List ℤ → List ℤ → Option Difference
list_difference pairs m a ConfigList ours theirs = configs_beside pairs ours theirs
list_difference pairs m a (NewNames kind) ours theirs = names_beside (names_given m a.group kind ours theirs).agree ours theirs
list_difference pairs m a sort ours theirs = items_beside ours theirs

-- ---- Bytes.
abbrev pub as_pixels : Option PixelDifference → Option Difference
as_pixels o = option_map Pixels o

-- as many bytes, and pixels that differ by at most the allowed step; no other call answers bytes
unfoldable pub bytes_beside : ℕ → Grid → List ℕ → List ℕ → Option Difference
bytes_beside delta g ours theirs = if length ours == length theirs then as_pixels (pixel_difference delta g ours theirs) else Some (Length (length ours) (length theirs))

-- ---- All of an answer.
-- in what their answer first differs from our reply
unfoldable pub answer_difference : List ConfigPair → ℕ → StandsValue → Basis → ReplyValue → Answer → Option Difference
answer_difference pairs delta m a ours theirs =
    option_or (value_difference pairs m a a.sort ours.value theirs.value) (
    option_or (list_difference pairs m a a.sort ours.list theirs.list)
    (bytes_beside delta a.grid ours.bytes theirs.bytes))

-- ---- What stands for what behind an answer.
-- new names that may be given are
abbrev pub listed_behind : StandsValue → Basis → Sort → List ℤ → List ℤ → StandsValue
listed_behind m a (NewNames kind) ours theirs = (names_given m a.group kind ours theirs).stands
listed_behind m a sort ours theirs = m

abbrev pub with_new_handle : Bool → HandleKind → CallValue → ℤ → ℤ → StandsValue → StandsValue
with_new_handle free kind c ours theirs m = if free then record m { handles = with_handle (Handle kind) (number c DISPLAY) (unsigned ours) theirs m.handles } else m

abbrev pub with_display : Mapped → ℤ → ℤ → StandsValue → StandsValue
with_display kind ours theirs m =
    if is_first_display m.handles kind ours && may_be_display m.handles kind theirs then record m { handles = with_handle kind 0 (unsigned ours) theirs m.handles }
    else m

abbrev pub without_freed : Option ℕ → NameKind → List ℤ → StandsValue → StandsValue
without_freed None kind freed m = m
without_freed (Some group) kind freed m = record m { names = without_names group kind freed m.names }

abbrev pub noted_behind : Basis → CallValue → Sort → ℤ → ℤ → StandsValue → StandsValue
noted_behind a c (NewHandle kind) ours theirs m = with_new_handle a.free kind c ours theirs m
noted_behind a c (SameHandle kind) ours theirs m = with_display kind ours theirs m
noted_behind a c (FreedNames kind) ours theirs m = without_freed a.group kind c.list m
noted_behind a c sort ours theirs m = m

unfoldable pub stands_behind : StandsValue → Basis → CallValue → ReplyValue → Answer → StandsValue
stands_behind m a c ours theirs = noted_behind a c a.sort ours.value theirs.value (listed_behind m a a.sort ours.list theirs.list)
