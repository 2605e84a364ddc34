-- Which handles and names of another driver stand for ours: entries by a display or a share group, a kind, and a number.
use Rattle.std.specs.Prelude.{ℕ, ℤ, pos, Bool, true, false, not, ◌&&◌, ◌==◌, List, [], ◌∷◌, is_some, Option, None, Some}
use Rattle.std.specs.Map.{lookup}
use Rattle.std.specs.Option.{option_or}
use Rattle.std.specs.Ordering.{int_eq}
use Rattle.indexmap.specs.IndexMap.{insert_entry, swap_remove_entry}
use Rattle.display_table.specs.Handles.{kind_place}
use Rattle.share_group.specs.declared.names.NameKind.{NameKind}
use Rattle.share_group.specs.declared.names.NameKind.TheVariants.{Texture, Buffer, Renderbuffer, Framebuffer}
use Rattle.driver_judge.specs.declared.sorts.Mapped.{Mapped}
use Rattle.driver_judge.specs.declared.sorts.Mapped.TheVariants.{Display, Handle}

-- a display or a share group, the place of a kind, and a number
abbrev pub Key : Type 0
Key = ℕ × ℕ × ℤ

abbrev pub is_key : Key → Key → Bool
is_key k l = (k.0 == l.0) && (k.1 == l.1) && int_eq k.2 l.2

abbrev pub Entries : Type 0
Entries = List (Key × ℤ)

-- what stands for a number
abbrev pub found : Key → Entries → Option ℤ
found key entries = lookup (is_key key) entries

-- one more; what stood for the number before goes
abbrev pub with_entry : Key → ℤ → Entries → Entries
with_entry key value entries = insert_entry is_key entries key value

-- one less, with the last in its place
abbrev pub without_entry : Key → Entries → Entries
without_entry key entries = swap_remove_entry (is_key key) entries

-- ---- Both ways.
-- their number for one of ours, and the newest of ours for one of theirs
pub record Both : Type 0 where
  pub theirs : Entries
  pub ours : Entries

abbrev pub nothing : Both
nothing = record { theirs = []; ours = [] }

abbrev pub paired : Key → Key → Both → Both
paired ours theirs m = record { theirs = with_entry ours theirs.2 m.theirs; ours = with_entry theirs ours.2 m.ours }

-- ---- Handles. No number of ours is given twice (EGL 1.5, section 2.1), whatever its kind and its display.
abbrev pub mapped_place : Mapped → ℕ
mapped_place Display = 4
mapped_place (Handle kind) = kind_place kind

-- the key of one of ours, and that of one of theirs
abbrev pub our_handle : Mapped → ℕ → Key
our_handle kind ours = (0, mapped_place kind, pos ours)

abbrev pub their_handle : Mapped → ℕ → ℤ → Key
their_handle kind display theirs = (display, mapped_place kind, theirs)

-- their handle that stands for ours
abbrev pub handle_for : Both → Mapped → ℕ → Option ℤ
handle_for m kind ours = found (our_handle kind ours) m.theirs

-- our handle for which theirs stands; the newest
abbrev pub handle_of : Both → Mapped → ℕ → ℤ → Option ℤ
handle_of m kind display theirs = found (their_handle kind display theirs) m.ours

abbrev pub with_handle : Mapped → ℕ → ℕ → ℤ → Both → Both
with_handle kind display ours theirs m = paired (our_handle kind ours) (their_handle kind display theirs) m

-- ---- Names of a share group.
abbrev pub name_place : NameKind → ℕ
name_place Texture = 0
name_place Buffer = 1
name_place Renderbuffer = 2
name_place Framebuffer = 3

abbrev pub name_key : ℕ → NameKind → ℤ → Key
name_key group kind name = (group, name_place kind, name)

-- their name that was given for ours, and our name for which theirs was given
abbrev pub given_for : Both → ℕ → NameKind → ℤ → Option ℤ
given_for m group kind ours = found (name_key group kind ours) m.theirs

abbrev pub given_as : Both → ℕ → NameKind → ℤ → Option ℤ
given_as m group kind theirs = found (name_key group kind theirs) m.ours

-- their name that stands for ours: a name that was given for none stands for itself
abbrev pub their_name : Both → ℕ → NameKind → ℤ → Option ℤ
their_name m group kind ours = option_or (given_for m group kind ours) (Some ours)

abbrev pub with_name : ℕ → NameKind → ℤ → ℤ → Both → Both
with_name group kind ours theirs m = paired (name_key group kind ours) (name_key group kind theirs) m

-- names that were given for ours, in their order
unfoldable pub with_names : ℕ → NameKind → List ℤ → List ℤ → Both → Both
with_names group kind [] theirs m = m
with_names group kind (z ∷ zs) [] m = m
with_names group kind (z ∷ zs) (w ∷ ws) m = with_names group kind zs ws (with_name group kind z w m)

-- without a name of ours, and the one that was given for it
abbrev pub without_pair : ℕ → NameKind → ℤ → Option ℤ → Both → Both
without_pair group kind ours None m = m
without_pair group kind ours (Some theirs) m = record { theirs = without_entry (name_key group kind ours) m.theirs; ours = without_entry (name_key group kind theirs) m.ours }

abbrev pub without_name : ℕ → NameKind → ℤ → Both → Both
without_name group kind ours m = without_pair group kind ours (given_for m group kind ours) m

-- names that were freed
unfoldable pub without_names : ℕ → NameKind → List ℤ → Both → Both
without_names group kind [] m = m
without_names group kind (z ∷ zs) m = without_names group kind zs (without_name group kind z m)

-- ---- New names: as many as ours, none of them 0, none given, and apart.
abbrev pub may_be_given : Both → ℕ → NameKind → ℤ → Bool
may_be_given m group kind theirs = not (int_eq theirs (pos 0)) && not (is_some (given_as m group kind theirs))

-- each may be given behind those in front of it
abbrev pub are_new : ℕ → NameKind → List ℤ → List ℤ → Both → Bool
are_new group kind [] [] m = true
are_new group kind [] (w ∷ ws) m = false
are_new group kind (z ∷ zs) [] m = false
are_new group kind (z ∷ zs) (w ∷ ws) m = may_be_given m group kind w && are_new group kind zs ws (with_name group kind z w m)
