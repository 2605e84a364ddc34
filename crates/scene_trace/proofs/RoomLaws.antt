-- The numbers of each call find room among its eight.
use Rattle.std.proofs.Common.{◌≡◌, ℕ, zero, suc, ◌<◌, ◌≤◌, Bool, true, nat_le, List, [], ◌∷◌, length, drop, map, refl, arith}
use Rattle.std.proofs.lemmas.Bool.{and_parts, leb-true}
use Rattle.std.specs.Prelude.{slice_index_or}
use Rattle.std.specs.List.{list_all}
use denote.Enum.Declared.{tag_of}
use Rattle.egl_calls.specs.contracts.kinds.EglKind as egl_kinds
use Rattle.egl_calls.specs.contracts.kinds.GlKind as gl_kinds
use Rattle.egl_calls.specs.contracts.kinds.OwnKind as own_kinds
use Rattle.egl_calls.specs.declared.kinds.Kind.{Kind}
use Rattle.egl_calls.specs.declared.kinds.Kind.TheVariants.{Egl, Gl, Own}
use Rattle.call_table.specs.declared.egl_table.TheConstants.{EGL_CALLS}
use Rattle.call_table.specs.declared.forms.Form.{Form}
use Rattle.call_table.specs.declared.forms.Form.TheVariants.{Number}
use Rattle.call_table.specs.declared.gl_table.TheConstants.{GL_CALLS}
use Rattle.call_table.specs.declared.own_table.TheConstants.{OWN_CALLS}
use Rattle.trace_reader.specs.Arguments.{place_behind}
use Rattle.scene_trace.specs.Lines.{place_behind_all}
use Rattle.scene_trace.specs.Rows.{call_forms}

-- ---- One argument after another.
not_before : (place : ℕ) (f : Form) → place ≤ place_behind place f
not_before place Number = omega arith
not_before place f = omega arith

not_before_all : (place : ℕ) (fs : List Form) → place ≤ place_behind_all place fs
not_before_all place [] = omega arith
not_before_all place (f ∷ fs) = omega (arith, not_before place f, not_before_all (place_behind place f) fs)

-- where all that are left find room, the next does
pub next_room : (place : ℕ) (fs : List Form) (i : ℕ) → i < length fs → place_behind_all place (drop i fs) ≤ 8 → place_behind place (slice_index_or fs i Number) ≤ 8
next_room place [] i h r = absurd (omega (arith, h))
next_room place (f ∷ fs) zero h r = omega (arith, not_before_all (place_behind place f) fs, r)
next_room place (f ∷ fs) (suc i) h r = next_room place fs i (omega (arith, h)) r

-- ---- That is tested of the tables, whatever stands in them.
abbrev has_room : List Form → Bool
has_room fs = nat_le (place_behind_all 0 fs) 8

room_at : (fss : List (List Form)) (n : ℕ) → list_all has_room fss ≡ true → place_behind_all 0 (slice_index_or fss n []) ≤ 8
room_at [] n h = omega arith
room_at (fs ∷ fss) zero h = leb-true (place_behind_all 0 fs) 8 (and_parts _ _ h).0
room_at (fs ∷ fss) (suc n) h = room_at fss n (and_parts _ _ h).1

pub room : (k : Kind) → place_behind_all 0 (call_forms k) ≤ 8
unfolding call_forms
room (Egl k) = room_at (map (λ r. r.2.now) EGL_CALLS) (tag_of egl_kinds.the_type k) refl
room (Gl k) = room_at (map (λ r. r.2.now) GL_CALLS) (tag_of gl_kinds.the_type k) refl
room (Own k) = room_at (map (λ r. r.2.now) OWN_CALLS) (tag_of own_kinds.the_type k) refl
