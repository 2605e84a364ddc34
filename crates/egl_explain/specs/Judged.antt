-- What is told of an entry: the entry itself, and each row that held before it.
use Rattle.std.specs.Prelude.{◌≡◌, ℕ, length, slice_index_or, Option, None, Some}
use Rattle.std.specs.Option.{option_map}
use Rattle.call_table.specs.Rows.{egl_rules, gl_rules, own_rules}
use Rattle.egl_calls.specs.Errors.{egl_code, gl_code}
use Rattle.egl_calls.specs.declared.entries.Entry.{Entry}
use Rattle.egl_calls.specs.declared.kinds.Kind.{Kind}
use Rattle.egl_calls.specs.declared.kinds.Kind.TheVariants.{Egl as of_egl, Gl as of_gl, Own as of_project}
use Rattle.egl_model.specs.State.{State}
use Rattle.driver_facts.specs.Verdicts.{refusals}
use Rattle.driver_facts.specs.declared.verdicts.Refusals.{Refusals}
use Rattle.driver_facts.specs.declared.verdicts.Refusals.TheVariants.{Egl as EglRows, Gl as GlRows, Unjudged}
use Rattle.egl_explain.specs.declared.judged_entries.JudgedEntry.{JudgedEntry}

-- the code of the error of the row at a place, where that row holds
abbrev pub code_at : Refusals → ℕ → Option ℕ
code_at (EglRows h) place = option_map egl_code (slice_index_or h.errors place None)
code_at (GlRows h) place = option_map gl_code (slice_index_or h.errors place None)
code_at Unjudged place = None

-- the rows are those that hold for the entry's call before it
abbrev pub HasItsRows : State → Option JudgedEntry → Type 0
HasItsRows s None = Unit {0}
HasItsRows s (Some j) = j.refusals ≡ refusals s j.entry.thread j.entry.call

abbrev pub entry_in : Option JudgedEntry → Option Entry
entry_in o = option_map (λ j. j.entry) o

-- ---- How many rows the table of a call has.
abbrev pub row_count : Kind → ℕ
row_count (of_egl k) = length (egl_rules k)
row_count (of_gl k) = length (gl_rules k)
row_count (of_project k) = length (own_rules k)
