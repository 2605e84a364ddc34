-- What the rows of calls say, by which the judge goes.
use Rattle.std.specs.Prelude.{Bool, true, false, ◌==◌, ◌||◌, length, map, slice_index_or}
use denote.Enum.Declared.{tag_of}
use Rattle.egl_calls.specs.contracts.kinds.EglKind as egl_kinds
use Rattle.egl_calls.specs.declared.kinds.Kind.{Kind}
use Rattle.egl_calls.specs.declared.kinds.Kind.TheVariants.{Egl, Gl}
use Rattle.egl_calls.specs.declared.kinds.EglKind.{EglKind}
use Rattle.egl_calls.specs.declared.kinds.EglKind.TheVariants.{SwapBuffers}
use Rattle.call_table.specs.Rows.{egl_answers, egl_role}
use Rattle.call_table.specs.declared.answers.AnswerSort.{AnswerSort}
use Rattle.call_table.specs.declared.answers.AnswerSort.TheVariants.{ConfigLists, Currents, Displays}
use Rattle.call_table.specs.declared.egl_table.TheConstants.{EGL_CALLS}
use Rattle.call_table.specs.declared.roles.Role.{Role}
use Rattle.call_table.specs.declared.roles.Role.TheVariants.{Creates, Flushes, MakesCurrent, Releases, ServerWaits}
use Rattle.log_reader.specs.Forms.{takes_config as are_of_config}
use Rattle.display_table.specs.declared.handles.HandleKind.TheVariants.{Sync}

-- a call without an argument goes by its thread alone
abbrev pub takes_nothing : EglKind → Bool
takes_nothing k = slice_index_or (map (λ r. length r.2.now == 0) EGL_CALLS) (tag_of egl_kinds.the_type k) false

-- ---- What is current to a thread.
abbrev pub makes_current : Role → Bool
makes_current MakesCurrent = true
makes_current role = false

abbrev pub is_make_current : Kind → Bool
is_make_current (Egl k) = makes_current (egl_role k)
is_make_current kind = false

-- it makes something current, or lets go of all that its thread has; with an argument, of what a display has
abbrev pub sets_by : Role → Bool → Bool
sets_by MakesCurrent alone = true
sets_by Releases alone = alone
sets_by role alone = false

abbrev pub sets_current : Kind → Bool
sets_current (Egl k) = sets_by (egl_role k) (takes_nothing k)
sets_current kind = false

-- it answers what is current: without an argument also the display
abbrev pub answers_current : AnswerSort → Bool → Bool
answers_current (Currents kind) alone = true
answers_current Displays alone = alone
answers_current sort alone = false

-- it flushes, waits or makes a sync in the context that is current
abbrev pub works_in_current : Role → Bool
works_in_current Flushes = true
works_in_current ServerWaits = true
works_in_current (Creates Sync) = true
works_in_current role = false

abbrev pub swaps : EglKind → Bool
swaps SwapBuffers = true
swaps k = false

unfoldable pub tells_current : EglKind → Bool
tells_current k = answers_current (egl_answers k) (takes_nothing k)

unfoldable pub works_on_current : EglKind → Bool
works_on_current k = works_in_current (egl_role k)

-- the calls of EGL that tell what is current, or work on it
unfoldable pub is_of_current : EglKind → Bool
is_of_current k = tells_current k || works_on_current k || swaps k

abbrev pub goes_by_current : Kind → Bool
goes_by_current (Gl k) = true
goes_by_current (Egl k) = is_of_current k
goes_by_current kind = false

-- ---- Configs. A call names one behind its display.
abbrev pub takes_config : Kind → Bool
takes_config (Egl k) = slice_index_or (map (λ r. are_of_config r.2.now) EGL_CALLS) (tag_of egl_kinds.the_type k) false
takes_config kind = false

-- one that answers them may be given some in its list
abbrev pub are_configs : AnswerSort → Bool
are_configs ConfigLists = true
are_configs sort = false

abbrev pub lists_configs : Kind → Bool
lists_configs (Egl k) = are_configs (egl_answers k)
lists_configs kind = false
