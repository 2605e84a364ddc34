-- The call that a line of a log stands for on our side.
use Rattle.std.specs.Prelude.{ℕ, ℤ, pos, Bool, true, false, not, ◌&&◌, ◌==◌, List, [], ◌∷◌, map, slice_index_or, slice_set, is_none, unwrap_or, if◌then◌else◌, Option, None, Some}
use Rattle.std.specs.List.{list_any}
use Rattle.std.specs.Option.{option_or}
use Rattle.egl_calls.specs.Calls.{CallValue, ReplyValue}
use Rattle.egl_calls.specs.Ranges.{IsNumber}
use Rattle.egl_calls.specs.declared.errors.Outcome.TheVariants.{Done}
use Rattle.egl_calls.specs.declared.places.TheConstants.{CONFIG}
use Rattle.trace_reader.specs.declared.traces.Line.{Line}
use Rattle.trace_reader.specs.declared.traces.Reference.{Reference}
use Rattle.trace_model.specs.Resolve.{resolved_by}
use Rattle.driver_judge.specs.declared.configs.ConfigPair.{ConfigPair}
use Rattle.driver_judge.specs.Calls.{lists_configs, takes_config}
use Rattle.driver_judge.specs.Configs.{our_config, our_list}

-- what a variable stands for: our value, and for each number of a list our number, where there is one. It is lost where we have no answer that the driver's stands beside: then with the line that is at fault
pub record VariableValue : Type 0 where
  pub value : ℤ
  pub list : List (Option ℤ)
  pub lost : Option ℕ

abbrev pub kept : ℤ → List (Option ℤ) → VariableValue
kept value list = record { value = value; list = list; lost = None }

abbrev pub lost : ℕ → VariableValue
lost line = record { value = pos 0; list = []; lost = Some line }

-- each number is one that a call may have
abbrev pub IsItem : Option ℤ → Type 0
IsItem None = Unit {0}
IsItem (Some z) = IsNumber z

-- what the variable of a number stands for; each that a line uses is there
abbrev pub variable_at : List VariableValue → ℕ → VariableValue
variable_at vs v = slice_index_or vs v (kept (pos 0) [])

-- ---- Lost variables.
-- the line with which the first of these references is lost
abbrev pub lost_in : List VariableValue → List Reference → Option ℕ
lost_in vs [] = None
lost_in vs (r ∷ rs) = option_or (variable_at vs r.variable).lost (lost_in vs rs)

-- ---- Numbers. A reference that a list is too short for stands for 0.
abbrev pub item_at : VariableValue → Option ℕ → Option ℤ
item_at v None = Some v.value
item_at v (Some k) = slice_index_or v.list k (Some (pos 0))

-- whether a reference is to a config of theirs that is none of ours
abbrev pub is_foreign : List VariableValue → Reference → Bool
is_foreign vs r = is_none (item_at (variable_at vs r.variable) r.item)

-- a variable as the reply that it stands for
abbrev pub as_reply : VariableValue → ReplyValue
as_reply v = record { outcome = Done; value = v.value; list = map (λ o. unwrap_or o (pos 0)) v.list; bytes = [] }

abbrev pub stands_for : List VariableValue → ℕ → Option ReplyValue
stands_for vs v = Some (as_reply (variable_at vs v))

-- ---- Configs. A config that a line names by its number is theirs; one by a variable is ours already.
abbrev pub is_config_place : Reference → Bool
is_config_place r = not r.in_list && (r.place == CONFIG)

abbrev pub names_config : Line → Bool
names_config l = takes_config l.call.kind && not (list_any is_config_place l.uses)

abbrev pub named_config : CallValue → ℤ
named_config c = slice_index_or c.args CONFIG (pos 0)

-- a call in our numbers, or none where a config is none of ours
abbrev pub with_config : CallValue → Option ℤ → Option CallValue
with_config c None = None
with_config c (Some id) = Some (record c { args = slice_set c.args CONFIG id })

abbrev pub with_list : CallValue → Option (List ℤ) → Option CallValue
with_list c None = None
with_list c (Some list) = Some (record c { list = list })

abbrev pub with_our_configs : List ConfigPair → Line → CallValue → Option CallValue
with_our_configs pairs l c =
    if names_config l then with_config c (our_config pairs (named_config c))
    else if lists_configs l.call.kind then with_list c (our_list pairs c.list)
    else Some c

-- the same, where the log names its driver's configs; else theirs are ours
abbrev pub in_our_configs : Bool → List ConfigPair → Line → CallValue → Option CallValue
in_our_configs named pairs l c = if named then with_our_configs pairs l c else Some c

-- the call of a line in our numbers, where it uses no lost variable; none where a config is none of ours
unfoldable pub our_call : Bool → List ConfigPair → List VariableValue → Line → Option CallValue
our_call named pairs vs l = if list_any (is_foreign vs) l.uses then None else in_our_configs named pairs l (resolved_by (stands_for vs) l)
