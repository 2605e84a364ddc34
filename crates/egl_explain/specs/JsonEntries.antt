-- What programs are told of an entry: the members of an object of JSON.
use Rattle.std.specs.Prelude.{◌≡◌, ℕ, zero, suc, ℤ, pos, Bool, true, false, List, [], ◌∷◌, ◌++◌, map, length, codes, Option, None, Some}
use Rattle.egl_calls.specs.Calls.{ReplyValue}
use Rattle.egl_calls.specs.Errors.{egl_code, gl_code}
use Rattle.egl_calls.specs.declared.entries.Entry.{Entry}
use Rattle.egl_calls.specs.declared.errors.Outcome.{Outcome}
use Rattle.egl_calls.specs.declared.errors.Outcome.TheVariants.{Done, Egl, Gl, Waiting, InWait, NoWait}
use Rattle.egl_names.specs.Names.{name_of}
use Rattle.json_lines.specs.Lines.{list_data, number_data}
use Rattle.serde_json.specs.Data.{Data, number, object, string, unsigned, Members, no_members, put}
use Rattle.driver_facts.specs.declared.verdicts.Refusals.{Refusals}
use Rattle.call_table.specs.Names.{call_name}
use Rattle.egl_explain.specs.Judged.{code_at}

-- ---- Numbers.
abbrev pub named_or : ℤ → Option (List ℕ) → Data
named_or z None = number_data z
named_or z (Some word) = string word

-- a number, by its name where it has one
abbrev pub named_data : ℤ → Data
named_data z = named_or z (name_of z)

-- ---- The start of an object.
abbrev pub kind_members : List ℕ → Members
kind_members kind = put (codes "kind") (string kind) no_members

abbrev pub line_members : List ℕ → ℕ → ℕ → Members
line_members kind thread line = put (codes "line") (number (unsigned line)) (put (codes "thread") (number (unsigned thread)) (kind_members kind))

-- ---- An entry, and what was answered.
abbrev pub outcome_data : Outcome → Data
outcome_data Done = string (codes "ok")
outcome_data (Egl e) = named_data (pos (egl_code e))
outcome_data (Gl e) = named_data (pos (gl_code e))
outcome_data Waiting = string (codes "waiting")
outcome_data InWait = string (codes "in_wait")
outcome_data NoWait = string (codes "no_wait")

abbrev pub with_values : ReplyValue → Members → Members
with_values r o = put (codes "bytes") (number (unsigned (length r.bytes))) (put (codes "list") (list_data (map named_data r.list)) (put (codes "value") (named_data r.value) o))

abbrev pub call_members : List ℕ → Entry → ReplyValue → Members
call_members kind e r = put (codes "outcome") (outcome_data r.outcome) (put (codes "call") (string (call_name e.call.kind)) (line_members kind e.thread e.mark))

abbrev pub played_members : List ℕ → Entry → ReplyValue → Members
played_members kind e r = with_values r (call_members kind e r)

-- ---- Why it was refused.
abbrev pub code_list : Option ℕ → List ℕ
code_list None = []
code_list (Some code) = code ∷ []

-- the codes of the errors of the rows that hold, of so many
unfoldable pub codes_of : Refusals → ℕ → List ℕ
codes_of r zero = []
codes_of r (suc n) = codes_of r n ++ code_list (code_at r n)

abbrev pub error_members : ℕ → Members
error_members code = put (codes "error") (named_data (pos code)) no_members

-- a row: its error, and its condition in words
abbrev pub row_data : ℕ → Option (List ℕ) → Data
row_data code None = object (error_members code)
row_data code (Some words) = object (put (codes "condition") (string words) (error_members code))

-- rows have these errors, one each, in this order
abbrev pub AreRows : List ℕ → List Data → Type 0
AreRows [] [] = Unit {0}
AreRows [] (d ∷ ds) = ⊥
AreRows (c ∷ cs) [] = ⊥
AreRows (c ∷ cs) (d ∷ ds) = ((words : Option (List ℕ)) × (d ≡ row_data c words)) × AreRows cs ds

-- the name that a number of the headers stands for
abbrev pub with_name : Option (List ℕ) → Members → Members
with_name None o = o
with_name (Some name) o = put (codes "header_name") (string name) o

-- each row that holds is told, and no other
abbrev pub TellsRows : Refusals → Members → Members → Type 0
TellsRows r before after = (rows : List Data) × AreRows (codes_of r 16) rows × ((name : Option (List ℕ)) × (after ≡ with_name name (put (codes "holds") (list_data rows) before)))

abbrev pub is_refused : Outcome → Bool
is_refused (Egl e) = true
is_refused (Gl e) = true
is_refused o = false

abbrev pub TellsRefusal : Bool → Refusals → Members → Members → Type 0
TellsRefusal true r before after = TellsRows r before after
TellsRefusal false r before after = after ≡ before

-- what is told of an entry: its call and what that answered, and where it was refused each row that held before it
abbrev pub TellsEntry : List ℕ → Entry → ReplyValue → Refusals → Members → Type 0
TellsEntry kind e r held o = TellsRefusal (is_refused r.outcome) held (played_members kind e r) o
