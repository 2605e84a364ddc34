-- The trace whose lines are calls.
use Rattle.std.specs.Prelude.{ℕ, ◌+◌, List, [], ◌∷◌, ◌++◌, codes, Option, None, Some}
use Rattle.std.specs.List.{flat_map}
use Rattle.egl_calls.specs.Arguments.{signed}
use Rattle.egl_calls.specs.Calls.{CallValue}
use Rattle.call_table.specs.declared.forms.Form.{Form}
use Rattle.call_table.specs.declared.forms.Form.TheVariants.{Number, Config, NumberOrVariable, PostNumber, Timeout, AttributeList, NumberList, NameList, Payload}
use Rattle.trace_model.specs.Recording.{hex_byte, list_text, number_text}
use Rattle.trace_reader.specs.Arguments.{place_behind}
use Rattle.trace_reader.specs.Traces.{TraceValue}
use Rattle.trace_reader.specs.declared.traces.Line.{Line}
use Rattle.scene_reader.specs.Scenes.{SceneValue}
use Rattle.sprite_scene.specs.Calls.{calls_of}
use Rattle.sprite_scene.specs.Runs.{video_bytes}
use Rattle.call_table.specs.Names.{call_name}
use Rattle.scene_trace.specs.Rows.{call_forms}

-- two digits a byte, and - for the null pointer
unfoldable pub payload_text : Option (List ℕ) → List ℕ
payload_text None = codes "-"
payload_text (Some bs) = codes "#" ++ flat_map hex_byte bs

-- the word of an argument of a form: the number in its place, the call's list, or its payload
abbrev pub argument_word : ℕ → Form → CallValue → List ℕ
argument_word place Number c = number_text (signed c place)
argument_word place Config c = number_text (signed c place)
argument_word place NumberOrVariable c = number_text (signed c place)
argument_word place PostNumber c = number_text (signed c place)
argument_word place Timeout c = number_text (signed c place)
argument_word place AttributeList c = list_text c.list
argument_word place NumberList c = list_text c.list
argument_word place NameList c = list_text c.list
argument_word place Payload c = payload_text c.bytes

-- those of arguments of these forms, the first number of which has this place
abbrev pub argument_words : ℕ → List Form → CallValue → List (List ℕ)
argument_words place [] c = []
argument_words place (f ∷ fs) c = argument_word place f c ∷ argument_words (place_behind place f) fs c

-- the place behind all of them
abbrev pub place_behind_all : ℕ → List Form → ℕ
place_behind_all place [] = place
place_behind_all place (f ∷ fs) = place_behind_all (place_behind place f) fs

-- a word behind a space
abbrev pub spaced : List ℕ → List ℕ
spaced w = codes " " ++ w

-- 0 NAME ARGUMENT ..
unfoldable pub call_line : CallValue → List ℕ
call_line c = codes "0 " ++ call_name c.kind ++ flat_map spaced (argument_words 0 (call_forms c.kind) c) ++ codes "\n"

-- a header of one thread, the bytes for pixels, and a line for each call of a scene
unfoldable pub scene_text : SceneValue → List ℕ
scene_text s = codes "egl-trace 1 1\nvideo 1073741824\n" ++ flat_map call_line (calls_of s)

-- a line of thread 0 without variables
abbrev pub line_of : ℕ → CallValue → Line
line_of number c = record { number = number; thread = 0; assigns = None; call = c; uses = [] }

-- those of calls, from a number on
abbrev pub lines_from : ℕ → List CallValue → List Line
lines_from number [] = []
lines_from number (c ∷ cs) = line_of number c ∷ lines_from (number + 1) cs

-- the trace of one thread whose lines are these calls
abbrev pub trace_of : List CallValue → TraceValue
trace_of cs = record { threads = 1; video = video_bytes; windows = []; lines = lines_from 3 cs }
