-- The frames of a run: what a screen shows on which the windows of its trace are stacked.
use Rattle.std.specs.Prelude.{ℕ, ◌+◌, ◌*◌, pos, Bool, true, false, ◌&&◌, List, [], ◌∷◌, ◌++◌, if◌then◌else◌, length, codes, count_by, decimal, map}
use Rattle.egl_calls.specs.Errors.{is_done}
use Rattle.std.specs.List.{sum}
use Rattle.egl_calls.specs.declared.entries.Entry.{Entry}
use Rattle.egl_calls.specs.declared.kinds.Kind.{Kind}
use Rattle.egl_calls.specs.declared.kinds.Kind.TheVariants.{Egl}
use Rattle.egl_calls.specs.declared.kinds.EglKind.TheVariants.{SwapBuffers}
use Rattle.surface_store.specs.declared.windows.WindowSpec.{WindowSpec}
use Rattle.surface_store.specs.Windows.{WindowValue}
use Rattle.egl_model.specs.State.{State, opening}
use Rattle.egl_model.specs.History.{replay_from}
use Rattle.trace_reader.specs.Traces.{TraceValue}
use Rattle.screen_compose.specs.declared.placed.Placed.{Placed}
use Rattle.screen_compose.specs.Composing.{composed}
use Rattle.screen_compose.specs.Screens.{picture_bytes}
use Rattle.screen_compose.specs.Shown.{layer_of}

-- ---- The windows on the screen.
-- a window over which so many lie lower: each lies 16 pixels further to the right and upward than the one below it
abbrev pub placed_over : ℕ → WindowSpec → Placed
placed_over below s = record { window = s.id; x = pos (16 * below); y = pos (16 * below) }

abbrev pub stacked_over : ℕ → List WindowSpec → List Placed
stacked_over below [] = []
stacked_over below (s ∷ specs) = placed_over below s ∷ stacked_over (below + 1) specs

-- the windows of a trace in the order in which they are declared, the first the lowest
abbrev pub stacked : List WindowSpec → List Placed
stacked specs = stacked_over 0 specs

-- the bytes of a screen of these sides that shows these windows
abbrev pub picture_of : ℕ → ℕ → List Placed → List WindowValue → List ℕ
picture_of w h placed windows = picture_bytes (composed (map (layer_of windows) placed) w h)

-- ---- Which entries make a frame.
abbrev pub is_swap : Kind → Bool
is_swap (Egl SwapBuffers) = true
is_swap k = false

-- a swap that isn't refused, of a window's surface or of any other
abbrev pub makes_frame : Entry → Bool
makes_frame e = is_swap e.call.kind && is_done e.reply.outcome

-- ---- Their text.
-- frame N AT SUM
unfoldable pub frame_line : ℕ → ℕ → ℕ → List ℕ
frame_line number at total = codes "frame " ++ decimal number ++ codes " " ++ decimal at ++ codes " " ++ decimal total ++ codes "\n"

-- on a screen of these sides with these windows, from a state on: what is printed of an entry behind others. A frame has its number among the frames, how many entries there are with it, and the sum of the bytes that the screen then shows
abbrev pub frame_of : ℕ → ℕ → List Placed → State → List Entry → Entry → List ℕ
frame_of w h placed s journal e =
    if makes_frame e then frame_line (count_by makes_frame journal) (length journal + 1) (sum (picture_of w h placed (replay_from s (journal ++ e ∷ [])).windows)) else []

-- the same of entries that stand behind others, in their order
unfoldable pub frames_of : ℕ → ℕ → List Placed → State → List Entry → List Entry → List ℕ
frames_of w h placed s journal [] = []
frames_of w h placed s journal (e ∷ es) = frame_of w h placed s journal e ++ frames_of w h placed s (journal ++ e ∷ []) es

-- the frames of a journal of a trace, on a screen of these sides
unfoldable pub frames_text : ℕ → ℕ → TraceValue → List Entry → List ℕ
frames_text w h t journal = frames_of w h (stacked t.windows) (opening t.windows t.video) [] journal ++ codes "end\n"
