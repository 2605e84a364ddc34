-- What went through the ends of a queue of frames.
use Rattle.std.specs.Prelude.{◌≡◌, ℕ, true, List}
use Rattle.crossbeam_queue.specs.Passes.{IsPassOf, ruled_capacity, view}
use Rattle.screen_compose.specs.declared.screens.Frame.{Frame}
use Rattle.screen_compose.specs.declared.frames.Frames.{Frames}
use Rattle.screen_compose.specs.declared.frames.PutEnd.{PutEnd}
use Rattle.screen_compose.specs.declared.frames.TakeEnd.{TakeEnd}
use Rattle.screen_compose.specs.declared.rests.Rest.{Rest}

-- what has gone through an end
abbrev pub put_by : PutEnd → List Frame
put_by e = (view e.pass).put

abbrev pub taken_by : TakeEnd → List Frame
taken_by e = (view e.pass).taken

-- the end is one with which this queue was opened
abbrev pub IsPutEnd : Frames → PutEnd → Type 0
IsPutEnd f e = IsPassOf f.queue e.pass × ((view e.pass).puts ≡ true)

abbrev pub IsTakeEnd : Frames → TakeEnd → Type 0
IsTakeEnd f e = IsPassOf f.queue e.pass × ((view e.pass).takes ≡ true)

abbrev pub capacity_of : Frames → ℕ
capacity_of f = ruled_capacity f.queue

-- what went through the ends of a closed queue, and what was taken since
abbrev pub put_in : Rest → List Frame
put_in r = (view r.pass).put

abbrev pub taken_in : Rest → List Frame
taken_in r = (view r.pass).taken
