-- What a driver keeps, as a value.
use Rattle.std.specs.Prelude.{ℕ, List, Option}
use Rattle.driver_objects.specs.declared.objects.Object.{Object}
use Rattle.egl_model.specs.declared.records.ThreadRecord.{ThreadRecord}
use Rattle.surface_store.specs.Windows.{WindowValue}
use Rattle.display_table.specs.Tables.{DisplaysValue}
use Rattle.egl_model.specs.Sweep.{roots_of}
use Rattle.object_table.specs.Tables.{AreHolds}
use Rattle.egl_model.specs.State.{State}
use Rattle.driver_facts.specs.declared.tables.Tables.{Tables}

-- the state that the parts of a driver stand for
abbrev pub state_of : DisplaysValue → List (Option Object) → List ThreadRecord → List WindowValue → ℕ → State
state_of displays objects threads windows video = record {
  first = displays.first;
  second = displays.second;
  objects = objects;
  handles = displays.handles;
  next_handle = displays.next_handle;
  threads = threads;
  windows = windows;
  video = video;
}

-- the state that tables stand for
abbrev pub state_in : Tables → State
state_in t = state_of t.displays t.objects.objects t.threads.records t.windows t.video

-- the objects are held from outside as the roots say
abbrev pub KnowsRoots : Tables → Type 0
KnowsRoots t = AreHolds (roots_of t.displays.handles t.threads.records) t.objects.holds
