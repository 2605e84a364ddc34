-- What reading gives where memory doesn't run out.
use Rattle.std.specs.Prelude.{◌≡◌, List, Result, Ok, Err}
use Rattle.trace_reader.specs.declared.traces.Reason.{Reason}
use Rattle.trace_reader.specs.declared.body.LineError.{LineError}
use Rattle.trace_reader.specs.declared.body.LineError.TheVariants.{Defective, NoMemory}
use Rattle.scene_reader.specs.declared.items.Item.{Item}

-- what words say
abbrev pub GivesSaid : {A : Type 0} → Result A Reason → Result A LineError → Type 0
GivesSaid said (Ok x) = said ≡ Ok x
GivesSaid said (Err (Defective r)) = said ≡ Err r
GivesSaid said (Err NoMemory) = Unit {0}

-- what a line makes of the items before it; a defective one leaves them as they are
abbrev pub GivesItems : Result (List Item) Reason → List Item → List Item → Result (Unit {0}) LineError → Type 0
GivesItems said before after (Ok x) = said ≡ Ok after
GivesItems said before after (Err (Defective r)) = said ≡ Err r
GivesItems said before after (Err NoMemory) = Unit {0}
