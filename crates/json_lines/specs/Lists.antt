-- What a list shows.
use Rattle.std.specs.Prelude.{List, map}
use Rattle.serde_json.specs.Data.{Data}
use Rattle.serde_json.specs.View.{view}
use Rattle.json_lines.specs.declared.lists.JsonList.{JsonList}

-- its items
abbrev pub items_of_list : JsonList → List Data
items_of_list l = map view l.items.items
