-- What an object shows.
use Rattle.serde_json.specs.Data.{Members}
use Rattle.serde_json.specs.View.{members_view}
use Rattle.json_lines.specs.declared.objects.JsonObject.{JsonObject}

-- its members, in the order of their names
abbrev pub members_of : JsonObject → Members
members_of o = members_view o.members.entries
