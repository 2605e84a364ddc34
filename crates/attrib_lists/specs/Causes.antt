-- Why a list is refused.
use Rattle.std.specs.Prelude.{◌≡◌, ℕ, Option, None, Some}
use Rattle.std.specs.Option.{option_map}
use Rattle.attrib_lists.specs.Places.{capped}
use Rattle.attrib_lists.specs.declared.list.AttribError.{AttribError}
use Rattle.attrib_lists.specs.declared.list.AttribError.TheVariants.{BadAttribute, NoMemory}

-- the error names the bad place; want of memory comes only where there is none
abbrev pub IsCause : Option ℕ → AttribError → Type 0
IsCause bad (BadAttribute place) = option_map capped bad ≡ Some place
IsCause bad NoMemory = bad ≡ None
