-- What is written to without memory.
use Rattle.std.specs.Prelude.{Bool, true, not, Option}
use Rattle.std.specs.Option.{option_map_or}
use Rattle.driver_objects.specs.Storages.{StorageValue}

-- whether a storage, if there is one, isn't frozen: no other shares its pixels, which are written in place
abbrev pub is_own_in : Option StorageValue → Bool
is_own_in o = option_map_or (λ v. not v.frozen) o true
