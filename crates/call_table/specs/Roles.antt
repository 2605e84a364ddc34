-- What the role of a call says of it.
use Rattle.std.specs.Prelude.{Bool, true, false, Option, None, Some}
use Rattle.display_table.specs.declared.handles.HandleKind.{HandleKind}
use Rattle.call_table.specs.declared.roles.Role.{Role}
use Rattle.call_table.specs.declared.roles.Role.TheVariants.{Clears, Creates, Destroys, Releases, Deletes, Draws, Flushes, OwnState, ReadsPixels}

-- the kind of the handle that it makes
abbrev pub created : Role → Option HandleKind
created (Creates kind) = Some kind
created r = None

-- the kind of the handle that it makes invalid
abbrev pub destroyed : Role → Option HandleKind
destroyed (Destroys kind) = Some kind
destroyed r = None

-- whether it does nothing but let go, or flush
abbrev pub lets_go : Role → Bool
lets_go (Destroys kind) = true
lets_go Releases = true
lets_go (Deletes names) = true
lets_go Flushes = true
lets_go r = false

-- whether it clears buffers
abbrev pub clears : Role → Bool
clears Clears = true
clears r = false

-- whether it clears buffers or answers pixels, which a thread may have for itself
abbrev pub takes_pixels : Role → Bool
takes_pixels Clears = true
takes_pixels ReadsPixels = true
takes_pixels r = false

-- whether it draws a texture
abbrev pub draws : Role → Bool
draws Draws = true
draws r = false

-- whether it asks or sets what its thread or its context keeps for itself, and nothing else
abbrev pub is_own_state : Role → Bool
is_own_state OwnState = true
is_own_state r = false
