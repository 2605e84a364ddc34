-- Used names, in rising order, each with its object where it has one (OpenGL ES 1.1, section 3.7.11).
use Rattle.std.specs.Prelude.{ℕ, zero, suc, ◌+◌, ◌≤◌, Bool, not, ◌==◌, nat_lt, if◌then◌else◌, List, [], ◌∷◌, ◌++◌, Option, None, Some, is_some}
use Rattle.std.specs.List.{filter, filter_map, find}
use Rattle.share_group.specs.declared.names.Name.{Name}

-- names rise, from `low` at least, and are below `end`
abbrev pub Rise : ℕ → List Name → ℕ → Type 0
Rise low [] end = low ≤ end
Rise low (x ∷ xs) end = (low ≤ x.name) × Rise (x.name + 1) xs end

-- a name with its object, in its place; it stands in for one with this name
abbrev pub put : Name → List Name → List Name
put e [] = e ∷ []
put e (x ∷ xs) = if nat_lt e.name x.name then e ∷ x ∷ xs else if e.name == x.name then e ∷ xs else x ∷ put e xs

abbrev pub is_of : ℕ → Name → Bool
is_of name n = n.name == name

-- the names but this one
abbrev pub without : ℕ → List Name → List Name
without name xs = filter (λ n. not (is_of name n)) xs

abbrev pub object_in : Option Name → Option ℕ
object_in None = None
object_in (Some n) = n.object

-- the object of a name; none where it has none, and where it isn't used
abbrev pub object_of : ℕ → List Name → Option ℕ
object_of name xs = object_in (find (is_of name) xs)

abbrev pub is_used : ℕ → List Name → Bool
is_used name xs = is_some (find (is_of name) xs)

-- the objects, by rising name
abbrev pub objects_in : List Name → List ℕ
objects_in xs = filter_map (λ n. n.object) xs

-- the smallest number from `low` on that isn't used
abbrev pub unused_from : ℕ → List Name → ℕ
unused_from low [] = low
unused_from low (x ∷ xs) = if x.name == low then unused_from (low + 1) xs else low

-- a name that is used and has no object yet
abbrev pub fresh : ℕ → Name
fresh name = record { name = name; object = None }

-- names after so many generations of the smallest unused one
unfoldable pub after : ℕ → List Name → List Name
after zero xs = xs
after (suc n) xs = put (fresh (unused_from 1 (after n xs))) (after n xs)

-- the names that are generated so
unfoldable pub given : ℕ → List Name → List ℕ
given zero xs = []
given (suc n) xs = given n xs ++ unused_from 1 (after n xs) ∷ []

-- the names but these
abbrev pub all_without : List ℕ → List Name → List Name
all_without [] xs = xs
all_without (n ∷ ns) xs = all_without ns (without n xs)
