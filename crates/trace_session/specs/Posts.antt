-- The numbers that are posted.
use Rattle.std.specs.Prelude.{ℕ, Bool, false, ◌==◌, nat_lt, if◌then◌else◌, List, [], slice_index_or}
use Rattle.std.specs.List.{list_any}
use Rattle.trace_session.specs.declared.posts.TheConstants.{MOST_FLAGS}

pub record PostsValue : Type 0 where
  -- for each number as far as they reach, whether it is posted
  pub flags : List Bool
  -- those that are too large for a flag, in their order
  pub others : List ℕ

abbrev pub no_posts : PostsValue
no_posts = record { flags = []; others = [] }

-- a number has a flag; any other is looked for among the others
abbrev pub has_flag : ℕ → Bool
has_flag n = nat_lt n MOST_FLAGS

abbrev pub is_flagged : List Bool → ℕ → Bool
is_flagged flags n = slice_index_or flags n false

abbrev pub is_other : List ℕ → ℕ → Bool
is_other others n = list_any (λ m. m == n) others

-- a number is among those that are posted
abbrev pub is_among : PostsValue → ℕ → Bool
is_among posted n = if has_flag n then is_flagged posted.flags n else is_other posted.others n
