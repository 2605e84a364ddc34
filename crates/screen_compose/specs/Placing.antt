-- Where windows lie on a screen.
use Rattle.std.specs.Prelude.{ℕ, ℤ, pos, neg_ℤ, Bool, true, false, ◌&&◌, List, [], ◌∷◌, length, nat_le, int_le, if◌then◌else◌}
use Rattle.std.specs.Ordering.{int_eq}
use Rattle.screen_compose.specs.declared.placed.Placed.{Placed}

-- whether a list places a window
abbrev pub places : ℤ → List Placed → Bool
places window [] = false
places window (p ∷ list) = if int_eq p.window window then true else places window list

-- whether a place is in the range of 32 bits
abbrev pub is_near : ℤ → Bool
is_near z = int_le (neg_ℤ (pos 2147483648)) z && int_le z (pos 2147483647)

abbrev pub lies_near : Placed → Bool
lies_near p = is_near p.x && is_near p.y

-- whether each window lies in that range, and none is placed twice
abbrev pub are_placed : List Placed → Bool
are_placed [] = true
are_placed (p ∷ list) = if lies_near p then (if places p.window list then false else are_placed list) else false

-- a side of a screen
abbrev pub is_side : ℕ → Bool
is_side n = nat_le 1 n && nat_le n 2048

-- whether there may be a screen of these sides with these windows, which are 64 at most
abbrev pub screen_ok : ℕ → ℕ → List Placed → Bool
screen_ok w h list = is_side w && is_side h && nat_le (length list) 64 && are_placed list
