-- What the rooms promise, and whose parts are out.
use Rattle.std.proofs.Common.{◌≡◌, ℕ, ◌+◌, ◌-◌, ◌<◌, ◌≤◌, ◌==◌, not, Bool, true, false, zero, suc, List, [], ◌∷◌, ◌++◌, length, get_or, set, arith, refl, sym, ap, ◌∙◌, subst}
use Rattle.std.specs.List.{sum_by}
use Rattle.std.proofs.lemmas.Bool.{ne_eqb}
use Rattle.std.proofs.lemmas.List.{get_or-map, get_or-set_same, length-map, length-set, map-append, map-set, set-append_left, set-append_right, set-set}
use Rattle.std.proofs.lemmas.List.Sums.{sum_by-set, sum_by-append}
use Rattle.shared_driver.specs.Cores.{away_by, owed, place_for}

-- ---- What the rooms promise.
abbrev rest : ℕ → ℕ
rest r = r - 1

changed : (rooms : List ℕ) (n r : ℕ) → n < length rooms → owed (set rooms n r) + (get_or rooms n 0 - 1) ≡ owed rooms + (r - 1)
unfolding owed
changed rooms n r h = sum_by-set (λ (x : ℕ). x - 1) rooms n r 0 h

less : (s t a : ℕ) → s + a ≡ t + (0 - 1) → a ≤ t
less s t a e = omega arith

pub promised_less : (rooms : List ℕ) (n p : ℕ) → n < length rooms → p ≡ owed rooms → get_or rooms n 0 - 1 ≤ p
promised_less rooms n p h e = subst (λ q. get_or rooms n 0 - 1 ≤ q) (sym e) (less (owed (set rooms n 0)) (owed rooms) (get_or rooms n 0 - 1) (changed rooms n 0 h))

moved : (s t a b : ℕ) → a ≤ t → s + a ≡ t + b → (t - a) + b ≡ s
moved s t a b l e = omega arith

pub promised_set : (rooms : List ℕ) (n r p : ℕ) → n < length rooms → p ≡ owed rooms → (p - (get_or rooms n 0 - 1)) + (r - 1) ≡ owed (set rooms n r)
promised_set rooms n r p h e =
    moved (owed (set rooms n r)) p (get_or rooms n 0 - 1) (r - 1) (promised_less rooms n p h e) (changed rooms n r h ∙ ap (λ q. q + (r - 1)) (sym e))

pub promised_moves : (rooms : List ℕ) (n r p : ℕ) → n < length rooms → p ≡ owed rooms → ((p - (get_or rooms n 0 - 1)) + (r - 1)) + (get_or rooms n 0 - 1) ≡ p + (r - 1)
promised_moves rooms n r p h e = back p (get_or rooms n 0 - 1) (r - 1) (promised_less rooms n p h e)
  where
    back : (p a b : ℕ) → a ≤ p → ((p - a) + b) + a ≡ p + b
    back p a b l = omega arith

-- a room promises no more than all do
pub room_small : (rooms : List ℕ) (n p : ℕ) → n < length rooms → p ≡ owed rooms → get_or rooms n 0 ≤ p + 1
room_small rooms n p h e = let l = promised_less rooms n p h e in omega (arith, l)

-- one room more
pub promised_more : (rooms : List ℕ) (r p : ℕ) → p ≡ owed rooms → p + (r - 1) ≡ owed (rooms ++ r ∷ [])
unfolding owed
promised_more rooms r p e = rw e (ap (λ n. sum_by rest rooms + n) (more (r - 1)) ∙ sym (sum_by-append rest rooms (r ∷ [])))
  where
    more : (b : ℕ) → b ≡ 0 + b
    more b = omega arith

pub place_one : (b : Bool) → place_for b ≤ 1
place_one true = omega arith
place_one false = omega arith

-- ---- A room that is set twice.
pub set_twice : (rooms : List ℕ) (n a b : ℕ) → set (set rooms n a) n b ≡ set rooms n b
set_twice rooms n a b = set-set rooms n a b

pub set_more : (rooms : List ℕ) (n a k : ℕ) → n < length rooms → set (set rooms n a) n (get_or (set rooms n a) n 0 + k) ≡ set rooms n (a + k)
set_more rooms n a k h = set-set rooms n a _ ∙ ap (λ r. set rooms n (r + k)) (get_or-set_same rooms n a 0 h)

pub set_less : (rooms : List ℕ) (n a k : ℕ) → n < length rooms → set (set rooms n a) n (get_or (set rooms n a) n 0 - k) ≡ set rooms n (a - k)
set_less rooms n a k h = set-set rooms n a _ ∙ ap (λ r. set rooms n (r - k)) (get_or-set_same rooms n a 0 h)

pub room_itself : (rooms : List ℕ) (n : ℕ) → n < length rooms → set rooms n (get_or rooms n 0) ≡ rooms
room_itself [] n h = absurd (omega arith)
room_itself (x ∷ l) zero h = refl
room_itself (x ∷ l) (suc n) h = ap (λ y. x ∷ y) (room_itself l n (omega arith))

-- ---- Whose parts are out.
out_at : (rooms : List ℕ) (n : ℕ) → n < length rooms → get_or (away_by rooms) n false ≡ not (get_or rooms n 0 == 0)
unfolding away_by
out_at rooms n h = get_or-map (λ (r : ℕ). not (r == 0)) rooms n 0 false h

pub is_out : (rooms : List ℕ) (n : ℕ) → n < length rooms → 0 < get_or rooms n 0 → get_or (away_by rooms) n false ≡ true
is_out rooms n h l = out_at rooms n h ∙ ap not (ne_eqb (get_or rooms n 0) 0 (λ e. above (get_or rooms n 0) l e))
  where
    above : (r : ℕ) → 0 < r → r ≡ 0 → ⊥
    above r l e = omega arith

pub is_in : (rooms : List ℕ) (n : ℕ) → get_or rooms n 0 ≡ 0 → get_or (away_by rooms) n false ≡ false
unfolding away_by
is_in [] n e = refl
is_in (r ∷ rooms) zero e = ap (λ x. not (x == 0)) e
is_in (r ∷ rooms) (suc n) e = is_in rooms n e

pub length_away : (rooms : List ℕ) → length (away_by rooms) ≡ length rooms
unfolding away_by
length_away rooms = length-map rooms (λ (r : ℕ). not (r == 0))

away_set : (rooms : List ℕ) (n r : ℕ) → away_by (set rooms n r) ≡ set (away_by rooms) n (not (r == 0))
unfolding away_by
away_set rooms n r = map-set (λ (x : ℕ). not (x == 0)) rooms n r

-- with the part of n in it makes no difference which room it has
pub in_set : (rooms : List ℕ) (n r : ℕ) → set (away_by (set rooms n r)) n false ≡ set (away_by rooms) n false
in_set rooms n r = ap (λ l. set l n false) (away_set rooms n r) ∙ set-set (away_by rooms) n _ false

-- its part stays in where its room is 0
pub in_zero : (rooms : List ℕ) (n : ℕ) → away_by (set rooms n 0) ≡ set (away_by rooms) n false
in_zero rooms n = away_set rooms n 0

set_itself : (l : List Bool) (n : ℕ) (b : Bool) → n < length l → get_or l n false ≡ b → set l n b ≡ l
set_itself [] n b h e = absurd (omega arith)
set_itself (x ∷ l) zero b h e = ap (λ y. y ∷ l) (sym e)
set_itself (x ∷ l) (suc n) b h e = ap (λ y. x ∷ y) (set_itself l n b (omega arith) e)

-- and it goes out again
pub out_again : (rooms : List ℕ) (n : ℕ) → n < length rooms → 0 < get_or rooms n 0 → set (set (away_by rooms) n false) n true ≡ away_by rooms
out_again rooms n h l = set-set (away_by rooms) n false true ∙ set_itself (away_by rooms) n true (subst (λ k. n < k) (sym (length_away rooms)) h) (is_out rooms n h l)

-- that of a new token goes out for the first time
pub out_new : (rooms : List ℕ) (r n m : ℕ) → n < length rooms → length rooms ≡ m → 0 < r → set (set (away_by rooms) n false ++ false ∷ []) m true ≡ set (away_by (rooms ++ r ∷ [])) n false
unfolding away_by
out_new rooms r n m h e l =
    let a = away_by rooms in
    let long : length (set a n false) ≡ m = length-set a n false ∙ length_away rooms ∙ e in
    set-append_right (set a n false) (false ∷ []) m m true long (omega arith)
    ∙ ap (λ k. set a n false ++ set (false ∷ []) k true) (none m)
    ∙ ap (λ b. set a n false ++ b ∷ []) (sym (ap not (ne_eqb r 0 (λ z. above r l z))))
    ∙ sym (set-append_left a (not (r == 0) ∷ []) n false (subst (λ k. n < k) (sym (length_away rooms)) h))
    ∙ ap (λ q. set q n false) (sym (map-append (λ (x : ℕ). not (x == 0)) rooms (r ∷ [])))
  where
    none : (k : ℕ) → k - k ≡ 0
    none k = omega arith

    above : (r : ℕ) → 0 < r → r ≡ 0 → ⊥
    above r l e = omega arith
