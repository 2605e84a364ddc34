-- What follows from the definitions of names.
use Rattle.std.specs.Prelude.{◌≡◌, ◌≢◌, ℕ, ◌≤◌, ◌<◌, List, true, false, length, All, AllPairs}
use Rattle.share_group.specs.declared.names.Name.{Name}
use Rattle.share_group.specs.Names.{Rise, after, all_without, given, is_used, object_of, unused_from, without}

-- the smallest unused number: it isn't used, and each smaller one is
pub record IsSmallest (low n : ℕ) (xs : List Name) : Type 0 where
  pub from : low ≤ n
  pub unused : is_used n xs ≡ false
  pub smaller : (m : ℕ) → low ≤ m → m < n → is_used m xs ≡ true

abbrev pub SmallestUnused : Type 0
SmallestUnused = (low end : ℕ) (xs : List Name) → Rise low xs end → IsSmallest low (unused_from low xs) xs

-- a name is freed, and no other
pub record IsFreed (name : ℕ) (xs ys : List Name) : Type 0 where
  pub freed : is_used name ys ≡ false
  pub others : (n : ℕ) → n ≢ name → (is_used n ys ≡ is_used n xs) × (object_of n ys ≡ object_of n xs)

abbrev pub FreesOne : Type 0
FreesOne = (name : ℕ) (xs : List Name) → IsFreed name xs (without name xs)

-- the names that are generated: as many as asked, in rising order, none of which was used. They are used from then on,
-- and with them each smaller number, so there were no smaller ones to give. Freed again they leave what was there.
pub record GivesSmallest (n : ℕ) (xs : List Name) : Type 0 where
  pub many : length (given n xs) ≡ n
  pub rising : AllPairs (λ a b. a < b) (given n xs)
  pub unused : All (λ m. is_used m xs ≡ false) (given n xs)
  pub used : All (λ m. is_used m (after n xs) ≡ true) (given n xs)
  pub smaller : All (λ m. (k : ℕ) → 1 ≤ k → k < m → is_used k (after n xs) ≡ true) (given n xs)
  pub back : all_without (given n xs) (after n xs) ≡ xs

abbrev pub GivesTheSmallest : Type 0
GivesTheSmallest = (n end : ℕ) (xs : List Name) → Rise 1 xs end → GivesSmallest n xs
