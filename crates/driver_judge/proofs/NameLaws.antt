-- New names, one by one.
use Rattle.std.proofs.Common.{◌≡◌, ℕ, ◌+◌, ◌<◌, ◌≤◌, ℤ, pos, List, length, get_or, drop, refl, add-one, drop-cons}
use Rattle.share_group.specs.declared.names.NameKind.{NameKind}
use Rattle.driver_judge.specs.Answers.{NewNamesValue, new_name, new_names}
use Rattle.driver_judge.proofs.ListLaws.{drop_past}

pub next_name : (group : ℕ) (kind : NameKind) (zs ws : List ℤ) (k : ℕ) (n : NewNamesValue) → k < length zs → k < length ws → new_names group kind (drop (k + 1) zs) (drop (k + 1) ws) (new_name group kind (get_or zs k (pos 0)) (get_or ws k (pos 0)) n) ≡ new_names group kind (drop k zs) (drop k ws) n
unfolding new_names
next_name group kind zs ws k n h l = rw (add-one, drop-cons zs k (pos 0), drop-cons ws k (pos 0)) refl

pub ended : (group : ℕ) (kind : NameKind) (zs ws : List ℤ) (k : ℕ) (n : NewNamesValue) → length zs ≤ k → n ≡ new_names group kind (drop k zs) (drop k ws) n
unfolding new_names
ended group kind zs ws k n h = rw (drop_past zs k h) refl
