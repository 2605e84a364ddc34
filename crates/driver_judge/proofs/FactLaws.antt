-- Records of threads, padded.
use Rattle.std.proofs.Common.{◌≡◌, ℕ, ◌-◌, List, [], ◌∷◌, ◌++◌, length, get_or, refl, replicate, zero, suc}
use Rattle.egl_model.specs.declared.records.ThreadRecord.{ThreadRecord}
use Rattle.egl_model.specs.State.{capacity, initial}
use Rattle.driver_facts.specs.Threads.{padded}

same_past : {A : Type 0} (n t : ℕ) (d : A) → get_or (replicate n d) t d ≡ d
same_past zero t d = refl
same_past (suc n) zero d = refl
same_past (suc n) (suc t) d = same_past n t d

same_behind : {A : Type 0} (xs : List A) (n t : ℕ) (d : A) → get_or (xs ++ replicate n d) t d ≡ get_or xs t d
same_behind [] n t d = same_past n t d
same_behind (x ∷ xs) n zero d = refl
same_behind (x ∷ xs) n (suc t) d = same_behind xs n t d

-- a thread that wasn't made has the record of one that has made no call
pub padded_at : (rs : List ThreadRecord) (t : ℕ) → get_or (padded rs) t initial ≡ get_or rs t initial
unfolding padded
padded_at rs t = same_behind rs (capacity - length rs) t initial
