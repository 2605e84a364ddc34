-- Calls of std that were broken off, and then one that was not.
use Rattle.std.proofs.Common.{ℕ, List, [], ◌++◌, sym, ap, ◌∙◌, refl, Option, None, Some}
use Rattle.std.proofs.lemmas.List.{append-nil}
use Rattle.std.specs.Io.KnownBytes.{Keeps, Appends, Consumes}
use Rattle.egl_flow.specs.Flow.{Gave, Took}

pub kept_none : (known : Option (List ℕ)) → Keeps known known
kept_none None = tt
kept_none (Some b) = refl

pub kept_more : (old mid new : Option (List ℕ)) → Keeps old mid → Keeps mid new → Keeps old new
kept_more None mid new p q = tt
kept_more (Some x) None new p q = absurd p
kept_more (Some x) (Some y) None p q = q
kept_more (Some x) (Some y) (Some z) p q = q ∙ p

pub gave_behind : (old mid new : Option (List ℕ)) (piece : List ℕ) → Keeps old mid → Consumes mid new piece → Gave old piece new
gave_behind None mid new piece p q = tt
gave_behind (Some x) None new piece p q = absurd p
gave_behind (Some x) (Some y) None piece p q = q
gave_behind (Some x) (Some y) (Some z) piece p q = sym p ∙ q

pub gave_later : (old mid new : Option (List ℕ)) (piece : List ℕ) → Keeps old mid → Gave mid piece new → Gave old piece new
gave_later None mid new piece p q = tt
gave_later (Some x) None new piece p q = absurd p
gave_later (Some x) (Some y) None piece p q = q
gave_later (Some x) (Some y) (Some z) piece p q = sym p ∙ q

pub took_behind : (old mid new : Option (List ℕ)) (piece : List ℕ) → Keeps old mid → Appends mid new piece → Took old piece new
took_behind None mid new piece p q = tt
took_behind (Some x) None new piece p q = absurd p
took_behind (Some x) (Some y) None piece p q = q
took_behind (Some x) (Some y) (Some z) piece p q = q ∙ ap (λ (r : List ℕ). r ++ piece) p

pub took_none : (old new : Option (List ℕ)) → Keeps old new → Took old [] new
took_none None new p = tt
took_none (Some x) None p = p
took_none (Some x) (Some y) p = p ∙ sym (append-nil x)
