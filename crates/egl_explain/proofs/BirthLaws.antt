-- Where one object more comes from.
use Rattle.std.proofs.Common.{◌≡◌, ℕ, ◌+◌, List, [], ◌∷◌, ◌++◌, replicate, ap, ◌∙◌, append_assoc}
use Rattle.std.proofs.lemmas.List.{replicate_more}

pub one_more : {X : Type 0} (first old new : List X) (k : ℕ) (x : X) → new ≡ old ++ x ∷ [] → old ≡ first ++ replicate k x → new ≡ first ++ replicate (k + 1) x
one_more first old new k x e f = e ∙ ap (λ l. l ++ x ∷ []) f ∙ append_assoc first (replicate k x) (x ∷ []) ∙ ap (λ l. first ++ l) (replicate_more k x)
