-- What isn't hidden with the parts that are out.
use Rattle.std.proofs.Common.{◌≡◌, ℕ, ◌+◌, ◌==◌, List, [], ◌∷◌, refl, ap, ◌∙◌}
use Rattle.std.specs.List.{count_by, sum_by}
use Rattle.egl_model.specs.Parts.{Own, put_own, own_objects}
use Rattle.egl_model.specs.State.{State, record_of}
use Rattle.egl_model.specs.Sweep.{edges_at, edges_in, references, roots}
use Rattle.egl_model.specs.Waits.{is_signalled}
use Rattle.model_laws.specs.Hidden.{hide, nothing}
use Rattle.model_laws.proofs.Steps.Blinds.{signalled-put}
use Rattle.model_laws.proofs.References.LitterLaws.{roots-set_error}
use Rattle.model_laws.proofs.Parts.Puts.{record-put}
use Rattle.model_laws.proofs.Changes.Writes.{blind-edges, edges_at-written, sum-written}

pub windows-hide : (s : State) (out : List ℕ) → (hide out s).windows ≡ s.windows
windows-hide s [] = refl
windows-hide s (u ∷ us) = windows-hide s us

pub handles-hide : (s : State) (out : List ℕ) → (hide out s).handles ≡ s.handles
handles-hide s [] = refl
handles-hide s (u ∷ us) = handles-hide s us

pub wait-hide : (s : State) (out : List ℕ) (t : ℕ) → (record_of (hide out s) t).wait ≡ (record_of s t).wait
wait-hide s [] t = refl
wait-hide s (u ∷ us) t = record-put (λ r. r.wait) (λ r e. refl) (hide us s) u t nothing.error ∙ wait-hide s us t

pub signalled-hide : (s : State) (out : List ℕ) (n : ℕ) → is_signalled (hide out s) n ≡ is_signalled s n
signalled-hide s [] n = refl
signalled-hide s (u ∷ us) n = signalled-put (own_objects (hide us s) u) u n nothing (hide us s) ∙ signalled-hide s us n

pub roots-hide : (s : State) (out : List ℕ) → roots (hide out s) ≡ roots s
roots-hide s [] = refl
roots-hide s (u ∷ us) = roots-set_error (hide us s) u nothing.error ∙ roots-hide s us

pub edges-hide : (s : State) (out : List ℕ) → edges_at (hide out s).objects ≡ edges_at s.objects
edges-hide s [] = refl
edges-hide s (u ∷ us) = edges_at-written (own_objects (hide us s) u) nothing (hide us s).objects ∙ edges-hide s us

counted : (s : State) (u n : ℕ) (x : Own) → references (put_own s u x) n ≡ references s n
unfolding references
counted s u n x =
    ap (λ k. k + count_by (λ m. m == n) (roots (put_own s u x))) (sum-written (λ o. count_by (λ m. m == n) (edges_in o)) (λ o. ap (count_by (λ m. m == n)) (blind-edges o)) (own_objects s u) x s.objects)
    ∙ ap (λ rs. sum_by (λ o. count_by (λ m. m == n) (edges_in o)) s.objects + count_by (λ m. m == n) rs) (roots-set_error s u x.error)

pub references-hide : (s : State) (out : List ℕ) (n : ℕ) → references (hide out s) n ≡ references s n
references-hide s [] n = refl
references-hide s (u ∷ us) n = counted (hide us s) u n nothing ∙ references-hide s us n
