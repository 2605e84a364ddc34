use Rattle.std.proofs.Common.{◌≡◌, map, drop}
use Rattle.egl_names.specs.Rows.{first_at}
use Rattle.egl_names.proofs.names.first_at.Given as goal

abbrev pub invariant-loop-place : goal.invariant-loop-place
invariant-loop-place l = first_at (map (λ s. s.now) l.list) (drop l.place-index l.places) l.text ≡ first_at (map (λ s. s.now) l.list) l.places l.text
