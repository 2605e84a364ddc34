use Rattle.std.proofs.Common.{replicate}
use Rattle.egl_explain.specs.Pieces.{HasPiece}
use Rattle.egl_explain.proofs.pages.Page.put_spaces.Given as goal

-- so many spaces were put
abbrev pub invariant-each : goal.invariant-each
invariant-each l = HasPiece l.fn.self (replicate l._k 32) l.self
