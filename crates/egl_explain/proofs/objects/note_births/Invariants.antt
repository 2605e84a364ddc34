use Rattle.std.proofs.Common.{◌≡◌, ◌++◌, replicate}
use Rattle.egl_explain.proofs.objects.note_births.Given as goal

-- so many objects are noted
abbrev pub invariant-each : goal.invariant-each
invariant-each l = l.births.items ≡ l.fn.births.items ++ replicate l._k l.birth
