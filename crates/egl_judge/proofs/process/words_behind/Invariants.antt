use Rattle.std.proofs.Common.{◌≡◌, ◌++◌, drop}
use Rattle.std.specs.Prelude.{map}
use Rattle.std.specs.Vec.Iter.{into_iter_items, into_iter_len}
use Rattle.std.specs.String.{string_bytes}
use Rattle.egl_judge.proofs.process.words_behind.Given as goal

abbrev pub invariant-each : goal.invariant-each
invariant-each l = l.words.items ++ map string_bytes (into_iter_items l.left) ≡ map string_bytes (drop 1 (into_iter_items l.fn.args))

abbrev pub decreases-each : goal.decreases-each
decreases-each l = into_iter_len l.left
