use Rattle.std.proofs.Common.{◌≡◌, length}
use Rattle.egl_names.specs.Joined.{parts}
use Rattle.egl_names.specs.Parts.{joined_parts}
use Rattle.egl_names.proofs.JoinLaws.{word_after}
use Rattle.egl_names.proofs.joined.joined_parts.Given as goal

abbrev pub invariant-parts : goal.invariant-parts
invariant-parts l = word_after l.bits (parts l.rest) ≡ joined_parts (parts l.fn.words)

abbrev pub decreases-parts : goal.decreases-parts
decreases-parts l = length l.rest
