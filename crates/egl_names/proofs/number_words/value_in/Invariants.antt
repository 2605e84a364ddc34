use Rattle.std.proofs.Common.{◌≡◌, map, drop}
use Rattle.egl_names.specs.Names.{value_in}
use Rattle.egl_names.proofs.number_words.value_in.Given as goal

abbrev pub invariant-loop-entry : goal.invariant-loop-entry
invariant-loop-entry g l = value_in (map (λ e. (e.0.now, e.1)) (drop l.entry-index l.words)) l.word ≡ value_in (map (λ e. (e.0.now, e.1)) l.words) l.word
