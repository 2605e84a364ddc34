use Rattle.std.proofs.Common.{◌≡◌, map, drop}
use Rattle.egl_calls.specs.declared.kinds.Kind.TheVariants.{Gl}
use Rattle.egl_names.specs.Names.{value_in}
use Rattle.trace_reader.specs.CallNames.{signature}
use Rattle.trace_reader.proofs.call_names.gl_named.Given as goal

abbrev pub invariant-loop-row : goal.invariant-loop-row
invariant-loop-row l = value_in (map (λ r. (r.0.now, signature (Gl r.1) r.2.now)) (drop l.row-index l.rows)) l.word ≡ value_in (map (λ r. (r.0.now, signature (Gl r.1) r.2.now)) l.rows) l.word
