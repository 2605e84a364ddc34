use Rattle.std.proofs.Common.{◌≡◌, ◌+◌, ◌≤◌, drop}
use Rattle.egl_judge.specs.Judgements.{count_of, differs}
use Rattle.egl_judge.proofs.judgements.count_differences.Given as goal

abbrev pub invariant-each : goal.invariant-each
invariant-each l = record {
  counted : l.count + count_of differs (drop l.note-index l.notes) ≡ count_of differs l.notes;
  few : l.count ≤ l.note-index;
}
