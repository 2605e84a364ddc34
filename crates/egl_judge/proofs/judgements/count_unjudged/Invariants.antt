use Rattle.std.proofs.Common.{◌≡◌, ◌+◌, ◌≤◌, drop}
use Rattle.egl_judge.specs.Judgements.{count_of, is_unjudged}
use Rattle.egl_judge.proofs.judgements.count_unjudged.Given as goal

abbrev pub invariant-each : goal.invariant-each
invariant-each l = record {
  counted : l.count + count_of is_unjudged (drop l.note-index l.notes) ≡ count_of is_unjudged l.notes;
  few : l.count ≤ l.note-index;
}
