use Rattle.std.proofs.Common.{◌≡◌, ◌++◌, drop}
use Rattle.std.specs.List.{flat_map}
use Rattle.egl_judge.specs.Judgements.{note_text}
use Rattle.egl_judge.proofs.judgements.put_notes.Given as goal

abbrev pub invariant-each : goal.invariant-each
invariant-each l = l.out ++ flat_map note_text (drop l.note-index l.notes) ≡ l.fn.out ++ flat_map note_text l.notes
