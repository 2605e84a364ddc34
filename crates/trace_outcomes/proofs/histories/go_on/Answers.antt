use Rattle.std.proofs.Common.{◌++◌, ◌∷◌, ◌∙◌, [], List, ap, sym, None, Some}
use Rattle.std.specs.Prelude.{is_some}
use Rattle.egl_calls.specs.declared.entries.Entry.{Entry}
use Rattle.trace_outcomes.proofs.TurnLaws.{after_by}
use Rattle.trace_outcomes.proofs.histories.go_on.Goals as goal

pub returns-in_default-clause-journal : goal.returns-in_default-clause-journal
returns-in_default-clause-journal c =
    let journal = c.args.journal.now.entries in
    let due = rw c.in_default.is at (c.in_ok-due.ensures.due journal c.requires.behind) in
    sym (after_by c.args.session.now.trace journal c.args.thread None (sym due))

pub returns-in_default-clause-behind : goal.returns-in_default-clause-behind
returns-in_default-clause-behind c = rw c.in_default.is at (c.in_ok-due.ensures.behind c.args.journal.now.entries c.requires.behind)

pub returns-in_default-clause-could : goal.returns-in_default-clause-could
returns-in_default-clause-could c = ap is_some (rw c.in_default.is at (c.in_ok-due.ensures.due c.args.journal.now.entries c.requires.behind))

pub returns-clause-journal : goal.returns-clause-journal
returns-clause-journal c =
    let journal = c.args.journal.now.entries in
    let due = rw c.in-Some.is at (c.in_ok-due.ensures.due journal c.requires.behind) in
    let same = c.push.ensures.entries ∙ ap (λ (es : List Entry). es ++ c.in-Some.entry ∷ []) c.reserve.ensures.entries in
    same ∙ sym (after_by c.args.session.now.trace journal c.args.thread (Some c.in-Some.entry) (sym due))

pub returns-clause-behind : goal.returns-clause-behind
returns-clause-behind c =
    let journal = c.args.journal.now.entries in
    let same = c.push.ensures.entries ∙ ap (λ (es : List Entry). es ++ c.in-Some.entry ∷ []) c.reserve.ensures.entries in
    rw same (rw c.in-Some.is at (c.in_ok-due.ensures.behind journal c.requires.behind))

pub returns-clause-could : goal.returns-clause-could
returns-clause-could c = ap is_some (rw c.in-Some.is at (c.in_ok-due.ensures.due c.args.journal.now.entries c.requires.behind))
