use Rattle.egl_cli.proofs.stalled_lines.put_stalled.Goals as goal

pub returns : goal.returns
returns c = rw c.in_ok-session.ensures.trace at (c.put_waiting.ensures c.args.journal.now.entries c.in_ok-session.ensures.learnt)
