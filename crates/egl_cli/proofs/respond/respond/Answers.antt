use Rattle.std.proofs.Common.{Some}
use Rattle.egl_cli.specs.declared.commands.Command.TheVariants.{Serial}
use Rattle.trace_reader.specs.Grammar.{trace}
use Rattle.egl_cli.specs.Answers.{run_answer}
use Rattle.egl_cli.proofs.AnswerLaws.{serial_is}
use Rattle.egl_cli.proofs.SaysLaws.{says_refused}
use Rattle.egl_cli.proofs.SerialLaws.{says_serial, headline_serial, stalled_serial}
use Rattle.egl_cli.proofs.respond.respond.Goals as goal

pub returns-in-Ok-clause-says : goal.returns-in-Ok-clause-says
returns-in-Ok-clause-says g c =
    let read = c.in-Ok.ensures.trace in
    says_serial _ _ _ _ _ _ c.in-Ok.trace read.1.0 c.tell_run.result read.1.1 read.1.2 c.tell_run.ensures.wrote

pub returns-in-Ok-clause-headline : goal.returns-in-Ok-clause-headline
returns-in-Ok-clause-headline g c e =
    let read = c.in-Ok.ensures.trace in
    headline_serial _ _ _ _ _ read.1.0 c.tell_run.result read.1.1 c.in-Ok.trace read.1.2 c.tell_run.ensures.trace c.tell_run.ensures.wrote e

pub returns-in-Ok-clause-stalled : goal.returns-in-Ok-clause-stalled
returns-in-Ok-clause-stalled g c e =
    let read = c.in-Ok.ensures.trace in
    stalled_serial _ _ _ _ _ read.1.0 c.tell_run.result read.1.1 c.in-Ok.trace read.1.2 c.tell_run.ensures.trace c.tell_run.ensures.wrote e

pub returns-in-Err-clause-says : goal.returns-in-Err-clause-says
returns-in-Err-clause-says g c =
    says_refused _ _ _ _ _ _ _ trace run_answer (Some Serial) tt serial_is c.in-Err.error c.refuse.result c.in-Err.ensures.cause c.refuse.ensures.wrote
