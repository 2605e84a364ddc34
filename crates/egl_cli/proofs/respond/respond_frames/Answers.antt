use Rattle.std.proofs.Common.{Some}
use Rattle.egl_cli.specs.declared.commands.Command.TheVariants.{Compose}
use Rattle.trace_reader.specs.Grammar.{trace}
use Rattle.egl_cli.specs.Answers.{run_frames}
use Rattle.egl_cli.proofs.AnswerLaws.{compose_is}
use Rattle.egl_cli.proofs.SaysLaws.{says_refused}
use Rattle.egl_cli.proofs.ComposeLaws.{says_frames, headline_frames, stalled_frames}
use Rattle.egl_cli.proofs.respond.respond_frames.Goals as goal

pub returns-in-Ok-clause-says : goal.returns-in-Ok-clause-says
returns-in-Ok-clause-says g c =
    let read = c.in-Ok.ensures.trace in
    says_frames _ _ _ _ _ _ _ _ c.in-Ok.trace read.1.0 c.tell_frames.result read.1.1 read.1.2 c.tell_frames.ensures.wrote

pub returns-in-Ok-clause-headline : goal.returns-in-Ok-clause-headline
returns-in-Ok-clause-headline g c e =
    let read = c.in-Ok.ensures.trace in
    headline_frames _ _ _ _ _ _ _ read.1.0 c.tell_frames.result read.1.1 c.in-Ok.trace read.1.2 c.tell_frames.ensures.trace c.tell_frames.ensures.wrote e

pub returns-in-Ok-clause-stalled : goal.returns-in-Ok-clause-stalled
returns-in-Ok-clause-stalled g c e =
    let read = c.in-Ok.ensures.trace in
    stalled_frames _ _ _ _ _ _ _ read.1.0 c.tell_frames.result read.1.1 c.in-Ok.trace read.1.2 c.tell_frames.ensures.trace c.tell_frames.ensures.wrote e

pub returns-in-Err-clause-says : goal.returns-in-Err-clause-says
returns-in-Err-clause-says g c =
    says_refused _ _ _ _ _ _ _ trace (run_frames c.args.width c.args.height) (Some (Compose c.args.width c.args.height)) tt (compose_is c.args.width c.args.height) c.in-Err.error c.refuse.result c.in-Err.ensures.cause c.refuse.ensures.wrote
