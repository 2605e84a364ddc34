use Rattle.std.proofs.Common.{Some}
use Rattle.egl_cli.specs.declared.commands.Command.TheVariants.{Races}
use Rattle.egl_cli.specs.Answers.{unreported}
use Rattle.egl_cli.specs.BodyLines.{short_trace}
use Rattle.egl_cli.proofs.AnswerLaws.{races_is}
use Rattle.egl_cli.proofs.SaysLaws.{says_refused}
use Rattle.egl_cli.proofs.RaceLaws.{says_races, headline_races, stalled_headline_races}
use Rattle.egl_cli.proofs.respond.respond_races.Goals as goal

pub returns-in-Ok-clause-says : goal.returns-in-Ok-clause-says
returns-in-Ok-clause-says g c =
    let read = c.in-Ok.ensures.trace in
    says_races _ _ _ _ _ _ c.in-Ok.trace read.1.0 read.1.1 read.1.2 c.tell_races.result c.tell_races.ensures.wrote

pub returns-in-Ok-clause-headline : goal.returns-in-Ok-clause-headline
returns-in-Ok-clause-headline g c e =
    let read = c.in-Ok.ensures.trace in
    headline_races _ _ _ _ _ read.1.0 c.tell_races.result read.1.1 c.in-Ok.trace read.1.2 c.tell_races.ensures.trace c.tell_races.ensures.wrote e

pub returns-in-Ok-clause-stalled : goal.returns-in-Ok-clause-stalled
returns-in-Ok-clause-stalled g c e =
    let read = c.in-Ok.ensures.trace in
    stalled_headline_races _ _ _ _ _ read.1.0 c.tell_races.result read.1.1 c.in-Ok.trace read.1.2 c.tell_races.ensures.trace c.tell_races.ensures.wrote e

pub returns-in-Err-clause-says : goal.returns-in-Err-clause-says
returns-in-Err-clause-says g c =
    says_refused _ _ _ _ _ _ _ short_trace unreported (Some Races) tt races_is c.in-Err.error c.refuse.result c.in-Err.ensures.cause c.refuse.ensures.wrote
