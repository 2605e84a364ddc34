use Rattle.std.proofs.Common.{Some}
use Rattle.egl_cli.specs.declared.commands.Command.TheVariants.{Check}
use Rattle.egl_cli.specs.Answers.{claimed, claim_answer}
use Rattle.egl_cli.proofs.AnswerLaws.{check_is}
use Rattle.egl_cli.proofs.SaysLaws.{says_refused}
use Rattle.egl_cli.proofs.CheckLaws.{says_check, headline_check}
use Rattle.egl_cli.proofs.respond.respond_claim.Goals as goal

pub returns-in-Ok-clause-says : goal.returns-in-Ok-clause-says
returns-in-Ok-clause-says g c =
    let read = c.in-Ok.ensures.claim in
    says_check _ _ _ _ _ _ c.in-Ok.claim read.1.0 c.tell_claim.result read.1.1 read.1.2 c.tell_claim.ensures.wrote

pub returns-in-Ok-clause-headline : goal.returns-in-Ok-clause-headline
returns-in-Ok-clause-headline g c e =
    let read = c.in-Ok.ensures.claim in
    headline_check _ _ _ _ _ read.1.0 c.tell_claim.result read.1.1 c.in-Ok.claim read.1.2 c.tell_claim.ensures.trace c.tell_claim.ensures.wrote e

pub returns-in-Err-clause-says : goal.returns-in-Err-clause-says
returns-in-Err-clause-says g c =
    says_refused _ _ _ _ _ _ _ claimed claim_answer (Some Check) tt check_is c.in-Err.error c.refuse.result c.in-Err.ensures.cause c.refuse.ensures.wrote
