use Rattle.std.proofs.Common.{Some}
use Rattle.scene_reader.specs.Grammar.{scene}
use Rattle.egl_cli.specs.declared.commands.Command.TheVariants.{Scene}
use Rattle.egl_cli.specs.Answers.{drawn}
use Rattle.egl_cli.proofs.AnswerLaws.{scene_is}
use Rattle.egl_cli.proofs.SaysLaws.{says_refused}
use Rattle.egl_cli.proofs.SceneLaws.{says_scene, headline_scene}
use Rattle.egl_cli.proofs.respond.respond_scene.Goals as goal

pub returns-in-Ok-clause-says : goal.returns-in-Ok-clause-says
returns-in-Ok-clause-says g c =
    let read = c.in-Ok.ensures.scene in
    says_scene _ _ _ _ _ _ c.in-Ok.scene read.1.0 c.tell_scene.result read.1.1 read.1.2 c.tell_scene.ensures.wrote

pub returns-in-Ok-clause-headline : goal.returns-in-Ok-clause-headline
returns-in-Ok-clause-headline g c e =
    let read = c.in-Ok.ensures.scene in
    headline_scene _ _ _ _ _ read.1.0 c.tell_scene.result read.1.1 c.in-Ok.scene read.1.2 c.tell_scene.ensures.trace c.tell_scene.ensures.picture c.tell_scene.ensures.wrote e

pub returns-in-Err-clause-says : goal.returns-in-Err-clause-says
returns-in-Err-clause-says g c =
    says_refused _ _ _ _ _ _ _ scene drawn (Some Scene) tt scene_is c.in-Err.error c.refuse.result c.in-Err.ensures.cause c.refuse.ensures.wrote
