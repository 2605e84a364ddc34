use Rattle.std.proofs.Common.{Some}
use Rattle.egl_flow.specs.Flow.{HasRisen}
use Rattle.egl_cli.specs.declared.commands.Command.TheVariants.{Play}
use Rattle.trace_reader.specs.Grammar.{trace}
use Rattle.egl_cli.specs.Answers.{run_answer}
use Rattle.egl_cli.proofs.AnswerLaws.{play_is}
use Rattle.egl_cli.proofs.SaysLaws.{says_refused}
use Rattle.egl_cli.proofs.PlayLaws.{says_play, whole_play}
use Rattle.egl_cli.proofs.playing.play_words.Goals as goal

pub returns-in-Ok-clause-says : goal.returns-in-Ok-clause-says
returns-in-Ok-clause-says g c =
    let read = c.in-Ok.ensures.trace in
    says_play _ _ _ _ _ _ c.args.summary c.in-Ok.trace c.tell_play.result read.1.0 read.1.1 read.1.2 c.tell_play.ensures.trace c.tell_play.ensures.wrote

pub returns-in-Err-clause-says : goal.returns-in-Err-clause-says
returns-in-Err-clause-says g c =
    says_refused _ _ _ _ _ _ _ trace run_answer (Some (Play c.args.summary)) tt (play_is c.args.summary) c.in-Err.error c.refuse.result c.in-Err.ensures.cause c.refuse.ensures.wrote

pub returns-in-Err-clause-whole : goal.returns-in-Err-clause-whole
returns-in-Err-clause-whole g c =
    let source_failed : Type 0 = HasRisen (g.S.Source.faults c.args.source.now) (g.S.Source.faults c.read_trace.new.source) in
    let sink_failed : Type 0 = HasRisen (g.K.Sink.faults c.args.sink.now) (g.K.Sink.faults c.refuse.new.sink) in
    whole_play c.args.summary (g.S.Source.left c.args.source.now) (g.S.Source.left c.read_trace.new.source) source_failed (g.K.Sink.taken c.args.sink.now) (g.K.Sink.taken c.refuse.new.sink) sink_failed c.refuse.result (says_refused _ _ _ _ _ _ _ trace run_answer (Some (Play c.args.summary)) tt (play_is c.args.summary) c.in-Err.error c.refuse.result c.in-Err.ensures.cause c.refuse.ensures.wrote)
