use Rattle.std.proofs.Common.{◌≡◌, None, refl, rules}
use Rattle.egl_flow.specs.Flow.{HasRisen}
use Rattle.egl_cli.specs.Commands.{plain_command_of}
use Rattle.egl_cli.proofs.SaysLaws.{says_usage}
use Rattle.egl_cli.proofs.respond.plain.Goals as goal

pub returns-in-Some-Play-clause-says : goal.returns-in-Some-Play-clause-says
returns-in-Some-Play-clause-says g c =
    let left = g.S.Source.left c.args.source.now in
    let source_failed : Type 0 = HasRisen (g.S.Source.faults c.args.source.now) (g.S.Source.faults c.args.source.now) in
    let sink_failed : Type 0 = HasRisen (g.K.Sink.faults c.args.sink.now) (g.K.Sink.faults c.finish.new.sink) in
    let none : plain_command_of c.args.words.now ≡ None = search rules in
    says_usage left left source_failed (g.K.Sink.taken c.args.sink.now) (g.K.Sink.taken c.finish.new.sink) sink_failed (plain_command_of c.args.words.now) c.finish.result none refl c.finish.ensures.wrote
