use Rattle.call_rules.proofs.GlLaws.{image_allowed}
use Rattle.thread_part.specs.Uploads.{early_facts}
use Rattle.thread_part.proofs.Givens.{image_call}
use Rattle.thread_part.proofs.parts.Parts.image_early.Goals as goal

pub new_level-requires-clause-call : goal.new_level-requires-clause-call
new_level-requires-clause-call c =
    let f = early_facts c.args.self.now in
    image_call c.args.call.now f c.requires.kind (image_allowed c.args.call.now f c.requires.kind c.requires.allowed)
