use Rattle.std.proofs.Common.{◌≡◌, ap, ◌∙◌, rules}
use Rattle.trace_reader.specs.Grammar.{trace}
use Rattle.scene_trace.specs.Lines.{scene_text}
use Rattle.scene_trace.proofs.writing.scene_text.Goals as goal

pub returns-clause-calls : goal.returns-clause-calls
unfolding scene_text
returns-clause-calls c =
    let text : c.put_lines.new.out ≡ scene_text c.args.scene.now = search rules in
    ap trace text ∙ c.text_is_read.ensures
