use Rattle.egl_cli.proofs.ProcessLaws.{ran}
use Rattle.egl_cli.proofs.process.run.Goals as goal

pub returns : goal.returns
returns g c = ran _ _ _ _ _ _ _ _ _ _ _ _ _ c.words_of-words.result (λ ws. ws.items) _ _ c.words_of-words.ensures.words c.words_of-words.ensures.memory c.run_words.ensures.top c.run_words.ensures.memory
