use Rattle.egl_judge.proofs.ProcessLaws.{ran}
use Rattle.egl_judge.proofs.process.run.Goals as goal

pub returns : goal.returns
returns g c = ran _ _ _ _ _ _ _ _ _ _ _ c.words_of-words.result (λ ws. ws.items) _ c.words_of-words.ensures c.run_words.ensures.top c.run_words.ensures.memory
