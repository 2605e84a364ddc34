use Rattle.model_laws.proofs.Windows.SwapLaws.{back_emptied, back_preserved, back_stays_whole, front_shows, has_back, none_shows, others_show}
use Rattle.model_laws.proofs.laws.a_swap_shows_the_back_buffer.Goals as goal

pub returns-clause-there : goal.returns-clause-there
returns-clause-there c = has_back

pub returns-clause-front : goal.returns-clause-front
returns-clause-front c = front_shows

pub returns-clause-others : goal.returns-clause-others
returns-clause-others c = others_show

pub returns-clause-preserved : goal.returns-clause-preserved
returns-clause-preserved c = back_preserved

pub returns-clause-destroyed : goal.returns-clause-destroyed
returns-clause-destroyed c = back_emptied

pub returns-clause-pbuffer : goal.returns-clause-pbuffer
returns-clause-pbuffer c = none_shows

pub returns-clause-pixels : goal.returns-clause-pixels
returns-clause-pixels c = back_stays_whole
