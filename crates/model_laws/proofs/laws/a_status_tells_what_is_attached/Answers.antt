use Rattle.model_laws.proofs.Names.StatusLaws.{answers_bare, answers_complete, answers_lacking, answers_surfaceless, answers_unfit, answers_unlike, answers_window, bare_if, complete_if, lacking_if, unfit_if, unlike_if}
use Rattle.model_laws.proofs.laws.a_status_tells_what_is_attached.Goals as goal

pub returns-clause-complete : goal.returns-clause-complete
returns-clause-complete c = λ s t n c f h b. (λ a. complete_if s t n c f h b a, λ m. answers_complete s t n c f h b m)

pub returns-clause-unfit : goal.returns-clause-unfit
returns-clause-unfit c = λ s t n c f h b. (λ a. unfit_if s t n c f h b a, λ m. answers_unfit s t n c f h b m)

pub returns-clause-bare : goal.returns-clause-bare
returns-clause-bare c = λ s t n c f h b. (λ a. bare_if s t n c f h b a, λ m. answers_bare s t n c f h b m)

pub returns-clause-unlike : goal.returns-clause-unlike
returns-clause-unlike c = λ s t n c f h b. (λ a. unlike_if s t n c f h b a, λ m. answers_unlike s t n c f h b m)

pub returns-clause-lacking : goal.returns-clause-lacking
returns-clause-lacking c = λ s t n c f h b. (λ a. lacking_if s t n c f h b a, λ m. answers_lacking s t n c f h b m)

pub returns-clause-window : goal.returns-clause-window
returns-clause-window c = answers_window

pub returns-clause-surfaceless : goal.returns-clause-surfaceless
returns-clause-surfaceless c = answers_surfaceless
