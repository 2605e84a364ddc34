use Rattle.program_laws.proofs.ShortLaws.{few_is_short, short_is_few, short_is_one}
use Rattle.program_laws.proofs.short_laws.a_short_trace_has_few_lines.Goals as goal

pub returns-clause-few : goal.returns-clause-few
returns-clause-few c = λ b t e. (short_is_few b t e, few_is_short b t e)

pub returns-clause-alone : goal.returns-clause-alone
returns-clause-alone c = short_is_one
