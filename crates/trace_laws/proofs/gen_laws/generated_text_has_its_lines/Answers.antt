use Rattle.trace_laws.proofs.GenBody.{generated_body}
use Rattle.trace_laws.proofs.GenLaws.{generated_header, generated_lines, generated_threads}
use Rattle.trace_laws.proofs.gen_laws.generated_text_has_its_lines.Goals as goal

pub returns-clause-lines : goal.returns-clause-lines
returns-clause-lines c = generated_lines

pub returns-clause-header : goal.returns-clause-header
returns-clause-header c = generated_header

pub returns-clause-threads : goal.returns-clause-threads
returns-clause-threads c = generated_threads

pub returns-clause-body : goal.returns-clause-body
returns-clause-body c = generated_body
