use Rattle.history_laws.proofs.HiddenLaws.{edges-hide, handles-hide, references-hide, roots-hide, signalled-hide, wait-hide, windows-hide}
use Rattle.history_laws.proofs.hidden.only_private_parts_go_out.Goals as goal

pub returns-clause-windows : goal.returns-clause-windows
returns-clause-windows c = windows-hide

pub returns-clause-handles : goal.returns-clause-handles
returns-clause-handles c = handles-hide

pub returns-clause-waits : goal.returns-clause-waits
returns-clause-waits c = wait-hide

pub returns-clause-signalled : goal.returns-clause-signalled
returns-clause-signalled c = signalled-hide

pub returns-clause-roots : goal.returns-clause-roots
returns-clause-roots c = roots-hide

pub returns-clause-edges : goal.returns-clause-edges
returns-clause-edges c = edges-hide

pub returns-clause-references : goal.returns-clause-references
returns-clause-references c = references-hide
