use Rattle.std.proofs.Common.{refl}
use Rattle.table_laws.proofs.word_laws.words_stand_at_their_places.Goals as goal

pub returns-clause-egl : goal.returns-clause-egl
returns-clause-egl c = refl

pub returns-clause-gl : goal.returns-clause-gl
returns-clause-gl c = refl

pub returns-clause-own : goal.returns-clause-own
returns-clause-own c = refl
