use Rattle.scene_reader.proofs.DefectLaws.{first_defect_of_lines, first_defect_of_bytes}
use Rattle.scene_reader.proofs.laws.a_defect_is_the_first.Goals as goal

pub returns-clause-lines : goal.returns-clause-lines
returns-clause-lines c = first_defect_of_lines

pub returns-clause-bytes : goal.returns-clause-bytes
returns-clause-bytes c = first_defect_of_bytes
