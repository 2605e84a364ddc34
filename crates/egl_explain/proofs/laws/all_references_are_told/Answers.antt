use Rattle.egl_explain.proofs.ReferenceLaws.{as_many_lead, objects_have_edges, outside_are_roots}
use Rattle.egl_explain.proofs.laws.all_references_are_told.Goals as goal

pub returns : goal.returns
returns c = record { outside = outside_are_roots; edges = objects_have_edges; count = as_many_lead }
