use Rattle.driver_core.proofs.ClearLaws.{clears_surface}
use Rattle.driver_core.proofs.clears.a_surface_is_cleared_without_memory.Goals as goal

pub returns : goal.returns
returns c = clears_surface
