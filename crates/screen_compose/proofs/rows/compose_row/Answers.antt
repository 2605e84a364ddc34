use Rattle.screen_compose.proofs.RowLaws.{row_from}
use Rattle.screen_compose.proofs.rows.compose_row.Goals as goal

pub returns-clause-row : goal.returns-clause-row
returns-clause-row g c = row_from _ _ _ _ _ _ c.layers.ensures c.clear.ensures c.cover_by.ensures.long c.cover_by.ensures.pixels
