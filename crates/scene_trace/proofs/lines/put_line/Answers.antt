use Rattle.std.proofs.Common.{◌≤◌, List, sym, subst}
use Rattle.call_table.specs.declared.forms.Form.{Form}
use Rattle.scene_trace.specs.Lines.{place_behind_all}
use Rattle.scene_trace.proofs.RoomLaws.{room}
use Rattle.scene_trace.proofs.lines.put_line.Goals as goal

pub put_arguments-requires : goal.put_arguments-requires
put_arguments-requires c = subst (λ (fs : List Form). place_behind_all 0 fs ≤ 8) (sym c.call_forms.ensures) (room c.call.inside.kind)
