use Rattle.scene_trace.proofs.RoomLaws.{next_room}
use Rattle.scene_trace.proofs.lines.put_arguments.Goals as goal

pub put_argument-requires : goal.put_argument-requires
put_argument-requires c = next_room c.each.place c.args.forms.now c.each.form-index c.each-test.true c.each.invariant.room
