use Rattle.std.proofs.Common.{◌≡◌, true, rules}
use Rattle.scene_reader.specs.Items.{is_item}
use Rattle.scene_reader.specs.Scenes.{has_room}
use Rattle.scene_reader.proofs.ItemLaws.{read_more}
use Rattle.scene_reader.proofs.progress.Progress.add.Goals as goal

pub invariant_of-self-2 : goal.invariant_of-self-2
invariant_of-self-2 c =
    let items = c.self.inside.items.items in
    let allowed : is_item items c.args.item ≡ true = rw c.self.view_is c.requires in
    let room : has_room items c.args.item ≡ true = search rules in
    read_more items c.push.new.self.items c.args.item c.self.inside.draws c.self.inside.bytes c.draws-draws.result c.texture_bytes-bytes.result c.self.invariant allowed room c.in-Ok.ensures.items c.draws-draws.ensures.value c.texture_bytes-bytes.ensures.value
