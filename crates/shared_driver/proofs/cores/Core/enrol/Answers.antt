use Rattle.std.proofs.Common.{◌≡◌, ◌∷◌, ◌++◌, [], ◌∙◌, ap, rules}
use Rattle.shared_driver.specs.Cores.{owed}
use Rattle.shared_driver.proofs.Rooms.{promised_more}
use Rattle.shared_driver.proofs.cores.Core.enrol.Goals as goal

pub returns-clause-owed : goal.returns-clause-owed
returns-clause-owed c =
    let more : c.args.self.now.rooms.items ++ 258 ∷ [] ≡ c.push_reserved.new.self.items = search rules in
    promised_more c.args.self.now.rooms.items 258 c.make_room.new.self.promised (c.make_room.ensures.kept.3 ∙ c.requires.owed) ∙ ap owed more
