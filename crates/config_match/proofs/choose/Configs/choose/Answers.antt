use Rattle.std.proofs.Common.{ap, ◌∙◌, map}
use Rattle.config_match.specs.Configs.{chosen, id_of_key}
use Rattle.config_match.proofs.ChoiceLaws.{chosen_is, if_ok_same}
use Rattle.config_match.proofs.choose.Configs.choose.Goals as goal

pub returns-clause-chosen : goal.returns-clause-chosen
returns-clause-chosen c =
    if_ok_same c.ids_of.result (map id_of_key c.deref.result.now) (chosen c.args.list.now)
    (ap (map id_of_key) c.deref.ensures.value
    ∙ chosen_is c.self.inside.rows c.args.list.now c.in_ok-wanted.wanted c.in_ok-keys.keys.items c.in_ok-sorted.sorted.items c.self.invariant c.in_ok-wanted.ensures.ok c.in_ok-keys.ensures.keys c.in_ok-sorted.ensures.order)
    c.ids_of.ensures.ids
