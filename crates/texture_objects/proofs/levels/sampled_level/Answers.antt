use Rattle.std.proofs.Common.{◌≡◌, ◌≤◌, true, Some, ap, sym, ◌∙◌, arith}
use Rattle.texture_objects.specs.Levels.{are_enough, is_complete_over, last_level, level_at}
use Rattle.texture_objects.specs.MinFilters.{uses_mipmaps}
use Rattle.texture_objects.proofs.GreatestLaws.{greatest-within}
use Rattle.texture_objects.proofs.LevelLaws.{level-stored, stored-within}
use Rattle.texture_objects.proofs.levels.sampled_level.Goals as goal

pub returns-clause-stored : goal.returns-clause-stored
returns-clause-stored c =
    let first : level_at c.args.levels.now 0 ≡ Some c.in-Some.base = c.in-Some.is in
    let complete : is_complete_over c.args.filter c.args.levels.now (Some c.in-Some.base) ≡ true = ap (λ o. is_complete_over c.args.filter c.args.levels.now o) (sym first) ∙ c.requires in
    let uses : uses_mipmaps c.args.filter ≡ true = sym c.uses_mipmaps.ensures ∙ c.if-not-uses_mipmaps.false in
    let last : c.greatest_level.result ≤ last_level c.in-Some.base = omega (arith, c.greatest_level.ensures, c.last_level.ensures.value, greatest-within (are_enough c.args.cut c.args.drawn) c.last_level.result) in
    level-stored c.args.filter c.args.levels.now c.in-Some.base c.greatest_level.result first complete uses last

pub returns-clause-within : goal.returns-clause-within
returns-clause-within c = stored-within c.args.levels.now c.greatest_level.result 11 c.told-levels (returns-clause-stored c)
