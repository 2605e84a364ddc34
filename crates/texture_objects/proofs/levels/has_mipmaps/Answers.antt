use Rattle.std.proofs.Common.{ap, sym, ◌∙◌, arith}
use Rattle.texture_objects.specs.Levels.{has_mipmaps, is_stored, level_at, mipmap_of}
use Rattle.texture_objects.proofs.GreatestLaws.{run-ends, run-goes-on, run-stops}
use Rattle.texture_objects.proofs.levels.has_mipmaps.Goals as goal

pub returns-then-not-is_stored : goal.returns-then-not-is_stored
returns-then-not-is_stored c =
    run-stops (λ j. is_stored (level_at c.args.levels.now j) (mipmap_of c.args.base j)) c.levels.k c.last_level-last.result (has_mipmaps c.args.levels.now c.args.base) (omega arith)
    (sym (c.is_stored.ensures ∙ ap (λ o. is_stored o c.mipmap_of.result) c.level_at.ensures ∙ ap (λ s. is_stored (level_at c.args.levels.now c.levels.k) s) c.mipmap_of.ensures) ∙ c.if-not-is_stored.true) c.levels.invariant

pub levels-preserved : goal.levels-preserved
levels-preserved c =
    run-goes-on (λ j. is_stored (level_at c.args.levels.now j) (mipmap_of c.args.base j)) c.levels.k c.last_level-last.result (has_mipmaps c.args.levels.now c.args.base) (omega arith)
    (sym (c.is_stored.ensures ∙ ap (λ o. is_stored o c.mipmap_of.result) c.level_at.ensures ∙ ap (λ s. is_stored (level_at c.args.levels.now c.levels.k) s) c.mipmap_of.ensures) ∙ c.if-not-is_stored.false) c.levels.invariant

pub returns : goal.returns
returns c =
    run-ends (λ j. is_stored (level_at c.args.levels.now j) (mipmap_of c.args.base j)) c.levels.k c.last_level-last.result (has_mipmaps c.args.levels.now c.args.base) (omega arith) c.levels.invariant
