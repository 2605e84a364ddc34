use Rattle.std.proofs.Common.{◌<◌, ◌∙◌, ap, sym, arith, length, Option, ℕ}
use Rattle.egl_names.specs.Joined.{parts}
use Rattle.egl_names.specs.Parts.{word_of_bits, with_part, is_unknown_part}
use Rattle.egl_names.proofs.JoinLaws.{word_after, word_after_none, last_part, next_part, unknown_part}
use Rattle.egl_names.proofs.joined.joined_parts.Goals as goal

pub parts-init : goal.parts-init
parts-init c = word_after_none (parts c.args.words.now)

pub returns-then-is_unknown_part : goal.returns-then-is_unknown_part
returns-then-is_unknown_part c =
    sym (unknown_part c.parts.bits c.parts.rest.now c.split_at.result.0.now c.bar_at-at.result c.bar_at-at.ensures.place c.bar_at-at.ensures.within c.split_at.ensures.front
    (ap is_unknown_part (sym c.part_of-part.ensures) ∙ sym c.if-is_unknown_part.ensures))
    ∙ c.parts.invariant

pub returns-then-at-rest : goal.returns-then-at-rest
returns-then-at-rest c =
    c.word_of_bits.ensures
    ∙ ap word_of_bits (c.with_part-bits.ensures ∙ ap (with_part c.parts.bits) c.part_of-part.ensures)
    ∙ sym (last_part c.parts.bits c.parts.rest.now c.split_at.result.0.now c.bar_at-at.result c.bar_at-at.ensures.place c.if-at-rest.true c.split_at.ensures.front
    (ap is_unknown_part (sym c.part_of-part.ensures) ∙ sym c.if-is_unknown_part.ensures))
    ∙ c.parts.invariant

pub parts-preserved : goal.parts-preserved
parts-preserved c =
    let less : c.bar_at-at.result < length c.parts.rest.now = omega arith in
    ap (λ (b : Option ℕ). word_after b (parts c.split_at-in-parts.result.1.now)) (c.with_part-bits.ensures ∙ ap (with_part c.parts.bits) c.part_of-part.ensures)
    ∙ next_part c.parts.bits c.parts.rest.now c.split_at.result.0.now c.split_at-in-parts.result.1.now c.bar_at-at.result c.bar_at-at.ensures.place less c.split_at.ensures.front c.split_at-in-parts.ensures.back
    (ap is_unknown_part (sym c.part_of-part.ensures) ∙ sym c.if-is_unknown_part.ensures)
    ∙ c.parts.invariant
