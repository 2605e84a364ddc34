use Rattle.std.proofs.Common.{◌<◌, ◌+◌, ◌∙◌, sym, arith, length, take, drop}
use Rattle.egl_names.proofs.JoinLaws.{joined_word_other, joined_word_one, joined_word_more, parts_last, parts_more}
use Rattle.egl_names.proofs.joined.joined_word.Goals as goal

pub returns-then-not-begins_like_a_name : goal.returns-then-not-begins_like_a_name
returns-then-not-begins_like_a_name c = sym (joined_word_other c.args.word.now (sym c.if-not-begins_like_a_name.ensures))

pub returns-then-bar_at-word : goal.returns-then-bar_at-word
returns-then-bar_at-word c = c.single_word.ensures ∙ sym (joined_word_one c.args.word.now (sym c.if-not-begins_like_a_name.ensures) (parts_last c.args.word.now c.bar_at.result c.bar_at.ensures.place c.if-bar_at-word.true))

pub returns : goal.returns
returns c =
    let less : c.bar_at.result < length c.args.word.now = omega arith in
    c.joined_parts.ensures ∙ sym (joined_word_more c.args.word.now (take c.bar_at.result c.args.word.now) (drop (c.bar_at.result + 1) c.args.word.now) (sym c.if-not-begins_like_a_name.ensures) (parts_more c.args.word.now c.bar_at.result c.bar_at.ensures.place less))
