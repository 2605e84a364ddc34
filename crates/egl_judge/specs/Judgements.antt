-- The text of a judgement.
use Rattle.std.specs.Prelude.{ℕ, ◌++◌, List, [], codes, decimal, sum_by, is_some, Option, None, Some, if◌then◌else◌}
use Rattle.std.specs.List.{flat_map}
use Rattle.driver_judge.specs.declared.judgements.CutCall.{CutCall}
use Rattle.driver_judge.specs.declared.judgements.LineVerdict.{LineVerdict}
use Rattle.driver_judge.specs.declared.judgements.LineVerdict.TheVariants.{Agreed, Own, Differs, After, Unjudged}
use Rattle.driver_judge.specs.declared.judgements.Note.{Note}
use Rattle.driver_judge.specs.declared.judgements.Unjudged.{Unjudged as Why}
use Rattle.driver_judge.specs.declared.judgements.Unjudged.TheVariants.{Config, Name}
use Rattle.driver_judge.specs.Values.{JudgementValue}
use Rattle.call_table.specs.Names.{call_name}
use Rattle.egl_judge.specs.Differences.{difference_text}

-- ---- How many there are.
abbrev pub differs : LineVerdict → ℕ
differs Agreed = 0
differs Own = 0
differs (Differs d) = 1
differs (After line) = 0
differs (Unjudged why) = 0

abbrev pub is_after : LineVerdict → ℕ
is_after Agreed = 0
is_after Own = 0
is_after (Differs d) = 0
is_after (After line) = 1
is_after (Unjudged why) = 0

abbrev pub is_unjudged : LineVerdict → ℕ
is_unjudged Agreed = 0
is_unjudged Own = 0
is_unjudged (Differs d) = 0
is_unjudged (After line) = 0
is_unjudged (Unjudged why) = 1

-- how many notes there are of a kind
abbrev pub count_of : (LineVerdict → ℕ) → List Note → ℕ
count_of kind notes = sum_by (λ n. kind n.verdict) notes

-- ---- The lines.
abbrev pub end_text : Option CutCall → List ℕ
end_text None = codes "whole"
end_text (Some c) = codes "cut"

-- judged LINES agreed N differences D after A unjudged U own O whole|cut
abbrev pub agreed_text : JudgementValue → List ℕ
agreed_text j = codes "judged " ++ decimal j.lines ++ codes " agreed " ++ decimal j.agreed

abbrev pub told_text : List Note → List ℕ
told_text ns = codes " differences " ++ decimal (count_of differs ns) ++ codes " after " ++ decimal (count_of is_after ns) ++ codes " unjudged " ++ decimal (count_of is_unjudged ns)

abbrev pub last_text : JudgementValue → List ℕ
last_text j = codes " own " ++ decimal j.own ++ codes " " ++ end_text j.cut ++ codes "\n"

unfoldable pub head_text : JudgementValue → List ℕ
head_text j = agreed_text j ++ told_text j.notes ++ last_text j

abbrev pub why_text : Why → List ℕ
why_text Config = codes "config"
why_text Name = codes "name"

-- a line that agrees has none
unfoldable pub verdict_text : ℕ → LineVerdict → List ℕ
verdict_text line Agreed = []
verdict_text line Own = []
verdict_text line (Differs d) = codes "difference " ++ decimal line ++ codes " " ++ difference_text d ++ codes "\n"
verdict_text line (After fault) = codes "after " ++ decimal line ++ codes " " ++ decimal fault ++ codes "\n"
verdict_text line (Unjudged why) = codes "unjudged " ++ decimal line ++ codes " " ++ why_text why ++ codes "\n"

abbrev pub note_text : Note → List ℕ
note_text n = verdict_text n.line n.verdict

abbrev pub word_text : Option (List ℕ) → List ℕ
word_text None = []
word_text (Some w) = codes " " ++ w

-- cut LINE CALL [WORD]
unfoldable pub cut_text : Option CutCall → List ℕ
cut_text None = []
cut_text (Some c) = codes "cut " ++ decimal c.line ++ codes " " ++ call_name c.kind ++ word_text c.word ++ codes "\n"

unfoldable pub judgement_text : JudgementValue → List ℕ
judgement_text j = head_text j ++ flat_map note_text j.notes ++ cut_text j.cut ++ codes "end\n"
