-- What the program answers to bytes.
use Rattle.std.specs.Prelude.{◌≡◌, ℕ, ◌++◌, Bool, true, false, ◌==◌, List, codes, decimal, if◌then◌else◌, Result, Ok as Spelt, Err}
use Rattle.egl_flow.specs.declared.responding.Answer.{Answer}
use Rattle.egl_flow.specs.declared.statuses.Status.{Status}
use Rattle.egl_flow.specs.declared.statuses.Status.TheVariants.{Ok, Malformed, Differs}
use Rattle.log_reader.specs.declared.reasons.LogDefect.{LogDefect}
use Rattle.log_reader.specs.declared.reasons.LogReason.{LogReason}
use Rattle.log_reader.specs.Grammar.{log}
use Rattle.log_reader.specs.Logs.{LogValue}
use Rattle.log_reader.specs.Reasons.{log_reason_name}
use Rattle.driver_judge.specs.Judgements.{judgement}
use Rattle.driver_judge.specs.Values.{JudgementValue}
use Rattle.egl_judge.specs.declared.requests.Request.{Request}
use Rattle.egl_judge.specs.Judgements.{count_of, differs, judgement_text}

-- a driver that differs nowhere is held
abbrev pub judged_status : JudgementValue → Status
judged_status j = if count_of differs j.notes == 0 then Ok else Differs

abbrev pub judged_answer : JudgementValue → Answer
judged_answer j = record { text = judgement_text j; status = judged_status j }

unfoldable pub malformed_text : ℕ → LogReason → List ℕ
malformed_text line reason = codes "malformed " ++ decimal line ++ codes " " ++ log_reason_name reason ++ codes "\n"

abbrev pub answer_or_defect : ℕ → Result LogValue LogDefect → Answer
answer_or_defect delta (Spelt l) = judged_answer (judgement l delta)
answer_or_defect delta (Err d) = record { text = malformed_text d.line d.reason; status = Malformed }

-- what is answered to bytes within the limit, where components may differ by so many steps
unfoldable pub answer : ℕ → List ℕ → Answer
answer delta bytes = answer_or_defect delta (log bytes)

-- a text for people has more behind what is said to programs, which no definition fixes as a whole
abbrev pub IsTextOf : Bool → List ℕ → List ℕ → Type 0
IsTextOf true said text = (more : List ℕ) × (text ≡ said ++ more)
IsTextOf false said text = text ≡ said

-- what is made of bytes: its status is that of their answer, and its text too where it isn't for people
pub record Answers (q : Request) (bytes : List ℕ) (a : Answer) : Type 0 where
  pub status : a.status ≡ (answer q.delta bytes).status
  pub text : IsTextOf q.explained (answer q.delta bytes).text a.text
