-- What the program writes, and the status that it ends with.
use Rattle.std.specs.Prelude.{◌≡◌, ℕ, List, codes, Option, None, Some}
use Rattle.egl_flow.specs.Responses.{Responds}
use Rattle.egl_flow.specs.Statuses.{Wrote}
use Rattle.egl_flow.specs.declared.statuses.Status.{Status}
use Rattle.egl_flow.specs.declared.statuses.Status.TheVariants.{Usage}
use Rattle.egl_judge.specs.declared.requests.Request.{Request}
use Rattle.egl_judge.specs.Answers.{Answers}

unfoldable pub usage_text : List ℕ
usage_text = codes "usage: egl_judge [DELTA] [explain] < LOG\n"

-- by what the words ask for. Words that ask for nothing leave the source alone
abbrev pub Says : Option Request → Option (List ℕ) → Option (List ℕ) → ℕ → ℕ → Option (List ℕ) → Option (List ℕ) → Type 0 → Status → Type 0
Says None left rest faults_before faults before after failed result = (rest ≡ left) × (faults ≡ faults_before) × Wrote before usage_text after failed Usage result
Says (Some q) left rest faults_before faults before after failed result = Responds (Answers q) left rest faults_before faults before after failed result
