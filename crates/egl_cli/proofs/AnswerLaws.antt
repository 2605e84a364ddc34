-- The answer to bytes, by what they spell.
use Rattle.std.proofs.Common.{◌≡◌, ℕ, Bool, List, refl, Some}
use Rattle.trace_reader.specs.Grammar.{trace}
use Rattle.egl_cli.specs.declared.commands.Command.TheVariants.{Serial, Play, Check, Compose, Scene, Races}
use Rattle.egl_cli.specs.Answers.{serial_answer, frames_answer, races_answer, scene_answer, check_answer, drawn, run_answer, run_frames, unreported, claim_answer, claimed, within_limit, answer_or_defect}
use Rattle.scene_reader.specs.Grammar.{scene}
use Rattle.egl_cli.specs.BodyLines.{short_trace}
use Rattle.egl_cli.specs.Says.{answer_of}

pub serial_is : (b : List ℕ) → answer_of (Some Serial) b ≡ within_limit b (answer_or_defect run_answer (trace b))
unfolding serial_answer
serial_is b = refl

pub play_is : (how : Bool) (b : List ℕ) → answer_of (Some (Play how)) b ≡ within_limit b (answer_or_defect run_answer (trace b))
unfolding serial_answer
play_is how b = refl

pub compose_is : (w h : ℕ) (b : List ℕ) → answer_of (Some (Compose w h)) b ≡ within_limit b (answer_or_defect (run_frames w h) (trace b))
unfolding frames_answer
compose_is w h b = refl

pub races_is : (b : List ℕ) → answer_of (Some Races) b ≡ within_limit b (answer_or_defect unreported (short_trace b))
unfolding races_answer
races_is b = refl

pub scene_is : (b : List ℕ) → answer_of (Some Scene) b ≡ within_limit b (answer_or_defect drawn (scene b))
unfolding scene_answer
scene_is b = refl

pub check_is : (b : List ℕ) → answer_of (Some Check) b ≡ within_limit b (answer_or_defect claim_answer (claimed b))
unfolding check_answer
check_is b = refl
