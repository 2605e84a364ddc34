-- What is true of all lines.
use Rattle.std.specs.Prelude.{◌≡◌, ℕ, ◌<◌, ◌≤◌, List, ◌++◌, length, take, IsOk, Err}
use Rattle.trace_reader.specs.declared.traces.Defect.{Defect}
use Rattle.scene_reader.specs.Grammar.{scene_of_lines}

-- a front of the lines is a scene where it ends before the defective line, and has the same defect where it ends there, whatever follows; where there is no line, the first is the defective one
pub record IsFirstDefect (ls : List (List ℕ)) (d : Defect) : Type 0 where
  pub numbered : 1 ≤ d.line
  pub among : 0 < length ls → d.line ≤ length ls
  pub alone : scene_of_lines (take d.line ls) ≡ Err d
  pub followed : 0 < length ls → (more : List (List ℕ)) → scene_of_lines (take d.line ls ++ more) ≡ Err d
  pub before : (n : ℕ) → 1 ≤ n → n < d.line → IsOk (scene_of_lines (take n ls))
