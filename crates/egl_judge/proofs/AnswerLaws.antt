-- Which texts may be written.
use Rattle.std.proofs.Common.{◌≡◌, ℕ, Bool, true, false, List, [], ◌++◌, sym, ◌∙◌}
use Rattle.std.proofs.lemmas.List.{append-nil}
use Rattle.egl_judge.specs.Answers.{IsTextOf}

pub for_people : (b : Bool) (said more text : List ℕ) → b ≡ true → text ≡ said ++ more → IsTextOf b said text
for_people true said more text e f = (more, f)
for_people false said more text e f = absurd (let g : false ≡ true = e in cc)

pub said : (b : Bool) (expected text : List ℕ) → text ≡ expected → IsTextOf b expected text
said true expected text e = ([], e ∙ sym (append-nil expected))
said false expected text e = e

pub for_programs : (b : Bool) (expected text : List ℕ) → b ≡ false → text ≡ expected → IsTextOf b expected text
for_programs b expected text f e = said b expected text e
