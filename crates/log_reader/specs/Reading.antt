-- What reading gives where memory doesn't run out.
use Rattle.std.specs.Prelude.{◌≡◌, ℕ, ◌+◌, Bool, true, false, List, ◌∷◌, Option, Result, Ok, Err, None, Some}
use Rattle.std.specs.Borrow.{Bor}
use Rattle.std.specs.Option.{option_map}
use Rattle.trace_reader.specs.declared.traces.Reason.{Reason}
use Rattle.log_reader.specs.declared.reasons.LogDefect.{LogDefect}
use Rattle.log_reader.specs.declared.reasons.LogError.{LogError}
use Rattle.log_reader.specs.declared.reasons.LogError.TheVariants.{Malformed, NoMemory}
use Rattle.log_reader.specs.declared.reasons.LogLineError.{LogLineError}
use Rattle.log_reader.specs.declared.reasons.LogLineError.TheVariants.{Defective, NoMemory as LineMemory}
use Rattle.log_reader.specs.declared.reasons.LogReason.{LogReason}
use Rattle.log_reader.specs.declared.reasons.LogReason.TheVariants.{Trace}
use Rattle.log_reader.specs.declared.steps.Next.{Next}
use Rattle.log_reader.specs.declared.steps.Next.TheVariants.{More, Pending}
use Rattle.trace_reader.specs.declared.traces.Line.{Line}
use Rattle.log_reader.specs.Grammar.{read_body, read_end}
use Rattle.log_reader.specs.Heads.{LogHead}
use Rattle.log_reader.specs.Items.{BodyValue, Taken}

-- what a line gives, by a view of it
abbrev pub GivesOf : {X A : Type 0} → (X → A) → Result X LogLineError → Result A LogReason → Type 0
GivesOf view (Ok x) said = said ≡ Ok (view x)
GivesOf view (Err (Defective r)) said = said ≡ Err r
GivesOf view (Err LineMemory) said = Unit {0}

-- what a line makes of what was read
abbrev pub GivesMore : {A : Type 0} → Result A LogReason → A → Result (Unit {0}) LogLineError → Type 0
GivesMore said after (Ok x) = said ≡ Ok after
GivesMore said after (Err (Defective r)) = said ≡ Err r
GivesMore said after (Err LineMemory) = Unit {0}

-- what a line adds to a head; it is one of the head, or stands behind it
abbrev pub GivesHead : Option (Result LogHead Reason) → LogHead → LogHead → Result Bool LogLineError → Type 0
GivesHead said head head' (Ok true) = said ≡ Some (Ok head')
GivesHead said head head' (Ok false) = (said ≡ None) × (head' ≡ head)
GivesHead said head head' (Err (Defective (Trace r))) = said ≡ Some (Err r)
GivesHead said head head' (Err (Defective r)) = ⊥
GivesHead said head head' (Err LineMemory) = Unit {0}

-- what a call makes of what was read, and the call where it is left open
abbrev pub GivesTaken : Result Taken LogReason → BodyValue → Result (Option Line) LogLineError → Type 0
GivesTaken said after (Ok pending) = said ≡ Ok (record { body = after; pending = pending })
GivesTaken said after (Err (Defective r)) = said ≡ Err r
GivesTaken said after (Err LineMemory) = Unit {0}

-- the error where the line with this number isn't taken
abbrev pub error_at : ℕ → LogLineError → LogError
error_at n (Defective r) = Malformed n r
error_at n LineMemory = NoMemory

abbrev pub FailsWith : {A : Type 0} → LogError → Result A LogDefect → Type 0
FailsWith (Malformed n r) read = read ≡ Err (record { line = n; reason = r })
FailsWith NoMemory read = Unit {0}

-- what the line with this number, behind what was read, makes of it and leads to
abbrev pub GivesNext : LogHead → ℕ → List ℕ → BodyValue → BodyValue → Result Next LogError → Type 0
GivesNext h n line b after (Ok More) = (rest : List (List ℕ)) → read_body h n b (line ∷ rest) ≡ read_body h (n + 1) after rest
GivesNext h n line b after (Ok (Pending pending)) = (rest : List (List ℕ)) → read_body h n b (line ∷ rest) ≡ read_end h pending None (n + 1) after rest
GivesNext h n line b after (Err e) = (rest : List (List ℕ)) → FailsWith e (read_body h n b (line ∷ rest))

-- the same of a line behind a call that wasn't answered, with the word of a crash that was told before and is told now
abbrev pub GivesEnd : LogHead → Line → Option (List ℕ) → ℕ → List ℕ → BodyValue → BodyValue → Result (Option (Bor (List ℕ))) LogError → Type 0
GivesEnd h pending word n line b after (Ok said) = (rest : List (List ℕ)) → read_end h pending word n b (line ∷ rest) ≡ read_end h pending (option_map (λ w. w.now) said) (n + 1) after rest
GivesEnd h pending word n line b after (Err e) = (rest : List (List ℕ)) → FailsWith e (read_end h pending word n b (line ∷ rest))

-- what was read is what these bytes or lines spell, by a view of the value
abbrev pub Gives : {X A : Type 0} → (X → A) → Result X LogError → Result A LogDefect → Type 0
Gives view (Ok x) read = read ≡ Ok (view x)
Gives view (Err e) read = FailsWith e read
