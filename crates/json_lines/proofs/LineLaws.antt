-- One line more.
use mathlib.Core.Logic.{∥∥₁_map}
use Rattle.std.proofs.Common.{◌≡◌, ℕ, false, List, [], ◌∷◌, ◌++◌, sym, ap, ◌∙◌, subst, Result, Ok, Err}
use Rattle.std.specs.Prelude.{IfOk, IfErr, OnErr, OnOk}
use Rattle.std.specs.List.{flat_map}
use Rattle.std.proofs.lemmas.Bool.{false≢true}
use Rattle.std.proofs.lemmas.Grind.{flat_map-append}
use Rattle.std.proofs.lemmas.List.{append-nil}
use Rattle.egl_calls.specs.declared.memory.NoMemory.{NoMemory}
use Rattle.serde_json.specs.Data.{Data, Members, object}
use Rattle.serde_json.specs.Written.{compact_text, has_float}
use Rattle.json_lines.specs.Lines.{AreLines, HasLine, LinesValue, line}

line_behind : (objects : List Members) (o : Members) → flat_map line (objects ++ o ∷ []) ≡ flat_map line objects ++ line o
line_behind objects o = flat_map-append line objects (o ∷ []) ∙ ap (λ l. flat_map line objects ++ l) (append-nil (line o))

longer : (before : List ℕ) (o : Members) → AreLines before → AreLines (before ++ line o)
longer before o h = ∥∥₁_map h (λ t. (t.0 ++ o ∷ [], ap (λ l. l ++ line o) t.1 ∙ sym (line_behind t.0 o)))

pub nothing : (text : List ℕ) → text ≡ [] → AreLines text
nothing text e = ∣ ([], e) ∣₁

pub more : (before after : List ℕ) (o : Members) (r : Result (Unit {0}) NoMemory) → AreLines before → OnOk r (after ≡ before ++ line o) → OnErr r (after ≡ before) → AreLines after
more before after o (Ok x) h e k = subst AreLines (sym e) (longer before o h)
more before after o (Err x) h e k = subst AreLines (sym k) h

pub noted : (before after : LinesValue) (o : Members) (r : Result (Unit {0}) NoMemory) → OnOk r (after.text ≡ before.text ++ line o) → IfOk r (λ _. after.is_whole ≡ before.is_whole) → IfErr r (λ _. after.is_whole ≡ false) → HasLine before o after
noted before after o (Ok x) text same lacks = record { lacked = λ w. sym same ∙ w; text = λ w. text }
noted before after o (Err e) text same lacks = record { lacked = λ w. absurd (false≢true (sym lacks ∙ w)); text = λ w. absurd (false≢true (sym lacks ∙ w)) }

-- the bytes of an object's value, and a line feed
pub ended : (bytes whole : List ℕ) (d : Data) (o : Members) → d ≡ object o → has_float d ≡ false → (has_float d ≡ false → bytes ≡ compact_text d) → whole ≡ bytes ++ 10 ∷ [] → whole ≡ line o
unfolding line
ended bytes whole d o same bare text e = e ∙ ap (λ l. l ++ 10 ∷ []) (text bare ∙ ap compact_text same)
