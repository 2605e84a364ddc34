-- Pieces of a text, one behind another.
use Rattle.std.proofs.Common.{◌≡◌, ℕ, false, ◌+◌, List, [], ◌∷◌, ◌++◌, replicate, refl, sym, ap, ◌∙◌, append_assoc, subst, Result, Ok, Err}
use Rattle.std.specs.Prelude.{OnOk, IfOk, IfErr}
use Rattle.std.proofs.lemmas.Bool.{false≢true}
use Rattle.std.proofs.lemmas.List.{append-nil, replicate_more}
use Rattle.egl_calls.specs.declared.memory.NoMemory.{NoMemory}
use Rattle.egl_explain.specs.declared.pages.Ink.{Ink}
use Rattle.egl_explain.specs.declared.pages.Look.{Look}
use Rattle.egl_explain.specs.declared.pages.Page.{Page}
use Rattle.egl_explain.specs.Pieces.{HasPiece, begun, ended}

-- a piece for which there was memory, and the note of one for which there was none
pub noted : (before after : Page) (piece : List ℕ) (r : Result (Unit {0}) NoMemory) → after.look ≡ before.look → OnOk r (after.text ≡ before.text ++ piece) → IfOk r (λ _. after.is_whole ≡ before.is_whole) → IfErr r (λ _. after.is_whole ≡ false) → HasPiece before piece after
noted before after piece (Ok x) look text same lacks = record { look = look; lacked = λ w. sym same ∙ w; text = λ w. text }
noted before after piece (Err e) look text same lacks = record { look = look; lacked = λ w. absurd (false≢true (sym lacks ∙ w)); text = λ w. absurd (false≢true (sym lacks ∙ w)) }

-- two pieces are one
pub joined : (a b c : Page) (p q : List ℕ) → HasPiece a p b → HasPiece b q c → HasPiece a (p ++ q) c
joined a b c p q x y = record {
  look = y.look ∙ x.look;
  lacked = λ w. x.lacked (y.lacked w);
  text = λ w. y.text w ∙ ap (λ l. l ++ q) (x.text (y.lacked w)) ∙ append_assoc a.text p q;
}

-- one piece more of a kind
pub one_more : (a b c : Page) (x k : ℕ) → HasPiece a (replicate k x) b → HasPiece b (x ∷ []) c → HasPiece a (replicate (k + 1) x) c
one_more a b c x k f g = subst (λ (p : List ℕ). HasPiece a p c) (replicate_more k x) (joined a b c (replicate k x) (x ∷ []) f g)

-- and none is one
pub nothing : (a : Page) → HasPiece a [] a
nothing a = record { look = refl; lacked = λ w. w; text = λ w. sym (append-nil a.text) }

-- a piece between what begins and what ends its kind
pub inked : (a b c d : Page) (ink : Ink) (text : List ℕ) → HasPiece a (begun a.look ink) b → HasPiece b text c → HasPiece c (ended c.look) d → HasPiece a (begun a.look ink ++ (text ++ ended a.look)) d
inked a b c d ink text f g h =
    let look : c.look ≡ a.look = g.look ∙ f.look in
    let last : HasPiece c (ended a.look) d = subst (λ (l : Look). HasPiece c (ended l) d) look h in
    joined a b d (begun a.look ink) (text ++ ended a.look) f (joined b c d text (ended a.look) g last)
