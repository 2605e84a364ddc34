-- What the first row that holds says of the others.
use Rattle.std.proofs.Common.{◌≡◌, ◌⊎◌, inl, inr, Bool, true, false, cond, ◌||◌, List, [], ◌∷◌, ◌++◌, Option, None, Some, refl, sym, ap, ◌∙◌}
use Rattle.std.proofs.lemmas.Bool.{or_parts}
use Rattle.refusal_rows.specs.Rows.{AllOff, IsFirst, Row, first_error}

off : {E : Type 0} (b : Bool) (e : E) (o : Option E) → cond b (Some e) o ≡ None → (b ≡ false) × (o ≡ None)
off true e o h = absurd (let f : Some e ≡ None = h in cc)
off false e o h = (refl, h)

pub all_off : {E : Type 0} (rs : List (Row E)) → first_error rs ≡ None → AllOff rs
all_off [] h = tt
all_off (r ∷ rs) h = let o = off r.0 r.1 (first_error rs) h in (o.0, all_off rs o.1)

-- rows of which none holds say nothing before others
pub past_off : {E : Type 0} (rs others : List (Row E)) → AllOff rs → first_error (rs ++ others) ≡ first_error others
past_off [] others h = refl
past_off (r ∷ rs) others h = ap (λ b. cond b (Some r.1) (first_error (rs ++ others))) h.0 ∙ past_off rs others h.1

pub none_on : {E : Type 0} (rs : List (Row E)) → AllOff rs → first_error rs ≡ None
none_on [] h = refl
none_on (r ∷ rs) h = ap (λ b. cond b (Some r.1) (first_error rs)) h.0 ∙ none_on rs h.1

-- no row has an error of this kind
abbrev pub NoneSays : {E : Type 0} → (E → Bool) → List (Row E) → Type 0
NoneSays p [] = Unit {0}
NoneSays p (r ∷ rs) = (p r.1 ≡ false) × NoneSays p rs

said : {E : Type 0} → (E → Bool) → Option E → Bool
said p (Some e) = p e
said p None = false

later : {E : Type 0} (p : E → Bool) (b : Bool) (x e : E) (o : Option E) → p x ≡ false → p e ≡ true → cond b (Some x) o ≡ Some e → (b ≡ false) × (o ≡ Some e)
unfolding said
later p true x e o n y h = absurd (let f : said p (Some x) ≡ said p (Some e) = ap (said p) h in let g : false ≡ true = sym n ∙ f ∙ y in cc)
later p false x e o n y h = (refl, h)

-- an error that no row of the first ones has comes from the others, and no row of the first ones holds
pub from_others : {E : Type 0} (p : E → Bool) (e : E) (rs others : List (Row E)) → p e ≡ true → NoneSays p rs → first_error (rs ++ others) ≡ Some e → AllOff rs × (first_error others ≡ Some e)
from_others p e [] others y n h = (tt, h)
from_others p e (r ∷ rs) others y n h =
    let o = later p r.0 r.1 e (first_error (rs ++ others)) n.0 y h in
    let rest = from_others p e rs others y n.1 o.1 in
    ((o.0, rest.0), rest.1)

-- an error that no row has isn't answered
pub never_says : {E : Type 0} (p : E → Bool) (e : E) (rs : List (Row E)) → p e ≡ true → NoneSays p rs → first_error rs ≡ Some e → ⊥
never_says p e [] y n h = absurd (let f : None ≡ Some e = h in cc)
never_says p e (r ∷ rs) y n h = let o = later p r.0 r.1 e (first_error rs) n.0 y h in never_says p e rs y n.1 o.1

-- ---- The error of the first row that holds, told by the rows.
same_error : {E : Type 0} (a b : E) → Some a ≡ Some b → a ≡ b
same_error a b e = cc

by_test : {E : Type 0} (h : Bool) (x e : E) (o : Option E) → cond h (Some x) o ≡ Some e → ((h ≡ true) × (x ≡ e)) ⊎ ((h ≡ false) × (o ≡ Some e))
by_test true x e o h = inl (refl, same_error x e h)
by_test false x e o h = inr (refl, h)

pub first_of : {E : Type 0} (e : E) (rs : List (Row E)) → first_error rs ≡ Some e → IsFirst e rs
first_of e [] h = absurd (let f : None ≡ Some e = h in cc)
first_of e (r ∷ rs) h = elim (by_test r.0 r.1 e (first_error rs) h) [
  | inl p ↦ inl p
  | inr p ↦ inr (p.0, first_of e rs p.1)
]

pub first_is : {E : Type 0} (e : E) (rs : List (Row E)) → IsFirst e rs → first_error rs ≡ Some e
first_is e [] h = absurd h
first_is e (r ∷ rs) (inl h) = ap (λ b. cond b (Some r.1) (first_error rs)) h.0 ∙ ap Some h.1
first_is e (r ∷ rs) (inr h) = ap (λ b. cond b (Some r.1) (first_error rs)) h.0 ∙ first_is e rs h.1

-- ---- An error that no row has, by a test of the rows.
abbrev pub some_says : {E : Type 0} → (E → Bool) → List (Row E) → Bool
some_says p [] = false
some_says p (r ∷ rs) = p r.1 || some_says p rs

none_says : {E : Type 0} (p : E → Bool) (rs : List (Row E)) → some_says p rs ≡ false → NoneSays p rs
none_says p [] h = tt
none_says p (r ∷ rs) h = let n = or_parts (p r.1) (some_says p rs) h in (n.0, none_says p rs n.1)

pub is_not_said : {E : Type 0} (p : E → Bool) (e : E) (rs : List (Row E)) → p e ≡ true → some_says p rs ≡ false → first_error rs ≡ Some e → ⊥
is_not_said p e rs y n h = never_says p e rs y (none_says p rs n) h
