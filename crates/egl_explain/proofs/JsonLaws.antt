-- What programs are told of an entry.
use Rattle.std.proofs.Common.{◌≡◌, ℕ, suc, ◌+◌, Bool, true, false, codes, List, [], ◌∷◌, ◌++◌, Option, None, Some, refl, sym, ap, subst, ◌∙◌, arith}
use Rattle.std.proofs.lemmas.List.{append-nil}
use Rattle.json_lines.specs.Lines.{list_data}
use Rattle.serde_json.specs.Data.{Data, Members, put}
use Rattle.driver_facts.specs.declared.verdicts.Refusals.{Refusals}
use Rattle.egl_explain.specs.JsonEntries.{AreRows, TellsRefusal, TellsRows, codes_of, code_list, row_data, with_name}
use Rattle.egl_explain.specs.Judged.{code_at}

one_more : (cs : List ℕ) (ds : List Data) (c : ℕ) (words : Option (List ℕ)) → AreRows cs ds → AreRows (cs ++ c ∷ []) (ds ++ row_data c words ∷ [])
one_more [] [] c words h = ((words, refl), tt)
one_more [] (d ∷ ds) c words h = absurd h
one_more (k ∷ cs) [] c words h = absurd h
one_more (k ∷ cs) (d ∷ ds) c words h = (h.0, one_more cs ds c words h.1)

next : (r : Refusals) (n : ℕ) → codes_of r (n + 1) ≡ codes_of r n ++ code_list (code_at r n)
unfolding codes_of
next r n =
    let more : n + 1 ≡ suc n = omega arith in
    let later : codes_of r (n + 1) ≡ codes_of r (suc n) = ap (codes_of r) more in
    later

-- none yet
pub no_rows : (r : Refusals) → AreRows (codes_of r 0) []
unfolding codes_of
no_rows r = tt

-- a row that holds
pub row_held : (r : Refusals) (n : ℕ) (before after : List Data) (c : ℕ) (words : Option (List ℕ)) (d : Data) → AreRows (codes_of r n) before → code_at r n ≡ Some c → d ≡ row_data c words → after ≡ before ++ d ∷ [] → AreRows (codes_of r (n + 1)) after
row_held r n before after c words d h held is more =
    let told : codes_of r n ++ c ∷ [] ≡ codes_of r (n + 1) = sym (next r n ∙ ap (λ o. codes_of r n ++ code_list o) held) in
    let rows : before ++ row_data c words ∷ [] ≡ after = sym (more ∙ ap (λ x. before ++ x ∷ []) is) in
    subst (λ ds. AreRows (codes_of r (n + 1)) ds) rows (subst (λ cs. AreRows cs (before ++ row_data c words ∷ [])) told (one_more (codes_of r n) before c words h))

-- and one that doesn't
pub row_free : (r : Refusals) (n : ℕ) (rows : List Data) → AreRows (codes_of r n) rows → code_at r n ≡ None → AreRows (codes_of r (n + 1)) rows
row_free r n rows h free = subst (λ cs. AreRows cs rows) (sym (next r n ∙ ap (λ o. codes_of r n ++ code_list o) free ∙ append-nil (codes_of r n))) h

-- ---- Refusals.
pub tells_rows : (r : Refusals) (rows : List Data) (name : Option (List ℕ)) (before between after : Members) → AreRows (codes_of r 16) rows → between ≡ put (codes "holds") (list_data rows) before → after ≡ with_name name between → TellsRows r before after
tells_rows r rows name before between after h held named = (rows, h, (name, named ∙ ap (with_name name) held))

pub tells_refusal : (b : Bool) (r : Refusals) (start before after : Members) → b ≡ true → before ≡ start → TellsRows r before after → TellsRefusal b r start after
tells_refusal true r start before after e same h = subst (λ m. TellsRows r m after) same h
tells_refusal false r start before after e same h = absurd (let f : false ≡ true = e in cc)

pub tells_nothing : (b : Bool) (r : Refusals) (start after : Members) → b ≡ false → after ≡ start → TellsRefusal b r start after
tells_nothing true r start after e same = absurd (let f : true ≡ false = e in cc)
tells_nothing false r start after e same = same
