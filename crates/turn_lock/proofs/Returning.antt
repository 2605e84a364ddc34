-- For those who use the lock: that a value stands for its history and may be given back, and what a join tells of an earlier view.
use Rattle.std.proofs.Common.{◌≡◌, ◌⊎◌, ℕ, List, [], ◌∷◌, ◌++◌, length, refl, sym, ap, ◌∙◌, subst}
use Rattle.std.specs.Prelude.{All, Contains, slice_index}
use Rattle.std.proofs.lemmas.List.{append_assoc}
use Rattle.std.proofs.lemmas.List.Elements.{All-append}
use Rattle.turn_lock.specs.declared.view.View.{View}
use Rattle.turn_lock.specs.Meaning.{Meaning, Leads, StandsFor}
use Rattle.turn_lock.specs.Views.{AreOwn, ThenOthers, Includes}
use Rattle.turn_lock.specs.Values.{Finds, Returns}
use Rattle.turn_lock.specs.Moves.{came, joined_of}

module _ {S E : Type 0} (m : Meaning S E) where
  pub Leads-append : (a b c : m.Content) (xs ys : List E) → Leads m a xs b → Leads m b ys c → Leads m a (xs ++ ys) c
  Leads-append a b c [] ys first then = subst (λ z. Leads m z ys c) (sym first) then
  Leads-append a b c (x ∷ xs) ys first then = (first.0, first.1, Leads-append first.0 b c xs ys first.2 then)

  -- the value y is x, on which these entries acted
  pub stands_after : (f x y : S) (es : List E) → StandsFor m f x (m.history x) → m.history y ≡ m.history x ++ es
      → ((c : m.Content) → m.Keeps x c → (d : m.Content) × Leads m c es d × m.Keeps y d) → StandsFor m f y (m.history y)
  stands_after f x y es s more acts =
      let after = acts s.content s.keeps in
      record {
        is = refl;
        content = after.0;
        leads = subst (λ h. Leads m (m.opening f) h after.0) (sym more) (Leads-append (m.opening f) s.content after.0 (m.history x) es s.leads after.1);
        keeps = after.2;
      }

  -- x was found by v, which then has the view w, and y is x with own entries more
  pub gives_back : (f : S) (v w : View S E) (x y : S) (tail : List E) → Finds m f v x → w ≡ record (came m v x) { ticket = w.ticket } → StandsFor m f y (m.history y)
      → m.history y ≡ m.history x ++ tail → AreOwn m v tail → m.made y ≡ m.made x → m.live y ≡ m.live x → m.rooms y ≡ m.rooms x → Returns m f w y
  gives_back f v w x y tail found is stands more own made live rooms = subst (λ (u : View S E). Returns m f u y) (sym is) record {
    stands = stands;
    history = (tail, more, own);
    made_is = made;
    live_is = live;
    long = ap length rooms;
    other_rooms = λ n _. ap (λ l. slice_index l n) rooms;
  }

  -- what includes all that a pass had seen includes what it had seen earlier
  pub includes_earlier : (v w : View S E) (seen : List E) → ThenOthers m v w.seen → w.number ≡ v.number → w.ended ≡ v.ended → Includes m seen (joined_of w) → Includes m seen (joined_of v)
  includes_earlier v w seen then number ended includes = (
    then.0 ++ includes.0,
    includes.1 ∙ (ap (λ l. l ++ includes.0) then.1 ∙ append_assoc v.seen then.0 includes.0),
    All-append (λ (e : E). ¬ ((m.number e ≡ v.number) ⊎ (Contains v.ended (m.number e)))) then.0 includes.0 then.2
        (subst (λ (z : ℕ × List ℕ). All (λ (e : E). ¬ ((m.number e ≡ z.0) ⊎ (Contains z.1 (m.number e)))) includes.0) (λ j. (number j, ended j)) includes.2),
  )
