-- One more item behind others.
use Rattle.std.proofs.Common.{◌≡◌, ℕ, ◌+◌, ◌<◌, ◌≤◌, Bool, true, false, ◌&&◌, List, [], ◌∷◌, ◌++◌, length, refl, sym, ap, ◌∙◌, arith, subst, length-append, Option, None, Some}
use Rattle.std.proofs.lemmas.Bool.{cond-false}
use Rattle.std.proofs.lemmas.Bool.Decides.{nat_tests}
use Rattle.std.proofs.lemmas.List.Folds.{list_any_none}
use Rattle.std.proofs.lemmas.List.Sums.{fails_before_first}
use Rattle.std.specs.Prelude.{if◌then◌else◌, is_none, is_some, nat_lt}
use Rattle.std.specs.List.{list_any, position_or_len}
use Rattle.std.specs.Str.{bytes_eq}
use Rattle.surface_store.specs.declared.windows.WindowSpec.{WindowSpec}
use Rattle.trace_reader.specs.Variables.{is_variable, variable_in}
use Rattle.trace_reader.specs.Assigned.{with_assigned}
use Rattle.trace_reader.specs.Body.{assigned}
use Rattle.trace_reader.specs.Heads.{window_with}
use Rattle.trace_reader.specs.Order.{IsLineAt, more_variables}
use Rattle.log_reader.specs.declared.items.Called.{Called}
use Rattle.log_reader.specs.declared.items.Cut.{Cut}
use Rattle.log_reader.specs.declared.items.Item.{Item}
use Rattle.log_reader.specs.declared.items.Item.TheVariants.{Call, Front}
use Rattle.log_reader.specs.declared.items.Shown.{Shown}
use Rattle.log_reader.specs.Lines.{is_new}
use Rattle.log_reader.specs.Order.{AreBefore, AreInOrder, IsCutOf, number_after_items, variables_after_items}

-- ---- A call.
number_behind_call : (n : ℕ) (xs : List Item) (c : Called) → number_after_items n (xs ++ Call c ∷ []) ≡ c.line.number + 1
number_behind_call n [] c = refl
number_behind_call n (Call x ∷ xs) c = number_behind_call (x.line.number + 1) xs c
number_behind_call n (Front x ∷ xs) c = number_behind_call (x.number + 1) xs c

variables_behind_call : (v : ℕ) (xs : List Item) (c : Called) → variables_after_items v (xs ++ Call c ∷ []) ≡ more_variables (variables_after_items v xs) c.line.assigns
variables_behind_call v [] c = refl
variables_behind_call v (Call x ∷ xs) c = variables_behind_call (more_variables v x.line.assigns) xs c
variables_behind_call v (Front x ∷ xs) c = variables_behind_call v xs c

with_call : (t : ℕ) (w : List WindowSpec) (n v : ℕ) (xs : List Item) (c : Called) → AreInOrder t w n v xs → number_after_items n xs ≤ c.line.number → c.line.thread < t → IsLineAt (variables_after_items v xs) c.line.number (variables_after_items v xs) c.line → AreInOrder t w n v (xs ++ Call c ∷ [])
with_call t w n v [] c o h b i = (h, b, i, tt)
with_call t w n v (Call x ∷ xs) c o h b i = (o.0, o.1, o.2, with_call t w (x.line.number + 1) (more_variables v x.line.assigns) xs c o.3 h b i)
with_call t w n v (Front x ∷ xs) c o h b i = (o.0, o.1, o.2, with_call t w (x.number + 1) v xs c o.3 h b i)

here : (n v : ℕ) (c : Called) → IsLineAt v n v c.line → IsLineAt v c.line.number v c.line
here n v c h = record { number_is = refl; no_halt = h.no_halt; no_wait_end = h.no_wait_end; assigns = h.assigns; uses = h.uses }

pub before_call : (t : ℕ) (w : List WindowSpec) (n v m : ℕ) (xs : List Item) (c : Called) → AreBefore t w n v xs → c.line.thread < t → IsLineAt v n v c.line → m ≡ more_variables v c.line.assigns → AreBefore t w (n + 1) m (xs ++ Call c ∷ [])
before_call t w n v m xs c o b i e =
    let at : c.line.number ≡ n = i.number_is in
    let le : number_after_items 2 xs ≤ c.line.number = omega (arith, o.number) in
    let P : ℕ → Type 0 = λ u. IsLineAt u c.line.number u c.line in
    record {
      order = with_call t w 2 0 xs c o.order le b (subst P (sym o.variables) (here n v c i));
      number = omega (arith, number_behind_call 2 xs c);
      variables = variables_behind_call 0 xs c ∙ ap (λ (u : ℕ). more_variables u c.line.assigns) o.variables ∙ sym e;
    }

-- ---- A front.
number_behind_front : (n : ℕ) (xs : List Item) (s : Shown) → number_after_items n (xs ++ Front s ∷ []) ≡ s.number + 1
number_behind_front n [] s = refl
number_behind_front n (Call x ∷ xs) s = number_behind_front (x.line.number + 1) xs s
number_behind_front n (Front x ∷ xs) s = number_behind_front (x.number + 1) xs s

variables_behind_front : (v : ℕ) (xs : List Item) (s : Shown) → variables_after_items v (xs ++ Front s ∷ []) ≡ variables_after_items v xs
variables_behind_front v [] s = refl
variables_behind_front v (Call x ∷ xs) s = variables_behind_front (more_variables v x.line.assigns) xs s
variables_behind_front v (Front x ∷ xs) s = variables_behind_front v xs s

with_front : (t : ℕ) (w : List WindowSpec) (n v : ℕ) (xs : List Item) (s : Shown) → AreInOrder t w n v xs → number_after_items n xs ≤ s.number → s.thread < t → is_some (window_with w s.window) ≡ true → AreInOrder t w n v (xs ++ Front s ∷ [])
with_front t w n v [] s o h b i = (h, b, i, tt)
with_front t w n v (Call x ∷ xs) s o h b i = (o.0, o.1, o.2, with_front t w (x.line.number + 1) (more_variables v x.line.assigns) xs s o.3 h b i)
with_front t w n v (Front x ∷ xs) s o h b i = (o.0, o.1, o.2, with_front t w (x.number + 1) v xs s o.3 h b i)

pub before_front : (t : ℕ) (w : List WindowSpec) (n v : ℕ) (xs : List Item) (s : Shown) → AreBefore t w n v xs → s.number ≡ n → s.thread < t → is_some (window_with w s.window) ≡ true → AreBefore t w (n + 1) v (xs ++ Front s ∷ [])
before_front t w n v xs s o e b i =
    let le : number_after_items 2 xs ≤ s.number = omega (arith, o.number) in
    record {
      order = with_front t w 2 0 xs s o.order le b i;
      number = omega (arith, number_behind_front 2 xs s);
      variables = variables_behind_front 0 xs s ∙ o.variables;
    }

-- ---- Nothing, and the first.
pub before_skipped : (t : ℕ) (w : List WindowSpec) (n v : ℕ) (xs : List Item) → AreBefore t w n v xs → AreBefore t w (n + 1) v xs
before_skipped t w n v xs o = record { order = o.order; number = omega (arith, o.number); variables = o.variables }

pub before_first : (t : ℕ) (w : List WindowSpec) (n : ℕ) → 2 ≤ n → AreBefore t w n 0 []
before_first t w n h = record { order = tt; number = h; variables = refl }

-- ---- The variable that a call assigns.
second_of : (a b : Bool) → (a && b) ≡ true → b ≡ true
second_of true b h = h
second_of false b h = absurd (let e : false ≡ true = h in cc)

no_place : (b : Bool) (n : ℕ) → is_none (if b then Some n else None) ≡ true → b ≡ false
no_place true n h = absurd (let e : false ≡ true = h in cc)
no_place false n h = refl

none_is : (names : List (List ℕ)) (w : List ℕ) → is_none (variable_in names w) ≡ true → list_any (bytes_eq w) names ≡ false
none_is names w h =
    let p : List ℕ → Bool = bytes_eq w in
    let past : nat_lt (position_or_len p names) (length names) ≡ false = no_place (nat_lt (position_or_len p names) (length names)) (position_or_len p names) h in
    let le : length names ≤ position_or_len p names = grind (arith, nat_tests, past) in
    list_any_none p names (λ k d i. fails_before_first p names k d (omega (arith, i, le)))

pub one_more : (names : List (List ℕ)) (target : Option (List ℕ)) → is_new names target ≡ true → length (with_assigned names target) ≡ more_variables (length names) (assigned (length names) target)
one_more names None h = refl
one_more names (Some w) h =
    let none : list_any (bytes_eq w) names ≡ false = none_is names w (second_of (is_variable w) (is_none (variable_in names w)) h) in
    let e : with_assigned names (Some w) ≡ names ++ w ∷ [] = cond-false _ _ _ none in
    omega (arith, ap length e, length-append names (w ∷ []))

-- ---- Of equal values.
pub order_as : (t t' : ℕ) (w w' : List WindowSpec) (xs xs' : List Item) → t ≡ t' → w ≡ w' → xs ≡ xs' → AreInOrder t' w' 2 0 xs' → AreInOrder t w 2 0 xs
order_as t t' w w' xs xs' e f g o =
    let P : ℕ → Type 0 = λ n. AreInOrder n w 2 0 xs in
    let Q : List WindowSpec → Type 0 = λ s. AreInOrder t' s 2 0 xs in
    let R : List Item → Type 0 = λ ys. AreInOrder t' w' 2 0 ys in
    subst P (sym e) (subst Q (sym f) (subst R (sym g) o))

pub cut_as : (t t' : ℕ) (c : Option Cut) → t ≡ t' → IsCutOf t' c → IsCutOf t c
cut_as t t' c e h = let P : ℕ → Type 0 = λ n. IsCutOf n c in subst P (sym e) h

-- a call that assigns a variable that none before it assigns
pub before_named : (t : ℕ) (w : List WindowSpec) (n : ℕ) (names names' : List (List ℕ)) (target : Option (List ℕ)) (xs ys : List Item) (c : Called) → AreBefore t w n (length names) xs → c.line.thread < t → IsLineAt (length names) n (length names) c.line → is_new names target ≡ true → c.line.assigns ≡ assigned (length names) target → names' ≡ with_assigned names target → ys ≡ xs ++ Call c ∷ [] → AreBefore t w (n + 1) (length names') ys
before_named t w n names names' target xs ys c o b i new is more items =
    let P : List Item → Type 0 = λ zs. AreBefore t w (n + 1) (length names') zs in
    let count : length names' ≡ more_variables (length names) c.line.assigns = ap length more ∙ one_more names target new ∙ ap (more_variables (length names)) (sym is) in
    subst P (sym items) (before_call t w n (length names) (length names') xs c o b i count)
