-- A table: what a write to a home or to the others changes.
use Rattle.std.proofs.Common.{◌≡◌, ◌≢◌, ℕ, zero, suc, ◌+◌, ◌<◌, ◌-◌, ◌*◌, ◌^◌, Bool, true, false, List, [], ◌∷◌, ◌++◌, length, set, refl, sym, ap, ◌∙◌, arith, Option, None, Some, inl, inr}
use Rattle.std.proofs.lemmas.Bool.{cases_eq, false≢true}
use Rattle.std.proofs.lemmas.List.{length-set}
use Rattle.std.proofs.lemmas.Nat.{pow-add}
use Rattle.std.specs.Prelude.{is_some, IsSome, nat_eq, option_copied}
use Rattle.std.specs.Borrow.{Bor}
use Rattle.std.specs.Int.RustNames.{bit_and}
use Rattle.std.specs.Map.{lookup}
use Rattle.indexmap.specs.IndexMap.{get, Updates}
use Rattle.numbered.specs.declared.homes.Home.{Home}
use Rattle.numbered.specs.declared.homes.Home.TheVariants.{Vacant, Taken}
use Rattle.numbered.specs.declared.table.Table.{Table}
use Rattle.numbered.specs.Homes.{value_of, home_at, IsSplit}
use Rattle.numbered.specs.Tables.{first_of, homed, found, IsSized, IsLaid, Puts}
use Rattle.numbered.proofs.HomeLaws.{taken_same, taken_other, not_of, home_below, write_same, write_other, split_found, pow_pos}
use Rattle.numbered.proofs.MapLaws.{updates_others}

first_none : {X : Type 0} (a b : Option X) → first_of a b ≡ None → (a ≡ None) × (b ≡ None)
first_none None b e = (refl, e)
first_none (Some x) b e = (e, absurd (false≢true (sym (ap is_some e))))

-- a look at home finds none
pub not_home : {X : Type 0} (r : Option (Bor X)) (o : Option X) (b : Bool) → option_copied r ≡ o → b ≡ is_some r → b ≡ false → o ≡ None
not_home None o b e s f = sym e
not_home (Some x) o b e s f = absurd (false≢true (sym f ∙ s))

-- or one
pub at_home : {X : Type 0} (r : Option (Bor X)) (o : Option X) (b : Bool) → option_copied r ≡ o → b ≡ is_some r → b ≡ true → IsSome o
at_home None o b e s t = absurd (false≢true (sym s ∙ t))
at_home (Some x) o b e s t = ap is_some (sym e)

first_alone : {X : Type 0} (a : Option X) → first_of a None ≡ a
first_alone None = refl
first_alone (Some x) = refl

first_some : {X : Type 0} (a b : Option X) → IsSome a → first_of a b ≡ a
first_some None b h = absurd (false≢true h)
first_some (Some x) b h = refl

module _ {X : Type 0} where
  pub found_home : (t : Table X) (n : ℕ) → IsSome (homed t n) → found t n ≡ homed t n
  unfolding found
  found_home t n h = first_some (homed t n) (get nat_eq t.others n) h

  pub found_other : (t : Table X) (n : ℕ) → homed t n ≡ None → found t n ≡ get nat_eq t.others n
  unfolding found
  found_other t n h = ap (λ o. first_of o (get nat_eq t.others n)) h

  pub found_none : (t : Table X) (n : ℕ) → found t n ≡ None → (homed t n ≡ None) × (get nat_eq t.others n ≡ None)
  unfolding found
  found_none t n h = first_none (homed t n) (get nat_eq t.others n) h

  -- the homes change at one number, which the others lack
  homes_put : (t t' : Table X) (n : ℕ) (w : Option X) → t'.mask ≡ t.mask → t'.others ≡ t.others → length t'.homes.items ≡ length t.homes.items → homed t' n ≡ w → ((m : ℕ) → m ≢ n → homed t' m ≡ homed t m) → get nat_eq t.others n ≡ None → IsLaid t → Puts t t' n w
  unfolding found
  homes_put t t' n w mask others long now rest none laid = record {
    now = ap (λ o. first_of o (get nat_eq t'.others n)) now ∙ ap (first_of w) (ap (λ m. get nat_eq m n) others ∙ none) ∙ first_alone w;
    others = λ m ne. ap (λ o. first_of o (get nat_eq t'.others m)) (rest m ne) ∙ ap (λ q. first_of (homed t m) (get nat_eq q m)) others;
    laid = record {
      once = λ m h. ap (λ q. get nat_eq q m) others ∙ elim (cases_eq m n) [
        | inl e ↦ ap (get nat_eq t.others) e ∙ none
        | inr ne ↦ laid.once m (rw (rest m ne) at h)
      ];
      sized = rw (long, mask) laid.sized;
    };
    as_many = long;
  }

  -- a vacant home takes a value
  pub home_filled : (t t' : Table X) (n : ℕ) (x : X) → t'.homes.items ≡ set t.homes.items (bit_and n t.mask) (Taken n x) → t'.mask ≡ t.mask → t'.others ≡ t.others → bit_and n t.mask < length t.homes.items → home_at t.homes.items (bit_and n t.mask) ≡ Vacant → found t n ≡ None → IsLaid t → Puts t t' n (Some x)
  home_filled t t' n x homes mask others l vacant none laid = homes_put t t' n (Some x) mask others (ap length homes ∙ length-set t.homes.items (bit_and n t.mask) (Taken n x))
      (rw (homes, mask) (write_same t.homes.items t.mask n (Taken n x) l ∙ taken_same n x))
      (λ m ne. rw (homes, mask) (write_other t.homes.items t.mask n m (Taken n x) l (taken_other m n x (λ e. ne (sym e)) ∙ ap (value_of m) (sym vacant))))
      (found_none t n none).1 laid

  -- the value at a home goes
  pub home_emptied : (t t' : Table X) (n : ℕ) → t'.homes.items ≡ set t.homes.items (bit_and n t.mask) Vacant → t'.mask ≡ t.mask → t'.others ≡ t.others → IsSome (homed t n) → IsLaid t → Puts t t' n None
  home_emptied t t' n homes mask others some laid =
      let l = home_below t.homes.items t.mask n some in
      homes_put t t' n None mask others (ap length homes ∙ length-set t.homes.items (bit_and n t.mask) Vacant)
      (rw (homes, mask) (write_same t.homes.items t.mask n Vacant l))
      (λ m ne. rw (homes, mask) (write_other t.homes.items t.mask n m Vacant l (sym (not_of n m (home_at t.homes.items (bit_and n t.mask)) some ne))))
      (laid.once n some) laid

  -- the others change at a number that isn't at home
  pub others_put : (t t' : Table X) (n : ℕ) (w : Option X) → t'.homes ≡ t.homes → t'.mask ≡ t.mask → homed t n ≡ None → Updates nat_eq t.others t'.others n w → IsLaid t → Puts t t' n w
  unfolding found
  others_put t t' n w homes mask none u laid =
      let rest = updates_others t.others t'.others n w u in
      let same : (m : ℕ) → homed t' m ≡ homed t m = λ m. rw (homes, mask) refl in
      record {
        now = ap (λ o. first_of o (get nat_eq t'.others n)) (same n ∙ none) ∙ u.1;
        others = λ m ne. ap (λ o. first_of o (get nat_eq t'.others m)) (same m) ∙ ap (first_of (homed t m)) (rest m ne);
        laid = record {
          once = λ m h.
              let some : IsSome (homed t m) = rw (same m) at h in
              rest m (λ e. false≢true (sym (ap is_some none) ∙ ap (λ q. is_some (homed t q)) (sym e) ∙ some)) ∙ laid.once m some;
          sized = rw (homes, mask) laid.sized;
        };
        as_many = rw homes refl;
      }

  -- every number has what it had
  pub same_found : (t t' : Table X) → ((n : ℕ) → homed t' n ≡ homed t n) → ((n : ℕ) → get nat_eq t'.others n ≡ get nat_eq t.others n) → (n : ℕ) → found t' n ≡ found t n
  unfolding found
  same_found t t' homes others n = ap (λ o. first_of o (get nat_eq t'.others n)) (homes n) ∙ ap (first_of (homed t n)) (others n)

  pub same_laid : (t t' : Table X) → ((n : ℕ) → homed t' n ≡ homed t n) → ((n : ℕ) → get nat_eq t'.others n ≡ get nat_eq t.others n) → IsSized (length t'.homes.items) t'.mask → IsLaid t → IsLaid t'
  same_laid t t' homes others sized laid = record {
    once = λ n h. others n ∙ laid.once n (rw (homes n) at h);
    sized = sized;
  }

  -- no value
  pub none_homed : (t : Table X) (n : ℕ) → t.homes.items ≡ [] → homed t n ≡ None
  none_homed t n e = rw e refl

  pub none_found : (t : Table X) (n : ℕ) → t.homes.items ≡ [] → t.others.entries ≡ [] → found t n ≡ None
  none_found t n homes others = found_other t n (none_homed t n homes) ∙ ap (λ es. lookup (nat_eq n) es) others

  pub none_laid : (t : Table X) → t.homes.items ≡ [] → t.mask ≡ 0 → IsLaid t
  none_laid t homes mask = record {
    once = λ n h. absurd (false≢true (sym (ap is_some (none_homed t n homes)) ∙ h));
    sized = inl (ap length homes, mask);
  }

  -- more homes
  pub record Widens (old new : Table X) : Type 0 where
    pub found : (n : ℕ) → found new n ≡ found old n
    pub laid : IsLaid new

  -- there are none more
  pub not_widened : (t t' : Table X) → t'.homes.items ≡ t.homes.items → t'.mask ≡ t.mask → t'.others ≡ t.others → IsLaid t → Widens t t'
  not_widened t t' homes mask others laid =
      let same : (m : ℕ) → homed t' m ≡ homed t m = λ m. rw (homes, mask) refl in
      let gets : (m : ℕ) → get nat_eq t'.others m ≡ get nat_eq t.others m = λ m. ap (λ q. get nat_eq q m) others in
      record { found = same_found t t' same gets; laid = same_laid t t' same gets (rw (homes, mask) laid.sized) laid }

  -- the first
  vacant_alone : (k : ℕ) → home_at {X = X} (Vacant ∷ []) k ≡ Vacant
  vacant_alone zero = refl
  vacant_alone (suc k) = refl

  pub first_home : (t t' : Table X) → length t.homes.items ≡ 0 → t'.homes.items ≡ t.homes.items ++ Vacant ∷ [] → t'.mask ≡ t.mask → t'.others ≡ t.others → IsLaid t → Widens t t'
  first_home t t' count homes mask others laid =
      let none : t.homes.items ≡ [] = empty t.homes.items count in
      let alone : t'.homes.items ≡ Vacant ∷ [] = homes ∙ ap (λ hs. hs ++ Vacant ∷ []) none in
      let same : (m : ℕ) → homed t' m ≡ homed t m = λ m. ap (λ hs. value_of m (home_at hs (bit_and m t'.mask))) alone ∙ ap (value_of m) (vacant_alone (bit_and m t'.mask)) ∙ sym (none_homed t m none) in
      let gets : (m : ℕ) → get nat_eq t'.others m ≡ get nat_eq t.others m = λ m. ap (λ q. get nat_eq q m) others in
      record { found = same_found t t' same gets; laid = same_laid t t' same gets (inr (0, ap length alone, mask ∙ no_mask (length t.homes.items) t.mask count laid.sized)) laid }
    where
      empty : (hs : List (Home X)) → length hs ≡ 0 → hs ≡ []
      empty [] e = refl
      empty (h ∷ hs) e = absurd (omega (arith, e))

      no_mask : (c m : ℕ) → c ≡ 0 → IsSized c m → m ≡ 0
      no_mask c m e (inl z) = z.1
      no_mask c m e (inr p) = absurd (let l = pow_pos p.0 in omega (arith, e, p.1, l))

  -- as many more as there were
  pub widened : (t t' : Table X) (count : ℕ) (hs : List (Home X)) → length t.homes.items ≡ count → 0 < count → hs ≡ t.homes.items → IsSplit count count hs t'.homes.items → t'.mask ≡ 2 * count - 1 → t'.others ≡ t.others → IsLaid t → Widens t t'
  widened t t' count hs long some was split mask others laid = by laid.sized
    where
      twice : (c k : ℕ) → c ≡ 2 ^ k → c + c ≡ 2 ^ (1 + k)
      twice c k e = let p = pow-add 2 1 k in omega (arith, e, p)

      gets : (m : ℕ) → get nat_eq t'.others m ≡ get nat_eq t.others m
      gets m = ap (λ q. get nat_eq q m) others

      by : IsSized (length t.homes.items) t.mask → Widens t t'
      by (inl z) = absurd (omega (arith, some, long, z.0))
      by (inr (k, power, low)) =
          let e : count ≡ 2 ^ k = sym long ∙ power in
          let same : (m : ℕ) → homed t' m ≡ homed t m = λ m. rw (mask, low, e) (split_found k t.homes.items t'.homes.items (rw (e, was) at split) m) in
          record {
            found = same_found t t' same gets;
            laid = same_laid t t' same gets (inr (1 + k, split.long ∙ twice count k e, mask ∙ ap (λ c. c - 1) (ap (λ c. 2 * c) e ∙ sym (pow-add 2 1 k)))) laid;
          }
