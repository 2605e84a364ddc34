-- The lock at its start, and at its end with the sole live pass.
use Rattle.std.proofs.Common.{◌≡◌, ◌≢◌, ℕ, zero, suc, ◌<◌, ◌≤◌, true, false, List, [], ◌∷◌, ◌++◌, length, refl, sym, ap, ◌∙◌, subst, inl, ⊎_elim, arith, Some}
use Rattle.std.specs.Prelude.{All, Contains, count_by, Option, slice_index_or}
use Rattle.std.proofs.lemmas.List.{append-nil}
use mathlib.Core.Logic.{dite}
use mathlib.Core.Option.{some, some-injective, some-ne-none}
use native.Mathlib.Decide.{ℕ_discrete}
use lib.ListN.{get_elem?}
use Rattle.atomic_table.specs.Table.{opening, Final, Seen}
use Rattle.std.specs.declared.snapshot.Snapshot.{Snapshot}
use Rattle.turn_lock.specs.declared.view.View.{View}
use Rattle.turn_lock.specs.Meaning.{Meaning, StandsFor}
use Rattle.turn_lock.specs.Views.{Owns, At, is_live}
use Rattle.turn_lock.specs.Values.{Begins, Leaves}
use Rattle.turn_lock.specs.Rule.{IsLiveView, IsHome, IsOut, Ruled}
use Rattle.turn_lock.specs.Moves.{newcomer}
use Rattle.turn_lock.proofs.Tallies.{two_pass}
use Rattle.turn_lock.proofs.Lists.{off, no_value, none_contained, all_of_none, all_behind, none_is_both, one_view}
use Rattle.turn_lock.proofs.Slots.{later_of_others}
use Rattle.turn_lock.proofs.Looking.{finds}

module _ {S E : Type 0} (m : Meaning S E) (k : Snapshot S) where
  pub opens : (x : S) → k.value ≡ x → Begins m x → Ruled m k (opening (0 ∷ 0 ∷ []) (Some x ∷ []) (newcomer m k))
  opens x is o =
      record {
        given = 0;
        passed = 0;
        history = [];
        rooms = m.rooms k.value;
        counted = refl;
        words = refl;
        few = omega arith;
        differ = λ i j v w t a b e e'. (only_one i v a).0 ∙ sym (only_one j w b).0;
        tickets = λ i v t at e. absurd (no_value v.ticket t (ap (λ (u : View S E). u.ticket) (sym (only_one i v at).1)) e);
        slot = inl (
          x,
          record {
            home = refl;
            nobody = λ i v at. ap (λ (u : View S E). u.in_turn) (sym (only_one i v at).1);
            stands = subst (λ y. StandsFor m y x []) (sym is) o.stands;
            made_is = o.made_is;
            live_is = o.live_is;
            rooms_are = ap m.rooms (sym is);
          },
        );
        long = ap (λ y. length (m.rooms y)) is ∙ o.one_room;
        below = all_of_none (λ (e : E). m.number e < 1);
        views = λ i v at live. let one = only_one i v at in subst (λ (z : ℕ × View S E). IsLiveView m k [] (m.rooms k.value) 1 1 z.0 z.1) (λ j. (sym one.0 j, one.1 j)) record {
          later = [];
          prefix = refl;
          own_seen = all_of_none (λ (e : E). m.number e ≢ 0);
          ended_seen = all_of_none (λ (e : E). ¬ (Contains [] (m.number e)));
          number_is = refl;
          own_room = refl;
          ended_rooms = λ n h. absurd (none_contained n h);
          sole = λ e. e;
          first_is = refl;
          not_ended = λ h. none_contained 0 h;
          ended_below = λ n h. absurd (none_contained n h);
          made_counted = let c : 1 ≤ 1 = omega arith in c;
          learned = tt;
        };
        owned = λ n inside. (0, newcomer m k, refl, refl, inl (omega arith));
        apart = λ i j v w a b _ _ ne. absurd (ne ((only_one i v a).0 ∙ sym (only_one j w b).0));
      }
    where
      only_one : (i : ℕ) (v : View S E) → At (newcomer m k ∷ []) i v → (i ≡ 0) × (newcomer m k ≡ v)
      only_one zero v at = (refl, some-injective (newcomer m k) v at)
      only_one (suc i) v at = absurd (some-ne-none v (sym at))

  -- the slot of a closed lock has a value, and that is what the pass leaves
  pub record Ends (v : View S E) (y : Option S) : Type 0 where
    pub value : S
    pub is : y ≡ Some value
    pub leaves : Leaves m k.value v value

  pub ends : (id : ℕ) (v : View S E) (ws : List ℕ) (xs : List (Option S)) (y : Option S) → v.live ≡ true → v.in_turn ≡ false → v.counts.live ≡ 1
      → Final (Seen (Ruled m k) id v) ws xs → get_elem? xs 0 ≡ some y → Ends v y
  ends id v ws xs y live aside sole (s, (r, at), _, _, values) there =
      let f = r.views id v at live in
      let one : count_by is_live s.views ≡ 1 = f.sole sole in
      let me : (i : ℕ) (u : View S E) → At s.views i u → u.live ≡ true → (i ≡ id) × (u ≡ v) = λ i u here alive. dite (ℕ_discrete i id)
      (λ e. (e, one_view s.views i id u v here at e))
      (λ ne. let h = two_pass is_live s.views i id u v here at alive live ne in absurd (omega arith)) in
      let owns : All (λ e. Owns v (m.number e)) r.history = λ i d inside. let p = r.owned (m.number (slice_index_or r.history i d)) (r.below i d inside) in
      subst (λ (u : View S E). Owns u (m.number (slice_index_or r.history i d))) (me p.0 p.1 p.2 p.3).1 p.4 in
      let others = later_of_others m k r.history r.rooms (length s.views) (count_by is_live s.views) id v f in
      let none_more : f.later ≡ [] = none_is_both (λ e. Owns v (m.number e)) f.later (all_behind (λ e. Owns v (m.number e)) v.seen f.later (subst (All (λ e. Owns v (m.number e))) f.prefix owns)) others in
      let all_seen : r.history ≡ v.seen = f.prefix ∙ (ap (λ l. v.seen ++ l) none_more ∙ append-nil v.seen) in
      ⊎_elim
      (λ (h : (x : S) × IsHome m k r.history r.rooms (length s.views) (count_by is_live s.views) s x). record {
        value = h.0;
        is = some-injective y (Some h.0) (sym there ∙ values 0 (Some h.0) (ap (λ hs. get_elem? hs 0) h.1.home));
        leaves = record {
          found = finds m k s r id v at live h.0 h.1;
          history = h.1.stands.is ∙ all_seen;
          owned = subst (All (λ e. Owns v (m.number e))) (sym h.1.stands.is) owns;
          made_owned = λ n inside. let p = r.owned n (subst (λ k. n < k) h.1.made_is inside) in subst (λ (u : View S E). Owns u n) (me p.0 p.1 p.2 p.3).1 p.4;
          sole = h.1.live_is ∙ one;
        };
      })
      (λ (h : (i : ℕ) × (u : View S E) × IsOut m r.history r.rooms (length s.views) (count_by is_live s.views) r.passed s i u).
      absurd (off (sym aside ∙ (ap (λ (u : View S E). u.in_turn) (sym (me h.0 h.1 h.2.here h.2.live_is).1) ∙ h.2.in_turn))))
      r.slot
