-- Drawing a ticket keeps the rule.
use Rattle.std.proofs.Common.{◌≡◌, ℕ, ◌+◌, ◌%◌, ◌^◌, ◌<◌, ◌≤◌, true, false, [], ◌∷◌, length, set, refl, sym, ap, ◌∙◌, subst, arith, length-set, Some, None}
use Rattle.std.specs.Prelude.{All, count_by, is_some, Option, slice_index, slice_set}
use Rattle.std.proofs.Math.Nat.{mod-add-mod}
use Rattle.atomic_table.specs.Table.{Me, keeps, stepped, Allows}
use Rattle.std.specs.declared.snapshot.Snapshot.{Snapshot}
use Rattle.turn_lock.specs.declared.view.View.{View}
use Rattle.turn_lock.specs.Meaning.{Meaning}
use Rattle.turn_lock.specs.Views.{has_ticket, is_live}
use Rattle.turn_lock.specs.Rule.{IsLiveView, IsPlaced, Ruled}
use Rattle.turn_lock.specs.Moves.{drew}
use Rattle.turn_lock.proofs.Tallies.{one_if, count_by-set}
use Rattle.turn_lock.proofs.Lists.{one_value, each_set, pairs_set}
use Rattle.turn_lock.proofs.Owners.{IsKin, live_set, apart_set, owned_set}
use Rattle.turn_lock.proofs.Slots.{no_step, slot_aside}

module _ {S E : Type 0} (m : Meaning S E) (k : Snapshot S) where
  pub draws : (slots id : ℕ) (me : Me (Option S) (View S E)) → me.0.ticket ≡ None → me.0.in_turn ≡ false
      → Allows (Ruled m k) slots id me 0 (λ n. (n + 1) % 2 ^ 64) (drew no_step me)
  draws slots id me none_yet aside s r len at lt =
      let v = me.0 in
      let w : View S E = record v { ticket = Some r.given } in
      let kin : IsKin v w = record { live = refl; number = refl; ended = refl } in
      let count = live_set s.views id v w at kin in
      let long = length-set s.views id w in
      let counted = count_by-set has_ticket s.views id v w at in
      let without : one_if (has_ticket v) ≡ 0 = ap (λ o. one_if (is_some o)) none_yet in
      let r_counted = r.counted in
      let views_now : (i : ℕ) (u : View S E) → IsLiveView m k r.history r.rooms (length s.views) (count_by is_live s.views) i u → IsLiveView m k r.history r.rooms (length (set s.views id w)) (count_by is_live (set s.views id w)) i u = λ i u. subst (λ (c : ℕ × ℕ). IsLiveView m k r.history r.rooms c.0 c.1 i u) (λ j. (sym long j, sym count j)) in (
        w,
        keeps,
        tt,
        record {
          given = r.given + 1;
          passed = r.passed;
          history = r.history;
          rooms = r.rooms;
          counted = omega arith;
          words = ap (λ ws. slice_set ws 0 ((slice_index ws 0 + 1) % 2 ^ 64)) r.words ∙ ap (λ z. z ∷ r.passed % 2 ^ 64 ∷ []) (mod-add-mod r.given (2 ^ 64) 1);
          few = subst (λ z. z ≤ 65536) (sym long) r.few;
          differ = λ i j u u' t a b. pairs_set (λ i u j u'. u.ticket ≡ Some t → u'.ticket ≡ Some t → i ≡ j) s.views id w
              (λ _ _. refl)
              (λ j u ne here e e'. let is = one_value w.ticket r.given t refl e in let h = (r.tickets j u t here e').1 in absurd (omega arith))
              (λ j u ne here e e'. let is = one_value w.ticket r.given t refl e' in let h = (r.tickets j u t here e).1 in absurd (omega arith))
              (λ i j u u' a b. r.differ i j u u' t a b) i j u u' a b;
          tickets = λ i u t here. each_set (λ i u. u.ticket ≡ Some t → (r.passed ≤ t) × (t < r.given + 1)) s.views id w
              (λ e. let is = one_value w.ticket r.given t refl e in (omega arith, omega arith))
              (λ j u ne here e. let h = r.tickets j u t here e in let h1 = h.1 in (h.0, omega arith)) i u here;
          slot = subst (λ (c : ℕ × ℕ). IsPlaced m k r.history r.rooms c.0 c.1 r.passed (stepped s 0 ((slice_index s.words 0 + 1) % 2 ^ 64) id me.1 w keeps)) (λ i. (sym long i, sym count i))
              (slot_aside m k r.history r.rooms (length s.views) (count_by is_live s.views) r.passed s (slice_set s.words 0 ((slice_index s.words 0 + 1) % 2 ^ 64)) id v w at aside aside r.slot);
          long = r.long ∙ sym long;
          below = subst (λ z. All (λ e. m.number e < z) r.history) (sym long) r.below;
          views = each_set (λ i u. u.live ≡ true → IsLiveView m k r.history r.rooms (length (set s.views id w)) (count_by is_live (set s.views id w)) i u) s.views id w
              (λ live. let f = r.views id v at live in views_now id w record {
                later = f.later;
                prefix = f.prefix;
                own_seen = f.own_seen;
                ended_seen = f.ended_seen;
                number_is = f.number_is;
                own_room = f.own_room;
                ended_rooms = f.ended_rooms;
                sole = f.sole;
                first_is = f.first_is;
                not_ended = f.not_ended;
                ended_below = f.ended_below;
                made_counted = f.made_counted;
                learned = f.learned;
              })
              (λ j u ne here live. views_now j u (r.views j u here live));
          owned = owned_set s.views id v w at kin r.owned;
          apart = apart_set s.views id v w at kin r.apart;
        },
        (r.given, ap (λ ws. slice_index ws 0) r.words, refl),
      )
