-- Passing the turn on, with the value in the slot, keeps the rule.
use Rattle.std.proofs.Common.{◌≡◌, ◌≢◌, ℕ, ◌+◌, ◌%◌, ◌^◌, ◌<◌, ◌≤◌, true, false, List, [], ◌∷◌, ◌++◌, length, set, refl, sym, ap, ◌∙◌, subst, inl, inr, arith, length-set, Some}
use Rattle.std.specs.Prelude.{All, Contains, count_by, is_some, Option, slice_index, slice_set}
use Rattle.std.proofs.lemmas.List.{append-nil, append_assoc}
use Rattle.std.proofs.lemmas.List.Elements.{All-append}
use Rattle.std.proofs.Math.Nat.{mod-add-mod}
use mathlib.Core.Option.{some}
use Rattle.atomic_table.specs.Table.{Me, gives, Allows}
use Rattle.std.specs.declared.snapshot.Snapshot.{Snapshot}
use Rattle.turn_lock.specs.declared.view.View.{View}
use Rattle.turn_lock.specs.declared.view.Counts.{Counts}
use Rattle.turn_lock.specs.Meaning.{Meaning}
use Rattle.turn_lock.specs.Views.{Owns, At, has_ticket, is_live}
use Rattle.turn_lock.specs.Values.{Returns}
use Rattle.turn_lock.specs.Rule.{IsLiveView, Ruled}
use Rattle.turn_lock.specs.Moves.{went, passed_on}
use Rattle.turn_lock.proofs.Tallies.{one_if, count_by-set}
use Rattle.turn_lock.proofs.Lists.{no_value, carried_or, all_of_none, each_set, pairs_set, at_below}
use Rattle.turn_lock.proofs.Owners.{IsKin, live_set, apart_set, owned_set}
use Rattle.turn_lock.proofs.Slots.{no_step, out_with}

module _ {S E : Type 0} (m : Meaning S E) (k : Snapshot S) where
  passes : (slots id : ℕ) (v : View S E) (x : S) → v.live ≡ true → v.in_turn ≡ true → Returns m k.value v x
      → Allows (Ruled m k) slots id (v, (0, Some x) ∷ []) 1 (λ n. (n + 1) % 2 ^ 64) (passed_on m no_step (v, (0, Some x) ∷ []))
  passes slots id v x live turn back s r len at lt =
      let o = out_with m k r.history r.rooms (length s.views) (count_by is_live s.views) r.passed s id v at turn r.slot in
      let w = went m v x in
      let kin : IsKin v w = record { live = refl; number = refl; ended = refl } in
      let count = live_set s.views id v w at kin in
      let long = length-set s.views id w in
      let counted = count_by-set has_ticket s.views id v w at in
      let with_one : one_if (has_ticket v) ≡ 1 = ap (λ o. one_if (is_some o)) o.ticket in
      let r_counted = r.counted in
      let f = r.views id v at live in
      let tail = back.history.0 in
      let history : List E = m.history x in
      let grown : history ≡ r.history ++ tail = back.history.1 ∙ ap (λ l. l ++ tail) o.seen in
      let rooms : List ℕ = m.rooms x in
      let same_rooms : (n : ℕ) → n ≢ v.number → slice_index rooms n ≡ slice_index r.rooms n = λ n ne. back.other_rooms n ne ∙ ap (λ l. slice_index l n) o.rooms_are in
      let not_mine : (j : ℕ) (u : View S E) → j ≢ id → At s.views j u → u.live ≡ true → ¬ (Owns u v.number) = λ j u ne here alive own. r.apart id j v u at here live alive (λ e. ne (sym e)) v.number (inl refl) own in
      let views_now : (i : ℕ) (u : View S E) → IsLiveView m k history rooms (length s.views) (count_by is_live s.views) i u → IsLiveView m k history rooms (length (set s.views id w)) (count_by is_live (set s.views id w)) i u = λ i u. subst (λ (c : ℕ × ℕ). IsLiveView m k history rooms c.0 c.1 i u) (λ j. (sym long j, sym count j)) in (
        w,
        gives,
        tt,
        record {
          given = r.given;
          passed = r.passed + 1;
          history = history;
          rooms = rooms;
          counted = omega arith;
          words = ap (λ ws. slice_set ws 1 ((slice_index ws 1 + 1) % 2 ^ 64)) r.words ∙ ap (λ z. r.given % 2 ^ 64 ∷ z ∷ []) (mod-add-mod r.passed (2 ^ 64) 1);
          few = subst (λ z. z ≤ 65536) (sym long) r.few;
          differ = λ i j u u' t a b. pairs_set (λ i u j u'. u.ticket ≡ Some t → u'.ticket ≡ Some t → i ≡ j) s.views id w
              (λ _ _. refl)
              (λ j u ne here e e'. absurd (no_value w.ticket t refl e))
              (λ j u ne here e e'. absurd (no_value w.ticket t refl e'))
              (λ i j u u' a b. r.differ i j u u' t a b) i j u u' a b;
          tickets = λ i u t here. each_set (λ i u. u.ticket ≡ Some t → (r.passed + 1 ≤ t) × (t < r.given)) s.views id w
              (λ e. absurd (no_value w.ticket t refl e))
              (λ j u ne here e. let h = r.tickets j u t here e in let h0 = h.0 in
              let later : r.passed ≢ t = λ same. ne (r.differ j id u v t here at e (o.ticket ∙ ap Some same)) in (omega arith, h.1)) i u here;
          slot = inl (
            x,
            record {
              home = ap (λ hs. set hs 0 (some (Some x))) o.away;
              nobody = each_set (λ j u. u.in_turn ≡ false) s.views id w refl (λ j u ne here. o.only j u here ne);
              stands = back.stands;
              made_is = back.made_is ∙ (ap (λ (c : Counts). c.made) o.counts ∙ sym long);
              live_is = back.live_is ∙ (ap (λ (c : Counts). c.live) o.counts ∙ sym count);
              rooms_are = refl;
            },
          );
          long = back.long ∙ (ap length o.rooms_are ∙ (r.long ∙ sym long));
          below = subst (λ (z : ℕ × List E). All (λ e. m.number e < z.0) z.1) (λ i. (sym long i, sym grown i))
              (All-append (λ e. m.number e < length s.views) r.history tail r.below
              (λ i d inside. let own = back.history.2 i d inside in let b = at_below s.views id v at in let n = f.number_is in omega arith));
          views = each_set (λ i u. u.live ≡ true → IsLiveView m k history rooms (length (set s.views id w)) (count_by is_live (set s.views id w)) i u) s.views id w
              (λ _. views_now id w record {
                later = [];
                prefix = sym (append-nil history);
                own_seen = all_of_none (λ (e : E). m.number e ≢ v.number);
                ended_seen = all_of_none (λ (e : E). ¬ (Contains v.ended (m.number e)));
                number_is = f.number_is;
                own_room = refl;
                ended_rooms = λ n h. same_rooms n (λ e. f.not_ended (subst (λ z. Contains v.ended z) (e ∙ f.number_is) h)) ∙ f.ended_rooms n h;
                sole = f.sole;
                first_is = f.first_is;
                not_ended = f.not_ended;
                ended_below = f.ended_below;
                made_counted = f.made_counted;
                learned = tt;
              })
              (λ j u ne here alive. let g = r.views j u here alive in views_now j u record {
                later = g.later ++ tail;
                prefix = grown ∙ (ap (λ l. l ++ tail) g.prefix ∙ append_assoc u.seen g.later tail);
                own_seen = All-append (λ (e : E). m.number e ≢ u.number) g.later tail g.own_seen (λ i d inside same. not_mine j u ne here alive (inl (sym (back.history.2 i d inside) ∙ same)));
                ended_seen = All-append (λ (e : E). ¬ (Contains u.ended (m.number e))) g.later tail g.ended_seen (λ i d inside h. not_mine j u ne here alive (inr (subst (λ z. Contains u.ended z) (back.history.2 i d inside) h)));
                number_is = g.number_is;
                own_room = same_rooms j (λ e. ne (e ∙ f.number_is)) ∙ g.own_room;
                ended_rooms = λ n h. same_rooms n (λ e. not_mine j u ne here alive (inr (subst (λ z. Contains u.ended z) e h))) ∙ g.ended_rooms n h;
                sole = g.sole;
                first_is = g.first_is;
                not_ended = g.not_ended;
                ended_below = g.ended_below;
                made_counted = g.made_counted;
                learned = g.learned;
              });
          owned = owned_set s.views id v w at kin r.owned;
          apart = apart_set s.views id v w at kin r.apart;
        },
        (λ y e. let same : x ≡ y = ap (carried_or x) e in ap (λ (z : S). (went m v z, [])) same),
      )

  -- the same, of a seat that is known by an equation
  pub passes_as : (slots id : ℕ) (me : Me (Option S) (View S E)) (v : View S E) (x : S) → me ≡ (v, (0, Some x) ∷ []) → v.live ≡ true → v.in_turn ≡ true → Returns m k.value v x
      → Allows (Ruled m k) slots id me 1 (λ n. (n + 1) % 2 ^ 64) (passed_on m no_step me)
  passes_as slots id me v x is live turn back = subst (λ (u : Me (Option S) (View S E)). Allows (Ruled m k) slots id u 1 (λ n. (n + 1) % 2 ^ 64) (passed_on m no_step u)) (sym is) (passes slots id v x live turn back)
