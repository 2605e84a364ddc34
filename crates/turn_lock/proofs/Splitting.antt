-- Making a pass keeps the rule.
use Rattle.std.proofs.Common.{◌≡◌, ◌≢◌, ℕ, ◌+◌, ◌<◌, ◌≤◌, true, false, List, [], ◌∷◌, ◌++◌, length, set, refl, sym, ap, ◌∙◌, subst, inl, inr, ⊎_elim, arith, length-set, length-append, Some}
use Rattle.std.specs.Prelude.{All, Contains, count_by, slice_index}
use Rattle.std.proofs.lemmas.List.{append-nil, append_assoc, get_or_append_left}
use Rattle.std.proofs.lemmas.List.Elements.{All-append}
use Rattle.atomic_table.specs.Table.{Splits}
use Rattle.atomic_table.proofs.Lists.{set_here, at_longer}
use Rattle.std.specs.declared.snapshot.Snapshot.{Snapshot}
use Rattle.turn_lock.specs.declared.view.View.{View}
use Rattle.turn_lock.specs.declared.view.Counts.{Counts}
use Rattle.turn_lock.specs.Meaning.{Meaning}
use Rattle.turn_lock.specs.Views.{Owns, At, ThenOwn, has_ticket, is_live}
use Rattle.turn_lock.specs.Rule.{IsLiveView, Ruled}
use Rattle.turn_lock.specs.Moves.{grown, fresh}
use Rattle.turn_lock.proofs.Tallies.{count_by-set, count_by_push, one_passes, two_pass}
use Rattle.turn_lock.proofs.Lists.{no_value, none_contained, all_of_none, each_set, pairs_set, at_below, each_push}
use Rattle.turn_lock.proofs.Owners.{IsKin, live_set, apart_set, owned_set, apart_push, owned_push}
use Rattle.turn_lock.proofs.Slots.{out_with}

module _ {S E : Type 0} (m : Meaning S E) (k : Snapshot S) where
  pub splits : (id room : ℕ) (seen : List E) (v : View S E) → v.live ≡ true → v.in_turn ≡ true → v.counts.made < 65536 → ThenOwn m v seen → Splits (Ruled m k) id v (grown room seen v) (fresh room seen v)
  splits id room seen v live turn room_left added s r at =
      let o = out_with m k r.history r.rooms (length s.views) (count_by is_live s.views) r.passed s id v at turn r.slot in
      let w = grown room seen v in
      let n = fresh room seen v in
      let own = added.0 in
      let longer : seen ≡ r.history ++ own = added.1 ∙ ap (λ l. l ++ own) o.seen in
      let kin : IsKin v w = record { live = refl; number = refl; ended = refl } in
      let views1 : List (View S E) = set s.views id w in
      let views2 : List (View S E) = views1 ++ n ∷ [] in
      let set_long : length views1 ≡ length s.views = length-set s.views id w in
      let long : length views2 ≡ length s.views + 1 = length-append views1 (n ∷ []) ∙ ap (λ z. z + 1) set_long in
      let made : v.counts.made ≡ length s.views = ap (λ (c : Counts). c.made) o.counts in
      let living : v.counts.live ≡ count_by is_live s.views = ap (λ (c : Counts). c.live) o.counts in
      let some_live : 1 ≤ count_by is_live s.views = one_passes is_live s.views id v at live in
      let count1 = live_set s.views id v w at kin in
      let count : count_by is_live views2 ≡ count_by is_live s.views + 1 = count_by_push is_live views1 n ∙ ap (λ z. z + 1) count1 in
      let tickets1 = count_by-set has_ticket s.views id v w at in
      let tickets2 = count_by_push has_ticket views1 n in
      let r_counted = r.counted in
      let f = r.views id v at live in
      let rooms2 : List ℕ = v.rooms ++ room ∷ [] in
      let v_long : length v.rooms ≡ length s.views = ap length o.rooms_are ∙ r.long in
      let rooms_long : length rooms2 ≡ length s.views + 1 = length-append v.rooms (room ∷ []) ∙ ap (λ z. z + 1) v_long in
      let room_at : (i : ℕ) → i < length s.views → slice_index rooms2 i ≡ slice_index r.rooms i = λ i inside. get_or_append_left v.rooms (room ∷ []) 0 i (omega arith) ∙ ap (λ l. slice_index l i) o.rooms_are in
      let views_now : (i : ℕ) (u : View S E) → IsLiveView m k seen rooms2 (length s.views + 1) (count_by is_live s.views + 1) i u → IsLiveView m k seen rooms2 (length views2) (count_by is_live views2) i u = λ i u. subst (λ (c : ℕ × ℕ). IsLiveView m k seen rooms2 c.0 c.1 i u) (λ j. (sym long j, sym count j)) in
      let below_all : (i : ℕ) (u : View S E) → At s.views i u → u.live ≡ true → (x : ℕ) → Owns u x → x < length s.views = λ i u here alive x own. let g = r.views i u here alive in
      ⊎_elim (λ (e : x ≡ u.number). let b = at_below s.views i u here in let c = g.number_is in omega arith) (λ (h : Contains u.ended x). g.ended_below x h) own in
      let not_mine : (j : ℕ) (u : View S E) → j ≢ id → At s.views j u → u.live ≡ true → ¬ (Owns u v.number) = λ j u ne here alive has. r.apart id j v u at here live alive (λ e. ne (sym e)) v.number (inl refl) has in
      record {
        given = r.given;
        passed = r.passed;
        history = seen;
        rooms = rooms2;
        counted = omega arith;
        words = r.words;
        few = let c : v.counts.made ≡ length s.views = made in omega arith;
        differ = λ i j u u' t a b. each_push (λ i u. u.ticket ≡ Some t → u'.ticket ≡ Some t → i ≡ j) views1 n
            (λ i u a. each_push (λ j u'. u.ticket ≡ Some t → u'.ticket ≡ Some t → i ≡ j) views1 n
            (λ j u' b. pairs_set (λ i u j u'. u.ticket ≡ Some t → u'.ticket ≡ Some t → i ≡ j) s.views id w
            (λ _ _. refl)
            (λ j u ne here e e'. r.differ id j v u t at here e e')
            (λ j u ne here e e'. r.differ j id u v t here at e e')
            (λ i j u u' a b. r.differ i j u u' t a b) i j u u' a b)
            (λ _ e. absurd (no_value n.ticket t refl e)) j u' b)
            (λ e _. absurd (no_value n.ticket t refl e)) i u a;
        tickets = λ i u t here. each_push (λ i u. u.ticket ≡ Some t → (r.passed ≤ t) × (t < r.given)) views1 n
            (each_set (λ i u. u.ticket ≡ Some t → (r.passed ≤ t) × (t < r.given)) s.views id w (λ e. r.tickets id v t at e) (λ j u ne here e. r.tickets j u t here e))
            (λ e. absurd (no_value n.ticket t refl e)) i u here;
        slot = inr (
          id,
          w,
          record {
            away = o.away;
            here = at_longer views1 (n ∷ []) id w (set_here s.views id w (at_below s.views id v at));
            live_is = live;
            in_turn = turn;
            only = each_push (λ j u. j ≢ id → u.in_turn ≡ false) views1 n
                (each_set (λ j u. j ≢ id → u.in_turn ≡ false) s.views id w (λ ne. absurd (ne refl)) (λ j u ne here _. o.only j u here ne))
                (λ _. refl);
            ticket = o.ticket;
            seen = refl;
            counts = λ i. record { made = (ap (λ z. z + 1) made ∙ sym long) i; live = (ap (λ z. z + 1) living ∙ sym count) i };
            rooms_are = refl;
          },
        );
        long = rooms_long ∙ sym long;
        below = subst (All (λ e. m.number e < length views2)) (sym longer)
            (All-append (λ e. m.number e < length views2) r.history own (λ i d inside. let b = r.below i d inside in omega arith)
            (λ i d inside. let its = added.2 i d inside in let b = at_below s.views id v at in let c = f.number_is in omega arith));
        views = each_push (λ i u. u.live ≡ true → IsLiveView m k seen rooms2 (length views2) (count_by is_live views2) i u) views1 n
            (each_set (λ i u. u.live ≡ true → IsLiveView m k seen rooms2 (length views2) (count_by is_live views2) i u) s.views id w
            (λ _. views_now id w record {
              later = [];
              prefix = sym (append-nil seen);
              own_seen = all_of_none (λ (e : E). m.number e ≢ v.number);
              ended_seen = all_of_none (λ (e : E). ¬ (Contains v.ended (m.number e)));
              number_is = f.number_is;
              own_room = refl;
              ended_rooms = λ x h. room_at x (f.ended_below x h) ∙ f.ended_rooms x h;
              sole = λ (e : v.counts.live + 1 ≡ 1). absurd (omega arith);
              first_is = f.first_is;
              not_ended = f.not_ended;
              ended_below = λ x h. let b = f.ended_below x h in omega arith;
              made_counted = let b = f.made_counted in let c : v.counts.made + 1 ≤ length s.views + 1 = omega arith in c;
              learned = tt;
            })
            (λ j u ne here alive. let g = r.views j u here alive in views_now j u record {
              later = g.later ++ own;
              prefix = longer ∙ (ap (λ l. l ++ own) g.prefix ∙ append_assoc u.seen g.later own);
              own_seen = All-append (λ (e : E). m.number e ≢ u.number) g.later own g.own_seen (λ i d inside same. not_mine j u ne here alive (inl (sym (added.2 i d inside) ∙ same)));
              ended_seen = All-append (λ (e : E). ¬ (Contains u.ended (m.number e))) g.later own g.ended_seen (λ i d inside h. not_mine j u ne here alive (inr (subst (λ z. Contains u.ended z) (added.2 i d inside) h)));
              number_is = g.number_is;
              own_room = room_at j (at_below s.views j u here) ∙ g.own_room;
              ended_rooms = λ x h. room_at x (g.ended_below x h) ∙ g.ended_rooms x h;
              sole = λ e. let one = g.sole e in let two = two_pass is_live s.views j id u v here at alive live ne in absurd (omega arith);
              first_is = g.first_is;
              not_ended = g.not_ended;
              ended_below = λ x h. let b = g.ended_below x h in omega arith;
              made_counted = let b = g.made_counted in omega arith;
              learned = g.learned;
            }))
            (λ _. views_now (length views1) n record {
              later = [];
              prefix = sym (append-nil seen);
              own_seen = all_of_none (λ (e : E). m.number e ≢ n.number);
              ended_seen = all_of_none (λ (e : E). ¬ (Contains n.ended (m.number e)));
              number_is = made ∙ sym set_long;
              own_room = refl;
              ended_rooms = λ x h. absurd (none_contained x h);
              sole = λ (e : 0 ≡ 1). absurd (omega arith);
              first_is = f.first_is;
              not_ended = λ h. none_contained (length views1) h;
              ended_below = λ x h. absurd (none_contained x h);
              made_counted = let c : 0 ≤ length s.views + 1 = omega arith in c;
              learned = tt;
            });
        owned = owned_push views1 n refl (made ∙ sym set_long) (owned_set s.views id v w at kin r.owned);
        apart = apart_push views1 n (apart_set s.views id v w at kin r.apart)
            (each_set (λ i u. u.live ≡ true → (x : ℕ) → Owns u x → ¬ (Owns n x)) s.views id w
            (λ _ x own new. let b = below_all id v at live x own in ⊎_elim (λ (e : x ≡ v.counts.made). absurd (omega arith)) (λ (h : Contains [] x). none_contained x h) new)
            (λ j u ne here alive x own new. let b = below_all j u here alive x own in ⊎_elim (λ (e : x ≡ v.counts.made). absurd (omega arith)) (λ (h : Contains [] x). none_contained x h) new));
      }
