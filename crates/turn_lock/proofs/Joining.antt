-- Ending a pass in another, and telling what it knew, keep the rule.
use Rattle.std.proofs.Common.{◌≡◌, ◌≢◌, ◌⊎◌, ℕ, ◌+◌, ◌-◌, ◌<◌, ◌≤◌, true, false, List, [], ◌∷◌, ◌++◌, length, set, refl, sym, ap, ◌∙◌, subst, inl, inr, ⊎_elim, arith, length-set, Some, None}
use Rattle.std.specs.Prelude.{All, Contains, count_by, is_some, Option, slice_index}
use Rattle.std.proofs.lemmas.List.{append-nil, append_cancel_right}
use Rattle.std.proofs.lemmas.List.Elements.{Contains-append_cases, Contains-append_left, Contains-append_right}
use mathlib.Core.Logic.{dite}
use native.Mathlib.Decide.{ℕ_discrete}
use lib.Seq.{set-get_or}
use Rattle.atomic_table.specs.Table.{Me, keeps, Allows, Joins}
use Rattle.atomic_table.proofs.Lists.{set_here, set_else, set_again}
use Rattle.std.specs.declared.snapshot.Snapshot.{Snapshot}
use Rattle.turn_lock.specs.declared.view.View.{View}
use Rattle.turn_lock.specs.declared.view.Counts.{Counts}
use Rattle.turn_lock.specs.Meaning.{Meaning}
use Rattle.turn_lock.specs.Views.{AreDisjoint, Owns, At, Includes, Learned, has_ticket, is_live}
use Rattle.turn_lock.specs.Rule.{IsLiveView, Ruled}
use Rattle.turn_lock.specs.Moves.{joined_of, joining, spent, told}
use Rattle.turn_lock.proofs.Tallies.{one_if, count_by-set, two_pass}
use Rattle.turn_lock.proofs.Lists.{off, no_value, all_of_none, contains_either, either_contained, each_set, at_below, one_view}
use Rattle.turn_lock.proofs.Slots.{no_step, out_with, then_others}

module _ {S E : Type 0} (m : Meaning S E) (k : Snapshot S) where
  -- each two views with one ticket stand at one place
  abbrev Differ : ℕ → ℕ → View S E → ℕ → View S E → Type 0
  Differ t i u j u' = u.ticket ≡ Some t → u'.ticket ≡ Some t → i ≡ j

  pub joins : (id other : ℕ) (v w : View S E) → v.live ≡ true → v.in_turn ≡ true → w.live ≡ true → w.ticket ≡ None → w.in_turn ≡ false → slice_index w.rooms w.number ≡ 0
      → Joins (Ruled m k) id v other w (joining v w) spent
  joins id other v w live turn w_live w_free w_aside empty s r at apart there =
      let nobody : View S E = spent in
      let o = out_with m k r.history r.rooms (length s.views) (count_by is_live s.views) r.passed s id v at turn r.slot in
      let b = joining v w in
      let away : id ≢ other = λ e. apart (sym e) in
      let w_at : At s.views other w = sym (set_else s.views id other b apart) ∙ there in
      let views1 : List (View S E) = set s.views id b in
      let views2 : List (View S E) = set views1 other nobody in
      let long1 : length views1 ≡ length s.views = length-set s.views id b in
      let long : length views2 ≡ length s.views = length-set views1 other nobody ∙ long1 in
      let made : v.counts.made ≡ length s.views = ap (λ (c : Counts). c.made) o.counts in
      let living : v.counts.live ≡ count_by is_live s.views = ap (λ (c : Counts). c.live) o.counts in
      let two : 2 ≤ count_by is_live s.views = two_pass is_live s.views id other v w at w_at live w_live away in
      let live_v : one_if (is_live v) ≡ 1 = ap one_if live in
      let live_w : one_if (is_live w) ≡ 1 = ap one_if w_live in
      let count1 : count_by is_live views1 + one_if (is_live v) ≡ count_by is_live s.views + one_if (is_live v) = count_by-set is_live s.views id v b at in
      let count2 : count_by is_live views2 + one_if (is_live w) ≡ count_by is_live views1 + 0 = count_by-set is_live views1 other w nobody there in
      let count : count_by is_live views2 ≡ count_by is_live s.views - 1 = omega arith in
      let no_w : one_if (has_ticket w) ≡ 0 = ap (λ o. one_if (is_some o)) w_free in
      let tickets1 : count_by has_ticket views1 + one_if (has_ticket v) ≡ count_by has_ticket s.views + one_if (has_ticket v) = count_by-set has_ticket s.views id v b at in
      let tickets2 : count_by has_ticket views2 + one_if (has_ticket w) ≡ count_by has_ticket views1 + 0 = count_by-set has_ticket views1 other w nobody there in
      let r_counted = r.counted in
      let f = r.views id v at live in
      let g = r.views other w w_at w_live in
      let others = then_others m k r.history r.rooms (length s.views) (count_by is_live s.views) other w g in
      let views_now : (i : ℕ) (u : View S E) → IsLiveView m k r.history r.rooms (length s.views) (count_by is_live s.views - 1) i u → IsLiveView m k r.history r.rooms (length views2) (count_by is_live views2) i u = λ i u. subst (λ (c : ℕ × ℕ). IsLiveView m k r.history r.rooms c.0 c.1 i u) (λ j. (sym long j, sym count j)) in
      let ended_of : (x : ℕ) → Contains (v.ended ++ w.number ∷ w.ended) x → (Contains v.ended x) ⊎ (Owns w x) = λ x h. ⊎_elim (λ (a : Contains v.ended x). inl a) (λ (a : Contains (w.number ∷ w.ended) x). inr (either_contained x w.number w.ended a)) (Contains-append_cases v.ended (w.number ∷ w.ended) x h) in
      let owned_of : (x : ℕ) → Owns b x → (Owns v x) ⊎ (Owns w x) = λ x own. ⊎_elim (λ (e : x ≡ v.number). inl (inl e)) (λ (h : Contains (v.ended ++ w.number ∷ w.ended) x). ⊎_elim (λ (a : Contains v.ended x). inl (inr a)) (λ (a : Owns w x). inr a) (ended_of x h)) own in
      let both_keeps : (x : ℕ) → Owns v x → Owns b x = λ x own. ⊎_elim (λ (e : x ≡ v.number). inl e) (λ (h : Contains v.ended x). inr (Contains-append_left v.ended (w.number ∷ w.ended) x h)) own in
      let both_adds : (x : ℕ) → Owns w x → Owns b x = λ x own. inr (Contains-append_right v.ended (w.number ∷ w.ended) x (contains_either x w.number w.ended own)) in
      let everywhere : (P : ℕ → View S E → Type 0) → P id b → P other nobody → ((j : ℕ) (u : View S E) → j ≢ id → j ≢ other → At s.views j u → P j u) → (j : ℕ) (u : View S E) → At views2 j u → P j u = λ P mine theirs others.
      each_set P views1 other nobody theirs (λ j u ne here. each_set (λ j u. j ≢ other → P j u) s.views id b (λ _. mine) (λ j u ne' here' ne. others j u ne' ne here') j u here ne) in
      let b_at : At views2 id b = set_else views1 other id nobody away ∙ set_here s.views id b (at_below s.views id v at) in
      record {
        given = r.given;
        passed = r.passed;
        history = r.history;
        rooms = r.rooms;
        counted = omega arith;
        words = r.words;
        few = subst (λ z. z ≤ 65536) (sym long) r.few;
        differ = λ i j u u' t a c. everywhere (λ i u. Differ t i u j u')
            (everywhere (λ j u'. Differ t id b j u') (λ _ _. refl) (λ _ e. absurd (no_value nobody.ticket t refl e)) (λ j u _ _ here e e'. r.differ id j v u t at here e e') j u' c)
            (λ e. absurd (no_value nobody.ticket t refl e))
            (λ i u _ _ here. everywhere (λ j u'. Differ t i u j u') (λ e e'. r.differ i id u v t here at e e') (λ _ e. absurd (no_value nobody.ticket t refl e)) (λ j u' _ _ here' e e'. r.differ i j u u' t here here' e e') j u' c)
            i u a;
        tickets = λ i u t here. everywhere (λ i u. u.ticket ≡ Some t → (r.passed ≤ t) × (t < r.given))
            (λ e. r.tickets id v t at e)
            (λ e. absurd (no_value nobody.ticket t refl e))
            (λ j u _ _ here e. r.tickets j u t here e) i u here;
        slot = inr (
          id,
          b,
          record {
            away = o.away;
            here = b_at;
            live_is = live;
            in_turn = turn;
            only = everywhere (λ j u. j ≢ id → u.in_turn ≡ false) (λ ne. absurd (ne refl)) (λ _. refl) (λ j u ne _ here _. o.only j u here ne);
            ticket = o.ticket;
            seen = o.seen;
            counts = λ i. record { made = (made ∙ sym long) i; live = (ap (λ z. z - 1) living ∙ sym count) i };
            rooms_are = o.rooms_are;
          },
        );
        long = r.long ∙ sym long;
        below = subst (λ z. All (λ e. m.number e < z) r.history) (sym long) r.below;
        views = everywhere (λ i u. u.live ≡ true → IsLiveView m k r.history r.rooms (length views2) (count_by is_live views2) i u)
            (λ _. views_now id b record {
              later = [];
              prefix = sym (append-nil v.seen ∙ o.seen);
              own_seen = all_of_none (λ (e : E). m.number e ≢ b.number);
              ended_seen = all_of_none (λ (e : E). ¬ (Contains b.ended (m.number e)));
              number_is = f.number_is;
              own_room = f.own_room;
              ended_rooms = λ x h. ⊎_elim (λ (a : Contains v.ended x). f.ended_rooms x a)
                  (λ (a : Owns w x). ⊎_elim (λ (e : x ≡ w.number). ap (λ z. slice_index r.rooms z) (e ∙ g.number_is) ∙ (g.own_room ∙ (ap (λ z. slice_index w.rooms z) (sym g.number_is) ∙ empty))) (λ (c : Contains w.ended x). g.ended_rooms x c) a) (ended_of x h);
              sole = λ (e : v.counts.live - 1 ≡ 1). omega arith;
              first_is = f.first_is;
              not_ended = λ h. ⊎_elim (λ (a : Contains v.ended id). f.not_ended a) (λ (a : Owns w id). r.apart id other v w at w_at live w_live away id (inl (sym f.number_is)) a) (ended_of id h);
              ended_below = λ x h. ⊎_elim (λ (a : Contains v.ended x). f.ended_below x a)
                  (λ (a : Owns w x). ⊎_elim (λ (e : x ≡ w.number). let c = at_below s.views other w w_at in let d = g.number_is in omega arith) (λ (c : Contains w.ended x). g.ended_below x c) a) (ended_of x h);
              made_counted = f.made_counted;
              learned = ((others.0, o.seen ∙ others.1, others.2), (v.ended, refl, λ n own. r.apart id other v w at w_at live w_live away n own));
            })
            (λ e. absurd (off e))
            (λ j u ne ne' here alive. let h = r.views j u here alive in views_now j u record {
              later = h.later;
              prefix = h.prefix;
              own_seen = h.own_seen;
              ended_seen = h.ended_seen;
              number_is = h.number_is;
              own_room = h.own_room;
              ended_rooms = h.ended_rooms;
              sole = λ e. let one = h.sole e in absurd (omega arith);
              first_is = h.first_is;
              not_ended = h.not_ended;
              ended_below = h.ended_below;
              made_counted = h.made_counted;
              learned = h.learned;
            });
        owned = λ n below. let h = r.owned n (subst (λ z. n < z) long below) in
            dite (ℕ_discrete h.0 id)
            (λ e. (id, b, b_at, live, both_keeps n (subst (λ (u : View S E). Owns u n) (one_view s.views h.0 id h.1 v h.2 at e) h.4)))
            (λ ne. dite (ℕ_discrete h.0 other)
            (λ e. (id, b, b_at, live, both_adds n (subst (λ (u : View S E). Owns u n) (one_view s.views h.0 other h.1 w h.2 w_at e) h.4)))
            (λ ne'. (h.0, h.1, set_else views1 other h.0 nobody ne' ∙ (set_else s.views id h.0 b ne ∙ h.2), h.3, h.4)));
        apart = λ i j u u' a c. everywhere (λ i u. u.live ≡ true → u'.live ≡ true → i ≢ j → (n : ℕ) → Owns u n → ¬ (Owns u' n))
            (everywhere (λ j u'. b.live ≡ true → u'.live ≡ true → id ≢ j → (n : ℕ) → Owns b n → ¬ (Owns u' n))
            (λ _ _ ne. absurd (ne refl))
            (λ _ e. absurd (off e))
            (λ j u ne ne' here _ alive _ n own own'. ⊎_elim
            (λ (x : Owns v n). r.apart id j v u at here live alive (λ e. ne (sym e)) n x own')
            (λ (x : Owns w n). r.apart other j w u w_at here w_live alive (λ e. ne' (sym e)) n x own') (owned_of n own))
            j u' c)
            (λ e. absurd (off e))
            (λ i u ne ne' here alive. everywhere (λ j u'. u'.live ≡ true → i ≢ j → (n : ℕ) → Owns u n → ¬ (Owns u' n))
            (λ _ _ n own own'. ⊎_elim
            (λ (x : Owns v n). r.apart id i v u at here live alive (λ e. ne (sym e)) n x own)
            (λ (x : Owns w n). r.apart other i w u w_at here w_live alive (λ e. ne' (sym e)) n x own) (owned_of n own'))
            (λ e. absurd (off e))
            (λ j u'' _ _ here' alive' differ n own own'. r.apart i j u u'' here here' alive alive' differ n own own')
            j u' c)
            i u a;
      }

  pub tells : (slots id : ℕ) (me : Me (Option S) (View S E)) → me.0.live ≡ true → Allows (Ruled m k) slots id me 0 (λ n. n) (told m no_step me)
  tells slots id me live s r len at lt = (
    me.0,
    keeps,
    tt,
    subst (λ (x : List ℕ × List (View S E)). Ruled m k record { words = x.0; homes = s.homes; views = x.1 }) (λ i. (sym (set-get_or s.words 0 0) i, sym (set_again s.views id me.0 at) i)) r,
    (refl, (r.views id me.0 at live).learned),
  )

  -- what a pass is told that took another in: it has seen all that the other had, and had owned none of its numbers
  pub told_joined : (v w u : View S E) → u ≡ joining v w → Learned m u.number u.ended u.seen u.joined → Includes m v.seen (joined_of w) × AreDisjoint v w
  told_joined v w u is h =
      let k = subst (λ (x : View S E). Learned m x.number x.ended x.seen x.joined) is h in
      let before = k.1.0 in
      let same : v.ended ≡ before = append_cancel_right v.ended before (w.number ∷ w.ended) k.1.1 in
      (k.0, λ n own. k.1.2 n (⊎_elim (λ (e : n ≡ v.number). inl e) (λ (h : Contains v.ended n). inr (subst (λ l. Contains l n) same h)) own))
