-- Looking whether the turn has come, and then taking the slot, keeps the rule.
use Rattle.std.proofs.Common.{◌≡◌, ◌≢◌, ℕ, ◌%◌, ◌^◌, ◌<◌, ◌≤◌, true, false, List, [], ◌∷◌, length, set, refl, sym, ap, ◌∙◌, subst, inl, inr, arith, length-set, Some}
use Rattle.std.specs.Prelude.{All, Contains, count_by, Option, slice_index}
use Rattle.std.proofs.lemmas.List.{append-nil}
use Rattle.std.proofs.lemmas.List.Sums.{count_by-le-length}
use mathlib.Core.Logic.{dite}
use mathlib.Core.Option.{none}
use native.Mathlib.Decide.{ℕ_discrete}
use lib.ListN.{get_elem?}
use lib.Seq.{set-get_or}
use Rattle.atomic_table.specs.Table.{Me, Act, keeps, takes, stepped, Allows, Valid, carried_after}
use Rattle.atomic_table.proofs.Lists.{set_here, set_again, one_turn}
use Rattle.std.specs.declared.snapshot.Snapshot.{Snapshot}
use Rattle.turn_lock.specs.declared.view.View.{View}
use Rattle.turn_lock.specs.Meaning.{Meaning}
use Rattle.turn_lock.specs.Views.{At, has_ticket, is_live, ThenOthers}
use Rattle.turn_lock.specs.Values.{Finds}
use Rattle.turn_lock.specs.Rule.{Table, IsLiveView, IsHome, IsPlaced, Ruled}
use Rattle.turn_lock.specs.Moves.{came, Comes, looked}
use Rattle.turn_lock.proofs.Tallies.{count_by-set, one_passes}
use Rattle.turn_lock.proofs.Lists.{off, value_or, carried_or, one_value, all_of_none, each_set, pairs_set, at_below, one_view}
use Rattle.turn_lock.proofs.Owners.{IsKin, live_set, apart_set, owned_set}
use Rattle.turn_lock.proofs.Slots.{no_step, stands_for_own, then_others}

module _ {S E : Type 0} (m : Meaning S E) (k : Snapshot S) where
  abbrev Two : Type 0
  Two = Me (Option S) (View S E)

  -- what the value at home is to a live view
  pub finds : (s : Table S E) (r : Ruled m k s) (id : ℕ) (v : View S E) → At s.views id v → v.live ≡ true → (x : S) → IsHome m k r.history r.rooms (length s.views) (count_by is_live s.views) s x → Finds m k.value v x
  finds s r id v at live x rest =
      let f = r.views id v at live in
      let history : m.history x ≡ r.history = rest.stands.is in
      record {
        stands = stands_for_own m k k.value x r.history rest.stands;
        history = subst (λ l. ThenOthers m v l) (sym history) (then_others m k r.history r.rooms (length s.views) (count_by is_live s.views) id v f);
        own_room = ap (λ n. slice_index (m.rooms x) n) f.number_is ∙ (ap (λ l. slice_index l id) rest.rooms_are ∙ (f.own_room ∙ ap (λ n. slice_index v.rooms n) (sym f.number_is)));
        ended_rooms = λ n h. ap (λ l. slice_index l n) rest.rooms_are ∙ f.ended_rooms n h;
        sole = λ e. rest.live_is ∙ f.sole e;
        number = let b = at_below s.views id v at in let n = f.number_is in let c = rest.made_is in omega arith;
        ended_below = λ n h. let b = f.ended_below n h in let c = rest.made_is in omega arith;
        below = subst (λ (z : ℕ × List E). All (λ e. m.number e < z.0) z.1) (λ i. (sym rest.made_is i, sym history i)) r.below;
        made_counted = let b = f.made_counted in let c = rest.made_is in omega arith;
        few = subst (λ z. z ≤ 65536) (sym rest.made_is) r.few;
        some_live = subst (λ z. 1 ≤ z) (sym rest.live_is) (one_passes is_live s.views id v at live);
        live_few = subst (λ (z : ℕ × ℕ). z.0 ≤ z.1) (λ i. (sym rest.live_is i, sym rest.made_is i)) (count_by-le-length is_live s.views);
        long = ap length rest.rooms_are ∙ (r.long ∙ sym rest.made_is);
      }

  -- what a pass finds doesn't depend on its ticket
  pub finds_by : (f : S) (v : View S E) (t : Option ℕ) (x : S) → Finds m f (record v { ticket = t }) x → Finds m f v x
  finds_by f v t x h = record {
    stands = h.stands;
    history = h.history;
    own_room = h.own_room;
    ended_rooms = h.ended_rooms;
    sole = h.sole;
    number = h.number;
    ended_below = h.ended_below;
    below = h.below;
    made_counted = h.made_counted;
    few = h.few;
    some_live = h.some_live;
    live_few = h.live_few;
    long = h.long;
  }

  -- after a look in which the turn has come, the value that is taken out of the slot is what the pass finds
  pub finds_in_slot : (v : View S E) (before after : Two) (t : ℕ) (got : Option S) (value : S) (behind : List (ℕ × Option S)) → v.first ≡ Some k → before.0 ≡ record v { ticket = Some t }
      → Comes m before.0 after → after.1 ≡ (0, got) ∷ behind → got ≡ Some value → Finds m k.value v value
  finds_in_slot v before after t got value behind first is come slot taken =
      let found : Finds m k.value before.0 come.0 = come.2 k (ap (λ (u : View S E). u.first) is ∙ first) in
      let same : come.0 ≡ value = ap (carried_or come.0) (sym (ap (λ (me : Two). me.1) come.1) ∙ slot) ∙ ap (value_or come.0) taken in
      subst (λ z. Finds m k.value v z) same (finds_by k.value v (Some t) come.0 (subst (λ (u : View S E). Finds m k.value u come.0) is found))

  -- it is not the caller's turn yet: nothing changes
  waits : (id : ℕ) (me : Two) (s : Table S E) → Ruled m k s → At s.views id me.0 → (then : ℕ → Two → Type 0) → then (slice_index s.words 1) me
      → (w : View S E) × (a : Act (Option S)) × Valid s.homes me.1 a × Ruled m k (stepped s 1 (slice_index s.words 1) id me.1 w a) × then (slice_index s.words 1) (w, carried_after me.1 a)
  waits id me s r at then said = (
    me.0,
    keeps,
    tt,
    subst (λ (x : List ℕ × List (View S E)). Ruled m k record { words = x.0; homes = s.homes; views = x.1 }) (λ i. (sym (set-get_or s.words 1 0) i, sym (set_again s.views id me.0 at) i)) r,
    said,
  )

  -- it is the caller's turn: the slot comes with this step
  comes : (id t : ℕ) (v : View S E) (s : Table S E) (r : Ruled m k s) → At s.views id v → v.live ≡ true → v.ticket ≡ Some t → v.in_turn ≡ false → t ≡ r.passed → (then : ℕ → Two → Type 0)
      → ((me : Two) → Comes m v me → then (slice_index s.words 1) me)
      → IsPlaced m k r.history r.rooms (length s.views) (count_by is_live s.views) r.passed s
      → (w : View S E) × (a : Act (Option S)) × Valid s.homes [] a × Ruled m k (stepped s 1 (slice_index s.words 1) id [] w a) × then (slice_index s.words 1) (w, carried_after [] a)
  comes id t v s r at live ticket aside now then said (inr h) = let o = h.2 in
      let same = r.differ h.0 id h.1 v r.passed o.here at o.ticket (ticket ∙ ap Some now) in
      absurd (off (sym aside ∙ (ap (λ (u : View S E). u.in_turn) (one_view s.views id h.0 v h.1 at o.here (sym same)) ∙ o.in_turn)))
  comes id t v s r at live ticket aside now then said (inl h) =
      let x = h.0 in
      let rest = h.1 in
      let w = came m v x in
      let kin : IsKin v w = record { live = refl; number = refl; ended = refl } in
      let count = live_set s.views id v w at kin in
      let long = length-set s.views id w in
      let counted = count_by-set has_ticket s.views id v w at in
      let r_counted = r.counted in
      let f = r.views id v at live in
      let found = finds s r id v at live x rest in
      let views_now : (i : ℕ) (u : View S E) → IsLiveView m k r.history r.rooms (length s.views) (count_by is_live s.views) i u → IsLiveView m k r.history r.rooms (length (set s.views id w)) (count_by is_live (set s.views id w)) i u = λ i u. subst (λ (c : ℕ × ℕ). IsLiveView m k r.history r.rooms c.0 c.1 i u) (λ j. (sym long j, sym count j)) in (
        w,
        takes 0 (Some x),
        ap (λ hs. get_elem? hs 0) rest.home,
        record {
          given = r.given;
          passed = r.passed;
          history = r.history;
          rooms = r.rooms;
          counted = omega arith;
          words = set-get_or s.words 1 0 ∙ r.words;
          few = subst (λ z. z ≤ 65536) (sym long) r.few;
          differ = λ i j u u' t a b. pairs_set (λ i u j u'. u.ticket ≡ Some t → u'.ticket ≡ Some t → i ≡ j) s.views id w
              (λ _ _. refl)
              (λ j u ne here e e'. r.differ id j v u t at here e e')
              (λ j u ne here e e'. r.differ j id u v t here at e e')
              (λ i j u u' a b. r.differ i j u u' t a b) i j u u' a b;
          tickets = λ i u t here. each_set (λ i u. u.ticket ≡ Some t → (r.passed ≤ t) × (t < r.given)) s.views id w
              (λ e. r.tickets id v t at e)
              (λ j u ne here e. r.tickets j u t here e) i u here;
          slot = inr (
            id,
            w,
            record {
              away = ap (λ hs. set hs 0 none) rest.home;
              here = set_here s.views id w (at_below s.views id v at);
              live_is = live;
              in_turn = refl;
              only = each_set (λ j u. j ≢ id → u.in_turn ≡ false) s.views id w (λ ne. absurd (ne refl)) (λ j u ne here _. rest.nobody j u here);
              ticket = ticket ∙ ap Some now;
              seen = rest.stands.is;
              counts = λ i. record { made = (rest.made_is ∙ sym long) i; live = (rest.live_is ∙ sym count) i };
              rooms_are = rest.rooms_are;
            },
          );
          long = r.long ∙ sym long;
          below = subst (λ z. All (λ e. m.number e < z) r.history) (sym long) r.below;
          views = each_set (λ i u. u.live ≡ true → IsLiveView m k r.history r.rooms (length (set s.views id w)) (count_by is_live (set s.views id w)) i u) s.views id w
              (λ _. views_now id w record {
                later = [];
                prefix = sym (append-nil (m.history x) ∙ rest.stands.is);
                own_seen = all_of_none (λ (e : E). m.number e ≢ v.number);
                ended_seen = all_of_none (λ (e : E). ¬ (Contains v.ended (m.number e)));
                number_is = f.number_is;
                own_room = ap (λ l. slice_index l id) (sym rest.rooms_are);
                ended_rooms = f.ended_rooms;
                sole = λ e. sym rest.live_is ∙ e;
                first_is = f.first_is;
                not_ended = f.not_ended;
                ended_below = f.ended_below;
                made_counted = let c = rest.made_is in let d : m.made x ≤ length s.views = omega arith in d;
                learned = tt;
              })
              (λ j u ne here live. views_now j u (r.views j u here live));
          owned = owned_set s.views id v w at kin r.owned;
          apart = apart_set s.views id v w at kin r.apart;
        },
        said (w, (0, Some x) ∷ []) (
          x,
          refl,
          λ first is. subst (λ (z : Snapshot S). Finds m z.value v x) (one_value v.first k first f.first_is is) found,
        ),
      )

  pub looks : (slots id t : ℕ) (me : Two) → me.0.live ≡ true → me.0.ticket ≡ Some t → me.0.in_turn ≡ false → me.1 ≡ []
      → Allows (Ruled m k) slots id me 1 (λ n. n) (looked m no_step me)
  looks slots id t me live ticket aside empty s r len at lt =
      let v = me.0 in
      let bounds = r.tickets id v t at ticket in
      let found : slice_index s.words 1 ≡ r.passed % 2 ^ 64 = ap (λ ws. slice_index ws 1) r.words in
      let within = count_by-le-length has_ticket s.views in
      let few = r.few in
      let counted = r.counted in
      dite (ℕ_discrete (slice_index s.words 1) (t % 2 ^ 64))
      (λ hit.
      let low = bounds.0 in
      let high = bounds.1 in
      let now : r.passed ≡ t = one_turn r.passed t (2 ^ 64) low (omega arith) (sym found ∙ hit) in
      subst (λ c. (w : View S E) × (a : Act (Option S)) × Valid s.homes c a × Ruled m k (stepped s 1 (slice_index s.words 1) id c w a) × looked m no_step me (slice_index s.words 1) (w, carried_after c a)) (sym empty)
      (comes id t v s r at live ticket aside (sym now) (looked m no_step me)
      (λ me' c u e. ((λ miss. absurd (miss (hit ∙ ap (λ z. z % 2 ^ 64) (one_value v.ticket t u ticket e)))), (λ _. c))) r.slot))
      (λ miss. waits id me s r at (looked m no_step me) (λ u e. ((λ _. refl), (λ hit. absurd (miss (hit ∙ ap (λ z. z % 2 ^ 64) (one_value v.ticket u t e ticket)))))))
