-- Where the slot is, and what stands for the history.
use Rattle.std.proofs.Common.{◌≡◌, ◌≢◌, ℕ, true, false, List, set, sym, ap, ◌∙◌, subst, inl, inr, ⊎_elim}
use Rattle.std.specs.Prelude.{Option}
use mathlib.Core.Logic.{dite}
use mathlib.Core.Option.{none}
use native.Mathlib.Decide.{ℕ_discrete}
use Rattle.atomic_table.specs.Table.{Step, step}
use Rattle.atomic_table.proofs.Lists.{set_else}
use Rattle.std.specs.declared.snapshot.Snapshot.{Snapshot}
use Rattle.turn_lock.specs.declared.view.View.{View}
use Rattle.turn_lock.specs.Meaning.{Meaning, StandsFor}
use Rattle.turn_lock.specs.Views.{At, AreOthers, ThenOthers}
use Rattle.turn_lock.specs.Rule.{Table, IsLiveView, IsOut, IsPlaced}
use Rattle.turn_lock.proofs.Lists.{off, each_set, one_view}

-- the lemmas on steps ask only what a step tells, whatever step it is
abbrev pub no_step : {S : Type 0} → Step (Option S)
no_step = step 0 0 0 0 none

module _ {S E : Type 0} (m : Meaning S E) (k : Snapshot S) where
  -- a value stands for its own history
  pub stands_for_own : (f x : S) (h : List E) → StandsFor m f x h → StandsFor m f x (m.history x)
  stands_for_own f x h s = subst (λ z. StandsFor m f x z) (sym s.is) s

  -- what was added after a live view saw the history is of others
  pub later_of_others : (history : List E) (rooms : List ℕ) (made live i : ℕ) (v : View S E) (f : IsLiveView m k history rooms made live i v) → AreOthers m v f.later
  later_of_others history rooms made live i v f = λ i d inside own. ⊎_elim (f.own_seen i d inside) (f.ended_seen i d inside) own

  pub then_others : (history : List E) (rooms : List ℕ) (made live i : ℕ) (v : View S E) → IsLiveView m k history rooms made live i v → ThenOthers m v history
  then_others history rooms made live i v f = (f.later, f.prefix, later_of_others history rooms made live i v f)

  -- a view that is not in turn changes to another that is not
  pub slot_aside : (history : List E) (rooms : List ℕ) (made live passed : ℕ) (s : Table S E) (ws : List ℕ) (id : ℕ) (v w : View S E) → At s.views id v → v.in_turn ≡ false → w.in_turn ≡ false
      → IsPlaced m k history rooms made live passed s → IsPlaced m k history rooms made live passed record { words = ws; homes = s.homes; views = set s.views id w }
  slot_aside history rooms made live passed s ws id v w at was is (inl h) = inl (
    h.0,
    record {
      home = h.1.home;
      nobody = each_set (λ j u. u.in_turn ≡ false) s.views id w is (λ j u ne here. h.1.nobody j u here);
      stands = h.1.stands;
      made_is = h.1.made_is;
      live_is = h.1.live_is;
      rooms_are = h.1.rooms_are;
    },
  )
  slot_aside history rooms made live passed s ws id v w at was is (inr h) = let o = h.2 in inr (
    h.0,
    h.1,
    record {
      away = o.away;
      here = set_else s.views id h.0 w (λ e. off (sym was ∙ (ap (λ (u : View S E). u.in_turn) (one_view s.views id h.0 v h.1 at o.here (sym e)) ∙ o.in_turn))) ∙ o.here;
      live_is = o.live_is;
      in_turn = o.in_turn;
      only = each_set (λ j u. j ≢ h.0 → u.in_turn ≡ false) s.views id w (λ _. is) (λ j u ne here. o.only j u here);
      ticket = o.ticket;
      seen = o.seen;
      counts = o.counts;
      rooms_are = o.rooms_are;
    },
  )

  -- the view that is in turn is the one that has the slot
  pub out_with : (history : List E) (rooms : List ℕ) (made live passed : ℕ) (s : Table S E) (id : ℕ) (v : View S E) → At s.views id v → v.in_turn ≡ true
      → IsPlaced m k history rooms made live passed s → IsOut m history rooms made live passed s id v
  out_with history rooms made live passed s id v at turn (inl h) = absurd (off (sym (h.1.nobody id v at) ∙ turn))
  out_with history rooms made live passed s id v at turn (inr h) = let o = h.2 in
      dite (ℕ_discrete id h.0)
      (λ e. subst (λ (z : ℕ × View S E). IsOut m history rooms made live passed s z.0 z.1) (λ i. (sym e i, one_view s.views h.0 id h.1 v o.here at (sym e) i)) o)
      (λ ne. absurd (off (sym (o.only id v at ne) ∙ turn)))
