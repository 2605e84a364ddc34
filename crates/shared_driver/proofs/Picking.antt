-- What a pick leaves.
use Rattle.std.proofs.Common.{◌≡◌, ◌<◌, ℕ, false, List, [], ◌∷◌, ◌++◌, refl, sym, ap, subst, ◌∙◌, Option, None, Some}
use Rattle.std.specs.Prelude as std
use Rattle.std.proofs.lemmas.List.{append-nil}
use Rattle.egl_calls.specs.Calls.{CallValue}
use Rattle.egl_calls.specs.Journals.{are_halted}
use Rattle.egl_calls.specs.declared.entries.Entry.{Entry}
use Rattle.model_laws.specs.Frame.{AreOf}
use Rattle.model_laws.specs.Hidden.{hide}
use Rattle.egl_model.specs.History.{IsLegalFrom, replay_from}
use Rattle.driver_core.specs.LateDraws.{IsLeft}
use Rattle.driver_core.specs.Machine.{Machine, outs}
use Rattle.driver_core.specs.declared.drawings.Drawing.{Drawing}
use Rattle.shared_driver.specs.declared.cores.Core.{Core}
use Rattle.shared_driver.specs.declared.picks.Pick.{Pick}
use Rattle.shared_driver.specs.declared.picks.Pick.TheVariants.{Call, Wait, Stop}
use Rattle.shared_driver.specs.declared.picks.Picked.{Picked}
use Rattle.shared_driver.specs.declared.picks.Picked.TheVariants.{Replied, Waited, Stopped}
use Rattle.shared_driver.specs.Cores.{entry, of_number, origin}
use Rattle.shared_driver.specs.Picks.{IsAnswer, IsAtTurn, IsDone, IsSeenAtTurn, halts, picked_entries}
use Rattle.shared_driver.specs.Tokens.{Token}
use Rattle.shared_driver.specs.Turns.{IsTurn}
use Rattle.shared_driver.proofs.Owned.{or_false, own_one}
use Rattle.shared_driver.proofs.Standing.{IsRoomed, has_part, turn_more, turn_same}

-- what a picker sees once the token's own calls are handed in
pub seen_at_turn : (f x : Core) (n : ℕ) (t : Token) → n ≡ t.number → IsTurn f x n [] → IsAtTurn t x.journal.entries → IsSeenAtTurn (origin f) t x.journal.entries x.driver
seen_at_turn f x n t its turn at = record {
  legal = subst (IsLegalFrom (origin f)) (append-nil x.journal.entries) turn.legal;
  at_turn = at;
  driver = turn.driver ∙ ap (λ (l : List Entry). hide (outs x.driver.away) (replay_from (origin f) l)) (append-nil x.journal.entries);
  made = subst (λ k. k < x.driver.made) its (subst (λ k. n < k) turn.known turn.number);
  part_in = subst (λ k. std.slice_index_or x.driver.away k false ≡ false) its (has_part f x n [] turn);
}

-- the turn goes on with the value y, in which the picked call was played, and has left no draw
pub done : (f x y : Core) (n : ℕ) (p : Pick) (r : Picked) → IsTurn f x n [] → IsRoomed x y n → IsDone x n p r None y → IsTurn f y n []
done f x y n (Call mark call) (Replied reply) k r d = turn_more f x y n mark call reply [] k r d.1 d.2 (d.0 ∙ ap (λ l. l ++ entry n mark call reply ∷ []) (sym (append-nil x.journal.entries)))
done f x y n (Call mark call) Waited k r d = absurd d
done f x y n (Call mark call) Stopped k r d = absurd d
done f x y n (Wait what) (Replied reply) k r d = absurd d
done f x y n (Wait what) Waited k r d = turn_same f x y n [] [] k r d.1 (ap (λ l. l ++ []) d.0) refl
done f x y n (Wait what) Stopped k r d = absurd d
done f x y n Stop (Replied reply) k r d = absurd d
done f x y n Stop Waited k r d = absurd d
done f x y n Stop Stopped k r d = turn_same f x y n [] [] k r d.1 (ap (λ l. l ++ []) d.0) refl

left_made : (x y : Machine) (n : ℕ) (c : CallValue) (o : Option Drawing) → IsLeft x n c o y → y.made ≡ x.made
left_made x y n c None l = ap (λ (m : Machine). m.made) l
left_made x y n c (Some d) l = ap (λ (m : Machine). m.made) l.0

pub done_made : (x y : Core) (n : ℕ) (p : Pick) (r : Picked) (o : Option Drawing) → IsDone x n p r o y → y.driver.made ≡ x.driver.made
done_made x y n (Call mark call) (Replied reply) o d = left_made x.driver y.driver n call o d.2
done_made x y n (Call mark call) Waited o d = absurd d
done_made x y n (Call mark call) Stopped o d = absurd d
done_made x y n (Wait what) (Replied reply) o d = absurd d
done_made x y n (Wait what) Waited None d = ap (λ (m : Machine). m.made) d.1
done_made x y n (Wait what) Waited (Some e) d = absurd d
done_made x y n (Wait what) Stopped o d = absurd d
done_made x y n Stop (Replied reply) o d = absurd d
done_made x y n Stop Waited o d = absurd d
done_made x y n Stop Stopped None d = ap (λ (m : Machine). m.made) d.1
done_made x y n Stop Stopped (Some e) d = absurd d

-- the entries of a pick are of its number, and halt as the pick does
pub picked_of : (n : ℕ) (p : Pick) (r : Picked) → AreOf n (picked_entries n p r)
picked_of n (Call mark call) (Replied reply) = (refl, tt)
picked_of n (Call mark call) Waited = tt
picked_of n (Call mark call) Stopped = tt
picked_of n (Wait what) (Replied reply) = tt
picked_of n (Wait what) Waited = tt
picked_of n (Wait what) Stopped = tt
picked_of n Stop (Replied reply) = tt
picked_of n Stop Waited = tt
picked_of n Stop Stopped = tt

pub picked_halts : (x y : Core) (n : ℕ) (p : Pick) (r : Picked) (o : Option Drawing) → IsDone x n p r o y → are_halted (picked_entries n p r) ≡ halts p
picked_halts x y n (Call mark call) (Replied reply) o d = or_false _
picked_halts x y n (Call mark call) Waited o d = absurd d
picked_halts x y n (Call mark call) Stopped o d = absurd d
picked_halts x y n (Wait what) (Replied reply) o d = refl
picked_halts x y n (Wait what) Waited o d = refl
picked_halts x y n (Wait what) Stopped o d = refl
picked_halts x y n Stop (Replied reply) o d = refl
picked_halts x y n Stop Waited o d = refl
picked_halts x y n Stop Stopped o d = refl

-- each answer comes by its pick
pub answers : (z y : Core) (n : ℕ) (p : Pick) (r : Picked) (o : Option Drawing) → IsDone z n p r o y → IsAnswer p r
answers z y n (Call mark call) (Replied reply) o d = tt
answers z y n (Call mark call) Waited o d = absurd d
answers z y n (Call mark call) Stopped o d = absurd d
answers z y n (Wait what) (Replied reply) o d = absurd d
answers z y n (Wait what) Waited None d = tt
answers z y n (Wait what) Waited (Some e) d = absurd d
answers z y n (Wait what) Stopped o d = absurd d
answers z y n Stop (Replied reply) o d = absurd d
answers z y n Stop Waited o d = absurd d
answers z y n Stop Stopped None d = tt
answers z y n Stop Stopped (Some e) d = absurd d

-- and adds its entries
pub adds : (z y : Core) (n : ℕ) (p : Pick) (r : Picked) (o : Option Drawing) → IsDone z n p r o y → y.journal.entries ≡ z.journal.entries ++ picked_entries n p r
adds z y n (Call mark call) (Replied reply) o d = d.0
adds z y n (Call mark call) Waited o d = absurd d
adds z y n (Call mark call) Stopped o d = absurd d
adds z y n (Wait what) (Replied reply) o d = absurd d
adds z y n (Wait what) Waited None d = d.0 ∙ sym (append-nil z.journal.entries)
adds z y n (Wait what) Waited (Some e) d = absurd d
adds z y n (Wait what) Stopped o d = absurd d
adds z y n Stop (Replied reply) o d = absurd d
adds z y n Stop Waited o d = absurd d
adds z y n Stop Stopped None d = d.0 ∙ sym (append-nil z.journal.entries)
adds z y n Stop Stopped (Some e) d = absurd d

-- which are the token's own
pub picked_own : (n : ℕ) (p : Pick) (r : Picked) → of_number n (picked_entries n p r) ≡ picked_entries n p r
picked_own n (Call mark call) (Replied reply) = own_one n mark call reply
picked_own n (Call mark call) Waited = refl
picked_own n (Call mark call) Stopped = refl
picked_own n (Wait what) (Replied reply) = refl
picked_own n (Wait what) Waited = refl
picked_own n (Wait what) Stopped = refl
picked_own n Stop (Replied reply) = refl
picked_own n Stop Waited = refl
picked_own n Stop Stopped = refl
