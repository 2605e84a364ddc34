use Rattle.std.proofs.Common.{◌≡◌, ◌≤◌, ◌<◌, ◌+◌, ◌-◌, ◌∙◌, ◌∷◌, ◌++◌, [], ℕ, Bool, true, false, List, Some, arith, refl, ap, sym, subst, length}
use Rattle.std.specs.Prelude.{slice_index}
use Rattle.std.specs.Prelude as std
use Rattle.std.specs.VecDeque.{deque_capacity}
use Rattle.std.proofs.lemmas.List.{append-nil, length-set}
use Rattle.egl_calls.specs.declared.entries.Entry.{Entry}
use Rattle.model_laws.specs.Hidden.{hide}
use Rattle.egl_model.specs.History.{replay_from}
use Rattle.egl_model.specs.Parts.{Private}
use Rattle.turn_lock.specs.Passes.{first_of, view_of}
use Rattle.turn_lock.specs.declared.view.View.{View}
use Rattle.shared_driver.specs.declared.cores.Core.{Core}
use Rattle.shared_driver.specs.declared.cores.TokenCount.{TokenCount}
use Rattle.shared_driver.specs.Cores.{away_by, origin, place_for, room_for}
use Rattle.shared_driver.specs.Tokens.{Goes}
use Rattle.shared_driver.specs.Turns.{IsTurn}
use Rattle.shared_driver.proofs.Attaching.{below_limit, counted_before, full_now, new_token, not_halted, outs_new, owned_before, room_given, room_gives, rooms_long, rooms_other, rooms_own, turn_admits}
use Rattle.shared_driver.proofs.Histories.{of_thread, ready_at, ready_replay}
use Rattle.shared_driver.proofs.Owned.{halted_same, own_each}
use Rattle.shared_driver.proofs.Rooms.{length_away}
use Rattle.shared_driver.proofs.Standing.{may_admit, within_more}
use Rattle.shared_driver.proofs.Turning.{after, hands_mine, keeps_ends, keeps_learns, keeps_mine, kept_rooms, lent_begun, many_kept, many_now, room_found, room_kept, room_now, tok}
use Rattle.shared_driver.proofs.tokens.Shared.attach.Goals as goal

pub admit-requires-clause-limit : goal.admit-requires-clause-limit
admit-requires-clause-limit g c =
    let f = (first_of c.args.self.now.turns).value in
    let z = c.core_of-core.result.now in
    let b = lent_begun f c.args.from.now.hold c.begin_turn-held.new.hold c.begin_turn-held.result.value z c.core_of-core.ensures.value c.begin_turn-held.ensures.begun in
    may_admit f.tokens.most z b.within

pub admit-requires-clause-known : goal.admit-requires-clause-known
admit-requires-clause-known g c =
    let f = (first_of c.args.self.now.turns).value in
    let z = c.core_of-core.result.now in
    let b = lent_begun f c.args.from.now.hold c.begin_turn-held.new.hold c.begin_turn-held.result.value z c.core_of-core.ensures.value c.begin_turn-held.ensures.begun in
    let n = c.begin_turn-held.new.hold.number in
    (b.turn.known, ap (λ (l : List Bool). length l) b.turn.away ∙ length-set (away_by z.rooms.items) n false ∙ length_away z.rooms.items ∙ b.turn.known)

pub split_after-pass-requires-clause-added : goal.split_after-pass-requires-clause-added
split_after-pass-requires-clause-added g c =
    let t = c.args.from.now in
    let h = t.hold in
    let f = (first_of c.args.self.now.turns).value in
    let u = c.begin_turn-held.new.hold in
    let n = u.number in
    let z = c.core_of-core.result.now in
    let b = lent_begun f h u c.begin_turn-held.result.value z c.core_of-core.ensures.value c.begin_turn-held.ensures.begun in
    let room = (slice_index z.rooms.items n - length u.tail.items) + (256 - t.places) in
    let found = room_found f h u z (room_for t.halt_used) t.places (place_for t.end_kept) b t.room in
    let y = c.admit.new.self in (
      u.tail.items,
      c.in-Ok.ensures.added.0 ∙ ap (λ l. l ++ u.tail.items) (sym (ap (λ (v : View Core Entry). v.seen) b.view)),
      subst (λ k. (i : ℕ) (d : Entry) → i < length u.tail.items → (std.slice_index_or u.tail.items i d).thread ≡ k) b.numbered (own_each n u.tail.items (of_thread _ n u.tail.items b.turn.local)),
    )

pub end_turn-requires-clause-ends : goal.end_turn-requires-clause-ends
end_turn-requires-clause-ends g c =
    let t = c.args.from.now in
    let h = t.hold in
    let f = (first_of c.args.self.now.turns).value in
    let u = c.begin_turn-held.new.hold in
    let n = u.number in
    let z = c.core_of-core.result.now in
    let b = lent_begun f h u c.begin_turn-held.result.value z c.core_of-core.ensures.value c.begin_turn-held.ensures.begun in
    let room = (slice_index z.rooms.items n - length u.tail.items) + (256 - t.places) in
    let found = room_found f h u z (room_for t.halt_used) t.places (place_for t.end_kept) b t.room in
    let y = c.admit.new.self in
    let p = c.in-Ok.ensures in
    let es = z.journal.entries ++ u.tail.items in
    let s = replay_from (origin f) es in
    let few : z.driver.made < 65536 = subst (λ m. m < 65536) p.number.0 p.number.1 in
    let out = p.part s (ready_replay (origin f) z.driver.made es (ready_at f.driver.state.windows f.driver.state.video z.driver.made b.sides few)) (b.turn.driver ∙ ap (λ l. hide l s) (sym (outs_new z.driver.away))) in
    let turn : IsTurn f y n [] = turn_admits f z y n room u.tail.items b.turn p.added.0 out.1 p.driver p.rooms.1 p.owed p.spare in
    let grew = c.split_after-pass.ensures.view in
    let number = ap (λ (v : View Core Entry). v.number) grew in
    let rooms = ap (λ (v : View Core Entry). v.rooms) grew ∙ ap (λ (v : View Core Entry). v.rooms ++ 258 ∷ []) b.view in
    record {
      turn = subst (IsTurn f y n) (sym p.added.1) turn;
      numbered = b.numbered ∙ sym number;
      few = b.few;
      sides = b.sides;
      more = [];
      entries = sym (ap (λ (v : View Core Entry). v.seen) grew) ∙ sym (append-nil _);
      own = λ i d l. absurd (omega arith);
      made = p.driver.0 ∙ sym (ap (λ (v : View Core Entry). v.counts.made) grew ∙ ap (λ (v : View Core Entry). v.counts.made + 1) b.view);
      live = ap (λ (q : TokenCount). q.live) p.rooms.0 ∙ sym (ap (λ (v : View Core Entry). v.counts.live) grew ∙ ap (λ (v : View Core Entry). v.counts.live + 1) b.view);
      within = within_more f.tokens.most z y (ap (λ (q : TokenCount). q.most) p.rooms.0) p.driver.0 (subst (λ m. m < z.tokens.most) p.number.0 p.below) b.within;
      long = rooms_long z y n room p.rooms.1 ∙ ap length (sym rooms);
      other_rooms = λ m ne. rooms_other z y n room m p.rooms.1 (λ k. ne (k ∙ b.numbered ∙ sym number)) ∙ ap (λ l. slice_index l m) (sym rooms);
      room = subst (λ (q : List Entry × ℕ). length q.0 < q.1) (λ j. (sym p.added.1 j, sym (rooms_own z y n room b.turn.number p.rooms.1) j)) (room_given (length u.tail.items) _ (256 - t.places) b.room);
    }

pub end_turn-requires-in-Err-clause-ends : goal.end_turn-requires-in-Err-clause-ends
end_turn-requires-in-Err-clause-ends g c =
    let t = c.args.from.now in
    let h = t.hold in
    let f = (first_of c.args.self.now.turns).value in
    let u = c.begin_turn-held.new.hold in
    let n = u.number in
    let z = c.core_of-core.result.now in
    let b = lent_begun f h u c.begin_turn-held.result.value z c.core_of-core.ensures.value c.begin_turn-held.ensures.begun in
    let room = (slice_index z.rooms.items n - length u.tail.items) + (256 - t.places) in
    let found = room_found f h u z (room_for t.halt_used) t.places (place_for t.end_kept) b t.room in
    let y = c.admit.new.self in
    let p = c.in-Err.ensures in
    keeps_ends f h u _ z y b refl refl p.err.4 p.err.0 p.err.3 p.err.2 p.owed p.spare p.err.1

pub invariant_of-from : goal.invariant_of-from
invariant_of-from g c =
    let t = c.args.from.now in
    let h = t.hold in
    let f = (first_of c.args.self.now.turns).value in
    let u = c.begin_turn-held.new.hold in
    let n = u.number in
    let z = c.core_of-core.result.now in
    let b = lent_begun f h u c.begin_turn-held.result.value z c.core_of-core.ensures.value c.begin_turn-held.ensures.begun in
    let room = (slice_index z.rooms.items n - length u.tail.items) + (256 - t.places) in
    let found = room_found f h u z (room_for t.halt_used) t.places (place_for t.end_kept) b t.room in
    let y = c.admit.new.self in
    let w = c.end_turn.new.hold in
    let k = c.end_turn.ensures.holds in
    let p = c.in-Ok.ensures in
    let left = c.end_turn.ensures.view in
    let grew = c.split_after-pass.ensures.view in
    let number : (view_of w.pass).number ≡ (view_of h.pass).number = ap (λ (v : View Core Entry). v.number) left ∙ ap (λ (v : View Core Entry). v.number) grew ∙ ap (λ (v : View Core Entry). v.number) b.view in
    let empty : w.tail.items ≡ [] = ap (λ s. s.items) c.end_turn.ensures.kept.1 ∙ p.added.1 in
    let goes : Goes (tok h) [] (tok w) = (b.between, b.others, ap (λ (v : View Core Entry). v.seen) left ∙ p.added.0 ∙ (λ j. b.entries j ++ (b.same_tail j).items) ∙ sym (append-nil _), empty) in
    let its : slice_index (view_of w.pass).rooms (view_of w.pass).number ≡ room =
    (λ j. slice_index (ap (λ (v : View Core Entry). v.rooms) left j) ((ap (λ (v : View Core Entry). v.number) left ∙ ap (λ (v : View Core Entry). v.number) grew ∙ sym b.numbered) j)) ∙ rooms_own z y n room b.turn.number p.rooms.1 in
    record {
      free = k.free;
      numbered = k.numbered;
      few = k.few;
      sides = k.sides;
      legal = k.legal;
      local = k.local;
      part = k.part;
      room = room_now (room_for t.halt_used) 256 (place_for t.end_kept) w room empty its (room_gives (room_for t.halt_used) t.places (length u.tail.items) _ (place_for t.end_kept) found (omega (arith, t.many)));
      used = t.used;
      many = many_now 256 w empty (omega arith);
      spare = subst (λ m. 256 ≤ m) (sym (ap (λ q. deque_capacity q) c.end_turn.ensures.kept.1 ∙ p.capacity ∙ ap (λ q. deque_capacity q) b.same_tail)) t.spare;
      halts = halted_same (view_of h.pass).number (view_of w.pass).number ((view_of h.pass).seen ++ h.tail.items) ((view_of w.pass).seen ++ w.tail.items) t.halted number t.halts (hands_mine h w number goes);
      counted = λ e. absurd (let s : false ≡ true = e in cc);
    }

pub invariant_of-result : goal.invariant_of-result
invariant_of-result g c =
    let t = c.args.from.now in
    let h = t.hold in
    let f = (first_of c.args.self.now.turns).value in
    let u = c.begin_turn-held.new.hold in
    let n = u.number in
    let z = c.core_of-core.result.now in
    let b = lent_begun f h u c.begin_turn-held.result.value z c.core_of-core.ensures.value c.begin_turn-held.ensures.begun in
    let room = (slice_index z.rooms.items n - length u.tail.items) + (256 - t.places) in
    let found = room_found f h u z (room_for t.halt_used) t.places (place_for t.end_kept) b t.room in
    let y = c.admit.new.self in
    let p = c.in-Ok.ensures in
    let es = z.journal.entries ++ u.tail.items in
    let s = replay_from (origin f) es in
    let few : z.driver.made < 65536 = subst (λ m. m < 65536) p.number.0 p.number.1 in
    let out = p.part s (ready_replay (origin f) z.driver.made es (ready_at f.driver.state.windows f.driver.state.video z.driver.made b.sides few)) (b.turn.driver ∙ ap (λ l. hide l s) (sym (outs_new z.driver.away))) in
    let turn : IsTurn f y n [] = turn_admits f z y n room u.tail.items b.turn p.added.0 out.1 p.driver p.rooms.1 p.owed p.spare in
    let k = new_token (first_of c.args.self.now.turns) h u z y (view_of c.split_after-pass.result) c.in-Ok.field-0.number c.in-Ok.field-0.part c.in-Ok.field-0.tail.items b c.requires.owns.0.1 turn p.added.0 c.split_after-pass.ensures.new p.number.0 out.0 p.its_tail.0 in
    record {
      free = c.split_after-pass.ensures.turn.1;
      numbered = k.numbered;
      few = p.number.1;
      sides = k.sides;
      legal = k.legal;
      local = k.local;
      part = ap (λ (q : Private). Some q) k.part;
      room = k.room;
      used = λ e. absurd (let q : false ≡ true = e in cc);
      many = k.many;
      spare = p.its_tail.1;
      halts = not_halted (view_of c.split_after-pass.result).number ((view_of c.split_after-pass.result).seen ++ c.in-Ok.field-0.tail.items) k.mine;
      counted = λ e. absurd (let q : false ≡ true = e in cc);
    }

pub invariant_of-from-in-Err : goal.invariant_of-from-in-Err
invariant_of-from-in-Err g c =
    let t = c.args.from.now in
    let h = t.hold in
    let f = (first_of c.args.self.now.turns).value in
    let u = c.begin_turn-held.new.hold in
    let n = u.number in
    let z = c.core_of-core.result.now in
    let b = lent_begun f h u c.begin_turn-held.result.value z c.core_of-core.ensures.value c.begin_turn-held.ensures.begun in
    let room = (slice_index z.rooms.items n - length u.tail.items) + (256 - t.places) in
    let found = room_found f h u z (room_for t.halt_used) t.places (place_for t.end_kept) b t.room in
    let y = c.admit.new.self in
    let w = c.end_turn-in-Err.new.hold in
    let k = c.end_turn-in-Err.ensures.holds in
    let p = c.in-Err.ensures in
    let a = after f h u u w z y _ b refl c.end_turn-in-Err.ensures.view (kept_rooms f h u z y b p.err.2) in
    let left : w.tail.items ≡ u.tail.items = ap (λ s. s.items) c.end_turn-in-Err.ensures.kept.1 ∙ p.err.4 in
    let learns = keeps_learns f h u w z y _ b a left p.err.3 in
    record {
      free = k.free;
      numbered = k.numbered;
      few = k.few;
      sides = k.sides;
      legal = k.legal;
      local = k.local;
      part = k.part;
      room = room_kept (room_for t.halt_used) t.places (place_for t.end_kept) u w _ left a.room_is found;
      used = t.used;
      many = many_kept t.places h w (left ∙ ap (λ s. s.items) b.same_tail) t.many;
      spare = subst (λ m. 256 ≤ m) (sym (ap (λ q. deque_capacity q) c.end_turn-in-Err.ensures.kept.1 ∙ p.capacity ∙ ap (λ q. deque_capacity q) b.same_tail)) t.spare;
      halts = halted_same (view_of h.pass).number (view_of w.pass).number ((view_of h.pass).seen ++ h.tail.items) ((view_of w.pass).seen ++ w.tail.items) t.halted a.number t.halts (keeps_mine h w a.number learns);
      counted = λ e. absurd (let s : false ≡ true = e in cc);
    }

pub returns-in-Ok-clause-mine : goal.returns-in-Ok-clause-mine
returns-in-Ok-clause-mine g c =
    let t = c.args.from.now in
    let h = t.hold in
    let f = (first_of c.args.self.now.turns).value in
    let u = c.begin_turn-held.new.hold in
    let n = u.number in
    let z = c.core_of-core.result.now in
    let b = lent_begun f h u c.begin_turn-held.result.value z c.core_of-core.ensures.value c.begin_turn-held.ensures.begun in
    let room = (slice_index z.rooms.items n - length u.tail.items) + (256 - t.places) in
    let found = room_found f h u z (room_for t.halt_used) t.places (place_for t.end_kept) b t.room in
    let y = c.admit.new.self in
    let w = c.end_turn.new.hold in
    let k = c.end_turn.ensures.holds in
    let p = c.in-Ok.ensures in
    let left = c.end_turn.ensures.view in
    let grew = c.split_after-pass.ensures.view in
    let number : (view_of w.pass).number ≡ (view_of h.pass).number = ap (λ (v : View Core Entry). v.number) left ∙ ap (λ (v : View Core Entry). v.number) grew ∙ ap (λ (v : View Core Entry). v.number) b.view in
    let empty : w.tail.items ≡ [] = ap (λ s. s.items) c.end_turn.ensures.kept.1 ∙ p.added.1 in
    let goes : Goes (tok h) [] (tok w) = (b.between, b.others, ap (λ (v : View Core Entry). v.seen) left ∙ p.added.0 ∙ (λ j. b.entries j ++ (b.same_tail j).items) ∙ sym (append-nil _), empty) in
    hands_mine h w number goes

pub returns-in-Ok-clause-new_mine : goal.returns-in-Ok-clause-new_mine
returns-in-Ok-clause-new_mine g c =
    let t = c.args.from.now in
    let h = t.hold in
    let f = (first_of c.args.self.now.turns).value in
    let u = c.begin_turn-held.new.hold in
    let n = u.number in
    let z = c.core_of-core.result.now in
    let b = lent_begun f h u c.begin_turn-held.result.value z c.core_of-core.ensures.value c.begin_turn-held.ensures.begun in
    let room = (slice_index z.rooms.items n - length u.tail.items) + (256 - t.places) in
    let found = room_found f h u z (room_for t.halt_used) t.places (place_for t.end_kept) b t.room in
    let y = c.admit.new.self in
    let p = c.in-Ok.ensures in
    let es = z.journal.entries ++ u.tail.items in
    let s = replay_from (origin f) es in
    let few : z.driver.made < 65536 = subst (λ m. m < 65536) p.number.0 p.number.1 in
    let out = p.part s (ready_replay (origin f) z.driver.made es (ready_at f.driver.state.windows f.driver.state.video z.driver.made b.sides few)) (b.turn.driver ∙ ap (λ l. hide l s) (sym (outs_new z.driver.away))) in
    let turn : IsTurn f y n [] = turn_admits f z y n room u.tail.items b.turn p.added.0 out.1 p.driver p.rooms.1 p.owed p.spare in
    (new_token (first_of c.args.self.now.turns) h u z y (view_of c.split_after-pass.result) c.in-Ok.field-0.number c.in-Ok.field-0.part c.in-Ok.field-0.tail.items b c.requires.owns.0.1 turn p.added.0 c.split_after-pass.ensures.new p.number.0 out.0 p.its_tail.0).mine

pub returns-in-Err-clause-mine : goal.returns-in-Err-clause-mine
returns-in-Err-clause-mine g c =
    let t = c.args.from.now in
    let h = t.hold in
    let f = (first_of c.args.self.now.turns).value in
    let u = c.begin_turn-held.new.hold in
    let n = u.number in
    let z = c.core_of-core.result.now in
    let b = lent_begun f h u c.begin_turn-held.result.value z c.core_of-core.ensures.value c.begin_turn-held.ensures.begun in
    let room = (slice_index z.rooms.items n - length u.tail.items) + (256 - t.places) in
    let found = room_found f h u z (room_for t.halt_used) t.places (place_for t.end_kept) b t.room in
    let y = c.admit.new.self in
    let w = c.end_turn-in-Err.new.hold in
    let k = c.end_turn-in-Err.ensures.holds in
    let p = c.in-Err.ensures in
    let a = after f h u u w z y _ b refl c.end_turn-in-Err.ensures.view (kept_rooms f h u z y b p.err.2) in
    let left : w.tail.items ≡ u.tail.items = ap (λ s. s.items) c.end_turn-in-Err.ensures.kept.1 ∙ p.err.4 in
    let learns = keeps_learns f h u w z y _ b a left p.err.3 in
    keeps_mine h w a.number learns

pub returns-in-Ok-clause-new_number : goal.returns-in-Ok-clause-new_number
returns-in-Ok-clause-new_number g c =
    let h = c.args.from.now.hold in
    let f = (first_of c.args.self.now.turns).value in
    let u = c.begin_turn-held.new.hold in
    let z = c.core_of-core.result.now in
    let b = lent_begun f h u c.begin_turn-held.result.value z c.core_of-core.ensures.value c.begin_turn-held.ensures.begun in
    let y = c.admit.new.self in
    let left = c.end_turn.ensures.view in
    let grew = c.split_after-pass.ensures.view in
    let v = view_of c.split_after-pass.result in
    let w = view_of c.end_turn.new.hold.pass in
    let new = c.split_after-pass.ensures.new in
    let number = ap (λ (q : View Core Entry). q.number) left ∙ ap (λ (q : View Core Entry). q.number) grew ∙ ap (λ (q : View Core Entry). q.number) b.view in
    let ended = ap (λ (q : View Core Entry). q.ended) left ∙ ap (λ (q : View Core Entry). q.ended) grew ∙ ap (λ (q : View Core Entry). q.ended) b.view in
    (counted_before f h u z v y.journal.entries b new, owned_before f h u z v w y.journal.entries b new number ended)

pub returns-in-Ok-clause-below : goal.returns-in-Ok-clause-below
returns-in-Ok-clause-below g c =
    let f = (first_of c.args.self.now.turns).value in
    let h = c.args.from.now.hold in
    let u = c.begin_turn-held.new.hold in
    let z = c.core_of-core.result.now in
    let b = lent_begun f h u c.begin_turn-held.result.value z c.core_of-core.ensures.value c.begin_turn-held.ensures.begun in
    let p = c.in-Ok.ensures in
    below_limit f h u z (view_of c.split_after-pass.result) c.admit.new.self.journal.entries c.in-Ok.field-0.number b c.split_after-pass.ensures.new p.number.0 p.below

pub returns-in-Err-clause-full : goal.returns-in-Err-clause-full
returns-in-Err-clause-full g c =
    let f = (first_of c.args.self.now.turns).value in
    let h = c.args.from.now.hold in
    let u = c.begin_turn-held.new.hold in
    let z = c.core_of-core.result.now in
    let b = lent_begun f h u c.begin_turn-held.result.value z c.core_of-core.ensures.value c.begin_turn-held.ensures.begun in
    full_now f h u c.end_turn-in-Err.new.hold z c.admit.new.self c.in-Err.error b c.end_turn-in-Err.ensures.view c.in-Err.ensures.full
