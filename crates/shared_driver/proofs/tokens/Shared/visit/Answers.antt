use Rattle.std.proofs.Common.{◌∙◌, ◌++◌, ap}
use Rattle.egl_calls.specs.declared.entries.Entry.{Entry}
use Rattle.turn_lock.specs.Passes.{first_of, view_of}
use Rattle.turn_lock.specs.declared.view.View.{View}
use Rattle.shared_driver.specs.declared.cores.Core.{Core}
use Rattle.shared_driver.proofs.Owned.{halted_same}
use Rattle.shared_driver.proofs.Turning.{held, idle_holds, idle_learns, idle_returns, idle_room, keeps_mine, some_tail}
use Rattle.shared_driver.proofs.tokens.Shared.visit.Goals as goal

pub give_back-requires-clause-value : goal.give_back-requires-clause-value
give_back-requires-clause-value g c =
    idle_returns (first_of c.args.self.now.turns).value c.take_turn-held.result.value c.core_of.result.now (view_of c.args.thread.now.hold.pass) (view_of c.take_turn-held.new.pass) c.core_of.ensures.value c.take_turn-held.ensures.view c.take_turn-held.ensures.found

pub invariant_of-thread : goal.invariant_of-thread
invariant_of-thread g c =
    let t = c.args.thread.now in
    let h = t.hold in
    let f = first_of c.args.self.now.turns in
    let x = c.take_turn-held.result.value in
    let z = c.core_of.result.now in
    let found = c.take_turn-held.ensures.found in
    let lent = c.core_of.ensures.value in
    let left = c.give_back.ensures.view in
    let view = c.take_turn-held.ensures.view in
    let q = c.give_back.new.pass in
    let number = ap (λ (v : View Core Entry). v.number) left ∙ ap (λ (v : View Core Entry). v.number) view in
    let seen = ap (λ (v : View Core Entry). v.seen) left in
    let rooms = ap (λ (v : View Core Entry). v.rooms) left in
    let first = ap (λ (v : View Core Entry). v.first) left ∙ ap (λ (v : View Core Entry). v.first) view in
    let b = held t.hold t.free t.numbered t.few t.sides t.legal t.local t.part (some_tail _ _ _ _ _ t.room) in
    let k = idle_holds f h q x z b c.requires.owns.0.1 found lent c.give_back.ensures.free number seen rooms first in
    let learns = idle_learns f.value h q x z found lent seen in
    record {
      free = k.free;
      numbered = k.numbered;
      few = k.few;
      sides = k.sides;
      legal = k.legal;
      local = k.local;
      part = k.part;
      room = idle_room f.value h q x z found lent number rooms ∙ t.room;
      used = t.used;
      many = t.many;
      spare = t.spare;
      halts = halted_same (view_of h.pass).number (view_of q).number ((view_of h.pass).seen ++ h.tail.items) ((view_of q).seen ++ h.tail.items) t.halted number t.halts (keeps_mine h (record { pass = q; number = h.number; part = h.part; tail = h.tail }) number learns);
      counted = λ s. ap (λ (v : View Core Entry). v.counts.live) left ∙ ap (λ (v : View Core Entry). v.counts.live) view ∙ found.sole (t.counted s);
    }

pub returns-clause-mine : goal.returns-clause-mine
returns-clause-mine g c =
    let h = c.args.thread.now.hold in
    let left = c.give_back.ensures.view in
    keeps_mine h (record { pass = c.give_back.new.pass; number = h.number; part = h.part; tail = h.tail }) (ap (λ (v : View Core Entry). v.number) left ∙ ap (λ (v : View Core Entry). v.number) c.take_turn-held.ensures.view)
    (idle_learns (first_of c.args.self.now.turns).value h c.give_back.new.pass c.take_turn-held.result.value c.core_of.result.now c.take_turn-held.ensures.found c.core_of.ensures.value (ap (λ (v : View Core Entry). v.seen) left))
