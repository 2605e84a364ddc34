use Rattle.std.proofs.Common.{◌≡◌, ◌∙◌, ◌++◌, false, true, ap, sym}
use Rattle.egl_calls.specs.Journals.{JournalValue}
use Rattle.egl_calls.specs.declared.entries.Entry.{Entry}
use Rattle.turn_lock.specs.Passes.{first_of, view_of}
use Rattle.turn_lock.specs.declared.view.View.{View}
use Rattle.shared_driver.specs.declared.cores.Core.{Core}
use Rattle.shared_driver.specs.Tokens.{token_of}
use Rattle.shared_driver.proofs.Histories.{of_thread}
use Rattle.shared_driver.proofs.Owned.{halted_same, includes_ended, includes_mine, learns_ended, none_other}
use Rattle.shared_driver.proofs.Turning.{disjoint_tokens, held, idle_holds, idle_learns, idle_room, included, joined_returns, keeps_mine, some_tail, tok}
use Rattle.shared_driver.proofs.tokens.Shared.join.Goals as goal

pub give_back-requires-clause-value : goal.give_back-requires-clause-value
give_back-requires-clause-value g c =
    joined_returns (first_of c.args.self.now.turns).value c.take_turn-held.result.value c.core_of.result.now c.dismiss.new.self (view_of c.args.into.now.hold.pass) (view_of c.take_turn-held.new.pass) (view_of c.join.new.into) (view_of c.retire-pass.result)
    c.core_of.ensures.value c.take_turn-held.ensures.view c.join.ensures.view c.take_turn-held.ensures.found c.dismiss.ensures.kept c.dismiss.ensures.live

pub invariant_of-into : goal.invariant_of-into
invariant_of-into g c =
    let t = c.args.into.now in
    let h = t.hold in
    let f = first_of c.args.self.now.turns in
    let x = c.take_turn-held.result.value in
    let z = c.core_of.result.now in
    let found = c.take_turn-held.ensures.found in
    let lent = c.core_of.ensures.value in
    let left = c.give_back.ensures.view in
    let joined = c.join.ensures.view in
    let view = c.take_turn-held.ensures.view in
    let kept = c.dismiss.ensures.kept in
    let q = c.give_back.new.pass in
    let number = ap (λ (v : View Core Entry). v.number) left ∙ ap (λ (v : View Core Entry). v.number) joined ∙ ap (λ (v : View Core Entry). v.number) view in
    let seen = ap (λ (v : View Core Entry). v.seen) left ∙ ap (λ (j : JournalValue). j.entries) kept.1 in
    let rooms = ap (λ (v : View Core Entry). v.rooms) left ∙ ap (λ r. r.items) kept.2 in
    let first = ap (λ (v : View Core Entry). v.first) left ∙ ap (λ (v : View Core Entry). v.first) joined ∙ ap (λ (v : View Core Entry). v.first) view in
    let b = held t.hold t.free t.numbered t.few t.sides t.legal t.local t.part (some_tail _ _ _ _ _ t.room) in
    let k = idle_holds f h q x z b c.requires.owns.0.0.1 found lent c.give_back.ensures.free number seen rooms first in
    let learns = idle_learns f.value h q x z found lent seen in
    record {
      free = k.free;
      numbered = k.numbered;
      few = k.few;
      sides = k.sides;
      legal = k.legal;
      local = k.local;
      part = k.part;
      room = idle_room f.value h q x z found lent number rooms ∙ t.room;
      used = t.used;
      many = t.many;
      spare = t.spare;
      halts = halted_same (view_of h.pass).number (view_of q).number ((view_of h.pass).seen ++ h.tail.items) ((view_of q).seen ++ h.tail.items) t.halted number t.halts (keeps_mine h (record { pass = q; number = h.number; part = h.part; tail = h.tail }) number learns);
      counted = λ e. absurd (let s : false ≡ true = e in cc);
    }

pub returns-clause-mine : goal.returns-clause-mine
returns-clause-mine g c =
    let h = c.args.into.now.hold in
    let left = c.give_back.ensures.view in
    keeps_mine h (record { pass = c.give_back.new.pass; number = h.number; part = h.part; tail = h.tail }) (ap (λ (v : View Core Entry). v.number) left ∙ ap (λ (v : View Core Entry). v.number) c.join.ensures.view ∙ ap (λ (v : View Core Entry). v.number) c.take_turn-held.ensures.view)
    (idle_learns (first_of c.args.self.now.turns).value h c.give_back.new.pass c.take_turn-held.result.value c.core_of.result.now c.take_turn-held.ensures.found c.core_of.ensures.value (ap (λ (v : View Core Entry). v.seen) left ∙ ap (λ (j : JournalValue). j.entries) c.dismiss.ensures.kept.1))

pub returns-clause-other : goal.returns-clause-other
returns-clause-other g c =
    included c.args.other.hold c.retire-pass.result c.take_turn-held.new.pass (view_of c.give_back.new.pass).seen c.retire-pass.ensures.retires
    (ap (λ (v : View Core Entry). v.seen) c.give_back.ensures.view ∙ ap (λ (j : JournalValue). j.entries) c.dismiss.ensures.kept.1 ∙ ap (λ (q : Core). q.journal.entries) c.core_of.ensures.value ∙ sym (ap (λ (v : View Core Entry). v.seen) c.take_turn-held.ensures.view)) c.join.ensures.includes

pub returns-clause-other_mine : goal.returns-clause-other_mine
returns-clause-other_mine g c = includes_mine (token_of c.args.other) _ (returns-clause-other g c)

pub returns-clause-other_ended : goal.returns-clause-other_ended
returns-clause-other_ended g c =
    let t = c.args.other in
    let r = c.retire-pass.ensures.retires in
    includes_ended (token_of t) _ (λ n inside. none_other t.hold.number n t.hold.tail.items (of_thread _ t.hold.number t.hold.tail.items t.local) (λ e. r.5 n inside (e ∙ t.numbered))) (returns-clause-other g c)

pub returns-clause-into_ended : goal.returns-clause-into_ended
returns-clause-into_ended g c =
    let h = c.args.into.now.hold in
    learns_ended (token_of c.args.into.now) (tok (record { pass = c.give_back.new.pass; number = h.number; part = h.part; tail = h.tail }))
    (idle_learns (first_of c.args.self.now.turns).value h c.give_back.new.pass c.take_turn-held.result.value c.core_of.result.now c.take_turn-held.ensures.found c.core_of.ensures.value (ap (λ (v : View Core Entry). v.seen) c.give_back.ensures.view ∙ ap (λ (j : JournalValue). j.entries) c.dismiss.ensures.kept.1))

pub returns-clause-disjoint : goal.returns-clause-disjoint
returns-clause-disjoint g c =
    let r = c.retire-pass.ensures.retires in
    let came = c.take_turn-held.ensures.view in
    disjoint_tokens c.args.into.now.hold c.args.other.hold c.take_turn-held.new.pass c.retire-pass.result (ap (λ (v : View Core Entry). v.number) came) (ap (λ (v : View Core Entry). v.ended) came) r.3 r.4 c.join.ensures.disjoint
