use Rattle.std.proofs.Common.{suc, refl, arith, ◌+◌, ◌-◌, ◌∙◌}
use Rattle.std.specs.Prelude.{slice_index}
use Rattle.shared_driver.proofs.Picking.{done_made}
use Rattle.shared_driver.proofs.Running.{rooms_given, round_of}
use Rattle.shared_driver.proofs.cores.Core.pick_run.Goals as goal

pub returns-in_default-clause-err : goal.returns-in_default-clause-err
returns-in_default-clause-err g c =
    let i = c.rounds.invariant in
    let e = c.in_default.ensures.err in
    (i.rounds.0, omega (arith, i.rounds.1, i.few), c.rounds.self, c.rounds.picker, i.rounds.2, e.0, e.1)

pub returns-then-not-goes_on-clause-ok : goal.returns-then-not-goes_on-clause-ok
returns-then-not-goes_on-clause-ok g c =
    let i = c.rounds.invariant in
    let k = c.in-Ok.ensures.ok in
    (i.rounds.0, omega (arith, i.rounds.1, i.few), c.rounds.self, c.rounds.picker, k.0, i.rounds.2, k.1, k.2, k.3, λ more. c.if-not-goes_on.ensures.ends refl)

pub returns-then-not-goes_on-clause-rooms : goal.returns-then-not-goes_on-clause-rooms
returns-then-not-goes_on-clause-rooms g c =
    let i = c.rounds.invariant in
    rooms_given c.args.self.now.rooms.items c.rounds.self.rooms.items c.pick.new.self.rooms.items c.args.number c.rounds.given c.args.back c.requires.number.1 i.given i.rooms c.in-Ok.ensures.rooms

pub rounds-preserved : goal.rounds-preserved
rounds-preserved g c =
    let i = c.rounds.invariant in
    let e = c.in-Ok.ensures in
    let k = e.ok in
    let on = c.if-not-goes_on.ensures.on refl in
    let y = c.pick.new.self in
    record {
      rounds = (
        suc i.rounds.0,
        omega (arith, i.rounds.1),
        (
          c.rounds.self,
          c.rounds.picker,
          i.rounds.2,
          round_of g.P.Picker.picks g.P.Runner.told c.args.number c.rounds.self y c.rounds.picker c.pick.new.picker c.tell.new.self k.0 c.in-Ok.call.picked c.in-Ok.call.drawing c.in-Ok.call.halts c.reply_of.result
              (slice_index c.rounds.self.rooms.items c.args.number + (c.args.back - c.rounds.given)) k.1 k.2 k.3 on.1 on.2 c.reply_of.ensures c.tell.ensures e.rooms e.owed e.spare e.live,
        ),
      );
      few = omega (arith, c.rounds-test.true);
      made = done_made c.rounds.self y c.args.number k.0 c.in-Ok.call.picked c.in-Ok.call.drawing k.2 ∙ i.made;
      rooms = rooms_given c.args.self.now.rooms.items c.rounds.self.rooms.items y.rooms.items c.args.number c.rounds.given c.args.back c.requires.number.1 i.given i.rooms e.rooms;
      given = omega arith;
      tail = e.tail.0;
      capacity = e.tail.1 ∙ i.capacity;
      tokens = e.live ∙ i.tokens;
      owed = e.owed;
      spare = e.spare;
    }

pub returns-in_default-pick-clause-err : goal.returns-in_default-pick-clause-err
returns-in_default-pick-clause-err g c =
    let i = c.rounds.invariant in
    let e = c.in_default-pick.ensures.err in
    (i.rounds.0, omega (arith, i.rounds.1, i.few), c.rounds.self, c.rounds.picker, i.rounds.2, e.0, e.1)

pub returns-clause-ok : goal.returns-clause-ok
returns-clause-ok g c =
    let i = c.rounds.invariant in
    let k = c.in-Ok-pick.ensures.ok in
    (i.rounds.0, omega (arith, i.rounds.1, i.few), c.rounds.self, c.rounds.picker, k.0, i.rounds.2, k.1, k.2, k.3, λ more. absurd (omega (arith, more, i.rounds.1, c.rounds-test.false)))

pub returns-clause-rooms : goal.returns-clause-rooms
returns-clause-rooms g c =
    let i = c.rounds.invariant in
    rooms_given c.args.self.now.rooms.items c.rounds.self.rooms.items c.pick-2.new.self.rooms.items c.args.number c.rounds.given c.args.back c.requires.number.1 i.given i.rooms c.in-Ok-pick.ensures.rooms
