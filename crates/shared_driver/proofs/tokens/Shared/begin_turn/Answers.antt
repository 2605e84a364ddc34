use Rattle.std.proofs.Common.{◌++◌, ◌∙◌, refl, sym}
use Rattle.egl_model.specs.History.{replay_from}
use Rattle.turn_lock.specs.Passes.{first_of}
use Rattle.shared_driver.specs.Cores.{origin}
use Rattle.shared_driver.proofs.Histories.{ready_replay}
use Rattle.shared_driver.proofs.Turning.{begun, start}
use Rattle.shared_driver.proofs.tokens.Shared.begin_turn.Goals as goal

pub part_in-requires-clause-out : goal.part_in-requires-clause-out
part_in-requires-clause-out g c =
    (start (first_of c.args.self.now.turns) c.args.hold.now c.take_turn-held.result.value c.core_of.result.now c.in-Some.part c.requires.holds c.requires.owns.1 c.take_turn-held.ensures.found c.core_of.ensures.value (sym c.take.ensures.value ∙ c.in-Some.is)).out

pub part_in-requires-clause-fits : goal.part_in-requires-clause-fits
part_in-requires-clause-fits g c =
    (start (first_of c.args.self.now.turns) c.args.hold.now c.take_turn-held.result.value c.core_of.result.now c.in-Some.part c.requires.holds c.requires.owns.1 c.take_turn-held.ensures.found c.core_of.ensures.value (sym c.take.ensures.value ∙ c.in-Some.is)).late.fits

pub returns-clause-begun : goal.returns-clause-begun
returns-clause-begun g c =
    let f = first_of c.args.self.now.turns in
    let h = c.args.hold.now in
    let z = c.core_of.result.now in
    let some = sym c.take.ensures.value ∙ c.in-Some.is in
    let s = start f h c.take_turn-held.result.value z c.in-Some.part c.requires.holds c.requires.owns.1 c.take_turn-held.ensures.found c.core_of.ensures.value some in
    let o = origin f.value in
    let es = z.journal.entries ++ h.tail.items in
    begun f h _ c.take_turn-held.result.value z c.part_in.new.self c.in-Some.part c.requires.holds c.requires.owns.1 c.take_turn-held.ensures.found c.core_of.ensures.value some c.take_turn-held.ensures.view refl refl
    (c.part_in.ensures.outside (replay_from o es) (ready_replay o h.number es s.ready).sound s.late.driver s.late.part) c.part_in.ensures.driver c.part_in.ensures.kept
