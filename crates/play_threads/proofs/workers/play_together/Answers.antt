use Rattle.std.proofs.Common.{ℕ, ◌<◌, not, List, Option, subst, sym}
use Rattle.std.specs.Prelude.{All}
use Rattle.std.specs.Prelude.{IfSome}
use Rattle.std.proofs.lemmas.List.Elements.{All-pop, All-push}
use Rattle.play_threads.specs.declared.workers.Worker.{Worker}
use Rattle.play_threads.specs.Plays.{IsReady, IsThrough}
use Rattle.play_threads.proofs.workers.play_together.Goals as goal

pub run_all-requires-clause-ready : goal.run_all-requires-clause-ready
run_all-requires-clause-ready g c κs within =
    let P : Worker → Type 0 = IsReady c.args.trace.now c.args.shared.now in
    let Q : List Worker → Type 0 = λ ws. All P ws in
    let hired = c.hire-hired.ensures in
    let w : Worker = record { thread = c.hire-hired.new.first; ran_out = not c.hire-hired.result } in
    let below : ℕ → Type 0 = λ n. n < c.args.trace.now.threads in
    let ready : P w = record { owns = hired.owns; number = subst below (sym hired.number) c.requires.number; mine = hired.mine; ended = hired.ended; tail = hired.tail } in
    subst Q (sym c.push_reserved.ensures.items) (All-push P c.hire-hired.new.workers.items w hired.workers ready)

pub gather-requires-clause-last : goal.gather-requires-clause-last
gather-requires-clause-last g c =
    let P : Worker → Type 0 = IsThrough c.args.trace.now c.args.shared.now in
    let Q : Option Worker → Type 0 = λ o. IfSome o P in
    subst Q c.in-Some.is (All-pop P _ c.pop.new.self.items c.pop.result c.pop.ensures.items c.run_all.ensures.through).1

pub gather-requires-clause-through : goal.gather-requires-clause-through
gather-requires-clause-through g c =
    let P : Worker → Type 0 = IsThrough c.args.trace.now c.args.shared.now in
    (All-pop P _ c.pop.new.self.items c.pop.result c.pop.ensures.items c.run_all.ensures.through).0
