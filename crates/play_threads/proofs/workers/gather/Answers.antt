use Rattle.std.proofs.Common.{◌≡◌, ◌∙◌, true, false, sym, Option, subst}
use Rattle.std.specs.Prelude.{IfSome}
use Rattle.std.proofs.lemmas.List.Elements.{All-pop}
use Rattle.shared_driver.specs.Tokens.{token_of}
use Rattle.play_threads.specs.declared.workers.Worker.{Worker}
use Rattle.play_threads.specs.Plays.{IsThrough}
use Rattle.play_threads.proofs.PlayLaws.{play_joined}
use Rattle.play_threads.proofs.workers.gather.Goals as goal

pub joining-preserved-then-ran_out : goal.joining-preserved-then-ran_out
joining-preserved-then-ran_out g c =
    let P : Worker → Type 0 = IsThrough c.args.trace.now c.args.shared.now in
    let rest = All-pop P c.joining.workers.items c.pop.new.self.items c.pop.result c.pop.ensures.items c.joining.invariant.through in
    record {
      owns = c.join.ensures.owns;
      play = λ e. absurd (let f : true ≡ false = sym c.if-ran_out.true ∙ e in cc);
      through = rest.0;
    }

pub joining-preserved : goal.joining-preserved
joining-preserved g c =
    let t = c.args.trace.now in
    let P : Worker → Type 0 = IsThrough t c.args.shared.now in
    let rest = All-pop P c.joining.workers.items c.pop.new.self.items c.pop.result c.pop.ensures.items c.joining.invariant.through in
    let Q : Option Worker → Type 0 = λ o. IfSome o P in
    let through : P c.in-Some.worker = subst Q c.in-Some.is rest.1 in
    let joined = c.join.ensures in
    record {
      owns = joined.owns;
      play = λ e. play_joined t (token_of c.joining.thread) (token_of c.join.new.into) (token_of c.in-Some.worker.thread) joined.number joined.ended through.ended through.tail
          through.number (through.plays e) joined.seen joined.other (c.joining.invariant.play c.if-ran_out.false);
      through = rest.0;
    }
