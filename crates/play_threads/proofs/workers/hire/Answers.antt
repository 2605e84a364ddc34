use Rattle.std.proofs.Common.{ℕ, ◌<◌, ◌∙◌, false, sym, subst, arith, List}
use Rattle.std.specs.Prelude.{All}
use Rattle.std.proofs.lemmas.List.Elements.{All-push}
use Rattle.shared_driver.specs.Tokens.{token_of}
use Rattle.play_threads.specs.declared.workers.Worker.{Worker}
use Rattle.play_threads.specs.Plays.{IsReady}
use Rattle.play_threads.proofs.workers.hire.Goals as goal

pub attaching-preserved : goal.attaching-preserved
attaching-preserved g c =
    let h = c.attaching.invariant in
    let P : Worker → Type 0 = IsReady c.args.trace.now c.args.shared.now in
    let new = c.in-Ok.ensures in
    let w : Worker = record { thread = c.in-Ok.thread; ran_out = false } in
    let below : ℕ → Type 0 = λ m. (token_of c.in-Ok.thread).number < m in
    let ready : P w = record { owns = new.owns.1; number = subst below c.requires.most new.below; mine = new.new_mine; ended = new.new.4; tail = new.new.3 } in
    let Q : List Worker → Type 0 = λ ws. All P ws in
    record {
      owns = c.attach.ensures.owns.0;
      number = c.attach.ensures.same.0 ∙ h.number;
      mine = c.attach.ensures.mine ∙ h.mine;
      ended = c.attach.ensures.same.1 ∙ h.ended;
      tail = c.in-Ok.ensures.from.3;
      workers = subst Q (sym c.push_reserved.ensures.items) (All-push P c.attaching.workers.items w h.workers ready);
      room = omega (arith, h.room, c.push_reserved.ensures.len, c.push_reserved.ensures.capacity, c.attaching-test.true);
      long = omega (arith, h.long, c.push_reserved.ensures.len);
      from = omega (arith, h.from);
      to = omega (arith, h.to, c.attaching-test.true);
    }
