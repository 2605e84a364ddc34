use Rattle.std.proofs.Common.{◌≡◌, ◌<◌, ◌∙◌, sym, ap, subst, arith, true, List, length}
use Rattle.std.specs.Prelude.{is_some}
use Rattle.surface_store.specs.declared.windows.WindowSpec.{WindowSpec}
use Rattle.trace_reader.specs.Heads.{window_with}
use Rattle.log_reader.specs.Items.{BodyValue}
use Rattle.log_reader.specs.Order.{AreBefore}
use Rattle.log_reader.proofs.OrderLaws.{before_front}
use Rattle.log_reader.proofs.bodies.Body.take_front.Goals as goal

pub returns-clause-order : goal.returns-clause-order
returns-clause-order c =
    let h = c.args.head.now.head in
    let s = c.in_ok-shown in
    let within : s.shown.thread < h.threads = omega (arith, s.ensures.thread, c.threads.ensures.threads) in
    let window : is_some (window_with h.windows s.shown.window) ≡ true = ap (λ (w : List WindowSpec). is_some (window_with w s.shown.window)) (sym c.windows-windows.ensures) ∙ s.ensures.window in
    let P : BodyValue → Type 0 = λ b. AreBefore h.threads h.windows c.args.number (length b.names) b.items in
    rw c.in-Ok.ensures.items (before_front h.threads h.windows c.args.number (length c.self.inside.names) c.self.inside.items.items s.shown (subst P (sym c.self.view_is) c.requires) s.ensures.number within window)
