use Rattle.std.proofs.Common.{◌≡◌, ◌+◌, ◌∷◌, ◌++◌, ◌∙◌, [], true, false, refl, sym, ap, take, arith}
use Rattle.std.proofs.lemmas.List.{take_more}
use Rattle.egl_calls.specs.declared.entries.Entry.{Entry}
use Rattle.egl_model.specs.Step.{step}
use Rattle.screen_compose.specs.Screens.{ScreenValue}
use Rattle.driver_core.specs.Machine.{Machine}
use Rattle.egl_cli.specs.Frames.{makes_frame}
use Rattle.egl_cli.proofs.FrameLaws.{printed_none, printed_frame, printed_quiet}
use Rattle.egl_cli.proofs.frames.put_frames.Goals.{then-makes_frame+in_ok-put_frame, else-makes_frame}
use Rattle.egl_cli.proofs.frames.put_frames.Goals as goal

pub each-init : goal.each-init
each-init c = record { width = refl; height = refl; placed = refl; made = refl; counted = refl; few = omega arith; printed = printed_none _ _ _ _ _ }

pub each-preserved : goal.each-preserved
each-preserved c =
    let entries = c.args.entries.now in
    let e = c.entry-item.result in
    let i = c.each.invariant in
    let more : take (c.each.entry-index + 1) entries ≡ take c.each.entry-index entries ++ e ∷ [] =
    take_more entries c.each.entry-index e c.each-test.true ∙ ap (λ (x : Entry). take c.each.entry-index entries ++ x ∷ []) (sym c.entry-item.is) in
    let made = ap (λ (m : Machine). m.made) c.in_ok-play.ensures.state ∙ i.made in
    let stepped : c.play.new.self.state ≡ (step c.each.driver.state e.thread e.call).state = ap (λ (m : Machine). m.state) c.in_ok-play.ensures.state in
    elim c.if-makes_frame.branch [
      | then-makes_frame+in_ok-put_frame w ↦
          let frame : makes_frame e ≡ true = sym c.makes_frame.ensures ∙ w.if-makes_frame.true in
          let line = rw (i.width, i.height, i.placed, w.windows.ensures) at w.in_ok-put_frame.ensures.out in
          record {
            width = ap (λ (s : ScreenValue). s.width) w.screen-is ∙ w.in_ok-put_frame.ensures.width ∙ i.width;
            height = ap (λ (s : ScreenValue). s.height) w.screen-is ∙ w.in_ok-put_frame.ensures.height ∙ i.height;
            placed = ap (λ (s : ScreenValue). s.placed) w.screen-is ∙ w.in_ok-put_frame.ensures.placed ∙ i.placed;
            made = made;
            counted = omega (arith, i.counted);
            few = omega (arith, i.few, w.number-is);
            printed = rw (more, w.number-is) (printed_frame _ _ _ _ _ (take c.each.entry-index entries) c.each.driver.state c.play.new.self.state c.each.at c.each.number c.each.out c.if-makes_frame.out e i.printed stepped frame (w.out-is ∙ line));
          }
      | else-makes_frame w ↦
          let quiet : makes_frame e ≡ false = sym c.makes_frame.ensures ∙ w.if-makes_frame.false in
          record {
            width = ap (λ (s : ScreenValue). s.width) w.screen-is ∙ i.width;
            height = ap (λ (s : ScreenValue). s.height) w.screen-is ∙ i.height;
            placed = ap (λ (s : ScreenValue). s.placed) w.screen-is ∙ i.placed;
            made = made;
            counted = omega (arith, i.counted);
            few = omega (arith, i.few, w.number-is);
            printed = rw (more, w.number-is) (printed_quiet _ _ _ _ _ (take c.each.entry-index entries) c.each.driver.state c.play.new.self.state c.each.at c.each.number c.each.out c.if-makes_frame.out e i.printed stepped quiet w.out-is);
          }
    ]
