use Rattle.std.proofs.Common.{◌≡◌, ◌≤◌, take}
use Rattle.egl_cli.proofs.FrameLaws.{IsPrinted}
use Rattle.egl_cli.proofs.frames.put_frames.Given as goal

abbrev pub invariant-each : goal.invariant-each
invariant-each l = record {
  width : l.screen.width ≡ l.fn.screen.width;
  height : l.screen.height ≡ l.fn.screen.height;
  placed : l.screen.placed ≡ l.fn.screen.placed;
  made : l.driver.made ≡ l.fn.driver.made;
  counted : l.at ≡ l.entry-index;
  few : l.number ≤ l.entry-index;
  printed : IsPrinted l.fn.screen.width l.fn.screen.height l.fn.screen.placed l.fn.driver.state l.fn.out (take l.entry-index l.entries) l.driver.state l.at l.number l.out;
}
