use Rattle.std.proofs.Common.{length, ◌∙◌, ap, arith}
use Rattle.egl_calls.specs.Calls.{CallValue}
use Rattle.driver_core.proofs.DeleteLaws.{delete_step}
use Rattle.driver_core.proofs.names.delete_all.Goals as goal

pub each-preserved : goal.each-preserved
each-preserved g c = let i = c.each.invariant in record {
  left = λ s e own. let w = i.left s e own in delete_step c.args.kind c.args.group c.args.context c.each.k c.args.call.now.list s w.0 c.listed_name.result c.listed_name.ensures (let n = ap length c.as_slice-k-end.ensures in let v = ap (λ (v : CallValue). length v.list) c.call.view_is in let l = c.each-test.true in omega (arith, l, n, v)) w.1.0 c.delete_name.new.self.objects (c.delete_name.ensures.objects w.0.objects w.1.1.0 w.1.1.1) w.1.1.1;
  holds = c.delete_name.ensures.holds ∙ i.holds;
  steps = omega (arith, c.delete_name.ensures.steps, i.steps);
}
