use Rattle.std.proofs.Common.{ap, ◌∙◌, pos, rules}
use Rattle.std.specs.Ordering.{int_eq}
use Rattle.egl_names.specs.declared.codes.TheConstants.{EGL_BACK_BUFFER, EGL_RENDER_BUFFER, EGL_SINGLE_BUFFER}
use Rattle.driver_facts.proofs.ListedLaws.{none_listed, next_listed, all_listed}
use Rattle.driver_facts.proofs.attributes.WindowAttributes.read.Goals as goal

pub loop-k-init : goal.loop-k-init
loop-k-init c = ap (λ v. int_eq v (pos EGL_SINGLE_BUFFER)) (none_listed c.as_slice-list.result.now (pos EGL_RENDER_BUFFER) (pos EGL_BACK_BUFFER))

pub loop-k-preserved : goal.loop-k-preserved
loop-k-preserved c = next_listed (λ v. int_eq v (pos EGL_SINGLE_BUFFER)) c.as_slice-list.result.now c.loop-k.k (pos EGL_RENDER_BUFFER) (pos EGL_BACK_BUFFER) _ _ c.loop-k-test.true (search rules) (search rules) c.set.ensures c.loop-k.invariant

pub returns : goal.returns
returns c = c.loop-k.invariant ∙ ap (λ v. int_eq v (pos EGL_SINGLE_BUFFER)) (all_listed c.as_slice-list.result.now c.loop-k.k (pos EGL_RENDER_BUFFER) (pos EGL_BACK_BUFFER) c.loop-k.auto.k-end c.loop-k-test.false) ∙ search rules
