use Rattle.std.proofs.Common.{ap, ◌∙◌, pos, rules}
use Rattle.std.specs.Ordering.{int_eq}
use Rattle.egl_names.specs.declared.codes.TheConstants.{EGL_WIDTH, EGL_HEIGHT, EGL_LARGEST_PBUFFER}
use Rattle.driver_facts.proofs.ListedLaws.{none_listed, next_listed, all_listed}
use Rattle.driver_facts.proofs.attributes.PbufferAttributes.read.Goals as goal

pub loop-k-init : goal.loop-k-init
loop-k-init c =
    let list = c.as_slice-list.result.now in
    record {
      width = none_listed list (pos EGL_WIDTH) (pos 0);
      height = none_listed list (pos EGL_HEIGHT) (pos 0);
      largest = ap (λ v. int_eq v (pos 1)) (none_listed list (pos EGL_LARGEST_PBUFFER) (pos 0));
    }

pub loop-k-preserved : goal.loop-k-preserved
loop-k-preserved c =
    let list = c.as_slice-list.result.now in
    let k = c.loop-k.k in
    record {
      width = next_listed (λ v. v) list k (pos EGL_WIDTH) (pos 0) _ _ c.loop-k-test.true (search rules) (search rules) c.set.ensures.width c.loop-k.invariant.width;
      height = next_listed (λ v. v) list k (pos EGL_HEIGHT) (pos 0) _ _ c.loop-k-test.true (search rules) (search rules) c.set.ensures.height c.loop-k.invariant.height;
      largest = next_listed (λ v. int_eq v (pos 1)) list k (pos EGL_LARGEST_PBUFFER) (pos 0) _ _ c.loop-k-test.true (search rules) (search rules) c.set.ensures.largest c.loop-k.invariant.largest;
    }

pub returns-clause-width : goal.returns-clause-width
returns-clause-width c =
    let whole = all_listed c.as_slice-list.result.now c.loop-k.k (pos EGL_WIDTH) (pos 0) c.loop-k.auto.k-end c.loop-k-test.false in
    c.loop-k.invariant.width ∙ whole ∙ search rules

pub returns-clause-height : goal.returns-clause-height
returns-clause-height c =
    let whole = all_listed c.as_slice-list.result.now c.loop-k.k (pos EGL_HEIGHT) (pos 0) c.loop-k.auto.k-end c.loop-k-test.false in
    c.loop-k.invariant.height ∙ whole ∙ search rules

pub returns-clause-largest : goal.returns-clause-largest
returns-clause-largest c =
    let whole = all_listed c.as_slice-list.result.now c.loop-k.k (pos EGL_LARGEST_PBUFFER) (pos 0) c.loop-k.auto.k-end c.loop-k-test.false in
    c.loop-k.invariant.largest ∙ ap (λ v. int_eq v (pos 1)) whole ∙ search rules
