use Rattle.std.proofs.Common.{◌∙◌, pos, rules}
use Rattle.egl_names.specs.declared.codes.TheConstants.{EGL_CONTEXT_CLIENT_VERSION, EGL_CONTEXT_MINOR_VERSION}
use Rattle.driver_facts.proofs.ListedLaws.{none_listed, next_listed, all_listed}
use Rattle.driver_facts.proofs.attributes.ContextAttributes.read.Goals as goal

pub loop-k-init : goal.loop-k-init
loop-k-init c =
    let list = c.as_slice-list.result.now in
    record {
      version = none_listed list (pos EGL_CONTEXT_CLIENT_VERSION) (pos 1);
      minor = none_listed list (pos EGL_CONTEXT_MINOR_VERSION) (pos 0);
    }

pub loop-k-preserved : goal.loop-k-preserved
loop-k-preserved c =
    let list = c.as_slice-list.result.now in
    let k = c.loop-k.k in
    record {
      version = next_listed (λ v. v) list k (pos EGL_CONTEXT_CLIENT_VERSION) (pos 1) _ _ c.loop-k-test.true (search rules) (search rules) c.set.ensures.version c.loop-k.invariant.version;
      minor = next_listed (λ v. v) list k (pos EGL_CONTEXT_MINOR_VERSION) (pos 0) _ _ c.loop-k-test.true (search rules) (search rules) c.set.ensures.minor c.loop-k.invariant.minor;
    }

pub returns-clause-version : goal.returns-clause-version
returns-clause-version c =
    let whole = all_listed c.as_slice-list.result.now c.loop-k.k (pos EGL_CONTEXT_CLIENT_VERSION) (pos 1) c.loop-k.auto.k-end c.loop-k-test.false in
    c.loop-k.invariant.version ∙ whole ∙ search rules

pub returns-clause-minor : goal.returns-clause-minor
returns-clause-minor c =
    let whole = all_listed c.as_slice-list.result.now c.loop-k.k (pos EGL_CONTEXT_MINOR_VERSION) (pos 0) c.loop-k.auto.k-end c.loop-k-test.false in
    c.loop-k.invariant.minor ∙ whole ∙ search rules
