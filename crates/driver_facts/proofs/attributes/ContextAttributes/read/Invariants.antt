use Rattle.std.proofs.Common.{◌≡◌, pos}
use Rattle.egl_names.specs.declared.codes.TheConstants.{EGL_CONTEXT_CLIENT_VERSION, EGL_CONTEXT_MINOR_VERSION}
use Rattle.driver_facts.proofs.ListedLaws.{listed_in}
use Rattle.driver_facts.proofs.attributes.ContextAttributes.read.Given as goal

abbrev pub invariant-loop-k : goal.invariant-loop-k
invariant-loop-k l = record {
  version : l.asked.version ≡ listed_in l.list l.k (pos EGL_CONTEXT_CLIENT_VERSION) (pos 1);
  minor : l.asked.minor_version ≡ listed_in l.list l.k (pos EGL_CONTEXT_MINOR_VERSION) (pos 0);
}
