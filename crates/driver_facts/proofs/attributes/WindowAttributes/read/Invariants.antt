use Rattle.std.proofs.Common.{◌≡◌, pos}
use Rattle.std.specs.Ordering.{int_eq}
use Rattle.egl_names.specs.declared.codes.TheConstants.{EGL_BACK_BUFFER, EGL_RENDER_BUFFER, EGL_SINGLE_BUFFER}
use Rattle.driver_facts.proofs.ListedLaws.{listed_in}
use Rattle.driver_facts.proofs.attributes.WindowAttributes.read.Given as goal

abbrev pub invariant-loop-k : goal.invariant-loop-k
invariant-loop-k l = l.asked.single ≡ int_eq (listed_in l.list l.k (pos EGL_RENDER_BUFFER) (pos EGL_BACK_BUFFER)) (pos EGL_SINGLE_BUFFER)
