use Rattle.std.proofs.Common.{◌≡◌, pos}
use Rattle.std.specs.Ordering.{int_eq}
use Rattle.egl_names.specs.declared.codes.TheConstants.{EGL_WIDTH, EGL_HEIGHT, EGL_LARGEST_PBUFFER}
use Rattle.driver_facts.proofs.ListedLaws.{listed_in}
use Rattle.driver_facts.proofs.attributes.PbufferAttributes.read.Given as goal

abbrev pub invariant-loop-k : goal.invariant-loop-k
invariant-loop-k l = record {
  width : l.asked.width ≡ listed_in l.list l.k (pos EGL_WIDTH) (pos 0);
  height : l.asked.height ≡ listed_in l.list l.k (pos EGL_HEIGHT) (pos 0);
  largest : l.asked.largest ≡ int_eq (listed_in l.list l.k (pos EGL_LARGEST_PBUFFER) (pos 0)) (pos 1);
}
