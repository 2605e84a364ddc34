use Rattle.std.proofs.Common.{◌≡◌, ◌++◌, drop}
use Rattle.egl_explain.specs.References.{thread_references}
use Rattle.egl_explain.proofs.references.push_threads.Given as goal

abbrev pub invariant-each : goal.invariant-each
invariant-each l = record {
  left : l.list.items ++ thread_references l.thread (drop l.kept-index l.records) ≡ l.fn.list.items ++ thread_references 0 l.records;
  thread : l.thread ≡ l.kept-index;
}
