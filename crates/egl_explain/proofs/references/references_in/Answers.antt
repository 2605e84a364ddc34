use Rattle.std.proofs.Common.{◌++◌, List, map, ap, ◌∙◌}
use Rattle.egl_explain.specs.References.{handle_reference}
use Rattle.egl_explain.specs.declared.references.ObjectReference.{ObjectReference}
use Rattle.egl_explain.proofs.ReferenceLaws.{all_added}
use Rattle.egl_explain.proofs.references.references_in.Goals as goal

pub returns : goal.returns
returns c =
    let told = c.deref.result.now in
    let first = c.in_ok-push_handles.ensures ∙ ap (λ (l : List ObjectReference). l ++ map handle_reference told) c.new-list.ensures.items ∙ ap (map handle_reference) c.deref.ensures.value in
    all_added c.args.driver.now.state c.in_ok-handles.handles.items c.records.result.now c.push_handles.new.list.items c.push_threads.new.list.items c.push_objects.new.list.items c.in_ok-handles.ensures c.records.ensures first c.in_ok-push_threads.ensures c.in_ok-push_objects.ensures
