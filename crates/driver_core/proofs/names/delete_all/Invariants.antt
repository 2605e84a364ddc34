use Rattle.std.proofs.Common.{◌≡◌, ◌+◌, ◌≤◌, drop}
use Rattle.std.specs.Option.{option_map_or}
use Rattle.driver_objects.specs.declared.contexts.Context.{Context as ContextObject}
use Rattle.egl_model.specs.Objects.{context_in}
use Rattle.egl_model.specs.State.{State}
use Rattle.egl_model.specs.Bindings.{deleted_in}
use Rattle.object_table.specs.Links.{IsLeftWith}
use Rattle.object_table.specs.Tables.{weight_of}
use Rattle.driver_core.proofs.names.delete_all.Given as goal

-- the names that are left, freed in some state of which the table is left, give what all names freed give
abbrev pub invariant-each : goal.invariant-each
invariant-each g l = record {
  left : (s : State) → s.objects ≡ l.fn.objects.objects → option_map_or (λ (c : ContextObject). c.group) (context_in s.objects l.context) l.group ≡ l.group → (w : State) × ((deleted_in l.kind l.group l.context (drop l.k l.call.list) w ≡ deleted_in l.kind l.group l.context l.call.list s) × (IsLeftWith l.context w.objects l.objects.objects × (option_map_or (λ (c : ContextObject). c.group) (context_in w.objects l.context) l.group ≡ l.group)));
  holds : l.objects.holds ≡ l.fn.objects.holds;
  steps : l.steps + weight_of l.objects.objects ≤ l.fn.steps + weight_of l.fn.objects.objects;
}
