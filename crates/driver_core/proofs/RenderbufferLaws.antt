-- Storages that a glRenderbufferStorageOES gives renderbuffers.
use Rattle.std.proofs.Common.{◌≡◌, ℕ, ◌+◌, ◌≤◌, ℤ, pos, negsuc, ◌≤ℤ◌, true, List, [], ◌∷◌, ◌++◌, length, refl, ap, inl, inr, arith, get_or, Option, None, Some}
use Rattle.std.proofs.lemmas.Bool.{cases_lt}
use Rattle.std.proofs.lemmas.Int.{ints}
use Rattle.std.proofs.lemmas.List.{set_past}
use Rattle.std.proofs.lemmas.List.Sums.{sum_by-set}
use Rattle.std.specs.List.{sum_by}
use Rattle.std.specs.Option.{option_map_or}
use Rattle.egl_calls.specs.Arguments.{number, signed}
use Rattle.egl_calls.specs.Calls.{CallValue}
use Rattle.egl_calls.specs.Ranges.{unsigned}
use Rattle.egl_calls.specs.declared.kinds.Kind.TheVariants.{Gl}
use Rattle.egl_calls.specs.declared.kinds.GlKind.TheVariants.{RenderbufferStorage}
use Rattle.framebuffer_objects.specs.InternalFormats.{is_internal}
use Rattle.framebuffer_objects.specs.Renderbuffers.{RenderbufferValue}
use Rattle.driver_objects.specs.Objects.{edges_of}
use Rattle.driver_objects.specs.Storages.{StorageValue}
use Rattle.driver_objects.specs.declared.objects.Object.{Object}
use Rattle.driver_objects.specs.declared.objects.Object.TheVariants.{Renderbuffer, Storage}
use Rattle.egl_model.specs.GlCalls.{gl_refusal}
use Rattle.egl_model.specs.Objects.{change_renderbuffer, with_renderbuffer}
use Rattle.egl_model.specs.Renderbuffers.{with_kind}
use Rattle.egl_model.specs.State.{State}
use Rattle.model_laws.proofs.Calls.RenderbufferCalls.{storage_passed}
use Rattle.object_table.specs.Tables.{weight_of}
use Rattle.driver_core.specs.Costs.{IsCheap}
use Rattle.driver_core.proofs.LevelLaws.{cheap_less, weighs_storage}

-- ---- What is known of one that isn't refused.
pub internal_format : (s : State) (t n : ℕ) (c : CallValue) → c.kind ≡ Gl RenderbufferStorage → gl_refusal s t n RenderbufferStorage c ≡ None → is_internal (number c 1) ≡ true
internal_format s t n c h r = (storage_passed s t n c h r).format

side_few : (z : ℤ) → z ≤ℤ pos 2048 → unsigned z ≤ 2048
side_few (pos n) h = omega (arith, ints, h)
side_few (negsuc n) h = omega arith

pub few_sides : (s : State) (t n : ℕ) (c : CallValue) → c.kind ≡ Gl RenderbufferStorage → gl_refusal s t n RenderbufferStorage c ≡ None → (number c 2 ≤ 2048) × (number c 3 ≤ 2048)
few_sides s t n c h r = let a = storage_passed s t n c h r in (side_few (signed c 2) a.width.high, side_few (signed c 3) a.height.high)

-- ---- The kind of a renderbuffer weighs nothing.
kind_weighs_same : (r : RenderbufferValue) (o : Option Object) → option_map_or (λ (x : Object). 1 + length (edges_of x)) (with_renderbuffer (with_kind r) o) 0 ≡ option_map_or (λ (x : Object). 1 + length (edges_of x)) o 0
kind_weighs_same r (Some (Renderbuffer x)) = refl
kind_weighs_same r o = refl

kind_weighs : (r : RenderbufferValue) (x : ℕ) (os : List (Option Object)) → weight_of (change_renderbuffer (with_kind r) x os) ≡ weight_of os
unfolding weight_of change_renderbuffer
kind_weighs r x os = elim (cases_lt x (length os)) [
  | inl l ↦ omega (arith, sum_by-set (λ o. option_map_or (λ (x : Object). 1 + length (edges_of x)) o 0) os x (with_renderbuffer (with_kind r) (get_or os x None)) None l, kind_weighs_same r (get_or os x None))
  | inr l ↦ ap (sum_by (λ o. option_map_or (λ (x : Object). 1 + length (edges_of x)) o 0)) (set_past os x (with_renderbuffer (with_kind r) (get_or os x None)) l)
]

pub cheap_stored : (s new : State) (mid more : List (Option Object)) (r : RenderbufferValue) (x : ℕ) (v : StorageValue) (a b c : ℕ) → new.handles ≡ s.handles → more ≡ change_renderbuffer (with_kind r) x s.objects ++ Some (Storage v) ∷ [] → b + weight_of mid ≤ a + 2 + weight_of more → c + weight_of new.objects ≡ b + 1 + weight_of mid → IsCheap s new a c
cheap_stored s new mid more r x v a b c h m y z = inr (omega (arith, ap length h, ap weight_of m, weighs_storage (change_renderbuffer (with_kind r) x s.objects) v, kind_weighs r x s.objects, y, z))

pub cheap_dropped : (s new : State) (mid : List (Option Object)) (r : RenderbufferValue) (x a b : ℕ) → new.handles ≡ s.handles → mid ≡ change_renderbuffer (with_kind r) x s.objects → b + weight_of new.objects ≤ a + 2 + weight_of mid → IsCheap s new a b
cheap_dropped s new mid r x a b h m y = cheap_less s new a b h (omega (arith, y, ap weight_of m, kind_weighs r x s.objects))
