-- What is known of a part of a buffer that no rule refuses.
use Rattle.std.proofs.Common.{◌≡◌, ℕ, ◌+◌, ◌≤◌, length, subst, Option, None, Some}
use Rattle.std.specs.Prelude.{IfSome}
use Rattle.std.specs.Option.{option_and_then, option_map_or}
use Rattle.egl_calls.specs.Calls.{CallValue}
use Rattle.egl_calls.specs.declared.kinds.Kind.TheVariants.{Gl, Own}
use Rattle.egl_calls.specs.declared.kinds.GlKind.TheVariants.{BufferSubData}
use Rattle.egl_calls.specs.declared.kinds.OwnKind.TheVariants.{ReadBuffer}
use Rattle.call_rules.proofs.GlLaws.{buffer_part_allowed, read_buffer_allowed}
use Rattle.buffer_objects.specs.Buffers.{BufferValue}
use Rattle.egl_model.specs.Arguments.{number}
use Rattle.egl_model.specs.Buffers.{buffer_of, target_buffer}
use Rattle.egl_model.specs.GlCalls.{gl_refusal}
use Rattle.egl_model.specs.GlFacts.{gl_facts_of}
use Rattle.egl_model.specs.Objects.{buffer_in}
use Rattle.egl_model.specs.OwnCalls.{buffer_refusal}
use Rattle.egl_model.specs.State.{State}

abbrev size_of : Option BufferValue → ℕ
size_of o = option_map_or (λ b. length b.contents) o 0

bound_inside : (o : Option BufferValue) (end : ℕ) → end ≤ size_of o → IfSome o (λ b. end ≤ length b.contents)
bound_inside None end h = tt
bound_inside (Some b) end h = h

inside_at : (s : State) (n m : ℕ) (c : CallValue) → number c 1 + number c 2 ≤ size_of (buffer_of s n c) → target_buffer s n c ≡ Some m → IfSome (buffer_in s.objects m) (λ b. number c 1 + number c 2 ≤ length b.contents)
inside_at s n m c h e = bound_inside (buffer_in s.objects m) (number c 1 + number c 2) (subst (λ (o : Option ℕ). number c 1 + number c 2 ≤ size_of (option_and_then (buffer_in s.objects) o)) e h)

pub part_inside : (s : State) (t n m : ℕ) (c : CallValue) → c.kind ≡ Gl BufferSubData → gl_refusal s t n BufferSubData c ≡ None → target_buffer s n c ≡ Some m → IfSome (buffer_in s.objects m) (λ b. number c 1 + number c 2 ≤ length b.contents)
unfolding gl_refusal
part_inside s t n m c h r e = inside_at s n m c (buffer_part_allowed c (gl_facts_of s t n c) h r).inside e

pub read_inside : (s : State) (t n m : ℕ) (c : CallValue) → c.kind ≡ Own ReadBuffer → buffer_refusal s t n c ≡ None → target_buffer s n c ≡ Some m → IfSome (buffer_in s.objects m) (λ b. number c 1 + number c 2 ≤ length b.contents)
unfolding buffer_refusal
read_inside s t n m c h r e = inside_at s n m c (read_buffer_allowed c (gl_facts_of s t n c) h r).inside e
