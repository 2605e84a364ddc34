-- The calls that ask or set what a context keeps for itself change nothing of what it has bound.
use Rattle.std.proofs.Common.{◌≡◌, refl, Option, None, Some}
use Rattle.egl_calls.specs.Calls.{CallValue}
use Rattle.egl_calls.specs.declared.errors.GlError.{GlError}
use Rattle.context_state.specs.Calls.{after_rules, apply, apply_by, changed}
use Rattle.context_state.specs.Kinds.{context_call}
use Rattle.context_state.specs.Parts.{PartValue}
use Rattle.context_state.specs.Refusals.{refusal}
use Rattle.egl_calls.specs.declared.kinds.GlKind.{GlKind}
use Rattle.egl_calls.specs.declared.kinds.GlKind.TheVariants.{GetError}

changed_names : (k : GlKind) (c : CallValue) (p : PartValue) → (changed k c p).bound ≡ p.bound
changed_names GetError c p = refl
changed_names k c p = refl

ruled_names : (e : Option GlError) (k : GlKind) (c : CallValue) (p : PartValue) → (after_rules e k c p).part.bound ≡ p.bound
ruled_names None k c p = changed_names k c p
ruled_names (Some e) k c p = refl

by_call : (o : Option GlKind) (c : CallValue) (p : PartValue) → (apply_by o c p).part.bound ≡ p.bound
by_call None c p = refl
by_call (Some k) c p = ruled_names (refusal k c) k c p

pub applied_names : (c : CallValue) (p : PartValue) → (apply c p).part.bound ≡ p.bound
applied_names c p = by_call (context_call c.kind) c p
