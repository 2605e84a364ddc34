-- What the calls that attach to framebuffers keep, and how what calls on framebuffers look at passes what is put for others.
use Rattle.std.proofs.Common.{◌≡◌, ℕ, [], ◌∷◌, List, refl, ap, ◌∙◌, Option, None, Some}
use Rattle.std.specs.Option.{option_and_then, option_map}
use Rattle.egl_calls.specs.Calls.{CallValue}
use Rattle.framebuffer_objects.specs.Framebuffers.{at_point, object_of, with_point}
use Rattle.framebuffer_objects.specs.declared.framebuffers.Attached.{Attached}
use Rattle.framebuffer_objects.specs.declared.points.Point.{Point}
use Rattle.driver_objects.specs.Objects.{kind_of}
use Rattle.driver_objects.specs.declared.objects.Object.{Object}
use Rattle.driver_objects.specs.declared.objects.Object.TheVariants.{Context, Renderbuffer, Storage, Texture}
use Rattle.share_group.specs.declared.names.NameKind.{NameKind}
use Rattle.egl_model.specs.Arguments.{number}
use Rattle.egl_model.specs.Framebuffers.{attached, attached_as, attachment_of, called_point, given_attachment, target_framebuffer}
use Rattle.egl_model.specs.Names.{group_of, object_named}
use Rattle.egl_model.specs.Objects.{change_framebuffer, with_framebuffer}
use Rattle.egl_model.specs.Parts.{put_own}
use Rattle.egl_model.specs.State.{State, object_at}
use Rattle.model_laws.specs.Extents.{quiet}
use Rattle.model_laws.specs.Shapes.{Goes, Shape, kind_at, shapes}
use Rattle.model_laws.specs.Slots.{attached_kind}
use Rattle.model_laws.specs.Sound.{IsWhole}
use Rattle.model_laws.proofs.Steps.Blinds.{blind-object}
use Rattle.model_laws.proofs.Parts.BoundFramebuffers.{blind-framebuffer_of, blind-target_framebuffer}
use Rattle.model_laws.proofs.Changes.Keeps.{Acts, Blind, acts_of, acts_self, by_quiet_moves}
use Rattle.model_laws.proofs.Changes.LinkSetters.{setter-framebuffer, suits-point}
use Rattle.model_laws.proofs.Changes.Moves.{Change}
use Rattle.model_laws.proofs.Calls.NameCalls.{blind-group_of, blind-named}
use Rattle.model_laws.proofs.References.Places.{kind_at-shapes}
use Rattle.model_laws.proofs.Changes.Writes.{IsBlind}

-- ---- What is attached.
pub blind-attachment_of : (t n : ℕ) (c : CallValue) (s : State) → Blind t s (λ a. attachment_of a n c)
blind-attachment_of t n c s w v x ne = ap (λ o. option_and_then (at_point (called_point c)) o) (blind-framebuffer_of t n s w v x ne)

-- what has the name that a call gives
pub blind-called_object : (t n : ℕ) (k : NameKind) (name : ℕ) (s : State) → Blind t s (λ a. object_named a (group_of a n) k name)
blind-called_object t n k name s w v x ne = ap (λ g. object_named (put_own s v x) g k name) (blind-group_of t n s w v x ne) ∙ blind-named t (group_of s n) k name s w v x ne

as-blind : (name x : ℕ) → IsBlind (attached_as name x)
as-blind name x (Some (Context c)) = refl
as-blind name x (Some (Storage v)) = refl
as-blind name x o = refl

blind-as : (t name : ℕ) (o : Option ℕ) (s : State) → Blind t s (λ a. option_and_then (λ x. attached_as name x (object_at a x)) o)
blind-as t name None s w v x ne = refl
blind-as t name (Some n) s w v x ne = blind-object (attached_as name n) (as-blind name n) t n s w v x ne

blind-given : (t n : ℕ) (k : NameKind) (c : CallValue) (s : State) → Blind t s (λ a. given_attachment k a n c)
blind-given t n k c s w v x ne =
    ap (λ o. option_and_then (λ y. attached_as (number c 3) y (object_at (put_own s v x) y)) o) (blind-called_object t n k (number c 3) s w v x ne)
    ∙ blind-as t (number c 3) (object_named s (group_of s n) k (number c 3)) s w v x ne

-- ---- glFramebufferTexture2DOES and glFramebufferRenderbufferOES.
-- an attachment tells the kind of what has the name
goes_as : (sh : List (Option Shape)) (name x : ℕ) (o : Option Object) → kind_at sh x ≡ option_map kind_of o → Goes sh (attached_kind (attached_as name x o)) (object_of (attached_as name x o))
goes_as sh name x (Some (Texture y)) h = record { is = h }
goes_as sh name x (Some (Renderbuffer y)) h = record { is = h }
goes_as sh name x o h = tt

goes_given : (s : State) (name : ℕ) (o : Option ℕ) →
    Goes (shapes s.objects) (attached_kind (option_and_then (λ x. attached_as name x (object_at s x)) o)) (object_of (option_and_then (λ x. attached_as name x (object_at s x)) o))
goes_given s name None = tt
goes_given s name (Some x) = goes_as (shapes s.objects) name x (object_at s x) (kind_at-shapes s.objects x)

acts-attached_to : (s : State) (t : ℕ) (point : Point) (a : Option Attached) (o : Option ℕ) → (IsWhole (shapes s.objects) s → Goes (shapes s.objects) (attached_kind a) (object_of a)) → Acts quiet t s (λ z. attached point a o z)
unfolding change_framebuffer
acts-attached_to s t point a None g = acts_self t s
acts-attached_to s t point a (Some b) g = by_quiet_moves t s (Change b (with_framebuffer (with_point point a)) ∷ []) refl (setter-framebuffer (with_point point a), tt) (λ w. (suits-point t (shapes s.objects) s b point a (g w), tt))

pub acts-attached_named : (s : State) (t n : ℕ) (k : NameKind) (c : CallValue) → Acts quiet t s (λ a. attached (called_point c) (given_attachment k a n c) (target_framebuffer a n) a)
acts-attached_named s t n k c = acts_of quiet t s (λ a. given_attachment k a n c) (λ b a. attached (called_point c) b (target_framebuffer a n) a) (blind-given t n k c s)
    (acts_of quiet t s (λ a. target_framebuffer a n) (λ o a. attached (called_point c) (given_attachment k s n c) o a) (blind-target_framebuffer t n s)
    (acts-attached_to s t (called_point c) (given_attachment k s n c) (target_framebuffer s n) (λ w. goes_given s (number c 3) (object_named s (group_of s n) k (number c 3)))))
