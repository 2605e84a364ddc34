-- What is counted of an object that is changed where it stands.
use Rattle.std.proofs.Common.{◌≡◌, ℕ, true, ◌∷◌, [], refl, sym, ap, Option, None, Some, Result, Ok, Err}
use Rattle.std.proofs.lemmas.Bool.{cond_both, eqb-true, false≢true}
use Rattle.context_state.specs.Parts.{PartValue}
use Rattle.driver_objects.specs.Objects.{bytes_of, context_slots, edges_of, filled, framebuffer_slots, kind_of, rank_of}
use Rattle.driver_objects.specs.Storages.{StorageValue, storage_bytes}
use Rattle.driver_objects.specs.declared.contexts.Context.{Context as ContextObject}
use Rattle.driver_objects.specs.declared.fences.Fence.{Fence}
use Rattle.driver_objects.specs.declared.objects.Object.{Object}
use Rattle.driver_objects.specs.declared.objects.Object.TheVariants.{Context, Framebuffer, Renderbuffer, Storage, Surface, Sync, Texture}
use Rattle.driver_objects.specs.declared.renderbuffers.BackedRenderbuffer.{BackedRenderbuffer}
use Rattle.driver_objects.specs.declared.textures.BackedTexture.{BackedTexture}
use Rattle.egl_model.specs.Objects.{with_context, with_fence, with_framebuffer, with_part, with_renderbuffer, with_storage, with_surface, with_texture}
use Rattle.egl_model.specs.Parts.{is_place, set_image, set_part}
use Rattle.framebuffer_objects.specs.Framebuffers.{FramebufferValue, object_of, with_point}
use Rattle.framebuffer_objects.specs.declared.framebuffers.Attached.{Attached}
use Rattle.framebuffer_objects.specs.declared.points.Point.{Point}
use Rattle.framebuffer_objects.specs.declared.points.Point.TheVariants.{Color, Depth, Stencil}
use Rattle.pixel_rows.specs.Images.{ImageValue}
use Rattle.ref_store.specs.Edits.{CountsAs}
use Rattle.surface_store.specs.Surfaces.{SurfaceValue}
use Rattle.object_table.specs.Amounts.{kind_number, mark_of}
use Rattle.object_table.specs.Changes.{when_ok}
use Rattle.object_table.specs.Links.{renamed}
use Rattle.object_table.specs.Nodes.{edges, rank}
use Rattle.object_table.specs.declared.stored.Stored.{Stored}

-- y is counted as x is: by its rank, its references, its bytes, its kind and the window that it shows in
abbrev pub IsCountedAs : Object → Object → Type 0
IsCountedAs x y = CountsAs rank_of edges_of bytes_of (λ o. kind_number (kind_of o)) mark_of x y

-- and so are their nodes
pub counted_node : (x y : Stored) → IsCountedAs x.object y.object → CountsAs rank edges (λ s. bytes_of s.object) (λ s. kind_number (kind_of s.object)) (λ s. mark_of s.object) x y
counted_node x y h = record { same_rank = h.same_rank; same_edges = h.same_edges; same_size = h.same_size; same_kind = h.same_kind; same_mark = h.same_mark }

counted_by : (x y z : Object) → Some y ≡ Some z → rank_of z ≡ rank_of x → edges_of z ≡ edges_of x → bytes_of z ≡ bytes_of x → kind_of z ≡ kind_of x → mark_of z ≡ mark_of x → IsCountedAs x y
counted_by x y z h r e b k m = let w : y ≡ z = cc in rw w (record { same_rank = r; same_edges = e; same_size = b; same_kind = ap kind_number k; same_mark = m })

counted_same : (x y : Object) → Some y ≡ Some x → IsCountedAs x y
counted_same x y h = counted_by x y x h refl refl refl refl refl

-- what each of these changes keeps
pub part_counted : (f : PartValue → PartValue) (x y : Object) → Some y ≡ with_part f (Some x) → IsCountedAs x y
part_counted f (Context c) y h = counted_by (Context c) y _ h refl refl refl refl refl
part_counted f x y h = counted_same x y h

pub set_part_counted : (p : Option PartValue) (x y : Object) → Some y ≡ set_part p (Some x) → IsCountedAs x y
set_part_counted p (Context c) y h = counted_by (Context c) y _ h refl refl refl refl refl
set_part_counted p x y h = counted_same x y h

pub set_image_counted : (i : Option ImageValue) (x y : Object) → Some y ≡ set_image i (Some x) → IsCountedAs x y
set_image_counted i (Storage v) y h = counted_by (Storage v) y _ h refl refl refl refl refl
set_image_counted i x y h = counted_same x y h

pub context_counted : (f : ContextObject → ContextObject) → ((c : ContextObject) → context_slots (f c) ≡ context_slots c) → (x y : Object) → Some y ≡ with_context f (Some x) → IsCountedAs x y
context_counted f e (Context c) y h = counted_by (Context c) y _ h refl (ap filled (e c)) refl refl refl
context_counted f e x y h = counted_same x y h

pub surface_counted : (f : SurfaceValue → SurfaceValue) (x y : Object) → Some y ≡ with_surface f (Some x) → IsCountedAs x y
surface_counted f (Surface v) y h = counted_by (Surface v) y _ h refl refl refl refl refl
surface_counted f x y h = counted_same x y h

pub storage_counted : (f : StorageValue → StorageValue) → ((v : StorageValue) → storage_bytes (f v) ≡ storage_bytes v) → (x y : Object) → Some y ≡ with_storage f (Some x) → IsCountedAs x y
storage_counted f e (Storage v) y h = counted_by (Storage v) y _ h refl refl (e v) refl refl
storage_counted f e x y h = counted_same x y h

pub fence_counted : (f : Fence → Fence) (x y : Object) → Some y ≡ with_fence f (Some x) → IsCountedAs x y
fence_counted f (Sync z) y h = counted_by (Sync z) y _ h refl refl refl refl refl
fence_counted f x y h = counted_same x y h

pub texture_counted : (f : BackedTexture → BackedTexture) → ((v : BackedTexture) → (f v).levels ≡ v.levels) → (x y : Object) → Some y ≡ with_texture f (Some x) → IsCountedAs x y
texture_counted f e (Texture v) y h = counted_by (Texture v) y _ h refl (ap filled (e v)) refl refl refl
texture_counted f e x y h = counted_same x y h

pub renderbuffer_counted : (f : BackedRenderbuffer → BackedRenderbuffer) → ((v : BackedRenderbuffer) → (f v).storage ≡ v.storage) → (x y : Object) → Some y ≡ with_renderbuffer f (Some x) → IsCountedAs x y
renderbuffer_counted f e (Renderbuffer v) y h = counted_by (Renderbuffer v) y _ h refl (ap (λ o. filled (o ∷ [])) (e v)) refl refl refl
renderbuffer_counted f e x y h = counted_same x y h

pub framebuffer_counted : (f : FramebufferValue → FramebufferValue) → ((v : FramebufferValue) → framebuffer_slots (f v) ≡ framebuffer_slots v) → (x y : Object) → Some y ≡ with_framebuffer f (Some x) → IsCountedAs x y
framebuffer_counted f e (Framebuffer v) y h = counted_by (Framebuffer v) y _ h refl (ap filled (e v)) refl refl refl
framebuffer_counted f e x y h = counted_same x y h

pub when_ok_counted : {A E : Type 0} (r : Result A E) (f : Option Object → Option Object) → ((x y : Object) → Some y ≡ f (Some x) → IsCountedAs x y) → (x y : Object) → Some y ≡ when_ok r f (Some x) → IsCountedAs x y
when_ok_counted (Ok a) f k x y h = k x y h
when_ok_counted (Err e) f k x y h = counted_same x y h

pub is_placed : (x : ℕ) (o : Option ℕ) → is_place x o ≡ true → o ≡ Some x
is_placed x None h = absurd (false≢true h)
is_placed x (Some m) h = ap Some (eqb-true m x h)

-- what is attached stays attached where it gets its name
pub renamed_slots : (p : Point) (a : Attached) (v : FramebufferValue) → framebuffer_slots (renamed p a v) ≡ framebuffer_slots v
renamed_slots Color a v = cond_both (is_place a.object (object_of v.color)) (with_point Color (Some a) v) v (λ w. framebuffer_slots w ≡ framebuffer_slots v) (λ e. ap (λ o. o ∷ object_of v.depth ∷ object_of v.stencil ∷ []) (sym (is_placed a.object (object_of v.color) e))) (λ e. refl)
renamed_slots Depth a v = cond_both (is_place a.object (object_of v.depth)) (with_point Depth (Some a) v) v (λ w. framebuffer_slots w ≡ framebuffer_slots v) (λ e. ap (λ o. object_of v.color ∷ o ∷ object_of v.stencil ∷ []) (sym (is_placed a.object (object_of v.depth) e))) (λ e. refl)
renamed_slots Stencil a v = cond_both (is_place a.object (object_of v.stencil)) (with_point Stencil (Some a) v) v (λ w. framebuffer_slots w ≡ framebuffer_slots v) (λ e. ap (λ o. object_of v.color ∷ object_of v.depth ∷ o ∷ []) (sym (is_placed a.object (object_of v.stencil) e))) (λ e. refl)
