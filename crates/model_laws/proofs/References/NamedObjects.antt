-- In a linked state what is named exists.
use Rattle.std.proofs.Common.{◌≡◌, ℕ, zero, suc, arith, ◌<◌, true, List, All, [], ◌∷◌, ◌++◌, refl, ap, ◌∙◌, length, Option, None, Some, get_or}
use Rattle.std.specs.Option.{option_to_list}
use Rattle.driver_objects.specs.declared.contexts.Context.{Context as ContextObject}
use Rattle.driver_objects.specs.Objects.{filled}
use Rattle.driver_objects.specs.declared.surfaces.BackedSurface.{BackedSurface}
use Rattle.driver_objects.specs.declared.objects.Object.{Object}
use Rattle.driver_objects.specs.declared.objects.Object.TheVariants.{Context, Group, Texture, Buffer, Renderbuffer, Framebuffer, Surface, Storage, Image, Sync}
use Rattle.display_table.specs.declared.handles.Handle.{Handle}
use Rattle.egl_model.specs.declared.records.Bound.{Bound}
use Rattle.egl_model.specs.Graph.{is_in}
use Rattle.egl_model.specs.State.{State, record_of, has_object}
use Rattle.egl_model.specs.Objects.{as_context, as_surface, context_in, surface_in}
use Rattle.egl_model.specs.Sweep.{bound_object, edges_at, edges_in, held_by}
use Rattle.egl_model.specs.Links.{IsLinked}
use Rattle.model_laws.specs.Named.{Exists}
use Rattle.model_laws.proofs.Changes.LinkedSteps.{at_head, at_tail, from_handle, from_thread, held_is_root, in_left, in_right, named_by}

-- what handles name exists, and what is current to threads, and what contexts and surfaces use
pub record NamesExist (s : State) : Type 0 where
  pub handles : All (λ h. has_object s h.object ≡ true) s.handles
  pub contexts : (t : ℕ) (b : Bound) → (record_of s t).context ≡ Some b → Exists s b.object
  pub draws : (t : ℕ) (b : Bound) → (record_of s t).draw ≡ Some b → Exists s b.object
  pub reads : (t : ℕ) (b : Bound) → (record_of s t).read ≡ Some b → Exists s b.object
  pub syncs : (t n : ℕ) → (record_of s t).wait ≡ Some n → Exists s n
  pub groups : (n : ℕ) (x : ContextObject) → context_in s.objects n ≡ Some x → Exists s x.group
  pub textures : (n : ℕ) (x : ContextObject) → context_in s.objects n ≡ Some x → Exists s x.texture
  pub storages : (n : ℕ) (x : BackedSurface) → surface_in s.objects n ≡ Some x → Exists s x.storage

-- a handle of the list names its object
handle_named : (hs : List Handle) (k : ℕ) (d : Handle) → k < length hs → is_in (get_or hs k d).object (named_by hs) ≡ true
unfolding named_by
handle_named [] k d h = absurd (omega arith)
handle_named (x ∷ hs) zero d h = at_head x.object x.object (named_by hs) refl
handle_named (x ∷ hs) (suc k) d h = at_tail (get_or hs k d).object x.object (named_by hs) (handle_named hs k d (omega arith))

held_exists : (s : State) → IsLinked s → (t n : ℕ) → is_in n (held_by (record_of s t)) ≡ true → Exists s n
held_exists s l t n h = l.roots n (from_thread s.handles s.threads n (held_is_root s.threads t n h))

bound_in : (o : Option Bound) (b : Bound) → o ≡ Some b → is_in b.object (bound_object o) ≡ true
bound_in o b e = ap (λ (x : Option Bound). is_in b.object (bound_object x)) e ∙ at_head b.object b.object [] refl

wait_in : (o : Option ℕ) (n : ℕ) → o ≡ Some n → is_in n (option_to_list o) ≡ true
wait_in o n e = ap (λ (x : Option ℕ). is_in n (option_to_list x)) e ∙ at_head n n [] refl

some_context : (a x : ContextObject) → Some a ≡ Some x → a ≡ x
some_context a x e = cc

some_surface : (a x : BackedSurface) → Some a ≡ Some x → a ≡ x
some_surface a x e = cc

none_context : {A : Type 0} (x : ContextObject) → None ≡ Some x → A
none_context x e = absurd (let f : None ≡ Some x = e in cc)

none_surface : {A : Type 0} (x : BackedSurface) → None ≡ Some x → A
none_surface x e = absurd (let f : None ≡ Some x = e in cc)

-- what a context refers to besides its group and its texture 0
bound_edges : ContextObject → List ℕ
bound_edges c = filled (c.bound.texture ∷ c.bound.array_buffer ∷ c.bound.element_array_buffer ∷ c.bound.renderbuffer ∷ c.bound.framebuffer ∷ [])

group_in : (o : Option Object) (x : ContextObject) → as_context o ≡ Some x → is_in x.group (edges_in o) ≡ true
unfolding bound_edges
group_in None x e = none_context x e
group_in (Some (Context a)) x e = at_head x.group a.group (a.texture ∷ bound_edges a) (ap (λ (c : ContextObject). c.group) (some_context a x e))
group_in (Some (Group a)) x e = none_context x e
group_in (Some (Texture a)) x e = none_context x e
group_in (Some (Buffer a)) x e = none_context x e
group_in (Some (Renderbuffer a)) x e = none_context x e
group_in (Some (Framebuffer a)) x e = none_context x e
group_in (Some (Surface a)) x e = none_context x e
group_in (Some (Storage a)) x e = none_context x e
group_in (Some (Image a)) x e = none_context x e
group_in (Some (Sync a)) x e = none_context x e

texture_in : (o : Option Object) (x : ContextObject) → as_context o ≡ Some x → is_in x.texture (edges_in o) ≡ true
unfolding bound_edges
texture_in None x e = none_context x e
texture_in (Some (Context a)) x e = at_tail x.texture a.group (a.texture ∷ bound_edges a) (at_head x.texture a.texture (bound_edges a) (ap (λ (c : ContextObject). c.texture) (some_context a x e)))
texture_in (Some (Group a)) x e = none_context x e
texture_in (Some (Texture a)) x e = none_context x e
texture_in (Some (Buffer a)) x e = none_context x e
texture_in (Some (Renderbuffer a)) x e = none_context x e
texture_in (Some (Framebuffer a)) x e = none_context x e
texture_in (Some (Surface a)) x e = none_context x e
texture_in (Some (Storage a)) x e = none_context x e
texture_in (Some (Image a)) x e = none_context x e
texture_in (Some (Sync a)) x e = none_context x e

storage_of : (o : Option Object) (x : BackedSurface) → as_surface o ≡ Some x → is_in x.storage (edges_in o) ≡ true
storage_of None x e = none_surface x e
storage_of (Some (Context a)) x e = none_surface x e
storage_of (Some (Group a)) x e = none_surface x e
storage_of (Some (Texture a)) x e = none_surface x e
storage_of (Some (Buffer a)) x e = none_surface x e
storage_of (Some (Renderbuffer a)) x e = none_surface x e
storage_of (Some (Framebuffer a)) x e = none_surface x e
storage_of (Some (Surface a)) x e = at_head x.storage a.storage [] (ap (λ (c : BackedSurface). c.storage) (some_surface a x e))
storage_of (Some (Storage a)) x e = none_surface x e
storage_of (Some (Image a)) x e = none_surface x e
storage_of (Some (Sync a)) x e = none_surface x e

pub names_exist : (s : State) → IsLinked s → NamesExist s
unfolding edges_at
names_exist s l = record {
  handles = λ k d h. l.roots _ (from_handle s.handles s.threads (get_or s.handles k d).object (handle_named s.handles k d h));
  contexts = λ t b e. let r = record_of s t in held_exists s l t b.object
      (in_left b.object (bound_object r.context ++ bound_object r.draw ++ bound_object r.read) (option_to_list r.wait)
      (in_left b.object (bound_object r.context ++ bound_object r.draw) (bound_object r.read) (in_left b.object (bound_object r.context) (bound_object r.draw) (bound_in r.context b e))));
  draws = λ t b e. let r = record_of s t in held_exists s l t b.object
      (in_left b.object (bound_object r.context ++ bound_object r.draw ++ bound_object r.read) (option_to_list r.wait)
      (in_left b.object (bound_object r.context ++ bound_object r.draw) (bound_object r.read) (in_right b.object (bound_object r.context) (bound_object r.draw) (bound_in r.draw b e))));
  reads = λ t b e. let r = record_of s t in held_exists s l t b.object
      (in_left b.object (bound_object r.context ++ bound_object r.draw ++ bound_object r.read) (option_to_list r.wait)
      (in_right b.object (bound_object r.context ++ bound_object r.draw) (bound_object r.read) (bound_in r.read b e)));
  syncs = λ t n e. let r = record_of s t in held_exists s l t n
      (in_right n (bound_object r.context ++ bound_object r.draw ++ bound_object r.read) (option_to_list r.wait) (wait_in r.wait n e));
  groups = λ n x e. l.edges n x.group (group_in (get_or s.objects n None) x e);
  textures = λ n x e. l.edges n x.texture (texture_in (get_or s.objects n None) x e);
  storages = λ n x e. l.edges n x.storage (storage_of (get_or s.objects n None) x e);
}
