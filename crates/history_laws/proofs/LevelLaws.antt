-- Each step leaves each texture its eleven levels, and so does each history.
use Rattle.std.proofs.Common.{◌≡◌, ◌≢◌, ℕ, zero, suc, ◌==◌, ◌&&◌, not, List, [], ◌∷◌, length, refl, sym, subst, ℤ, Option, None, Some}
use Rattle.std.specs.Option.{option_map_or}
use Rattle.std.proofs.lemmas.Bool.{cond_both}
use Rattle.egl_calls.specs.Calls.{CallValue}
use Rattle.egl_calls.specs.Ranges.{unsigned}
use Rattle.egl_calls.specs.declared.entries.Entry.{Entry}
use Rattle.egl_calls.specs.declared.errors.EglError.TheVariants.{Success}
use Rattle.egl_calls.specs.declared.kinds.EglKind.{EglKind}
use Rattle.egl_calls.specs.declared.kinds.EglKind.TheVariants.{SwapBuffers}
use Rattle.egl_calls.specs.declared.kinds.GlKind.{GlKind}
use Rattle.egl_calls.specs.declared.kinds.GlKind.TheVariants.{ImageTargetTexture2d}
use Rattle.call_table.specs.Rows.{gl_role}
use Rattle.call_table.specs.declared.roles.Role.{Role}
use Rattle.call_table.specs.declared.roles.Role.TheVariants.{Asks, Attaches, Binds, Clears, Deletes, Draws, Flushes, Generates, ReadsPixels}
use Rattle.context_state.specs.Calls.{apply}
use Rattle.context_state.specs.Kinds.{context_gl_call}
use Rattle.context_state.specs.Parts.{PartValue, noted}
use Rattle.display_table.specs.declared.handles.Handle.{Handle}
use Rattle.framebuffer_objects.specs.Framebuffers.{with_point}
use Rattle.framebuffer_objects.specs.declared.framebuffers.Attached.{Attached}
use Rattle.framebuffer_objects.specs.declared.points.Point.{Point}
use Rattle.pixel_rows.specs.Images.{ImageValue}
use Rattle.pixel_rows.specs.declared.rects.Rect.{Rect}
use Rattle.rect_pipeline.specs.Samplers.{SamplerValue}
use Rattle.share_group.specs.declared.names.NameKind.{NameKind}
use Rattle.surface_store.specs.declared.windows.WindowSpec.{WindowSpec}
use Rattle.driver_objects.specs.Storages.{StorageValue, cleared, rewritten_storage}
use Rattle.driver_objects.specs.Targets.{binding_of, slot_of, target_of}
use Rattle.driver_objects.specs.declared.objects.Object.{Object}
use Rattle.driver_objects.specs.declared.surfaces.BackedSurface.{BackedSurface}
use Rattle.driver_objects.specs.declared.targets.BindTarget.{BindTarget}
use Rattle.driver_objects.specs.declared.targets.BindTarget.TheVariants.{ArrayBuffer, ElementArrayBuffer, Framebuffer as framebuffer_target, Renderbuffer as renderbuffer_target, Texture as texture_target}
use Rattle.driver_objects.specs.declared.textures.BackedTexture.{BackedTexture}
use Rattle.egl_image.specs.declared.images.EglImage.{EglImage}
use Rattle.framebuffer_objects.specs.Renderbuffers.{RenderbufferValue}
use Rattle.egl_model.specs.Arguments.{number}
use Rattle.egl_model.specs.Bindings.{bound_at, bound_framebuffer_in, bound_name, bound_named, bound_object, deleted_in, deleted_name, detached_from, detached_on, named_at, new_object, unbound_in, unbound_object}
use Rattle.egl_model.specs.Buffers.{set_data, set_part_of, with_data, with_part_of}
use Rattle.egl_model.specs.Contexts.{context_objects, created_context, shared_group}
use Rattle.egl_model.specs.Copies.{copied, copied_from, copied_level, copied_part_from, copies_nothing, read_image}
use Rattle.egl_model.specs.Currents.{bound_surface, current_context, part_of_context}
use Rattle.egl_model.specs.Drawing.{clear_storage, cleared_draw, clears_colour}
use Rattle.egl_model.specs.Draws.{draw_into, drawn, drawn_rect, sampler}
use Rattle.egl_model.specs.EglCalls.{egl_effect}
use Rattle.egl_model.specs.Flushes.{flush, flush_in, flushed_to}
use Rattle.egl_model.specs.Framebuffers.{attached, bound_framebuffer, called_point, given_attachment, target_framebuffer}
use Rattle.egl_model.specs.GlCalls.{effect_by, gl_effect, plain_gl_effect, role_effect}
use Rattle.egl_model.specs.History.{replay_from}
use Rattle.egl_model.specs.Images.{add_image, levels_dropped, renderbuffer_of_image, target_image, texture_of_image}
use Rattle.egl_model.specs.MakeCurrent.{bound_anew as bound_other, context_handle, draw_handle, first_use, made_current, released}
use Rattle.egl_model.specs.Names.{generated, group_of, object_named, with_more}
use Rattle.egl_model.specs.Objects.{texture_in}
use Rattle.egl_model.specs.Renderbuffers.{stored_as, with_kind}
use Rattle.egl_model.specs.State.{State, opening, record_of, set_error}
use Rattle.egl_model.specs.Step.{step}
use Rattle.egl_model.specs.Surfaces.{created_pbuffer, with_behavior}
use Rattle.egl_model.specs.Sweep.{roots}
use Rattle.egl_model.specs.Syncs.{add_sync, asks_for_flush, client_waited, flush_for, has_to_wait, serve, served_fence}
use Rattle.egl_model.specs.Textures.{level_of, rewritten_part, set_crop, set_parameter, specified, storage_at, target_texture, with_crop, with_value}
use Rattle.egl_model.specs.Waits.{is_signalled, waiting}
use Rattle.egl_model.specs.Windows.{created_window, swapped, swapped_surface, swapped_with}
use Rattle.model_laws.specs.Laws.{IsAllowedGl}
use Rattle.model_laws.proofs.Pixels.ImageLaws.{base_of_image, levels_of_image}
use Rattle.model_laws.proofs.Steps.Ways.{HoldsEachWay, each_way}
use Rattle.history_laws.specs.Levels.{HaveLevels}
use Rattle.history_laws.proofs.LevelChanges.{AreNew, Elevens, adds, change_buffer_keeps, change_context_keeps, change_fence_keeps, change_framebuffer_keeps, change_group_keeps, change_part_keeps, change_pixels_keeps, change_renderbuffer_keeps, change_storage_keeps, change_surface_keeps, change_texture_keeps, empty, had, have, specified_keeps, sweeps}

-- ---- Calls of EGL.
flush_keeps : (o : Option ℕ) (os : List (Option Object)) → Elevens os → Elevens (flush_in o os)
flush_keeps None os e = e
flush_keeps (Some n) os e = change_context_keeps (flushed_to (length os)) n os e

context_is_new : (n config d : ℕ) (group : Option ℕ) → AreNew (context_objects n config d group)
context_is_new n config d None = (tt, (tt, (refl, tt)))
context_is_new n config d (Some group) = (tt, (refl, tt))

behavior_keeps : (s : State) (c : CallValue) (o : Option Handle) → Elevens s.objects → Elevens (with_behavior s c o).objects
behavior_keeps s c None e = e
behavior_keeps s c (Some h) e = change_surface_keeps _ h.object s.objects e

use_keeps : (context draw : Option Handle) (os : List (Option Object)) → Elevens os → Elevens (first_use context draw os)
use_keeps None draw os e = e
use_keeps (Some h) draw os e = change_part_keeps _ h.object os e

current_keeps : (s : State) (t : ℕ) (c : CallValue) → Elevens s.objects → Elevens (made_current s t c).objects
current_keeps s t c e = flush_keeps (current_context s t) (bound_other s t c).objects (bound_keeps s t c e)
  where
    bound_keeps : (s : State) (t : ℕ) (c : CallValue) → Elevens s.objects → Elevens (bound_other s t c).objects
    bound_keeps s t c e = cond_both _ _ _ (λ (a : State). Elevens a.objects) (λ q. e) (λ q. use_keeps (context_handle s c) (draw_handle s c) s.objects e)

swap_keeps : (x : BackedSurface) (o : Option ℤ) (s : State) → Elevens s.objects → Elevens (swapped_with x o s).objects
swap_keeps x None s e = e
swap_keeps x (Some id) s e = change_storage_keeps _ x.storage s.objects e

surface_swap_keeps : (o : Option BackedSurface) (s : State) → Elevens s.objects → Elevens (swapped_surface o s).objects
surface_swap_keeps None s e = e
surface_swap_keeps (Some x) s e = swap_keeps x x.surface.window s e

sync_keeps : (s : State) (d : ℕ) (o : Option ℕ) → Elevens s.objects → Elevens (add_sync s d o).objects
sync_keeps s d None e = e
sync_keeps s d (Some context) e = adds s.objects _ e (tt, tt)

wait_keeps : (c : CallValue) (t : ℕ) (o : Option Handle) (s : State) → Elevens s.objects → Elevens (client_waited c t o s).state.objects
wait_keeps c t None s e = e
wait_keeps c t (Some h) s e = cond_both (has_to_wait c h.object (flush_for c t h.object s)) (waiting (flush_for c t h.object s) t (Some h.object)) (flush_for c t h.object s) (λ (a : State). Elevens a.objects) (λ q. before) (λ q. before)
  where
    before : Elevens (flush_for c t h.object s).objects
    before = cond_both (asks_for_flush c && not (is_signalled s h.object)) (flush_in (current_context s t) s.objects) s.objects Elevens (λ q. flush_keeps (current_context s t) s.objects e) (λ q. e)

serve_keeps : (o : Option Handle) (s : State) → Elevens s.objects → Elevens (serve o s).objects
serve_keeps None s e = e
serve_keeps (Some h) s e = change_fence_keeps served_fence h.object s.objects e

image_keeps : (s : State) (d : ℕ) (o : Option ℕ) → Elevens s.objects → Elevens (option_map_or (add_image s d) o s).objects
image_keeps s d None e = e
image_keeps s d (Some k) e = adds s.objects _ e (tt, tt)

window_keeps : (s : State) (c : CallValue) → Elevens s.objects → Elevens (created_window s c).objects
window_keeps s c e = adds s.objects _ e (tt, (tt, tt))

pbuffer_keeps : (s : State) (c : CallValue) → Elevens s.objects → Elevens (created_pbuffer s c).objects
pbuffer_keeps s c e = adds s.objects _ e (tt, (tt, tt))

context_keeps : (s : State) (c : CallValue) → Elevens s.objects → Elevens (created_context s c).objects
context_keeps s c e = adds s.objects _ e (context_is_new (length s.objects) (number c 1) (number c 0) (shared_group s c))

flushed_keeps : (s : State) (t : ℕ) → Elevens s.objects → Elevens (flush s t).objects
flushed_keeps s t e = flush_keeps (current_context s t) s.objects e

swapped_keeps : (s : State) (t : ℕ) → Elevens s.objects → Elevens (flush (swapped s t) t).objects
swapped_keeps s t e = flushed_keeps (swapped s t) t (surface_swap_keeps (bound_surface s (record_of s t).draw) s e)

released_keeps : (s : State) (t : ℕ) → Elevens s.objects → Elevens (released s t).objects
released_keeps s t e = flush_keeps (current_context s t) s.objects e

-- what calls of EGL do is made of these
ruleset egl_level_moves = (window_keeps, pbuffer_keeps, behavior_keeps, context_keeps, current_keeps, flushed_keeps, swapped_keeps, sync_keeps, wait_keeps, serve_keeps, image_keeps, released_keeps)

egl_keeps : (s : State) (t : ℕ) (k : EglKind) (c : CallValue) → Elevens s.objects → Elevens (egl_effect s t k c).state.objects
-- one call is named, so that each other is a case of its own
egl_keeps s t SwapBuffers c e = search (egl_level_moves, e)
egl_keeps s t k c e = search (egl_level_moves, e)

-- ---- Calls of OpenGL ES.
clear_keeps : (p : Option PartValue) (o : Option ℕ) (s : State) → Elevens s.objects → Elevens (clear_storage p o s).objects
clear_keeps (Some p) (Some n) s e = change_storage_keeps (cleared p) n s.objects e
clear_keeps (Some p) None s e = e
clear_keeps None o s e = e

cleared_keeps : (s : State) (t n : ℕ) (c : CallValue) → Elevens s.objects → Elevens (cleared_draw s t n c).objects
cleared_keeps s t n c e = cond_both (clears_colour c) (clear_storage (part_of_context s n) (bound_framebuffer s t).draw s) s (λ (a : State). Elevens a.objects) (λ q. clear_keeps (part_of_context s n) (bound_framebuffer s t).draw s e) (λ q. e)

draw_keeps : (p : Option PartValue) (o : Option ℕ) (from : Option SamplerValue) (r : Rect) (s : State) → Elevens s.objects → Elevens (draw_into p o from r s).objects
draw_keeps (Some p) (Some m) from r s e = change_storage_keeps _ m s.objects e
draw_keeps (Some p) None from r s e = e
draw_keeps None o from r s e = e

drawn_keeps : (s : State) (t n : ℕ) (k : GlKind) (c : CallValue) → Elevens s.objects → Elevens (drawn s t n k c).objects
drawn_keeps s t n k c e = draw_keeps (part_of_context s n) (bound_framebuffer s t).draw (sampler s n (drawn_rect k c)) (drawn_rect k c) s e

generated_keeps : (s : State) (g : ℕ) (k : NameKind) (count : ℕ) → Elevens s.objects → Elevens (generated s g k count).state.objects
generated_keeps s g k count e = change_group_keeps (with_more k count) g s.objects e

detach_keeps : (o : Option ℕ) (x : ℕ) (os : List (Option Object)) → Elevens os → Elevens (detached_on o x os)
detach_keeps None x os e = e
detach_keeps (Some b) x os e = change_framebuffer_keeps (detached_from x) b os e

unbind_keeps : (k : NameKind) (n : ℕ) (o : Option ℕ) (os : List (Option Object)) → Elevens os → Elevens (unbound_in k n o os)
unbind_keeps k n None os e = e
unbind_keeps k n (Some x) os e = change_context_keeps (unbound_object k x) n _ (detach_keeps (bound_framebuffer_in n os) x os e)

deleted_keeps : (k : NameKind) (g n : ℕ) (xs : List ℤ) (s : State) → Elevens s.objects → Elevens (deleted_in k g n xs s).objects
deleted_keeps k g n [] s e = e
deleted_keeps k g n (x ∷ xs) s e = deleted_keeps k g n xs (deleted_name k g n (unsigned x) s) (change_group_keeps _ g _ (unbind_keeps k n (object_named s g k (unsigned x)) s.objects e))

bound_object_keeps : (b : BindTarget) (n : ℕ) (o : Option ℕ) (name : ℕ) (os : List (Option Object)) → Elevens os → Elevens (bound_object b n o name os)
bound_object_keeps b n o name os e = change_context_keeps (bound_at (slot_of b) o) n _ (change_context_keeps (named_at (binding_of b) name) n os e)

new_for : (b : BindTarget) → AreNew (Some (new_object b) ∷ [])
new_for texture_target = (refl, tt)
new_for ArrayBuffer = (tt, tt)
new_for ElementArrayBuffer = (tt, tt)
new_for renderbuffer_target = (tt, tt)
new_for framebuffer_target = (tt, tt)

bound_named_keeps : (b : BindTarget) (g n name : ℕ) (o : Option ℕ) (s : State) → Elevens s.objects → Elevens (bound_named b g n name o s).objects
bound_named_keeps b g n name (Some x) s e = bound_object_keeps b n (Some x) name s.objects e
bound_named_keeps b g n name None s e = bound_object_keeps b n (Some (length s.objects)) name _ (change_group_keeps _ g _ (adds s.objects (Some (new_object b) ∷ []) e (new_for b)))

bound_name_keeps : (b : BindTarget) (s : State) (n name : ℕ) → Elevens s.objects → Elevens (bound_name b s n name).objects
bound_name_keeps b s n name e = cond_both (name == 0) (record s { objects = bound_object b n None 0 s.objects }) _ (λ (a : State). Elevens a.objects)
    (λ q. bound_object_keeps b n None 0 s.objects e) (λ q. bound_named_keeps b (group_of s n) n name _ s e)

parameter_keeps : (pname value : ℕ) (o : Option ℕ) (s : State) → Elevens s.objects → Elevens (set_parameter pname value o s).objects
parameter_keeps pname value None s e = e
parameter_keeps pname value (Some x) s e = change_texture_keeps (with_value pname value) (λ y. refl) x s.objects e

crop_keeps : (xs : List ℤ) (o : Option ℕ) (s : State) → Elevens s.objects → Elevens (set_crop xs o s).objects
crop_keeps xs None s e = e
crop_keeps xs (Some x) s e = change_texture_keeps (with_crop xs) (λ y. refl) x s.objects e

level_keeps : (k : ℕ) (v : Option StorageValue) (o : Option ℕ) (s : State) → Elevens s.objects → Elevens (specified k v o s).objects
level_keeps k v None s e = e
level_keeps k v (Some x) s e = specified_keeps k v x s.objects e

rewritten_keeps : (c : CallValue) (align : ℕ) (o : Option ℕ) (s : State) → Elevens s.objects → Elevens (rewritten_part c align o s).objects
rewritten_keeps c align None s e = e
rewritten_keeps c align (Some n) s e = change_storage_keeps (rewritten_storage c align) n s.objects e

copied_from_keeps : (i : Option ImageValue) (c : CallValue) (o : Option ℕ) (s : State) → Elevens s.objects → Elevens (copied_from i c o s).objects
copied_from_keeps (Some i) c o s e = level_keeps (level_of c) (Some (copied_level c i)) o s e
copied_from_keeps None c o s e = e

copied_keeps : (s : State) (t n : ℕ) (c : CallValue) → Elevens s.objects → Elevens (copied s t n c).objects
copied_keeps s t n c e = cond_both (copies_nothing c) (specified (level_of c) None (target_texture s n) s) (copied_from (read_image s t) c (target_texture s n) s) (λ (a : State). Elevens a.objects)
    (λ q. level_keeps (level_of c) None (target_texture s n) s e) (λ q. copied_from_keeps (read_image s t) c (target_texture s n) s e)

copied_part_keeps : (i : Option ImageValue) (c : CallValue) (o : Option ℕ) (s : State) → Elevens s.objects → Elevens (copied_part_from i c o s).objects
copied_part_keeps i c (Some m) s e = change_storage_keeps _ m s.objects e
copied_part_keeps i c None s e = e

data_keeps : (c : CallValue) (o : Option ℕ) (s : State) → Elevens s.objects → Elevens (set_data c o s).objects
data_keeps c None s e = e
data_keeps c (Some x) s e = change_buffer_keeps (with_data c) x s.objects e

part_of_keeps : (c : CallValue) (o : Option ℕ) (s : State) → Elevens s.objects → Elevens (set_part_of c o s).objects
part_of_keeps c None s e = e
part_of_keeps c (Some x) s e = change_buffer_keeps (with_part_of c) x s.objects e

stored_keeps : (r : RenderbufferValue) (v : Option StorageValue) (o : Option ℕ) (s : State) → Elevens s.objects → Elevens (stored_as r v o s).objects
stored_keeps r v None s e = e
stored_keeps r v (Some x) s e = specified_keeps 0 v x _ (change_renderbuffer_keeps (with_kind r) x s.objects e)

attached_keeps : (p : Point) (a : Option Attached) (o : Option ℕ) (s : State) → Elevens s.objects → Elevens (attached p a o s).objects
attached_keeps p a None s e = e
attached_keeps p a (Some b) s e = change_framebuffer_keeps (with_point p a) b s.objects e

dropped_keeps : (k x : ℕ) (os : List (Option Object)) → Elevens os → Elevens (levels_dropped k x os)
dropped_keeps zero x os e = e
dropped_keeps (suc k) x os e = change_pixels_keeps (suc k) None x (levels_dropped k x os) (dropped_keeps k x os e)

texture_image_keeps : (i : Option EglImage) (o : Option ℕ) (s : State) → Elevens s.objects → Elevens (texture_of_image i o s).objects
texture_image_keeps (Some i) (Some x) s e = change_pixels_keeps 0 (Some i.storage) x (levels_dropped 10 x s.objects) (dropped_keeps 10 x s.objects e)
texture_image_keeps (Some i) None s e = e
texture_image_keeps None o s e = e

renderbuffer_image_keeps : (i : Option EglImage) (o : Option ℕ) (s : State) → Elevens s.objects → Elevens (renderbuffer_of_image i o s).objects
renderbuffer_image_keeps (Some i) (Some x) s e = change_pixels_keeps 0 (Some i.storage) x _ (change_renderbuffer_keeps _ x s.objects e)
renderbuffer_image_keeps (Some i) None s e = e
renderbuffer_image_keeps None o s e = e

-- what calls on objects that are bound do is made of these
ruleset level_moves = (parameter_keeps, crop_keeps, level_keeps, rewritten_keeps, copied_keeps, copied_part_keeps, data_keeps, part_of_keeps, stored_keeps, texture_image_keeps, renderbuffer_image_keeps)

plain_keeps : (s : State) (t n : ℕ) (k : GlKind) (c : CallValue) → Elevens s.objects → Elevens (plain_gl_effect s t n k c).state.objects
-- one call is named, so that each other is a case of its own
plain_keeps s t n ImageTargetTexture2d c e = search (level_moves, e)
plain_keeps s t n k c e = search (level_moves, e)

role_keeps : (r : Role) (s : State) (t n : ℕ) (k : GlKind) (c : CallValue) → Elevens s.objects → Elevens (role_effect r s t n k c).state.objects
role_keeps Flushes s t n k c e = flush_keeps (Some n) s.objects e
role_keeps Clears s t n k c e = cleared_keeps s t n c e
role_keeps ReadsPixels s t n k c e = e
role_keeps Draws s t n k c e = drawn_keeps s t n k c e
role_keeps (Generates names) s t n k c e = generated_keeps s (group_of s n) names (number c 0) e
role_keeps (Deletes names) s t n k c e = deleted_keeps names (group_of s n) n c.list s e
role_keeps (Asks names) s t n k c e = e
role_keeps (Binds names) s t n k c e = bound_name_keeps (target_of names (number c 0)) s n (number c 1) e
role_keeps (Attaches names) s t n k c e = attached_keeps (called_point c) (given_attachment names s n c) (target_framebuffer s n) s e
role_keeps r s t n k c e = plain_keeps s t n k c e

effect_keeps : (o : Option GlKind) (s : State) (t n : ℕ) (k : GlKind) (c : CallValue) → Elevens s.objects → Elevens (effect_by o s t n k c).state.objects
effect_keeps (Some own) s t n k c e = change_part_keeps (λ p. (apply c p).part) n s.objects e
effect_keeps None s t n k c e = role_keeps (gl_role k) s t n k c e

-- ---- Steps and histories.
each : (s : State) (t : ℕ) (c : CallValue) → Elevens s.objects → HoldsEachWay (λ (a : State). Elevens a.objects) s t c
each s t c e = record {
  stays = e;
  egl_error = λ x. e;
  gl_error = λ n x i. change_part_keeps (noted x) n s.objects e;
  egl_done = λ k h r. sweeps (roots (set_error (egl_effect s t k c).state t Success)) (egl_effect s t k c).state.objects (egl_keeps s t k c e);
  gl_done = λ n k h r i. sweeps (roots (gl_effect s t n k c).state) (gl_effect s t n k c).state.objects (effect_keeps (context_gl_call k) s t n k c e);
  swept = sweeps (roots s) s.objects e;
  wait_done = sweeps (roots (waiting s t None)) s.objects e;
}

step_keeps : (s : State) (t : ℕ) (c : CallValue) → Elevens s.objects → Elevens (step s t c).state.objects
step_keeps s t c e = each_way (λ (a : State). Elevens a.objects) s t c (each s t c e)

history_keeps : (s : State) (es : List Entry) → Elevens s.objects → Elevens (replay_from s es).objects
history_keeps s [] e = e
history_keeps s (x ∷ es) e = history_keeps (step s x.thread x.call).state es (step_keeps s x.thread x.call e)

pub opening_levels : (windows : List WindowSpec) (video : ℕ) → HaveLevels (opening windows video)
opening_levels windows video = have (opening windows video) empty

pub step_levels : (s : State) (t : ℕ) (c : CallValue) → HaveLevels s → HaveLevels (step s t c).state
step_levels s t c h = have (step s t c).state (step_keeps s t c (had s h))

pub history_levels : (windows : List WindowSpec) (video : ℕ) (entries : List Entry) → HaveLevels (replay_from (opening windows video) entries)
history_levels windows video entries = have (replay_from (opening windows video) entries) (history_keeps (opening windows video) entries empty)

-- ---- What has an image's pixels, in a state that has come about by calls.
here : (windows : List WindowSpec) (video : ℕ) (entries : List Entry) (s : State) → s ≡ replay_from (opening windows video) entries → HaveLevels s
here windows video entries s h = subst HaveLevels (sym h) (history_levels windows video entries)

pub base_in_history : (windows : List WindowSpec) (video : ℕ) (entries : List Entry) (s : State) (t n : ℕ) (c : CallValue) (x : ℕ) (i : EglImage) (y z : BackedTexture) → s ≡ replay_from (opening windows video) entries → IsAllowedGl s t n ImageTargetTexture2d c → target_texture s n ≡ Some x → target_image s n c ≡ Some i → texture_in s.objects x ≡ Some y → texture_in (step s t c).state.objects x ≡ Some z → storage_at 0 z ≡ Some i.storage
base_in_history windows video entries s t n c x i y z h a target image before after = base_of_image s t n c x i y z a target image before ((here windows video entries s h).each x y before) after

pub levels_in_history : (windows : List WindowSpec) (video : ℕ) (entries : List Entry) (s : State) (t n : ℕ) (c : CallValue) (x j : ℕ) (i : EglImage) (y z : BackedTexture) → s ≡ replay_from (opening windows video) entries → IsAllowedGl s t n ImageTargetTexture2d c → target_texture s n ≡ Some x → target_image s n c ≡ Some i → texture_in s.objects x ≡ Some y → texture_in (step s t c).state.objects x ≡ Some z → j ≢ 0 → storage_at j z ≡ None
levels_in_history windows video entries s t n c x j i y z h a target image before after ne = levels_of_image s t n c x j i y z a target image before ((here windows video entries s h).each x y before) after ne
