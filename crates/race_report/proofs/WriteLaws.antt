-- What a call changes of objects and windows is among what it writes, but for the framebuffer from which a deletion detaches.
use Rattle.std.proofs.Common.{◌≡◌, ℕ, zero, suc, ◌<◌, ◌≤◌, ◌⊎◌, inl, inr, ℤ, pos, Bool, true, false, List, [], ◌∷◌, ◌++◌, length, get_or, set, refl, sym, ap, ◌∙◌, arith, subst, Option, None, Some}
use Rattle.egl_calls.specs.Errors.{is_done}
use Rattle.std.specs.Prelude.{if◌then◌else◌, ◌==◌, ◌&&◌, not}
use Rattle.std.specs.List.{Contains}
use Rattle.std.specs.Option.{option_map_or}
use Rattle.std.proofs.lemmas.Bool.{cases_eq, eqb-true}
use Rattle.std.proofs.lemmas.List.{get_or-set_other, get_or-set_same, get_or_append_left, length-append, length-set}
use Rattle.std.proofs.lemmas.List.Quantifiers.{position-Some}
use Rattle.std.proofs.lemmas.Option.{none-some, same_Some}
use Rattle.egl_calls.specs.Calls.{CallValue}
use Rattle.egl_calls.specs.Ranges.{unsigned}
use Rattle.egl_calls.specs.declared.errors.EglError.{EglError}
use Rattle.egl_calls.specs.declared.errors.GlError.{GlError}
use Rattle.egl_calls.specs.declared.errors.Outcome.TheVariants.{Done, Waiting}
use Rattle.egl_calls.specs.declared.kinds.Kind.{Kind}
use Rattle.egl_calls.specs.declared.kinds.Kind.TheVariants.{Egl, Gl, Own}
use Rattle.egl_calls.specs.declared.kinds.EglKind.{EglKind}
use Rattle.egl_calls.specs.declared.kinds.EglKind.TheVariants.{SwapBuffers}
use Rattle.egl_calls.specs.declared.kinds.GlKind.{GlKind}
use Rattle.egl_calls.specs.declared.kinds.GlKind.TheVariants.{Clear}
use Rattle.egl_calls.specs.declared.kinds.OwnKind.{OwnKind}
use Rattle.egl_calls.specs.declared.kinds.OwnKind.TheVariants.{WaitEnd}
use Rattle.call_table.specs.Rows.{gl_role}
use Rattle.context_state.specs.Calls.{apply}
use Rattle.context_state.specs.Kinds.{context_gl_call}
use Rattle.context_state.specs.Parts.{PartValue, noted}
use Rattle.share_group.specs.Groups.{GroupValue}
use Rattle.share_group.specs.declared.names.NameKind.{NameKind}
use Rattle.share_group.specs.declared.names.NameKind.TheVariants.{Texture as textures, Buffer as buffers, Renderbuffer as renderbuffers, Framebuffer as framebuffers}
use Rattle.surface_store.specs.Surfaces.{SurfaceValue}
use Rattle.surface_store.specs.Windows.{WindowValue, posted}
use Rattle.surface_store.specs.WindowTables.{fits, no_window, place_of, posted_to, swapped_windows, window_at}
use Rattle.driver_objects.specs.Storages.{StorageValue, shown_by}
use Rattle.driver_objects.specs.declared.contexts.Context.{Context as ContextObject}
use Rattle.driver_objects.specs.declared.fences.Fence.{Fence}
use Rattle.driver_objects.specs.declared.objects.Object.{Object}
use Rattle.driver_objects.specs.declared.objects.Object.TheVariants.{Context, Framebuffer, Group, Surface, Sync}
use Rattle.driver_objects.specs.declared.surfaces.BackedSurface.{BackedSurface}
use Rattle.buffer_objects.specs.Buffers.{BufferValue}
use Rattle.framebuffer_objects.specs.Framebuffers.{FramebufferValue}
use Rattle.framebuffer_objects.specs.Renderbuffers.{RenderbufferValue}
use Rattle.framebuffer_objects.specs.declared.framebuffers.Attached.{Attached}
use Rattle.framebuffer_objects.specs.declared.points.Point.{Point}
use Rattle.egl_image.specs.declared.images.EglImage.{EglImage}
use Rattle.driver_objects.specs.declared.renderbuffers.BackedRenderbuffer.{BackedRenderbuffer}
use Rattle.egl_model.specs.Renderbuffers.{stored_as}
use Rattle.driver_objects.specs.Targets.{buffer_target, name_kind}
use Rattle.driver_objects.specs.declared.targets.BindTarget.{BindTarget}
use Rattle.driver_objects.specs.declared.targets.BindTarget.TheVariants.{Texture as TextureTarget, Renderbuffer as RenderbufferTarget, Framebuffer as FramebufferTarget}
use Rattle.driver_objects.specs.declared.textures.BackedTexture.{BackedTexture}
use Rattle.display_table.specs.declared.handles.Handle.{Handle}
use Rattle.pixel_rows.specs.Images.{ImageValue}
use Rattle.pixel_rows.specs.declared.rects.Rect.{Rect}
use Rattle.rect_pipeline.specs.Samplers.{SamplerValue}
use Rattle.egl_model.specs.Copies.{copied_from, copied_level, copied_part_from}
use Rattle.egl_model.specs.Draws.{draw_into}
use Rattle.egl_model.specs.Currents.{bound_surface, current_context}
use Rattle.egl_model.specs.Drawing.{clear_storage}
use Rattle.egl_model.specs.EglCalls.{egl_effect, egl_refusal}
use Rattle.egl_model.specs.Effects.{outcome_of}
use Rattle.egl_model.specs.Flushes.{flush_in}
use Rattle.egl_model.specs.GlCalls.{effect_by, gl_effect, object_effect, gl_refusal}
use Rattle.egl_model.specs.Graph.{reached}
use Rattle.egl_model.specs.MakeCurrent.{first_use}
use Rattle.egl_model.specs.Bindings.{bound_framebuffer_in, bound_name, bound_named, bound_object, deleted_in, deleted_name, deleted_names, detached_from, detached_on, freed, unbound_in, unbound_object}
use Rattle.egl_model.specs.Buffers.{set_data, set_part_of}
use Rattle.egl_model.specs.Framebuffers.{attached, target_framebuffer}
use Rattle.egl_model.specs.Images.{add_image, levels_dropped, renderbuffer_of_image, texture_of_image}
use Rattle.egl_model.specs.Names.{group_of, object_named, with_name_of}
use Rattle.egl_model.specs.Objects.{as_buffer, as_framebuffer, as_renderbuffer, as_storage, as_texture, change_buffer, change_framebuffer, change_renderbuffer, change_context, change_fence, change_group, change_part, change_storage, change_surface, change_texture, with_context, with_fence, with_framebuffer, with_group, with_part, with_surface}
use Rattle.egl_model.specs.OwnCalls.{buffer_effect, buffer_refusal}
use Rattle.egl_model.specs.State.{State, record_of}
use Rattle.egl_model.specs.Step.{Stepped, after_egl_rules, after_gl_rules, buffer_step_on, egl_step, gl_step, gl_step_on, own_step, step, step_by, step_in, wait_step}
use Rattle.egl_model.specs.Surfaces.{with_behavior}
use Rattle.egl_model.specs.Sweep.{edges_at, sweep, swept}
use Rattle.egl_model.specs.Syncs.{add_sync, asks_for_flush, client_waited, flush_for, has_to_wait, serve}
use Rattle.egl_model.specs.Textures as calls
use Rattle.egl_model.specs.Textures.{change_pixels}
use Rattle.egl_model.specs.Waits.{is_signalled, is_wait_end, waiting}
use Rattle.egl_model.specs.Windows.{swapped_surface, swapped_with}
use Rattle.model_laws.proofs.References.SweepLaws.{length-swept, object_at-swept}
use Rattle.driver_facts.proofs.TouchLaws.{gl_never_waits}
use Rattle.driver_facts.specs.Touches.{buffer_touches_on, deletion_touches, drawing, egl_touches, front, gl_touches, gl_touches_on, nothing, object, object_touches, own_touches, swap_of, swap_with, touches_by, touches_by_class, touches_of}
use Rattle.race_report.specs.Writes.{Becomes, IsAsItWas, IsWrittenBy, Loses, LosesIn, Shows, Spares, StaysOrGoes, left_out, left_out_by, left_out_of}
use Rattle.driver_facts.specs.declared.touches.Touches.{Touches}
use Rattle.race_report.proofs.DetachLaws.{Deleting, deleting_all, deleting_later, detached_loses, loses_then}
use Rattle.race_report.proofs.WordLaws.{contains_first, contains_later}

-- ---- One object.
as_it_was : (o : Option Object) → IsAsItWas o o
as_it_was o = (inl refl, inl refl, inl refl, inl refl, inl refl)

one_then : {A : Type 0} (x y z : Option A) → StaysOrGoes x y → StaysOrGoes y z → StaysOrGoes x z
one_then x y z f g = elim g [
  | inl e ↦ (elim f [ inl d ↦ inl (e ∙ d) | inr d ↦ inr (e ∙ d) ])
  | inr e ↦ inr e
]

was_then : (o p q : Option Object) → IsAsItWas o p → IsAsItWas p q → IsAsItWas o q
was_then o p q f g = (
  one_then (as_texture o) (as_texture p) (as_texture q) f.0 g.0,
  one_then (as_storage o) (as_storage p) (as_storage q) f.1 g.1,
  one_then (as_buffer o) (as_buffer p) (as_buffer q) f.2 g.2,
  one_then (as_renderbuffer o) (as_renderbuffer p) (as_renderbuffer q) f.3 g.3,
  one_then (as_framebuffer o) (as_framebuffer p) (as_framebuffer q) f.4 g.4,
)

gone_or_not : (b : Bool) (o : Option Object) → IsAsItWas o (if b then o else None)
gone_or_not true o = as_it_was o
gone_or_not false o = (inr refl, inr refl, inr refl, inr refl, inr refl)

-- ---- A framebuffer that loses what is written.
lost_then : (ws : List ℤ) (o p q : Option Object) → Loses ws o p → Loses ws p q → Loses ws o q
lost_then ws o p q a b = record {
  before = a.before;
  was = a.was;
  after = b.after;
  is = b.is;
  lost = loses_then ws a.before a.after b.after a.lost (subst (λ f. LosesIn ws f b.after) (same_Some b.before a.after (sym b.was ∙ a.is)) b.lost);
}

was_lost : (ws : List ℤ) (o p q : Option Object) → IsAsItWas o p → Loses ws p q → Loses ws o q
was_lost ws o p q a b = record {
  before = b.before;
  after = b.after;
  is = b.is;
  lost = b.lost;
  was = elim a.4 [ inl e ↦ sym e ∙ b.was | inr e ↦ absurd (none-some b.before (sym e ∙ b.was)) ];
}

none_stays : {A : Type 0} (y : Option A) → StaysOrGoes None y → y ≡ None
none_stays y h = elim h [ inl e ↦ e | inr e ↦ e ]

-- where a framebuffer goes, nothing is there
no_other : (o p q : Option Object) (f : FramebufferValue) → as_framebuffer p ≡ Some f → IsAsItWas p q → as_framebuffer q ≡ None → IsAsItWas o q
no_other o (Some (Framebuffer g)) q f h a e = (inr (none_stays (as_texture q) a.0), inr (none_stays (as_storage q) a.1), inr (none_stays (as_buffer q) a.2), inr (none_stays (as_renderbuffer q) a.3), inr e)
no_other o p q f h a e = absurd (none-some f h)

lost_was : (ws : List ℤ) (left : Option ℕ) (n : ℕ) (o p q : Option Object) → left ≡ Some n → Loses ws o p → IsAsItWas p q → Becomes ws left n o q
lost_was ws left n o p q h a b = elim b.4 [
  | inl e ↦ inr (h, record { before = a.before; was = a.was; after = a.after; is = e ∙ a.is; lost = a.lost })
  | inr e ↦ inl (no_other o p q a.after a.is b e)
]

becomes_then : (ws : List ℤ) (left : Option ℕ) (n : ℕ) (o p q : Option Object) → Becomes ws left n o p → Becomes ws left n p q → Becomes ws left n o q
becomes_then ws left n o p q f g = elim f [
  | inl a ↦ (elim g [ inl b ↦ inl (was_then o p q a b) | inr b ↦ inr (b.0, was_lost ws o p q a b.1) ])
  | inr a ↦ (elim g [ inl b ↦ lost_was ws left n o p q a.0 a.1 b | inr b ↦ inr (a.0, lost_then ws o p q a.1 b.1) ])
]

detached_object : (ws : List ℤ) (left : Option ℕ) (n x : ℕ) (o : Option Object) → left ≡ Some n → Contains ws (pos x) → Becomes ws left n o (with_framebuffer (detached_from x) o)
detached_object ws left n x (Some (Framebuffer f)) h w = inr (h, record { before = f; was = refl; after = detached_from x f; is = refl; lost = detached_loses ws x f w })
detached_object ws left n x o h w = inl (as_it_was o)

-- no change of an object of another kind is one of a texture, a storage, a buffer, a renderbuffer or a framebuffer
abbrev Spared : (Option Object → Option Object) → Type 0
Spared f = (o : Option Object) → IsAsItWas o (f o)

spared-context : (f : ContextObject → ContextObject) → Spared (with_context f)
spared-context f (Some (Context x)) = as_it_was (Some (Context x))
spared-context f o = as_it_was o

spared-part : (f : PartValue → PartValue) → Spared (with_part f)
spared-part f (Some (Context x)) = as_it_was (Some (Context x))
spared-part f o = as_it_was o

spared-group : (f : GroupValue → GroupValue) → Spared (with_group f)
spared-group f (Some (Group x)) = as_it_was (Some (Group x))
spared-group f o = as_it_was o

spared-fence : (f : Fence → Fence) → Spared (with_fence f)
spared-fence f (Some (Sync x)) = as_it_was (Some (Sync x))
spared-fence f o = as_it_was o

spared-surface : (f : SurfaceValue → SurfaceValue) → Spared (with_surface f)
spared-surface f (Some (Surface x)) = as_it_was (Some (Surface x))
spared-surface f o = as_it_was o

-- ---- Objects, where one framebuffer may be left out, and where none is.
record Left (ws : List ℤ) (left : Option ℕ) (os ps : List (Option Object)) : Type 0 where
  long : length os ≤ length ps
  each : Spares ws left os ps

abbrev Kept : List ℤ → List (Option Object) → List (Option Object) → Type 0
Kept ws os ps = Left ws None os ps

left_of : (ws : List ℤ) (left : Option ℕ) (os ps : List (Option Object)) → Kept ws os ps → Left ws left os ps
left_of ws left os ps f = record {
  long = f.long;
  each = λ n l. elim (f.each n l) [ inl w ↦ inl w | inr a ↦ (elim a [ inl b ↦ inr (inl b) | inr b ↦ absurd (none-some n b.0) ]) ];
}

left_then : (ws : List ℤ) (left : Option ℕ) (os ps qs : List (Option Object)) → Left ws left os ps → Left ws left ps qs → Left ws left os qs
left_then ws left os ps qs f g = record {
  long = let a = f.long in let b = g.long in omega (arith, a, b);
  each = λ n l. elim (f.each n l) [
    | inl w ↦ inl w
    | inr a ↦ (elim (g.each n (let b = f.long in omega (arith, l, b))) [
      | inl w ↦ inl w
      | inr b ↦ inr (becomes_then ws left n (get_or os n None) (get_or ps n None) (get_or qs n None) a b)
    ])
  ];
}

left_set : (ws : List ℤ) (left : Option ℕ) (os : List (Option Object)) (n : ℕ) (x : Option Object) → Contains ws (pos n) ⊎ Becomes ws left n (get_or os n None) x → Left ws left os (set os n x)
left_set ws left os n x h = record {
  long = let e = length-set os n x in omega (arith, e);
  each = λ m l. elim (cases_eq m n) [
    | inl e ↦ subst (λ i. Contains ws (pos i) ⊎ Becomes ws left i (get_or os i None) (get_or (set os n x) i None)) (sym e) (here (subst (λ i. i < length os) e l))
    | inr ne ↦ inr (inl (subst (λ p. IsAsItWas (get_or os m None) p) (sym (get_or-set_other os n m x None ne)) (as_it_was (get_or os m None))))
  ];
}
  where
    here : n < length os → Contains ws (pos n) ⊎ Becomes ws left n (get_or os n None) (get_or (set os n x) n None)
    here l = elim h [ inl w ↦ inl w | inr a ↦ inr (subst (λ p. Becomes ws left n (get_or os n None) p) (sym (get_or-set_same os n x None l)) a) ]

kept_self : (ws : List ℤ) (os : List (Option Object)) → Kept ws os os
kept_self ws os = record { long = omega arith; each = λ n l. inr (inl (as_it_was (get_or os n None))) }

kept_then : (ws : List ℤ) (os ps qs : List (Option Object)) → Kept ws os ps → Kept ws ps qs → Kept ws os qs
kept_then ws os ps qs f g = left_then ws None os ps qs f g

kept_set : (ws : List ℤ) (os : List (Option Object)) (n : ℕ) (x : Option Object) → Contains ws (pos n) ⊎ IsAsItWas (get_or os n None) x → Kept ws os (set os n x)
kept_set ws os n x h = left_set ws None os n x (elim h [ inl w ↦ inl w | inr a ↦ inr (inl a) ])

kept_more : (ws : List ℤ) (os more : List (Option Object)) → Kept ws os (os ++ more)
kept_more ws os more = record {
  long = let e = length-append os more in omega (arith, e);
  each = λ n l. inr (inl (subst (λ p. IsAsItWas (get_or os n None) p) (sym (get_or_append_left os more None n l)) (as_it_was (get_or os n None))));
}

kept_swept : (ws : List ℤ) (rs : List ℕ) (os : List (Option Object)) → Kept ws os (swept rs os)
kept_swept ws rs os = record {
  long = let e = length-swept rs os in omega (arith, e);
  each = λ n l. inr (inl (subst (λ p. IsAsItWas (get_or os n None) p) (sym (object_at-swept rs os n)) (gone_or_not (reached rs (edges_at os) n) (get_or os n None))));
}

kept-context : (ws : List ℤ) (f : ContextObject → ContextObject) (n : ℕ) (os : List (Option Object)) → Kept ws os (change_context f n os)
unfolding change_context
kept-context ws f n os = kept_set ws os n (with_context f (get_or os n None)) (inr (spared-context f (get_or os n None)))

kept-part : (ws : List ℤ) (f : PartValue → PartValue) (n : ℕ) (os : List (Option Object)) → Kept ws os (change_part f n os)
unfolding change_part
kept-part ws f n os = kept_set ws os n (with_part f (get_or os n None)) (inr (spared-part f (get_or os n None)))

kept-group : (ws : List ℤ) (f : GroupValue → GroupValue) (n : ℕ) (os : List (Option Object)) → Kept ws os (change_group f n os)
unfolding change_group
kept-group ws f n os = kept_set ws os n (with_group f (get_or os n None)) (inr (spared-group f (get_or os n None)))

kept-fence : (ws : List ℤ) (f : Fence → Fence) (n : ℕ) (os : List (Option Object)) → Kept ws os (change_fence f n os)
unfolding change_fence
kept-fence ws f n os = kept_set ws os n (with_fence f (get_or os n None)) (inr (spared-fence f (get_or os n None)))

kept-surface : (ws : List ℤ) (f : SurfaceValue → SurfaceValue) (n : ℕ) (os : List (Option Object)) → Kept ws os (change_surface f n os)
unfolding change_surface
kept-surface ws f n os = kept_set ws os n (with_surface f (get_or os n None)) (inr (spared-surface f (get_or os n None)))

-- what is written may change
kept-texture : (ws : List ℤ) (f : BackedTexture → BackedTexture) (n : ℕ) (os : List (Option Object)) → Contains ws (pos n) → Kept ws os (change_texture f n os)
unfolding change_texture
kept-texture ws f n os w = kept_set ws os n _ (inl w)

kept-storage : (ws : List ℤ) (f : StorageValue → StorageValue) (n : ℕ) (os : List (Option Object)) → Contains ws (pos n) → Kept ws os (change_storage f n os)
unfolding change_storage
kept-storage ws f n os w = kept_set ws os n _ (inl w)

kept-buffer : (ws : List ℤ) (f : BufferValue → BufferValue) (n : ℕ) (os : List (Option Object)) → Contains ws (pos n) → Kept ws os (change_buffer f n os)
unfolding change_buffer
kept-buffer ws f n os w = kept_set ws os n _ (inl w)

kept-renderbuffer : (ws : List ℤ) (f : BackedRenderbuffer → BackedRenderbuffer) (n : ℕ) (os : List (Option Object)) → Contains ws (pos n) → Kept ws os (change_renderbuffer f n os)
unfolding change_renderbuffer
kept-renderbuffer ws f n os w = kept_set ws os n _ (inl w)

kept-pixels : (ws : List ℤ) (k : ℕ) (o : Option ℕ) (n : ℕ) (os : List (Option Object)) → Contains ws (pos n) → Kept ws os (change_pixels k o n os)
unfolding change_pixels
kept-pixels ws k o n os w = kept_set ws os n _ (inl w)

kept-framebuffer : (ws : List ℤ) (f : FramebufferValue → FramebufferValue) (n : ℕ) (os : List (Option Object)) → Contains ws (pos n) → Kept ws os (change_framebuffer f n os)
unfolding change_framebuffer
kept-framebuffer ws f n os w = kept_set ws os n _ (inl w)

-- and the framebuffer that is left out loses what is written
left-detached : (ws : List ℤ) (left o : Option ℕ) (x : ℕ) (os : List (Option Object)) → ((b : ℕ) → o ≡ Some b → left ≡ Some b) → Contains ws (pos x) → Left ws left os (detached_on o x os)
unfolding change_framebuffer
left-detached ws left None x os h w = left_of ws left os os (kept_self ws os)
left-detached ws left (Some b) x os h w = left_set ws left os b (with_framebuffer (detached_from x) (get_or os b None)) (inr (detached_object ws left b x (get_or os b None) (h b refl) w))

kept-flush : (ws : List ℤ) (o : Option ℕ) (os : List (Option Object)) → Kept ws os (flush_in o os)
kept-flush ws None os = kept_self ws os
kept-flush ws (Some n) os = kept-context ws _ n os

-- ---- Objects and windows.
record Leaves (ws : List ℤ) (left : Option ℕ) (os : List (Option Object)) (vs : List WindowValue) (ps : List (Option Object)) (us : List WindowValue) : Type 0 where
  kept : Left ws left os ps
  shows : Shows ws vs us

abbrev LeftBy : List ℤ → Option ℕ → State → State → Type 0
LeftBy ws left s a = Leaves ws left s.objects s.windows a.objects a.windows

abbrev Tells : List ℤ → List (Option Object) → List WindowValue → List (Option Object) → List WindowValue → Type 0
Tells ws os vs ps us = Leaves ws None os vs ps us

abbrev Told : List ℤ → State → State → Type 0
Told ws s a = Tells ws s.objects s.windows a.objects a.windows

leaves_of : (ws : List ℤ) (left : Option ℕ) (os ps : List (Option Object)) (vs us : List WindowValue) → Tells ws os vs ps us → Leaves ws left os vs ps us
leaves_of ws left os ps vs us f = record { kept = left_of ws left os ps f.kept; shows = f.shows }

with_objects : (ws : List ℤ) (os ps : List (Option Object)) (vs : List WindowValue) → Kept ws os ps → Tells ws os vs ps vs
with_objects ws os ps vs k = record { kept = k; shows = λ n. inr refl }

tells_self : (ws : List ℤ) (os : List (Option Object)) (vs : List WindowValue) → Tells ws os vs os vs
tells_self ws os vs = with_objects ws os os vs (kept_self ws os)

leaves_then : (ws : List ℤ) (left : Option ℕ) (os ps qs : List (Option Object)) (vs us : List WindowValue) → Leaves ws left os vs ps us → Kept ws ps qs → Leaves ws left os vs qs us
leaves_then ws left os ps qs vs us f k = record { kept = left_then ws left os ps qs f.kept (left_of ws left ps qs k); shows = f.shows }

tells_then : (ws : List ℤ) (os ps qs : List (Option Object)) (vs us : List WindowValue) → Tells ws os vs ps us → Kept ws ps qs → Tells ws os vs qs us
tells_then ws os ps qs vs us f k = leaves_then ws None os ps qs vs us f k

-- ---- Calls of EGL.
shows_set : (ws : List ℤ) (id : ℕ) (vs : List WindowValue) (i : ImageValue) (o : Option ℕ) → place_of id vs ≡ o → Contains ws (front id) → Shows ws vs (option_map_or (λ k. set vs k (posted i (window_at vs k))) o vs)
shows_set ws id vs i None e w = λ k. inr refl
shows_set ws id vs i (Some p) e w = λ k. elim (cases_eq k p) [
  | inl same ↦ inl (subst (λ n. Contains ws (front n)) (sym (ap (λ j. unsigned (window_at vs j).id) same ∙ eqb-true (unsigned (window_at vs p).id) id (position-Some (λ (v : WindowValue). unsigned v.id == id) vs p no_window e).1)) w)
  | inr ne ↦ inr (get_or-set_other vs p k (posted i (window_at vs p)) no_window ne)
]

shows_fit : (ws : List ℤ) (id : ℕ) (vs : List WindowValue) (i : ImageValue) (b : Bool) → Contains ws (front id) → Shows ws vs (if b then posted_to id i vs else vs)
shows_fit ws id vs i true w = shows_set ws id vs i (place_of id vs) refl w
shows_fit ws id vs i false w = λ k. inr refl

shows_owned : (ws : List ℤ) (id : ℕ) (vs : List WindowValue) (i : ImageValue) (b : Bool) → Contains ws (front id) → Shows ws vs (if b then swapped_windows id i vs else vs)
shows_owned ws id vs i true w = shows_fit ws id vs i (fits id i vs) w
shows_owned ws id vs i false w = λ k. inr refl

shows_swap : (ws : List ℤ) (id : ℕ) (o : Option ImageValue) (vs : List WindowValue) → Contains ws (front id) → Shows ws vs (shown_by id o vs)
shows_swap ws id None vs w = λ k. inr refl
shows_swap ws id (Some i) vs w = shows_owned ws id vs i i.owned w

told-window : (s : State) (x : BackedSurface) (o : Option ℤ) → Told (swap_with x o).writes s (swapped_with x o s)
told-window s x None = tells_self [] s.objects s.windows
told-window s x (Some id) = let ws = pos x.storage ∷ front (unsigned id) ∷ [] in record {
  kept = kept-storage ws _ x.storage s.objects (contains_first (pos x.storage) (front (unsigned id) ∷ []));
  shows = shows_swap ws (unsigned id) _ s.windows (contains_later (pos x.storage) (front (unsigned id) ∷ []) (front (unsigned id)) (contains_first (front (unsigned id)) []));
}

told-swap : (s : State) (o : Option BackedSurface) → Told (swap_of o).writes s (swapped_surface o s)
told-swap s None = tells_self [] s.objects s.windows
told-swap s (Some x) = told-window s x x.surface.window

told-behavior : (s : State) (c : CallValue) (o : Option Handle) → Told [] s (with_behavior s c o)
told-behavior s c None = tells_self [] s.objects s.windows
told-behavior s c (Some h) = with_objects [] s.objects _ s.windows (kept-surface [] _ h.object s.objects)

told-sync : (s : State) (d : ℕ) (o : Option ℕ) → Told [] s (add_sync s d o)
told-sync s d None = tells_self [] s.objects s.windows
told-sync s d (Some n) = with_objects [] s.objects _ s.windows (kept_more [] s.objects _)

told-serve : (s : State) (o : Option Handle) → Told [] s (serve o s)
told-serve s None = tells_self [] s.objects s.windows
told-serve s (Some h) = with_objects [] s.objects _ s.windows (kept-fence [] _ h.object s.objects)

told-image : (s : State) (d : ℕ) (o : Option ℕ) → Told [] s (option_map_or (add_image s d) o s)
told-image s d None = tells_self [] s.objects s.windows
told-image s d (Some k) = with_objects [] s.objects _ s.windows (kept_more [] s.objects _)

kept-first_use : (o draw : Option Handle) (os : List (Option Object)) → Kept [] os (first_use o draw os)
kept-first_use None draw os = kept_self [] os
kept-first_use (Some h) draw os = kept-part [] _ h.object os

kept-flush_if : (b : Bool) (o : Option ℕ) (os : List (Option Object)) → Kept [] os (if b then flush_in o os else os)
kept-flush_if true o os = kept-flush [] o os
kept-flush_if false o os = kept_self [] os

told-either : (ws : List ℤ) (os : List (Option Object)) (vs : List WindowValue) (b : Bool) (a d : State) → Tells ws os vs a.objects a.windows → Tells ws os vs d.objects d.windows → Tells ws os vs (if b then a else d).objects (if b then a else d).windows
told-either ws os vs true a d f g = f
told-either ws os vs false a d f g = g

told-client : (s : State) (c : CallValue) (t : ℕ) (o : Option Handle) → Told [] s (client_waited c t o s).state
told-client s c t None = tells_self [] s.objects s.windows
told-client s c t (Some h) =
    let b = flush_for c t h.object s in
    let k : Told [] s b = with_objects [] s.objects b.objects s.windows (kept-flush_if (asks_for_flush c && not (is_signalled s h.object)) (current_context s t) s.objects) in
    told-either [] s.objects s.windows (has_to_wait c h.object b) (waiting b t (Some h.object)) b k k

-- what an effect leaves, with a context flushed
told-flushed : (ws : List ℤ) (os ps : List (Option Object)) (vs us : List WindowValue) (o : Option ℕ) → Tells ws os vs ps us → Tells ws os vs (flush_in o ps) us
told-flushed ws os ps vs us o f = tells_then ws os ps (flush_in o ps) vs us f (kept-flush ws o ps)

-- what calls of EGL do to objects but for a swap: each of these moves spares what others may write
ruleset egl_moves = (tells_self, with_objects, kept_more, kept-flush, kept-first_use, told-flushed, told-either, told-behavior, told-sync, told-serve, told-image, told-client)

told-egl : (s : State) (t : ℕ) (c : CallValue) (k : EglKind) → Told (egl_touches s t k).writes s (egl_effect s t k c).state
told-egl s t c SwapBuffers = let o = bound_surface s (record_of s t).draw in let a = swapped_surface o s in told-flushed (swap_of o).writes s.objects a.objects s.windows a.windows (current_context a t) (told-swap s o)
told-egl s t c k = search egl_moves

-- ---- Calls of OpenGL ES.
has_object : (n : ℕ) → Contains (object (Some n)) (pos n)
has_object n = contains_first (pos n) []

told-clear : (s : State) (p : Option PartValue) (xs : List ℤ) (o : Option ℕ) (b : Bool) → Told (if b then drawing xs o else nothing).writes s (if b then clear_storage p o s else s)
told-clear s p xs o false = tells_self [] s.objects s.windows
told-clear s None xs o true = tells_self (object o) s.objects s.windows
told-clear s (Some p) xs None true = tells_self [] s.objects s.windows
told-clear s (Some p) xs (Some n) true = with_objects (object (Some n)) s.objects _ s.windows (kept-storage (object (Some n)) _ n s.objects (has_object n))

kept-bound : (ws : List ℤ) (b : BindTarget) (n : ℕ) (o : Option ℕ) (name : ℕ) (os : List (Option Object)) → Kept ws os (bound_object b n o name os)
kept-bound ws b n o name os = kept_then ws os _ _ (kept-context ws _ n os) (kept-context ws _ n _)

told-named : (s : State) (b : BindTarget) (g n name : ℕ) (o : Option ℕ) → Told [] s (bound_named b g n name o s)
told-named s b g n name (Some x) = with_objects [] s.objects _ s.windows (kept-bound [] b n (Some x) name s.objects)
told-named s b g n name None = with_objects [] s.objects _ s.windows (kept_then [] s.objects _ _ (kept_then [] s.objects _ _ (kept_more [] s.objects _) (kept-group [] _ g _)) (kept-bound [] b n _ name _))

told-bind : (s : State) (b : BindTarget) (n name : ℕ) (is_zero : Bool) → Told [] s (if is_zero then record s { objects = bound_object b n None 0 s.objects } else bound_named b (group_of s n) n name (object_named s (group_of s n) (name_kind b) name) s)
told-bind s b n name true = with_objects [] s.objects _ s.windows (kept-bound [] b n None 0 s.objects)
told-bind s b n name false = told-named s b (group_of s n) n name (object_named s (group_of s n) (name_kind b) name)

left-unbound : (ws : List ℤ) (left : Option ℕ) (k : NameKind) (n : ℕ) (o : Option ℕ) (os : List (Option Object)) → ((b : ℕ) → bound_framebuffer_in n os ≡ Some b → left ≡ Some b) → ((y : ℕ) → o ≡ Some y → Contains ws (pos y)) → Left ws left os (unbound_in k n o os)
left-unbound ws left k n None os h w = left_of ws left os os (kept_self ws os)
left-unbound ws left k n (Some x) os h w =
    let ps = detached_on (bound_framebuffer_in n os) x os in
    left_then ws left os ps _ (left-detached ws left (bound_framebuffer_in n os) x os h (w x refl)) (left_of ws left ps _ (kept-context ws (unbound_object k x) n ps))

left-freed : (ws : List ℤ) (left : Option ℕ) (k : NameKind) (g n name : ℕ) (o : Option ℕ) (os : List (Option Object)) → ((b : ℕ) → bound_framebuffer_in n os ≡ Some b → left ≡ Some b) → ((y : ℕ) → o ≡ Some y → Contains ws (pos y)) → Left ws left os (freed k g n name o os)
left-freed ws left k g n name o os h w =
    let ps = unbound_in k n o os in
    left_then ws left os ps _ (left-unbound ws left k n o os h w) (left_of ws left ps _ (kept-group ws (with_name_of k name None) g ps))

leaves_before : (ws : List ℤ) (left : Option ℕ) (os ps qs : List (Option Object)) (vs us : List WindowValue) → Left ws left os ps → Leaves ws left ps vs qs us → Leaves ws left os vs qs us
leaves_before ws left os ps qs vs us k f = record { kept = left_then ws left os ps qs k f.kept; shows = f.shows }

left-deleted : (ws : List ℤ) (left : Option ℕ) (k : NameKind) (g n : ℕ) (xs : List ℤ) (s : State) → Deleting ws left k g n xs s → LeftBy ws left s (deleted_in k g n xs s)
left-deleted ws left k g n [] s f = leaves_of ws left s.objects s.objects s.windows s.windows (tells_self ws s.objects s.windows)
left-deleted ws left k g n (x ∷ xs) s f =
    let a = deleted_name k g n (unsigned x) s in
    leaves_before ws left s.objects a.objects _ s.windows _ (left-freed ws left k g n (unsigned x) (object_named s g k (unsigned x)) s.objects f.bound (f.named x (contains_first x xs))) (left-deleted ws left k g n xs a (deleting_later ws left k g n x xs s f))

told-data : (s : State) (c : CallValue) (o : Option ℕ) → Told (object o) s (set_data c o s)
told-data s c None = tells_self [] s.objects s.windows
told-data s c (Some x) = with_objects (object (Some x)) s.objects _ s.windows (kept-buffer (object (Some x)) _ x s.objects (has_object x))

told-part_of : (s : State) (c : CallValue) (o : Option ℕ) → Told (object o) s (set_part_of c o s)
told-part_of s c None = tells_self [] s.objects s.windows
told-part_of s c (Some x) = with_objects (object (Some x)) s.objects _ s.windows (kept-buffer (object (Some x)) _ x s.objects (has_object x))

told-parameter : (s : State) (pname value : ℕ) (o : Option ℕ) → Told (object o) s (calls.set_parameter pname value o s)
told-parameter s pname value None = tells_self [] s.objects s.windows
told-parameter s pname value (Some x) = with_objects (object (Some x)) s.objects _ s.windows (kept-texture (object (Some x)) _ x s.objects (has_object x))

told-crop : (s : State) (xs : List ℤ) (o : Option ℕ) → Told (object o) s (calls.set_crop xs o s)
told-crop s xs None = tells_self [] s.objects s.windows
told-crop s xs (Some x) = with_objects (object (Some x)) s.objects _ s.windows (kept-texture (object (Some x)) _ x s.objects (has_object x))

kept-specified : (k : ℕ) (v : Option StorageValue) (x : ℕ) (os : List (Option Object)) → Kept (object (Some x)) os (calls.specified_in k v x os)
kept-specified k None x os = kept-pixels (object (Some x)) k None x os (has_object x)
kept-specified k (Some v) x os = kept_then (object (Some x)) os _ _ (kept_more (object (Some x)) os _) (kept-pixels (object (Some x)) k _ x _ (has_object x))

told-specified : (s : State) (k : ℕ) (v : Option StorageValue) (o : Option ℕ) → Told (object o) s (calls.specified k v o s)
told-specified s k v None = tells_self [] s.objects s.windows
told-specified s k v (Some x) = with_objects (object (Some x)) s.objects _ s.windows (kept-specified k v x s.objects)

told-stored : (s : State) (r : RenderbufferValue) (v : Option StorageValue) (o : Option ℕ) → Told (object o) s (stored_as r v o s)
told-stored s r v None = tells_self [] s.objects s.windows
told-stored s r v (Some x) = with_objects (object (Some x)) s.objects _ s.windows
    (kept_then (object (Some x)) s.objects _ _ (kept-renderbuffer (object (Some x)) _ x s.objects (has_object x)) (kept-specified 0 v x _))

told-attached : (s : State) (p : Point) (a : Option Attached) (o : Option ℕ) → Told (object o) s (attached p a o s)
told-attached s p a None = tells_self [] s.objects s.windows
told-attached s p a (Some b) = with_objects (object (Some b)) s.objects _ s.windows (kept-framebuffer (object (Some b)) _ b s.objects (has_object b))

kept-dropped : (ws : List ℤ) (k x : ℕ) (os : List (Option Object)) → Contains ws (pos x) → Kept ws os (levels_dropped k x os)
kept-dropped ws zero x os w = kept_self ws os
kept-dropped ws (suc k) x os w = kept_then ws os _ _ (kept-dropped ws k x os w) (kept-pixels ws (suc k) None x _ w)

told-texture_image : (s : State) (i : Option EglImage) (o : Option ℕ) → Told (object o) s (texture_of_image i o s)
told-texture_image s (Some i) (Some x) = with_objects (object (Some x)) s.objects _ s.windows
    (kept_then (object (Some x)) s.objects _ _ (kept-dropped (object (Some x)) 10 x s.objects (has_object x)) (kept-pixels (object (Some x)) 0 _ x _ (has_object x)))
told-texture_image s (Some i) None = tells_self [] s.objects s.windows
told-texture_image s None o = tells_self (object o) s.objects s.windows

told-renderbuffer_image : (s : State) (i : Option EglImage) (o : Option ℕ) → Told (object o) s (renderbuffer_of_image i o s)
told-renderbuffer_image s (Some i) (Some x) = with_objects (object (Some x)) s.objects _ s.windows
    (kept_then (object (Some x)) s.objects _ _ (kept-renderbuffer (object (Some x)) _ x s.objects (has_object x)) (kept-pixels (object (Some x)) 0 _ x _ (has_object x)))
told-renderbuffer_image s (Some i) None = tells_self [] s.objects s.windows
told-renderbuffer_image s None o = tells_self (object o) s.objects s.windows

told-rewritten : (s : State) (c : CallValue) (align : ℕ) (o : Option ℕ) → Told (object o) s (calls.rewritten_part c align o s)
told-rewritten s c align None = tells_self [] s.objects s.windows
told-rewritten s c align (Some n) = with_objects (object (Some n)) s.objects _ s.windows (kept-storage (object (Some n)) _ n s.objects (has_object n))

told-draw : (s : State) (p : Option PartValue) (o : Option ℕ) (from : Option SamplerValue) (r : Rect) → Told (object o) s (draw_into p o from r s)
told-draw s (Some p) (Some m) from r = with_objects (object (Some m)) s.objects _ s.windows (kept-storage (object (Some m)) _ m s.objects (has_object m))
told-draw s (Some p) None from r = tells_self [] s.objects s.windows
told-draw s None o from r = tells_self (object o) s.objects s.windows

told-copied : (s : State) (c : CallValue) (b : Bool) (from : Option ImageValue) (o : Option ℕ) → Told (object o) s (if b then calls.specified (calls.level_of c) None o s else copied_from from c o s)
told-copied s c true from o = told-specified s (calls.level_of c) None o
told-copied s c false (Some i) o = told-specified s (calls.level_of c) (Some (copied_level c i)) o
told-copied s c false None o = tells_self (object o) s.objects s.windows

told-copied_part : (s : State) (c : CallValue) (from : Option ImageValue) (o : Option ℕ) → Told (object o) s (copied_part_from from c o s)
told-copied_part s c from None = tells_self [] s.objects s.windows
told-copied_part s c from (Some n) = with_objects (object (Some n)) s.objects _ s.windows (kept-storage (object (Some n)) _ n s.objects (has_object n))

told-part : (ws : List ℤ) (s : State) (n : ℕ) (f : PartValue → PartValue) → Told ws s (record s { objects = change_part f n s.objects })
told-part ws s n f = with_objects ws s.objects _ s.windows (kept-part ws f n s.objects)

-- a binding, and further down a deletion, for each kind of object: of an effect that is worked out the search can't read the kind
told-bound_texture : (s : State) (n name : ℕ) → Told [] s (bound_name TextureTarget s n name)
told-bound_texture s n name = told-bind s TextureTarget n name (name == 0)

told-bound_buffer : (s : State) (n name target : ℕ) → Told [] s (bound_name (buffer_target target) s n name)
told-bound_buffer s n name target = told-bind s (buffer_target target) n name (name == 0)

told-bound_renderbuffer : (s : State) (n name : ℕ) → Told [] s (bound_name RenderbufferTarget s n name)
told-bound_renderbuffer s n name = told-bind s RenderbufferTarget n name (name == 0)

told-bound_framebuffer : (s : State) (n name : ℕ) → Told [] s (bound_name FramebufferTarget s n name)
told-bound_framebuffer s n name = told-bind s FramebufferTarget n name (name == 0)

left-deletion : (k : NameKind) (s : State) (n : ℕ) (xs : List ℤ) → LeftBy (deletion_touches s n k xs).writes (target_framebuffer s n) s (deleted_names k s n xs)
left-deletion k s n xs = left-deleted _ _ k (group_of s n) n xs s (deleting_all k s n xs)

left-deleted_textures : (s : State) (n : ℕ) (xs : List ℤ) → LeftBy (deletion_touches s n textures xs).writes (target_framebuffer s n) s (deleted_names textures s n xs)
left-deleted_textures s n xs = left-deletion textures s n xs

left-deleted_buffers : (s : State) (n : ℕ) (xs : List ℤ) → LeftBy (deletion_touches s n buffers xs).writes (target_framebuffer s n) s (deleted_names buffers s n xs)
left-deleted_buffers s n xs = left-deletion buffers s n xs

left-deleted_renderbuffers : (s : State) (n : ℕ) (xs : List ℤ) → LeftBy (deletion_touches s n renderbuffers xs).writes (target_framebuffer s n) s (deleted_names renderbuffers s n xs)
left-deleted_renderbuffers s n xs = left-deletion renderbuffers s n xs

left-deleted_framebuffers : (s : State) (n : ℕ) (xs : List ℤ) → LeftBy (deletion_touches s n framebuffers xs).writes (target_framebuffer s n) s (deleted_names framebuffers s n xs)
left-deleted_framebuffers s n xs = left-deletion framebuffers s n xs

-- what calls on objects do is made of these
ruleset bindings = (told-bound_texture, told-bound_buffer, told-bound_renderbuffer, told-bound_framebuffer)

ruleset deletions = (left-deleted_textures, left-deleted_buffers, left-deleted_renderbuffers, left-deleted_framebuffers)

ruleset pixels = (told-clear, told-draw, told-specified, told-rewritten, told-copied, told-copied_part, told-texture_image, told-stored, told-renderbuffer_image)

ruleset settings = (told-parameter, told-crop, told-data, told-part_of, told-attached)

ruleset object_moves = (tells_self, with_objects, kept-group, kept-flush, bindings, deletions, pixels, settings)

left-object : (s : State) (t n : ℕ) (c : CallValue) (k : GlKind) → LeftBy (object_touches s t n k c).writes (left_out_of (Some n) (gl_role k) s) s (object_effect s t n k c).state
-- one call is named, so that each other is a case of its own
left-object s t n c Clear = search object_moves
left-object s t n c k = search object_moves

left_by-gl : (o : Option GlKind) (s : State) (t n : ℕ) (c : CallValue) (k : GlKind) → LeftBy (touches_by_class o s t n k c).writes (left_out_of (Some n) (gl_role k) s) s (effect_by o s t n k c).state
left_by-gl (Some own) s t n c k = leaves_of [] _ s.objects _ s.windows _ (told-part [] s n (λ p. (apply c p).part))
left_by-gl None s t n c k = left-object s t n c k

left-gl : (s : State) (t n : ℕ) (c : CallValue) (k : GlKind) → LeftBy (gl_touches s t n k c).writes (left_out_of (Some n) (gl_role k) s) s (gl_effect s t n k c).state
left-gl s t n c k = left_by-gl (context_gl_call k) s t n c k

-- ---- Steps.
abbrev StepLeaves : Touches → Option ℕ → State → Stepped → Type 0
StepLeaves x left s a = LeftBy (if is_done a.reply.outcome then x else nothing).writes left s a.state

abbrev ToldBy : Touches → State → Stepped → Type 0
ToldBy x s a = StepLeaves x None s a

idle : (b : Bool) (os ps : List (Option Object)) (vs us : List WindowValue) → Tells [] os vs ps us → Tells (if b then nothing else nothing).writes os vs ps us
idle true os ps vs us f = f
idle false os ps vs us f = f

egl_done : (s : State) (t : ℕ) (c : CallValue) (k : EglKind) → ToldBy (egl_touches s t k) s (after_egl_rules s t None (egl_effect s t k c))
egl_done s t c SwapBuffers = let a = (egl_effect s t SwapBuffers c).state in let ws = (egl_touches s t SwapBuffers).writes in tells_then ws s.objects a.objects _ s.windows _ (told-egl s t c SwapBuffers) (kept_swept ws _ a.objects)
egl_done s t c k = let a = (egl_effect s t k c).state in idle (is_done (outcome_of (egl_effect s t k c))) s.objects _ s.windows _ (tells_then [] s.objects a.objects _ s.windows _ (told-egl s t c k) (kept_swept [] _ a.objects))

egl_ruled : (s : State) (t : ℕ) (c : CallValue) (k : EglKind) (o : Option EglError) → ToldBy (egl_touches s t k) s (after_egl_rules s t o (egl_effect s t k c))
egl_ruled s t c k (Some e) = tells_self [] s.objects s.windows
egl_ruled s t c k None = egl_done s t c k

gl_ruled : (s : State) (t n : ℕ) (c : CallValue) (k : GlKind) (o : Option GlError) → StepLeaves (gl_touches s t n k c) (left_out_of (Some n) (gl_role k) s) s (after_gl_rules s n o (gl_effect s t n k c))
gl_ruled s t n c k (Some e) = leaves_of [] _ s.objects _ s.windows _ (told-part [] s n (noted e))
gl_ruled s t n c k None =
    let a = (gl_effect s t n k c).state in
    let x = gl_touches s t n k c in
    let left = left_out_of (Some n) (gl_role k) s in
    let P : Bool → Type 0 = λ b. LeftBy (if is_done (if b then Waiting else Done) then x else nothing).writes left s (sweep a) in
    subst P (sym (gl_never_waits s t n c k)) (leaves_then x.writes left s.objects a.objects _ s.windows _ (left-gl s t n c k) (kept_swept x.writes _ a.objects))

gl_on : (s : State) (t : ℕ) (c : CallValue) (k : GlKind) (o : Option ℕ) → StepLeaves (gl_touches_on s t o k c) (left_out_of o (gl_role k) s) s (gl_step_on s t o k c)
gl_on s t c k None = tells_self [] s.objects s.windows
gl_on s t c k (Some n) = gl_ruled s t n c k (gl_refusal s t n k c)

-- readBuffer writes nothing
buffer_ruled : (s : State) (t n : ℕ) (c : CallValue) (o : Option GlError) → ToldBy (buffer_touches_on s (Some n) c) s (after_gl_rules s n o (buffer_effect s t n c))
buffer_ruled s t n c (Some e) = told-part [] s n (noted e)
buffer_ruled s t n c None = with_objects [] s.objects _ s.windows (kept_swept [] _ s.objects)

buffer_on : (s : State) (t : ℕ) (c : CallValue) (o : Option ℕ) → ToldBy (buffer_touches_on s o c) s (buffer_step_on s t o c)
buffer_on s t c None = tells_self [] s.objects s.windows
buffer_on s t c (Some n) = buffer_ruled s t n c (buffer_refusal s t n c)

buffer_told : (s : State) (t : ℕ) (c : CallValue) → ToldBy (buffer_touches_on s (current_context s t) c) s (buffer_step_on s t (current_context s t) c)
buffer_told s t c = buffer_on s t c (current_context s t)

own_told : (s : State) (t : ℕ) (c : CallValue) (k : OwnKind) → ToldBy (own_touches s t k c) s (own_step s t k c)
own_told s t c WaitEnd = tells_self _ s.objects s.windows
-- a call that changes nothing, or one that is refused as a call of OpenGL ES
own_told s t c k = search (tells_self, buffer_told)

kind_told : (s : State) (t : ℕ) (c : CallValue) (k : Kind) → StepLeaves (touches_by s t k c) (left_out_by k (current_context s t) s) s (step_by s t k c)
unfolding egl_step gl_step
kind_told s t c (Egl k) = egl_ruled s t c k (egl_refusal s t k c)
kind_told s t c (Gl k) = gl_on s t c k (current_context s t)
kind_told s t c (Own k) = own_told s t c k

wait_told : (s : State) (t : ℕ) (x : Touches) (is_end signalled : Bool) → ToldBy x s (wait_step s t is_end signalled)
wait_told s t x false signalled = tells_self [] s.objects s.windows
wait_told s t x true false = tells_self [] s.objects s.windows
wait_told s t x true true = with_objects x.writes s.objects _ s.windows (kept_swept x.writes _ s.objects)

told_in : (s : State) (t : ℕ) (c : CallValue) (o : Option ℕ) → StepLeaves (touches_by s t c.kind c) (left_out s t c) s (step_in o s t c)
told_in s t c (Some sync) = leaves_of _ (left_out s t c) s.objects _ s.windows _ (wait_told s t (touches_by s t c.kind c) (is_wait_end c.kind) (is_signalled s sync))
told_in s t c None = kind_told s t c c.kind

pub written_by : (s : State) (t : ℕ) (c : CallValue) → IsWrittenBy (touches_of s t c) (left_out s t c) s (step s t c).state
unfolding step touches_of
written_by s t c = let f = told_in s t c (record_of s t).wait in record { objects = f.kept.each; windows = f.shows }
