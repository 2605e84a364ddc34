-- The first law of frame: a step of a thread, and what is put for another one, may come in either order.
use Rattle.std.proofs.Common.{◌≡◌, ◌≢◌, ℕ, pos, Bool, true, false, List, [], ◌∷◌, refl, sym, ap, ◌∙◌, Option, None, Some, map}
use Rattle.model_laws.proofs.Changes.Writes.{census-written}
use Rattle.egl_model.specs.Contexts.{context_value, context_value_at, draws_with, is_drawn_with, value_of_context}
use Rattle.egl_model.specs.Handles.{handle_at}
use Rattle.egl_model.specs.Arguments.{number}
use Rattle.display_table.specs.declared.handles.HandleKind.TheVariants.{Context as a_context, Surface as a_surface}
use Rattle.egl_calls.specs.Arguments.{signed}
use Rattle.egl_calls.specs.declared.errors.Outcome.TheVariants.{Done}
use Rattle.std.specs.Option.{option_and_then, option_map_or}
use Rattle.egl_calls.specs.Calls.{CallValue, ReplyValue}
use Rattle.egl_calls.specs.Errors.{egl_code}
use Rattle.egl_calls.specs.declared.kinds.Kind.{Kind}
use Rattle.egl_calls.specs.declared.kinds.Kind.TheVariants.{Egl, Gl, Own as OwnCall}
use Rattle.egl_calls.specs.declared.kinds.EglKind.{EglKind}
use Rattle.egl_calls.specs.declared.kinds.EglKind.TheVariants.{GetError as EglGetError}
use Rattle.egl_calls.specs.declared.kinds.GlKind.{GlKind}
use Rattle.egl_calls.specs.declared.kinds.GlKind.TheVariants.{GetError as GlGetError}
use Rattle.call_rules.specs.GlRules as gl_rules
use Rattle.call_table.specs.Rows.{gl_role}
use Rattle.call_table.specs.declared.roles.Role.{Role}
use Rattle.call_table.specs.declared.roles.Role.TheVariants.{Asks, Attaches, Binds, Clears, Deletes, Draws, Flushes, Generates, ReadsPixels}
use Rattle.context_state.specs.Kinds.{context_gl_call}
use Rattle.context_state.specs.Parts.{PartValue}
use Rattle.share_group.specs.Names.{given}
use Rattle.share_group.specs.declared.names.NameKind.{NameKind}
use Rattle.share_group.specs.declared.names.NameKind.TheVariants.{Texture as textures, Renderbuffer as renderbuffers}
use Rattle.egl_model.specs.Buffers.{part_read}
use Rattle.egl_model.specs.GlCalls.{effect_by, gl_effect, local_value, gl_refusal, plain_gl_effect, role_effect}
use Rattle.egl_model.specs.GlFacts.{gl_facts_of}
use Rattle.egl_model.specs.Names.{generated, group_of, name_value, object_named}
use Rattle.model_laws.proofs.Calls.CopyCalls.{blind-read_alpha}
use Rattle.model_laws.proofs.Calls.TextureCalls.{blind-level_form}
use Rattle.model_laws.proofs.Calls.BufferCalls.{blind-buffer_of}
use Rattle.model_laws.proofs.Calls.RenderbufferCalls.{blind-renderbuffer_of, blind-target_renderbuffer}
use Rattle.model_laws.proofs.Calls.NameCalls.{blind-group_of, blind-named, blind-names}
use Rattle.egl_calls.specs.declared.errors.EglError.{EglError}
use Rattle.egl_calls.specs.declared.errors.GlError.{GlError}
use Rattle.context_state.specs.Parts.{noted}
use Rattle.call_rules.specs.EglRules as rules
use Rattle.display_table.specs.declared.handles.Handle.{Handle}
use Rattle.egl_model.specs.declared.records.ThreadRecord.{ThreadRecord}
use Rattle.egl_model.specs.State.{State, record_of}
use Rattle.egl_model.specs.Currents.{current_context, display_at}
use Rattle.egl_model.specs.Framebuffers.{bound_framebuffer}
use Rattle.egl_model.specs.Drawing.{pack_alignment, read_pixels, rows_of}
use Rattle.egl_model.specs.EglCalls.{egl_effect, egl_refusal}
use Rattle.egl_model.specs.Facts.{facts_of}
use Rattle.model_laws.specs.Frame.{IsNone, moved_step}
use Rattle.model_laws.specs.Hidden.{hide, nothing}
use Rattle.egl_model.specs.MakeCurrent.{config_of_context, config_of_surface, context_handle, draw_handle, is_context_taken, is_surface_taken, read_handle}
use Rattle.egl_model.specs.Objects.{context_in, storage_in}
use Rattle.egl_model.specs.Parts.{Own, OwnObjects, own_objects, put_at, put_own}
use Rattle.model_laws.specs.Shapes.{shapes}
use Rattle.model_laws.specs.Sound.{IsWhole}
use Rattle.egl_model.specs.Step.{Stepped, after_egl_rules, after_gl_rules, done, egl_step, gl_step, gl_step_on, step, step_by, step_in, buffer_step_on, own_step, wait_step}
use Rattle.egl_model.specs.Surfaces.{surface_value, value_of_surface}
use Rattle.egl_model.specs.OwnCalls.{buffer_effect, buffer_refusal}
use Rattle.egl_model.specs.Waits.{is_signalled, is_wait_end}
use Rattle.egl_model.specs.Effects.{Effect, valued}
use Rattle.egl_calls.specs.declared.kinds.OwnKind.{OwnKind}
use Rattle.egl_calls.specs.declared.kinds.OwnKind.TheVariants.{ReadBuffer, Census}
use Rattle.model_laws.proofs.Calls.ImageCalls.{blind-is_incomplete, blind-is_source, blind-is_source_sibling, blind-source_storage, blind-renderable, blind-target_handle}
use Rattle.model_laws.proofs.Calls.SyncCalls.{blind-client_wait, blind-current_here, blind-sync_value}
use Rattle.model_laws.proofs.Calls.WindowCalls.{blind-draws_to, blind-used}
use Rattle.model_laws.proofs.Steps.Blinds.{blind-context_elsewhere, blind-context_of, blind-current, blind-live_bytes, blind-own_part, blind-record, blind-surface_elsewhere, blind-surface_of, blind-signalled, blind-any, blind-context, blind-display}
use Rattle.model_laws.proofs.Parts.BoundFramebuffers.{blind-bound_framebuffer, blind-complete, blind-read_from, blind-target_framebuffer}
use Rattle.model_laws.proofs.Calls.FramebufferCalls.{blind-attachment_of, blind-called_object}
use Rattle.model_laws.proofs.Calls.EglCalls.{acts-error}
use Rattle.model_laws.proofs.Calls.GlCalls.{acts-own_part}
use Rattle.model_laws.proofs.Changes.Keeps.{Blind}
use Rattle.model_laws.proofs.Changes.PutMoves.{own_objects-stand}
use Rattle.model_laws.proofs.Parts.PutWhole.{whole-put}
use Rattle.model_laws.proofs.Steps.StepKeeps.{acts-egl_done, acts-gl_done, keeps-step, acts-swept_self, acts-wait_done}
use Rattle.egl_model.specs.Facts.{is_compatible, is_surface_elsewhere}
use Rattle.egl_model.specs.Windows.{named_place}

-- ---- Facts: what those of any call read is the same. A first call has a clause of its own, and the last clause goes by the cases that are left.
blind-config_of_context : (t : ℕ) (h : Option Handle) (s : State) → Blind t s (λ a. config_of_context a h)
blind-config_of_context t h s = blind-context_of (λ o. option_map_or (λ x. pos x.config) o (pos 0)) (λ c x. refl) t h s

blind-config_of_surface : (t : ℕ) (h : Option Handle) (s : State) → Blind t s (λ a. config_of_surface a h)
blind-config_of_surface t h s w v x ne = ap (λ y. option_map_or (λ x. x.surface.config) y (pos 0)) (blind-surface_of t h s w v x ne)

blind-context_taken : (t : ℕ) (h : Option Handle) (s : State) → Blind t s (λ a. is_context_taken a t h)
blind-context_taken t None s w v x ne = refl
blind-context_taken t (Some h) s w v x ne = blind-context_elsewhere t h.object s w v x ne

blind-surface_taken : (t : ℕ) (h : Option Handle) (s : State) → Blind t s (λ a. is_surface_taken a t h)
blind-surface_taken t None s w v x ne = refl
blind-surface_taken t (Some h) s w v x ne = blind-surface_elsewhere t h.object s w v x ne

blind-compatible : (t : ℕ) (c : CallValue) (s : State) → Blind t s (λ a. is_compatible a c)
blind-compatible t c s w v x ne =
    let a = blind-config_of_context t (context_handle s c) s w v x ne in let b = blind-config_of_surface t (draw_handle s c) s w v x ne in let d = blind-config_of_surface t (read_handle s c) s w v x ne in
    cc

blind-surfaces_taken : (t : ℕ) (c : CallValue) (s : State) → Blind t s (λ a. is_surface_elsewhere a t c)
blind-surfaces_taken t c s w v x ne =
    let f = blind-surface_taken t (draw_handle s c) s w v x ne in let g = blind-surface_taken t (read_handle s c) s w v x ne in
    cc

-- what a surface or a context is asked for
blind-surface_value : (t : ℕ) (c : CallValue) (s : State) → Blind t s (λ a. surface_value a c)
blind-surface_value t c s w v x ne = ap (value_of_surface (signed c 2)) (blind-surface_of t (handle_at s c 1 a_surface) s w v x ne)

blind-value_of_context : (t a : ℕ) (o : Option Handle) (s : State) → Blind t s (λ b. value_of_context b a o)
unfolding is_drawn_with
blind-value_of_context t a None s w v x ne = refl
blind-value_of_context t a (Some h) s w v x ne =
    ap (λ b. option_and_then (λ y. context_value_at y.config b a) (context_in (put_own s v x).objects h.object)) (blind-any (draws_with h.object) (λ r e. refl) t s w v x ne)
    ∙ blind-context (λ o. option_and_then (λ y. context_value_at y.config (is_drawn_with s.threads h.object) a) o) (λ y p. refl) t h.object s w v x ne

blind-context_value : (t : ℕ) (c : CallValue) (s : State) → Blind t s (λ a. context_value a c)
blind-context_value t c s w v x ne = blind-value_of_context t (number c 2) (handle_at s c 1 a_context) s w v x ne

-- all facts of a call, whichever it is
blind-facts : (t : ℕ) (c : CallValue) (s : State) → Blind t s (λ a. facts_of a t c)
blind-facts t c s w v x ne =
    let bytes = blind-live_bytes t s w v x ne in
    let compatible = blind-compatible t c s w v x ne in let elsewhere = blind-context_taken t (context_handle s c) s w v x ne in let taken = blind-surfaces_taken t c s w v x ne in
    let used = blind-used t (named_place s c) s w v x ne in let drawn = blind-draws_to t (handle_at s c 1 a_surface) s w v x ne in
    let current = blind-current t s w v x ne in let here = blind-current_here t c s w v x ne in
    let source = blind-is_source t c s w v x ne in let incomplete = blind-is_incomplete t c s w v x ne in
    let pixels = blind-source_storage t c s w v x ne in let sibling = blind-is_source_sibling t c s w v x ne in
    cc

blind-refusal : (t : ℕ) (c : CallValue) (s : State) (k : EglKind) → Blind t s (λ a. egl_refusal a t k c)
unfolding egl_refusal
blind-refusal t c s k w v x ne = ap (rules.egl_refusal c) (blind-facts t c s w v x ne)

-- the same of a call of OpenGL ES
blind-gl_facts : (t n : ℕ) (c : CallValue) (s : State) → Blind t s (λ a. gl_facts_of a t n c)
blind-gl_facts t n c s w v x ne =
    let bytes = blind-live_bytes t s w v x ne in let complete = blind-complete t s w v x ne in let alpha = blind-read_alpha t s w v x ne in
    let level = blind-level_form t n c s w v x ne in
    let stored = ap (λ (p : Bool × ℕ × ℕ × ℕ). p.0) level in let width = ap (λ (p : Bool × ℕ × ℕ × ℕ). p.1) level in
    let height = ap (λ (p : Bool × ℕ × ℕ × ℕ). p.2) level in let base = ap (λ (p : Bool × ℕ × ℕ × ℕ). p.3) level in
    let buffer = blind-buffer_of t n c s w v x ne in let renderbuffer = blind-target_renderbuffer t n s w v x ne in let framebuffer = blind-target_framebuffer t n s w v x ne in
    let texture = blind-called_object t n textures (number c 3) s w v x ne in let named = blind-called_object t n renderbuffers (number c 3) s w v x ne in
    let attachment = blind-attachment_of t n c s w v x ne in let image = blind-target_handle t n c s w v x ne in let renderable = blind-renderable t n c s w v x ne in
    cc

blind-gl_refusal : (t n : ℕ) (c : CallValue) (s : State) (k : GlKind) → Blind t s (λ a. gl_refusal a t n k c)
unfolding gl_refusal
blind-gl_refusal t n c s k w v x ne = ap (gl_rules.gl_refusal c) (blind-gl_facts t n c s w v x ne)

blind-buffer_refusal : (t n : ℕ) (c : CallValue) (s : State) → Blind t s (λ a. buffer_refusal a t n c)
unfolding buffer_refusal
blind-buffer_refusal t n c s w v x ne = ap (gl_rules.gl_refusal c) (blind-gl_facts t n c s w v x ne)

-- ---- Replies: what those of any call read is the same.
blind-current_display : (t : ℕ) (s : State) → Blind t s (λ a. display_at a (current_context a t))
blind-current_display t s w v x ne = ap (λ o. display_at (put_own s v x) o) (blind-current t s w v x ne) ∙ blind-display t (current_context s t) s w v x ne

blind-egl_reply : (t : ℕ) (c : CallValue) (s : State) (k : EglKind) → Blind t s (λ a. done (egl_effect a t k c))
blind-egl_reply t c s EglGetError w v x ne = ap (λ (r : ThreadRecord). done (valued (pos (egl_code r.error)) s)) (blind-record t s w v x ne)
blind-egl_reply t c s k w v x ne =
    let own = blind-record t s w v x ne in let display = blind-current_display t s w v x ne in let surface = blind-surface_value t c s w v x ne in
    let context = blind-context_value t c s w v x ne in let sync = blind-sync_value t c s w v x ne in let wait = blind-client_wait t c s w v x ne in
    cc

blind-read_pixels : (t n : ℕ) (c : CallValue) (s : State) → current_context s t ≡ Some n → Blind t s (λ a. read_pixels a t n c)
blind-read_pixels t n c s e w v x ne =
    ap (λ (p : Option PartValue). rows_of c (option_map_or (λ q. q.pack_alignment) p 4) (option_and_then (storage_in (put_own s v x).objects) (bound_framebuffer (put_own s v x) t).read)) (blind-own_part t n s e w v x ne)
    ∙ ap (λ o. rows_of c (pack_alignment s n) o) (blind-read_from t s w v x ne)

blind-generated : (t n : ℕ) (k : NameKind) (count : ℕ) (s : State) → Blind t s (λ a. done (generated a (group_of a n) k count))
blind-generated t n k count s w v x ne =
    ap (λ g. done (generated (put_own s v x) g k count)) (blind-group_of t n s w v x ne)
    ∙ ap (λ xs. done (record { waits = false; value = pos 0; list = map (λ i. pos i) (given count xs); bytes = []; state = s })) (blind-names t (group_of s n) k s w v x ne)

blind-is_name : (t n : ℕ) (k : NameKind) (name : ℕ) (s : State) → Blind t s (λ a. done (valued (name_value (object_named a (group_of a n) k name)) s))
blind-is_name t n k name s w v x ne =
    ap (λ g. done (valued (name_value (object_named (put_own s v x) g k name)) s)) (blind-group_of t n s w v x ne)
    ∙ ap (λ o. done (valued (name_value o) s)) (blind-named t (group_of s n) k name s w v x ne)

blind-buffer_reply : (t n : ℕ) (c : CallValue) (s : State) → Blind t s (λ a. done (buffer_effect a t n c))
blind-buffer_reply t n c s w v x ne = ap (λ o. done (record { waits = false; value = pos 0; list = []; bytes = part_read c o; state = s })) (blind-buffer_of t n c s w v x ne)

abbrev reading : List ℕ → State → Effect
reading b s = record { waits = false; value = pos 0; list = []; bytes = b; state = s }

blind-plain_reply : (t n : ℕ) (c : CallValue) (s : State) (k : GlKind) → current_context s t ≡ Some n → Blind t s (λ a. done (plain_gl_effect a t n k c))
blind-plain_reply t n c s GlGetError e w v x ne = refl
blind-plain_reply t n c s k e w v x ne =
    let buffer = blind-buffer_of t n c s w v x ne in let renderbuffer = blind-renderbuffer_of t n s w v x ne in
    let framebuffer = blind-bound_framebuffer t s w v x ne in let attachment = blind-attachment_of t n c s w v x ne in
    cc

blind-role_reply : (o : Role) (t n : ℕ) (c : CallValue) (s : State) (k : GlKind) → current_context s t ≡ Some n → Blind t s (λ a. done (role_effect o a t n k c))
blind-role_reply Flushes t n c s k e w v x ne = refl
blind-role_reply Clears t n c s k e w v x ne = refl
blind-role_reply ReadsPixels t n c s k e w v x ne = ap (λ b. done (reading b s)) (blind-read_pixels t n c s e w v x ne)
blind-role_reply Draws t n c s k e w v x ne = refl
blind-role_reply (Generates names) t n c s k e w v x ne = blind-generated t n names (number c 0) s w v x ne
blind-role_reply (Deletes names) t n c s k e w v x ne = refl
blind-role_reply (Asks names) t n c s k e w v x ne = blind-is_name t n names (number c 0) s w v x ne
blind-role_reply (Binds names) t n c s k e w v x ne = refl
blind-role_reply (Attaches names) t n c s k e w v x ne = refl
blind-role_reply o t n c s k e w v x ne = blind-plain_reply t n c s k e w v x ne

blind-reply_by : (o : Option GlKind) (t n : ℕ) (c : CallValue) (s : State) (k : GlKind) → current_context s t ≡ Some n → Blind t s (λ a. done (effect_by o a t n k c))
blind-reply_by (Some own) t n c s k e w v x ne = ap (λ p. done (valued (local_value p c) s)) (blind-own_part t n s e w v x ne)
blind-reply_by None t n c s k e w v x ne = blind-role_reply (gl_role k) t n c s k e w v x ne

blind-gl_reply : (t n : ℕ) (c : CallValue) (s : State) (k : GlKind) → current_context s t ≡ Some n → Blind t s (λ a. done (gl_effect a t n k c))
blind-gl_reply t n c s k e w v x ne = blind-reply_by (context_gl_call k) t n c s k e w v x ne

-- ---- Steps.
abbrev pub stepped : ReplyValue → State → Stepped
stepped r a = record { reply = r; state = a }

pub answered : (r : ReplyValue) (a b : State) → a ≡ b → stepped r a ≡ stepped r b
answered r a b e = ap (stepped r) e

both_same : (r q : ReplyValue) (a b : State) → r ≡ q → a ≡ b → stepped r a ≡ stepped q b
both_same r q a b e f = ap (λ z. stepped z a) e ∙ ap (stepped q) f

by_egl_rules : (t v : ℕ) (x : Own) (s : State) (c : CallValue) (k : EglKind) (o : Option EglError) → v ≢ t → IsWhole (shapes s.objects) s → c.kind ≡ Egl k → egl_refusal s t k c ≡ o →
    after_egl_rules (put_own s v x) t o (egl_effect (put_own s v x) t k c) ≡ moved_step (put_at (own_objects s v) v x) (after_egl_rules s t o (egl_effect s t k c))
by_egl_rules t v x s c k (Some e) ne w h r = answered _ _ _ ((acts-error s t e).moved.put w v x ne)
by_egl_rules t v x s c k None ne w h r = both_same _ _ _ _ (blind-egl_reply t c s k w v x ne) ((acts-egl_done s t c k h r).moved.put w v x ne)

by_gl_rules : (t v n : ℕ) (x : Own) (s : State) (c : CallValue) (k : GlKind) (o : Option GlError) → v ≢ t → IsWhole (shapes s.objects) s → c.kind ≡ Gl k → current_context s t ≡ Some n → gl_refusal s t n k c ≡ o →
    after_gl_rules (put_own s v x) n o (gl_effect (put_own s v x) t n k c) ≡ moved_step (put_at (own_objects s v) v x) (after_gl_rules s n o (gl_effect s t n k c))
by_gl_rules t v n x s c k (Some e) ne w q h r = answered _ _ _ ((acts-own_part s t n (noted e) (λ p. refl) h).moved.put w v x ne)
by_gl_rules t v n x s c k None ne w q h r = both_same _ _ _ _ (blind-gl_reply t n c s k h w v x ne) ((acts-gl_done s t n c k q r h).moved.put w v x ne)

by_context : (t v : ℕ) (x : Own) (s : State) (c : CallValue) (k : GlKind) (o : Option ℕ) → v ≢ t → IsWhole (shapes s.objects) s → c.kind ≡ Gl k → current_context s t ≡ o → gl_step_on (put_own s v x) t o k c ≡ moved_step (put_at (own_objects s v) v x) (gl_step_on s t o k c)
by_context t v x s c k None ne w q h = refl
by_context t v x s c k (Some n) ne w q h =
    ap (λ o. after_gl_rules (put_own s v x) n o (gl_effect (put_own s v x) t n k c)) (blind-gl_refusal t n c s k w v x ne)
    ∙ by_gl_rules t v n x s c k (gl_refusal s t n k c) ne w q h refl

by_buffer_rules : (t v n : ℕ) (x : Own) (s : State) (c : CallValue) (o : Option GlError) → v ≢ t → IsWhole (shapes s.objects) s → current_context s t ≡ Some n →
    after_gl_rules (put_own s v x) n o (buffer_effect (put_own s v x) t n c) ≡ moved_step (put_at (own_objects s v) v x) (after_gl_rules s n o (buffer_effect s t n c))
by_buffer_rules t v n x s c (Some e) ne w h = answered _ _ _ ((acts-own_part s t n (noted e) (λ p. refl) h).moved.put w v x ne)
by_buffer_rules t v n x s c None ne w h = both_same _ _ _ _ (blind-buffer_reply t n c s w v x ne) ((acts-swept_self s t).moved.put w v x ne)

by_buffer : (t v : ℕ) (x : Own) (s : State) (c : CallValue) (o : Option ℕ) → v ≢ t → IsWhole (shapes s.objects) s → current_context s t ≡ o → buffer_step_on (put_own s v x) t o c ≡ moved_step (put_at (own_objects s v) v x) (buffer_step_on s t o c)
by_buffer t v x s c None ne w h = refl
by_buffer t v x s c (Some n) ne w h =
    ap (λ o. after_gl_rules (put_own s v x) n o (buffer_effect (put_own s v x) t n c)) (blind-buffer_refusal t n c s w v x ne)
    ∙ by_buffer_rules t v n x s c (buffer_refusal s t n c) ne w h

by_own : (t v : ℕ) (x : Own) (s : State) (c : CallValue) (k : OwnKind) → v ≢ t → IsWhole (shapes s.objects) s → own_step (put_own s v x) t k c ≡ moved_step (put_at (own_objects s v) v x) (own_step s t k c)
by_own t v x s c ReadBuffer ne w = ap (λ o. buffer_step_on (put_own s v x) t o c) (blind-current t s w v x ne) ∙ by_buffer t v x s c (current_context s t) ne w refl
by_own t v x s c Census ne w = ap (λ l. stepped (record { outcome = Done; value = pos 0; list = map pos l; bytes = [] }) (put_own s v x)) (census-written (own_objects s v) x s.objects)
by_own t v x s c k ne w = refl

by_kind : (t v : ℕ) (x : Own) (s : State) (c : CallValue) (k : Kind) → v ≢ t → IsWhole (shapes s.objects) s → c.kind ≡ k → step_by (put_own s v x) t k c ≡ moved_step (put_at (own_objects s v) v x) (step_by s t k c)
unfolding egl_step gl_step
by_kind t v x s c (Egl k) ne w h =
    ap (λ o. after_egl_rules (put_own s v x) t o (egl_effect (put_own s v x) t k c)) (blind-refusal t c s k w v x ne)
    ∙ by_egl_rules t v x s c k (egl_refusal s t k c) ne w h refl
by_kind t v x s c (Gl k) ne w h = ap (λ o. gl_step_on (put_own s v x) t o k c) (blind-current t s w v x ne) ∙ by_context t v x s c k (current_context s t) ne w h refl
by_kind t v x s c (OwnCall k) ne w h = by_own t v x s c k ne w

by_end : (t v : ℕ) (x : Own) (s : State) (is_end signalled : Bool) → v ≢ t → IsWhole (shapes s.objects) s → wait_step (put_own s v x) t is_end signalled ≡ moved_step (put_at (own_objects s v) v x) (wait_step s t is_end signalled)
by_end t v x s false signalled ne w = refl
by_end t v x s true false ne w = refl
by_end t v x s true true ne w = answered _ _ _ ((acts-wait_done s t).moved.put w v x ne)

by_wait : (t v : ℕ) (x : Own) (s : State) (c : CallValue) (o : Option ℕ) → v ≢ t → IsWhole (shapes s.objects) s → step_in o (put_own s v x) t c ≡ moved_step (put_at (own_objects s v) v x) (step_in o s t c)
by_wait t v x s c (Some sync) ne w = ap (λ b. wait_step (put_own s v x) t (is_wait_end c.kind) b) (blind-signalled t sync s w v x ne) ∙ by_end t v x s (is_wait_end c.kind) (is_signalled s sync) ne w
by_wait t v x s c None ne w = by_kind t v x s c c.kind ne w refl

pub step-put_at : (s : State) (t v : ℕ) (x : Own) (c : CallValue) → v ≢ t → IsWhole (shapes s.objects) s → step (put_own s v x) t c ≡ moved_step (put_at (own_objects s v) v x) (step s t c)
unfolding step
step-put_at s t v x c ne w = ap (λ (r : ThreadRecord). step_in r.wait (put_own s v x) t c) (blind-record t s w v x ne) ∙ by_wait t v x s c (record_of s t).wait ne w

-- the own objects of another thread are those that they were
pub own_objects-step : (s : State) (t v : ℕ) (c : CallValue) → v ≢ t → IsWhole (shapes s.objects) s → own_objects (step s t c).state v ≡ own_objects s v
own_objects-step s t v c ne w = own_objects-stand s (step s t c).state v ((keeps-step s t c).stands w v ne)

pub step-put : (s : State) (t v : ℕ) (x : Own) (c : CallValue) → v ≢ t → IsWhole (shapes s.objects) s → step (put_own s v x) t c ≡ moved_step (λ a. put_own a v x) (step s t c)
step-put s t v x c ne w = step-put_at s t v x c ne w ∙ ap (λ (p : OwnObjects). moved_step (put_at p v x) (step s t c)) (sym (own_objects-step s t v c ne w))

-- ---- States from which parts are out.
pub whole-hide : (ts : List ℕ) (s : State) → IsWhole (shapes s.objects) s → IsWhole (shapes (hide ts s).objects) (hide ts s)
whole-hide [] s w = w
whole-hide (t ∷ ts) s w = whole-put t nothing (hide ts s) (whole-hide ts s w)

-- a step of a thread whose part is in does the same to what is left where other parts are out
pub hide-step : (ts : List ℕ) (s : State) (u : ℕ) (c : CallValue) → IsWhole (shapes s.objects) s → IsNone u ts → step (hide ts s) u c ≡ moved_step (hide ts) (step s u c)
hide-step [] s u c w i = refl
hide-step (t ∷ ts) s u c w i = step-put (hide ts s) u t nothing c i.0 (whole-hide ts s w) ∙ ap (moved_step (λ a. put_own a t nothing)) (hide-step ts s u c w i.1)
