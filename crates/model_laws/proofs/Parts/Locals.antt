-- A local call changes the thread's own alone, and its reply is told by the part.
use Rattle.std.proofs.Common.{◌≡◌, ℕ, ℤ, pos, Bool, true, false, cond, ◌||◌, ◌&&◌, List, [], refl, sym, ap, ◌∙◌, get_or, set, Option, None, Some, is_some}
use Rattle.std.specs.Prelude.{◌==◌, not, unwrap_or}
use Rattle.std.specs.Option.{option_and_then, option_map, option_map_or}
use Rattle.std.proofs.lemmas.Bool.{and_parts, eqb-true, or_left}
use Rattle.std.proofs.lemmas.List.{ext_get_or, set-get_or}
use Rattle.egl_calls.specs.Calls.{CallValue}
use Rattle.egl_calls.specs.declared.kinds.Kind.{Kind}
use Rattle.egl_calls.specs.declared.kinds.Kind.TheVariants.{Egl, Gl, Own as OwnCall}
use Rattle.egl_calls.specs.declared.kinds.EglKind.{EglKind}
use Rattle.egl_calls.specs.declared.kinds.EglKind.TheVariants.{GetError as EglGetError}
use Rattle.egl_calls.specs.declared.kinds.GlKind.{GlKind}
use Rattle.egl_calls.specs.declared.kinds.GlKind.TheVariants.{GetError as GlGetError}
use Rattle.egl_calls.specs.declared.errors.EglError.{EglError}
use Rattle.egl_calls.specs.declared.errors.EglError.TheVariants.{Success}
use Rattle.egl_calls.specs.declared.errors.GlError.{GlError}
use Rattle.call_table.specs.Roles.{draws, takes_pixels}
use Rattle.call_table.specs.Rows.{gl_role, gl_rules as table_rules}
use Rattle.call_table.specs.declared.roles.Role.{Role}
use Rattle.call_table.specs.declared.roles.Role.TheVariants.{Clears, Draws, ReadsPixels}
use Rattle.context_state.specs.Parts.{PartValue, noted}
use Rattle.context_state.specs.Kinds.{context_gl_call}
use Rattle.context_state.specs.Calls.{apply}
use Rattle.pixel_rows.specs.Images.{ImageValue}
use Rattle.pixel_rows.specs.Transfers.{row_bytes}
use Rattle.call_rules.specs.EglRules as rules
use Rattle.call_rules.specs.EglRules.{no_facts}
use Rattle.driver_objects.specs.Storages.{StorageValue, cleared, cleared_image}
use Rattle.driver_objects.specs.declared.objects.Object.{Object}
use Rattle.driver_objects.specs.declared.objects.Object.TheVariants.{Context, Storage}
use Rattle.egl_model.specs.State.{State, initial, object_at, record_of, set_error}
use Rattle.egl_model.specs.Objects.{as_storage, change_part, change_storage, storage_in, with_part, with_storage}
use Rattle.egl_model.specs.Currents.{current_context, draw_storage, part_of_context, read_storage}
use Rattle.egl_model.specs.Framebuffers.{BoundFramebuffer, bound_framebuffer, framebuffer_name, framebuffer_of, is_complete, object_framebuffer, window_framebuffer, window_status}
use Rattle.framebuffer_objects.specs.Framebuffers.{fresh}
use Rattle.egl_names.specs.declared.codes.TheConstants.{GL_FRAMEBUFFER_COMPLETE_OES}
use Rattle.egl_model.specs.Drawing.{clear_storage, clears_colour, read_form, read_pixels, read_rect, rows_of}
use Rattle.egl_model.specs.Sweep.{is_reached, roots, swept, sweep}
use Rattle.model_laws.specs.Laws.{HasNoLitter}
use Rattle.egl_model.specs.EglCalls.{egl_refusal, egl_effect}
use Rattle.egl_model.specs.Facts.{facts_of}
use Rattle.egl_model.specs.GlFacts.{gl_facts_of}
use Rattle.egl_model.specs.GlCalls.{gl_refusal, effect_by, gl_effect, local_value, role_effect}
use Rattle.egl_model.specs.Effects.{Effect, valued}
use Rattle.egl_calls.specs.declared.errors.Outcome.TheVariants.{InWait}
use Rattle.egl_model.specs.Waits.{is_signalled, is_wait_end}
use Rattle.egl_model.specs.Step.{after_egl_rules, after_gl_rules, bare, wait_step, egl_step, gl_step, gl_step_on, step, step_by, step_in}
use Rattle.model_laws.proofs.References.SweepLaws.{length-swept, object_at-swept}
use Rattle.model_laws.specs.Frame.{as_step}
use Rattle.egl_model.specs.Parts.{Own, OwnObjects, are_same, at_place, image_in, own_at, own_of, part_in, part_of, own_objects, put_at, put_own, set_image, set_part, write, written}
use Rattle.model_laws.specs.Local.{LocalEffect, after_rules, by_kind, egl_locally, egl_value, facts_locally, gl_locally, gl_with, in_wait, is_local, is_local_egl, is_local_gl, is_local_kind, is_local_unbound, is_unbound, local_refusal, locally, locally_by, object_locally, read_locally}
use Rattle.model_laws.proofs.Changes.Writes.{write-write}
use Rattle.model_laws.proofs.Parts.Puts.{IsDistinct, distinct-own_objects, image_back, part_back, part_past_image, put-own_of, written_back}
use Rattle.model_laws.proofs.Changes.PutMoves.{sweep-put}
use Rattle.model_laws.proofs.Steps.StepPut.{answered}
use Rattle.model_laws.specs.Sound.{IsSound}
use Rattle.call_rules.specs.GlRules as gl_rules
use Rattle.call_rules.specs.GlRules.{gl_holds, no_gl_facts, rows_by, ruled}
use Rattle.call_rules.specs.declared.gl_facts.GlFacts.{GlFacts}
use Rattle.refusal_rows.specs.Rows.{first_error}

-- ---- A state without litter is swept.
kept_all : (b : Bool) (o : Option Object) → (is_some o ≡ true → b ≡ true) → cond b o None ≡ o
kept_all true o h = refl
kept_all false None h = refl
kept_all false (Some x) h = absurd (let e : false ≡ true = h refl in cc)

pub sweep_clean : (s : State) → HasNoLitter s → sweep s ≡ s
sweep_clean s l = ap (λ (os : List (Option Object)). record s { objects = os })
    (ext_get_or None (swept (roots s) s.objects) s.objects (length-swept (roots s) s.objects)
    (λ m h. object_at-swept (roots s) s.objects m ∙ kept_all (is_reached s m) (object_at s m) (l.each m)))

pub put_swept : (s : State) (t : ℕ) (x : Own) → IsSound s → sweep (put_own s t x) ≡ put_own s t x
put_swept s t x h = sweep-put (own_objects s t) t x s ∙ ap (put_at (own_objects s t) t x) (sweep_clean s h.litter)

-- ---- Changes of the thread's own, as what is put.
pub error_as_put : (s : State) (t : ℕ) (e : EglError) → set_error s t e ≡ put_own s t (record (own_of s t) { error = e })
unfolding written
error_as_put s t e = ap (λ (os : List (Option Object)). record (set_error s t e) { objects = os }) (sym (objects_back s t))
  where
    objects_back : (s : State) (t : ℕ) → write (set_image (own_of s t).read) (own_objects s t).read (write (set_image (own_of s t).draw) (own_objects s t).draw (write (set_part (own_of s t).context) (own_objects s t).context s.objects)) ≡ s.objects
    objects_back s t = written_back (own_objects s t) t s

-- the context's part alone
written-part : (p : OwnObjects) (t : ℕ) (s : State) (x : Option PartValue) → written p (record (own_at p t s) { context = x }) s.objects ≡ write (set_part x) p.context s.objects
unfolding written
written-part p t s x =
    let D = write (set_image (at_place image_in p.draw s.objects)) p.draw in let R = write (set_image (at_place image_in p.read s.objects)) p.read in
    ap R (sym (part_past_image x (at_place image_in p.draw s.objects) p.context p.draw s.objects) ∙ ap (write (set_part x) p.context) (image_back p.draw s.objects))
    ∙ sym (part_past_image x (at_place image_in p.read s.objects) p.context p.read s.objects) ∙ ap (write (set_part x) p.context) (image_back p.read s.objects)

-- the image to draw to alone
written-draw : (p : OwnObjects) (t : ℕ) (s : State) (x : Option ImageValue) → IsDistinct p → written p (record (own_at p t s) { draw = x }) s.objects ≡ write (set_image x) p.draw s.objects
unfolding written
written-draw p t s x w =
    let R = write (set_image (at_place image_in p.read s.objects)) p.read in
    ap (λ o. R (write (set_image x) p.draw o)) (part_back p.context s.objects)
    ∙ write-write (set_image (at_place image_in p.read s.objects)) (set_image x) p.read p.draw refl refl (λ m g h. absurd (w m h g)) s.objects
    ∙ ap (write (set_image x) p.draw) (image_back p.read s.objects)

same_threads : (s : State) (t : ℕ) (os : List (Option Object)) → record s { objects = os } ≡ record s { objects = os; threads = set s.threads t (record (record_of s t) { error = (record_of s t).error }) }
same_threads s t os = ap (λ ts. record s { objects = os; threads = ts }) (sym (set-get_or s.threads t initial))

part_changed : (f : PartValue → PartValue) (q : PartValue) (o : Option Object) → part_in o ≡ Some q → with_part f o ≡ set_part (Some (f q)) o
part_changed f q (Some (Context c)) e = ap (λ (x : Option PartValue). Some (Context (record c { part = option_map f x }))) e
part_changed f q o e = refl

change_part-write : (f : PartValue → PartValue) (q : PartValue) (n : ℕ) (os : List (Option Object)) → part_in (get_or os n None) ≡ Some q → change_part f n os ≡ write (set_part (Some (f q))) (Some n) os
unfolding change_part write
change_part-write f q n os e = ap (set os n) (part_changed f q (get_or os n None) e)

pub part_as_put : (s : State) (t n : ℕ) (f : PartValue → PartValue) (q : PartValue) → current_context s t ≡ Some n → part_of_context s n ≡ Some q →
    record s { objects = change_part f n s.objects } ≡ put_own s t (record (own_of s t) { context = Some (f q) })
part_as_put s t n f q h e =
    ap (λ (os : List (Option Object)). record s { objects = os }) (change_part-write f q n s.objects e ∙ ap (λ (p : Option ℕ). write (set_part (Some (f q))) p s.objects) (sym h) ∙ sym (written-part (own_objects s t) t s (Some (f q))))
    ∙ same_threads s t (written (own_objects s t) (record (own_of s t) { context = Some (f q) }) s.objects)

image_changed : (f : ImageValue → ImageValue) (g : StorageValue → StorageValue) → ((v : StorageValue) → g v ≡ record v { image = option_map f v.image }) → (o : Option Object) → with_storage g o ≡ set_image (option_map f (image_in o)) o
image_changed f g h (Some (Storage x)) = ap (λ (v : StorageValue). Some (Storage v)) (h x)
image_changed f g h o = refl

pub image_as_put : (s : State) (t n : ℕ) (f : ImageValue → ImageValue) (g : StorageValue → StorageValue) → ((v : StorageValue) → g v ≡ record v { image = option_map f v.image }) → draw_storage s t ≡ Some n →
    record s { objects = change_storage g n s.objects } ≡ put_own s t (record (own_of s t) { draw = option_map f (own_of s t).draw })
unfolding change_storage write at_place
image_as_put s t n f g h e =
    ap (λ (os : List (Option Object)). record s { objects = os })
    (ap (set s.objects n) (image_changed f g h (get_or s.objects n None))
    ∙ ap (λ (p : Option ℕ). write (set_image (option_map f (at_place image_in p s.objects))) p s.objects) (sym e)
    ∙ sym (written-draw (own_objects s t) t s (option_map f (own_of s t).draw) (distinct-own_objects s t)))
    ∙ same_threads s t (written (own_objects s t) (record (own_of s t) { draw = option_map f (own_of s t).draw }) s.objects)

-- ---- Steps.
same_valued : (v w : ℤ) (a b : State) → v ≡ w → a ≡ b → valued v a ≡ valued w b
same_valued v w a b e f = ap (λ z. valued z a) e ∙ ap (valued w) f

abbrev reads : List ℕ → State → Effect
reads b s = record { waits = false; value = pos 0; list = []; bytes = b; state = s }

abbrev pub as_effect : State → ℕ → LocalEffect → Effect
as_effect s t f = record { waits = false; value = f.value; list = f.list; bytes = f.bytes; state = put_own s t f.own }

not_local : {A : Type 0} → false ≡ true → A
not_local h = absurd (let e : false ≡ true = h in cc)

-- a local call of EGL, and no other one
local_rows : (s : State) (t : ℕ) (c : CallValue) (k : EglKind) → is_local_egl k ≡ true → rules.egl_rows k c (facts_of s t c) ≡ rules.egl_rows k c no_facts
local_rows s t c EglGetError h = refl
local_rows s t c k h = cc

-- its rows ask for no fact
local_refused : (s : State) (t : ℕ) (c : CallValue) (k : EglKind) → c.kind ≡ Egl k → is_local_egl k ≡ true → rules.egl_refusal c (facts_of s t c) ≡ local_refusal c
unfolding rules.egl_refusal
local_refused s t c k e h =
    ap (λ (kind : Kind). first_error (rules.egl_rows_by kind c (facts_of s t c))) e
    ∙ ap first_error (local_rows s t c k h)
    ∙ ap (λ (kind : Kind). first_error (rules.egl_rows_by kind c no_facts)) (sym e)

egl_effect-local : (s : State) (t : ℕ) (c : CallValue) (k : EglKind) → is_local_egl k ≡ true → egl_effect s t k c ≡ valued (egl_value (part_of s t) k c) s
egl_effect-local s t c EglGetError h = refl
egl_effect-local s t c k h = cc

by_egl_refusal : (s : State) (t : ℕ) (v : ℤ) (o : Option EglError) → IsSound s → after_egl_rules s t o (valued v s) ≡ as_step s t (egl_locally (part_of s t) o v)
by_egl_refusal s t v (Some e) l = answered _ _ _ (error_as_put s t e)
by_egl_refusal s t v None l = answered _ _ _ (ap sweep (error_as_put s t Success) ∙ put_swept s t (record (own_of s t) { error = Success }) l)

egl_step-local : (s : State) (t : ℕ) (c : CallValue) (k : EglKind) → c.kind ≡ Egl k → IsSound s → is_local_egl k ≡ true → egl_step s t k c ≡ as_step s t (egl_locally (part_of s t) (local_refusal c) (egl_value (part_of s t) k c))
unfolding egl_step egl_refusal
egl_step-local s t c k e l h =
    ap (λ r. after_egl_rules s t r (egl_effect s t k c)) (local_refused s t c k e h)
    ∙ ap (after_egl_rules s t (local_refusal c)) (egl_effect-local s t c k h)
    ∙ by_egl_refusal s t (egl_value (part_of s t) k c) (local_refusal c) l

pub nothing_to_draw_on : (s : State) (t : ℕ) (f : ImageValue → ImageValue) → draw_storage s t ≡ None → s ≡ put_own s t (record (own_of s t) { draw = option_map f (own_of s t).draw })
unfolding at_place
nothing_to_draw_on s t f e =
    sym (put-own_of s t)
    ∙ ap (λ (i : Option ImageValue). put_own s t (record (own_of s t) { draw = i })) (ap (λ (p : Option ℕ). at_place image_in p s.objects) e ∙ sym (ap (λ (p : Option ℕ). option_map f (at_place image_in p s.objects)) e))

cleared-local : (s : State) (t : ℕ) (q : PartValue) (d : Option ℕ) → draw_storage s t ≡ d → clear_storage (Some q) d s ≡ put_own s t (record (own_of s t) { draw = option_map (cleared_image q) (own_of s t).draw })
cleared-local s t q None e = nothing_to_draw_on s t (cleared_image q) e
cleared-local s t q (Some m) e = image_as_put s t m (cleared_image q) (cleared q) (λ v. refl) e

either_put : (s : State) (t : ℕ) (b : Bool) (a : State) (x : Own) → a ≡ put_own s t x → cond b a s ≡ put_own s t (cond b x (own_of s t))
either_put s t true a x e = e
either_put s t false a x e = sym (put-own_of s t)

rows_there : (os : List (Option Object)) (c : CallValue) (align : ℕ) (p : Option ℕ) → rows_of c align (option_and_then (storage_in os) p)
    ≡ option_map_or (λ i. row_bytes i (read_rect c) (read_form c) align) (at_place image_in p os) []
unfolding at_place
rows_there os c align None = refl
rows_there os c align (Some n) = of_object (get_or os n None)
  where
    of_object : (o : Option Object) → rows_of c align (as_storage o) ≡ option_map_or (λ i. row_bytes i (read_rect c) (read_form c) align) (image_in o) []
    of_object (Some (Storage x)) = refl
    of_object o = refl

same_place : (a b : Option ℕ) → are_same a b ≡ true → b ≡ a
same_place None b h = not_local h
same_place (Some m) None h = not_local h
same_place (Some m) (Some n) h = ap (λ k. Some k) (eqb-true n m h)

image_read : (os : List (Option Object)) (a b : Option ℕ) (same : Bool) → are_same a b ≡ same → at_place image_in b os ≡ cond same (at_place image_in a os) (at_place image_in (cond same None b) os)
image_read os a b true h = ap (λ (p : Option ℕ). at_place image_in p os) (same_place a b h)
image_read os a b false h = refl

-- ---- What is bound is the framebuffer of the window system.
unbound_name : (q : PartValue) → is_unbound (Some q) ≡ true → (q.bound.framebuffer == 0) ≡ true
unbound_name q h = by (q.bound.framebuffer == 0) h
  where
    by : (b : Bool) → cond (not b) false true ≡ true → b ≡ true
    by true h = refl
    by false h = not_local h

pub bound-local : (s : State) (t n : ℕ) (q : PartValue) → current_context s t ≡ Some n → part_of_context s n ≡ Some q → is_unbound (Some q) ≡ true → bound_framebuffer s t ≡ window_framebuffer s t
bound-local s t n q h e u =
    ap (λ (m : ℕ). cond (m == 0) (window_framebuffer s t) (object_framebuffer s.objects (unwrap_or (option_and_then (framebuffer_of s) (current_context s t)) fresh)))
    (ap (λ o. framebuffer_name (option_and_then (part_of_context s) o)) h ∙ ap framebuffer_name e)
    ∙ ap (λ b. cond b (window_framebuffer s t) (object_framebuffer s.objects (unwrap_or (option_and_then (framebuffer_of s) (current_context s t)) fresh))) (unbound_name q u)

window_complete : (o : Option ℕ) → (window_status o == GL_FRAMEBUFFER_COMPLETE_OES) ≡ is_some o
window_complete None = refl
window_complete (Some k) = refl

read_pixels-local : (s : State) (t n : ℕ) (q : PartValue) (c : CallValue) → current_context s t ≡ Some n → part_of_context s n ≡ Some q → is_unbound (Some q) ≡ true → read_pixels s t n c ≡ read_locally (part_of s t) q c
read_pixels-local s t n q c h e u =
    ap (λ (b : BoundFramebuffer). rows_of c (option_map_or (λ y. y.pack_alignment) (part_of_context s n) 4) (option_and_then (storage_in s.objects) b.read)) (bound-local s t n q h e u)
    ∙ ap (λ (p : Option PartValue). rows_of c (option_map_or (λ y. y.pack_alignment) p 4) (option_and_then (storage_in s.objects) (read_storage s t))) e
    ∙ rows_there s.objects c q.pack_alignment (read_storage s t)
    ∙ ap (λ i. option_map_or (λ i. row_bytes i (read_rect c) (read_form c) q.pack_alignment) i []) (image_read s.objects (draw_storage s t) (read_storage s t) (are_same (draw_storage s t) (read_storage s t)) refl)

-- a case for each role of another local call of OpenGL ES
object_effect-local : (r : Role) (s : State) (t n : ℕ) (q : PartValue) (c : CallValue) (k : GlKind) → current_context s t ≡ Some n → part_of_context s n ≡ Some q → (takes_pixels r && is_unbound (Some q)) ≡ true →
    role_effect r s t n k c ≡ as_effect s t (object_locally r (part_of s t) q c)
object_effect-local Clears s t n q c k h e m = ap (valued (pos 0))
    (ap (λ (b : BoundFramebuffer). cond (clears_colour c) (clear_storage (part_of_context s n) b.draw s) s) (bound-local s t n q h e m)
    ∙ ap (λ o. cond (clears_colour c) (clear_storage o (draw_storage s t) s) s) e
    ∙ either_put s t (clears_colour c) (clear_storage (Some q) (draw_storage s t) s) (record (own_of s t) { draw = option_map (cleared_image q) (own_of s t).draw }) (cleared-local s t q (draw_storage s t) refl))
object_effect-local ReadsPixels s t n q c k h e m = read_effect _ _ _ _ (read_pixels-local s t n q c h e m) (sym (put-own_of s t))
  where
    read_effect : (b d : List ℕ) (x y : State) → b ≡ d → x ≡ y → reads b x ≡ reads d y
    read_effect b d x y e f = ap (λ z. reads z x) e ∙ ap (reads d) f
object_effect-local r s t n q c k h e m = not_local m

effect_by-local : (o : Option GlKind) (s : State) (t n : ℕ) (q : PartValue) (c : CallValue) (k : GlKind) → current_context s t ≡ Some n → part_of_context s n ≡ Some q → (is_some o || (is_local_unbound k && is_unbound (Some q))) ≡ true →
    effect_by o s t n k c ≡ as_effect s t (locally_by o (part_of s t) q k c)
effect_by-local (Some own) s t n q c k h e m = same_valued _ _ _ _ (ap (λ x. local_value x c) e) (part_as_put s t n (λ p. (apply c p).part) q h e)
effect_by-local None s t n q c k h e m = object_effect-local (gl_role k) s t n q c k h e m

gl_effect-local : (s : State) (t n : ℕ) (q : PartValue) (c : CallValue) (k : GlKind) → current_context s t ≡ Some n → part_of_context s n ≡ Some q → (is_local_gl k || (is_local_unbound k && is_unbound (Some q))) ≡ true →
    gl_effect s t n k c ≡ as_effect s t (gl_locally (part_of s t) q k c)
gl_effect-local s t n q c k h e m = effect_by-local (context_gl_call k) s t n q c k h e m

by_gl_refusal : (s : State) (t n : ℕ) (q : PartValue) (c : CallValue) (k : GlKind) (o : Option GlError) → IsSound s → current_context s t ≡ Some n → part_of_context s n ≡ Some q → (is_local_gl k || (is_local_unbound k && is_unbound (Some q))) ≡ true →
    after_gl_rules s n o (gl_effect s t n k c) ≡ as_step s t (after_rules (own_of s t) q o (gl_locally (part_of s t) q k c))
by_gl_refusal s t n q c k (Some e) l h i m = answered _ _ _ (part_as_put s t n (noted e) q h i)
by_gl_refusal s t n q c k None l h i m = ap (after_gl_rules s n None) (gl_effect-local s t n q c k h i m) ∙ answered _ _ _ (put_swept s t (gl_locally (part_of s t) q k c).own l)

-- the part of the thread's context is in, and so are the pixels of its draw surface
pub record HasOwn (s : State) (t : ℕ) : Type 0 where
  pub part : is_some (own_of s t).context ≡ is_some (current_context s t)
  pub image : is_some (own_of s t).draw ≡ is_some (draw_storage s t)

-- what is bound is complete where there are surfaces, if it is the framebuffer of the window system
pub complete-local : (s : State) (t n : ℕ) (q : PartValue) → HasOwn s t → current_context s t ≡ Some n → part_of_context s n ≡ Some q → is_unbound (Some q) ≡ true → is_complete (bound_framebuffer s t) ≡ is_some (own_of s t).draw
complete-local s t n q o h e u = ap is_complete (bound-local s t n q h e u) ∙ window_complete (draw_storage s t) ∙ sym o.image

-- ---- Calls that ask of the state only whether what is bound is complete.
abbrev complete_only : GlFacts → GlFacts
complete_only f = record no_gl_facts { is_framebuffer_complete = f.is_framebuffer_complete }

abbrev AsksOne : Role → GlKind → CallValue → GlFacts → Type 0
AsksOne Clears k c f = ruled (table_rules k) c f ≡ ruled (table_rules k) c (complete_only f)
AsksOne ReadsPixels k c f = ruled (table_rules k) c f ≡ ruled (table_rules k) c (complete_only f)
AsksOne Draws k c f = ruled (table_rules k) c f ≡ ruled (table_rules k) c (complete_only f)
AsksOne r k c f = true ≡ true

-- a first call has a clause of its own, and the last clause goes by the cases that are left
asks_one : (k : GlKind) (c : CallValue) (f : GlFacts) → AsksOne (gl_role k) k c f
asks_one GlGetError c f = refl
asks_one k c f = refl

rules_alike : (r : Role) (k : GlKind) (c : CallValue) (f : GlFacts) → (takes_pixels r || draws r) ≡ true → AsksOne r k c f → ruled (table_rules k) c f ≡ ruled (table_rules k) c (complete_only f)
rules_alike Clears k c f d e = e
rules_alike ReadsPixels k c f d e = e
rules_alike Draws k c f d e = e
rules_alike r k c f d e = not_local d

-- the rows of such a call look at two sets of facts alike that agree in this
one_asked : (k : GlKind) (c : CallValue) (f g : GlFacts) → (takes_pixels (gl_role k) || draws (gl_role k)) ≡ true → f.is_framebuffer_complete ≡ g.is_framebuffer_complete → ruled (table_rules k) c f ≡ ruled (table_rules k) c g
one_asked k c f g d same =
    rules_alike (gl_role k) k c f d (asks_one k c f)
    ∙ ap (λ b. ruled (table_rules k) c (record no_gl_facts { is_framebuffer_complete = b })) same
    ∙ sym (rules_alike (gl_role k) k c g d (asks_one k c g))

-- whatever a call of its context's own state asks is told by the call
with_own : (o : Option GlKind) (k : GlKind) (c : CallValue) (f g : GlFacts) → (o ≡ None → ruled (table_rules k) c f ≡ ruled (table_rules k) c g) → rows_by (λ x. gl_holds x c f) o k c ≡ rows_by (λ x. gl_holds x c g) o k c
with_own (Some own) k c f g h = refl
with_own None k c f g h = h refl

pub rows_alike : (k : GlKind) (c : CallValue) (f g : GlFacts) → (takes_pixels (gl_role k) || draws (gl_role k)) ≡ true → f.is_framebuffer_complete ≡ g.is_framebuffer_complete → gl_rules.gl_rows k c f ≡ gl_rules.gl_rows k c g
rows_alike k c f g d same = with_own (context_gl_call k) k c f g (λ none. one_asked k c f g d same)

local_gl_rows : (s : State) (t n : ℕ) (q : PartValue) (c : CallValue) (k : GlKind) → HasOwn s t → current_context s t ≡ Some n → part_of_context s n ≡ Some q → (is_local_gl k || (is_local_unbound k && is_unbound (Some q))) ≡ true → gl_rules.gl_rows k c (gl_facts_of s t n c) ≡ gl_rules.gl_rows k c (facts_locally (part_of s t))
local_gl_rows s t n q c k o h e m = with_own (context_gl_call k) k c (gl_facts_of s t n c) (facts_locally (part_of s t)) (λ none.
    let both = and_parts (takes_pixels (gl_role k)) (is_unbound (Some q)) (ap (λ x. is_some x || (takes_pixels (gl_role k) && is_unbound (Some q))) (sym none) ∙ m) in
    one_asked k c (gl_facts_of s t n c) (facts_locally (part_of s t)) (or_left (takes_pixels (gl_role k)) (draws (gl_role k)) both.0) (complete-local s t n q o h e both.1))

-- facts that the rows of a call don't tell from those of the state refuse it alike
pub refusal_by_rows : (s : State) (t n : ℕ) (c : CallValue) (k : GlKind) (f : GlFacts) → c.kind ≡ Gl k → gl_rules.gl_rows k c (gl_facts_of s t n c) ≡ gl_rules.gl_rows k c f → gl_refusal s t n k c ≡ gl_rules.gl_refusal c f
unfolding gl_refusal gl_rules.gl_refusal
refusal_by_rows s t n c k f is h =
    ap (λ (kind : Kind). first_error (gl_rules.gl_rows_by kind c (gl_facts_of s t n c))) is
    ∙ ap first_error h
    ∙ ap (λ (kind : Kind). first_error (gl_rules.gl_rows_by kind c f)) (sym is)

local_gl_refusal : (s : State) (t n : ℕ) (q : PartValue) (c : CallValue) (k : GlKind) → c.kind ≡ Gl k → HasOwn s t → current_context s t ≡ Some n → part_of_context s n ≡ Some q → (is_local_gl k || (is_local_unbound k && is_unbound (Some q))) ≡ true → gl_refusal s t n k c ≡ gl_rules.gl_refusal c (facts_locally (part_of s t))
local_gl_refusal s t n q c k is o h e m = refusal_by_rows s t n c k (facts_locally (part_of s t)) is (local_gl_rows s t n q c k o h e m)

by_part : (s : State) (t n : ℕ) (c : CallValue) (k : GlKind) (x : Option PartValue) → c.kind ≡ Gl k → IsSound s → HasOwn s t → current_context s t ≡ Some n → part_of_context s n ≡ x → is_some x ≡ true → (is_local_gl k || (is_local_unbound k && is_unbound x)) ≡ true →
    gl_step_on s t (Some n) k c ≡ as_step s t (gl_with (part_of s t) x k c)
by_part s t n c k None is l o h i j m = not_local j
by_part s t n c k (Some q) is l o h i j m = ap (λ e. after_gl_rules s n e (gl_effect s t n k c)) (local_gl_refusal s t n q c k is o h i m)
    ∙ by_gl_refusal s t n q c k (gl_rules.gl_refusal c (facts_locally (part_of s t))) l h i m

by_current : (s : State) (t : ℕ) (c : CallValue) (k : GlKind) (o : Option ℕ) → c.kind ≡ Gl k → IsSound s → HasOwn s t → current_context s t ≡ o → is_some (own_of s t).context ≡ is_some o → is_local_kind (part_of s t) (Gl k) ≡ true →
    gl_step_on s t o k c ≡ as_step s t (gl_with (part_of s t) (own_of s t).context k c)
unfolding at_place
by_current s t c k None is l y h i m = answered _ _ _ (sym (put-own_of s t)) ∙ ap (λ (p : Option ℕ). as_step s t (gl_with (part_of s t) (at_place part_in p s.objects) k c)) (sym h)
by_current s t c k (Some n) is l y h i m =
    by_part s t n c k (own_of s t).context is l y h (ap (λ (p : Option ℕ). at_place part_in p s.objects) (sym h)) i m

gl_step-local : (s : State) (t : ℕ) (c : CallValue) (k : GlKind) → c.kind ≡ Gl k → IsSound s → HasOwn s t → is_local_kind (part_of s t) (Gl k) ≡ true → gl_step s t k c ≡ as_step s t (gl_with (part_of s t) (own_of s t).context k c)
unfolding gl_step
gl_step-local s t c k is l i m = by_current s t c k (current_context s t) is l i refl i.part m

by_kind-local : (s : State) (t : ℕ) (c : CallValue) (k : Kind) → c.kind ≡ k → IsSound s → HasOwn s t → is_local_kind (part_of s t) k ≡ true → step_by s t k c ≡ as_step s t (by_kind (part_of s t) k c)
by_kind-local s t c (Egl k) e l i m = egl_step-local s t c k e l m
by_kind-local s t c (Gl k) e l i m = gl_step-local s t c k e l i m
by_kind-local s t c (OwnCall k) e l i m = not_local m

waiting-local : (s : State) (t : ℕ) (k : Kind) (signalled : Bool) → is_local_kind (part_of s t) k ≡ true → wait_step s t (is_wait_end k) signalled ≡ as_step s t (record { reply = bare InWait; own = own_of s t })
waiting-local s t (Egl k) signalled m = answered _ _ _ (sym (put-own_of s t))
waiting-local s t (Gl k) signalled m = answered _ _ _ (sym (put-own_of s t))
waiting-local s t (OwnCall k) signalled m = not_local m

by_wait-local : (s : State) (t : ℕ) (c : CallValue) (o : Option ℕ) → IsSound s → HasOwn s t → is_local (part_of s t) c ≡ true → step_in o s t c ≡ as_step s t (in_wait (is_some o) (part_of s t) c)
by_wait-local s t c (Some sync) l i m = waiting-local s t c.kind (is_signalled s sync) m
by_wait-local s t c None l i m = by_kind-local s t c c.kind refl l i m

-- a local call changes the thread's own alone; its reply, and what is then the thread's own, depend on the part and the call
pub local_step : (s : State) (t : ℕ) (c : CallValue) → IsSound s → HasOwn s t → is_local (part_of s t) c ≡ true → step s t c ≡ as_step s t (locally (part_of s t) c)
unfolding step locally
local_step s t c l i m = by_wait-local s t c (record_of s t).wait l i m
