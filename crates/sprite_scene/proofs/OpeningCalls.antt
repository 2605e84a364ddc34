-- The calls before all items.
use Rattle.std.proofs.Common.{◌≡◌, ℕ, zero, suc, ◌+◌, ◌*◌, ◌<◌, ◌≤◌, ℤ, pos, Bool, true, false, not, ◌&&◌, List, [], ◌∷◌, length, map, refl, sym, subst, ap, ◌∙◌, arith, Option, None, Some, get_or, set}
use Rattle.std.specs.Prelude.{min, replicate}
use Rattle.std.specs.List.{flat_map, list_any}
use Rattle.std.specs.Option.{option_map}
use Rattle.std.proofs.lemmas.Bool.{or_from}
use Rattle.std.proofs.lemmas.Int.{ints}
use Rattle.std.proofs.lemmas.List.{ext_get_or, get_or-set_same, length-replicate, length-set, set-get_or}
use Rattle.std.proofs.Math.Nat.{mul-le-mul}
use Rattle.call_rules.proofs.TestLaws.{is_not_below, is_within}
use Rattle.call_rules.proofs.EglLaws.{refused_not}
use Rattle.call_rules.proofs.GlLaws.{refused_not as gl_refused_not}
use Rattle.context_state.specs.Arguments.{may_enable}
use Rattle.context_state.specs.Calls.{apply}
use Rattle.egl_calls.specs.declared.kinds.GlKind.{GlKind}
use Rattle.egl_names.specs.declared.codes.TheConstants.{GL_SCISSOR_TEST, GL_TEXTURE_2D}
use Rattle.egl_model.specs.Flushes.{flushed}
use Rattle.egl_model.specs.GlCalls.{applied, gl_effect, local_value, gl_refusal}
use Rattle.egl_model.specs.GlFacts.{gl_facts_of}
use Rattle.egl_model.specs.Objects.{change_part}
use Rattle.model_laws.proofs.Pixels.PixelLaws.{live_bytes-swept}
use Rattle.sprite_scene.proofs.LineCalls.{Goes, Passes, bytes_part, effect_of, gl_call, goes, shows_part}
use Rattle.egl_calls.specs.Calls.{CallValue}
use Rattle.egl_calls.specs.declared.kinds.Kind.TheVariants.{Egl}
use Rattle.egl_calls.specs.declared.kinds.EglKind.{EglKind}
use Rattle.egl_calls.specs.declared.errors.EglError.TheVariants.{Success}
use Rattle.attrib_lists.specs.Lists.{bad_place, value_of}
use Rattle.attrib_lists.specs.Ranges.{is_allowed}
use Rattle.config_match.specs.Compatible.{are_compatible}
use Rattle.config_match.specs.Table.{attribute, attribute_of, is_config}
use Rattle.context_state.specs.Parts.{PartValue, fresh, whole}
use Rattle.pixel_formats.specs.Formats.{bytes_of}
use Rattle.pixel_formats.specs.declared.formats.Format.TheVariants.{Rgba8888}
use Rattle.pixel_rows.specs.Images.{blank}
use Rattle.surface_store.specs.Formats.{format_of}
use Rattle.surface_store.specs.Surfaces.{pbuffer, taken}
use Rattle.driver_objects.specs.Storages.{stored}
use Rattle.driver_objects.specs.declared.objects.Object.TheVariants.{Context, Group, Surface, Storage}
use Rattle.egl_model.specs.Contexts.{new_texture}
use Rattle.egl_model.specs.Currents.{has_context, has_surface, part_of_context, is_context_elsewhere, is_surface_elsewhere, others}
use Rattle.egl_model.specs.Graph.{is_in}
use Rattle.egl_model.specs.Surfaces.{add_pbuffer, surface_bytes}
use Rattle.display_table.specs.declared.handles.HandleKind.TheVariants.{Context as a_context, Surface as a_surface}
use Rattle.display_table.specs.declared.handles.Handle.{Handle}
use Rattle.driver_objects.specs.declared.objects.Object.{Object}
use Rattle.egl_model.specs.Effects.{Effect, valued}
use Rattle.egl_model.specs.EglCalls.{egl_effect, egl_refusal}
use Rattle.egl_model.specs.Facts.{facts_of}
use Rattle.egl_model.specs.State.{State, capacity, initial, set_error}
use Rattle.egl_model.specs.Step.{Stepped, done, step, step_by}
use Rattle.egl_model.specs.Sweep.{held_by, live_bytes, roots, roots_of, sweep, swept}
use Rattle.egl_model.specs.declared.records.ThreadRecord.{ThreadRecord}
use Rattle.model_laws.proofs.References.Places.{initial_at}
use Rattle.model_laws.proofs.Steps.StepLaws.{egl_done, step_goes}
use Rattle.sprite_scene.specs.Calls.{create_context, create_pbuffer, enable, get_display, initialize, make_current, replace}
use Rattle.sprite_scene.specs.Runs.{opened}
use Rattle.model_laws.proofs.References.Slots.{in_left}
use Rattle.model_laws.proofs.References.SweepLaws.{length-swept}
use Rattle.sprite_scene.proofs.Reaching.{Led, edge, led_on, led_root, led_up, shows_swept, stays}
use Rattle.sprite_scene.proofs.Views.{IsThread, Shows, context_with, drawing_record, group_with}

-- ---- The records of threads before the first call.
abbrev pub quiet : List ThreadRecord
quiet = replicate capacity initial

pub first_record : get_or quiet 0 initial ≡ initial
first_record = initial_at (λ r. r) capacity 0

-- a call that succeeds leaves them
pub still_quiet : set quiet 0 (record (get_or quiet 0 initial) { error = Success }) ≡ quiet
still_quiet = ap (λ (r : ThreadRecord). set quiet 0 (record r { error = Success })) first_record ∙ ap (λ (r : ThreadRecord). set quiet 0 r) (sym first_record) ∙ set-get_or quiet 0 initial

-- a state in which nothing is current
abbrev pub idle : Bool → List (Option Object) → List Handle → ℕ → State
idle first objects handles next = record { first = first; second = false; objects = objects; handles = handles; next_handle = next; threads = quiet; windows = []; video = 1073741824 }

still_idle : (first : Bool) (objects : List (Option Object)) (handles : List Handle) (next : ℕ) → set_error (idle first objects handles next) 0 Success ≡ idle first objects handles next
still_idle first objects handles next = ap (λ (ts : List ThreadRecord). record (idle first objects handles next) { threads = ts }) still_quiet

egl_stepped : (first : Bool) (objects : List (Option Object)) (handles : List Handle) (next : ℕ) (k : EglKind) (c : CallValue) → c.kind ≡ Egl k → egl_refusal (idle first objects handles next) 0 k c ≡ None →
    step (idle first objects handles next) 0 c ≡ record { reply = done (egl_effect (idle first objects handles next) 0 k c); state = sweep (set_error (egl_effect (idle first objects handles next) 0 k c).state 0 Success) }
egl_stepped first objects handles next k c h r =
    let s = idle first objects handles next in
    step_goes s 0 c (ap (λ (t : ThreadRecord). t.wait) first_record) ∙ ap (λ z. step_by s 0 z c) h ∙ egl_done s 0 k c r

-- nothing is there to be swept
nothing_swept : (rs : List ℕ) → swept rs [] ≡ []
unfolding swept
nothing_swept rs = refl

-- ---- eglGetDisplay and eglInitialize.
display_none : Passes (idle false [] [] 3) get_display
unfolding egl_refusal
display_none = refused_not get_display (facts_of (idle false [] [] 3) 0 get_display) _ refl tt

swept_idle : (first : Bool) → sweep (set_error (idle first [] [] 3) 0 Success) ≡ idle first [] [] 3
swept_idle first = ap sweep (still_idle first [] [] 3) ∙ ap (λ os. idle first os [] 3) (nothing_swept (roots (idle first [] [] 3)))

pub display_step : step opened 0 get_display ≡ record { reply = done (effect_of opened get_display); state = opened }
display_step = egl_stepped false [] [] 3 _ get_display refl display_none ∙ ap (λ s. record { reply = done (effect_of opened get_display); state = s }) (swept_idle false)

initialize_none : Passes (idle false [] [] 3) initialize
unfolding egl_refusal
initialize_none = refused_not initialize (facts_of (idle false [] [] 3) 0 initialize) _ refl (refl, tt)

pub initialize_step : step opened 0 initialize ≡ record { reply = done (effect_of opened initialize); state = idle true [] [] 3 }
initialize_step = egl_stepped false [] [] 3 _ initialize refl initialize_none ∙ ap (λ s. record { reply = done (effect_of opened initialize); state = s }) (swept_idle true)

-- ---- What is led to from valid handles.
led_handle : (s : State) (n : ℕ) → is_in n (map (λ h. h.object) s.handles) ≡ true → Led s 0 n
unfolding roots_of
led_handle s n h = led_root s n (in_left n (map (λ h. h.object) s.handles) (flat_map held_by s.threads) h)

-- a table of which each object is led to has nothing to be swept
all_led : (s : State) → ((i : ℕ) → i < length s.objects → Led s 4 i) → swept (roots s) s.objects ≡ s.objects
all_led s l =
    ext_get_or None (swept (roots s) s.objects) s.objects (length-swept (roots s) s.objects) (λ i h. stays s i (l i (let e = length-swept (roots s) s.objects in omega (arith, e, h))))

up_from : (s : State) (n : ℕ) → Led s 1 n → Led s 4 n
up_from s n l = led_up s 3 n (led_up s 2 n (led_up s 1 n l))

-- ---- eglCreatePbufferSurface.
abbrev pub surface_of : ℕ → ℕ → Object
surface_of w h = Surface (record { surface = taken (pbuffer (pos 4) w h false); storage = 1; window = None })

abbrev pub target_of : ℕ → ℕ → Object
target_of w h = Storage (stored (blank Rgba8888 w h))

abbrev pub surface_handle : Handle
surface_handle = record { number = 3; display = 1; kind = a_surface; object = 0 }

config_format : format_of (pos 4) ≡ Rgba8888
unfolding format_of attribute attribute_of
config_format = refl

within_surface : (n : ℕ) → n ≤ 2048 → min n 2048 ≡ n
within_surface n l = omega (arith, l)

pub area_fits : (w h : ℕ) → w ≤ 2048 → h ≤ 2048 → w * h ≤ 4194304
area_fits w h a b = let e = mul-le-mul {n₁ = w} {m₁ = h} {n₂ = 2048} {m₂ = 2048} a b in omega (arith, e)

pbuffer_size : (w h : ℕ) → w ≤ 2048 → h ≤ 2048 → surface_bytes (pos 4) (min w 2048) (min h 2048) ≡ w * h * 4
pbuffer_size w h a b = rw (within_surface w a, within_surface h b) (ap (λ f. w * h * bytes_of f) config_format)

pbuffer_none : (w h : ℕ) → w ≤ 2048 → h ≤ 2048 → Passes (idle true [] [] 3) (create_pbuffer w h)
unfolding egl_refusal value_of bad_place live_bytes is_config is_allowed
pbuffer_none w h a b =
    let e = pbuffer_size w h a b in
    let f = area_fits w h a b in
    refused_not (create_pbuffer w h) (facts_of (idle true [] [] 3) 0 (create_pbuffer w h)) _ refl (
      refl,
      (
        refl,
        (
          refl,
          (
            refl,
            (
              or_from _ _ (is_not_below (pos w) (pos 0) (grind (arith, ints))) (is_not_below (pos h) (pos 0) (grind (arith, ints))),
              (
                ap (λ z. z && true) (or_from _ _ (is_not_below (pos 2048) (pos w) (grind (arith, ints, a))) (is_not_below (pos 2048) (pos h) (grind (arith, ints, b)))),
                (is_within 1073741824 (0 + surface_bytes (pos 4) (min w 2048) (min h 2048)) (omega (arith, e, f)), (refl, tt)),
              ),
            ),
          ),
        ),
      ),
    )

abbrev pub two_objects : ℕ → ℕ → List (Option Object)
two_objects w h = Some (surface_of w h) ∷ Some (target_of w h) ∷ []

pbuffer_effect : (w h : ℕ) → w ≤ 2048 → h ≤ 2048 → effect_of (idle true [] [] 3) (create_pbuffer w h) ≡ valued (pos 3) (idle true (two_objects w h) (surface_handle ∷ []) 4)
unfolding value_of
pbuffer_effect w h a b =
    ap (λ n. valued (pos 3) (add_pbuffer (idle true [] [] 3) 1 (pos 4) n (min h 2048) false)) (within_surface w a)
    ∙ ap (λ n. valued (pos 3) (add_pbuffer (idle true [] [] 3) 1 (pos 4) w n false)) (within_surface h b)
    ∙ ap (λ f. valued (pos 3) (idle true (Some (surface_of w h) ∷ Some (Storage (stored (blank f w h))) ∷ []) (surface_handle ∷ []) 4)) config_format

abbrev pub with_pbuffer : ℕ → ℕ → State
with_pbuffer w h = idle true (two_objects w h) (surface_handle ∷ []) 4

pbuffer_led : (w h i : ℕ) → i < 2 → Led (with_pbuffer w h) 4 i
pbuffer_led w h zero l = up_from (with_pbuffer w h) 0 (led_up (with_pbuffer w h) 0 0 (led_handle (with_pbuffer w h) 0 refl))
pbuffer_led w h (suc zero) l = up_from (with_pbuffer w h) 1 (led_on (with_pbuffer w h) 0 0 1 (led_handle (with_pbuffer w h) 0 refl) (edge (two_objects w h) 0 1 (surface_of w h) refl refl))
pbuffer_led w h (suc (suc i)) l = absurd (omega (arith, l))

pub pbuffer_step : (w h : ℕ) → w ≤ 2048 → h ≤ 2048 → step (idle true [] [] 3) 0 (create_pbuffer w h) ≡ record { reply = done (valued (pos 3) (with_pbuffer w h)); state = with_pbuffer w h }
pbuffer_step w h a b =
    egl_stepped true [] [] 3 _ (create_pbuffer w h) refl (pbuffer_none w h a b)
    ∙ ap (λ (f : Effect). record { reply = done f; state = sweep (set_error f.state 0 Success) }) (pbuffer_effect w h a b)
    ∙ ap (λ s. record { reply = done (valued (pos 3) (with_pbuffer w h)); state = sweep s }) (still_idle true (two_objects w h) (surface_handle ∷ []) 4)
    ∙ ap (λ os. record { reply = done (valued (pos 3) (with_pbuffer w h)); state = idle true os (surface_handle ∷ []) 4 }) (all_led (with_pbuffer w h) (pbuffer_led w h))

-- ---- eglCreateContext.
abbrev pub context_handle : Handle
context_handle = record { number = 4; display = 1; kind = a_context; object = 2 }

abbrev pub five_objects : ℕ → ℕ → PartValue → List (Option Object)
five_objects w h p = Some (surface_of w h) ∷ Some (target_of w h) ∷ Some (Context (context_with None 0 p)) ∷ Some (Group (group_with [])) ∷ Some new_texture ∷ []

abbrev pub with_context_made : ℕ → ℕ → State
with_context_made w h = idle true (five_objects w h fresh) (surface_handle ∷ context_handle ∷ []) 5

context_none : (w h : ℕ) → Passes (with_pbuffer w h) create_context
unfolding egl_refusal value_of bad_place is_config
context_none w h = refused_not create_context (facts_of (with_pbuffer w h) 0 create_context) _ refl (refl, (refl, (refl, (refl, (refl, (refl, (refl, (refl, (refl, tt)))))))))

context_led : (w h i : ℕ) → i < 5 → Led (with_context_made w h) 4 i
context_led w h zero l = let s = with_context_made w h in up_from s 0 (led_up s 0 0 (led_handle s 0 refl))
context_led w h (suc zero) l = let s = with_context_made w h in up_from s 1 (led_on s 0 0 1 (led_handle s 0 refl) (edge s.objects 0 1 (surface_of w h) refl refl))
context_led w h (suc (suc zero)) l = let s = with_context_made w h in up_from s 2 (led_up s 0 2 (led_handle s 2 refl))
context_led w h (suc (suc (suc zero))) l = let s = with_context_made w h in up_from s 3 (led_on s 0 2 3 (led_handle s 2 refl) (edge s.objects 2 3 (Context (context_with None 0 fresh)) refl refl))
context_led w h (suc (suc (suc (suc zero)))) l = let s = with_context_made w h in up_from s 4 (led_on s 0 2 4 (led_handle s 2 refl) (edge s.objects 2 4 (Context (context_with None 0 fresh)) refl refl))
context_led w h (suc (suc (suc (suc (suc i))))) l = absurd (omega (arith, l))

pub context_step : (w h : ℕ) → step (with_pbuffer w h) 0 create_context ≡ record { reply = done (valued (pos 4) (with_context_made w h)); state = with_context_made w h }
context_step w h =
    egl_stepped true (two_objects w h) (surface_handle ∷ []) 4 _ create_context refl (context_none w h)
    ∙ ap (λ s. record { reply = done (valued (pos 4) (with_context_made w h)); state = sweep s }) (still_idle true (five_objects w h fresh) (surface_handle ∷ context_handle ∷ []) 5)
    ∙ ap (λ os. record { reply = done (valued (pos 4) (with_context_made w h)); state = idle true os (surface_handle ∷ context_handle ∷ []) 5 }) (all_led (with_context_made w h) (context_led w h))

-- ---- eglMakeCurrent.
none_of : (p : ThreadRecord → Bool) (n : ℕ) → p initial ≡ false → list_any p (replicate n initial) ≡ false
none_of p zero h = refl
none_of p (suc n) h = or_from (p initial) (list_any p (replicate n initial)) h (none_of p n h)

-- no other thread has anything current
no_other : others quiet 0 ≡ quiet
no_other = ap (λ (r : ThreadRecord). set quiet 0 r) (sym first_record) ∙ set-get_or quiet 0 initial

context_alone : is_context_elsewhere quiet 0 2 ≡ false
unfolding is_context_elsewhere
context_alone = ap (list_any (has_context 2)) no_other ∙ none_of (has_context 2) capacity refl

surface_alone : is_surface_elsewhere quiet 0 0 ≡ false
unfolding is_surface_elsewhere
surface_alone = ap (list_any (has_surface 0)) no_other ∙ none_of (has_surface 0) capacity refl

current_none : (w h : ℕ) → Passes (with_context_made w h) make_current
unfolding egl_refusal are_compatible attribute attribute_of
current_none w h =
    refused_not make_current (facts_of (with_context_made w h) 0 make_current) _ refl
    (refl, (refl, (refl, (refl, (refl, (refl, (refl, (context_alone, (or_from _ _ surface_alone surface_alone, tt)))))))))

-- the part of a context that is current for the first time
abbrev pub first_part : ℕ → ℕ → PartValue
first_part w h = record fresh { viewport = whole w h; scissor_box = whole w h; was_current = true }

-- ---- What the thread is then.
capacity_is : capacity ≡ 65536
unfolding capacity
capacity_is = refl

some_threads : 0 < length quiet
some_threads = let e = length-replicate capacity initial in let f = capacity_is in omega (arith, e, f)

-- its record before the step sets its error, and then
abbrev pub bound_threads : List ThreadRecord
bound_threads = set quiet 0 (record (get_or quiet 0 initial) { context = Some (record { object = 2; handle = 4 }); draw = Some (record { object = 0; handle = 3 }); read = Some (record { object = 0; handle = 3 }) })

abbrev pub drawing_threads : List ThreadRecord
drawing_threads = set bound_threads 0 (record (get_or bound_threads 0 initial) { error = Success })

-- the state in which they are current
abbrev pub with_current : ℕ → ℕ → State
with_current w h = record { first = true; second = false; objects = five_objects w h (first_part w h); handles = surface_handle ∷ context_handle ∷ []; next_handle = 5; threads = drawing_threads; windows = []; video = 1073741824 }

is_drawing : get_or drawing_threads 0 initial ≡ drawing_record
is_drawing =
    let long = length-set quiet 0 (record (get_or quiet 0 initial) { context = Some (record { object = 2; handle = 4 }); draw = Some (record { object = 0; handle = 3 }); read = Some (record { object = 0; handle = 3 }) }) in
    let some = some_threads in
    get_or-set_same bound_threads 0 _ initial (omega (arith, long, some))
    ∙ ap (λ (r : ThreadRecord). record r { error = Success }) (get_or-set_same quiet 0 _ initial some)
    ∙ ap (λ (r : ThreadRecord). record r { error = Success; context = Some (record { object = 2; handle = 4 }); draw = Some (record { object = 0; handle = 3 }); read = Some (record { object = 0; handle = 3 }) }) first_record

current_effect : (w h : ℕ) → effect_of (with_context_made w h) make_current ≡ valued (pos 1) (record (with_current w h) { threads = bound_threads })
unfolding change_part
current_effect w h = ap (λ o. valued (pos 1) (flushed o (record (with_current w h) { threads = bound_threads }))) (ap (λ (r : ThreadRecord). option_map (λ b. b.object) r.context) first_record)

-- ---- Settings of the new context, which has nothing bound.
pub record Begun (w h : ℕ) (p : PartValue) (s : State) : Type 0 where
  pub thread : IsThread s
  pub shows : Shows s.objects (context_with None 0 p) (blank Rgba8888 w h) []
  pub few : live_bytes s.objects ≤ w * h * 4

begun_swept : (w h : ℕ) (p : PartValue) (s : State) → Begun w h p s → Begun w h p (sweep s)
begun_swept w h p s b = record {
  thread = record { is = b.thread.is; video = b.thread.video };
  shows = shows_swept s None 0 p (blank Rgba8888 w h) [] b.thread b.shows;
  few = let e = live_bytes-swept (roots s) s.objects in let f = b.few in omega (arith, e, f);
}

current_begun : (w h : ℕ) → Begun w h (first_part w h) (with_current w h)
unfolding live_bytes
current_begun w h = record {
  thread = record { is = is_drawing; video = refl };
  shows = record { surface = record { surface = taken (pbuffer (pos 4) w h false); storage = 1; window = None }; surface_at = refl; surface_storage = refl; target_at = refl; context_at = refl; group_at = refl; long = omega arith };
  few = omega arith;
}

pub current_goes : (w h : ℕ) → Goes (with_context_made w h) make_current (Begun w h (first_part w h))
current_goes w h =
    let all = egl_stepped true (five_objects w h fresh) (surface_handle ∷ context_handle ∷ []) 5 _ make_current refl (current_none w h)
    ∙ ap (λ (f : Effect). record { reply = done f; state = sweep (set_error f.state 0 Success) }) (current_effect w h) in
    record {
      done = ap (λ (x : Stepped). x.reply.outcome) all;
      holds = subst (Begun w h (first_part w h)) (sym (ap (λ (x : Stepped). x.state) all)) (begun_swept w h (first_part w h) (with_current w h) (current_begun w h));
    }

-- a call that sets a part of these settings
setting_goes : (w h : ℕ) (p q : PartValue) (k : GlKind) (args : List ℤ) (s : State) → Begun w h p s → gl_refusal s 0 2 k (gl_call k args [] None) ≡ None → gl_effect s 0 2 k (gl_call k args [] None) ≡ valued (local_value (part_of_context s 2) (gl_call k args [] None)) (applied s 2 (gl_call k args [] None)) →
    (apply (gl_call k args [] None) p).part ≡ q → Goes s (gl_call k args [] None) (Begun w h q)
setting_goes w h p q k args s b r f e =
    let c = gl_call k args [] None in
    let a : State = applied s 2 c in
    let shows = shows_part s.objects None 0 p q (blank Rgba8888 w h) [] (λ z. (apply c z).part) e b.shows in
    let bytes = bytes_part s.objects None 0 p (blank Rgba8888 w h) [] (λ z. (apply c z).part) b.shows in
    goes s k args [] None (valued (local_value (part_of_context s 2) c) a) (Begun w h q) b.thread r f refl (begun_swept w h q a (record { thread = record { is = b.thread.is; video = b.thread.video }; shows = shows; few = let n = b.few in omega (arith, n, bytes) }))

abbrev pub second_part : ℕ → ℕ → PartValue
second_part w h = record (first_part w h) { is_replacing = true }

abbrev pub third_part : ℕ → ℕ → PartValue
third_part w h = record (second_part w h) { is_texture_enabled = true }

abbrev pub last_part : ℕ → ℕ → PartValue
last_part w h = record (third_part w h) { is_scissor_enabled = true }

replace_none : (s : State) → Passes s replace
unfolding gl_refusal
replace_none s = gl_refused_not replace (gl_facts_of s 0 2 replace) _ refl (refl, tt)

pub replace_goes : (w h : ℕ) (s : State) → Begun w h (first_part w h) s → Goes s replace (Begun w h (second_part w h))
replace_goes w h s b = setting_goes w h (first_part w h) (second_part w h) _ replace.args s b (replace_none s) refl refl

enable_none : (s : State) (cap : ℕ) → may_enable cap ≡ true → Passes s (enable cap)
unfolding gl_refusal
enable_none s cap h = gl_refused_not (enable cap) (gl_facts_of s 0 2 (enable cap)) _ refl (ap not h, tt)

pub texture_goes : (w h : ℕ) (s : State) → Begun w h (second_part w h) s → Goes s (enable GL_TEXTURE_2D) (Begun w h (third_part w h))
texture_goes w h s b = setting_goes w h (second_part w h) (third_part w h) _ (enable GL_TEXTURE_2D).args s b (enable_none s GL_TEXTURE_2D refl) refl refl

pub scissor_test_goes : (w h : ℕ) (s : State) → Begun w h (third_part w h) s → Goes s (enable GL_SCISSOR_TEST) (Begun w h (last_part w h))
scissor_test_goes w h s b = setting_goes w h (third_part w h) (last_part w h) _ (enable GL_SCISSOR_TEST).args s b (enable_none s GL_SCISSOR_TEST refl) refl refl
