-- What each step keeps, and so each history.
use Rattle.std.proofs.Common.{◌≡◌, ℕ, true, false, List, [], ◌∷◌, refl, sym, ap, subst, ◌∙◌, arith, get_or, Option, None, Some, is_some}
use Rattle.std.specs.Prelude.{All, map, replicate}
use Rattle.std.proofs.lemmas.List.Elements.{All-cons, All-head, All-nil, All-tail}
use Rattle.std.proofs.lemmas.Option.{none-some}
use Rattle.egl_calls.specs.Calls.{CallValue}
use Rattle.egl_calls.specs.declared.entries.Entry.{Entry}
use Rattle.egl_calls.specs.declared.kinds.Kind.TheVariants.{Egl, Gl}
use Rattle.egl_calls.specs.declared.kinds.EglKind.{EglKind}
use Rattle.egl_calls.specs.declared.kinds.EglKind.TheVariants.{Initialize}
use Rattle.egl_calls.specs.declared.kinds.GlKind.{GlKind}
use Rattle.egl_calls.specs.declared.kinds.GlKind.TheVariants.{TexImage2d}
use Rattle.egl_calls.specs.declared.errors.EglError.TheVariants.{Success}
use Rattle.call_table.specs.Rows.{gl_role}
use Rattle.call_table.specs.declared.roles.Role.{Role}
use Rattle.call_table.specs.declared.roles.Role.TheVariants.{Asks, Attaches, Binds, Clears, Deletes, Draws, Flushes, Generates, ReadsPixels}
use Rattle.context_state.specs.Parts.{noted}
use Rattle.context_state.specs.Kinds.{context_gl_call}
use Rattle.context_state.specs.Calls.{apply}
use Rattle.model_laws.specs.Extents.{SameFlags, egl_extent, extent_of_kind, quiet}
use Rattle.display_table.specs.declared.handles.Handle.{Handle}
use Rattle.egl_model.specs.declared.records.ThreadRecord.{ThreadRecord}
use Rattle.surface_store.specs.Windows.{WindowValue, opened, windows_ok}
use Rattle.surface_store.specs.WindowTables.{HasSides}
use Rattle.surface_store.specs.declared.windows.WindowSpec.{WindowSpec}
use Rattle.egl_model.specs.State.{State, capacity, initial, opening, record_of, set_error, has_object}
use Rattle.model_laws.specs.Full.{IsFull, IsWindow}
use Rattle.model_laws.specs.Kinds.{NamesItsKind}
use Rattle.model_laws.specs.Laws.{HandlesAreNew, ObjectsAreNew, StayValid}
use Rattle.egl_model.specs.Links.{IsHeld}
use Rattle.model_laws.specs.Shapes.{Leads, shapes}
use Rattle.model_laws.specs.Sound.{IsGiven, IsBoundGiven, IsSound, IsWhole, SidesAgree}
use Rattle.model_laws.specs.Swaps.{forms}
use Rattle.model_laws.specs.Wants.{PixelsFit}
use Rattle.egl_model.specs.Sweep.{live_bytes, sweep}
use Rattle.egl_model.specs.Waits.{waiting}
use Rattle.model_laws.specs.Slots.{held_slots}
use Rattle.egl_model.specs.Arguments.{number}
use Rattle.egl_model.specs.Currents.{current_context, has_context, has_surface}
use Rattle.egl_model.specs.EglCalls.{egl_effect, egl_refusal}
use Rattle.egl_model.specs.GlCalls.{effect_by, gl_effect, gl_refusal, plain_gl_effect, role_effect}
use Rattle.egl_model.specs.History.{replay_from}
use Rattle.egl_model.specs.Step.{note_error, step}
use Rattle.model_laws.proofs.Calls.EglCalls.{acts-context, acts-error, acts-initialize, acts-make_current, acts-pbuffer, acts-terminate, acts-wait_end, acts-attribute, acts-destroyed, acts-released}
use Rattle.model_laws.proofs.Calls.WindowCalls.{acts-swap, acts-window}
use Rattle.egl_model.specs.Flushes.{flush}
use Rattle.egl_model.specs.Windows.{swapped}
use Rattle.model_laws.proofs.Calls.SyncCalls.{acts-client_wait, acts-create_sync, acts-flush, acts-flushed, acts-serve}
use Rattle.model_laws.proofs.Calls.GlCalls.{acts-clear, acts-own_part}
use Rattle.model_laws.proofs.Calls.CopyCalls.{acts-copied, acts-copied_part}
use Rattle.driver_objects.specs.Targets.{target_of}
use Rattle.model_laws.proofs.Calls.DrawCalls.{acts-drawn}
use Rattle.model_laws.proofs.Calls.NameCalls.{acts-bound_name, acts-delete, acts-generated}
use Rattle.model_laws.proofs.Calls.BufferCalls.{acts-data, acts-part_of}
use Rattle.model_laws.proofs.Calls.RenderbufferCalls.{acts-stored}
use Rattle.model_laws.proofs.Calls.FramebufferCalls.{acts-attached_named}
use Rattle.model_laws.proofs.Calls.ImageCalls.{acts-create_image, acts-renderbuffer_of_image, acts-texture_of_image}
use Rattle.model_laws.proofs.Calls.TextureCalls.{acts-crop, acts-parameter, acts-rewritten, acts-specified}
use Rattle.model_laws.proofs.Changes.FrameMoves.{frame_self, handles_then, objects_then}
use Rattle.model_laws.proofs.References.LinkLaws.{exists_marked}
use Rattle.model_laws.proofs.References.LitterLaws.{no_litter-opening, no_litter-step}
use Rattle.model_laws.proofs.References.Places.{frozen_at-shapes, initial_at, own_at-shapes, window_id_at-shapes}
use Rattle.model_laws.proofs.References.Slots.{no_edge}
use Rattle.surface_store.proofs.WindowLaws.{opened_sides}
use Rattle.model_laws.proofs.Steps.Ways.{each_way}
use Rattle.model_laws.proofs.References.WholeSweep.{linked_from}
use Rattle.model_laws.proofs.Calls.KeptNames.{applied_names}
use Rattle.model_laws.proofs.Changes.Keeps.{Acts, Keeps, acts_self, acts_swept, acts_then, acts_within}

-- ---- Calls that change the state: by their moves, and by their roles.
acts-swap_flushed : (s : State) (t : ℕ) → Acts quiet t s (λ a. flush (swapped a t) t)
acts-swap_flushed s t = acts_then quiet t s (λ a. swapped a t) (λ a. flush a t) (acts-swap s t) (acts-flush (swapped s t) t)

-- what calls of EGL do is made of these
ruleset egl_moves = (acts_self, acts-initialize, acts-terminate, acts-window, acts-pbuffer, acts-attribute, acts-context, acts-make_current, acts-swap_flushed, acts-flush, acts-create_sync, acts-client_wait, acts-serve, acts-create_image, acts-destroyed, acts-released)

egl_acts : (s : State) (t : ℕ) (c : CallValue) (k : EglKind) → c.kind ≡ Egl k → egl_refusal s t k c ≡ None → Acts (egl_extent k) t s (λ a. (egl_effect a t k c).state)
-- one call is named, so that each other is a case of its own
egl_acts s t c Initialize h r = search (egl_moves, h, r)
egl_acts s t c k h r = search (egl_moves, h, r)

-- what calls on objects that are bound do is made of these
ruleset plain_moves = (acts_self, acts-parameter, acts-crop, acts-specified, acts-rewritten, acts-copied, acts-copied_part, acts-data, acts-part_of, acts-stored, acts-texture_of_image, acts-renderbuffer_of_image)

plain_gl_acts : (s : State) (t n : ℕ) (c : CallValue) (k : GlKind) → c.kind ≡ Gl k → gl_refusal s t n k c ≡ None → current_context s t ≡ Some n → Acts quiet t s (λ a. (plain_gl_effect a t n k c).state)
-- one call is named, so that each other is a case of its own
plain_gl_acts s t n c TexImage2d h r i = search (plain_moves, h, r, i)
plain_gl_acts s t n c k h r i = search (plain_moves, h, r, i)

role_acts : (o : Role) (s : State) (t n : ℕ) (c : CallValue) (k : GlKind) → c.kind ≡ Gl k → gl_refusal s t n k c ≡ None → current_context s t ≡ Some n → Acts quiet t s (λ a. (role_effect o a t n k c).state)
role_acts Flushes s t n c k h r i = acts-flushed s t (Some n)
role_acts Clears s t n c k h r i = acts-clear s t n c i
role_acts ReadsPixels s t n c k h r i = acts_self t s
role_acts Draws s t n c k h r i = acts-drawn s t n k c i
role_acts (Generates names) s t n c k h r i = acts-generated s t n names (number c 0)
role_acts (Deletes names) s t n c k h r i = acts-delete s t n names c.list i
role_acts (Asks names) s t n c k h r i = acts_self t s
role_acts (Binds names) s t n c k h r i = acts-bound_name s t n (target_of names (number c 0)) (number c 1) i
role_acts (Attaches names) s t n c k h r i = acts-attached_named s t n names c
role_acts o s t n c k h r i = plain_gl_acts s t n c k h r i

acts_by : (o : Option GlKind) (s : State) (t n : ℕ) (c : CallValue) (k : GlKind) → c.kind ≡ Gl k → gl_refusal s t n k c ≡ None → current_context s t ≡ Some n → Acts quiet t s (λ a. (effect_by o a t n k c).state)
acts_by (Some own) s t n c k h r i = acts-own_part s t n (λ p. (apply c p).part) (applied_names c) i
acts_by None s t n c k h r i = role_acts (gl_role k) s t n c k h r i

gl_acts : (s : State) (t n : ℕ) (c : CallValue) (k : GlKind) → c.kind ≡ Gl k → gl_refusal s t n k c ≡ None → current_context s t ≡ Some n → Acts quiet t s (λ a. (gl_effect a t n k c).state)
gl_acts s t n c k h r i = acts_by (context_gl_call k) s t n c k h r i

-- ---- Steps.
by_kind : (s : State) (t : ℕ) (c : CallValue) (k : EglKind) (a : State) → c.kind ≡ Egl k → Keeps (egl_extent k) t s a → Keeps (extent_of_kind c.kind) t s a
by_kind s t c k a h = subst (λ x. Keeps x t s a) (ap extent_of_kind (sym h))

-- an error, or the effect and what follows it
pub acts-egl_done : (s : State) (t : ℕ) (c : CallValue) (k : EglKind) → c.kind ≡ Egl k → egl_refusal s t k c ≡ None → Acts (egl_extent k) t s (λ a. sweep (set_error (egl_effect a t k c).state t Success))
acts-egl_done s t c k h r = acts_swept (egl_extent k) t s (λ a. set_error (egl_effect a t k c).state t Success)
    (acts_then (egl_extent k) t s (λ a. (egl_effect a t k c).state) (λ a. set_error a t Success) (egl_acts s t c k h r) (acts-error (egl_effect s t k c).state t Success))

pub acts-gl_done : (s : State) (t n : ℕ) (c : CallValue) (k : GlKind) → c.kind ≡ Gl k → gl_refusal s t n k c ≡ None → current_context s t ≡ Some n → Acts quiet t s (λ a. sweep (gl_effect a t n k c).state)
acts-gl_done s t n c k h r i = acts_swept quiet t s (λ a. (gl_effect a t n k c).state) (gl_acts s t n c k h r i)

-- readBuffer changes nothing, and the end of a wait is one move
pub acts-swept_self : (s : State) (t : ℕ) → Acts quiet t s sweep
acts-swept_self s t = acts_swept quiet t s (λ a. a) (acts_self t s)

pub acts-wait_done : (s : State) (t : ℕ) → Acts quiet t s (λ a. sweep (waiting a t None))
acts-wait_done s t = acts_swept quiet t s (λ a. waiting a t None) (acts-wait_end s t)

pub keeps-step : (s : State) (t : ℕ) (c : CallValue) → Keeps (extent_of_kind c.kind) t s (step s t c).state
keeps-step s t c = each_way (Keeps (extent_of_kind c.kind) t s) s t c (record {
  stays = (acts_within (extent_of_kind c.kind) t s (λ a. a) (acts_self t s)).moved.keeps;
  egl_error = λ e. (acts_within (extent_of_kind c.kind) t s (λ a. set_error a t e) (acts-error s t e)).moved.keeps;
  gl_error = λ n e i. (acts_within (extent_of_kind c.kind) t s (λ a. note_error a n e) (acts-own_part s t n (noted e) (λ p. refl) i)).moved.keeps;
  egl_done = λ k h r. by_kind s t c k _ h (acts-egl_done s t c k h r).moved.keeps;
  gl_done = λ n k h r i. (acts_within (extent_of_kind c.kind) t s (λ a. sweep (gl_effect a t n k c).state) (acts-gl_done s t n c k h r i)).moved.keeps;
  swept = (acts_within (extent_of_kind c.kind) t s sweep (acts-swept_self s t)).moved.keeps;
  wait_done = (acts_within (extent_of_kind c.kind) t s (λ a. sweep (waiting a t None)) (acts-wait_done s t)).moved.keeps;
})

pub full-step : (s : State) (t : ℕ) (c : CallValue) → IsFull s → IsFull (step s t c).state
full-step s t c f = each_way IsFull s t c (record {
  stays = f;
  egl_error = λ e. (acts-error s t e).full f;
  gl_error = λ n e i. (acts-own_part s t n (noted e) (λ p. refl) i).full f;
  egl_done = λ k h r. (acts-egl_done s t c k h r).full f;
  gl_done = λ n k h r i. (acts-gl_done s t n c k h r i).full f;
  swept = (acts-swept_self s t).full f;
  wait_done = (acts-wait_done s t).full f;
})

-- only some calls turn flags, or make handles
pub flags-step : (s : State) (t : ℕ) (c : CallValue) → (extent_of_kind c.kind).flags ≡ false → SameFlags s (step s t c).state
flags-step s t c q = (keeps-step s t c).frame.flags q

pub next-step : (s : State) (t : ℕ) (c : CallValue) → (extent_of_kind c.kind).handles ≡ 0 → (step s t c).state.next_handle ≡ s.next_handle
next-step s t c q = let k = keeps-step s t c in let a = k.frame.next in let b = k.frame.handles.rises in omega (arith, a, b, q)

pub kept-step : (s : State) (t : ℕ) (c : CallValue) → (extent_of_kind c.kind).drops ≡ false → StayValid s (step s t c).state
kept-step s t c q = (keeps-step s t c).frame.kept q

-- ---- So a sound state stays sound.
pub sound-step : (s : State) (t : ℕ) (c : CallValue) → IsSound s → IsSound (step s t c).state
sound-step s t c h = let k = keeps-step s t c in let w = k.whole h.whole in record {
  litter = no_litter-step s t c h.litter;
  linked = linked_from (step s t c).state w;
  whole = w;
  full = full-step s t c h.full;
  pixels = k.pixels h.pixels;
}

pub sound-replay : (s : State) (es : List Entry) → IsSound s → IsSound (replay_from s es)
sound-replay s [] h = h
sound-replay s (e ∷ es) h = sound-replay (step s e.thread e.call).state es (sound-step s e.thread e.call h)

-- before the first call
at_first : {A : Type 0} (P : A → Type 0) (f : ThreadRecord → A) → P (f initial) → (t : ℕ) → P (f (get_or (replicate capacity initial) t initial))
at_first P f p t = subst P (sym (initial_at f capacity t)) p

unbound : (windows : List WindowSpec) → windows_ok windows ≡ true → (video t n : ℕ) {A : Type 0} → has_context n (record_of (opening windows video) t) ≡ true → A
unbound windows ok video t n h = absurd (let e : false ≡ true = sym (initial_at (has_context n) capacity t) ∙ h in cc)

undrawn : (windows : List WindowSpec) → windows_ok windows ≡ true → (video t n : ℕ) {A : Type 0} → has_surface n (record_of (opening windows video) t) ≡ true → A
undrawn windows ok video t n h = absurd (let e : false ≡ true = sym (initial_at (has_surface n) capacity t) ∙ h in cc)

-- no object has sides that could disagree
pub sides_of_none : (ws : List WindowValue) → SidesAgree (shapes []) ws
sides_of_none ws = record {
  storage = λ m n e. absurd (none-some n (sym (own_at-shapes [] m) ∙ e));
  window = λ m id e. absurd (none-some id (sym (window_id_at-shapes [] m) ∙ e));
}

pub whole-opening : (windows : List WindowSpec) → windows_ok windows ≡ true → (video : ℕ) → IsWhole (shapes []) (opening windows video)
whole-opening windows ok video = record {
  kinds = record {
    handles = All-nil (NamesItsKind (shapes []));
    threads = at_first (Leads (shapes [])) held_slots (tt, (tt, (tt, (tt, tt))));
    objects = λ n. tt;
  };
  storages = record { each = λ m n k e h. no_edge k h };
  thawed = record { each = λ m n e. frozen_at-shapes [] n };
  sides = sides_of_none (opening windows video).windows;
  alone = record { contexts = λ t u n h k. unbound windows ok video t n h; surfaces = λ t u n h k. undrawn windows ok video t n h };
  both = record { draw = at_first (λ (r : ThreadRecord). is_some r.draw ≡ true → is_some r.context ≡ true) (λ r. r) (λ h. h); read = at_first (λ (r : ThreadRecord). is_some r.read ≡ is_some r.draw) (λ r. r) refl };
  numbers = record {
    next = omega arith;
    handles = All-nil (λ (h : Handle). IsGiven (opening windows video) h.number);
    apart = λ i j d lt within. absurd (omega arith);
    context = at_first (λ (r : ThreadRecord). IsBoundGiven (opening windows video) r.context) (λ r. r) tt;
    draw = at_first (λ (r : ThreadRecord). IsBoundGiven (opening windows video) r.draw) (λ r. r) tt;
    read = at_first (λ (r : ThreadRecord). IsBoundGiven (opening windows video) r.read) (λ r. r) tt;
  };
}

pixels-opening : (windows : List WindowSpec) → windows_ok windows ≡ true → (video : ℕ) → PixelsFit (opening windows video)
unfolding live_bytes
pixels-opening windows ok video = omega arith

opened_windows : (ws : List WindowSpec) → All HasSides (map opened ws) → All IsWindow (map opened ws)
opened_windows [] a = All-nil IsWindow
opened_windows (x ∷ ws) a = All-cons IsWindow (opened x) (map opened ws) (record { sides = All-head HasSides (opened x) (map opened ws) a; format = refl; owned = refl }) (opened_windows ws (All-tail HasSides (opened x) (map opened ws) a))

pub sound-opening : (windows : List WindowSpec) → windows_ok windows ≡ true → (video : ℕ) → IsSound (opening windows video)
sound-opening windows ok video = record {
  litter = no_litter-opening windows ok video;
  linked = linked_from (opening windows video) (whole-opening windows ok video);
  whole = whole-opening windows ok video;
  full = record { each = λ n. tt; windows = opened_windows windows (opened_sides windows ok) };
  pixels = pixels-opening windows ok video;
}

-- ---- What each history leaves.
pub sound-history : (windows : List WindowSpec) → windows_ok windows ≡ true → (video : ℕ) (es : List Entry) → IsSound (replay_from (opening windows video) es)
sound-history windows ok video es = sound-replay (opening windows video) es (sound-opening windows ok video)

pub held_if_exists : (windows : List WindowSpec) → windows_ok windows ≡ true → (video : ℕ) (es : List Entry) (n : ℕ) → has_object (replay_from (opening windows video) es) n ≡ true → IsHeld (replay_from (opening windows video) es) n
held_if_exists windows ok video es n h = (4, (sound-history windows ok video es).litter.each n h)

pub exists_if_held : (windows : List WindowSpec) → windows_ok windows ≡ true → (video : ℕ) (es : List Entry) (n : ℕ) → IsHeld (replay_from (opening windows video) es) n → has_object (replay_from (opening windows video) es) n ≡ true
exists_if_held windows ok video es n h = exists_marked (replay_from (opening windows video) es) (sound-history windows ok video es).linked h.0 n h.1

pub handles-replay : (s : State) (es : List Entry) → HandlesAreNew s (replay_from s es)
handles-replay s [] = (frame_self 0 s).handles
handles-replay s (e ∷ es) = let a = (step s e.thread e.call).state in handles_then s a (replay_from a es) (keeps-step s e.thread e.call).frame.handles (handles-replay a es)

pub objects-replay : (s : State) (es : List Entry) → ObjectsAreNew s (replay_from s es)
objects-replay s [] = (frame_self 0 s).objects
objects-replay s (e ∷ es) = let a = (step s e.thread e.call).state in objects_then s a (replay_from a es) (keeps-step s e.thread e.call).frame.objects (objects-replay a es)

pub windows-replay : (s : State) (es : List Entry) → forms (replay_from s es).windows ≡ forms s.windows
windows-replay s [] = refl
windows-replay s (e ∷ es) = let a = (step s e.thread e.call).state in windows-replay a es ∙ (keeps-step s e.thread e.call).frame.windows
