-- What each call of EGL keeps.
use Rattle.std.proofs.Common.{◌≡◌, ℕ, ◌+◌, ◌≤◌, ℤ, Bool, true, false, cond, not, ap, ◌==◌, List, [], ◌∷◌, ◌++◌, refl, sym, ◌∙◌, ◌⊎◌, inl, inr, arith, length, get_or, Option, None, Some, is_some}
use Rattle.model_laws.proofs.Changes.Setters.{KeepsNames, setter-surface, suits-surface}
use Rattle.egl_names.specs.declared.codes.TheConstants.{EGL_BUFFER_PRESERVED}
use Rattle.surface_store.specs.Surfaces.{SurfaceValue}
use Rattle.std.specs.Option.{option_map, option_and_then}
use Rattle.std.proofs.lemmas.Option.{none-some}
use Rattle.std.proofs.lemmas.Bool.{cond_both, eq-eqb, or_parts}
use Rattle.egl_calls.specs.Calls.{CallValue}
use Rattle.egl_calls.specs.declared.errors.EglError.{EglError}
use Rattle.egl_calls.specs.declared.kinds.Kind.TheVariants.{Egl}
use Rattle.egl_calls.specs.declared.kinds.EglKind.TheVariants.{CreateContext, CreatePbufferSurface, MakeCurrent}
use Rattle.egl_calls.specs.Arguments.{is_zero, signed}
use Rattle.call_rules.specs.EglAllowed.{CurrentAllowed, HasNoSurfaces}
use Rattle.call_rules.specs.EglRules.{is_release, has_code}
use Rattle.call_rules.proofs.EglLaws.{context_allowed, current_allowed, pbuffer_allowed}
use Rattle.driver_objects.specs.declared.kinds.ObjectKind.TheVariants.{Context as a_context_kind, Group as a_group, Storage as a_storage, Surface as a_surface_kind, Texture as a_texture}
use Rattle.surface_store.specs.Formats.{format_of}
use Rattle.model_laws.specs.Extents.{flagging, making, quiet, dropping, ending}
use Rattle.driver_objects.specs.declared.objects.Object.{Object}
use Rattle.display_table.specs.declared.handles.Handle.{Handle}
use Rattle.display_table.specs.declared.handles.HandleKind.{HandleKind}
use Rattle.display_table.specs.declared.handles.HandleKind.TheVariants.{Context as a_context, Surface as a_surface}
use Rattle.egl_model.specs.State.{State, set_error}
use Rattle.egl_model.specs.Arguments.{number}
use Rattle.egl_model.specs.Contexts.{add_context, context_objects, created_context, share_handle, shared_group}
use Rattle.egl_model.specs.Displays.{is_display, set_initialized, terminated}
use Rattle.egl_model.specs.Currents.{current_context}
use Rattle.egl_model.specs.EglCalls.{egl_refusal}
use Rattle.egl_model.specs.Facts.{facts_of}
use Rattle.egl_model.specs.Flushes.{flushed}
use Rattle.display_table.specs.Handles.{is_named_on, without_found}
use Rattle.egl_model.specs.Handles.{destroyed, handle_at, valid, with_handle}
use Rattle.egl_model.specs.Waits.{waiting}
use Rattle.egl_model.specs.MakeCurrent.{bind, height_of, width_of, bound_by, context_handle, draw_handle, bound_anew, first_use, is_context_taken, is_surface_taken, made_current, read_handle, released, unbound}
use Rattle.egl_model.specs.Objects.{change_part, context_in, surface_in, change_surface, with_surface}
use Rattle.context_state.specs.Parts.{PartValue, first_current, whole}
use Rattle.model_laws.specs.Shapes.{Goes, Shape, shapes}
use Rattle.model_laws.specs.Sound.{IsBoundGiven, IsWhole}
use Rattle.egl_model.specs.Surfaces.{asked_height, asked_width, asks_for_largest, created_pbuffer, pbuffer_objects, side_of, set_attribute, with_behavior}
use Rattle.egl_model.specs.Sweep.{live_bytes}
use Rattle.model_laws.proofs.Steps.Blinds.{blind-context_of, blind-current, blind-length, blind-surface_of}
use Rattle.model_laws.proofs.Calls.GlCalls.{acts-part}
use Rattle.model_laws.proofs.Calls.SyncCalls.{acts-flushed}
use Rattle.model_laws.proofs.Changes.Keeps.{Acts, Blind, acts_cond, acts_of, acts_self, acts_then, by_moves, by_quiet_moves, by_quiet_row, acts_within}
use Rattle.model_laws.proofs.Changes.Moves.{Add, Wait, Binds, Bind, Flags, Keep, Name, Note, Change}
use Rattle.model_laws.proofs.Handles.Named.{context_free, found_below, goes_valid, group_goes, is_some-bound_by, surface_free}
use Rattle.model_laws.proofs.Changes.NewObjects.{full-blank, leads-new_texture, stored-new_texture, with_own_pixels, without_pixels}
use Rattle.model_laws.proofs.References.Places.{new_frozen, new_kind, new_sides, old_kind}

pub acts-error : (s : State) (t : ℕ) (e : EglError) → Acts quiet t s (λ a. set_error a t e)
acts-error s t e = by_quiet_moves t s (Note e ∷ []) refl (tt, tt) (λ w. (tt, tt))

-- ---- Displays and handles.
pub acts-initialize : (s : State) (t d : ℕ) (on : Bool) → Acts flagging t s (λ a. set_initialized a d on)
acts-initialize s t d on = by_quiet_row t s (λ a. Flags (cond (d == 1) on a.first) (cond (d == 2) on a.second) ∷ []) (λ w v x ne. refl) refl (tt, tt) (λ w. (tt, tt))

pub acts-terminate : (s : State) (t d : ℕ) → Acts ending t s (λ a. terminated a d)
acts-terminate s t d = by_quiet_row t s (λ a. Flags (cond (d == 1) false a.first) (cond (d == 2) false a.second) ∷ Keep (λ h. not (h.display == d)) ∷ []) (λ w v x ne. refl) refl (tt, (tt, tt)) (λ w. (tt, λ v. (tt, tt)))

-- a handle is removed, whatever it names
acts-without : (t : ℕ) (s : State) (h : Option Handle) → Acts dropping t s (λ a. record a { handles = without_found h a.handles })
acts-without t s None = acts_within dropping t s (λ a. a) (acts_self t s)
acts-without t s (Some h) = by_quiet_moves t s (Keep (λ x. not (x.number == h.number)) ∷ []) refl (tt, tt) (λ w. (tt, tt))

pub acts-destroyed : (s : State) (t : ℕ) (c : CallValue) (kind : HandleKind) → Acts dropping t s (λ a. destroyed a c kind)
acts-destroyed s t c kind = acts_of dropping t s (λ a. handle_at a c 1 kind) (λ h a. record a { handles = without_found h a.handles }) (λ w v x ne. refl) (acts-without t s (handle_at s c 1 kind))

-- ---- Surfaces.
acts-behavior : (s : State) (t : ℕ) (c : CallValue) (h : Option Handle) → Acts quiet t s (λ a. with_behavior a c h)
unfolding change_surface
acts-behavior s t c None = acts_self t s
acts-behavior s t c (Some h) = let f : SurfaceValue → SurfaceValue = λ x. record x { preserve = has_code c 3 EGL_BUFFER_PRESERVED } in
    by_quiet_moves t s (Change h.object (with_surface f) ∷ []) refl (setter-surface f (λ x. refl), tt) (λ w. (suits-surface t (shapes s.objects) s h.object f, tt))

pub acts-attribute : (s : State) (t : ℕ) (c : CallValue) → Acts quiet t s (λ a. set_attribute a c)
acts-attribute s t c = acts_of quiet t s (λ a. handle_at a c 1 a_surface) (λ h a. with_behavior a c h) (λ w v x ne. refl) (acts-behavior s t c (handle_at s c 1 a_surface))

-- ---- Pbuffers.
side_fits : (z : ℤ) → side_of z ≤ 2048
side_fits z = omega arith

pub acts-pbuffer : (s : State) (t : ℕ) (c : CallValue) → c.kind ≡ Egl CreatePbufferSurface → egl_refusal s t CreatePbufferSurface c ≡ None → Acts making t s (λ a. created_pbuffer a c)
unfolding egl_refusal live_bytes
acts-pbuffer s t c h r =
    let n = length s.objects in
    let new = pbuffer_objects n (signed c 1) (side_of (asked_width c)) (side_of (asked_height c)) (asks_for_largest c) in
    acts_of making t s (λ a. length a.objects) (λ n a. with_handle a (number c 0) a_surface n (pbuffer_objects n (signed c 1) (side_of (asked_width c)) (side_of (asked_height c)) (asks_for_largest c))) (blind-length t s)
    (by_moves t s (Add new ∷ Name (number c 0) a_surface n ∷ []) ((tt, (full-blank (format_of (signed c 1)) _ _ (side_fits (asked_width c)) (side_fits (asked_height c)), tt)), (tt, tt))
    (λ p. let a = (pbuffer_allowed c (facts_of s t c) h r).room in omega (arith, a))
    (λ w. (
      ((new_kind s.objects new 1 (n + 1) a_storage refl refl, tt), with_own_pixels _ (n + 0) _ (omega arith) (new_frozen s.objects new 1 (n + 0 + 1) (omega arith)) (new_sides s.objects new 1 (n + 0 + 1) (omega arith)) (λ id e. absurd (none-some id e)), (tt, without_pixels _ (n + 1) _ refl refl, tt)),
      λ v. (new_kind s.objects new 0 n a_surface_kind (omega arith) refl, tt),
    )))

-- ---- Contexts.
-- the group that is shared is a group
goes_shared : (s : State) (c : CallValue) → IsWhole (shapes s.objects) s → Goes (shapes s.objects) a_group (shared_group s c)
goes_shared s c w = cond_both (is_zero c 2) None _ (Goes (shapes s.objects) a_group) (λ e. tt) (λ e. of_handle (share_handle s c))
  where
    of_handle : (h : Option Handle) → Goes (shapes s.objects) a_group (option_map (λ x. x.group) (option_and_then (λ h. context_in s.objects h.object) h))
    of_handle None = tt
    of_handle (Some h) = group_goes (shapes s.objects) (get_or s.objects h.object None) (w.kinds.objects h.object)

-- a new context with its group, or with one that is there
acts-new_context : (s : State) (t d config : ℕ) (group : Option ℕ) → is_display d ≡ true → (IsWhole (shapes s.objects) s → Goes (shapes s.objects) a_group group) → Acts making t s (λ a. add_context a d config group)
unfolding live_bytes
acts-new_context s t d config None on g =
    let n = length s.objects in let new = context_objects n config d None in
    acts_of making t s (λ a. length a.objects) (λ n a. with_handle a d a_context n (context_objects n config d None)) (blind-length t s)
    (by_quiet_moves t s (Add new ∷ Name d a_context n ∷ []) refl ((record { there = refl; names = refl; home = on }, (tt, (tt, tt))), (tt, tt))
    (λ w. (
      (
        (new_kind s.objects new 1 (n + 1) a_group refl refl, (new_kind s.objects new 2 (n + 2) a_texture refl refl, (tt, (tt, (tt, (tt, (tt, tt))))))),
        without_pixels _ _ _ refl refl,
        (tt, without_pixels _ _ _ refl refl, (leads-new_texture (shapes s.objects ++ shapes new), stored-new_texture (shapes s.objects ++ shapes new) _, tt)),
      ),
      λ v. (new_kind s.objects new 0 n a_context_kind (omega arith) refl, tt),
    )))
acts-new_context s t d config (Some x) on g =
    let n = length s.objects in let new = context_objects n config d (Some x) in
    acts_of making t s (λ a. length a.objects) (λ n a. with_handle a d a_context n (context_objects n config d (Some x))) (blind-length t s)
    (by_quiet_moves t s (Add new ∷ Name d a_context n ∷ []) refl ((record { there = refl; names = refl; home = on }, (tt, tt)), (tt, tt))
    (λ w. (
      (
        (old_kind (shapes s.objects) (shapes new) a_group x (g w), (new_kind s.objects new 1 (n + 1) a_texture refl refl, (tt, (tt, (tt, (tt, (tt, tt))))))),
        without_pixels _ _ _ refl refl,
        (leads-new_texture (shapes s.objects ++ shapes new), stored-new_texture (shapes s.objects ++ shapes new) _, tt),
      ),
      λ v. (new_kind s.objects new 0 n a_context_kind (omega arith) refl, tt),
    )))

blind-shared_group : (t : ℕ) (s : State) (c : CallValue) → Blind t s (λ a. shared_group a c)
blind-shared_group t s c w v x ne = ap (λ y. cond (is_zero c 2) None y) (blind-context_of (option_map (λ y. y.group)) (λ y p. refl) t (share_handle s c) s w v x ne)

pub acts-context : (s : State) (t : ℕ) (c : CallValue) → c.kind ≡ Egl CreateContext → egl_refusal s t CreateContext c ≡ None → Acts making t s (λ a. created_context a c)
unfolding egl_refusal
acts-context s t c h r = acts_of making t s (λ a. shared_group a c) (λ g a. add_context a (number c 0) (number c 1) g) (blind-shared_group t s c)
    (acts-new_context s t (number c 0) (number c 1) (shared_group s c) (context_allowed c (facts_of s t c) h r).asked.on.display (goes_shared s c))

-- ---- Currents.
-- a context that is current for the first time keeps the names that it has bound
first_names : (w h : ℕ) → KeepsNames (first_current w h)
first_names w h p = cond_both p.was_current p (record p { viewport = whole w h; scissor_box = whole w h; was_current = true }) (λ (q : PartValue). q.bound ≡ p.bound) (λ e. refl) (λ e. refl)

acts-first_use : (t : ℕ) (s : State) (context draw : Option Handle) → is_context_taken s t context ≡ false → Acts quiet t s (λ a. record a { objects = first_use context draw a.objects })
acts-first_use t s None draw free = acts_self t s
acts-first_use t s (Some h) draw free =
    let y = option_and_then (λ (h : Handle). surface_in s.objects h.object) draw in
    acts_of quiet t s (λ a. option_and_then (λ h. surface_in a.objects h.object) draw) (λ y a. record a { objects = change_part (first_current (width_of y) (height_of y)) h.object a.objects }) (blind-surface_of t draw s)
    (acts-part t h.object (first_current (width_of y) (height_of y)) s (first_names (width_of y) (height_of y)) (λ w. context_free s.threads t h.object (Some h) free (eq-eqb h.object h.object refl)))

-- two surfaces are given or none
together : (s : State) (c : CallValue) → ((is_zero c 1 ≡ false) × ((is_some (draw_handle s c) ≡ true) × (is_some (read_handle s c) ≡ true))) ⊎ HasNoSurfaces c → is_some (read_handle s c) ≡ is_some (draw_handle s c)
together s c (inl x) = x.1.1 ∙ sym x.1.0
together s c (inr n) = ap (λ b. is_some (cond b None (handle_at s c 2 a_surface))) n.read ∙ sym (ap (λ b. is_some (cond b None (handle_at s c 1 a_surface))) n.draw)

pairs : (s : State) (t : ℕ) (c : CallValue) → CurrentAllowed c (facts_of s t c) → is_some (read_handle s c) ≡ is_some (draw_handle s c)
pairs s t c a = together s c (elim a.surfaces [ inl x ↦ inl (x.draw_given, (x.draw, x.read)) | inr n ↦ inr n ])

-- a surface that is given is one, and its handle has a number that was given
goes_given : (sh : List (Option Shape)) (a : State) (d n : ℕ) (b : Bool) → IsWhole sh a → Goes sh a_surface_kind (option_map (λ b. b.object) (bound_by (cond b None (valid a d n a_surface))))
goes_given sh a d n true w = tt
goes_given sh a d n false w = goes_valid sh a d n a_surface w

below_given : (sh : List (Option Shape)) (a : State) (d n : ℕ) (b : Bool) → IsWhole sh a → IsBoundGiven a (bound_by (cond b None (valid a d n a_surface)))
below_given sh a d n true w = tt
below_given sh a d n false w = found_below a (is_named_on d n a_surface) a.handles w.numbers.handles

binds-given : (s : State) (os : List (Option Object)) (t : ℕ) (c : CallValue) → c.kind ≡ Egl MakeCurrent → is_release c ≡ false → egl_refusal s t MakeCurrent c ≡ None →
    let a = record s { objects = os } in IsWhole (shapes os) a → Binds t (shapes os) a (bound_by (context_handle s c)) (bound_by (draw_handle s c)) (bound_by (read_handle s c))
unfolding egl_refusal
binds-given s os t c h e r w =
    let f = current_allowed c (facts_of s t c) h e r in
    let free = or_parts (is_surface_taken s t (draw_handle s c)) (is_surface_taken s t (read_handle s c)) f.surfaces_free in
    let context = is_some-bound_by (context_handle s c) ∙ f.context in
    let a = record s { objects = os } in
    record {
      leads = (goes_valid (shapes os) a (number c 0) (number c 3) a_context w, (goes_given (shapes os) a (number c 0) (number c 1) (is_zero c 1) w, (goes_given (shapes os) a (number c 0) (number c 2) (is_zero c 2) w, tt)));
      contexts = λ n b. context_free s.threads t n (context_handle s c) f.context_free b;
      draws = λ n b. surface_free s.threads t n (draw_handle s c) free.0 b;
      reads = λ n b. surface_free s.threads t n (read_handle s c) free.1 b;
      draw = λ _. context;
      read = is_some-bound_by (read_handle s c) ∙ pairs s t c f ∙ sym (is_some-bound_by (draw_handle s c));
      context_below = found_below a (is_named_on (number c 0) (number c 3) a_context) s.handles w.numbers.handles;
      draw_below = below_given (shapes os) a (number c 0) (number c 1) (is_zero c 1) w;
      read_below = below_given (shapes os) a (number c 0) (number c 2) (is_zero c 2) w;
    }

binds-none : (t : ℕ) (sh : List (Option Shape)) (s : State) → Binds t sh s None None None
binds-none t sh s = record {
  leads = (tt, (tt, (tt, tt)));
  contexts = λ n b. absurd (let f : false ≡ true = b in cc);
  draws = λ n b. absurd (let f : false ≡ true = b in cc);
  reads = λ n b. absurd (let f : false ≡ true = b in cc);
  draw = λ h. h;
  read = refl;
  context_below = tt;
  draw_below = tt;
  read_below = tt;
}

acts-unbound : (s : State) (t : ℕ) → Acts quiet t s (λ a. unbound a t)
acts-unbound s t = by_quiet_moves t s (Bind None None None ∷ []) refl (tt, tt) (λ w. (binds-none t (shapes s.objects) s, tt))

-- the former context is flushed
acts-flushed_behind : (s : State) (t : ℕ) (f : State → State) → Acts quiet t s f → Acts quiet t s (λ a. flushed (current_context a t) (f a))
acts-flushed_behind s t f x = acts_of quiet t s (λ a. current_context a t) (λ o a. flushed o (f a)) (blind-current t s) (acts_then quiet t s f (flushed (current_context s t)) x (acts-flushed (f s) t (current_context s t)))

pub acts-released : (s : State) (t : ℕ) → Acts quiet t s (λ a. released a t)
acts-released s t = acts-flushed_behind s t (λ a. unbound a t) (acts-unbound s t)

acts-bound_anew : (s : State) (t : ℕ) (c : CallValue) → c.kind ≡ Egl MakeCurrent → egl_refusal s t MakeCurrent c ≡ None → Acts quiet t s (λ a. bound_anew a t c)
unfolding egl_refusal
acts-bound_anew s t c h r = acts_cond quiet t s (is_release c) (λ a. unbound a t)
    (λ a. bind (record a { objects = first_use (context_handle a c) (draw_handle a c) a.objects }) t (bound_by (context_handle a c)) (bound_by (draw_handle a c)) (bound_by (read_handle a c)))
    (λ e. acts-unbound s t)
    (λ e.
    let os = first_use (context_handle s c) (draw_handle s c) s.objects in let a = record s { objects = os } in
    acts_of {A = Option Handle × (Option Handle × Option Handle)} quiet t s (λ a. (context_handle a c, (draw_handle a c, read_handle a c))) (λ y a. bind (record a { objects = first_use y.0 y.1.0 a.objects }) t (bound_by y.0) (bound_by y.1.0) (bound_by y.1.1)) (λ w v x ne. refl)
    (acts_then quiet t s (λ a. record a { objects = first_use (context_handle s c) (draw_handle s c) a.objects }) (λ a. bind a t (bound_by (context_handle s c)) (bound_by (draw_handle s c)) (bound_by (read_handle s c)))
    (acts-first_use t s (context_handle s c) (draw_handle s c) (current_allowed c (facts_of s t c) h e r).context_free)
    (by_quiet_moves t a (Bind (bound_by (context_handle s c)) (bound_by (draw_handle s c)) (bound_by (read_handle s c)) ∷ []) refl (tt, tt) (λ w. (binds-given s os t c h e r w, tt)))))

pub acts-make_current : (s : State) (t : ℕ) (c : CallValue) → c.kind ≡ Egl MakeCurrent → egl_refusal s t MakeCurrent c ≡ None → Acts quiet t s (λ a. made_current a t c)
acts-make_current s t c h r = acts-flushed_behind s t (λ a. bound_anew a t c) (acts-bound_anew s t c h r)

-- ---- The end of a wait.
pub acts-wait_end : (s : State) (t : ℕ) → Acts quiet t s (λ a. waiting a t None)
acts-wait_end s t = by_quiet_moves t s (Wait None ∷ []) refl (tt, tt) (λ w. (tt, tt))
