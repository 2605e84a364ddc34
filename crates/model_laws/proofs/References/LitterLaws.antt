-- Each step leads from a state without litter to one without.
use Rattle.std.proofs.Common.{◌≡◌, ℕ, ◌++◌, Bool, true, false, cond, List, [], ◌∷◌, refl, sym, ap, ◌∙◌, Option, None, Some, map, get_or, set, is_some}
use mathlib.Core.Path.{fun_ext}
use Rattle.std.specs.List.{flat_map}
use Rattle.std.proofs.Math.Seq.{map-set_same}
use Rattle.std.proofs.lemmas.List.Folds.{flat_map-map}
use Rattle.std.proofs.Math.ListN.{get_or-map}
use Rattle.egl_calls.specs.Calls.{CallValue}
use Rattle.egl_calls.specs.declared.entries.Entry.{Entry}
use Rattle.egl_calls.specs.declared.errors.EglError.{EglError}
use Rattle.egl_calls.specs.declared.errors.GlError.{GlError}
use Rattle.driver_objects.specs.declared.objects.Object.{Object}
use Rattle.driver_objects.specs.declared.objects.Object.TheVariants.{Context}
use Rattle.context_state.specs.Parts.{PartValue, noted}
use Rattle.egl_model.specs.Graph.{reached}
use Rattle.surface_store.specs.Windows.{windows_ok}
use Rattle.surface_store.specs.declared.windows.WindowSpec.{WindowSpec}
use Rattle.egl_model.specs.State.{State, initial, object_at, opening, record_of, set_error, has_object}
use Rattle.egl_model.specs.Objects.{with_part, change_part}
use Rattle.egl_model.specs.Sweep.{edges_at, edges_in, held_by, roots_of, roots, is_reached, sweep}
use Rattle.egl_model.specs.Step.{step, note_error}
use Rattle.egl_model.specs.History.{replay_from}
use Rattle.model_laws.specs.Laws.{HasNoLitter}
use Rattle.model_laws.proofs.References.SweepLaws.{reached-sweep, object_at-sweep}
use Rattle.model_laws.proofs.Steps.Ways.{each_way}

kept_one : (b : Bool) (o : Option Object) → is_some (cond b o None) ≡ true → b ≡ true
kept_one true o h = refl
kept_one false o h = h

-- a sweep leaves no litter
pub no_litter-sweep : (s : State) → HasNoLitter (sweep s)
no_litter-sweep s = record {
  each = λ n h. reached-sweep s n ∙ kept_one (is_reached s n) (object_at s n) (ap is_some (sym (object_at-sweep s n)) ∙ h);
}

flat_map-set_same : {X A : Type 0} (f : X → List A) (xs : List X) (i : ℕ) (y d : X) → f y ≡ f (get_or xs i d) → flat_map f (set xs i y) ≡ flat_map f xs
flat_map-set_same f xs i y d e =
    sym (flat_map-map (λ x. x) f (set xs i y)) ∙ ap (flat_map (λ x. x)) (map-set_same f xs i y d e) ∙ flat_map-map (λ x. x) f xs

-- an error is no root
pub roots-set_error : (s : State) (t : ℕ) (e : EglError) → roots (set_error s t e) ≡ roots s
unfolding roots_of
roots-set_error s t e = ap (λ (ns : List ℕ). map (λ h. h.object) s.handles ++ ns) (flat_map-set_same held_by s.threads t (record (record_of s t) { error = e }) initial refl)

pub no_litter-set_error : (s : State) (t : ℕ) (e : EglError) → HasNoLitter s → HasNoLitter (set_error s t e)
no_litter-set_error s t e l = record {
  each = λ n h. ap (λ (rs : List ℕ). reached rs (edges_at s.objects) n) (roots-set_error s t e) ∙ l.each n h;
}

-- what a context keeps for itself is no reference, and no object comes or goes
edges_in-with_part : (f : PartValue → PartValue) (o : Option Object) → edges_in (with_part f o) ≡ edges_in o
edges_in-with_part f (Some (Context c)) = refl
edges_in-with_part f o = refl

is_some-with_part : (f : PartValue → PartValue) (o : Option Object) → is_some (with_part f o) ≡ is_some o
is_some-with_part f (Some (Context c)) = refl
is_some-with_part f o = refl

same_at : {A : Type 0} (f : Option Object → A) (g : PartValue → PartValue) (n m : ℕ) (os : List (Option Object)) → ((o : Option Object) → f (with_part g o) ≡ f o) → f (get_or (change_part g n os) m None) ≡ f (get_or os m None)
unfolding change_part
same_at f g n m os e =
    sym (get_or-map f (change_part g n os) m None)
    ∙ ap (λ xs. get_or xs m (f None)) (map-set_same f os n (with_part g (get_or os n None)) None (e (get_or os n None)))
    ∙ get_or-map f os m None

edges_at-change_part : (g : PartValue → PartValue) (n : ℕ) (os : List (Option Object)) → edges_at (change_part g n os) ≡ edges_at os
unfolding edges_at
edges_at-change_part g n os = fun_ext (λ m. same_at edges_in g n m os (edges_in-with_part g))

pub no_litter-note_error : (s : State) (n : ℕ) (e : GlError) → HasNoLitter s → HasNoLitter (note_error s n e)
no_litter-note_error s n e l = record {
  each = λ m h. ap (λ (es : ℕ → List ℕ). reached (roots s) es m) (edges_at-change_part (noted e) n s.objects)
      ∙ l.each m (sym (same_at is_some (noted e) n m s.objects (is_some-with_part (noted e))) ∙ h);
}

pub no_litter-step : (s : State) (t : ℕ) (c : CallValue) → HasNoLitter s → HasNoLitter (step s t c).state
no_litter-step s t c l = each_way HasNoLitter s t c (record {
  stays = l;
  egl_error = λ e. no_litter-set_error s t e l;
  gl_error = λ n e i. no_litter-note_error s n e l;
  egl_done = λ k h r. no_litter-sweep _;
  gl_done = λ n k h r i. no_litter-sweep _;
  swept = no_litter-sweep _;
  wait_done = no_litter-sweep _;
})

pub no_litter-replay : (s : State) (es : List Entry) → HasNoLitter s → HasNoLitter (replay_from s es)
no_litter-replay s [] l = l
no_litter-replay s (e ∷ es) l = no_litter-replay (step s e.thread e.call).state es (no_litter-step s e.thread e.call l)

nothing_there : (windows : List WindowSpec) → windows_ok windows ≡ true → (video n : ℕ) → has_object (opening windows video) n ≡ true → is_reached (opening windows video) n ≡ true
nothing_there windows ok video n h = absurd (let e : false ≡ true = h in cc)

-- before the first call there is no object
pub no_litter-opening : (windows : List WindowSpec) → windows_ok windows ≡ true → (video : ℕ) → HasNoLitter (opening windows video)
no_litter-opening windows ok video = record { each = nothing_there windows ok video }
