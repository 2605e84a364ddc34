-- A sweep takes nothing of what a scene is drawn with.
use Rattle.std.proofs.Common.{◌≡◌, ℕ, suc, cond, Bool, true, false, List, [], ◌∷◌, ◌++◌, refl, ap, ◌∙◌, arith, Option, None, Some, get_or}
use Rattle.std.specs.Prelude.{◌==◌, option_to_list}
use Rattle.std.specs.List.{find}
use Rattle.std.proofs.lemmas.Bool.{eq-eqb, or_left, or_right}
use Rattle.std.proofs.lemmas.List.Folds.{list_any-append}
use Rattle.share_group.specs.Groups.{edges_of}
use Rattle.share_group.specs.Names.{is_of, object_in, object_of, objects_in}
use Rattle.share_group.specs.declared.names.Name.{Name}
use Rattle.pixel_rows.specs.Images.{ImageValue}
use Rattle.pixel_formats.specs.declared.pixels.Pixel.{Pixel}
use Rattle.context_state.specs.Parts.{PartValue}
use Rattle.texture_objects.specs.Textures.{TextureValue}
use Rattle.driver_objects.proofs.SlotLaws.{objects_cons}
use Rattle.driver_objects.specs.Objects as objects
use Rattle.driver_objects.specs.Objects.{context_slots}
use Rattle.driver_objects.specs.declared.contexts.Context.{Context as ContextObject}
use Rattle.driver_objects.specs.declared.objects.Object.{Object}
use Rattle.driver_objects.specs.declared.objects.Object.TheVariants.{Context, Group, Texture, Surface}
use Rattle.egl_model.specs.Graph.{is_in, marked}
use Rattle.egl_model.specs.declared.records.ThreadRecord.{ThreadRecord}
use Rattle.egl_model.specs.State.{State, object_at}
use Rattle.egl_model.specs.Sweep.{edges_at, edges_in, held_by, roots, sweep}
use Rattle.model_laws.proofs.References.GraphLaws.{any_at, grows, is_in-flat_map}
use Rattle.model_laws.proofs.References.LinkLaws.{root_marked, same_object}
use Rattle.model_laws.proofs.Pixels.PixelLaws.{live_bytes-swept}
use Rattle.model_laws.proofs.References.Slots.{in_left, in_levels, in_right}
use Rattle.model_laws.proofs.References.SweepLaws.{length-swept}
use Rattle.model_laws.proofs.References.WholeSweep.{is_held}
use Rattle.sprite_scene.proofs.Views.{Has, IsTextureAt, IsThread, Shows, Stands, View, context_with, group_with, one_level, settings}

-- what at most k references lead to, from what is valid or held by threads
pub record Led (s : State) (k n : ℕ) : Type 0 where
  pub is : is_in n (marked (roots s) (edges_at s.objects) k) ≡ true

next_marked : (rs : List ℕ) (edges : ℕ → List ℕ) (k m n : ℕ) → is_in m (marked rs edges k) ≡ true → is_in n (edges m) ≡ true → is_in n (marked rs edges (suc k)) ≡ true
unfolding marked
next_marked rs edges k m n h e = list_any-append (λ y. y == n) rs _ ∙ or_right _ _ (is_in-flat_map edges n (marked rs edges k) ∙ any_at (λ x. is_in n (edges x)) m (marked rs edges k) h e)

pub led_on : (s : State) (k m n : ℕ) → Led s k m → is_in n (edges_at s.objects m) ≡ true → Led s (suc k) n
led_on s k m n l e = record { is = next_marked (roots s) (edges_at s.objects) k m n l.is e }

pub led_up : (s : State) (k n : ℕ) → Led s k n → Led s (suc k) n
led_up s k n l = record { is = (grows (roots s) (edges_at s.objects) k).at n l.is }

pub led_root : (s : State) (n : ℕ) → is_in n (roots s) ≡ true → Led s 0 n
led_root s n h = record { is = root_marked (roots s) (edges_at s.objects) 0 n h }

-- an object leads to those to which it refers
pub edge : (os : List (Option Object)) (m n : ℕ) (o : Object) → get_or os m None ≡ Some o → is_in n (objects.edges_of o) ≡ true → is_in n (edges_at os m) ≡ true
unfolding edges_at
edge os m n o h e = ap (λ x. is_in n (edges_in x)) h ∙ e

-- ---- What is led to by few references stays.
pub stays : (s : State) (n : ℕ) → Led s 4 n → object_at (sweep s) n ≡ object_at s n
stays s n l = same_object s n l.is

pub stays-3 : (s : State) (n : ℕ) → Led s 3 n → object_at (sweep s) n ≡ object_at s n
stays-3 s n l = stays s n (led_up s 3 n l)

pub stays-2 : (s : State) (n : ℕ) → Led s 2 n → object_at (sweep s) n ≡ object_at s n
stays-2 s n l = stays-3 s n (led_up s 2 n l)

pub stays-1 : (s : State) (n : ℕ) → Led s 1 n → object_at (sweep s) n ≡ object_at s n
stays-1 s n l = stays-2 s n (led_up s 1 n l)

pub stays-0 : (s : State) (n : ℕ) → Led s 0 n → object_at (sweep s) n ≡ object_at s n
stays-0 s n l = stays-1 s n (led_up s 0 n l)

-- ---- From the thread on.
held : (s : State) (n : ℕ) → IsThread s → is_in n (2 ∷ 0 ∷ 0 ∷ []) ≡ true → Led s 0 n
held s n t h = led_root s n (is_held s.handles s.threads 0 n (ap (λ (r : ThreadRecord). is_in n (held_by r)) t.is ∙ h))

led_surface : (s : State) → IsThread s → Led s 0 0
led_surface s t = held s 0 t refl

led_context : (s : State) → IsThread s → Led s 0 2
led_context s t = held s 2 t refl

led_target : (s : State) (c : ContextObject) (i : ImageValue) (names : List Name) → IsThread s → Shows s.objects c i names → Led s 1 1
led_target s c i names t w = led_on s 0 0 1 (led_surface s t) (edge s.objects 0 1 (Surface w.surface) w.surface_at (ap (λ k. is_in 1 (k ∷ [])) w.surface_storage))

pub led_slot : (s : State) (c : ContextObject) (i : ImageValue) (names : List Name) (k n : ℕ) → IsThread s → Shows s.objects c i names → get_or (context_slots c) k None ≡ Some n → Led s 1 n
led_slot s c i names k n t w h = led_on s 0 2 n (led_context s t) (edge s.objects 2 n (Context c) w.context_at (in_levels n k (context_slots c) h))

-- ---- Names.
no_object : {A : Type 0} (o : ℕ) → object_in None ≡ Some o → A
no_object o h = absurd (let e : None ≡ Some o = h in cc)

-- what has a name is among the objects of the names
pub named_in : (n o : ℕ) (xs : List Name) → object_of n xs ≡ Some o → is_in o (objects_in xs) ≡ true
named_in n o [] h = no_object o h
named_in n o (x ∷ xs) h = ap (is_in o) (objects_cons x xs) ∙ go (is_of n x) (named_in n o xs) h
  where
    go : (b : Bool) → (object_of n xs ≡ Some o → is_in o (objects_in xs) ≡ true) → object_in (cond b (Some x) (find (is_of n) xs)) ≡ Some o → is_in o (option_to_list x.object ++ objects_in xs) ≡ true
    go true more e = in_left o (option_to_list x.object) (objects_in xs) (ap (λ z. is_in o (option_to_list z)) e ∙ or_left (o == o) false (eq-eqb o o refl))
    go false more e = in_right o (option_to_list x.object) (objects_in xs) (more e)

named_edge : (n o : ℕ) (xs : List Name) → object_of n xs ≡ Some o → is_in o (objects.edges_of (Group (group_with xs))) ≡ true
unfolding edges_of
named_edge n o xs h = in_left o (objects_in xs) _ (named_in n o xs h)

-- ---- What a sweep leaves.
pub shows_swept : (s : State) (texture : Option ℕ) (bound : ℕ) (p : PartValue) (i : ImageValue) (names : List Name) → IsThread s → Shows s.objects (context_with texture bound p) i names →
    Shows (sweep s).objects (context_with texture bound p) i names
shows_swept s texture bound p i names t w =
    let c : ContextObject = context_with texture bound p in
    record {
      surface = w.surface;
      surface_at = stays-0 s 0 (led_surface s t) ∙ w.surface_at;
      surface_storage = w.surface_storage;
      target_at = stays-1 s 1 (led_target s c i names t w) ∙ w.target_at;
      context_at = stays-0 s 2 (led_context s t) ∙ w.context_at;
      group_at = stays-1 s 3 (led_slot s c i names 0 3 t w refl) ∙ w.group_at;
      long = let e = length-swept (roots s) s.objects in let l = w.long in omega (arith, e, l);
    }

pub stands_swept : (s : State) (v : View) (b : ℕ) → Stands s v b → Stands (sweep s) v b
stands_swept s v b t =
    record {
      thread = record { is = t.thread.is; video = t.thread.video };
      shows = shows_swept s v.texture v.name (settings v) v.target v.names t.thread t.shows;
      few = let e = live_bytes-swept (roots s) s.objects in let f = t.few in omega (arith, e, f);
    }

pub texture_swept : (s : State) (c : ContextObject) (i : ImageValue) (names : List Name) (x : ℕ) (t : TextureValue) (level : Option ℕ) → IsThread s → Shows s.objects c i names →
    get_or (context_slots c) 2 None ≡ Some x → IsTextureAt s.objects x t level → IsTextureAt (sweep s).objects x t level
texture_swept s c i names x t level r w h y = record { beyond = y.beyond; is = stays-1 s x (led_slot s c i names 2 x r w h) ∙ y.is }

pub has_swept : (s : State) (texture : Option ℕ) (bound : ℕ) (p : PartValue) (i : ImageValue) (names : List Name) (name w h : ℕ) (pixel : ℕ → ℕ → Pixel) →
    IsThread s → Shows s.objects (context_with texture bound p) i names → Has s.objects names name w h pixel → Has (sweep s).objects names name w h pixel
has_swept s texture bound p i names name w h pixel r v t =
    let c : ContextObject = context_with texture bound p in
    let group : Led s 1 3 = led_slot s c i names 0 3 r v refl in
    let named : Led s 2 t.object = led_on s 1 3 t.object group (edge s.objects 3 t.object (Group (group_with names)) v.group_at (named_edge name t.object names t.named)) in
    let object : Object = Texture (record { texture = t.texture; levels = one_level (Some t.storage) }) in
    let pixels : Led s 3 t.storage = led_on s 2 t.object t.storage named (edge s.objects t.object t.storage object t.textured.is (in_levels t.storage 0 (one_level (Some t.storage)) refl)) in
    record {
      object = t.object;
      storage = t.storage;
      texture = t.texture;
      named = t.named;
      textured = record { beyond = t.textured.beyond; is = stays-2 s t.object named ∙ t.textured.is };
      nearest = t.nearest;
      pixels = record { image = t.pixels.image; beyond = t.pixels.beyond; is = stays-3 s t.storage pixels ∙ t.pixels.is; picture = t.pixels.picture };
    }
