-- What the calls on renderbuffers keep.
use Rattle.std.proofs.Common.{◌≡◌, ℕ, ◌+◌, ◌*◌, ◌≤◌, ℤ, pos, negsuc, List, [], ◌∷◌, min, inl, refl, sym, ap, ◌∙◌, arith, Option, None, Some}
use Rattle.std.specs.Prelude.{◌≤ℤ◌}
use Rattle.std.specs.Option.{option_and_then, option_map, option_map_or}
use Rattle.std.proofs.lemmas.Int.{ints}
use Rattle.egl_calls.specs.Arguments.{signed}
use Rattle.egl_calls.specs.Calls.{CallValue}
use Rattle.egl_calls.specs.Ranges.{unsigned}
use Rattle.egl_calls.specs.declared.kinds.Kind.TheVariants.{Gl}
use Rattle.egl_calls.specs.declared.kinds.GlKind.TheVariants.{RenderbufferStorage}
use Rattle.call_rules.specs.GlAllowed.{StorageAllowed}
use Rattle.call_rules.proofs.GlLaws.{storage_allowed}
use Rattle.framebuffer_objects.specs.InternalFormats.{format_of}
use Rattle.framebuffer_objects.specs.Renderbuffers.{RenderbufferValue}
use Rattle.context_state.specs.Parts.{PartValue}
use Rattle.pixel_formats.specs.Formats.{bytes_of}
use Rattle.pixel_formats.specs.declared.formats.Format.{Format}
use Rattle.pixel_rows.specs.Images.{ImageValue, blank, frozen}
use Rattle.driver_objects.specs.Storages.{stored}
use Rattle.driver_objects.specs.declared.objects.Object.{Object}
use Rattle.driver_objects.specs.declared.objects.Object.TheVariants.{Context, Renderbuffer, Storage}
use Rattle.egl_model.specs.Arguments.{number}
use Rattle.egl_model.specs.GlCalls.{gl_refusal}
use Rattle.egl_model.specs.GlFacts.{gl_facts_of}
use Rattle.egl_model.specs.Graph.{is_in}
use Rattle.egl_model.specs.Objects.{as_renderbuffer, change_renderbuffer, renderbuffer_in, with_renderbuffer}
use Rattle.egl_model.specs.Parts.{put_own, set_image, set_part}
use Rattle.egl_model.specs.Renderbuffers.{new_kind, new_pixels, renderbuffer_of, stored_as, target_renderbuffer, with_kind}
use Rattle.egl_model.specs.State.{State}
use Rattle.egl_model.specs.Sweep.{live_bytes}
use Rattle.egl_model.specs.Textures.{specified_in}
use Rattle.model_laws.specs.Extents.{quiet}
use Rattle.model_laws.specs.Full.{Full}
use Rattle.model_laws.specs.Shapes.{Leads, Shape, pixels_in, shapes, slots_in}
use Rattle.model_laws.proofs.Steps.Blinds.{blind-context, blind-object}
use Rattle.model_laws.proofs.Changes.FrameMoves.{bytes-play}
use Rattle.model_laws.proofs.Changes.Keeps.{Acts, Blind, acts_of, acts_self, acts_then, by_quiet_moves}
use Rattle.model_laws.proofs.Changes.Moves.{Change, Setter, Suits, body_in}
use Rattle.model_laws.proofs.Changes.NewObjects.{full-frozen}
use Rattle.model_laws.proofs.Calls.TextureCalls.{acts-new_level, acts-no_level}
use Rattle.model_laws.proofs.Changes.Writes.{IsBlind}

-- ---- What the calls look at.
pub blind-target_renderbuffer : (t n : ℕ) (s : State) → Blind t s (λ a. target_renderbuffer a n)
blind-target_renderbuffer t n s = blind-context (λ o. option_and_then (λ x. x.bound.renderbuffer) o) (λ x p. refl) t n s

renderbuffer-blind : IsBlind as_renderbuffer
renderbuffer-blind (Some (Context c)) = refl
renderbuffer-blind (Some (Storage v)) = refl
renderbuffer-blind o = refl

blind-renderbuffer : (t : ℕ) (o : Option ℕ) (s : State) → Blind t s (λ a. option_and_then (renderbuffer_in a.objects) o)
blind-renderbuffer t None s w v x ne = refl
blind-renderbuffer t (Some n) s w v x ne = blind-object as_renderbuffer renderbuffer-blind t n s w v x ne

pub blind-renderbuffer_of : (t n : ℕ) (s : State) → Blind t s (λ a. renderbuffer_of a n)
blind-renderbuffer_of t n s w v x ne =
    ap (λ o. option_and_then (renderbuffer_in (put_own s v x).objects) o) (blind-target_renderbuffer t n s w v x ne)
    ∙ blind-renderbuffer t (target_renderbuffer s n) s w v x ne

-- ---- The kind and the sides of a renderbuffer.
setter-kind : (r : RenderbufferValue) → Setter (with_renderbuffer (with_kind r))
setter-kind r = record { body = body; full = full }
  where
    body : (o : Option Object) → body_in (with_renderbuffer (with_kind r) o) ≡ body_in o
    body (Some (Renderbuffer x)) = refl
    body o = refl

    full : (o : Option Object) → Full o → Full (with_renderbuffer (with_kind r) o)
    full (Some (Renderbuffer x)) f = tt
    full o f = f

suits-kind : (t : ℕ) (sh : List (Option Shape)) (s : State) (n : ℕ) (r : RenderbufferValue) → Suits t sh s n (with_renderbuffer (with_kind r))
suits-kind t sh s n r = record { leads = leads; pixels = λ o m h. inl (ap (is_in m) (sym (looks o)) ∙ h); part = inl past_part; image = inl past_image }
  where
    past_part : (x : Option PartValue) (o : Option Object) → set_part x (with_renderbuffer (with_kind r) o) ≡ with_renderbuffer (with_kind r) (set_part x o)
    past_part x (Some (Context c)) = refl
    past_part x (Some (Renderbuffer a)) = refl
    past_part x o = refl

    past_image : (y : Option ImageValue) (o : Option Object) → set_image y (with_renderbuffer (with_kind r) o) ≡ with_renderbuffer (with_kind r) (set_image y o)
    past_image y (Some (Storage v)) = refl
    past_image y (Some (Renderbuffer a)) = refl
    past_image y o = refl

    looks : (o : Option Object) → pixels_in (with_renderbuffer (with_kind r) o) ≡ pixels_in o
    looks (Some (Renderbuffer a)) = refl
    looks o = refl

    leads : (o : Option Object) → Leads sh (slots_in o) → Leads sh (slots_in (with_renderbuffer (with_kind r) o))
    leads (Some (Renderbuffer a)) l = l
    leads o l = l

-- ---- glRenderbufferStorageOES.
unfoldable pub kinded : RenderbufferValue → ℕ → State → State
kinded r x s = record s { objects = change_renderbuffer (with_kind r) x s.objects }

pub acts-kind : (s : State) (t x : ℕ) (r : RenderbufferValue) → Acts quiet t s (kinded r x)
unfolding change_renderbuffer kinded
acts-kind s t x r = by_quiet_moves t s (Change x (with_renderbuffer (with_kind r)) ∷ []) refl (setter-kind r, tt) (λ w. (suits-kind t (shapes s.objects) s x r, tt))

bytes-kind : (s : State) (t x : ℕ) (r : RenderbufferValue) → live_bytes (kinded r x s).objects ≤ live_bytes s.objects
unfolding change_renderbuffer kinded
bytes-kind s t x r = let b = bytes-play t (Change x (with_renderbuffer (with_kind r)) ∷ []) s ((setter-kind r).body, tt) in omega (arith, b)

-- the bytes of the new pixels
asked : ℕ → ℕ → Option Format → ℕ
asked w h o = option_map_or (λ f. min w 2048 * min h 2048 * bytes_of f) o 0

small : (n : ℕ) → n ≤ 2048 → min n 2048 ≡ n
small n h = omega (arith, h)

acts-pixels : (s : State) (t x : ℕ) (r : RenderbufferValue) (w h : ℕ) (o : Option Format) → w ≤ 2048 → h ≤ 2048 → live_bytes s.objects + asked w h o ≤ s.video → Acts quiet t s (λ a. stored_as r (option_map (λ i. stored (frozen i)) (option_map (λ f. blank f w h) o)) (Some x) a)
unfolding kinded asked
acts-pixels s t x r w h None a b room = acts_then quiet t s (kinded r x) (λ z. record z { objects = specified_in 0 None x z.objects }) (acts-kind s t x r) (acts-no_level (kinded r x s) t 0 x)
acts-pixels s t x r w h (Some f) a b room =
    let fit : live_bytes s.objects + w * h * bytes_of f ≤ s.video = rw (small w a, small h b) at room in
    let less = bytes-kind s t x r in
    acts_then quiet t s (kinded r x) (λ z. record z { objects = specified_in 0 (Some (stored (frozen (blank f w h)))) x z.objects }) (acts-kind s t x r)
    (acts-new_level (kinded r x s) t 0 x (stored (frozen (blank f w h))) (full-frozen f w h a b) (omega (arith, less, fit)))

side_few : (z : ℤ) → z ≤ℤ pos 2048 → unsigned z ≤ 2048
side_few (pos n) h = omega (arith, ints, h)
side_few (negsuc n) h = omega arith

pub storage_passed : (s : State) (t n : ℕ) (c : CallValue) → c.kind ≡ Gl RenderbufferStorage → gl_refusal s t n RenderbufferStorage c ≡ None → StorageAllowed c (gl_facts_of s t n c)
unfolding gl_refusal
storage_passed s t n c h r = storage_allowed c (gl_facts_of s t n c) h r

acts-stored_in : (s : State) (t n : ℕ) (c : CallValue) (o : Option ℕ) → StorageAllowed c (gl_facts_of s t n c) → Acts quiet t s (λ a. stored_as (new_kind c) (new_pixels c) o a)
unfolding asked
acts-stored_in s t n c None h = acts_self t s
acts-stored_in s t n c (Some x) h = acts-pixels s t x (new_kind c) (number c 2) (number c 3) (format_of (number c 1)) (side_few (signed c 2) h.width.high) (side_few (signed c 3) h.height.high) h.room

pub acts-stored : (s : State) (t n : ℕ) (c : CallValue) → c.kind ≡ Gl RenderbufferStorage → gl_refusal s t n RenderbufferStorage c ≡ None → Acts quiet t s (λ a. stored_as (new_kind c) (new_pixels c) (target_renderbuffer a n) a)
acts-stored s t n c h r = acts_of quiet t s (λ a. target_renderbuffer a n) (λ o a. stored_as (new_kind c) (new_pixels c) o a) (blind-target_renderbuffer t n s) (acts-stored_in s t n c (target_renderbuffer s n) (storage_passed s t n c h r))
