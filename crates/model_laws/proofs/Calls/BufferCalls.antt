-- What the calls on buffers keep.
use Rattle.std.proofs.Common.{◌≡◌, ℕ, ◌+◌, ◌≤◌, List, [], ◌∷◌, inl, refl, sym, ap, ◌∙◌, arith, Option, None, Some}
use Rattle.std.specs.Option.{option_and_then}
use Rattle.egl_calls.specs.Calls.{CallValue}
use Rattle.egl_calls.specs.declared.kinds.Kind.TheVariants.{Gl}
use Rattle.egl_calls.specs.declared.kinds.GlKind.TheVariants.{BufferData}
use Rattle.call_rules.proofs.GlLaws.{data_room}
use Rattle.buffer_objects.specs.Buffers.{BufferValue}
use Rattle.buffer_objects.specs.Contents.{filled, given}
use Rattle.buffer_objects.proofs.Writes.{length-filled, length-written}
use Rattle.context_state.specs.Parts.{PartValue}
use Rattle.pixel_rows.specs.Images.{ImageValue}
use Rattle.driver_objects.specs.Links.{bound_in}
use Rattle.driver_objects.specs.declared.objects.Object.{Object}
use Rattle.driver_objects.specs.declared.objects.Object.TheVariants.{Buffer, Context, Storage}
use Rattle.egl_model.specs.Arguments.{number}
use Rattle.egl_model.specs.Buffers.{buffer_of, set_data, set_part_of, target_buffer, target_slot, with_data, with_part_of}
use Rattle.egl_model.specs.GlCalls.{gl_refusal}
use Rattle.egl_model.specs.GlFacts.{gl_facts_of}
use Rattle.egl_model.specs.Graph.{is_in}
use Rattle.egl_model.specs.Objects.{as_buffer, buffer_in, change_buffer, with_buffer}
use Rattle.egl_model.specs.Parts.{put_own, set_image, set_part}
use Rattle.egl_model.specs.State.{State}
use Rattle.egl_model.specs.Sweep.{bytes_in, live_bytes}
use Rattle.model_laws.specs.Extents.{quiet}
use Rattle.model_laws.specs.Full.{Full}
use Rattle.model_laws.specs.Shapes.{Leads, Shape, pixels_in, shape_in, shapes, slots_in}
use Rattle.model_laws.proofs.Steps.Blinds.{blind-context, blind-object}
use Rattle.model_laws.proofs.Changes.Keeps.{Acts, Blind, acts_of, acts_self, by_moves, by_quiet_moves}
use Rattle.model_laws.proofs.Changes.Moves.{Change, Resize, Setter, Suits, body_in}
use Rattle.model_laws.proofs.Changes.Writes.{IsBlind}

-- ---- What the calls look at.
pub blind-target_buffer : (t n : ℕ) (c : CallValue) (s : State) → Blind t s (λ a. target_buffer a n c)
blind-target_buffer t n c s = blind-context (λ o. option_and_then (λ x. bound_in (target_slot c) x.bound) o) (λ x p. refl) t n s

buffer-blind : IsBlind as_buffer
buffer-blind (Some (Context c)) = refl
buffer-blind (Some (Storage v)) = refl
buffer-blind o = refl

blind-buffer : (t : ℕ) (o : Option ℕ) (s : State) → Blind t s (λ a. option_and_then (buffer_in a.objects) o)
blind-buffer t None s w v x ne = refl
blind-buffer t (Some n) s w v x ne = blind-object as_buffer buffer-blind t n s w v x ne

pub blind-buffer_of : (t n : ℕ) (c : CallValue) (s : State) → Blind t s (λ a. buffer_of a n c)
blind-buffer_of t n c s w v x ne =
    ap (λ o. option_and_then (buffer_in (put_own s v x).objects) o) (blind-target_buffer t n c s w v x ne)
    ∙ blind-buffer t (target_buffer s n c) s w v x ne

-- ---- A buffer.
shape-buffer : (f : BufferValue → BufferValue) (o : Option Object) → shape_in (with_buffer f o) ≡ shape_in o
shape-buffer f (Some (Buffer b)) = refl
shape-buffer f o = refl

full-buffer : (f : BufferValue → BufferValue) (o : Option Object) → Full o → Full (with_buffer f o)
full-buffer f (Some (Buffer b)) h = tt
full-buffer f o h = h

suits-buffer : (t : ℕ) (sh : List (Option Shape)) (s : State) (n : ℕ) (f : BufferValue → BufferValue) → Suits t sh s n (with_buffer f)
suits-buffer t sh s n f = record { leads = leads; pixels = λ o m h. inl (ap (is_in m) (sym (looks o)) ∙ h); part = inl past_part; image = inl past_image }
  where
    past_part : (x : Option PartValue) (o : Option Object) → set_part x (with_buffer f o) ≡ with_buffer f (set_part x o)
    past_part x (Some (Context c)) = refl
    past_part x (Some (Buffer b)) = refl
    past_part x o = refl

    past_image : (y : Option ImageValue) (o : Option Object) → set_image y (with_buffer f o) ≡ with_buffer f (set_image y o)
    past_image y (Some (Storage v)) = refl
    past_image y (Some (Buffer b)) = refl
    past_image y o = refl

    looks : (o : Option Object) → pixels_in (with_buffer f o) ≡ pixels_in o
    looks (Some (Buffer b)) = refl
    looks o = refl

    leads : (o : Option Object) → Leads sh (slots_in o) → Leads sh (slots_in (with_buffer f o))
    leads (Some (Buffer b)) l = l
    leads o l = l

-- ---- glBufferData: the bytes rise by those of the new contents, at most.
few-data : (c : CallValue) (o : Option Object) → bytes_in (with_buffer (with_data c) o) ≤ bytes_in o + number c 1
few-data c (Some (Buffer b)) = let e = length-filled (number c 1) (given c.bytes) in omega (arith, e)
few-data c o = omega arith

acts-data_of : (s : State) (t : ℕ) (c : CallValue) (o : Option ℕ) → live_bytes s.objects + number c 1 ≤ s.video → Acts quiet t s (λ a. set_data c o a)
unfolding change_buffer
acts-data_of s t c None room = acts_self t s
acts-data_of s t c (Some x) room = by_moves t s (Resize x (with_buffer (with_data c)) (number c 1) ∷ []) (((shape-buffer (with_data c), few-data c), full-buffer (with_data c)), tt) (λ p. omega (arith, room)) (λ w. (suits-buffer t (shapes s.objects) s x (with_data c), tt))

pub data_fits : (s : State) (t n : ℕ) (c : CallValue) → c.kind ≡ Gl BufferData → gl_refusal s t n BufferData c ≡ None → live_bytes s.objects + number c 1 ≤ s.video
unfolding gl_refusal
data_fits s t n c h r = data_room c (gl_facts_of s t n c) h r

pub acts-data : (s : State) (t n : ℕ) (c : CallValue) → c.kind ≡ Gl BufferData → gl_refusal s t n BufferData c ≡ None → Acts quiet t s (λ a. set_data c (target_buffer a n c) a)
acts-data s t n c h r = acts_of quiet t s (λ a. target_buffer a n c) (λ o a. set_data c o a) (blind-target_buffer t n c s) (acts-data_of s t c (target_buffer s n c) (data_fits s t n c h r))

-- ---- glBufferSubData: there are as many bytes as before.
setter-part_of : (c : CallValue) → Setter (with_buffer (with_part_of c))
setter-part_of c = record { body = body; full = full-buffer (with_part_of c) }
  where
    body : (o : Option Object) → body_in (with_buffer (with_part_of c) o) ≡ body_in o
    body (Some (Buffer b)) = ap (λ n. record (body_in (Some (Buffer b))) { bytes = n }) (length-written (number c 1) (filled (number c 2) (given c.bytes)) b.contents)
    body o = refl

acts-part_of_at : (s : State) (t : ℕ) (c : CallValue) (o : Option ℕ) → Acts quiet t s (λ a. set_part_of c o a)
unfolding change_buffer
acts-part_of_at s t c None = acts_self t s
acts-part_of_at s t c (Some x) = by_quiet_moves t s (Change x (with_buffer (with_part_of c)) ∷ []) refl (setter-part_of c, tt) (λ w. (suits-buffer t (shapes s.objects) s x (with_part_of c), tt))

pub acts-part_of : (s : State) (t n : ℕ) (c : CallValue) → Acts quiet t s (λ a. set_part_of c (target_buffer a n c) a)
acts-part_of s t n c = acts_of quiet t s (λ a. target_buffer a n c) (λ o a. set_part_of c o a) (blind-target_buffer t n c s) (acts-part_of_at s t c (target_buffer s n c))
