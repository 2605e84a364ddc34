-- A call does what it would, given what its thread's part and itself tell that it gives.
use Rattle.std.proofs.Common.{◌≡◌, ℕ, ◌<◌, pos, Bool, true, false, cond, not, ◌&&◌, ◌||◌, refl, sym, ap, ◌∙◌, List, Option, None, Some, is_some}
use Rattle.std.specs.Option.{option_and_then, option_map, option_map_or}
use Rattle.std.proofs.lemmas.Bool.{and_parts, eqb-true, or_parts}
use Rattle.std.proofs.lemmas.Option.{none-some}
use Rattle.egl_calls.specs.Calls.{CallValue}
use Rattle.egl_calls.specs.Arguments.{number}
use Rattle.egl_calls.specs.declared.kinds.Kind.{Kind}
use Rattle.egl_calls.specs.declared.kinds.Kind.TheVariants.{Gl}
use Rattle.egl_calls.specs.declared.kinds.GlKind.{GlKind}
use Rattle.egl_calls.specs.declared.kinds.GlKind.TheVariants.{BufferData, CopyTexImage2d, TexImage2d}
use Rattle.call_rules.specs.GlRules as gl_rules
use Rattle.call_rules.proofs.GlLaws.{copy_allowed, image_allowed}
use Rattle.buffer_objects.specs.Buffers.{BufferValue}
use Rattle.context_state.specs.Parts.{PartValue}
use Rattle.driver_objects.specs.Storages.{StorageValue}
use Rattle.driver_objects.specs.declared.objects.Object.{Object}
use Rattle.pixel_rows.specs.Images.{ImageValue}
use Rattle.egl_model.specs.Buffers.{set_data, target_buffer}
use Rattle.egl_model.specs.Copies.{copied_from, copied_level, copies_nothing, pixels_of, read_image}
use Rattle.egl_model.specs.Currents.{current_context, draw_storage, part_of_context, read_storage}
use Rattle.egl_model.specs.Effects.{valued}
use Rattle.egl_model.specs.Framebuffers.{BoundFramebuffer}
use Rattle.egl_model.specs.GlCalls.{gl_effect}
use Rattle.egl_model.specs.Parts.{Private, are_same, at_place, image_in, part_of}
use Rattle.egl_model.specs.State.{State, record_of}
use Rattle.egl_model.specs.Step.{gl_step, step, step_by}
use Rattle.egl_model.specs.Textures.{level_of, new_level, specified, target_texture}
use Rattle.model_laws.specs.Local as local
use Rattle.model_laws.specs.Local.{has_framebuffer, is_unbound}
use Rattle.model_laws.proofs.Parts.LateDraws.{own_context}
use Rattle.model_laws.proofs.Parts.Locals.{bound-local}
use Rattle.model_laws.proofs.Steps.StepLaws.{step_goes}
use Rattle.thread_part.specs.Uploads.{are_few, copied_locally, early_facts, given_by, is_upload, new_contents, upload_of, upload_with}
use Rattle.thread_part.specs.declared.uploads.Upload.{Upload}
use Rattle.thread_part.specs.declared.uploads.Upload.TheVariants.{Contents, Pixels}
use Rattle.thread_part.proofs.Givens.{copied_below, level_below}
use Rattle.driver_core.specs.Uploads.{refilled}

-- ---- What is known where a call gives something.
when : {A : Type 0} (b : Bool) (o : Option A) (u : A) → cond b o None ≡ Some u → (b ≡ true) × (o ≡ Some u)
when true o u h = (refl, h)
when false o u h = absurd (none-some u h)

unless : {A : Type 0} (b : Bool) (o : Option A) (u : A) → cond b None o ≡ Some u → (b ≡ false) × (o ≡ Some u)
unless true o u h = absurd (none-some u h)
unless false o u h = (refl, h)

none_of : {A : Type 0} (o : Option A) → is_some o ≡ false → o ≡ None
none_of None h = refl
none_of (Some x) h = absurd (let e : true ≡ false = h in cc)

record Given (p : Private) (c : CallValue) (u : Upload) : Type 0 where
  pub goes : not p.kept.waits ≡ true
  pub part : PartValue
  pub context : p.own.context ≡ Some part
  pub allowed : gl_rules.gl_refusal c (early_facts p) ≡ None
  pub given : given_by p part c.kind c ≡ Some u

given_of : (p : Private) (c : CallValue) (u : Upload) → upload_of p c ≡ Some u → Given p c u
given_of p c u h = let a = when (is_upload c.kind && not p.kept.waits) (upload_with p p.own.context c) u h in by_context p.own.context refl a.1 (and_parts _ _ a.0).1
  where
    by_context : (x : Option PartValue) → p.own.context ≡ x → upload_with p x c ≡ Some u → not p.kept.waits ≡ true → Given p c u
    by_context None e h w = absurd (none-some u h)
    by_context (Some q) e h w =
        let a = unless (is_some (gl_rules.gl_refusal c (early_facts p))) (given_by p q c.kind c) u h in
        record { goes = w; part = q; context = e; allowed = none_of _ a.0; given = a.1 }

-- ---- Pixels.
pixels_in : Upload → Option StorageValue
pixels_in (Pixels v) = Some v
pixels_in (Contents b) = None

only_pixels : (o : Option StorageValue) (v : StorageValue) → option_map (λ x. Pixels x) o ≡ Some (Pixels v) → o ≡ Some v
unfolding pixels_in
only_pixels None v h = absurd (none-some (Pixels v) h)
only_pixels (Some w) v h = ap (λ (o : Option Upload). option_and_then pixels_in o) h

no_pixels : {A : Type 0} (b : Bool) (x : BufferValue) (v : StorageValue) → cond b (Some (Contents x)) None ≡ Some (Pixels v) → A
unfolding pixels_in
no_pixels true x v h = absurd (none-some v (ap (λ (o : Option Upload). option_and_then pixels_in o) h))
no_pixels false x v h = absurd (none-some (Pixels v) h)

-- the pixels that a thread reads are in its part, where it reads from its surface
there : (os : List (Option Object)) (p : Option ℕ) → pixels_of os p ≡ at_place image_in p os
unfolding at_place
there os None = refl
there os (Some n) = refl

same_place : (a b : Option ℕ) → are_same a b ≡ true → b ≡ a
same_place None b h = absurd (let e : false ≡ true = h in cc)
same_place (Some m) None h = absurd (let e : false ≡ true = h in cc)
same_place (Some m) (Some n) h = ap (λ k. Some k) (eqb-true n m h)

image_read : (os : List (Option Object)) (a b : Option ℕ) (same : Bool) → are_same a b ≡ same → at_place image_in b os ≡ cond same (at_place image_in a os) (at_place image_in (cond same None b) os)
image_read os a b true h = ap (λ (p : Option ℕ). at_place image_in p os) (same_place a b h)
image_read os a b false h = refl

unbound : (q : PartValue) → has_framebuffer q ≡ false → is_unbound (Some q) ≡ true
unbound q h = ap (λ b. cond b false true) h

read_here : (s : State) (t n : ℕ) (q : PartValue) → current_context s t ≡ Some n → part_of_context s n ≡ Some q → has_framebuffer q ≡ false → read_image s t ≡ local.read_image (part_of s t)
read_here s t n q h e u =
    ap (λ (b : BoundFramebuffer). pixels_of s.objects b.read) (bound-local s t n q h e (unbound q u))
    ∙ there s.objects (read_storage s t)
    ∙ image_read s.objects (draw_storage s t) (read_storage s t) (are_same (draw_storage s t) (read_storage s t)) refl

from_image : (i : Option ImageValue) (c : CallValue) (o : Option ℕ) (s : State) (v : StorageValue) → option_map (copied_level c) i ≡ Some v → copied_from i c o s ≡ specified (level_of c) (Some v) o s
from_image None c o s v h = absurd (none-some v h)
from_image (Some i) c o s v h = ap (λ x. specified (level_of c) x o s) h

pixels_by : (s : State) (t n : ℕ) (q : PartValue) (k : GlKind) (c : CallValue) (v : StorageValue) → current_context s t ≡ Some n → part_of_context s n ≡ Some q → given_by (part_of s t) q (Gl k) c ≡ Some (Pixels v)
    → gl_effect s t n k c ≡ valued (pos 0) (specified (level_of c) (Some v) (target_texture s n) s)
pixels_by s t n q TexImage2d c v h e g =
    ap (λ (o : Option StorageValue). valued (pos 0) (specified (level_of c) o (target_texture s n) s))
    (ap (λ (p : Option PartValue). new_level c (option_map_or (λ p. p.unpack_alignment) p 4)) e ∙ only_pixels (new_level c q.unpack_alignment) v g)
pixels_by s t n q CopyTexImage2d c v h e g =
    let a = unless (has_framebuffer q || copies_nothing c) (option_map (copied_level c) (local.read_image (part_of s t))) v (only_pixels (copied_locally (part_of s t) q c) v g) in
    let b = or_parts (has_framebuffer q) (copies_nothing c) a.0 in
    ap (valued (pos 0))
    (ap (λ z. cond z (specified (level_of c) None (target_texture s n) s) (copied_from (read_image s t) c (target_texture s n) s)) b.1
    ∙ from_image (read_image s t) c (target_texture s n) s v (ap (option_map (copied_level c)) (read_here s t n q h e b.0) ∙ a.1))
pixels_by s t n q BufferData c v h e g = no_pixels (are_few c) (new_contents c) v g
pixels_by s t n q k c v h e g = absurd (none-some (Pixels v) g)

pub pixels_effect : (s : State) (t n : ℕ) (k : GlKind) (c : CallValue) (v : StorageValue) → c.kind ≡ Gl k → current_context s t ≡ Some n → upload_of (part_of s t) c ≡ Some (Pixels v)
    → gl_effect s t n k c ≡ valued (pos 0) (specified (level_of c) (Some v) (target_texture s n) s)
pixels_effect s t n k c v kind h u =
    let g = given_of (part_of s t) c (Pixels v) u in
    pixels_by s t n g.part k c v h (sym (own_context s t n h) ∙ g.context) (ap (λ z. given_by (part_of s t) g.part z c) (sym kind) ∙ g.given)

level_by : (p : Private) (q : PartValue) (k : Kind) (c : CallValue) (v : StorageValue) → c.kind ≡ k → gl_rules.gl_refusal c (early_facts p) ≡ None → given_by p q k c ≡ Some (Pixels v) → number c 1 < 11
level_by p q (Gl TexImage2d) c v kind a g = level_below c (early_facts p) (image_allowed c (early_facts p) kind a)
level_by p q (Gl CopyTexImage2d) c v kind a g = copied_below c (early_facts p) (copy_allowed c (early_facts p) kind a)
level_by p q (Gl BufferData) c v kind a g = no_pixels (are_few c) (new_contents c) v g
level_by p q k c v kind a g = absurd (none-some (Pixels v) g)

pub pixels_level : (s : State) (t : ℕ) (c : CallValue) (v : StorageValue) → upload_of (part_of s t) c ≡ Some (Pixels v) → number c 1 < 11
pixels_level s t c v u = let g = given_of (part_of s t) c (Pixels v) u in level_by (part_of s t) g.part c.kind c v refl g.allowed g.given

-- ---- Contents.
contents_in : Upload → Option BufferValue
contents_in (Pixels v) = None
contents_in (Contents b) = Some b

only_contents : (b : Bool) (x y : BufferValue) → cond b (Some (Contents x)) None ≡ Some (Contents y) → x ≡ y
unfolding contents_in
only_contents true x y h = ap (λ (o : Option Upload). option_map_or (λ z. z) (option_and_then contents_in o) x) h
only_contents false x y h = absurd (none-some (Contents y) h)

no_contents : {A : Type 0} (o : Option StorageValue) (b : BufferValue) → option_map (λ x. Pixels x) o ≡ Some (Contents b) → A
unfolding contents_in
no_contents None b h = absurd (none-some (Contents b) h)
no_contents (Some v) b h = absurd (none-some b (ap (λ (o : Option Upload). option_and_then contents_in o) h))

pub data_is : (c : CallValue) (o : Option ℕ) (s : State) → refilled (new_contents c) o s ≡ set_data c o s
data_is c None s = refl
data_is c (Some x) s = refl

contents_by : (s : State) (t n : ℕ) (q : PartValue) (k : GlKind) (c : CallValue) (b : BufferValue) → given_by (part_of s t) q (Gl k) c ≡ Some (Contents b) → gl_effect s t n k c ≡ valued (pos 0) (refilled b (target_buffer s n c) s)
contents_by s t n q BufferData c b g =
    ap (valued (pos 0)) (sym (data_is c (target_buffer s n c) s) ∙ ap (λ (x : BufferValue). refilled x (target_buffer s n c) s) (only_contents (are_few c) (new_contents c) b g))
contents_by s t n q TexImage2d c b g = no_contents (new_level c q.unpack_alignment) b g
contents_by s t n q CopyTexImage2d c b g = no_contents (copied_locally (part_of s t) q c) b g
contents_by s t n q k c b g = absurd (none-some (Contents b) g)

pub contents_effect : (s : State) (t n : ℕ) (k : GlKind) (c : CallValue) (b : BufferValue) → c.kind ≡ Gl k → upload_of (part_of s t) c ≡ Some (Contents b) → gl_effect s t n k c ≡ valued (pos 0) (refilled b (target_buffer s n c) s)
contents_effect s t n k c b kind u =
    let g = given_of (part_of s t) c (Contents b) u in
    contents_by s t n g.part k c b (ap (λ z. given_by (part_of s t) g.part z c) (sym kind) ∙ g.given)

-- ---- The step.
pub gives_gl : (p : Private) (c : CallValue) (u : Upload) → upload_of p c ≡ Some u → is_upload c.kind ≡ true
gives_gl p c u h = (and_parts _ _ (when (is_upload c.kind && not p.kept.waits) (upload_with p p.own.context c) u h).0).0

not_waiting : (o : Option ℕ) → not (is_some o) ≡ true → o ≡ None
not_waiting None h = refl
not_waiting (Some x) h = absurd (let e : false ≡ true = h in cc)

pub upload_step : (s : State) (t : ℕ) (k : GlKind) (c : CallValue) (u : Upload) → c.kind ≡ Gl k → upload_of (part_of s t) c ≡ Some u → step s t c ≡ gl_step s t k c
upload_step s t k c u kind h = step_goes s t c (not_waiting (record_of s t).wait (given_of (part_of s t) c u h).goes) ∙ ap (λ (z : Kind). step_by s t z c) kind
