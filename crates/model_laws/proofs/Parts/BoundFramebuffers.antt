-- The framebuffer that is bound to a thread: what is put for another thread doesn't change it, and no other thread draws to its storages, nor reads from them.
use Rattle.std.proofs.Common.{◌≡◌, ℕ, Bool, true, false, ◌==◌, [], ◌∷◌, refl, ap, ◌∙◌, Option, None, Some}
use Rattle.std.specs.Prelude.{if◌then◌else◌, unwrap_or}
use Rattle.std.specs.Option.{option_and_then}
use Rattle.std.proofs.lemmas.Option.{none-some}
use Rattle.framebuffer_objects.specs.Completeness.{status}
use Rattle.framebuffer_objects.specs.Framebuffers.{FramebufferValue, fresh, object_of}
use Rattle.framebuffer_objects.specs.declared.completeness.Part.{Part}
use Rattle.framebuffer_objects.specs.declared.framebuffers.Attached.{Attached}
use Rattle.framebuffer_objects.specs.declared.points.Point.{Point}
use Rattle.framebuffer_objects.specs.declared.points.Point.TheVariants.{Depth, Stencil}
use Rattle.driver_objects.specs.declared.objects.Object.{Object}
use Rattle.driver_objects.specs.declared.objects.Object.TheVariants.{Context, Renderbuffer, Storage, Texture}
use Rattle.egl_model.specs.Currents.{current_context, part_of_context}
use Rattle.egl_model.specs.Framebuffers.{BoundFramebuffer, attached_storage, backed_part, bound_framebuffer, color_part_in, current_framebuffer_name, framebuffer_name, framebuffer_of, is_complete, object_framebuffer, part_in, status_in, stored_part, target_framebuffer, window_framebuffer, window_status}
use Rattle.egl_model.specs.Graph.{is_in}
use Rattle.egl_model.specs.Objects.{as_framebuffer, as_renderbuffer, as_storage, framebuffer_in, storage_in}
use Rattle.egl_model.specs.Parts.{put_own}
use Rattle.egl_model.specs.State.{State, object_at}
use Rattle.egl_model.specs.Textures.{pixels_at}
use Rattle.model_laws.specs.Shapes.{IsFree, pixels_in, shapes}
use Rattle.model_laws.specs.Sound.{IsWhole}
use Rattle.model_laws.proofs.Steps.Blinds.{blind-context, blind-current, blind-draw, blind-object, blind-own_part, blind-own_storage, blind-read, draw_alone, free_pixels, free_undrawn, read_alone}
use Rattle.model_laws.proofs.Changes.Keeps.{Blind}
use Rattle.model_laws.proofs.Changes.Moves.{NoneElse, draws, own_in}
use Rattle.model_laws.proofs.References.Slots.{in_levels}
use Rattle.model_laws.proofs.Changes.Writes.{IsBlind}

-- ---- The framebuffer on which calls work.
pub blind-target_framebuffer : (t n : ℕ) (s : State) → Blind t s (λ a. target_framebuffer a n)
blind-target_framebuffer t n s = blind-context (λ o. option_and_then (λ x. x.bound.framebuffer) o) (λ x p. refl) t n s

framebuffer-blind : IsBlind as_framebuffer
framebuffer-blind (Some (Context c)) = refl
framebuffer-blind (Some (Storage v)) = refl
framebuffer-blind o = refl

blind-framebuffer : (t : ℕ) (o : Option ℕ) (s : State) → Blind t s (λ a. option_and_then (framebuffer_in a.objects) o)
blind-framebuffer t None s w v x ne = refl
blind-framebuffer t (Some n) s w v x ne = blind-object as_framebuffer framebuffer-blind t n s w v x ne

pub blind-framebuffer_of : (t n : ℕ) (s : State) → Blind t s (λ a. framebuffer_of a n)
blind-framebuffer_of t n s w v x ne =
    ap (λ o. option_and_then (framebuffer_in (put_own s v x).objects) o) (blind-target_framebuffer t n s w v x ne)
    ∙ blind-framebuffer t (target_framebuffer s n) s w v x ne

-- ---- What is attached.
pixels-blind : IsBlind (pixels_at 0)
pixels-blind (Some (Context c)) = refl
pixels-blind (Some (Storage v)) = refl
pixels-blind o = refl

blind-attached : (t n : ℕ) (s : State) → Blind t s (λ a. attached_storage a.objects n)
blind-attached t n s = blind-object (pixels_at 0) pixels-blind t n s

blind-color_of : (t : ℕ) (o : Option ℕ) (s : State) → Blind t s (λ a. option_and_then (attached_storage a.objects) o)
blind-color_of t None s w v x ne = refl
blind-color_of t (Some n) s w v x ne = blind-attached t n s w v x ne

stored-blind : IsBlind (λ o. stored_part (as_storage o))
stored-blind (Some (Context c)) = refl
stored-blind (Some (Storage v)) = refl
stored-blind o = refl

blind-stored : (t : ℕ) (o : Option ℕ) (s : State) → Blind t s (λ a. stored_part (option_and_then (storage_in a.objects) o))
blind-stored t None s w v x ne = refl
blind-stored t (Some n) s w v x ne = blind-object (λ o. stored_part (as_storage o)) stored-blind t n s w v x ne

blind-color_part : (t : ℕ) (o : Option Attached) (s : State) → Blind t s (λ a. color_part_in a.objects o)
blind-color_part t None s w v x ne = refl
blind-color_part t (Some b) s w v x ne =
    ap (λ o. stored_part (option_and_then (storage_in (put_own s v x).objects) o)) (blind-attached t b.object s w v x ne)
    ∙ blind-stored t (attached_storage s.objects b.object) s w v x ne

backed-blind : (point : Point) → IsBlind (λ o. backed_part point (as_renderbuffer o))
backed-blind point (Some (Context c)) = refl
backed-blind point (Some (Storage v)) = refl
backed-blind point o = refl

blind-part : (t : ℕ) (point : Point) (o : Option Attached) (s : State) → Blind t s (λ a. part_in point a.objects o)
blind-part t point None s w v x ne = refl
blind-part t point (Some b) s w v x ne = blind-object (λ o. backed_part point (as_renderbuffer o)) (backed-blind point) t b.object s w v x ne

same_status : (a b c d e f : Part) → a ≡ b → c ≡ d → e ≡ f → status a c e ≡ status b d f
same_status a b c d e f p q r = ap (λ x. status x c e) p ∙ ap (λ x. status b x e) q ∙ ap (λ x. status b d x) r

blind-status : (t : ℕ) (f : FramebufferValue) (s : State) → Blind t s (λ a. status_in a.objects f)
blind-status t f s w v x ne = same_status _ _ _ _ _ _ (blind-color_part t f.color s w v x ne) (blind-part t Depth f.depth s w v x ne) (blind-part t Stencil f.stencil s w v x ne)

-- ---- What is bound.
abbrev bound_to : Option ℕ → Option ℕ → ℕ → BoundFramebuffer
bound_to draw read status = record { draw = draw; read = read; status = status }

same_bound : (a b c d : Option ℕ) (m n : ℕ) → a ≡ b → c ≡ d → m ≡ n → bound_to a c m ≡ bound_to b d n
same_bound a b c d m n p q r = λ i. record { draw = p i; read = q i; status = r i }

blind-object_framebuffer : (t : ℕ) (f : FramebufferValue) (s : State) → Blind t s (λ a. object_framebuffer a.objects f)
blind-object_framebuffer t f s w v x ne =
    let color = blind-color_of t (object_of f.color) s w v x ne in
    same_bound _ _ _ _ _ _ color color (blind-status t f s w v x ne)

blind-window : (t : ℕ) (s : State) → Blind t s (λ a. window_framebuffer a t)
blind-window t s w v x ne =
    let draw = blind-draw t s w v x ne in
    same_bound _ _ _ _ _ _ draw (blind-read t s w v x ne) (ap window_status draw)

blind-name : (t : ℕ) (s : State) → Blind t s (λ a. current_framebuffer_name a t)
blind-name t s w v x ne = ap (λ o. framebuffer_name (option_and_then (part_of_context (put_own s v x)) o)) (blind-current t s w v x ne) ∙ by (current_context s t) refl
  where
    by : (o : Option ℕ) → current_context s t ≡ o → framebuffer_name (option_and_then (part_of_context (put_own s v x)) o) ≡ framebuffer_name (option_and_then (part_of_context s) o)
    by None e = refl
    by (Some n) e = ap framebuffer_name (blind-own_part t n s e w v x ne)

blind-own_framebuffer : (t : ℕ) (s : State) → Blind t s (λ a. option_and_then (framebuffer_of a) (current_context a t))
blind-own_framebuffer t s w v x ne = ap (λ o. option_and_then (framebuffer_of (put_own s v x)) o) (blind-current t s w v x ne) ∙ by (current_context s t)
  where
    by : (o : Option ℕ) → option_and_then (framebuffer_of (put_own s v x)) o ≡ option_and_then (framebuffer_of s) o
    by None = refl
    by (Some n) = blind-framebuffer_of t n s w v x ne

same_choice : {A : Type 0} (m n : ℕ) (a b c d : A) → m ≡ n → a ≡ b → c ≡ d → (if m == 0 then a else c) ≡ (if n == 0 then b else d)
same_choice m n a b c d p q r = λ i. if p i == 0 then q i else r i

pub blind-bound_framebuffer : (t : ℕ) (s : State) → Blind t s (λ a. bound_framebuffer a t)
blind-bound_framebuffer t s w v x ne = same_choice _ _ _ _ _ _ (blind-name t s w v x ne) (blind-window t s w v x ne)
    (ap (λ o. object_framebuffer (put_own s v x).objects (unwrap_or o fresh)) (blind-own_framebuffer t s w v x ne) ∙ blind-object_framebuffer t (unwrap_or (option_and_then (framebuffer_of s) (current_context s t)) fresh) s w v x ne)

pub blind-complete : (t : ℕ) (s : State) → Blind t s (λ a. is_complete (bound_framebuffer a t))
blind-complete t s w v x ne = ap is_complete (blind-bound_framebuffer t s w v x ne)

-- ---- A storage that is attached is no surface's.
in_pixels : (n : ℕ) (o : Option Object) → pixels_at 0 o ≡ Some n → is_in n (pixels_in o) ≡ true
in_pixels n (Some (Texture x)) h = in_levels n 0 x.levels h
in_pixels n (Some (Renderbuffer x)) h = in_levels n 0 (x.storage ∷ []) h
in_pixels n o h = absurd (none-some n h)

unowned : (n : ℕ) (o : Option Object) → pixels_at 0 o ≡ Some n → own_in o ≡ None
unowned n (Some (Texture x)) h = refl
unowned n (Some (Renderbuffer x)) h = refl
unowned n o h = absurd (none-some n h)

free_attached : (s : State) (n x : ℕ) → attached_storage s.objects x ≡ Some n → IsWhole (shapes s.objects) s → IsFree (shapes s.objects) n
free_attached s n x h w = free_pixels s x n (unowned n (object_at s x) h) (in_pixels n (object_at s x) h) w

free_color : (s : State) (n : ℕ) (o : Option ℕ) → option_and_then (attached_storage s.objects) o ≡ Some n → IsWhole (shapes s.objects) s → IsFree (shapes s.objects) n
free_color s n None h w = absurd (none-some n h)
free_color s n (Some x) h w = free_attached s n x h w

-- ---- To the storages of what is bound to a thread no other one draws, nor reads from them.
pub bound_draw_alone : (s : State) (t n : ℕ) → (bound_framebuffer s t).draw ≡ Some n → IsWhole (shapes s.objects) s → NoneElse (draws s.objects n) s.threads t
bound_draw_alone s t n e w = by (current_framebuffer_name s t == 0) (unwrap_or (option_and_then (framebuffer_of s) (current_context s t)) fresh) e
  where
    by : (b : Bool) (f : FramebufferValue) → (if b then window_framebuffer s t else object_framebuffer s.objects f).draw ≡ Some n → NoneElse (draws s.objects n) s.threads t
    by true f e = draw_alone s t n e w
    by false f e = free_undrawn s t n (free_color s n (object_of f.color) e w)

pub bound_read_alone : (s : State) (t n : ℕ) → (bound_framebuffer s t).read ≡ Some n → IsWhole (shapes s.objects) s → NoneElse (draws s.objects n) s.threads t
bound_read_alone s t n e w = by (current_framebuffer_name s t == 0) (unwrap_or (option_and_then (framebuffer_of s) (current_context s t)) fresh) e
  where
    by : (b : Bool) (f : FramebufferValue) → (if b then window_framebuffer s t else object_framebuffer s.objects f).read ≡ Some n → NoneElse (draws s.objects n) s.threads t
    by true f e = read_alone s t n e w
    by false f e = free_undrawn s t n (free_color s n (object_of f.color) e w)

-- the storage that a thread reads
pub blind-read_from : (t : ℕ) (s : State) → Blind t s (λ a. option_and_then (storage_in a.objects) (bound_framebuffer a t).read)
blind-read_from t s w v x ne =
    ap (λ (b : BoundFramebuffer). option_and_then (storage_in (put_own s v x).objects) b.read) (blind-bound_framebuffer t s w v x ne)
    ∙ blind-own_storage t (bound_framebuffer s t).read s (λ n e. bound_read_alone s t n e) w v x ne
