-- Each status of a framebuffer is answered exactly where what it tells holds.
use Rattle.std.proofs.Common.{◌≡◌, ◌≢◌, ◌⊎◌, ◌<◌, ℕ, pos, Bool, true, false, not, ◌||◌, ◌&&◌, ◌==◌, cond, inl, inr, [], List, is_some, refl, sym, ap, subst, ◌∙◌, arith, Option, None, Some}
use Rattle.std.specs.Prelude.{if◌then◌else◌, nat_lt, unwrap_or}
use Rattle.std.specs.Option.{option_and_then}
use Rattle.std.proofs.lemmas.Bool.{and_parts, cases_eq, eq-eqb, false≢true, ne_eqb}
use Rattle.std.proofs.lemmas.Bool.Decides.{nat_tests}
use Rattle.std.proofs.lemmas.Option.{none-some}
use Rattle.egl_calls.specs.Calls.{CallValue, ReplyValue}
use Rattle.egl_calls.specs.declared.errors.Outcome.TheVariants.{Done}
use Rattle.egl_calls.specs.declared.kinds.GlKind.TheVariants.{CheckFramebufferStatus}
use Rattle.egl_names.specs.declared.codes.TheConstants.{GL_FRAMEBUFFER_COMPLETE_OES, GL_FRAMEBUFFER_INCOMPLETE_ATTACHMENT_OES, GL_FRAMEBUFFER_INCOMPLETE_DIMENSIONS_OES, GL_FRAMEBUFFER_INCOMPLETE_MISSING_ATTACHMENT_OES, GL_FRAMEBUFFER_UNDEFINED_OES, GL_FRAMEBUFFER_UNSUPPORTED_OES}
use Rattle.framebuffer_objects.specs.Completeness.{differ, is_color_renderable, is_for, is_incomplete, no_part, status}
use Rattle.framebuffer_objects.specs.Framebuffers.{FramebufferValue, at_point, fresh}
use Rattle.framebuffer_objects.specs.declared.completeness.Part.{Part}
use Rattle.framebuffer_objects.specs.declared.framebuffers.Attached.{Attached}
use Rattle.framebuffer_objects.specs.declared.points.Point.{Point}
use Rattle.framebuffer_objects.specs.declared.points.Point.TheVariants.{Color, Depth, Stencil}
use Rattle.driver_objects.specs.Storages.{StorageValue}
use Rattle.driver_objects.specs.declared.objects.Object.{Object}
use Rattle.driver_objects.specs.declared.renderbuffers.BackedRenderbuffer.{BackedRenderbuffer}
use Rattle.egl_model.specs.Currents.{current_context, draw_storage}
use Rattle.egl_model.specs.Framebuffers.{attached_storage, backed_part, bound_framebuffer, color_part_in, framebuffer_of, object_framebuffer, part_in, status_in, stored_part, window_framebuffer, window_status}
use Rattle.egl_model.specs.Objects.{renderbuffer_in, storage_in}
use Rattle.egl_model.specs.State.{State}
use Rattle.egl_model.specs.Step.{Stepped, step}
use Rattle.model_laws.specs.Statuses.{AnswersStatus, HasUnfit, HasUnlike, IsBare, HasFramebufferBound, HasWindowBound, IsCheck, IsColor, IsComplete, IsEmptyAt, IsLike, IsStoredFor, LacksColor, MayBeThere}
use Rattle.model_laws.proofs.Pixels.TextureLaws.{allowed_gl}

-- ---- What standing_at at a point.
part_at : List (Option Object) → FramebufferValue → Point → Part
part_at os f Color = color_part_in os f.color
part_at os f Depth = part_in Depth os f.depth
part_at os f Stencil = part_in Stencil os f.stencil

-- something of these sides that may be there
abbrev right : ℕ → ℕ → Part
right w h = record { present = true; attachable = true; w = w; h = h }

part_of : Bool → ℕ → ℕ → Part
part_of attachable w h = record { present = true; attachable = attachable; w = w; h = h }

empty_part : (os : List (Option Object)) (f : FramebufferValue) (point : Point) → IsEmptyAt f point → part_at os f point ≡ no_part
unfolding part_at
empty_part os f Color e = ap (color_part_in os) e
empty_part os f Depth e = ap (part_in Depth os) e
empty_part os f Stencil e = ap (part_in Stencil os) e

above : (n : ℕ) → 0 < n → nat_lt 0 n ≡ true
above n l = grind (arith, nat_tests)

both_above : (a : Bool) (w h : ℕ) → a ≡ true → 0 < w → 0 < h → (a && (nat_lt 0 w && nat_lt 0 h)) ≡ true
both_above a w h e x y = rw (e, above w x, above h y) refl

same_part : (a b : Bool) (w x h y : ℕ) → a ≡ b → w ≡ x → h ≡ y → part_of a w h ≡ part_of b x y
unfolding part_of
same_part a b w x h y p q r = λ i. record { present = true; attachable = p i; w = q i; h = r i }

color_right : (os : List (Option Object)) (object w h : ℕ) → IsColor os object w h → 0 < w → 0 < h → stored_part (option_and_then (storage_in os) (attached_storage os object)) ≡ right w h
unfolding part_of
color_right os object w h c x y =
    let v = c.storage in
    ap stored_part c.stored
    ∙ same_part _ true v.width w v.height h
    (both_above (is_color_renderable v.format) v.width v.height c.color (subst (λ n. 0 < n) (sym c.width) x) (subst (λ n. 0 < n) (sym c.height) y)) c.width c.height

stored_right : (point : Point) (os : List (Option Object)) (object w h : ℕ) → is_for point (Some point) ≡ true → IsStoredFor point os object w h → 0 < w → 0 < h → backed_part point (renderbuffer_in os object) ≡ right w h
unfolding part_of
stored_right point os object w h d c x y =
    let r = c.renderbuffer.renderbuffer in
    ap (backed_part point) c.there
    ∙ same_part _ true r.width w r.height h
    (both_above (is_for point r.point) r.width r.height (ap (is_for point) c.kind ∙ d) (subst (λ n. 0 < n) (sym c.width) x) (subst (λ n. 0 < n) (sym c.height) y)) c.width c.height

right_part : (os : List (Option Object)) (f : FramebufferValue) (point : Point) (w h : ℕ) → MayBeThere os f point w h → part_at os f point ≡ right w h
unfolding part_at
right_part os f Color w h m = ap (color_part_in os) m.there ∙ color_right os m.attached.object w h m.fits m.wide m.high
right_part os f Depth w h m = ap (part_in Depth os) m.there ∙ stored_right Depth os m.attached.object w h refl m.fits m.wide m.high
right_part os f Stencil w h m = ap (part_in Stencil os) m.there ∙ stored_right Stencil os m.attached.object w h refl m.fits m.wide m.high

-- ---- Nothing, something that may not be there, or something that may.
data Standing (os : List (Option Object)) (f : FramebufferValue) (point : Point) : Type 0 where
  empty : IsEmptyAt f point → Standing os f point
  wrong : (a : Attached) → at_point point f ≡ Some a → is_incomplete (part_at os f point) ≡ true → Standing os f point
  fitting : (w h : ℕ) → MayBeThere os f point w h → Standing os f point

is_above : (n : ℕ) → nat_lt 0 n ≡ true → 0 < n
is_above n l = grind (arith, nat_tests)

by_color : (os : List (Option Object)) (f : FramebufferValue) (a : Attached) → f.color ≡ Some a → Standing os f Color
unfolding part_at
by_color os f a e = by_storage (option_and_then (storage_in os) (attached_storage os a.object)) refl
  where
    by_test : (v : StorageValue) (b : Bool) → option_and_then (storage_in os) (attached_storage os a.object) ≡ Some v → (is_color_renderable v.format && (nat_lt 0 v.width && nat_lt 0 v.height)) ≡ b → Standing os f Color
    by_test v false i t = wrong a e (ap (λ o. is_incomplete (color_part_in os o)) e ∙ ap (λ o. is_incomplete (stored_part o)) i ∙ ap not t)
    by_test v true i t =
        let p = and_parts (is_color_renderable v.format) (nat_lt 0 v.width && nat_lt 0 v.height) t in let q = and_parts (nat_lt 0 v.width) (nat_lt 0 v.height) p.1 in
        fitting v.width v.height (record { attached = a; there = e; fits = record { storage = v; stored = i; color = p.0; width = refl; height = refl }; wide = is_above v.width q.0; high = is_above v.height q.1 })

    by_storage : (o : Option StorageValue) → option_and_then (storage_in os) (attached_storage os a.object) ≡ o → Standing os f Color
    by_storage None i = wrong a e (ap (λ o. is_incomplete (color_part_in os o)) e ∙ ap (λ o. is_incomplete (stored_part o)) i)
    by_storage (Some v) i = by_test v (is_color_renderable v.format && (nat_lt 0 v.width && nat_lt 0 v.height)) i refl

is_for_some : (point : Point) (o : Option Point) → is_for point o ≡ true → o ≡ Some point
is_for_some Color (Some Color) h = refl
is_for_some Depth (Some Depth) h = refl
is_for_some Stencil (Some Stencil) h = refl
is_for_some point o h = absurd (false≢true h)

-- a renderbuffer that may be at a point, or what is wrong there
stored_or_wrong : (point : Point) (os : List (Option Object)) (object : ℕ) → (is_incomplete (backed_part point (renderbuffer_in os object)) ≡ true) ⊎ ((w : ℕ) × (h : ℕ) × IsStoredFor point os object w h × (0 < w) × (0 < h))
stored_or_wrong point os object = by_renderbuffer (renderbuffer_in os object) refl
  where
    by_test : (r : BackedRenderbuffer) (b : Bool) → renderbuffer_in os object ≡ Some r → (is_for point r.renderbuffer.point && (nat_lt 0 r.renderbuffer.width && nat_lt 0 r.renderbuffer.height)) ≡ b →
        (is_incomplete (backed_part point (renderbuffer_in os object)) ≡ true) ⊎ ((w : ℕ) × (h : ℕ) × IsStoredFor point os object w h × (0 < w) × (0 < h))
    by_test r false i t = inl (ap (λ o. is_incomplete (backed_part point o)) i ∙ ap not t)
    by_test r true i t =
        let v = r.renderbuffer in
        let p = and_parts (is_for point v.point) (nat_lt 0 v.width && nat_lt 0 v.height) t in let q = and_parts (nat_lt 0 v.width) (nat_lt 0 v.height) p.1 in
        inr (v.width, v.height, record { renderbuffer = r; there = i; kind = is_for_some point v.point p.0; width = refl; height = refl }, is_above v.width q.0, is_above v.height q.1)

    by_renderbuffer : (o : Option BackedRenderbuffer) → renderbuffer_in os object ≡ o → (is_incomplete (backed_part point (renderbuffer_in os object)) ≡ true) ⊎ ((w : ℕ) × (h : ℕ) × IsStoredFor point os object w h × (0 < w) × (0 < h))
    by_renderbuffer None i = inl (ap (λ o. is_incomplete (backed_part point o)) i)
    by_renderbuffer (Some r) i = by_test r (is_for point r.renderbuffer.point && (nat_lt 0 r.renderbuffer.width && nat_lt 0 r.renderbuffer.height)) i refl

standing : (os : List (Option Object)) (f : FramebufferValue) (point : Point) (o : Option Attached) → at_point point f ≡ o → Standing os f point
unfolding part_at
standing os f point None e = empty e
standing os f Color (Some a) e = by_color os f a e
standing os f Depth (Some a) e = elim (stored_or_wrong Depth os a.object) [
  | inl x ↦ wrong a e (ap (λ o. is_incomplete (part_in Depth os o)) e ∙ x)
  | inr x ↦ fitting x.0 x.1 (record { attached = a; there = e; fits = x.2; wide = x.3; high = x.4 })
]
standing os f Stencil (Some a) e = elim (stored_or_wrong Stencil os a.object) [
  | inl x ↦ wrong a e (ap (λ o. is_incomplete (part_in Stencil os o)) e ∙ x)
  | inr x ↦ fitting x.0 x.1 (record { attached = a; there = e; fits = x.2; wide = x.3; high = x.4 })
]

standing_at : (os : List (Option Object)) (f : FramebufferValue) (point : Point) → Standing os f point
standing_at os f point = standing os f point (at_point point f) refl

-- ---- The five verdicts, and where each holds.
data Verdict : Type 0 where
  complete : Verdict
  unfit : Verdict
  bare : Verdict
  unlike : Verdict
  lacking : Verdict

code_of : Verdict → ℕ
code_of complete = GL_FRAMEBUFFER_COMPLETE_OES
code_of unfit = GL_FRAMEBUFFER_INCOMPLETE_ATTACHMENT_OES
code_of bare = GL_FRAMEBUFFER_INCOMPLETE_MISSING_ATTACHMENT_OES
code_of unlike = GL_FRAMEBUFFER_INCOMPLETE_DIMENSIONS_OES
code_of lacking = GL_FRAMEBUFFER_UNSUPPORTED_OES

Means : List (Option Object) → FramebufferValue → Verdict → Type 0
Means os f complete = IsComplete os f
Means os f unfit = HasUnfit os f
Means os f bare = IsBare f
Means os f unlike = HasUnlike os f
Means os f lacking = LacksColor os f

-- ---- The status by four tests.
abbrev chosen : Bool → Bool → Bool → Bool → ℕ
chosen a b d u = if a then GL_FRAMEBUFFER_INCOMPLETE_ATTACHMENT_OES else if b then GL_FRAMEBUFFER_INCOMPLETE_MISSING_ATTACHMENT_OES else if d then GL_FRAMEBUFFER_INCOMPLETE_DIMENSIONS_OES else if u then GL_FRAMEBUFFER_UNSUPPORTED_OES else GL_FRAMEBUFFER_COMPLETE_OES

same_chosen : (a b c d e f u : Bool) → a ≡ b → c ≡ d → e ≡ f → chosen a c e u ≡ chosen b d f u
same_chosen a b c d e f u p q r = λ i. chosen (p i) (q i) (r i) u

same_status : (a b c d e f : Part) → a ≡ b → c ≡ d → e ≡ f → status a c e ≡ status b d f
same_status a b c d e f p q r = ap (λ x. status x c e) p ∙ ap (λ x. status b x e) q ∙ ap (λ x. status b d x) r

status_by : (os : List (Option Object)) (f : FramebufferValue) (c d e : Part) → part_at os f Color ≡ c → part_at os f Depth ≡ d → part_at os f Stencil ≡ e → status_in os f ≡ status c d e
unfolding part_at
status_by os f c d e p q r = same_status _ c _ d _ e p q r

-- two of the same sides
alike : (w h : ℕ) → (not (w == w) || not (h == h)) ≡ false
alike w h = rw (eq-eqb w w refl, eq-eqb h h refl) refl

-- what may be there, or nothing
like_part : (os : List (Option Object)) (f : FramebufferValue) (w h : ℕ) (point : Point) → IsLike os f w h point → (part_at os f point ≡ no_part) ⊎ (part_at os f point ≡ right w h)
like_part os f w h point (inl e) = inl (empty_part os f point e)
like_part os f w h point (inr m) = inr (right_part os f point w h m)

complete_status : (os : List (Option Object)) (f : FramebufferValue) → IsComplete os f → status_in os f ≡ GL_FRAMEBUFFER_COMPLETE_OES
complete_status os f m = by (like_part os f m.w m.h Depth m.depth) (like_part os f m.w m.h Stencil m.stencil)
  where
    c : part_at os f Color ≡ right m.w m.h
    c = right_part os f Color m.w m.h m.color

    by : (part_at os f Depth ≡ no_part) ⊎ (part_at os f Depth ≡ right m.w m.h) → (part_at os f Stencil ≡ no_part) ⊎ (part_at os f Stencil ≡ right m.w m.h) → status_in os f ≡ GL_FRAMEBUFFER_COMPLETE_OES
    by (inl d) (inl e) = status_by os f _ _ _ c d e
    by (inl d) (inr e) = status_by os f _ _ _ c d e ∙ same_chosen false false false false _ false false refl refl (rw (alike m.w m.h) refl)
    by (inr d) (inl e) = status_by os f _ _ _ c d e ∙ same_chosen false false false false _ false false refl refl (rw (alike m.w m.h) refl)
    by (inr d) (inr e) = status_by os f _ _ _ c d e ∙ same_chosen false false false false _ false false refl refl (rw (alike m.w m.h) refl)

lacking_status : (os : List (Option Object)) (f : FramebufferValue) → LacksColor os f → status_in os f ≡ GL_FRAMEBUFFER_UNSUPPORTED_OES
lacking_status os f m = by m.depth m.stencil
  where
    c : part_at os f Color ≡ no_part
    c = empty_part os f Color m.color

    none : IsEmptyAt f Depth → IsEmptyAt f Stencil → IsBare f
    none d e Color = m.color
    none d e Depth = d
    none d e Stencil = e

    by : IsLike os f m.w m.h Depth → IsLike os f m.w m.h Stencil → status_in os f ≡ GL_FRAMEBUFFER_UNSUPPORTED_OES
    by (inl d) (inl e) = absurd (m.some (none d e))
    by (inl d) (inr e) = status_by os f _ _ _ c (empty_part os f Depth d) (right_part os f Stencil m.w m.h e)
    by (inr d) (inl e) = status_by os f _ _ _ c (right_part os f Depth m.w m.h d) (empty_part os f Stencil e)
    by (inr d) (inr e) = status_by os f _ _ _ c (right_part os f Depth m.w m.h d) (right_part os f Stencil m.w m.h e) ∙ same_chosen false false false false _ false true refl refl (rw (alike m.w m.h) refl)

bare_status : (os : List (Option Object)) (f : FramebufferValue) → IsBare f → status_in os f ≡ GL_FRAMEBUFFER_INCOMPLETE_MISSING_ATTACHMENT_OES
bare_status os f m = status_by os f _ _ _ (empty_part os f Color (m Color)) (empty_part os f Depth (m Depth)) (empty_part os f Stencil (m Stencil))

first_of : (a b c : Bool) → a ≡ true → (a || b || c) ≡ true
first_of true b c e = refl
first_of false b c e = absurd (false≢true e)

second_of : (a b c : Bool) → b ≡ true → (a || b || c) ≡ true
second_of true b c e = refl
second_of false true c e = refl
second_of false false c e = absurd (false≢true e)

third_of : (a b c : Bool) → c ≡ true → (a || b || c) ≡ true
third_of true b c e = refl
third_of false true c e = refl
third_of false false c e = e

abbrev any : (Part → Bool) → List (Option Object) → FramebufferValue → Bool
any p os f = p (part_at os f Color) || p (part_at os f Depth) || p (part_at os f Stencil)

any_of : (p : Part → Bool) (os : List (Option Object)) (f : FramebufferValue) (point : Point) → p (part_at os f point) ≡ true → any p os f ≡ true
any_of p os f Color e = first_of (p (part_at os f Color)) (p (part_at os f Depth)) (p (part_at os f Stencil)) e
any_of p os f Depth e = second_of (p (part_at os f Color)) (p (part_at os f Depth)) (p (part_at os f Stencil)) e
any_of p os f Stencil e = third_of (p (part_at os f Color)) (p (part_at os f Depth)) (p (part_at os f Stencil)) e

abbrev all_absent : List (Option Object) → FramebufferValue → Bool
all_absent os f = not (part_at os f Color).present && not (part_at os f Depth).present && not (part_at os f Stencil).present

abbrev unlike_at : List (Option Object) → FramebufferValue → Point → Point → Bool
unlike_at os f p q = differ (part_at os f p) (part_at os f q)

abbrev any_differ : List (Option Object) → FramebufferValue → Bool
any_differ os f = unlike_at os f Color Depth || unlike_at os f Color Stencil || unlike_at os f Depth Stencil

wrong_status : (os : List (Option Object)) (f : FramebufferValue) (point : Point) → is_incomplete (part_at os f point) ≡ true → status_in os f ≡ GL_FRAMEBUFFER_INCOMPLETE_ATTACHMENT_OES
unfolding part_at
wrong_status os f point e = ap (λ b. chosen b (all_absent os f) (any_differ os f) (not (part_at os f Color).present)) (any_of is_incomplete os f point e)

unfit_status : (os : List (Option Object)) (f : FramebufferValue) → HasUnfit os f → status_in os f ≡ GL_FRAMEBUFFER_INCOMPLETE_ATTACHMENT_OES
unfit_status os f m = by (standing_at os f m.point)
  where
    by : Standing os f m.point → status_in os f ≡ GL_FRAMEBUFFER_INCOMPLETE_ATTACHMENT_OES
    by (empty e) = absurd (none-some m.attached (sym e ∙ m.there))
    by (wrong a e i) = wrong_status os f m.point i
    by (fitting w h x) = absurd (m.unfit w h x)

-- two of different sides
sides_differ : (w h x y : ℕ) → (w ≢ x) ⊎ (h ≢ y) → differ (right w h) (right x y) ≡ true
sides_differ w h x y (inl ne) = rw (ne_eqb w x ne) refl
sides_differ w h x y (inr ne) = rw (ne_eqb h y ne) (by (not (w == x)))
  where
    by : (b : Bool) → (b || true) ≡ true
    by true = refl
    by false = refl

differ_back : (w h x y : ℕ) → (w ≢ x) ⊎ (h ≢ y) → (x ≢ w) ⊎ (y ≢ h)
differ_back w h x y (inl ne) = inl (λ e. ne (sym e))
differ_back w h x y (inr ne) = inr (λ e. ne (sym e))

differ_of : (os : List (Option Object)) (f : FramebufferValue) (p q : Point) (w h x y : ℕ) → MayBeThere os f p w h → MayBeThere os f q x y → (w ≢ x) ⊎ (h ≢ y) → differ (part_at os f p) (part_at os f q) ≡ true
differ_of os f p q w h x y m n d = ap (λ a. differ a (part_at os f q)) (right_part os f p w h m) ∙ ap (λ a. differ (right w h) a) (right_part os f q x y n) ∙ sides_differ w h x y d

not_itself : {A : Type 0} (a b : Part) → a ≡ b → (w h x y : ℕ) → a ≡ right w h → b ≡ right x y → (w ≢ x) ⊎ (h ≢ y) → A
not_itself a b e w h x y p q (inl ne) = absurd (ne (ap (λ (z : Part). z.w) (sym p ∙ e ∙ q)))
not_itself a b e w h x y p q (inr ne) = absurd (ne (ap (λ (z : Part). z.h) (sym p ∙ e ∙ q)))

two_differ : (os : List (Option Object)) (f : FramebufferValue) (p q : Point) (w h x y : ℕ) → MayBeThere os f p w h → MayBeThere os f q x y → (w ≢ x) ⊎ (h ≢ y) → any_differ os f ≡ true
two_differ os f Color Depth w h x y m n d = first_of (unlike_at os f Color Depth) (unlike_at os f Color Stencil) (unlike_at os f Depth Stencil) (differ_of os f Color Depth w h x y m n d)
two_differ os f Depth Color w h x y m n d = first_of (unlike_at os f Color Depth) (unlike_at os f Color Stencil) (unlike_at os f Depth Stencil) (differ_of os f Color Depth x y w h n m (differ_back w h x y d))
two_differ os f Color Stencil w h x y m n d = second_of (unlike_at os f Color Depth) (unlike_at os f Color Stencil) (unlike_at os f Depth Stencil) (differ_of os f Color Stencil w h x y m n d)
two_differ os f Stencil Color w h x y m n d = second_of (unlike_at os f Color Depth) (unlike_at os f Color Stencil) (unlike_at os f Depth Stencil) (differ_of os f Color Stencil x y w h n m (differ_back w h x y d))
two_differ os f Depth Stencil w h x y m n d = third_of (unlike_at os f Color Depth) (unlike_at os f Color Stencil) (unlike_at os f Depth Stencil) (differ_of os f Depth Stencil w h x y m n d)
two_differ os f Stencil Depth w h x y m n d = third_of (unlike_at os f Color Depth) (unlike_at os f Color Stencil) (unlike_at os f Depth Stencil) (differ_of os f Depth Stencil x y w h n m (differ_back w h x y d))
two_differ os f Color Color w h x y m n d = not_itself _ _ refl w h x y (right_part os f Color w h m) (right_part os f Color x y n) d
two_differ os f Depth Depth w h x y m n d = not_itself _ _ refl w h x y (right_part os f Depth w h m) (right_part os f Depth x y n) d
two_differ os f Stencil Stencil w h x y m n d = not_itself _ _ refl w h x y (right_part os f Stencil w h m) (right_part os f Stencil x y n) d

fit_part : (os : List (Option Object)) (f : FramebufferValue) (w h : ℕ) (point : Point) → IsLike os f w h point → is_incomplete (part_at os f point) ≡ false
fit_part os f w h point (inl e) = ap is_incomplete (empty_part os f point e)
fit_part os f w h point (inr m) = ap is_incomplete (right_part os f point w h m)

present_part : (os : List (Option Object)) (f : FramebufferValue) (w h : ℕ) (point : Point) → MayBeThere os f point w h → (part_at os f point).present ≡ true
present_part os f w h point m = ap (λ (z : Part). z.present) (right_part os f point w h m)

second_none : (a c : Bool) → (a && false && c) ≡ false
second_none true c = refl
second_none false c = refl

third_none : (a b : Bool) → (a && b && false) ≡ false
third_none true true = refl
third_none true false = refl
third_none false b = refl

some_present : (os : List (Option Object)) (f : FramebufferValue) (point : Point) → (part_at os f point).present ≡ true → all_absent os f ≡ false
some_present os f Color e = ap (λ b. not b && not (part_at os f Depth).present && not (part_at os f Stencil).present) e
some_present os f Depth e = ap (λ b. not (part_at os f Color).present && not b && not (part_at os f Stencil).present) e ∙ second_none (not (part_at os f Color).present) (not (part_at os f Stencil).present)
some_present os f Stencil e = ap (λ b. not (part_at os f Color).present && not (part_at os f Depth).present && not b) e ∙ third_none (not (part_at os f Color).present) (not (part_at os f Depth).present)

none_of : (a b c : Bool) → a ≡ false → b ≡ false → c ≡ false → (a || b || c) ≡ false
none_of a b c p q r = rw (p, q, r) refl

unlike_status : (os : List (Option Object)) (f : FramebufferValue) → HasUnlike os f → status_in os f ≡ GL_FRAMEBUFFER_INCOMPLETE_DIMENSIONS_OES
unfolding part_at
unlike_status os f m =
    let fit : (point : Point) → is_incomplete (part_at os f point) ≡ false = λ point. let x = m.fits point in fit_part os f x.0 x.1 point x.2 in
    same_chosen _ false _ false _ true _ (none_of _ _ _ (fit Color) (fit Depth) (fit Stencil)) (some_present os f m.first (present_part os f m.w m.h m.first m.one))
    (two_differ os f m.first m.second m.w m.h m.other_w m.other_h m.one m.other m.differ)

-- each verdict has its code
told : (os : List (Option Object)) (f : FramebufferValue) (v : Verdict) → Means os f v → status_in os f ≡ code_of v
unfolding Means code_of
told os f complete m = complete_status os f m
told os f unfit m = unfit_status os f m
told os f bare m = bare_status os f m
told os f unlike m = unlike_status os f m
told os f lacking m = lacking_status os f m

-- ---- One of them holds.
record Found (os : List (Option Object)) (f : FramebufferValue) : Type 0 where
  verdict : Verdict
  holds : Means os f verdict

found_wrong : (os : List (Option Object)) (f : FramebufferValue) (point : Point) (a : Attached) → at_point point f ≡ Some a → is_incomplete (part_at os f point) ≡ true → Found os f
unfolding Means
found_wrong os f point a e i = record {
  verdict = unfit;
  holds = record { point = point; attached = a; there = e; unfit = λ w h m. false≢true (sym (ap is_incomplete (right_part os f point w h m)) ∙ i) };
}

FitsAt : List (Option Object) → FramebufferValue → Point → Type 0
FitsAt os f point = (w : ℕ) × (h : ℕ) × IsLike os f w h point

by_points : (os : List (Option Object)) (f : FramebufferValue) → FitsAt os f Color → FitsAt os f Depth → FitsAt os f Stencil → (point : Point) → FitsAt os f point
by_points os f c d e Color = c
by_points os f c d e Depth = d
by_points os f c d e Stencil = e

-- two have the same sides, or not
sides : (w h x y : ℕ) → ((w ≡ x) × (h ≡ y)) ⊎ ((w ≢ x) ⊎ (h ≢ y))
sides w h x y = elim (cases_eq w x) [
  | inl p ↦ elim (cases_eq h y) [
    | inl q ↦ inl (p, q)
    | inr ne ↦ inr (inr ne)
  ]
  | inr ne ↦ inr (inl ne)
]

of_sides : (os : List (Option Object)) (f : FramebufferValue) (point : Point) (w h x y : ℕ) → w ≡ x → h ≡ y → MayBeThere os f point x y → MayBeThere os f point w h
of_sides os f point w h x y p q m = subst (λ i. MayBeThere os f point i h) (sym p) (subst (λ j. MayBeThere os f point x j) (sym q) m)

found_unlike : (os : List (Option Object)) (f : FramebufferValue) → ((point : Point) → FitsAt os f point) → (p q : Point) (w h x y : ℕ) → MayBeThere os f p w h → MayBeThere os f q x y → (w ≢ x) ⊎ (h ≢ y) → Found os f
unfolding Means FitsAt
found_unlike os f fits p q w h x y m n d = record { verdict = unlike; holds = record { fits = fits; first = p; second = q; w = w; h = h; other_w = x; other_h = y; one = m; other = n; differ = d } }

some_there : (os : List (Option Object)) (f : FramebufferValue) (point : Point) (w h : ℕ) → MayBeThere os f point w h → IsBare f → ⊥
some_there os f point w h m b = none-some m.attached (sym (b point) ∙ m.there)

found_complete : (os : List (Option Object)) (f : FramebufferValue) (w h : ℕ) → MayBeThere os f Color w h → IsLike os f w h Depth → IsLike os f w h Stencil → Found os f
unfolding Means
found_complete os f w h c d e = record { verdict = complete; holds = record { w = w; h = h; color = c; depth = d; stencil = e } }

found_lacking : (os : List (Option Object)) (f : FramebufferValue) (w h : ℕ) → IsEmptyAt f Color → IsLike os f w h Depth → IsLike os f w h Stencil → (IsBare f → ⊥) → Found os f
unfolding Means
found_lacking os f w h c d e n = record { verdict = lacking; holds = record { w = w; h = h; color = c; depth = d; stencil = e; some = n } }

found : (os : List (Option Object)) (f : FramebufferValue) → Standing os f Color → Standing os f Depth → Standing os f Stencil → Found os f
unfolding Means FitsAt
found os f (wrong a e i) d s = found_wrong os f Color a e i
found os f c (wrong a e i) s = found_wrong os f Depth a e i
found os f c d (wrong a e i) = found_wrong os f Stencil a e i
found os f (empty c) (empty d) (empty s) = record { verdict = bare; holds = λ point. by_bare point }
  where
    by_bare : (point : Point) → IsEmptyAt f point
    by_bare Color = c
    by_bare Depth = d
    by_bare Stencil = s
found os f (empty c) (empty d) (fitting w h s) = found_lacking os f w h c (inl d) (inr s) (some_there os f Stencil w h s)
found os f (empty c) (fitting w h d) (empty s) = found_lacking os f w h c (inr d) (inl s) (some_there os f Depth w h d)
found os f (empty c) (fitting w h d) (fitting x y s) = elim (sides w h x y) [
  | inl e ↦ found_lacking os f w h c (inr d) (inr (of_sides os f Stencil w h x y e.0 e.1 s)) (some_there os f Depth w h d)
  | inr ne ↦ found_unlike os f (by_points os f (0, 0, inl c) (w, h, inr d) (x, y, inr s)) Depth Stencil w h x y d s ne
]
found os f (fitting w h c) (empty d) (empty s) = found_complete os f w h c (inl d) (inl s)
found os f (fitting w h c) (empty d) (fitting x y s) = elim (sides w h x y) [
  | inl e ↦ found_complete os f w h c (inl d) (inr (of_sides os f Stencil w h x y e.0 e.1 s))
  | inr ne ↦ found_unlike os f (by_points os f (w, h, inr c) (0, 0, inl d) (x, y, inr s)) Color Stencil w h x y c s ne
]
found os f (fitting w h c) (fitting x y d) (empty s) = elim (sides w h x y) [
  | inl e ↦ found_complete os f w h c (inr (of_sides os f Depth w h x y e.0 e.1 d)) (inl s)
  | inr ne ↦ found_unlike os f (by_points os f (w, h, inr c) (x, y, inr d) (0, 0, inl s)) Color Depth w h x y c d ne
]
found os f (fitting w h c) (fitting x y d) (fitting i j s) = elim (sides w h x y) [
  | inl e ↦ elim (sides w h i j) [
    | inl g ↦ found_complete os f w h c (inr (of_sides os f Depth w h x y e.0 e.1 d)) (inr (of_sides os f Stencil w h i j g.0 g.1 s))
    | inr ne ↦ found_unlike os f (by_points os f (w, h, inr c) (x, y, inr d) (i, j, inr s)) Color Stencil w h i j c s ne
  ]
  | inr ne ↦ found_unlike os f (by_points os f (w, h, inr c) (x, y, inr d) (i, j, inr s)) Color Depth w h x y c d ne
]

-- ---- No two verdicts have one code, so a code tells its verdict.
verdict_of : ℕ → Verdict
verdict_of n =
    if n == GL_FRAMEBUFFER_COMPLETE_OES then complete else if n == GL_FRAMEBUFFER_INCOMPLETE_ATTACHMENT_OES then unfit
    else if n == GL_FRAMEBUFFER_INCOMPLETE_MISSING_ATTACHMENT_OES then bare else if n == GL_FRAMEBUFFER_INCOMPLETE_DIMENSIONS_OES then unlike else lacking

of_code : (v : Verdict) → verdict_of (code_of v) ≡ v
unfolding verdict_of code_of
of_code complete = refl
of_code unfit = refl
of_code bare = refl
of_code unlike = refl
of_code lacking = refl

meant : (os : List (Option Object)) (f : FramebufferValue) (v : Verdict) → status_in os f ≡ code_of v → Means os f v
meant os f v e =
    let x = found os f (standing_at os f Color) (standing_at os f Depth) (standing_at os f Stencil) in
    subst (Means os f) (sym (of_code x.verdict) ∙ ap verdict_of (sym (told os f x.verdict x.holds) ∙ e) ∙ of_code v) x.holds

-- ---- The reply to glCheckFramebufferStatusOES.
abbrev replied : ℕ → ReplyValue
replied n = record { outcome = Done; value = pos n; list = []; bytes = [] }

reply_of_check : (s : State) (t n : ℕ) (c : CallValue) → IsCheck s t n c → (step s t c).reply ≡ replied (bound_framebuffer s t).status
reply_of_check s t n c h = ap (λ (z : Stepped). z.reply) (allowed_gl s t n CheckFramebufferStatus c h)

bound_status : (s : State) (t n : ℕ) (f : FramebufferValue) → current_context s t ≡ Some n → HasFramebufferBound s t n f → (bound_framebuffer s t).status ≡ status_in s.objects f
bound_status s t n f i b =
    ap (λ (z : Bool). (cond z (window_framebuffer s t) (object_framebuffer s.objects (unwrap_or (option_and_then (framebuffer_of s) (current_context s t)) fresh))).status) b.named
    ∙ ap (λ o. status_in s.objects (unwrap_or o fresh)) (ap (λ o. option_and_then (framebuffer_of s) o) i ∙ b.value)

same_code : (m n : ℕ) → pos m ≡ pos n → m ≡ n
same_code m n e = cc

answers_verdict : (s : State) (t n : ℕ) (c : CallValue) (f : FramebufferValue) (v : Verdict) → IsCheck s t n c → HasFramebufferBound s t n f → Means s.objects f v → AnswersStatus s t c (code_of v)
answers_verdict s t n c f v h b m = reply_of_check s t n c h ∙ ap replied (bound_status s t n f h.current b ∙ told s.objects f v m)

verdict_answered : (s : State) (t n : ℕ) (c : CallValue) (f : FramebufferValue) (v : Verdict) → IsCheck s t n c → HasFramebufferBound s t n f → AnswersStatus s t c (code_of v) → Means s.objects f v
verdict_answered s t n c f v h b a = meant s.objects f v (sym (bound_status s t n f h.current b) ∙ same_code _ _ (ap (λ (z : ReplyValue). z.value) (sym (reply_of_check s t n c h) ∙ a)))

pub complete_if : (s : State) (t n : ℕ) (c : CallValue) (f : FramebufferValue) → IsCheck s t n c → HasFramebufferBound s t n f → AnswersStatus s t c GL_FRAMEBUFFER_COMPLETE_OES → IsComplete s.objects f
unfolding Means code_of
complete_if s t n c f = verdict_answered s t n c f complete

pub answers_complete : (s : State) (t n : ℕ) (c : CallValue) (f : FramebufferValue) → IsCheck s t n c → HasFramebufferBound s t n f → IsComplete s.objects f → AnswersStatus s t c GL_FRAMEBUFFER_COMPLETE_OES
unfolding Means code_of
answers_complete s t n c f = answers_verdict s t n c f complete

pub unfit_if : (s : State) (t n : ℕ) (c : CallValue) (f : FramebufferValue) → IsCheck s t n c → HasFramebufferBound s t n f → AnswersStatus s t c GL_FRAMEBUFFER_INCOMPLETE_ATTACHMENT_OES → HasUnfit s.objects f
unfolding Means code_of
unfit_if s t n c f = verdict_answered s t n c f unfit

pub answers_unfit : (s : State) (t n : ℕ) (c : CallValue) (f : FramebufferValue) → IsCheck s t n c → HasFramebufferBound s t n f → HasUnfit s.objects f → AnswersStatus s t c GL_FRAMEBUFFER_INCOMPLETE_ATTACHMENT_OES
unfolding Means code_of
answers_unfit s t n c f = answers_verdict s t n c f unfit

pub bare_if : (s : State) (t n : ℕ) (c : CallValue) (f : FramebufferValue) → IsCheck s t n c → HasFramebufferBound s t n f → AnswersStatus s t c GL_FRAMEBUFFER_INCOMPLETE_MISSING_ATTACHMENT_OES → IsBare f
unfolding Means code_of
bare_if s t n c f = verdict_answered s t n c f bare

pub answers_bare : (s : State) (t n : ℕ) (c : CallValue) (f : FramebufferValue) → IsCheck s t n c → HasFramebufferBound s t n f → IsBare f → AnswersStatus s t c GL_FRAMEBUFFER_INCOMPLETE_MISSING_ATTACHMENT_OES
unfolding Means code_of
answers_bare s t n c f = answers_verdict s t n c f bare

pub unlike_if : (s : State) (t n : ℕ) (c : CallValue) (f : FramebufferValue) → IsCheck s t n c → HasFramebufferBound s t n f → AnswersStatus s t c GL_FRAMEBUFFER_INCOMPLETE_DIMENSIONS_OES → HasUnlike s.objects f
unfolding Means code_of
unlike_if s t n c f = verdict_answered s t n c f unlike

pub answers_unlike : (s : State) (t n : ℕ) (c : CallValue) (f : FramebufferValue) → IsCheck s t n c → HasFramebufferBound s t n f → HasUnlike s.objects f → AnswersStatus s t c GL_FRAMEBUFFER_INCOMPLETE_DIMENSIONS_OES
unfolding Means code_of
answers_unlike s t n c f = answers_verdict s t n c f unlike

pub lacking_if : (s : State) (t n : ℕ) (c : CallValue) (f : FramebufferValue) → IsCheck s t n c → HasFramebufferBound s t n f → AnswersStatus s t c GL_FRAMEBUFFER_UNSUPPORTED_OES → LacksColor s.objects f
unfolding Means code_of
lacking_if s t n c f = verdict_answered s t n c f lacking

pub answers_lacking : (s : State) (t n : ℕ) (c : CallValue) (f : FramebufferValue) → IsCheck s t n c → HasFramebufferBound s t n f → LacksColor s.objects f → AnswersStatus s t c GL_FRAMEBUFFER_UNSUPPORTED_OES
unfolding Means code_of
answers_lacking s t n c f = answers_verdict s t n c f lacking

-- ---- The framebuffer of the window system.
window_bound : (s : State) (t : ℕ) → HasWindowBound s t → (bound_framebuffer s t).status ≡ window_status (draw_storage s t)
window_bound s t b = ap (λ (z : Bool). (cond z (window_framebuffer s t) (object_framebuffer s.objects (unwrap_or (option_and_then (framebuffer_of s) (current_context s t)) fresh))).status) b

pub answers_window : (s : State) (t n : ℕ) (c : CallValue) → IsCheck s t n c → HasWindowBound s t → is_some (draw_storage s t) ≡ true → AnswersStatus s t c GL_FRAMEBUFFER_COMPLETE_OES
answers_window s t n c h b d = reply_of_check s t n c h ∙ ap replied (window_bound s t b ∙ ap (λ z. if z then GL_FRAMEBUFFER_COMPLETE_OES else GL_FRAMEBUFFER_UNDEFINED_OES) d)

pub answers_surfaceless : (s : State) (t n : ℕ) (c : CallValue) → IsCheck s t n c → HasWindowBound s t → draw_storage s t ≡ None → AnswersStatus s t c GL_FRAMEBUFFER_UNDEFINED_OES
answers_surfaceless s t n c h b d = reply_of_check s t n c h ∙ ap replied (window_bound s t b ∙ ap window_status d)
