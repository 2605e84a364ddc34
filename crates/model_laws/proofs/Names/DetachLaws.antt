-- Where the name of a texture or a renderbuffer is deleted, it is detached from the framebuffer that the caller has bound, and all else that is attached stays.
use Rattle.std.proofs.Common.{◌≡◌, ◌≢◌, ◌⊎◌, ℕ, zero, suc, ◌<◌, ℤ, true, false, inl, inr, List, [], ◌∷◌, length, get_or, is_some, refl, sym, ap, subst, ◌∙◌, arith, Option, None, Some}
use Rattle.std.specs.Prelude.{IfSome}
use Rattle.std.specs.Option.{option_and_then}
use Rattle.std.proofs.lemmas.Bool.{cases_eq, cond_both, eqb-true, false≢true}
use Rattle.std.proofs.lemmas.List.{get_or-set_other}
use Rattle.std.proofs.lemmas.Option.{none-some}
use Rattle.egl_calls.specs.Calls.{CallValue}
use Rattle.egl_calls.specs.Ranges.{unsigned}
use Rattle.egl_calls.specs.declared.kinds.GlKind.{GlKind}
use Rattle.call_table.specs.Rows.{gl_role}
use Rattle.call_table.specs.declared.roles.Role.TheVariants.{Deletes}
use Rattle.driver_objects.specs.declared.contexts.Context.{Context as ContextObject}
use Rattle.driver_objects.specs.declared.objects.Object.{Object}
use Rattle.driver_objects.specs.declared.objects.Object.TheVariants.{Context, Framebuffer, Group}
use Rattle.framebuffer_objects.specs.Framebuffers.{FramebufferValue, at_point, object_of, with_point}
use Rattle.framebuffer_objects.specs.declared.framebuffers.Attached.{Attached}
use Rattle.framebuffer_objects.specs.declared.points.Point.{Point}
use Rattle.framebuffer_objects.specs.declared.points.Point.TheVariants.{Color, Depth, Stencil}
use Rattle.share_group.specs.Groups.{GroupValue}
use Rattle.share_group.specs.Names.{object_in}
use Rattle.share_group.specs.Names as names
use Rattle.share_group.specs.declared.names.Name.{Name}
use Rattle.share_group.specs.declared.names.NameKind.{NameKind}
use Rattle.share_group.specs.declared.names.NameKind.TheVariants.{Texture as textures, Renderbuffer as renderbuffers}
use Rattle.egl_model.specs.Bindings.{bound_framebuffer_in, deleted_in, deleted_name, deleted_names, detached_at, detached_from, detached_on, freed, unbound_in, unbound_object}
use Rattle.egl_model.specs.Framebuffers.{target_framebuffer}
use Rattle.egl_model.specs.Names.{group_of, object_named, with_name_of}
use Rattle.egl_model.specs.Objects.{as_context, as_framebuffer, change_context, change_framebuffer, change_group, framebuffer_in, with_context, with_framebuffer, with_group}
use Rattle.egl_model.specs.Parts.{is_place}
use Rattle.egl_model.specs.State.{State, object_at}
use Rattle.egl_model.specs.Step.{step}
use Rattle.egl_model.specs.Sweep.{sweep, roots}
use Rattle.model_laws.specs.Deleted.{HasDetached, IsNamedBy, attached_at, is_attachable}
use Rattle.model_laws.specs.Laws.{IsAllowedGl}
use Rattle.model_laws.proofs.Names.DeletionLaws.{detached_context, freed_context, no_place, other_name}
use Rattle.model_laws.proofs.Names.NameLaws.{deletion_done, gone_without, names_at, names_deleted}
use Rattle.model_laws.proofs.References.Places.{same_at_set}
use Rattle.model_laws.proofs.Pixels.TextureLaws.{changed_at, swept_same}

-- ---- A framebuffer from which an object is detached.
-- of two framebuffers the second has at a point what the first has, or nothing where the first has this object
Detaches : Point → ℕ → FramebufferValue → FramebufferValue → Type 0
Detaches q x f g = ((at_point q g ≡ None) × (object_of (at_point q f) ≡ Some x)) ⊎ (at_point q g ≡ at_point q f)

detaches_then : (q : Point) (x : ℕ) (f g h : FramebufferValue) → Detaches q x f g → Detaches q x g h → Detaches q x f h
unfolding Detaches
detaches_then q x f g h (inl a) (inl b) = inl (b.0, a.1)
detaches_then q x f g h (inl a) (inr e) = inl (e ∙ a.0, a.1)
detaches_then q x f g h (inr d) (inl b) = inl (b.0, ap object_of (sym d) ∙ b.1)
detaches_then q x f g h (inr d) (inr e) = inr (e ∙ d)

place_is : (x : ℕ) (o : Option ℕ) → is_place x o ≡ true → o ≡ Some x
place_is x None h = absurd (false≢true h)
place_is x (Some y) h = ap Some (eqb-true y x h)

point_emptied : (p q : Point) (x : ℕ) (f : FramebufferValue) → object_of (at_point p f) ≡ Some x → Detaches q x f (with_point p None f)
unfolding Detaches
point_emptied Color Color x f e = inl (refl, e)
point_emptied Depth Depth x f e = inl (refl, e)
point_emptied Stencil Stencil x f e = inl (refl, e)
point_emptied Color Depth x f e = inr refl
point_emptied Color Stencil x f e = inr refl
point_emptied Depth Color x f e = inr refl
point_emptied Depth Stencil x f e = inr refl
point_emptied Stencil Color x f e = inr refl
point_emptied Stencil Depth x f e = inr refl

detaches_at : (p q : Point) (x : ℕ) (f : FramebufferValue) → Detaches q x f (detached_at p x f)
unfolding Detaches
detaches_at p q x f = cond_both (is_place x (object_of (at_point p f))) (with_point p None f) f (Detaches q x f) (λ e. point_emptied p q x f (place_is x (object_of (at_point p f)) e)) (λ e. inr refl)

detaches_all : (q : Point) (x : ℕ) (f : FramebufferValue) → Detaches q x f (detached_from x f)
detaches_all q x f =
    let g = detached_at Color x f in let h = detached_at Depth x g in
    detaches_then q x f h (detached_at Stencil x h) (detaches_then q x f g h (detaches_at Color q x f) (detaches_at Depth q x g)) (detaches_at Stencil q x h)

emptied_point : (p : Point) (x : ℕ) (f : FramebufferValue) → object_of (at_point p (with_point p None f)) ≢ Some x
emptied_point Color x f h = none-some x h
emptied_point Depth x f h = none-some x h
emptied_point Stencil x f h = none-some x h

gone_at : (p : Point) (x : ℕ) (f : FramebufferValue) → object_of (at_point p (detached_at p x f)) ≢ Some x
gone_at p x f = cond_both (is_place x (object_of (at_point p f))) (with_point p None f) f (λ (g : FramebufferValue). object_of (at_point p g) ≢ Some x) (λ e. emptied_point p x f) (λ e. no_place x (object_of (at_point p f)) e)

-- what isn't there doesn't come back
still_gone : (q : Point) (x y : ℕ) (f g : FramebufferValue) → Detaches q x f g → object_of (at_point q f) ≢ Some y → object_of (at_point q g) ≢ Some y
unfolding Detaches
still_gone q x y f g (inl a) ne h = none-some y (ap object_of (sym a.0) ∙ h)
still_gone q x y f g (inr e) ne h = ne (ap object_of (sym e) ∙ h)

all_gone : (x : ℕ) (f : FramebufferValue) → HasDetached x (detached_from x f)
all_gone x f Color = let g = detached_at Color x f in let h = detached_at Depth x g in
    still_gone Color x x h _ (detaches_at Stencil Color x h) (still_gone Color x x g h (detaches_at Depth Color x g) (gone_at Color x f))
all_gone x f Depth = let h = detached_at Depth x (detached_at Color x f) in still_gone Depth x x h _ (detaches_at Stencil Depth x h) (gone_at Depth x (detached_at Color x f))
all_gone x f Stencil = gone_at Stencil x (detached_at Depth x (detached_at Color x f))

-- ---- The framebuffers of a state, where a name is deleted.
-- a framebuffer, if it is one, has the object detached
abbrev IsDetached : ℕ → Option Object → Type 0
IsDetached x o = IfSome (as_framebuffer o) (HasDetached x)

made_detached : (x : ℕ) (o : Option Object) → IsDetached x (with_framebuffer (detached_from x) o)
made_detached x (Some (Framebuffer f)) = all_gone x f
made_detached x o = tt

kept_detached : (z x : ℕ) (o : Option Object) → IsDetached x o → IsDetached x (with_framebuffer (detached_from z) o)
kept_detached z x (Some (Framebuffer f)) h = λ q. still_gone q z x f (detached_from z f) (detaches_all q z f) (h q)
kept_detached z x o h = tt

point_of : Point → Option Object → Option Attached
point_of p o = option_and_then (at_point p) (as_framebuffer o)

kept_point : (p : Point) (x : ℕ) (o : Option Object) → object_of (point_of p o) ≢ Some x → point_of p (with_framebuffer (detached_from x) o) ≡ point_of p o
unfolding point_of Detaches
kept_point p x (Some (Framebuffer f)) ne = elim (detaches_all p x f) [
  | inl a ↦ absurd (ne a.1)
  | inr e ↦ e
]
kept_point p x o ne = refl

group_framebuffer : (f : GroupValue → GroupValue) (o : Option Object) → as_framebuffer (with_group f o) ≡ as_framebuffer o
group_framebuffer f (Some (Group g)) = refl
group_framebuffer f o = refl

context_framebuffer : (f : ContextObject → ContextObject) (o : Option Object) → as_framebuffer (with_context f o) ≡ as_framebuffer o
context_framebuffer f (Some (Context c)) = refl
context_framebuffer f o = refl

-- what a deletion makes of framebuffers is what the detaching does
detached_of : ℕ → Option ℕ → List (Option Object) → List (Option Object)
detached_of n None os = os
detached_of n (Some x) os = detached_on (bound_framebuffer_in n os) x os

after_freed : (k : NameKind) (g n name m : ℕ) (o : Option ℕ) (os : List (Option Object)) → framebuffer_in (freed k g n name o os) m ≡ framebuffer_in (detached_of n o os) m
unfolding change_group change_context detached_of
after_freed k g n name m None os = same_at_set as_framebuffer os g (with_group (with_name_of k name None) (get_or os g None)) None (group_framebuffer (with_name_of k name None) (get_or os g None)) m
after_freed k g n name m (Some x) os =
    let ps = detached_on (bound_framebuffer_in n os) x os in let qs = unbound_in k n (Some x) os in
    same_at_set as_framebuffer qs g (with_group (with_name_of k name None) (get_or qs g None)) None (group_framebuffer (with_name_of k name None) (get_or qs g None)) m
    ∙ same_at_set as_framebuffer ps n (with_context (unbound_object k x) (get_or ps n None)) None (context_framebuffer (unbound_object k x) (get_or ps n None)) m

later_detached : (b : Option ℕ) (z x m : ℕ) (os : List (Option Object)) → IfSome (framebuffer_in os m) (HasDetached x) → IfSome (framebuffer_in (detached_on b z os) m) (HasDetached x)
unfolding change_framebuffer
later_detached None z x m os h = h
later_detached (Some b) z x m os h = elim (cases_eq m b) [
  | inl e ↦ subst (λ (i : ℕ). IsDetached x (get_or (detached_on (Some b) z os) i None)) (sym e)
      (subst (IsDetached x) (sym (changed_at (with_framebuffer (detached_from z)) refl b os)) (kept_detached z x (get_or os b None) (subst (λ (i : ℕ). IsDetached x (get_or os i None)) e h)))
  | inr ne ↦ subst (IsDetached x) (sym (get_or-set_other os b m (with_framebuffer (detached_from z) (get_or os b None)) None ne)) h
]

first_detached : (b x : ℕ) (os : List (Option Object)) → IfSome (framebuffer_in (detached_on (Some b) x os) b) (HasDetached x)
unfolding change_framebuffer
first_detached b x os = subst (IsDetached x) (sym (changed_at (with_framebuffer (detached_from x)) refl b os)) (made_detached x (get_or os b None))

kept_on : (b : Option ℕ) (x m : ℕ) (p : Point) (os : List (Option Object)) → (b ≡ Some m → object_of (attached_at os m p) ≢ Some x) → attached_at (detached_on b x os) m p ≡ attached_at os m p
unfolding change_framebuffer point_of
kept_on None x m p os h = refl
kept_on (Some b) x m p os h = elim (cases_eq m b) [
  | inl e ↦ subst (λ (i : ℕ). point_of p (get_or (detached_on (Some b) x os) i None) ≡ point_of p (get_or os i None)) (sym e)
      (ap (point_of p) (changed_at (with_framebuffer (detached_from x)) refl b os) ∙ kept_point p x (get_or os b None) (subst (λ (i : ℕ). object_of (point_of p (get_or os i None)) ≢ Some x) e (h (ap Some (sym e)))))
  | inr ne ↦ ap (point_of p) (get_or-set_other os b m (with_framebuffer (detached_from x) (get_or os b None)) None ne)
]

-- ---- One name.
name_first : (k : NameKind) (g n name x b : ℕ) (s : State) → object_named s g k name ≡ Some x → bound_framebuffer_in n s.objects ≡ Some b → IfSome (framebuffer_in (deleted_name k g n name s).objects b) (HasDetached x)
unfolding detached_of
name_first k g n name x b s e i =
    let P : Option FramebufferValue → Type 0 = λ f. IfSome f (HasDetached x) in
    subst P (sym (after_freed k g n name b (object_named s g k name) s.objects))
    (subst (λ o. P (framebuffer_in (detached_of n o s.objects) b)) (sym e) (subst (λ o. P (framebuffer_in (detached_on o x s.objects) b)) (sym i) (first_detached b x s.objects)))

name_later : (k : NameKind) (g n name x b : ℕ) (s : State) → IfSome (framebuffer_in s.objects b) (HasDetached x) → IfSome (framebuffer_in (deleted_name k g n name s).objects b) (HasDetached x)
unfolding detached_of
name_later k g n name x b s h = subst (λ f. IfSome f (HasDetached x)) (sym (after_freed k g n name b (object_named s g k name) s.objects)) (by (object_named s g k name))
  where
    by : (o : Option ℕ) → IfSome (framebuffer_in (detached_of n o s.objects) b) (HasDetached x)
    by None = h
    by (Some z) = later_detached (bound_framebuffer_in n s.objects) z x b s.objects h

name_kept : (k : NameKind) (g n name m : ℕ) (p : Point) (s : State) → (bound_framebuffer_in n s.objects ≡ Some m → (x : ℕ) → object_named s g k name ≡ Some x → object_of (attached_at s.objects m p) ≢ Some x) →
    attached_at (deleted_name k g n name s).objects m p ≡ attached_at s.objects m p
unfolding detached_of
name_kept k g n name m p s h = ap (λ f. option_and_then (at_point p) f) (after_freed k g n name m (object_named s g k name) s.objects) ∙ by (object_named s g k name) refl
  where
    by : (o : Option ℕ) → object_named s g k name ≡ o → attached_at (detached_of n o s.objects) m p ≡ attached_at s.objects m p
    by None e = refl
    by (Some x) e = kept_on (bound_framebuffer_in n s.objects) x m p s.objects (λ i. h i x e)

-- a deletion that unbinds no framebuffer
record KeepsBound (k : NameKind) : Type 0 where
  each : (x : ℕ) (c : ContextObject) → (unbound_object k x c).bound.framebuffer ≡ c.bound.framebuffer

bound_in_object : Option Object → Option ℕ
bound_in_object o = option_and_then (λ c. c.bound.framebuffer) (as_context o)

object_keeps_bound : (k : NameKind) → KeepsBound k → (x : ℕ) (o : Option Object) → bound_in_object (with_context (unbound_object k x) o) ≡ bound_in_object o
unfolding bound_in_object
object_keeps_bound k d x (Some (Context c)) = d.each x c
object_keeps_bound k d x o = refl

unbinding_keeps_bound : (k : NameKind) → KeepsBound k → (n : ℕ) (o : Option ℕ) (os : List (Option Object)) → bound_framebuffer_in n (unbound_in k n o os) ≡ bound_framebuffer_in n os
unfolding change_context bound_in_object
unbinding_keeps_bound k d n None os = refl
unbinding_keeps_bound k d n (Some x) os =
    let ps = detached_on (bound_framebuffer_in n os) x os in
    same_at_set bound_in_object ps n (with_context (unbound_object k x) (get_or ps n None)) None (object_keeps_bound k d x (get_or ps n None)) n
    ∙ ap (λ o. option_and_then (λ c. c.bound.framebuffer) o) (detached_context (bound_framebuffer_in n os) x n os)

name_keeps_bound : (k : NameKind) → KeepsBound k → (g n name : ℕ) (s : State) → bound_framebuffer_in n (deleted_name k g n name s).objects ≡ bound_framebuffer_in n s.objects
name_keeps_bound k d g n name s =
    let o = object_named s g k name in
    ap (λ o. option_and_then (λ c. c.bound.framebuffer) o) (freed_context k g n name (unbound_in k n o s.objects)) ∙ unbinding_keeps_bound k d n o s.objects

-- what has a name behind a deletion had it before
named_before : (k : NameKind) (g n name other x : ℕ) (s : State) → object_named (deleted_name k g n name s) g k other ≡ Some x → object_named s g k other ≡ Some x
unfolding names_at
named_before k g n name other x s h = elim (cases_eq other name) [
  | inl e ↦ absurd (none-some x (sym (none_named e) ∙ h))
  | inr ne ↦ sym (other_name k g n name other s ne) ∙ h
]
  where
    no_object : (o : Option Name) → is_some o ≡ false → object_in o ≡ None
    no_object None h = refl
    no_object (Some y) h = absurd (false≢true (sym h))

    none_named : other ≡ name → object_named (deleted_name k g n name s) g k other ≡ None
    none_named e = ap (λ (i : ℕ). object_named (deleted_name k g n name s) g k i) e ∙ ap (names.object_of name) (names_deleted k g n name s) ∙ no_object _ (gone_without name (names_at k (object_at s g)))

-- ---- All names of a call.
all_later : (k : NameKind) (g n x b : ℕ) (xs : List ℤ) (s : State) → IfSome (framebuffer_in s.objects b) (HasDetached x) → IfSome (framebuffer_in (deleted_in k g n xs s).objects b) (HasDetached x)
all_later k g n x b [] s h = h
all_later k g n x b (z ∷ xs) s h = all_later k g n x b xs (deleted_name k g n (unsigned z) s) (name_later k g n (unsigned z) x b s h)

each_detached : (k : NameKind) → KeepsBound k → (g n i x b : ℕ) (v : ℤ) (xs : List ℤ) (s : State) → i < length xs → get_or xs i v ≡ v → object_named s g k (unsigned v) ≡ Some x → bound_framebuffer_in n s.objects ≡ Some b →
    IfSome (framebuffer_in (deleted_in k g n xs s).objects b) (HasDetached x)
each_detached k d g n i x b v [] s l e h j = absurd (omega arith)
each_detached k d g n zero x b v (z ∷ zs) s l e h j = all_later k g n x b zs (deleted_name k g n (unsigned z) s) (name_first k g n (unsigned z) x b s (ap (λ y. object_named s g k (unsigned y)) e ∙ h) j)
each_detached k d g n (suc i) x b v (z ∷ zs) s l e h j = elim (cases_eq (unsigned v) (unsigned z)) [
  | inl q ↦ all_later k g n x b zs (deleted_name k g n (unsigned z) s) (name_first k g n (unsigned z) x b s (ap (λ y. object_named s g k y) (sym q) ∙ h) j)
  | inr ne ↦ each_detached k d g n i x b v zs (deleted_name k g n (unsigned z) s) (omega (arith, l)) e (other_name k g n (unsigned z) (unsigned v) s ne ∙ h) (name_keeps_bound k d g n (unsigned z) s ∙ j)
]

-- nothing that has one of the names is attached at a point of a framebuffer, if that is bound
abbrev NoneNamed : NameKind → ℕ → ℕ → List ℤ → ℕ → Point → State → Type 0
NoneNamed k g n xs m p s = bound_framebuffer_in n s.objects ≡ Some m → (i x : ℕ) (v : ℤ) → i < length xs → get_or xs i v ≡ v → object_named s g k (unsigned v) ≡ Some x → object_of (attached_at s.objects m p) ≢ Some x

none_later : (k : NameKind) → KeepsBound k → (g n m : ℕ) (p : Point) (z : ℤ) (zs : List ℤ) (s : State) → NoneNamed k g n (z ∷ zs) m p s → attached_at (deleted_name k g n (unsigned z) s).objects m p ≡ attached_at s.objects m p →
    NoneNamed k g n zs m p (deleted_name k g n (unsigned z) s)
none_later k d g n m p z zs s h same j i x v l e w = subst (λ o. object_of o ≢ Some x) (sym same)
    (h (sym (name_keeps_bound k d g n (unsigned z) s) ∙ j) (suc i) x v (omega (arith, l)) e (named_before k g n (unsigned z) (unsigned v) x s w))

all_kept : (k : NameKind) → KeepsBound k → (g n m : ℕ) (p : Point) (xs : List ℤ) (s : State) → NoneNamed k g n xs m p s → attached_at (deleted_in k g n xs s).objects m p ≡ attached_at s.objects m p
all_kept k d g n m p [] s h = refl
all_kept k d g n m p (z ∷ zs) s h =
    let same = name_kept k g n (unsigned z) m p s (λ j x w. h j 0 x z (omega arith) refl w) in
    all_kept k d g n m p zs (deleted_name k g n (unsigned z) s) (none_later k d g n m p z zs s h same) ∙ same

-- ---- The calls.
swept_detached : (x b : ℕ) (a : State) → IfSome (framebuffer_in a.objects b) (HasDetached x) → IfSome (framebuffer_in (sweep a).objects b) (HasDetached x)
swept_detached x b a h = elim (swept_same (roots a) a.objects b) [
  | inl gone ↦ subst (IsDetached x) (sym gone) tt
  | inr same ↦ subst (IsDetached x) (sym same) h
]

detached_after : (k : NameKind) → KeepsBound k → (s : State) (n x b : ℕ) (c : CallValue) → IsNamedBy k s n c x → target_framebuffer s n ≡ Some b → IfSome (framebuffer_in (sweep (deleted_names k s n c.list)).objects b) (HasDetached x)
detached_after k d s n x b c (v, i, e) j = swept_detached x b (deleted_names k s n c.list) (each_detached k d (group_of s n) n i.0 x b v c.list s i.1 i.2 e j)

some_framebuffer : (a f : FramebufferValue) → Some a ≡ Some f → a ≡ f
some_framebuffer a f e = cc

point_there : (p : Point) (o : Option FramebufferValue) (f : FramebufferValue) → o ≡ Some f → at_point p f ≡ option_and_then (at_point p) o
point_there p None f h = absurd (none-some f h)
point_there p (Some a) f h = ap (at_point p) (sym (some_framebuffer a f h))

swept_point : (m : ℕ) (p : Point) (f : FramebufferValue) (a : State) → framebuffer_in (sweep a).objects m ≡ Some f → at_point p f ≡ attached_at a.objects m p
swept_point m p f a h = elim (swept_same (roots a) a.objects m) [
  | inl gone ↦ absurd (none-some f (ap as_framebuffer (sym gone) ∙ h))
  | inr same ↦ point_there p (framebuffer_in (sweep a).objects m) f h ∙ ap (λ o. option_and_then (at_point p) (as_framebuffer o)) same
]

kept_after : (k : NameKind) → KeepsBound k → (s : State) (n m : ℕ) (p : Point) (f : FramebufferValue) (c : CallValue) → (target_framebuffer s n ≡ Some m → (x : ℕ) → IsNamedBy k s n c x → object_of (attached_at s.objects m p) ≢ Some x) →
    framebuffer_in (sweep (deleted_names k s n c.list)).objects m ≡ Some f → at_point p f ≡ attached_at s.objects m p
kept_after k d s n m p f c h e = swept_point m p f (deleted_names k s n c.list) e ∙ all_kept k d (group_of s n) n m p c.list s (λ j i x v l q w. h j x (v, (i, l, q), w))

textures_keep : KeepsBound textures
textures_keep = record { each = λ x c. cond_both (is_place x c.bound.texture) _ c (λ (y : ContextObject). y.bound.framebuffer ≡ c.bound.framebuffer) (λ e. refl) (λ e. refl) }

renderbuffers_keep : KeepsBound renderbuffers
renderbuffers_keep = record { each = λ x c. cond_both (is_place x c.bound.renderbuffer) _ c (λ (y : ContextObject). y.bound.framebuffer ≡ c.bound.framebuffer) (λ e. refl) (λ e. refl) }

-- what can be attached isn't a framebuffer, so that the one that is bound stays bound
attachable_keep : (k : NameKind) → is_attachable k ≡ true → KeepsBound k
attachable_keep textures a = textures_keep
attachable_keep renderbuffers a = renderbuffers_keep
attachable_keep k a = absurd (false≢true a)

pub deleted_is_detached : (s : State) (t n x b : ℕ) (k : GlKind) (kind : NameKind) (c : CallValue) → gl_role k ≡ Deletes kind → is_attachable kind ≡ true → IsAllowedGl s t n k c → IsNamedBy kind s n c x → target_framebuffer s n ≡ Some b → IfSome (framebuffer_in (step s t c).state.objects b) (HasDetached x)
deleted_is_detached s t n x b k kind c e d a h j = subst (λ (z : State). IfSome (framebuffer_in z.objects b) (HasDetached x)) (sym (deletion_done s t n k kind c e a)) (detached_after kind (attachable_keep kind d) s n x b c h j)

pub others_stay_attached : (s : State) (t n m : ℕ) (k : GlKind) (kind : NameKind) (p : Point) (f : FramebufferValue) (c : CallValue) → gl_role k ≡ Deletes kind → is_attachable kind ≡ true → IsAllowedGl s t n k c → (target_framebuffer s n ≡ Some m → (x : ℕ) → IsNamedBy kind s n c x → object_of (attached_at s.objects m p) ≢ Some x) →
    framebuffer_in (step s t c).state.objects m ≡ Some f → at_point p f ≡ attached_at s.objects m p
others_stay_attached s t n m k kind p f c e d a h j = kept_after kind (attachable_keep kind d) s n m p f c h (subst (λ (z : State). framebuffer_in z.objects m ≡ Some f) (deletion_done s t n k kind c e a) j)
