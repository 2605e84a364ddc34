-- What a deletion takes from the framebuffer that its context has bound.
use Rattle.std.proofs.Common.{◌≡◌, ℕ, ◌⊎◌, inl, inr, ℤ, pos, Bool, true, false, List, [], ◌∷◌, map, get_or, refl, sym, ap, ◌∙◌, subst, Option, None, Some}
use Rattle.std.specs.Prelude.{if◌then◌else◌, is_some, IfSome}
use Rattle.std.specs.List.{Contains, filter_map, cons_option}
use Rattle.std.specs.Option.{option_and_then}
use Rattle.std.proofs.lemmas.Bool.{cases_eq, eqb-true, false≢true}
use Rattle.std.proofs.lemmas.Option.{none-some}
use Rattle.egl_calls.specs.Ranges.{unsigned}
use Rattle.share_group.specs.Groups.{GroupValue}
use Rattle.share_group.specs.Names as names
use Rattle.share_group.specs.declared.names.Name.{Name}
use Rattle.share_group.specs.declared.names.NameKind.{NameKind}
use Rattle.share_group.specs.declared.names.NameKind.TheVariants.{Texture as textures, Buffer as buffers, Renderbuffer as renderbuffers, Framebuffer as framebuffers}
use Rattle.share_group.proofs.FreeLaws.{frees_one}
use Rattle.framebuffer_objects.specs.Framebuffers.{FramebufferValue, at_point, object_of, with_point}
use Rattle.framebuffer_objects.specs.declared.framebuffers.Attached.{Attached}
use Rattle.framebuffer_objects.specs.declared.points.Point.{Point}
use Rattle.framebuffer_objects.specs.declared.points.Point.TheVariants.{Color, Depth, Stencil}
use Rattle.driver_objects.specs.Links.{bound_in}
use Rattle.driver_objects.specs.Targets.{binding_of, slot_of}
use Rattle.driver_objects.specs.declared.contexts.Context.{Context as ContextObject}
use Rattle.driver_objects.specs.declared.objects.Object.{Object}
use Rattle.driver_objects.specs.declared.objects.Object.TheVariants.{Context, Framebuffer, Group}
use Rattle.driver_objects.specs.declared.targets.BindTarget.{BindTarget}
use Rattle.driver_objects.specs.declared.targets.BindTarget.TheVariants.{Texture as texture_target, ArrayBuffer as array_target, ElementArrayBuffer as element_target, Renderbuffer as renderbuffer_target, Framebuffer as framebuffer_target}
use Rattle.egl_model.specs.Bindings.{bound_at, bound_framebuffer_in, deleted_name, detached_at, detached_from, detached_on, named_at, unbound_at, unbound_in, unbound_object}
use Rattle.egl_model.specs.Framebuffers.{target_framebuffer}
use Rattle.egl_model.specs.Names.{group_of, object_named, with_name_of}
use Rattle.egl_model.specs.Objects.{as_context, change_context, change_framebuffer, change_group, with_context, with_framebuffer, with_group}
use Rattle.egl_model.specs.Parts.{is_place}
use Rattle.egl_model.specs.State.{State, object_at}
use Rattle.model_laws.proofs.Names.NameLaws.{names_at, names_deleted}
use Rattle.model_laws.proofs.References.Places.{same_at_set}
use Rattle.model_laws.proofs.Pixels.TextureLaws.{changed_at}
use Rattle.driver_facts.specs.Touches.{objects_named}
use Rattle.race_report.specs.Writes.{LosesAt, LosesIn}
use Rattle.race_report.proofs.WordLaws.{contains_cases, contains_first, contains_later, contains_none}

-- ---- A framebuffer loses what is detached, and nothing else.
at_then : (ws : List ℤ) (a b c : Option Attached) → LosesAt ws a b → LosesAt ws b c → LosesAt ws a c
at_then ws a b c f g = elim g [
  | inl e ↦ (elim f [ inl d ↦ inl (e ∙ d) | inr d ↦ inr (e ∙ d.0, d.1) ])
  | inr e ↦ (elim f [ inl d ↦ inr (e.0, subst (λ o. IfSome o (λ (y : Attached). Contains ws (pos y.object))) d e.1) | inr d ↦ inr (e.0, d.1) ])
]

pub loses_then : (ws : List ℤ) (f g h : FramebufferValue) → LosesIn ws f g → LosesIn ws g h → LosesIn ws f h
loses_then ws f g h a b = (at_then ws f.color g.color h.color a.0 b.0, at_then ws f.depth g.depth h.depth a.1 b.1, at_then ws f.stencil g.stencil h.stencil a.2 b.2)

is_written : (ws : List ℤ) (x : ℕ) (a : Option Attached) → Contains ws (pos x) → is_place x (object_of a) ≡ true → IfSome a (λ (y : Attached). Contains ws (pos y.object))
is_written ws x None w e = tt
is_written ws x (Some y) w e = subst (λ n. Contains ws (pos n)) (sym (eqb-true y.object x e)) w

point_loses : (ws : List ℤ) (p : Point) (b : Bool) (f : FramebufferValue) → (b ≡ true → IfSome (at_point p f) (λ (y : Attached). Contains ws (pos y.object))) → LosesIn ws f (if b then with_point p None f else f)
point_loses ws p false f h = (inl refl, inl refl, inl refl)
point_loses ws Color true f h = (inr (refl, h refl), inl refl, inl refl)
point_loses ws Depth true f h = (inl refl, inr (refl, h refl), inl refl)
point_loses ws Stencil true f h = (inl refl, inl refl, inr (refl, h refl))

pub detached_loses : (ws : List ℤ) (x : ℕ) (f : FramebufferValue) → Contains ws (pos x) → LosesIn ws f (detached_from x f)
detached_loses ws x f w =
    let c = detached_at Color x f in
    let d = detached_at Depth x c in
    loses_then ws f d (detached_at Stencil x d)
    (loses_then ws f c d (point_loses ws Color (is_place x (object_of f.color)) f (is_written ws x f.color w)) (point_loses ws Depth (is_place x (object_of c.depth)) c (is_written ws x c.depth w)))
    (point_loses ws Stencil (is_place x (object_of d.stencil)) d (is_written ws x d.stencil w))

-- ---- What the context has bound after a deletion it had bound before.
bound_before_target : (t : BindTarget) (w : Bool) (b : ℕ) (c : ContextObject) → (if w then bound_at (slot_of t) None (named_at (binding_of t) 0 c) else c).bound.framebuffer ≡ Some b → c.bound.framebuffer ≡ Some b
bound_before_target t false b c h = h
bound_before_target framebuffer_target true b c h = absurd (none-some b h)
bound_before_target t true b c h = h

bound_before_targets : (k : NameKind) (x b : ℕ) (c : ContextObject) → (unbound_object k x c).bound.framebuffer ≡ Some b → c.bound.framebuffer ≡ Some b
bound_before_targets textures x b c h = bound_before_target texture_target (is_place x (bound_in (slot_of texture_target) c.bound)) b c h
bound_before_targets buffers x b c h =
    let d = unbound_at array_target x c in
    bound_before_target array_target (is_place x (bound_in (slot_of array_target) c.bound)) b c (bound_before_target element_target (is_place x (bound_in (slot_of element_target) d.bound)) b d h)
bound_before_targets renderbuffers x b c h = bound_before_target renderbuffer_target (is_place x (bound_in (slot_of renderbuffer_target) c.bound)) b c h
bound_before_targets framebuffers x b c h = bound_before_target framebuffer_target (is_place x (bound_in (slot_of framebuffer_target) c.bound)) b c h

bound_of : Option Object → Option ℕ
bound_of o = option_and_then (λ c. c.bound.framebuffer) (as_context o)

bound_before_object : (k : NameKind) (x b : ℕ) (o : Option Object) → bound_of (with_context (unbound_object k x) o) ≡ Some b → bound_of o ≡ Some b
unfolding bound_of
bound_before_object k x b (Some (Context c)) h = bound_before_targets k x b c h
bound_before_object k x b o h = h

context_of_framebuffer : (f : FramebufferValue → FramebufferValue) (o : Option Object) → as_context (with_framebuffer f o) ≡ as_context o
context_of_framebuffer f (Some (Framebuffer x)) = refl
context_of_framebuffer f o = refl

context_of_group : (f : GroupValue → GroupValue) (o : Option Object) → as_context (with_group f o) ≡ as_context o
context_of_group f (Some (Group g)) = refl
context_of_group f o = refl

bound_detached : (d : Option ℕ) (x n : ℕ) (os : List (Option Object)) → bound_framebuffer_in n (detached_on d x os) ≡ bound_framebuffer_in n os
unfolding change_framebuffer
bound_detached None x n os = refl
bound_detached (Some d) x n os = ap (option_and_then (λ c. c.bound.framebuffer)) (same_at_set as_context os d (with_framebuffer (detached_from x) (get_or os d None)) None (context_of_framebuffer (detached_from x) (get_or os d None)) n)

bound_before_unbound : (k : NameKind) (n : ℕ) (o : Option ℕ) (b : ℕ) (os : List (Option Object)) → bound_framebuffer_in n (unbound_in k n o os) ≡ Some b → bound_framebuffer_in n os ≡ Some b
unfolding change_context bound_of
bound_before_unbound k n None b os h = h
bound_before_unbound k n (Some x) b os h =
    let ps : List (Option Object) = detached_on (bound_framebuffer_in n os) x os in
    sym (bound_detached (bound_framebuffer_in n os) x n os) ∙ bound_before_object k x b (get_or ps n None) (sym (ap bound_of (changed_at (with_context (unbound_object k x)) refl n ps)) ∙ h)

bound_before_name : (k : NameKind) (g n name b : ℕ) (s : State) → bound_framebuffer_in n (deleted_name k g n name s).objects ≡ Some b → bound_framebuffer_in n s.objects ≡ Some b
unfolding change_group
bound_before_name k g n name b s h =
    let o : Option ℕ = object_named s g k name in
    let ps : List (Option Object) = unbound_in k n o s.objects in
    bound_before_unbound k n o b s.objects
    (sym (ap (option_and_then (λ c. c.bound.framebuffer)) (same_at_set as_context ps g (with_group (with_name_of k name None) (get_or ps g None)) None (context_of_group (with_name_of k name None) (get_or ps g None)) n)) ∙ h)

-- ---- A name has the object that it had, or none.
none_used : (o : Option Name) → is_some o ≡ false → names.object_in o ≡ None
none_used None h = refl
none_used (Some x) h = absurd (false≢true (sym h))

named_or_none : (k : NameKind) (g n name m : ℕ) (s : State) → (object_named (deleted_name k g n name s) g k m ≡ object_named s g k m) ⊎ (object_named (deleted_name k g n name s) g k m ≡ None)
unfolding names_at
named_or_none k g n name m s =
    let xs : List Name = names_at k (object_at s g) in
    let e = ap (names.object_of m) (names_deleted k g n name s) in
    elim (cases_eq m name) [
      | inl same ↦ inr (e ∙ ap (λ i. names.object_of i (names.without name xs)) same ∙ none_used _ (frees_one name xs).freed)
      | inr ne ↦ inl (e ∙ ((frees_one name xs).others m ne).1)
    ]

named_before : (k : NameKind) (g n name m y : ℕ) (s : State) → object_named (deleted_name k g n name s) g k m ≡ Some y → object_named s g k m ≡ Some y
named_before k g n name m y s h = elim (named_or_none k g n name m s) [ inl e ↦ sym e ∙ h | inr e ↦ absurd (none-some y (sym e ∙ h)) ]

-- ---- All names of a deletion: their objects are written, and one framebuffer at most is bound.
pub record Deleting (ws : List ℤ) (left : Option ℕ) (k : NameKind) (g n : ℕ) (xs : List ℤ) (s : State) : Type 0 where
  pub bound : (b : ℕ) → bound_framebuffer_in n s.objects ≡ Some b → left ≡ Some b
  pub named : (x : ℤ) → Contains xs x → (y : ℕ) → object_named s g k (unsigned x) ≡ Some y → Contains ws (pos y)

pub deleting_later : (ws : List ℤ) (left : Option ℕ) (k : NameKind) (g n : ℕ) (x : ℤ) (xs : List ℤ) (s : State) → Deleting ws left k g n (x ∷ xs) s → Deleting ws left k g n xs (deleted_name k g n (unsigned x) s)
deleting_later ws left k g n x xs s f = record {
  bound = λ b h. f.bound b (bound_before_name k g n (unsigned x) b s h);
  named = λ z c y h. f.named z (contains_later x xs z c) y (named_before k g n (unsigned x) (unsigned z) y s h);
}

contains_object : (f : ℤ → Option ℕ) (xs : List ℤ) (x : ℤ) (y : ℕ) → Contains xs x → f x ≡ Some y → Contains (map pos (filter_map f xs)) (pos y)
contains_object f [] x y c e = absurd (contains_none x c)
contains_object f (z ∷ zs) x y c e = elim (contains_cases z zs x c) [
  | inl same ↦ (let P : Option ℕ → Type 0 = λ o. Contains (map pos (cons_option o (filter_map f zs))) (pos y) in
      subst P (sym (ap f same ∙ e)) (contains_first (pos y) (map pos (filter_map f zs))))
  | inr more ↦ behind (f z) (contains_object f zs x y more e)
]
  where
    behind : (o : Option ℕ) → Contains (map pos (filter_map f zs)) (pos y) → Contains (map pos (cons_option o (filter_map f zs))) (pos y)
    behind None g = g
    behind (Some k) g = contains_later (pos k) (map pos (filter_map f zs)) (pos y) g

pub deleting_all : (k : NameKind) (s : State) (n : ℕ) (xs : List ℤ) → Deleting (objects_named s n k xs) (target_framebuffer s n) k (group_of s n) n xs s
deleting_all k s n xs = record {
  bound = λ b h. h;
  named = λ x c y e. contains_object (λ (z : ℤ). object_named s (group_of s n) k (unsigned z)) xs x y c e;
}
