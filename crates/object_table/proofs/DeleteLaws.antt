-- Objects are unbound, and their names are freed.
use Rattle.std.proofs.Common.{◌≡◌, ◌⊎◌, ℕ, ◌+◌, ◌<◌, Bool, true, false, List, [], ◌∷◌, length, get_or, set, refl, sym, ap, subst, ◌∙◌, arith, inl, inr, Option, None, Some}
use Rattle.std.specs.Prelude.{IsSome, is_some}
use Rattle.std.specs.List.{sum_by}
use Rattle.std.specs.Option.{option_and_then, option_map_or}
use Rattle.std.proofs.lemmas.Bool.{cases_Bool, cases_eq, cases_lt, false≢true}
use Rattle.std.proofs.lemmas.List.{get_or-set_other, get_or-set_same, get_or_past, length-set, set-get_or, set-set, set_past}
use Rattle.std.proofs.lemmas.List.Sums.{sum_by-set}
use Rattle.driver_objects.specs.Links.{bound_in}
use Rattle.driver_objects.specs.Targets.{binding_of, slot_of}
use Rattle.driver_objects.specs.declared.targets.BindTarget.{BindTarget}
use Rattle.driver_objects.specs.declared.targets.BindTarget.TheVariants.{Texture as TextureTarget, ArrayBuffer, ElementArrayBuffer, Renderbuffer as RenderbufferTarget, Framebuffer as FramebufferTarget}
use Rattle.driver_objects.specs.Objects.{edges_of, filled}
use Rattle.driver_objects.specs.declared.contexts.Context.{Context as ContextObject}
use Rattle.driver_objects.specs.declared.objects.Object.{Object}
use Rattle.driver_objects.specs.declared.objects.Object.TheVariants.{Context, Group, Texture, Buffer, Renderbuffer, Framebuffer, Surface, Storage, Image, Sync}
use Rattle.egl_model.specs.Names.{with_name_of}
use Rattle.egl_model.specs.Objects.{as_context, as_group, change_context, change_framebuffer, change_group, with_context, with_framebuffer, with_group}
use Rattle.egl_model.specs.Parts.{is_place}
use Rattle.egl_model.specs.Bindings.{bound_framebuffer_in, detached_from, detached_on, freed, named_at, unbound_at, unbound_in, unbound_object}
use Rattle.ref_store.proofs.CountLaws.{times_here}
use Rattle.framebuffer_objects.specs.Framebuffers.{FramebufferValue}
use Rattle.share_group.specs.Groups.{GroupValue, names_of}
use Rattle.share_group.specs.Names.{object_of}
use Rattle.share_group.specs.declared.names.NameKind.{NameKind}
use Rattle.share_group.specs.declared.names.NameKind.TheVariants.{Buffer as buffers}
use Rattle.object_table.specs.Keeps.{is_placed}
use Rattle.object_table.specs.Links.{IsLeft, IsLeftWith, edge_in, has_slot_in, linked_in}
use Rattle.object_table.specs.Tables.{LeadsDown, weight_of}
use Rattle.object_table.proofs.LeftLaws.{left_self, left_then}

-- the object of a number after a change
pub changed_at : (f : Option Object → Option Object) → f None ≡ None → (n : ℕ) (os : List (Option Object)) → get_or (set os n (f (get_or os n None))) n None ≡ f (get_or os n None)
changed_at f none n os = elim (cases_lt n (length os)) [
  | inl l ↦ get_or-set_same os n (f (get_or os n None)) None l
  | inr l ↦ let p = get_or_past os n None l in ap (λ (xs : List (Option Object)). get_or xs n None) (set_past os n (f (get_or os n None)) l) ∙ p ∙ sym (ap f p ∙ none)
]

-- ---- What is left of a table that was changed.
pub left_change : (f : Option Object → Option Object) → f None ≡ None → (n : ℕ) (written left : List (Option Object)) → IsLeft written left → IsLeft (set written n (f (get_or written n None))) (set left n (f (get_or left n None)))
left_change f none n w a is = record {
  each = λ k. elim (cases_eq k n) [
    | inl e ↦ elim (is.each n) [
      | inl q ↦ inl (rw e (changed_at f none n a ∙ ap f q ∙ none))
      | inr q ↦ inr (rw e (changed_at f none n a ∙ ap f q ∙ sym (changed_at f none n w)))
    ]
    | inr ne ↦ elim (is.each k) [
      | inl q ↦ inl (get_or-set_other a n k (f (get_or a n None)) None ne ∙ q)
      | inr q ↦ inr (get_or-set_other a n k (f (get_or a n None)) None ne ∙ q ∙ sym (get_or-set_other w n k (f (get_or w n None)) None ne))
    ]
  ];
  long = length-set a n (f (get_or a n None)) ∙ is.long ∙ sym (length-set w n (f (get_or w n None)));
}

-- where the changed object is gone, or is what it becomes
left_set : (f : Option Object → Option Object) → f None ≡ None → (n : ℕ) (written left : List (Option Object)) → IsLeft written left → (get_or left n None ≡ None) ⊎ (get_or left n None ≡ f (get_or written n None)) → IsLeft (set written n (f (get_or written n None))) left
left_set f none n w a is h = record {
  each = λ k. elim (cases_eq k n) [
    | inl e ↦ elim h [
      | inl q ↦ inl (rw e q)
      | inr q ↦ inr (rw e (q ∙ sym (changed_at f none n w)))
    ]
    | inr ne ↦ elim (is.each k) [
      | inl q ↦ inl q
      | inr q ↦ inr (q ∙ sym (get_or-set_other w n k (f (get_or w n None)) None ne))
    ]
  ];
  long = is.long ∙ sym (length-set w n (f (get_or w n None)));
}

-- ---- An object is unbound from a context that has it bound to a target.
-- whether a context has an object bound there
abbrev has_there : BindTarget → ℕ → Option Object → Bool
has_there b x o = option_map_or (λ c. is_place x (bound_in (slot_of b) c.bound)) (as_context o) false

slot_in_row : (b : BindTarget) (c : ContextObject) → has_slot_in (Some (Context c)) (slot_of b) ≡ true
slot_in_row TextureTarget c = refl
slot_in_row ArrayBuffer c = refl
slot_in_row ElementArrayBuffer c = refl
slot_in_row RenderbufferTarget c = refl
slot_in_row FramebufferTarget c = refl

slot_there : (b : BindTarget) (o : Option Object) (which name x : ℕ) → has_there b x o ≡ true → has_slot_in (with_context (named_at which name) o) (slot_of b) ≡ true
slot_there b (Some (Context c)) which name x h = slot_in_row b (named_at which name c)
slot_there b None which name x h = absurd (false≢true h)
slot_there b (Some (Group v)) which name x h = absurd (false≢true h)
slot_there b (Some (Texture v)) which name x h = absurd (false≢true h)
slot_there b (Some (Buffer v)) which name x h = absurd (false≢true h)
slot_there b (Some (Renderbuffer v)) which name x h = absurd (false≢true h)
slot_there b (Some (Surface v)) which name x h = absurd (false≢true h)
slot_there b (Some (Storage v)) which name x h = absurd (false≢true h)
slot_there b (Some (Sync v)) which name x h = absurd (false≢true h)
slot_there b (Some (Framebuffer v)) which name x h = absurd (false≢true h)
slot_there b (Some (Image v)) which name x h = absurd (false≢true h)

edge_there : (b : BindTarget) (o : Option Object) (which name x : ℕ) → has_there b x o ≡ true → edge_in (with_context (named_at which name) o) (slot_of b) ≡ Some x
edge_there b (Some (Context c)) which name x h = is_placed x (bound_in (slot_of b) c.bound) h
edge_there b None which name x h = absurd (false≢true h)
edge_there b (Some (Group v)) which name x h = absurd (false≢true h)
edge_there b (Some (Texture v)) which name x h = absurd (false≢true h)
edge_there b (Some (Buffer v)) which name x h = absurd (false≢true h)
edge_there b (Some (Renderbuffer v)) which name x h = absurd (false≢true h)
edge_there b (Some (Surface v)) which name x h = absurd (false≢true h)
edge_there b (Some (Storage v)) which name x h = absurd (false≢true h)
edge_there b (Some (Sync v)) which name x h = absurd (false≢true h)
edge_there b (Some (Framebuffer v)) which name x h = absurd (false≢true h)
edge_there b (Some (Image v)) which name x h = absurd (false≢true h)

linked_there : (b : BindTarget) (o : Option Object) (x : ℕ) → has_there b x o ≡ true → linked_in (slot_of b) None (with_context (named_at (binding_of b) 0) o) ≡ with_context (unbound_at b x) o
linked_there b (Some (Context c)) x h = rw h refl
linked_there b None x h = absurd (false≢true h)
linked_there b (Some (Group v)) x h = absurd (false≢true h)
linked_there b (Some (Texture v)) x h = absurd (false≢true h)
linked_there b (Some (Buffer v)) x h = absurd (false≢true h)
linked_there b (Some (Renderbuffer v)) x h = absurd (false≢true h)
linked_there b (Some (Surface v)) x h = absurd (false≢true h)
linked_there b (Some (Storage v)) x h = absurd (false≢true h)
linked_there b (Some (Sync v)) x h = absurd (false≢true h)
linked_there b (Some (Framebuffer v)) x h = absurd (false≢true h)
linked_there b (Some (Image v)) x h = absurd (false≢true h)

not_bound : (b : BindTarget) (o : Option Object) (x : ℕ) → has_there b x o ≡ false → with_context (unbound_at b x) o ≡ o
not_bound b (Some (Context c)) x h = rw h refl
not_bound b o x h = refl

pub unbind_slot : (b : BindTarget) (os mid : List (Option Object)) (n x : ℕ) → mid ≡ change_context (named_at (binding_of b) 0) n os → has_there b x (get_or os n None) ≡ true → has_slot_in (get_or mid n None) (slot_of b) ≡ true
unfolding change_context
unbind_slot b os mid n x e h = rw (e, changed_at (with_context (named_at (binding_of b) 0)) refl n os) (slot_there b (get_or os n None) (binding_of b) 0 x h)

pub unbind_edge : (b : BindTarget) (os mid : List (Option Object)) (n x : ℕ) → mid ≡ change_context (named_at (binding_of b) 0) n os → has_there b x (get_or os n None) ≡ true → edge_in (get_or mid n None) (slot_of b) ≡ Some x
unfolding change_context
unbind_edge b os mid n x e h = rw (e, changed_at (with_context (named_at (binding_of b) 0)) refl n os) (edge_there b (get_or os n None) (binding_of b) 0 x h)

pub unbind_left : (b : BindTarget) (os mid new : List (Option Object)) (n x : ℕ) → mid ≡ change_context (named_at (binding_of b) 0) n os → has_there b x (get_or os n None) ≡ true → IsLeft (set mid n (linked_in (slot_of b) None (get_or mid n None))) new → IsLeft (change_context (unbound_at b x) n os) new
unfolding change_context
unbind_left b os mid new n x e h l =
    let o = get_or os n None in let f = with_context (named_at (binding_of b) 0) in
    let m : List (Option Object) = set os n (f o) in
    let a : set m n (linked_in (slot_of b) None (get_or m n None)) ≡ set os n (with_context (unbound_at b x) o) = ap (λ y. set m n (linked_in (slot_of b) None y)) (changed_at f refl n os) ∙ set-set os n (f o) (linked_in (slot_of b) None (f o)) ∙ ap (set os n) (linked_there b o x h) in
    subst (λ ys. IsLeft ys new) a (subst (λ ys. IsLeft (set ys n (linked_in (slot_of b) None (get_or ys n None))) new) e l)

pub unbind_same : (b : BindTarget) (os : List (Option Object)) (n x : ℕ) → has_there b x (get_or os n None) ≡ false → IsLeft (change_context (unbound_at b x) n os) os
unfolding change_context
unbind_same b os n x h = left_self _ os (sym (ap (set os n) (not_bound b (get_or os n None) x h) ∙ set-get_or os n None))

-- from one target and then from another
context_twice : (f g : ContextObject → ContextObject) (o : Option Object) → with_context g (with_context f o) ≡ with_context (λ c. g (f c)) o
context_twice f g (Some (Context c)) = refl
context_twice f g o = refl

pub unbind_both : (os mid new : List (Option Object)) (n x : ℕ) → IsLeft (change_context (unbound_at ArrayBuffer x) n os) mid → IsLeft (change_context (unbound_at ElementArrayBuffer x) n mid) new → IsLeft (change_context (unbound_object buffers x) n os) new
unfolding change_context
unbind_both os mid new n x a b =
    let o = get_or os n None in let f = with_context (unbound_at ArrayBuffer x) in let g = with_context (unbound_at ElementArrayBuffer x) in
    let m : List (Option Object) = set os n (f o) in
    let e : set m n (g (get_or m n None)) ≡ set os n (with_context (unbound_object buffers x) o) = ap (λ y. set m n (g y)) (changed_at f refl n os) ∙ set-set os n (f o) (g (f o)) ∙ ap (set os n) (context_twice (unbound_at ArrayBuffer x) (unbound_at ElementArrayBuffer x) o) in
    subst (λ ys. IsLeft ys new) e (left_then _ _ new (left_change g refl n m mid a) b)

name_same : (which name : ℕ) (o : Option Object) → option_map_or (λ (x : Object). 1 + length (edges_of x)) (with_context (named_at which name) o) 0 ≡ option_map_or (λ (x : Object). 1 + length (edges_of x)) o 0
name_same which name (Some (Context c)) = refl
name_same which name o = refl

pub unbind_weighs : (os mid : List (Option Object)) (which name : ℕ) (n : ℕ) → mid ≡ change_context (named_at which name) n os → weight_of mid ≡ weight_of os
unfolding weight_of change_context
unbind_weighs os mid which name n e = rw e (elim (cases_lt n (length os)) [
  | inl l ↦ omega (arith, sum_by-set (λ o. option_map_or (λ (x : Object). 1 + length (edges_of x)) o 0) os n (with_context (named_at which name) (get_or os n None)) None l, name_same which name (get_or os n None))
  | inr l ↦ ap (sum_by (λ o. option_map_or (λ (x : Object). 1 + length (edges_of x)) o 0)) (set_past os n (with_context (named_at which name) (get_or os n None)) l)
])

-- ---- Then its name is freed.
pub freed_left : (k : NameKind) (os mid new : List (Option Object)) (g n name : ℕ) (x : Option ℕ) → IsLeft (unbound_in k n x os) mid → IsLeft (change_group (with_name_of k name None) g mid) new → IsLeft (freed k g n name x os) new
unfolding change_group
freed_left k os mid new g n name x a b = left_then _ _ new (left_change (with_group (with_name_of k name None)) refl g (unbound_in k n x os) mid a) b

-- an object is detached, and then unbound
pub unbound_left : (k : NameKind) (os mid new : List (Option Object)) (n x : ℕ) → IsLeft (detached_on (bound_framebuffer_in n os) x os) mid → IsLeft (change_context (unbound_object k x) n mid) new → IsLeft (unbound_in k n (Some x) os) new
unfolding change_context
unbound_left k os mid new n x a b = left_then _ _ new (left_change (with_context (unbound_object k x)) refl n (detached_on (bound_framebuffer_in n os) x os) mid a) b

-- what has the name in what is left has it in what was written, or the group is gone, and with it the context
left_detached : (b : Option ℕ) (x : ℕ) (w a : List (Option Object)) → IsLeft w a → IsLeft (detached_on b x w) (detached_on b x a)
unfolding change_framebuffer
left_detached None x w a is = is
left_detached (Some b) x w a is = left_change (with_framebuffer (detached_from x)) refl b w a is

left_unbound : (k : NameKind) (n : ℕ) (o : Option ℕ) (w a : List (Option Object)) → IsLeft w a → bound_framebuffer_in n a ≡ bound_framebuffer_in n w → IsLeft (unbound_in k n o w) (unbound_in k n o a)
unfolding change_context
left_unbound k n None w a is e = is
left_unbound k n (Some x) w a is e =
    left_change (with_context (unbound_object k x)) refl n (detached_on (bound_framebuffer_in n w) x w) (detached_on (bound_framebuffer_in n a) x a)
    (subst (λ b. IsLeft (detached_on (bound_framebuffer_in n w) x w) (detached_on b x a)) (sym e) (left_detached (bound_framebuffer_in n w) x w a is))

no_some : (o : Option ContextObject) → is_some o ≡ false → o ≡ None
no_some None h = refl
no_some (Some c) h = absurd (false≢true (sym h))

-- the context that is left has the same framebuffer bound
same_bound : (n : ℕ) (w a : List (Option Object)) → IsLeftWith n w a → bound_framebuffer_in n a ≡ bound_framebuffer_in n w
same_bound n w a is =
    let F : Option ContextObject → Option ℕ = option_and_then (λ c. c.bound.framebuffer) in
    elim (is.left.each n) [
      | inl q ↦ ap (λ o. F (as_context o)) q ∙ sym (ap F (no_some (as_context (get_or w n None)) (sym is.context ∙ ap (λ o. is_some (as_context o)) q)))
      | inr q ↦ ap (λ o. F (as_context o)) q
    ]

no_context : (k : NameKind) (x : ℕ) (o : Option Object) → as_context o ≡ None → with_context (unbound_object k x) o ≡ o
no_context k x (Some (Context c)) h = absurd (cc)
no_context k x o h = refl

left_gone : (k : NameKind) (n : ℕ) (o : Option ℕ) (w a : List (Option Object)) → IsLeft w a → as_context (get_or a n None) ≡ None → as_context (get_or w n None) ≡ None → IsLeft (unbound_in k n o w) a
unfolding change_context
left_gone k n None w a is h i = is
left_gone k n (Some x) w a is h i =
    let none : bound_framebuffer_in n w ≡ None = ap (λ (o : Option ContextObject). option_and_then (λ c. c.bound.framebuffer) o) i in
    subst (λ b. IsLeft (change_context (unbound_object k x) n (detached_on b x w)) a) (sym none)
    (left_set (with_context (unbound_object k x)) refl n w a is (elim (is.each n) [
      | inl q ↦ inl q
      | inr q ↦ inr (sym (no_context k x (get_or a n None) h) ∙ ap (with_context (unbound_object k x)) q)
    ]))

none_freed : (k : NameKind) (g n name : ℕ) (o : Option ℕ) (a : List (Option Object)) → o ≡ None → get_or a g None ≡ None → freed k g n name o a ≡ a
unfolding change_group
none_freed k g n name o a e h = rw e (ap (λ y. set a g (with_group (with_name_of k name None) y)) h ∙ ap (set a g) (sym h) ∙ set-get_or a g None)

context_group : (a : List (Option Object)) (g n : ℕ) (o : Option Object) → get_or a n None ≡ o → option_map_or (λ (c : ContextObject). c.group) (as_context o) g ≡ g → ((m : ℕ) (y : Object) → get_or a m None ≡ Some y → LeadsDown a y) → get_or a g None ≡ None → as_context o ≡ None
context_group a g n (Some (Context c)) e h down gone =
    let d = (down n (Context c) e c.group (let t = times_here c.group (filled (Some c.texture ∷ c.bound.texture ∷ c.bound.array_buffer ∷ c.bound.element_array_buffer ∷ c.bound.renderbuffer ∷ c.bound.framebuffer ∷ [])) in omega (arith, t))).0 in
    absurd (false≢true (sym (ap (λ k. is_some (get_or a k None)) h ∙ ap is_some gone) ∙ d))
context_group a g n None e h down gone = refl
context_group a g n (Some (Group v)) e h down gone = refl
context_group a g n (Some (Texture v)) e h down gone = refl
context_group a g n (Some (Buffer v)) e h down gone = refl
context_group a g n (Some (Renderbuffer v)) e h down gone = refl
context_group a g n (Some (Surface v)) e h down gone = refl
context_group a g n (Some (Storage v)) e h down gone = refl
context_group a g n (Some (Sync v)) e h down gone = refl
context_group a g n (Some (Framebuffer v)) e h down gone = refl
context_group a g n (Some (Image v)) e h down gone = refl

own_left : (g : ℕ) (w a : Option Object) → (a ≡ None) ⊎ (a ≡ w) → option_map_or (λ (c : ContextObject). c.group) (as_context w) g ≡ g → option_map_or (λ (c : ContextObject). c.group) (as_context a) g ≡ g
own_left g w a (inl e) h = rw e refl
own_left g w a (inr e) h = rw e h

-- ---- What is a context stays one, and the caller's stays.
kept_contexts : (f : Option Object → Option Object) → f None ≡ None → ((o : Option Object) → is_some (as_context (f o)) ≡ is_some (as_context o)) → (n : ℕ) (os : List (Option Object)) (m : ℕ) → is_some (as_context (get_or (set os n (f (get_or os n None))) m None)) ≡ is_some (as_context (get_or os m None))
kept_contexts f none k n os m = elim (cases_eq m n) [
  | inl e ↦ rw e (ap (λ o. is_some (as_context o)) (changed_at f none n os) ∙ k (get_or os n None))
  | inr ne ↦ ap (λ o. is_some (as_context o)) (get_or-set_other os n m (f (get_or os n None)) None ne)
]

context_stays : (f : ContextObject → ContextObject) (o : Option Object) → is_some (as_context (with_context f o)) ≡ is_some (as_context o)
context_stays f (Some (Context c)) = refl
context_stays f o = refl

group_stays : (f : GroupValue → GroupValue) (o : Option Object) → is_some (as_context (with_group f o)) ≡ is_some (as_context o)
group_stays f (Some (Group g)) = refl
group_stays f o = refl

framebuffer_stays : (f : FramebufferValue → FramebufferValue) (o : Option Object) → is_some (as_context (with_framebuffer f o)) ≡ is_some (as_context o)
framebuffer_stays f (Some (Framebuffer v)) = refl
framebuffer_stays f o = refl

detached_contexts : (b : Option ℕ) (x : ℕ) (os : List (Option Object)) (m : ℕ) → is_some (as_context (get_or (detached_on b x os) m None)) ≡ is_some (as_context (get_or os m None))
unfolding change_framebuffer
detached_contexts None x os m = refl
detached_contexts (Some b) x os m = kept_contexts (with_framebuffer (detached_from x)) refl (framebuffer_stays (detached_from x)) b os m

unbound_contexts : (k : NameKind) (n : ℕ) (o : Option ℕ) (os : List (Option Object)) (m : ℕ) → is_some (as_context (get_or (unbound_in k n o os) m None)) ≡ is_some (as_context (get_or os m None))
unfolding change_context
unbound_contexts k n None os m = refl
unbound_contexts k n (Some x) os m = kept_contexts (with_context (unbound_object k x)) refl (context_stays (unbound_object k x)) n (detached_on (bound_framebuffer_in n os) x os) m ∙ detached_contexts (bound_framebuffer_in n os) x os m

freed_contexts : (k : NameKind) (g n name : ℕ) (o : Option ℕ) (os : List (Option Object)) (m : ℕ) → is_some (as_context (get_or (freed k g n name o os) m None)) ≡ is_some (as_context (get_or os m None))
unfolding change_group
freed_contexts k g n name o os m = kept_contexts (with_group (with_name_of k name None)) refl (group_stays (with_name_of k name None)) g (unbound_in k n o os) m ∙ unbound_contexts k n o os m

-- contexts are held in what was there, and what is held is there still
stays : (k : NameKind) (g n name : ℕ) (o : Option ℕ) (a new : List (Option Object)) (before now : List ℕ) → IsLeft (freed k g n name o a) new → now ≡ before → ((m : ℕ) → is_some (as_context (get_or a m None)) ≡ true → 0 < get_or before m 0) → ((m : ℕ) → 0 < get_or now m 0 → IsSome (get_or new m None)) → is_some (as_context (get_or new n None)) ≡ is_some (as_context (get_or a n None))
stays k g n name o a new before now l e held exist = elim (l.each n) [
  | inr q ↦ ap (λ y. is_some (as_context y)) q ∙ freed_contexts k g n name o a n
  | inl q ↦ elim (cases_Bool (is_some (as_context (get_or a n None)))) [
    | inl there ↦ absurd (false≢true (sym (ap is_some q) ∙ exist n (subst (λ hs. 0 < get_or hs n 0) (sym e) (held n there))))
    | inr gone ↦ ap (λ y. is_some (as_context y)) q ∙ sym gone
  ]
]

left_freed : (k : NameKind) (w a new : List (Option Object)) (g n name : ℕ) → ((m : ℕ) (y : Object) → get_or a m None ≡ Some y → LeadsDown a y) → IsLeft (freed k g n name (object_of name (option_map_or (names_of k) (as_group (get_or a g None)) [])) a) new → IsLeftWith n w a → option_map_or (λ (c : ContextObject). c.group) (as_context (get_or w n None)) g ≡ g → IsLeft (freed k g n name (object_of name (option_map_or (names_of k) (as_group (get_or w g None)) [])) w) new
unfolding change_group
left_freed k w a new g n name down l is own =
    let named : Option Object → Option ℕ = λ o. object_of name (option_map_or (names_of k) (as_group o) []) in
    elim (is.left.each g) [
      | inl e ↦
          let none : as_context (get_or a n None) ≡ None = context_group a g n (get_or a n None) refl (own_left g (get_or w n None) (get_or a n None) (is.left.each n) own) down e in
          let none2 : as_context (get_or w n None) ≡ None = no_some (as_context (get_or w n None)) (sym is.context ∙ ap is_some none) in
          let still : freed k g n name (named (get_or a g None)) a ≡ a = none_freed k g n name (named (get_or a g None)) a (ap named e) e in
          let here : IsLeft (freed k g n name (named (get_or w g None)) w) a = left_set (with_group (with_name_of k name None)) refl g (unbound_in k n (named (get_or w g None)) w) a (left_gone k n (named (get_or w g None)) w a is.left none none2) (inl e) in
          left_then _ a new here (subst (λ ys. IsLeft ys new) still l)
      | inr e ↦
          let both : IsLeft (freed k g n name (named (get_or w g None)) w) (freed k g n name (named (get_or w g None)) a) = left_change (with_group (with_name_of k name None)) refl g (unbound_in k n (named (get_or w g None)) w) (unbound_in k n (named (get_or w g None)) a) (left_unbound k n (named (get_or w g None)) w a is.left (same_bound n w a is)) in
          left_then _ _ new both (subst (λ o. IsLeft (freed k g n name (named o) a) new) e l)
    ]

pub delete_left : (k : NameKind) (w a new : List (Option Object)) (before now : List ℕ) (g n name : ℕ) → ((m : ℕ) (y : Object) → get_or a m None ≡ Some y → LeadsDown a y) → ((m : ℕ) → is_some (as_context (get_or a m None)) ≡ true → 0 < get_or before m 0) → ((m : ℕ) → 0 < get_or now m 0 → IsSome (get_or new m None)) → now ≡ before → IsLeft (freed k g n name (object_of name (option_map_or (names_of k) (as_group (get_or a g None)) [])) a) new → IsLeftWith n w a → option_map_or (λ (c : ContextObject). c.group) (as_context (get_or w n None)) g ≡ g → IsLeftWith n (freed k g n name (object_of name (option_map_or (names_of k) (as_group (get_or w g None)) [])) w) new
delete_left k w a new before now g n name down held exist same l is own =
    let named : Option Object → Option ℕ = λ o. object_of name (option_map_or (names_of k) (as_group o) []) in
    record {
      left = left_freed k w a new g n name down l is own;
      context = stays k g n name (named (get_or a g None)) a new before now l same held exist ∙ is.context ∙ sym (freed_contexts k g n name (named (get_or w g None)) w n);
    }
