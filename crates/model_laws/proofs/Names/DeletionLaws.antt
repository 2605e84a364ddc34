-- Where a name is deleted, its object is unbound from the caller's context, and other contexts keep what they have.
use Rattle.std.proofs.Common.{◌≡◌, ◌≢◌, ℕ, zero, suc, ◌<◌, ◌==◌, arith, ℤ, Bool, true, false, inl, inr, List, [], ◌∷◌, length, get_or, refl, sym, ap, subst, ◌∙◌, Option, None, Some}
use Rattle.std.specs.Prelude.{Contains, IfSome, if◌then◌else◌}
use Rattle.std.proofs.lemmas.Bool.{cases_eq, cond_both, eq-eqb, false≢true}
use Rattle.std.proofs.lemmas.List.{get_or-set_other}
use Rattle.std.proofs.lemmas.Option.{none-some}
use Rattle.egl_calls.specs.Calls.{CallValue}
use Rattle.egl_calls.specs.Ranges.{unsigned}
use Rattle.egl_calls.specs.declared.kinds.GlKind.{GlKind}
use Rattle.call_table.specs.Rows.{gl_role}
use Rattle.call_table.specs.declared.roles.Role.TheVariants.{Deletes}
use Rattle.driver_objects.specs.Links.{bound_in}
use Rattle.driver_objects.specs.Targets.{binding_of, slot_of}
use Rattle.driver_objects.specs.declared.contexts.Context.{Context as ContextObject}
use Rattle.driver_objects.specs.declared.objects.Object.{Object}
use Rattle.driver_objects.specs.declared.objects.Object.TheVariants.{Context, Framebuffer, Group}
use Rattle.driver_objects.specs.declared.targets.BindTarget.{BindTarget}
use Rattle.driver_objects.specs.declared.targets.BindTarget.TheVariants.{Texture as TextureTarget, ArrayBuffer, ElementArrayBuffer, Renderbuffer as RenderbufferTarget, Framebuffer as FramebufferTarget}
use Rattle.framebuffer_objects.specs.Framebuffers.{FramebufferValue}
use Rattle.share_group.specs.Groups.{GroupValue}
use Rattle.share_group.specs.Names.{object_of}
use Rattle.share_group.specs.declared.names.NameKind.{NameKind}
use Rattle.share_group.specs.declared.names.NameKind.TheVariants.{Texture as textures, Buffer as buffers, Renderbuffer as renderbuffers, Framebuffer as framebuffers}
use Rattle.share_group.proofs.FreeLaws.{frees_one}
use Rattle.model_laws.specs.Deleted.{HasUnbound}
use Rattle.model_laws.specs.Laws.{IsAllowedGl}
use Rattle.egl_model.specs.Bindings.{bound_at, bound_framebuffer_in, deleted_in, deleted_name, deleted_names, detached_from, detached_on, named_at, unbound_at, unbound_in, unbound_object}
use Rattle.egl_model.specs.Names.{group_of, object_named, with_name_of}
use Rattle.egl_model.specs.Objects.{as_context, change_context, change_framebuffer, change_group, context_in, with_context, with_framebuffer, with_group}
use Rattle.egl_model.specs.Parts.{is_place}
use Rattle.egl_model.specs.State.{State, object_at}
use Rattle.egl_model.specs.Step.{step}
use Rattle.egl_model.specs.Sweep.{sweep, roots}
use Rattle.model_laws.proofs.Names.NameLaws.{deletion_done, names_at, names_deleted}
use Rattle.model_laws.proofs.References.Places.{same_at_set}
use Rattle.model_laws.proofs.Pixels.TextureLaws.{changed_at, swept_same}

-- ---- Other contexts.
group_context : (f : GroupValue → GroupValue) (o : Option Object) → as_context (with_group f o) ≡ as_context o
group_context f (Some (Group g)) = refl
group_context f o = refl

pub freed_context : (k : NameKind) (g m name : ℕ) (os : List (Option Object)) → context_in (change_group (with_name_of k name None) g os) m ≡ context_in os m
unfolding change_group
freed_context k g m name os = same_at_set as_context os g (with_group (with_name_of k name None) (get_or os g None)) None (group_context (with_name_of k name None) (get_or os g None)) m

framebuffer_context : (f : FramebufferValue → FramebufferValue) (o : Option Object) → as_context (with_framebuffer f o) ≡ as_context o
framebuffer_context f (Some (Framebuffer x)) = refl
framebuffer_context f o = refl

pub detached_context : (b : Option ℕ) (x m : ℕ) (os : List (Option Object)) → context_in (detached_on b x os) m ≡ context_in os m
unfolding change_framebuffer
detached_context None x m os = refl
detached_context (Some b) x m os = same_at_set as_context os b (with_framebuffer (detached_from x) (get_or os b None)) None (framebuffer_context (detached_from x) (get_or os b None)) m

unbound_elsewhere : (k : NameKind) (n m : ℕ) (o : Option ℕ) (os : List (Option Object)) → m ≢ n → context_in (unbound_in k n o os) m ≡ context_in os m
unfolding change_context
unbound_elsewhere k n m None os ne = refl
unbound_elsewhere k n m (Some x) os ne =
    let ps = detached_on (bound_framebuffer_in n os) x os in
    ap as_context (get_or-set_other ps n m (with_context (unbound_object k x) (get_or ps n None)) None ne) ∙ detached_context (bound_framebuffer_in n os) x m os

kept_elsewhere : (k : NameKind) (g n m : ℕ) (xs : List ℤ) (s : State) → m ≢ n → context_in (deleted_in k g n xs s).objects m ≡ context_in s.objects m
kept_elsewhere k g n m [] s ne = refl
kept_elsewhere k g n m (x ∷ xs) s ne =
    let o = object_named s g k (unsigned x) in
    kept_elsewhere k g n m xs (deleted_name k g n (unsigned x) s) ne ∙ freed_context k g m (unsigned x) (unbound_in k n o s.objects) ∙ unbound_elsewhere k n m o s.objects ne

still_there : (s a : State) (m : ℕ) (y : ContextObject) → context_in a.objects m ≡ context_in s.objects m → context_in (sweep a).objects m ≡ Some y → context_in s.objects m ≡ Some y
still_there s a m y e h = elim (swept_same (roots a) a.objects m) [
  | inl gone ↦ absurd (none-some y (sym (ap as_context gone) ∙ h))
  | inr same ↦ sym e ∙ sym (ap as_context same) ∙ h
]

elsewhere : (k : NameKind) (s : State) (n m : ℕ) (xs : List ℤ) (y : ContextObject) → m ≢ n → context_in (sweep (deleted_names k s n xs)).objects m ≡ Some y → context_in s.objects m ≡ Some y
elsewhere k s n m xs y ne h = still_there s (deleted_names k s n xs) m y (kept_elsewhere k (group_of s n) n m xs s ne) h

pub others_stay : (s : State) (t n m : ℕ) (k : GlKind) (names : NameKind) (c : CallValue) (y : ContextObject) → gl_role k ≡ Deletes names → IsAllowedGl s t n k c → m ≢ n → context_in (step s t c).state.objects m ≡ Some y → context_in s.objects m ≡ Some y
others_stay s t n m k names c y e a ne h = elsewhere names s n m c.list y ne (subst (λ (z : State). context_in z.objects m ≡ Some y) (deletion_done s t n k names c e a) h)

-- ---- The caller's context.
NotAt : BindTarget → ℕ → ContextObject → Type 0
NotAt b x c = bound_in (slot_of b) c.bound ≢ Some x

none_at : (b : BindTarget) (x : ℕ) (c : ContextObject) → NotAt b x (bound_at (slot_of b) None c)
unfolding NotAt
none_at TextureTarget x c h = none-some x h
none_at ArrayBuffer x c h = none-some x h
none_at ElementArrayBuffer x c h = none-some x h
none_at RenderbufferTarget x c h = none-some x h
none_at FramebufferTarget x c h = none-some x h

pub no_place : (x : ℕ) (o : Option ℕ) → is_place x o ≡ false → o ≢ Some x
no_place x o e h = false≢true (sym e ∙ ap (is_place x) h ∙ eq-eqb x x refl)

unbound_here : (b : BindTarget) (x : ℕ) (c : ContextObject) → NotAt b x (unbound_at b x c)
unfolding NotAt
unbound_here b x c = cond_both (is_place x (bound_in (slot_of b) c.bound)) (bound_at (slot_of b) None (named_at (binding_of b) 0 c)) c (λ (d : ContextObject). NotAt b x d)
    (λ e. none_at b x (named_at (binding_of b) 0 c)) (λ e. no_place x (bound_in (slot_of b) c.bound) e)

-- a slot that is emptied, if it is this one, has nothing that it hadn't
emptied : (b : Bool) (o : Option ℕ) (x : ℕ) → o ≢ Some x → (if b then None else o) ≢ Some x
emptied true o x h e = none-some x e
emptied false o x h e = h e

less_at : (a b : BindTarget) (x : ℕ) (c : ContextObject) → NotAt b x c → NotAt b x (bound_at (slot_of a) None c)
unfolding NotAt
less_at a TextureTarget x c h = emptied (slot_of a == 2) c.bound.texture x h
less_at a ArrayBuffer x c h = emptied (slot_of a == 3) c.bound.array_buffer x h
less_at a ElementArrayBuffer x c h = emptied (slot_of a == 4) c.bound.element_array_buffer x h
less_at a RenderbufferTarget x c h = emptied (slot_of a == 5) c.bound.renderbuffer x h
less_at a FramebufferTarget x c h = emptied (slot_of a == 6) c.bound.framebuffer x h

still_not : (a b : BindTarget) (z x : ℕ) (c : ContextObject) → NotAt b x c → NotAt b x (unbound_at a z c)
unfolding NotAt
still_not a b z x c h = cond_both (is_place z (bound_in (slot_of a) c.bound)) (bound_at (slot_of a) None (named_at (binding_of a) 0 c)) c (λ (d : ContextObject). NotAt b x d)
    (λ e. less_at a b x (named_at (binding_of a) 0 c) h) (λ e. h)

unbound_of : (k : NameKind) (x : ℕ) (c : ContextObject) → HasUnbound k x (unbound_object k x c)
unfolding NotAt
unbound_of textures x c = unbound_here TextureTarget x c
unbound_of buffers x c = (still_not ElementArrayBuffer ArrayBuffer x x (unbound_at ArrayBuffer x c) (unbound_here ArrayBuffer x c), unbound_here ElementArrayBuffer x (unbound_at ArrayBuffer x c))
unbound_of renderbuffers x c = unbound_here RenderbufferTarget x c
unbound_of framebuffers x c = unbound_here FramebufferTarget x c

still_of : (k : NameKind) (z x : ℕ) (c : ContextObject) → HasUnbound k x c → HasUnbound k x (unbound_object k z c)
unfolding NotAt
still_of textures z x c h = still_not TextureTarget TextureTarget z x c h
still_of buffers z x c h = let d = unbound_at ArrayBuffer z c in
    (still_not ElementArrayBuffer ArrayBuffer z x d (still_not ArrayBuffer ArrayBuffer z x c h.0), still_not ElementArrayBuffer ElementArrayBuffer z x d (still_not ArrayBuffer ElementArrayBuffer z x c h.1))
still_of renderbuffers z x c h = still_not RenderbufferTarget RenderbufferTarget z x c h
still_of framebuffers z x c h = still_not FramebufferTarget FramebufferTarget z x c h

-- a context, if it is one, has the object unbound
abbrev IsUnbound : NameKind → ℕ → Option Object → Type 0
IsUnbound k x o = IfSome (as_context o) (HasUnbound k x)

made_unbound : (k : NameKind) (x : ℕ) (o : Option Object) → IsUnbound k x (with_context (unbound_object k x) o)
made_unbound k x (Some (Context c)) = unbound_of k x c
made_unbound k x o = tt

kept_unbound : (k : NameKind) (z x : ℕ) (o : Option Object) → IsUnbound k x o → IsUnbound k x (with_context (unbound_object k z) o)
kept_unbound k z x (Some (Context c)) h = still_of k z x c h
kept_unbound k z x o h = tt

first_unbound : (k : NameKind) (n x : ℕ) (os : List (Option Object)) → IfSome (context_in (unbound_in k n (Some x) os) n) (HasUnbound k x)
unfolding change_context
first_unbound k n x os =
    let ps = detached_on (bound_framebuffer_in n os) x os in
    subst (IsUnbound k x) (sym (changed_at (with_context (unbound_object k x)) refl n ps)) (made_unbound k x (get_or ps n None))

later_unbound : (k : NameKind) (n x : ℕ) (o : Option ℕ) (os : List (Option Object)) → IfSome (context_in os n) (HasUnbound k x) → IfSome (context_in (unbound_in k n o os) n) (HasUnbound k x)
unfolding change_context
later_unbound k n x None os h = h
later_unbound k n x (Some z) os h =
    let ps = detached_on (bound_framebuffer_in n os) z os in
    subst (IsUnbound k x) (sym (changed_at (with_context (unbound_object k z)) refl n ps)) (kept_unbound k z x (get_or ps n None) (subst (λ c. IfSome c (HasUnbound k x)) (sym (detached_context (bound_framebuffer_in n os) z n os)) h))

name_later : (k : NameKind) (g n name x : ℕ) (s : State) → IfSome (context_in s.objects n) (HasUnbound k x) → IfSome (context_in (deleted_name k g n name s).objects n) (HasUnbound k x)
name_later k g n name x s h =
    let o = object_named s g k name in
    subst (λ c. IfSome c (HasUnbound k x)) (sym (freed_context k g n name (unbound_in k n o s.objects))) (later_unbound k n x o s.objects h)

name_first : (k : NameKind) (g n name x : ℕ) (s : State) → object_named s g k name ≡ Some x → IfSome (context_in (deleted_name k g n name s).objects n) (HasUnbound k x)
name_first k g n name x s e =
    let o = object_named s g k name in
    subst (λ c. IfSome c (HasUnbound k x)) (sym (freed_context k g n name (unbound_in k n o s.objects))) (subst (λ p. IfSome (context_in (unbound_in k n p s.objects) n) (HasUnbound k x)) (sym e) (first_unbound k n x s.objects))

all_later : (k : NameKind) (g n x : ℕ) (xs : List ℤ) (s : State) → IfSome (context_in s.objects n) (HasUnbound k x) → IfSome (context_in (deleted_in k g n xs s).objects n) (HasUnbound k x)
all_later k g n x [] s h = h
all_later k g n x (z ∷ xs) s h = all_later k g n x xs (deleted_name k g n (unsigned z) s) (name_later k g n (unsigned z) x s h)

-- another name keeps its object
pub other_name : (k : NameKind) (g n name other : ℕ) (s : State) → other ≢ name → object_named (deleted_name k g n name s) g k other ≡ object_named s g k other
unfolding names_at
other_name k g n name other s ne = ap (object_of other) (names_deleted k g n name s) ∙ ((frees_one name (names_at k (object_at s g))).others other ne).1

each_unbound : (k : NameKind) (g n i x : ℕ) (v : ℤ) (xs : List ℤ) (s : State) → i < length xs → get_or xs i v ≡ v → object_named s g k (unsigned v) ≡ Some x → IfSome (context_in (deleted_in k g n xs s).objects n) (HasUnbound k x)
each_unbound k g n i x v [] s l e h = absurd (omega arith)
each_unbound k g n zero x v (z ∷ zs) s l e h = all_later k g n x zs (deleted_name k g n (unsigned z) s) (name_first k g n (unsigned z) x s (ap (λ y. object_named s g k (unsigned y)) e ∙ h))
each_unbound k g n (suc i) x v (z ∷ zs) s l e h = elim (cases_eq (unsigned v) (unsigned z)) [
  | inl q ↦ all_later k g n x zs (deleted_name k g n (unsigned z) s) (name_first k g n (unsigned z) x s (ap (λ y. object_named s g k y) (sym q) ∙ h))
  | inr ne ↦ each_unbound k g n i x v zs (deleted_name k g n (unsigned z) s) (omega (arith, l)) e (other_name k g n (unsigned z) (unsigned v) s ne ∙ h)
]

swept_unbound : (k : NameKind) (n x : ℕ) (a : State) → IfSome (context_in a.objects n) (HasUnbound k x) → IfSome (context_in (sweep a).objects n) (HasUnbound k x)
swept_unbound k n x a h = elim (swept_same (roots a) a.objects n) [
  | inl gone ↦ subst (IsUnbound k x) (sym gone) tt
  | inr same ↦ subst (IsUnbound k x) (sym same) h
]

pub deleted_is_unbound : (s : State) (t n x : ℕ) (k : GlKind) (names : NameKind) (c : CallValue) (v : ℤ) → gl_role k ≡ Deletes names → IsAllowedGl s t n k c → Contains c.list v → object_named s (group_of s n) names (unsigned v) ≡ Some x → IfSome (context_in (step s t c).state.objects n) (HasUnbound names x)
deleted_is_unbound s t n x k names c v e a i h = subst (λ (z : State). IfSome (context_in z.objects n) (HasUnbound names x)) (sym (deletion_done s t n k names c e a)) (swept_unbound names n x (deleted_names names s n c.list) (each_unbound names (group_of s n) n i.0 x v c.list s i.1 i.2 h))
