-- What the calls on names keep: to generate, to bind and to delete them, of any kind.
use Rattle.std.proofs.Common.{◌≡◌, ℕ, ◌==◌, ℤ, List, [], ◌∷◌, ◌++◌, refl, ap, arith, length, Option, None, Some}
use Rattle.std.specs.Option.{option_and_then, option_map, option_map_or}
use Rattle.egl_calls.specs.Ranges.{unsigned}
use Rattle.driver_objects.specs.Objects.{kind_of}
use Rattle.driver_objects.specs.Targets.{binding_of, name_kind, slot_of}
use Rattle.driver_objects.specs.declared.targets.BindTarget.{BindTarget}
use Rattle.driver_objects.specs.declared.targets.BindTarget.TheVariants.{Texture as TextureTarget, ArrayBuffer, ElementArrayBuffer, Renderbuffer as RenderbufferTarget, Framebuffer as FramebufferTarget}
use Rattle.driver_objects.specs.declared.objects.Object.{Object}
use Rattle.driver_objects.specs.declared.objects.Object.TheVariants.{Context, Storage}
use Rattle.share_group.specs.Groups.{names_of}
use Rattle.share_group.specs.Names.{object_of}
use Rattle.share_group.specs.declared.names.NameKind.{NameKind}
use Rattle.egl_model.specs.Bindings.{bound_anew, bound_at, bound_framebuffer_in, bound_name, bound_named, bound_object, deleted_in, deleted_name, deleted_names, detached_from, detached_on, freed, named_at, new_object, unbound_object}
use Rattle.egl_model.specs.Currents.{current_context}
use Rattle.egl_model.specs.Names.{generated, group_of, kind_named, names_in, object_named, with_more, with_name_of}
use Rattle.egl_model.specs.Objects.{as_group, change_context, change_framebuffer, change_group, with_context, with_framebuffer, with_group}
use Rattle.surface_store.specs.Windows.{WindowValue}
use Rattle.egl_model.specs.State.{State, object_at}
use Rattle.egl_model.specs.Sweep.{live_bytes}
use Rattle.model_laws.specs.Extents.{quiet}
use Rattle.model_laws.specs.Full.{Full}
use Rattle.model_laws.specs.Shapes.{Goes, Leads, Shape, shapes, slots_in}
use Rattle.model_laws.specs.Sound.{IsWhole}
use Rattle.model_laws.proofs.Steps.Blinds.{alone_with, blind-context, blind-length, blind-object}
use Rattle.model_laws.proofs.Changes.Keeps.{Acts, Blind, acts_cond, acts_of, acts_self, acts_then, by_quiet_moves}
use Rattle.model_laws.proofs.Changes.LinkSetters.{goes_name, setter-bound, setter-framebuffer, setter-group, setter-named, setter-unbound, suits-bound, suits-detached, suits-more, suits-name, suits-named, suits-unbound}
use Rattle.model_laws.proofs.Changes.Moves.{Add, Change, IsStored}
use Rattle.model_laws.proofs.Changes.NewObjects.{leads-new_texture, stored-new_texture, without_pixels}
use Rattle.model_laws.proofs.References.Places.{new_kind}
use Rattle.model_laws.proofs.Changes.Writes.{IsBlind}

-- ---- What the calls look at.
group-blind : IsBlind as_group
group-blind (Some (Context c)) = refl
group-blind (Some (Storage v)) = refl
group-blind o = refl

pub blind-group_of : (t n : ℕ) (s : State) → Blind t s (λ a. group_of a n)
blind-group_of t n s = blind-context (λ o. option_map_or (λ x. x.group) o 0) (λ c x. refl) t n s

pub blind-named : (t g : ℕ) (k : NameKind) (name : ℕ) (s : State) → Blind t s (λ a. object_named a g k name)
blind-named t g k name s = blind-object (λ o. object_of name (option_map_or (names_of k) (as_group o) [])) (λ o. ap (λ x. object_of name (option_map_or (names_of k) x [])) (group-blind o)) t g s

pub blind-names : (t g : ℕ) (k : NameKind) (s : State) → Blind t s (λ a. names_in a g k)
blind-names t g k s = blind-object (λ o. option_map_or (names_of k) (as_group o) []) (λ o. ap (λ x. option_map_or (names_of k) x []) (group-blind o)) t g s

-- ---- glGenTextures and its kin.
acts-more : (s : State) (t g : ℕ) (k : NameKind) (count : ℕ) → Acts quiet t s (λ a. record a { objects = change_group (with_more k count) g a.objects })
unfolding change_group
acts-more s t g k count = by_quiet_moves t s (Change g (with_group (with_more k count)) ∷ []) refl (setter-group (with_more k count), tt) (λ w. (suits-more t (shapes s.objects) s g k count, tt))

pub acts-generated : (s : State) (t n : ℕ) (k : NameKind) (count : ℕ) → Acts quiet t s (λ a. (generated a (group_of a n) k count).state)
acts-generated s t n k count = acts_of quiet t s (λ a. group_of a n) (λ g a. record a { objects = change_group (with_more k count) g a.objects }) (blind-group_of t n s) (acts-more s t (group_of s n) k count)

-- ---- What a name gets that has no object: it refers to nothing and has no bytes.
kind-new : (b : BindTarget) → option_map kind_of (Some (new_object b)) ≡ Some (kind_named (name_kind b))
kind-new TextureTarget = refl
kind-new ArrayBuffer = refl
kind-new ElementArrayBuffer = refl
kind-new RenderbufferTarget = refl
kind-new FramebufferTarget = refl

full-new : (b : BindTarget) → Full (Some (new_object b))
full-new TextureTarget = tt
full-new ArrayBuffer = tt
full-new ElementArrayBuffer = tt
full-new RenderbufferTarget = tt
full-new FramebufferTarget = tt

bytes-new : (b : BindTarget) → live_bytes (Some (new_object b) ∷ []) ≡ 0
unfolding live_bytes
bytes-new TextureTarget = refl
bytes-new ArrayBuffer = refl
bytes-new ElementArrayBuffer = refl
bytes-new RenderbufferTarget = refl
bytes-new FramebufferTarget = refl

leads-new : (sh : List (Option Shape)) (b : BindTarget) → Leads sh (slots_in (Some (new_object b)))
leads-new sh TextureTarget = leads-new_texture sh
leads-new sh ArrayBuffer = tt
leads-new sh ElementArrayBuffer = tt
leads-new sh RenderbufferTarget = (tt, tt)
leads-new sh FramebufferTarget = (tt, (tt, (tt, tt)))

stored-new : {ws : List WindowValue} (sh : List (Option Shape)) (place : ℕ) (b : BindTarget) → IsStored sh ws place (Some (new_object b))
stored-new sh place TextureTarget = stored-new_texture sh place
stored-new sh place ArrayBuffer = without_pixels sh place _ refl refl
stored-new sh place ElementArrayBuffer = without_pixels sh place _ refl refl
stored-new sh place RenderbufferTarget = without_pixels sh place _ refl refl
stored-new sh place FramebufferTarget = without_pixels sh place _ refl refl

-- ---- glBindTexture and its kin.
acts-bound : (s : State) (t n : ℕ) (b : BindTarget) (o : Option ℕ) (name : ℕ) → current_context s t ≡ Some n → (IsWhole (shapes s.objects) s → Goes (shapes s.objects) (kind_named (name_kind b)) o) → Acts quiet t s (λ a. record a { objects = bound_object b n o name a.objects })
unfolding change_context
acts-bound s t n b o name i g = by_quiet_moves t s (Change n (with_context (named_at (binding_of b) name)) ∷ Change n (with_context (bound_at (slot_of b) o)) ∷ []) refl (setter-named (binding_of b) name, (setter-bound (slot_of b) o, tt))
    (λ w. (suits-named t (shapes s.objects) s n (binding_of b) name (alone_with s t n i w), λ v. (suits-bound t (shapes s.objects) _ n b o (g w), tt)))

acts-anew : (s : State) (t g n : ℕ) (b : BindTarget) (name : ℕ) → current_context s t ≡ Some n → Acts quiet t s (λ a. record a { objects = bound_anew b g n name a.objects })
unfolding change_context change_group
acts-anew s t g n b name i =
    let m = length s.objects in let new = Some (new_object b) ∷ [] in let sh = shapes s.objects ++ shapes new in
    acts_of quiet t s (λ a. length a.objects) (λ m a. record a { objects = bound_object b n (Some m) name (change_group (with_name_of (name_kind b) name (Some m)) g (a.objects ++ Some (new_object b) ∷ [])) }) (blind-length t s)
    (by_quiet_moves t s (Add new ∷ Change g (with_group (with_name_of (name_kind b) name (Some m))) ∷ Change n (with_context (named_at (binding_of b) name)) ∷ Change n (with_context (bound_at (slot_of b) (Some m))) ∷ [])
    (let e = bytes-new b in omega (arith, e))
    ((full-new b, tt), (setter-group (with_name_of (name_kind b) name (Some m)), (setter-named (binding_of b) name, (setter-bound (slot_of b) (Some m), tt))))
    (λ w. let made = new_kind s.objects new 0 m (kind_named (name_kind b)) (omega arith) (kind-new b) in (
      (leads-new sh b, stored-new sh _ b, tt),
      λ u. (suits-name t sh _ g (name_kind b) name (Some m) made, λ v. (suits-named t sh _ n (binding_of b) name (alone_with s t n i w), λ x. (suits-bound t sh _ n b (Some m) made, tt))),
    )))

acts-named : (s : State) (t g n : ℕ) (b : BindTarget) (name : ℕ) (o : Option ℕ) → current_context s t ≡ Some n → (IsWhole (shapes s.objects) s → Goes (shapes s.objects) (kind_named (name_kind b)) o) → Acts quiet t s (λ a. bound_named b g n name o a)
acts-named s t g n b name (Some x) i e = acts-bound s t n b (Some x) name i e
acts-named s t g n b name None i e = acts-anew s t g n b name i

pub acts-bound_name : (s : State) (t n : ℕ) (b : BindTarget) (name : ℕ) → current_context s t ≡ Some n → Acts quiet t s (λ a. bound_name b a n name)
acts-bound_name s t n b name i = acts_cond quiet t s (name == 0) (λ a. record a { objects = bound_object b n None 0 a.objects }) (λ a. bound_named b (group_of a n) n name (object_named a (group_of a n) (name_kind b) name) a)
    (λ e. acts-bound s t n b None 0 i (λ w. tt))
    (λ e. let g = group_of s n in let k = name_kind b in
    acts_of quiet t s (λ a. group_of a n) (λ g a. bound_named b g n name (object_named a g k name) a) (blind-group_of t n s)
    (acts_of quiet t s (λ a. object_named a g k name) (λ o a. bound_named b g n name o a) (blind-named t g k name s)
    (acts-named s t g n b name (object_named s g k name) i (λ w. goes_name (shapes s.objects) (object_at s g) k name (w.kinds.objects g)))))

-- ---- glDeleteTextures and its kin.
blind-bound_in : (t n : ℕ) (s : State) → Blind t s (λ a. bound_framebuffer_in n a.objects)
blind-bound_in t n s = blind-context (λ o. option_and_then (λ x. x.bound.framebuffer) o) (λ x p. refl) t n s

-- an object is detached from a framebuffer, unbound from a context, and its name is freed
abbrev let_go : NameKind → ℕ → ℕ → ℕ → ℕ → Option ℕ → List (Option Object) → List (Option Object)
let_go k g n name x b os = change_group (with_name_of k name None) g (change_context (unbound_object k x) n (detached_on b x os))

acts-let_go : (s : State) (t g n : ℕ) (k : NameKind) (name x : ℕ) (b : Option ℕ) → current_context s t ≡ Some n → Acts quiet t s (λ a. record a { objects = let_go k g n name x b a.objects })
unfolding change_context change_framebuffer change_group
acts-let_go s t g n k name x None i = by_quiet_moves t s (Change n (with_context (unbound_object k x)) ∷ Change g (with_group (with_name_of k name None)) ∷ []) refl (setter-unbound k x, (setter-group _, tt))
    (λ w. (suits-unbound t (shapes s.objects) s n k x (alone_with s t n i w), λ v. (suits-name t (shapes s.objects) _ g k name None tt, tt)))
acts-let_go s t g n k name x (Some b) i = by_quiet_moves t s (Change b (with_framebuffer (detached_from x)) ∷ Change n (with_context (unbound_object k x)) ∷ Change g (with_group (with_name_of k name None)) ∷ []) refl (setter-framebuffer (detached_from x), (setter-unbound k x, (setter-group _, tt)))
    (λ w. (suits-detached t (shapes s.objects) s b x, λ u. (suits-unbound t (shapes s.objects) _ n k x (alone_with s t n i w), λ v. (suits-name t (shapes s.objects) _ g k name None tt, tt))))

acts-freed : (s : State) (t g n : ℕ) (k : NameKind) (name : ℕ) (o : Option ℕ) → current_context s t ≡ Some n → Acts quiet t s (λ a. record a { objects = freed k g n name o a.objects })
unfolding change_context change_group
acts-freed s t g n k name None i = by_quiet_moves t s (Change g (with_group (with_name_of k name None)) ∷ []) refl (setter-group _, tt) (λ w. (suits-name t (shapes s.objects) s g k name None tt, tt))
acts-freed s t g n k name (Some x) i = acts_of quiet t s (λ a. bound_framebuffer_in n a.objects) (λ b a. record a { objects = let_go k g n name x b a.objects }) (blind-bound_in t n s) (acts-let_go s t g n k name x (bound_framebuffer_in n s.objects) i)

acts-deleted : (s : State) (t g n : ℕ) (k : NameKind) (name : ℕ) → current_context s t ≡ Some n → Acts quiet t s (λ a. deleted_name k g n name a)
acts-deleted s t g n k name i = acts_of quiet t s (λ a. object_named a g k name) (λ o a. record a { objects = freed k g n name o a.objects }) (blind-named t g k name s) (acts-freed s t g n k name (object_named s g k name) i)

acts-deleted_in : (t g n : ℕ) (k : NameKind) (xs : List ℤ) (s : State) → current_context s t ≡ Some n → Acts quiet t s (λ a. deleted_in k g n xs a)
acts-deleted_in t g n k [] s i = acts_self t s
acts-deleted_in t g n k (x ∷ xs) s i = acts_then quiet t s (λ a. deleted_name k g n (unsigned x) a) (λ a. deleted_in k g n xs a) (acts-deleted s t g n k (unsigned x) i) (acts-deleted_in t g n k xs (deleted_name k g n (unsigned x) s) i)

pub acts-delete : (s : State) (t n : ℕ) (k : NameKind) (xs : List ℤ) → current_context s t ≡ Some n → Acts quiet t s (λ a. deleted_names k a n xs)
acts-delete s t n k xs i = acts_of quiet t s (λ a. group_of a n) (λ g a. deleted_in k g n xs a) (blind-group_of t n s) (acts-deleted_in t (group_of s n) n k xs s i)
