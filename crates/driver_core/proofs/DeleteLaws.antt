-- Names are deleted, and new objects get names.
use Rattle.std.proofs.Common.{◌≡◌, ℕ, suc, ◌+◌, ◌<◌, ◌≤◌, ℤ, pos, Bool, true, false, cond, List, [], ◌∷◌, ◌++◌, length, drop, drop-cons, get_or, set, refl, sym, ap, ◌∙◌, inl, inr, arith, Option, None, Some}
use Rattle.std.specs.Prelude.{IfSome, IsSome, is_some}
use Rattle.std.specs.Option.{option_map_or}
use Rattle.std.proofs.lemmas.Bool.{cases_eq, cases_lt, false≢true}
use Rattle.std.proofs.lemmas.List.{get_or-set_other, get_or-set_same, set_past}
use Rattle.std.proofs.Math.Seq.{get_or-append_seam}
use Rattle.egl_calls.specs.Ranges.{unsigned}
use Rattle.driver_objects.specs.Links.{bound_in}
use Rattle.driver_objects.specs.Targets.{binding_of, name_kind, slot_of}
use Rattle.driver_objects.specs.declared.targets.BindTarget.{BindTarget}
use Rattle.driver_objects.specs.declared.targets.BindTarget.TheVariants.{Texture as TextureTarget, ArrayBuffer, ElementArrayBuffer, Renderbuffer as RenderbufferTarget, Framebuffer as FramebufferTarget}
use Rattle.driver_objects.specs.declared.contexts.Context.{Context as ContextObject}
use Rattle.driver_objects.specs.declared.objects.Object.{Object}
use Rattle.driver_objects.specs.declared.objects.Object.TheVariants.{Context, Framebuffer, Group}
use Rattle.egl_model.specs.Links.{rank_in}
use Rattle.egl_model.specs.Names.{group_of, object_named, with_name_of}
use Rattle.egl_model.specs.Objects.{as_context, change_context, change_framebuffer, change_group, context_in, with_context, with_framebuffer, with_group}
use Rattle.egl_model.specs.State.{State}
use Rattle.egl_model.specs.Parts.{is_place}
use Rattle.egl_model.specs.Sweep.{roots_of, sweep, swept}
use Rattle.egl_model.specs.Bindings.{bound_anew, bound_at, bound_framebuffer_in, deleted_in, deleted_name, deleted_names, detached_from, detached_on, freed, named_at, new_object, unbound_at, unbound_in, unbound_object}
use Rattle.framebuffer_objects.specs.Framebuffers.{FramebufferValue}
use Rattle.share_group.specs.Groups.{GroupValue}
use Rattle.share_group.specs.declared.names.NameKind.{NameKind}
use Rattle.share_group.specs.declared.names.NameKind.TheVariants.{Texture as textures, Buffer as buffers, Renderbuffer as renderbuffers, Framebuffer as framebuffers}
use Rattle.object_table.specs.Links.{IsLeft, IsLeftWith}
use Rattle.object_table.specs.Tables.{weight_of}
use Rattle.object_table.proofs.DeleteLaws.{left_change}
use Rattle.object_table.proofs.LeftLaws.{left_then}
use Rattle.driver_core.specs.Costs.{IsCheap}
use Rattle.driver_core.proofs.LevelLaws.{named_weighs}

-- ---- Deleted names change the objects alone.
pub deleted_same : (k : NameKind) (g n : ℕ) (xs : List ℤ) (s : State) → deleted_in k g n xs s ≡ record s { objects = (deleted_in k g n xs s).objects }
deleted_same k g n [] s = refl
deleted_same k g n (x ∷ xs) s = deleted_same k g n xs (deleted_name k g n (unsigned x) s)

-- ---- A context keeps its group.
abbrev own_at : ℕ → Option Object → ℕ
own_at g o = option_map_or (λ (c : ContextObject). c.group) (as_context o) g

same_group : (b : BindTarget) (x : ℕ) (c : ContextObject) → (unbound_at b x c).group ≡ c.group
same_group b x c = by (is_place x (bound_in (slot_of b) c.bound))
  where
    by : (t : Bool) → (cond t (bound_at (slot_of b) None (named_at (binding_of b) 0 c)) c).group ≡ c.group
    by true = refl
    by false = refl

still_group : (k : NameKind) (x : ℕ) (c : ContextObject) → (unbound_object k x c).group ≡ c.group
still_group textures x c = same_group TextureTarget x c
still_group buffers x c = same_group ElementArrayBuffer x (unbound_at ArrayBuffer x c) ∙ same_group ArrayBuffer x c
still_group renderbuffers x c = same_group RenderbufferTarget x c
still_group framebuffers x c = same_group FramebufferTarget x c

unbound_own : (k : NameKind) (g x : ℕ) (o : Option Object) → own_at g (with_context (unbound_object k x) o) ≡ own_at g o
unbound_own k g x (Some (Context c)) = still_group k x c
unbound_own k g x o = refl

group_own : (g : ℕ) (f : GroupValue → GroupValue) (o : Option Object) → own_at g (with_group f o) ≡ own_at g o
group_own g f (Some (Group v)) = refl
group_own g f o = refl

framebuffer_own : (g : ℕ) (f : FramebufferValue → FramebufferValue) (o : Option Object) → own_at g (with_framebuffer f o) ≡ own_at g o
framebuffer_own g f (Some (Framebuffer v)) = refl
framebuffer_own g f o = refl

own_set : (g n m : ℕ) (y : Option Object) (os : List (Option Object)) → own_at g y ≡ own_at g (get_or os m None) → own_at g (get_or (set os m y) n None) ≡ own_at g (get_or os n None)
own_set g n m y os h = elim (cases_eq n m) [
  | inl e ↦ elim (cases_lt m (length os)) [
    | inl l ↦ rw e (ap (own_at g) (get_or-set_same os m y None l) ∙ h)
    | inr l ↦ ap (λ (xs : List (Option Object)). own_at g (get_or xs n None)) (set_past os m y l)
  ]
  | inr ne ↦ ap (own_at g) (get_or-set_other os m n y None ne)
]

own_detached : (g n x : ℕ) (b : Option ℕ) (os : List (Option Object)) → own_at g (get_or (detached_on b x os) n None) ≡ own_at g (get_or os n None)
unfolding change_framebuffer
own_detached g n x None os = refl
own_detached g n x (Some b) os = own_set g n b (with_framebuffer (detached_from x) (get_or os b None)) os (framebuffer_own g (detached_from x) (get_or os b None))

own_unbound : (k : NameKind) (g n : ℕ) (o : Option ℕ) (os : List (Option Object)) → own_at g (get_or (unbound_in k n o os) n None) ≡ own_at g (get_or os n None)
unfolding change_context
own_unbound k g n None os = refl
own_unbound k g n (Some x) os =
    let mid = detached_on (bound_framebuffer_in n os) x os in
    own_set g n n (with_context (unbound_object k x) (get_or mid n None)) mid (unbound_own k g x (get_or mid n None)) ∙ own_detached g n x (bound_framebuffer_in n os) os

pub own_freed : (k : NameKind) (g n name : ℕ) (o : Option ℕ) (os : List (Option Object)) → option_map_or (λ (c : ContextObject). c.group) (context_in (freed k g n name o os) n) g ≡ option_map_or (λ (c : ContextObject). c.group) (context_in os n) g
unfolding change_group
own_freed k g n name o os = own_set g n g (with_group (with_name_of k name None) (get_or (unbound_in k n o os) g None)) (unbound_in k n o os) (group_own g (with_name_of k name None) (get_or (unbound_in k n o os) g None)) ∙ own_unbound k g n o os

pub own_group : (s : State) (n : ℕ) → option_map_or (λ (c : ContextObject). c.group) (context_in s.objects n) (group_of s n) ≡ group_of s n
own_group s n = by (context_in s.objects n)
  where
    by : (o : Option ContextObject) → option_map_or (λ (c : ContextObject). c.group) o (option_map_or (λ (c : ContextObject). c.group) o 0) ≡ option_map_or (λ (c : ContextObject). c.group) o 0
    by None = refl
    by (Some c) = refl

-- ---- A new texture that has a name is there, and is bound.
group_ranks : (f : GroupValue → GroupValue) (o : Option Object) → rank_in (with_group f o) ≡ rank_in o
group_ranks f (Some (Group v)) = refl
group_ranks f o = refl

rank_set : (m g : ℕ) (y : Option Object) (os : List (Option Object)) → rank_in y ≡ rank_in (get_or os g None) → rank_in (get_or (set os g y) m None) ≡ rank_in (get_or os m None)
rank_set m g y os h = elim (cases_eq m g) [
  | inl e ↦ elim (cases_lt g (length os)) [
    | inl l ↦ rw e (ap rank_in (get_or-set_same os g y None l) ∙ h)
    | inr l ↦ ap (λ (xs : List (Option Object)). rank_in (get_or xs m None)) (set_past os g y l)
  ]
  | inr ne ↦ ap rank_in (get_or-set_other os g m y None ne)
]

rank_new : (b : BindTarget) → rank_in (Some (new_object b)) ≤ 2
rank_new TextureTarget = omega arith
rank_new ArrayBuffer = omega arith
rank_new ElementArrayBuffer = omega arith
rank_new RenderbufferTarget = omega arith
rank_new FramebufferTarget = omega arith

pub anew_there : (b : BindTarget) (os mid : List (Option Object)) (g n : ℕ) (f : GroupValue → GroupValue) → n ≡ length os → IsLeft (change_group f g (os ++ Some (new_object b) ∷ [])) mid → IsSome (get_or mid n None) → IfSome (Some n) (λ m. IsSome (get_or mid m None) × (rank_in (get_or mid m None) < 4))
unfolding change_group
anew_there b os mid g n f e is h = (
  h,
  elim (is.each n) [
    | inl q ↦ absurd (false≢true (sym (ap is_some q) ∙ h))
    | inr q ↦
        let more : List (Option Object) = os ++ Some (new_object b) ∷ [] in
        let r : rank_in (get_or mid n None) ≡ rank_in (Some (new_object b)) = ap rank_in q ∙ rank_set n g (with_group f (get_or more g None)) more (group_ranks f (get_or more g None)) ∙ ap (λ k. rank_in (get_or more k None)) e ∙ ap rank_in (get_or-append_seam os (Some (new_object b)) [] None) in
        let l = rank_new b in omega (arith, r, l)
  ],
)

pub anew_left : (b : BindTarget) (os m1 m2 m3 : List (Option Object)) (g n name : ℕ) → IsLeft (change_group (with_name_of (name_kind b) name (Some (length os))) g (os ++ Some (new_object b) ∷ [])) m1 → m2 ≡ change_context (named_at (binding_of b) name) n m1 → IsLeft (change_context (bound_at (slot_of b) (Some (length os))) n m2) m3 → IsLeft (bound_anew b g n name os) m3
unfolding change_context
anew_left b os m1 m2 m3 g n name a e l = left_then _ _ m3 (left_change (with_context (bound_at (slot_of b) (Some (length os)))) refl n _ _ (left_change (with_context (named_at (binding_of b) name)) refl n _ m1 a)) (rw e at l)

pub cheap_anew : (s new : State) (os m1 m2 m3 : List (Option Object)) (which name n a b c d : ℕ) → new.handles ≡ s.handles → os ≡ s.objects → b + weight_of m1 ≤ a + 3 + weight_of os → m2 ≡ change_context (named_at which name) n m1 → c + weight_of m3 ≤ b + 2 + weight_of m2 → d + weight_of new.objects ≡ c + 1 + weight_of m3 → IsCheap s new a d
cheap_anew s new os m1 m2 m3 which name n a b c d h o x e y z = inr (omega (arith, ap length h, ap weight_of o, x, ap weight_of e, named_weighs which name n m1, y, z))

pub cheap_tried : (s new : State) (a b : ℕ) → new.handles ≡ s.handles → new.objects ≡ s.objects → b ≤ a + 3 → IsCheap s new a b
cheap_tried s new a b h o l = inr (omega (arith, ap length h, ap weight_of o, l))

pub cheap_freed : (s new : State) (a b : ℕ) → new.handles ≡ s.handles → b + weight_of new.objects ≤ a + weight_of s.objects → IsCheap s new a b
cheap_freed s new a b h l = inr (omega (arith, ap length h, l))

-- ---- One name after another.
pub delete_step : (k : NameKind) (g n i : ℕ) (xs : List ℤ) (s w : State) (m : ℕ) → m ≡ unsigned (get_or xs i (pos 0)) → i < length xs → deleted_in k g n (drop i xs) w ≡ deleted_in k g n xs s → (new : List (Option Object)) → IsLeftWith n (deleted_name k g n m w).objects new → option_map_or (λ (c : ContextObject). c.group) (context_in w.objects n) g ≡ g → (v : State) × ((deleted_in k g n (drop (i + 1) xs) v ≡ deleted_in k g n xs s) × (IsLeftWith n v.objects new × (option_map_or (λ (c : ContextObject). c.group) (context_in v.objects n) g ≡ g)))
delete_step k g n i xs s w m e l h new is own =
    let d : drop i xs ≡ get_or xs i (pos 0) ∷ drop (i + 1) xs = drop-cons xs i (pos 0) l ∙ ap (λ j. get_or xs i (pos 0) ∷ drop j xs) (let q : suc i ≡ i + 1 = omega arith in q) in
    let first : deleted_in k g n (drop i xs) w ≡ deleted_in k g n (drop (i + 1) xs) (deleted_name k g n (unsigned (get_or xs i (pos 0))) w) = ap (λ ys. deleted_in k g n ys w) d in
    let same : deleted_in k g n (drop (i + 1) xs) (deleted_name k g n m w) ≡ deleted_in k g n (drop (i + 1) xs) (deleted_name k g n (unsigned (get_or xs i (pos 0))) w) = ap (λ j. deleted_in k g n (drop (i + 1) xs) (deleted_name k g n j w)) e in
    (deleted_name k g n m w, (same ∙ sym first ∙ h, (is, own_freed k g n m (object_named w g k m) w.objects ∙ own)))

-- what is left of all names freed is what the sweep of that leaves
pub deleted_swept : (k : NameKind) (s : State) (n : ℕ) (xs : List ℤ) (left : List (Option Object)) → left ≡ swept (roots_of s.handles s.threads) (deleted_names k s n xs).objects → record s { objects = left } ≡ sweep (deleted_names k s n xs)
deleted_swept k s n xs left e =
    let g = group_of s n in
    let same : deleted_names k s n xs ≡ record s { objects = (deleted_in k g n xs s).objects } = deleted_same k g n xs s in
    ap (λ (os : List (Option Object)). record s { objects = os }) e ∙ sym (ap sweep same)
