-- A name that is deleted is free, of whatever kind it is.
use Rattle.std.proofs.Common.{◌≡◌, ℕ, zero, suc, ◌<◌, arith, ℤ, Bool, true, false, cond, not, is_some, inl, inr, List, [], ◌∷◌, length, get_or, refl, sym, ap, subst, ◌∙◌, Option, None, Some}
use Rattle.std.specs.Prelude.{Contains}
use Rattle.std.specs.List.{find}
use Rattle.std.specs.Option.{option_map_or}
use Rattle.std.proofs.lemmas.Bool.{cond_both, false≢true}
use Rattle.egl_calls.specs.Calls.{CallValue}
use Rattle.egl_calls.specs.Ranges.{unsigned}
use Rattle.egl_calls.specs.declared.kinds.GlKind.{GlKind}
use Rattle.egl_calls.specs.declared.kinds.GlKind.TheVariants.{GetError as GlGetError}
use Rattle.call_table.specs.Rows.{gl_role}
use Rattle.call_table.specs.declared.roles.Role.{Role}
use Rattle.call_table.specs.declared.roles.Role.TheVariants.{Deletes}
use Rattle.driver_objects.specs.declared.objects.Object.{Object}
use Rattle.driver_objects.specs.declared.objects.Object.TheVariants.{Context, Framebuffer, Group}
use Rattle.framebuffer_objects.specs.Framebuffers.{FramebufferValue}
use Rattle.share_group.specs.Groups.{GroupValue, names_of, with_names}
use Rattle.share_group.specs.Names.{is_of, is_used, without}
use Rattle.share_group.specs.declared.names.Name.{Name}
use Rattle.share_group.specs.declared.names.NameKind.{NameKind}
use Rattle.share_group.specs.declared.names.NameKind.TheVariants.{Texture as textures, Buffer as buffers, Renderbuffer as renderbuffers, Framebuffer as framebuffers}
use Rattle.model_laws.specs.Laws.{IsAllowedGl}
use Rattle.egl_model.specs.Bindings.{bound_framebuffer_in, deleted_in, deleted_name, deleted_names, detached_from, detached_on, unbound_in, unbound_object}
use Rattle.egl_model.specs.GlCalls.{gl_effect}
use Rattle.egl_model.specs.Names.{group_of, names_in, object_named, with_name_of}
use Rattle.egl_model.specs.Objects.{as_group, change_context, change_framebuffer, change_group, with_context, with_framebuffer, with_group}
use Rattle.egl_model.specs.State.{State, object_at}
use Rattle.egl_model.specs.Step.{Stepped, step}
use Rattle.egl_model.specs.Sweep.{sweep, roots}
use Rattle.model_laws.proofs.References.Places.{same_at_set}
use Rattle.model_laws.proofs.Pixels.TextureLaws.{allowed_gl, changed_at, swept_same}

unused_without : (name y : ℕ) (xs : List Name) → is_used name xs ≡ false → is_used name (without y xs) ≡ false
unused_without name y [] h = refl
unused_without name y (x ∷ xs) h =
    let here : (is_of name x ≡ false) × (is_used name xs ≡ false) = parts (is_of name x) (find (is_of name) xs) h in
    cond_both (not (is_of y x)) (x ∷ without y xs) (without y xs) (λ ys. is_used name ys ≡ false)
    (λ e. ap (λ b. is_some (cond b (Some x) (find (is_of name) (without y xs)))) here.0 ∙ unused_without name y xs here.1)
    (λ e. unused_without name y xs here.1)
  where
    parts : (b : Bool) (o : Option Name) → is_some (cond b (Some x) o) ≡ false → (b ≡ false) × (is_some o ≡ false)
    parts true o g = absurd (false≢true (sym g))
    parts false o g = (refl, g)

gone_one : (name : ℕ) (x : Name) (ys : List Name) (b : Bool) → is_of name x ≡ b → is_used name ys ≡ false → is_used name (cond (not b) (x ∷ ys) ys) ≡ false
gone_one name x ys true e h = h
gone_one name x ys false e h = ap (λ b. is_some (cond b (Some x) (find (is_of name) ys))) e ∙ h

pub gone_without : (name : ℕ) (xs : List Name) → is_used name (without name xs) ≡ false
gone_without name [] = refl
gone_without name (x ∷ xs) = gone_one name x (without name xs) (is_of name x) refl (gone_without name xs)

unfoldable pub names_at : NameKind → Option Object → List Name
names_at k o = option_map_or (names_of k) (as_group o) []

names_set : (k : NameKind) (xs : List Name) (g : GroupValue) → names_of k (with_names k xs g) ≡ xs
names_set textures xs g = refl
names_set buffers xs g = refl
names_set renderbuffers xs g = refl
names_set framebuffers xs g = refl

names_freed : (k : NameKind) (name : ℕ) (o : Option Object) → names_at k (with_group (with_name_of k name None) o) ≡ without name (names_at k o)
unfolding names_at
names_freed k name (Some (Group g)) = names_set k (without name (names_of k g)) g
names_freed k name o = refl

names_context : (k : NameKind) (x : ℕ) (o : Option Object) → names_at k (with_context (unbound_object k x) o) ≡ names_at k o
unfolding names_at
names_context k x (Some (Context c)) = refl
names_context k x o = refl

names_framebuffer : (k : NameKind) (f : FramebufferValue → FramebufferValue) (o : Option Object) → names_at k (with_framebuffer f o) ≡ names_at k o
unfolding names_at
names_framebuffer k f (Some (Framebuffer x)) = refl
names_framebuffer k f o = refl

names_detached : (k : NameKind) (b : Option ℕ) (x g : ℕ) (os : List (Option Object)) → names_at k (get_or (detached_on b x os) g None) ≡ names_at k (get_or os g None)
unfolding change_framebuffer
names_detached k None x g os = refl
names_detached k (Some b) x g os = same_at_set (names_at k) os b (with_framebuffer (detached_from x) (get_or os b None)) None (names_framebuffer k (detached_from x) (get_or os b None)) g

names_unbound : (k : NameKind) (n g : ℕ) (o : Option ℕ) (os : List (Option Object)) → names_at k (get_or (unbound_in k n o os) g None) ≡ names_at k (get_or os g None)
unfolding change_context
names_unbound k n g None os = refl
names_unbound k n g (Some x) os =
    let ps = detached_on (bound_framebuffer_in n os) x os in
    same_at_set (names_at k) ps n (with_context (unbound_object k x) (get_or ps n None)) None (names_context k x (get_or ps n None)) g ∙ names_detached k (bound_framebuffer_in n os) x g os

pub names_deleted : (k : NameKind) (g n name : ℕ) (s : State) → names_at k (object_at (deleted_name k g n name s) g) ≡ without name (names_at k (object_at s g))
unfolding change_group
names_deleted k g n name s =
    let os : List (Option Object) = unbound_in k n (object_named s g k name) s.objects in
    ap (names_at k) (changed_at (with_group (with_name_of k name None)) refl g os) ∙ names_freed k name (get_or os g None) ∙ ap (without name) (names_unbound k n g (object_named s g k name) s.objects)

still_unused : (k : NameKind) (g n name : ℕ) (xs : List ℤ) (s : State) → is_used name (names_at k (object_at s g)) ≡ false → is_used name (names_at k (object_at (deleted_in k g n xs s) g)) ≡ false
still_unused k g n name [] s h = h
still_unused k g n name (x ∷ xs) s h = still_unused k g n name xs (deleted_name k g n (unsigned x) s) (ap (is_used name) (names_deleted k g n (unsigned x) s) ∙ unused_without name (unsigned x) (names_at k (object_at s g)) h)

each_unused : (k : NameKind) (g n i : ℕ) (x : ℤ) (xs : List ℤ) (s : State) → i < length xs → get_or xs i x ≡ x → is_used (unsigned x) (names_at k (object_at (deleted_in k g n xs s) g)) ≡ false
each_unused k g n i x [] s l e = absurd (omega arith)
each_unused k g n zero x (y ∷ ys) s l e = still_unused k g n (unsigned x) ys (deleted_name k g n (unsigned y) s)
    (ap (is_used (unsigned x)) (names_deleted k g n (unsigned y) s) ∙ ap (λ z. is_used (unsigned x) (without (unsigned z) (names_at k (object_at s g)))) e ∙ gone_without (unsigned x) (names_at k (object_at s g)))
each_unused k g n (suc i) x (y ∷ ys) s l e = each_unused k g n i x ys (deleted_name k g n (unsigned y) s) (omega (arith, l)) e

unused_swept : (k : NameKind) (name g : ℕ) (a : State) → is_used name (names_at k (object_at a g)) ≡ false → is_used name (names_at k (object_at (sweep a) g)) ≡ false
unfolding names_at
unused_swept k name g a h = elim (swept_same (roots a) a.objects g) [
  | inl e ↦ ap (λ o. is_used name (names_at k o)) e
  | inr e ↦ ap (λ o. is_used name (names_at k o)) e ∙ h
]

free_after : (k : NameKind) (s : State) (n : ℕ) (xs : List ℤ) (x : ℤ) → Contains xs x → is_used (unsigned x) (names_in (sweep (deleted_names k s n xs)) (group_of s n) k) ≡ false
unfolding names_at
free_after k s n xs x i = unused_swept k (unsigned x) (group_of s n) (deleted_names k s n xs) (each_unused k (group_of s n) n i.0 x xs s i.1 i.2)

-- ---- The calls.
-- what a deletion leaves. A first call has a clause of its own, and the last clause goes by the cases that are left
abbrev DeletedBy : Role → State → ℕ → ℕ → GlKind → CallValue → Type 0
DeletedBy (Deletes names) s t n k c = (gl_effect s t n k c).state ≡ deleted_names names s n c.list
DeletedBy r s t n k c = true ≡ true

deleted_by : (s : State) (t n : ℕ) (k : GlKind) (c : CallValue) → DeletedBy (gl_role k) s t n k c
deleted_by s t n GlGetError c = refl
deleted_by s t n k c = refl

pub deletion_done : (s : State) (t n : ℕ) (k : GlKind) (names : NameKind) (c : CallValue) → gl_role k ≡ Deletes names → IsAllowedGl s t n k c → (step s t c).state ≡ sweep (deleted_names names s n c.list)
deletion_done s t n k names c e h = ap (λ (y : Stepped). y.state) (allowed_gl s t n k c h) ∙ ap sweep (subst (λ r. DeletedBy r s t n k c) e (deleted_by s t n k c))

pub deleted_name_is_free : (s : State) (t n : ℕ) (k : GlKind) (names : NameKind) (c : CallValue) (x : ℤ) → gl_role k ≡ Deletes names → IsAllowedGl s t n k c → Contains c.list x → is_used (unsigned x) (names_in (step s t c).state (group_of s n) names) ≡ false
deleted_name_is_free s t n k names c x e h i = ap (λ (a : State). is_used (unsigned x) (names_in a (group_of s n) names)) (deletion_done s t n k names c e h) ∙ free_after names s n c.list x i
