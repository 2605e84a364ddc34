-- What holds of the slots of each kind of object, and of slots that lead.
use Rattle.std.proofs.Common.{◌≡◌, ℕ, zero, suc, ◌+◌, ◌<◌, ◌⊎◌, inl, inr, Bool, true, false, List, [], ◌∷◌, ◌++◌, refl, sym, ap, ◌∙◌, arith, get_or, Option, None, Some}
use Rattle.std.specs.Prelude.{◌==◌, ◌||◌, if◌then◌else◌, option_to_list}
use Rattle.std.proofs.lemmas.Bool.{eq-eqb, eqb-true, or_cases, or_left, or_right}
use Rattle.std.proofs.lemmas.Option.{none-some}
use Rattle.std.proofs.lemmas.List.Folds.{list_any-append}
use Rattle.driver_objects.specs.declared.kinds.ObjectKind.{ObjectKind}
use Rattle.driver_objects.specs.declared.kinds.ObjectKind.TheVariants.{Texture as a_texture, Buffer as a_buffer, Renderbuffer as a_renderbuffer, Framebuffer as a_framebuffer, Storage as a_storage}
use Rattle.driver_objects.specs.declared.objects.Object.{Object}
use Rattle.driver_objects.specs.declared.objects.Object.TheVariants.{Context, Group, Texture, Buffer, Renderbuffer, Framebuffer, Surface, Storage, Image, Sync}
use Rattle.model_laws.specs.Slots.{Slot, attached_kind, ends, level_slots, name_slots, slots_of}
use Rattle.framebuffer_objects.specs.declared.framebuffers.Attached.{Attached}
use Rattle.share_group.specs.declared.names.Name.{Name}
use Rattle.share_group.specs.Groups.{GroupValue}
use Rattle.driver_objects.specs.Objects.{filled}
use Rattle.driver_objects.specs.Objects.{rank_of, rank_of_kind}
use Rattle.egl_model.specs.Graph.{is_in}
use Rattle.model_laws.specs.Shapes.{Goes, HasKind, Leads, Shape, kind_at, pixels_in, slots_in}
use Rattle.model_laws.proofs.Changes.Moves.{own_in}
use Rattle.model_laws.proofs.References.Places.{old_kind}

-- ---- Elements of lists.
pub no_edge : {A : Type 0} (n : ℕ) → is_in n [] ≡ true → A
no_edge n h = absurd (let e : false ≡ true = h in cc)

pub in_cases : (n : ℕ) (xs ys : List ℕ) → is_in n (xs ++ ys) ≡ true → (is_in n xs ≡ true) ⊎ (is_in n ys ≡ true)
in_cases n xs ys h = or_cases (is_in n xs) (is_in n ys) (sym (list_any-append (λ y. y == n) xs ys) ∙ h)

pub in_left : (n : ℕ) (xs ys : List ℕ) → is_in n xs ≡ true → is_in n (xs ++ ys) ≡ true
in_left n xs ys h = list_any-append (λ y. y == n) xs ys ∙ or_left (is_in n xs) (is_in n ys) h

pub in_right : (n : ℕ) (xs ys : List ℕ) → is_in n ys ≡ true → is_in n (xs ++ ys) ≡ true
in_right n xs ys h = list_any-append (λ y. y == n) xs ys ∙ or_right (is_in n xs) (is_in n ys) h

pub only_one : (n x : ℕ) → is_in n (x ∷ []) ≡ true → x ≡ n
only_one n x h = elim (or_cases (x == n) false h) [
  | inl e ↦ eqb-true x n e
  | inr e ↦ absurd (let f : false ≡ true = e in cc)
]

-- what a level has is among what all have
pub in_levels : (n k : ℕ) (xs : List (Option ℕ)) → get_or xs k None ≡ Some n → is_in n (filled xs) ≡ true
in_levels n k [] h = absurd (none-some n h)
in_levels n zero (x ∷ xs) h = in_left n (option_to_list x) (filled xs) (ap (λ o. is_in n (option_to_list o)) h ∙ ap (λ b. b || false) (eq-eqb n n refl))
in_levels n (suc k) (x ∷ xs) h = in_right n (option_to_list x) (filled xs) (in_levels n k xs h)

-- ---- Ranks fall along each slot.
Falls : ℕ → List Slot → Type 0
Falls r [] = Unit {0}
Falls r (x ∷ xs) = (rank_of_kind x.kind < r) × Falls r xs

falls_names : (r first : ℕ) (k : ObjectKind) (xs : List Name) (ys : List Slot) → rank_of_kind k < r → Falls r ys → Falls r (name_slots first k xs ++ ys)
unfolding Falls
falls_names r first k [] ys h f = f
falls_names r first k (x ∷ xs) ys h f = (h, falls_names r first k xs ys h f)

falls_all : (r first : ℕ) (k : ObjectKind) (xs : List Name) → rank_of_kind k < r → Falls r (name_slots first k xs)
unfolding Falls
falls_all r first k [] h = tt
falls_all r first k (x ∷ xs) h = (h, falls_all r first k xs h)

falls_levels : (r i : ℕ) (xs : List (Option ℕ)) → 0 < r → Falls r (level_slots i xs)
unfolding Falls
falls_levels r i [] h = tt
falls_levels r i (x ∷ xs) h = (h, falls_levels r (i + 1) xs h)

low_attached : (a : Option Attached) → rank_of_kind (attached_kind a) < 2
low_attached None = omega arith
low_attached (Some a) = by a.texture
  where
    by : (b : Bool) → rank_of_kind (if b then a_texture else a_renderbuffer) < 2
    by true = omega arith
    by false = omega arith

falls : (o : Object) → Falls (rank_of o) (slots_of o)
unfolding Falls
falls (Context c) = (omega arith, (omega arith, (omega arith, (omega arith, (omega arith, (omega arith, (omega arith, tt)))))))
falls (Group g) =
    falls_names 3 0 a_texture g.textures _ (omega arith)
    (falls_names 3 4294967296 a_buffer g.buffers _ (omega arith)
    (falls_names 3 8589934592 a_renderbuffer g.renderbuffers _ (omega arith) (falls_all 3 12884901888 a_framebuffer g.framebuffers (omega arith))))
falls (Texture x) = falls_levels 1 0 x.levels (omega arith)
falls (Buffer x) = tt
falls (Renderbuffer x) = (omega arith, tt)
falls (Framebuffer x) = (low_attached x.color, (low_attached x.depth, (low_attached x.stencil, tt)))
falls (Surface x) = (omega arith, tt)
falls (Storage x) = tt
falls (Image x) = (omega arith, tt)
falls (Sync x) = tt

-- ---- What slots that lead lead to.
pub record LedTo (sh : List (Option Shape)) (r n : ℕ) : Type 0 where
  pub kind : ObjectKind
  pub has : HasKind sh kind n
  pub low : rank_of_kind kind < r

led : (sh : List (Option Shape)) (r : ℕ) (ls : List Slot) (n : ℕ) → Leads sh ls → Falls r ls → is_in n (ends ls) ≡ true → LedTo sh r n
unfolding Falls
led sh r [] n l f h = no_edge n h
led sh r (x ∷ xs) n l f h = elim (in_cases n (option_to_list x.to) (ends xs) h) [
  | inl e ↦ here sh x.kind x.to n l.0 e f.0
  | inr e ↦ led sh r xs n l.1 f.1 e
]
  where
    here : (sh : List (Option Shape)) (k : ObjectKind) (o : Option ℕ) (n : ℕ) → Goes sh k o → is_in n (option_to_list o) ≡ true → rank_of_kind k < r → LedTo sh r n
    here sh k None n g h w = no_edge n h
    here sh k (Some m) n g h w = record { kind = k; has = record { is = ap (kind_at sh) (sym (only_one n m h)) ∙ g.is }; low = w }

pub led_object : (sh : List (Option Shape)) (o : Option Object) (r n : ℕ) → Leads sh (slots_in o) → ((x : Object) → o ≡ Some x → rank_of x ≡ r) → is_in n (ends (slots_in o)) ≡ true → LedTo sh r n
led_object sh None r n l e h = no_edge n h
led_object sh (Some x) r n l e h = let w = led sh (rank_of x) (slots_of x) n l (falls x) h in record { kind = w.kind; has = w.has; low = let a = w.low in let b = e x refl in omega (arith, a, b) }

-- ---- Slots still lead where objects are added.
pub goes_more : (sh more : List (Option Shape)) (k : ObjectKind) (o : Option ℕ) → Goes sh k o → Goes (sh ++ more) k o
goes_more sh more k None g = tt
goes_more sh more k (Some n) g = old_kind sh more k n g

pub leads_more : (sh more : List (Option Shape)) (ls : List Slot) → Leads sh ls → Leads (sh ++ more) ls
leads_more sh more [] l = tt
leads_more sh more (x ∷ xs) l = (goes_more sh more x.kind x.to l.0, leads_more sh more xs l.1)

pub leads_append : (sh : List (Option Shape)) (xs ys : List Slot) → Leads sh xs → Leads sh ys → Leads sh (xs ++ ys)
leads_append sh [] ys l m = m
leads_append sh (x ∷ xs) ys l m = (l.0, leads_append sh xs ys l.1 m)

pub leads_parts : (sh : List (Option Shape)) (xs ys : List Slot) → Leads sh (xs ++ ys) → Leads sh xs × Leads sh ys
leads_parts sh [] ys l = (tt, l)
leads_parts sh (x ∷ xs) ys l = let r = leads_parts sh xs ys l.1 in ((l.0, r.0), r.1)

-- ---- Storages: an object's own one stands among its storages, and each is one.
at_levels : (sh : List (Option Shape)) (i : ℕ) (xs : List (Option ℕ)) (k : ℕ) → Leads sh (level_slots i xs) → is_in k (filled xs) ≡ true → HasKind sh a_storage k
at_levels sh i [] k l h = no_edge k h
at_levels sh i (x ∷ xs) k l h = elim (in_cases k (option_to_list x) (filled xs) h) [
  | inl e ↦ here x l.0 e
  | inr e ↦ at_levels sh (i + 1) xs k l.1 e
]
  where
    here : (o : Option ℕ) → Goes sh a_storage o → is_in k (option_to_list o) ≡ true → HasKind sh a_storage k
    here None g e = no_edge k e
    here (Some m) g e = record { is = ap (kind_at sh) (sym (only_one k m e)) ∙ g.is }

pub pixels_are_storages : (sh : List (Option Shape)) (o : Option Object) (k : ℕ) → Leads sh (slots_in o) → is_in k (pixels_in o) ≡ true → HasKind sh a_storage k
pixels_are_storages sh (Some (Texture x)) k l h = at_levels sh 0 x.levels k l h
pixels_are_storages sh (Some (Renderbuffer x)) k l h = at_levels sh 0 (x.storage ∷ []) k l h
pixels_are_storages sh (Some (Surface x)) k l h = record { is = ap (kind_at sh) (sym (only_one k x.storage h)) ∙ l.0.is }
pixels_are_storages sh (Some (Image x)) k l h = record { is = ap (kind_at sh) (sym (only_one k x.storage h)) ∙ l.0.is }
pixels_are_storages sh o k l h = no_edge k h

same_Some : (a b : ℕ) → Some a ≡ Some b → a ≡ b
same_Some a b h = cc

pub own_is_storage : (sh : List (Option Shape)) (o : Option Object) (k : ℕ) → Leads sh (slots_in o) → own_in o ≡ Some k → HasKind sh a_storage k
own_is_storage sh (Some (Surface x)) k l h = record { is = ap (kind_at sh) (sym (same_Some x.storage k h)) ∙ l.0.is }
own_is_storage sh o k l h = absurd (let e : None ≡ Some k = h in cc)

-- ---- The names of a group, by their kinds.
pub record GroupLeads (sh : List (Option Shape)) (g : GroupValue) : Type 0 where
  pub textures : Leads sh (name_slots 0 a_texture g.textures)
  pub buffers : Leads sh (name_slots 4294967296 a_buffer g.buffers)
  pub renderbuffers : Leads sh (name_slots 8589934592 a_renderbuffer g.renderbuffers)
  pub framebuffers : Leads sh (name_slots 12884901888 a_framebuffer g.framebuffers)

pub group_parts : (sh : List (Option Shape)) (g : GroupValue) → Leads sh (slots_of (Group g)) → GroupLeads sh g
group_parts sh g l =
    let a = leads_parts sh (name_slots 0 a_texture g.textures) _ l in
    let b = leads_parts sh (name_slots 4294967296 a_buffer g.buffers) _ a.1 in
    let c = leads_parts sh (name_slots 8589934592 a_renderbuffer g.renderbuffers) _ b.1 in
    record { textures = a.0; buffers = b.0; renderbuffers = c.0; framebuffers = c.1 }

pub group_whole : (sh : List (Option Shape)) (g : GroupValue) → GroupLeads sh g → Leads sh (slots_of (Group g))
group_whole sh g l =
    leads_append sh (name_slots 0 a_texture g.textures) _ l.textures
    (leads_append sh (name_slots 4294967296 a_buffer g.buffers) _ l.buffers
    (leads_append sh (name_slots 8589934592 a_renderbuffer g.renderbuffers) _ l.renderbuffers l.framebuffers))
