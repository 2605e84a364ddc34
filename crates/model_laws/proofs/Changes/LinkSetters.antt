-- What may be set of what objects refer to: names of a group, what a context has bound, the levels of a texture.
use Rattle.std.proofs.Common.{◌≡◌, ◌⊎◌, ℕ, ℤ, zero, suc, ◌+◌, true, cond, not, eqb, ltb, is_some, inl, inr, List, [], ◌∷◌, refl, sym, ap, ◌∙◌, set, Option, None, Some, IfSome}
use Rattle.std.specs.Prelude.{option_to_list}
use Rattle.std.specs.List.{find}
use Rattle.std.specs.Option.{option_map, option_map_or}
use Rattle.std.proofs.lemmas.Bool.{cond_both}
use Rattle.context_state.specs.Bindings.{with_name}
use Rattle.context_state.specs.Parts.{PartValue}
use Rattle.context_state.specs.declared.bindings.Bindings.{Bindings}
use Rattle.pixel_rows.specs.Images.{ImageValue}
use Rattle.driver_objects.specs.Links.{bound_in, linked_names}
use Rattle.driver_objects.specs.Targets.{binding_of, name_kind, slot_of}
use Rattle.driver_objects.specs.declared.targets.BindTarget.{BindTarget}
use Rattle.driver_objects.specs.declared.targets.BindTarget.TheVariants.{Texture as TextureTarget, ArrayBuffer, ElementArrayBuffer, Renderbuffer as RenderbufferTarget, Framebuffer as FramebufferTarget}
use Rattle.driver_objects.specs.Objects.{filled}
use Rattle.driver_objects.specs.declared.contexts.Context.{Context as ContextObject}
use Rattle.driver_objects.specs.declared.kinds.ObjectKind.{ObjectKind}
use Rattle.driver_objects.specs.declared.kinds.ObjectKind.TheVariants.{Storage as a_storage}
use Rattle.driver_objects.specs.declared.objects.Object.{Object}
use Rattle.driver_objects.specs.declared.objects.Object.TheVariants.{Context, Group, Texture, Renderbuffer, Framebuffer, Storage}
use Rattle.driver_objects.specs.declared.textures.BackedTexture.{BackedTexture}
use Rattle.framebuffer_objects.specs.Framebuffers as framebuffers_of
use Rattle.framebuffer_objects.specs.Framebuffers.{FramebufferValue, at_point, with_point}
use Rattle.framebuffer_objects.specs.declared.framebuffers.Attached.{Attached}
use Rattle.framebuffer_objects.specs.declared.points.Point.{Point}
use Rattle.framebuffer_objects.specs.declared.points.Point.TheVariants.{Color, Depth, Stencil}
use Rattle.share_group.specs.Groups.{GroupValue, names_of, with_names}
use Rattle.share_group.specs.Names.{after, fresh, is_of, object_in, object_of, put, unused_from, without}
use Rattle.share_group.specs.declared.names.Name.{Name}
use Rattle.share_group.specs.declared.names.NameKind.{NameKind}
use Rattle.share_group.specs.declared.names.NameKind.TheVariants.{Texture as textures, Buffer as buffers, Renderbuffer as renderbuffers, Framebuffer as framebuffers}
use Rattle.egl_model.specs.Currents.{has_context}
use Rattle.egl_model.specs.Displays.{is_display}
use Rattle.model_laws.specs.Full.{Full}
use Rattle.egl_model.specs.Graph.{is_in}
use Rattle.egl_model.specs.Names.{kind_named, with_more, with_name_of}
use Rattle.egl_model.specs.Objects.{as_group, with_context, with_framebuffer, with_group, with_texture}
use Rattle.egl_model.specs.Parts.{is_place, set_image, set_part}
use Rattle.model_laws.specs.Shapes.{Goes, IsFree, Leads, Shape, pixels_in, slots_in}
use Rattle.model_laws.specs.Slots.{attached_kind, level_slots, name_slots, slots_of}
use Rattle.egl_model.specs.State.{State}
use Rattle.egl_model.specs.Bindings.{bound_at, detached_at, detached_from, name_in_part, named_at, unbound_object, unbound_at}
use Rattle.egl_model.specs.Textures.{with_crop, with_pixels, with_value}
use Rattle.model_laws.proofs.Changes.Moves.{NoneElse, Setter, Suits, body_in}
use Rattle.model_laws.proofs.References.Slots.{group_parts, group_whole, in_cases, in_left, in_right}

-- ---- A group.
pub setter-group : (h : GroupValue → GroupValue) → Setter (with_group h)
setter-group h = record { body = body; full = full }
  where
    body : (o : Option Object) → body_in (with_group h o) ≡ body_in o
    body (Some (Group g)) = refl
    body o = refl

    full : (o : Option Object) → Full o → Full (with_group h o)
    full (Some (Group g)) f = tt
    full o f = f

pub suits-group : (t : ℕ) (sh : List (Option Shape)) (s : State) (n : ℕ) (h : GroupValue → GroupValue) → ((g : GroupValue) → Leads sh (slots_of (Group g)) → Leads sh (slots_of (Group (h g)))) → Suits t sh s n (with_group h)
suits-group t sh s n h l = record { leads = leads; pixels = λ o k i. inl (ap (is_in k) (sym (looks o)) ∙ i); part = inl past_part; image = inl past_image }
  where
    past_part : (x : Option PartValue) (o : Option Object) → set_part x (with_group h o) ≡ with_group h (set_part x o)
    past_part x (Some (Context c)) = refl
    past_part x (Some (Group g)) = refl
    past_part x o = refl

    past_image : (y : Option ImageValue) (o : Option Object) → set_image y (with_group h o) ≡ with_group h (set_image y o)
    past_image y (Some (Storage v)) = refl
    past_image y (Some (Group g)) = refl
    past_image y o = refl

    looks : (o : Option Object) → pixels_in (with_group h o) ≡ pixels_in o
    looks (Some (Group g)) = refl
    looks o = refl

    leads : (o : Option Object) → Leads sh (slots_in o) → Leads sh (slots_in (with_group h o))
    leads (Some (Group g)) i = l g i
    leads o i = i

-- names of a kind change
leads_names : (sh : List (Option Shape)) (k : NameKind) (f : List Name → List Name) → ((first : ℕ) (xs : List Name) → Leads sh (name_slots first (kind_named k) xs) → Leads sh (name_slots first (kind_named k) (f xs))) → (g : GroupValue) → Leads sh (slots_of (Group g)) → Leads sh (slots_of (Group (with_names k (f (names_of k g)) g)))
leads_names sh textures f e g l = let p = group_parts sh g l in group_whole sh (record g { textures = f g.textures }) (record { textures = e 0 g.textures p.textures; buffers = p.buffers; renderbuffers = p.renderbuffers; framebuffers = p.framebuffers })
leads_names sh buffers f e g l = let p = group_parts sh g l in group_whole sh (record g { buffers = f g.buffers }) (record { textures = p.textures; buffers = e 4294967296 g.buffers p.buffers; renderbuffers = p.renderbuffers; framebuffers = p.framebuffers })
leads_names sh renderbuffers f e g l = let p = group_parts sh g l in group_whole sh (record g { renderbuffers = f g.renderbuffers }) (record { textures = p.textures; buffers = p.buffers; renderbuffers = e 8589934592 g.renderbuffers p.renderbuffers; framebuffers = p.framebuffers })
leads_names sh framebuffers f e g l = let p = group_parts sh g l in group_whole sh (record g { framebuffers = f g.framebuffers }) (record { textures = p.textures; buffers = p.buffers; renderbuffers = p.renderbuffers; framebuffers = e 12884901888 g.framebuffers p.framebuffers })

leads_put : (sh : List (Option Shape)) (k : ObjectKind) (e : Name) → Goes sh k e.object → (first : ℕ) (xs : List Name) → Leads sh (name_slots first k xs) → Leads sh (name_slots first k (put e xs))
leads_put sh k e g first [] l = (g, tt)
leads_put sh k e g first (x ∷ xs) l = cond_both (ltb e.name x.name) (e ∷ x ∷ xs) (cond (eqb e.name x.name) (e ∷ xs) (x ∷ put e xs)) (λ ys. Leads sh (name_slots first k ys))
    (λ i. (g, l))
    (λ i. cond_both (eqb e.name x.name) (e ∷ xs) (x ∷ put e xs) (λ ys. Leads sh (name_slots first k ys)) (λ j. (g, l.1)) (λ j. (l.0, leads_put sh k e g first xs l.1)))

leads_without : (sh : List (Option Shape)) (k : ObjectKind) (name first : ℕ) (xs : List Name) → Leads sh (name_slots first k xs) → Leads sh (name_slots first k (without name xs))
leads_without sh k name first [] l = tt
leads_without sh k name first (x ∷ xs) l = let r = leads_without sh k name first xs l.1 in
    cond_both (not (is_of name x)) (x ∷ without name xs) (without name xs) (λ ys. Leads sh (name_slots first k ys)) (λ i. (l.0, r)) (λ i. r)

leads_linked : (sh : List (Option Shape)) (k : ObjectKind) (name : ℕ) (o : Option ℕ) → Goes sh k o → (first : ℕ) (xs : List Name) → Leads sh (name_slots first k xs) → Leads sh (name_slots first k (linked_names name o xs))
leads_linked sh k name (Some n) g first xs l = leads_put sh k (record { name = name; object = Some n }) g first xs l
leads_linked sh k name None g first xs l = leads_without sh k name first xs l

leads_after : (sh : List (Option Shape)) (k : ObjectKind) (count first : ℕ) (xs : List Name) → Leads sh (name_slots first k xs) → Leads sh (name_slots first k (after count xs))
unfolding after
leads_after sh k zero first xs l = l
leads_after sh k (suc n) first xs l = leads_put sh k (fresh (unused_from 1 (after n xs))) tt first (after n xs) (leads_after sh k n first xs l)

pub suits-more : (t : ℕ) (sh : List (Option Shape)) (s : State) (n : ℕ) (k : NameKind) (count : ℕ) → Suits t sh s n (with_group (with_more k count))
suits-more t sh s n k count = suits-group t sh s n (with_more k count) (leads_names sh k (after count) (leads_after sh (kind_named k) count))

pub suits-name : (t : ℕ) (sh : List (Option Shape)) (s : State) (n : ℕ) (k : NameKind) (name : ℕ) (o : Option ℕ) → Goes sh (kind_named k) o → Suits t sh s n (with_group (with_name_of k name o))
suits-name t sh s n k name o g = suits-group t sh s n (with_name_of k name o) (leads_names sh k (linked_names name o) (leads_linked sh (kind_named k) name o g))

-- what has a name is of the kind of the name
goes_found : (sh : List (Option Shape)) (k : ObjectKind) (first name : ℕ) (xs : List Name) → Leads sh (name_slots first k xs) → Goes sh k (object_of name xs)
goes_found sh k first name [] l = tt
goes_found sh k first name (x ∷ xs) l = cond_both (is_of name x) (Some x) (find (is_of name) xs) (λ o. Goes sh k (object_in o)) (λ e. l.0) (λ e. goes_found sh k first name xs l.1)

goes_named : (sh : List (Option Shape)) (g : GroupValue) (k : NameKind) (name : ℕ) → Leads sh (slots_of (Group g)) → Goes sh (kind_named k) (object_of name (names_of k g))
goes_named sh g textures name l = goes_found sh _ 0 name g.textures (group_parts sh g l).textures
goes_named sh g buffers name l = goes_found sh _ 4294967296 name g.buffers (group_parts sh g l).buffers
goes_named sh g renderbuffers name l = goes_found sh _ 8589934592 name g.renderbuffers (group_parts sh g l).renderbuffers
goes_named sh g framebuffers name l = goes_found sh _ 12884901888 name g.framebuffers (group_parts sh g l).framebuffers

pub goes_name : (sh : List (Option Shape)) (o : Option Object) (k : NameKind) (name : ℕ) → Leads sh (slots_in o) → Goes sh (kind_named k) (object_of name (option_map_or (names_of k) (as_group o) []))
goes_name sh (Some (Group g)) k name l = goes_named sh g k name l
goes_name sh o k name l = tt

-- ---- What a context has bound.
pub setter-bound : (slot : ℕ) (b : Option ℕ) → Setter (with_context (bound_at slot b))
setter-bound slot b = record { body = body; full = full }
  where
    body : (o : Option Object) → body_in (with_context (bound_at slot b) o) ≡ body_in o
    body (Some (Context c)) = refl
    body o = refl

    full : (o : Option Object) → Full o → Full (with_context (bound_at slot b) o)
    full (Some (Context c)) f = f
    full o f = f

leads-bound : (sh : List (Option Shape)) (b : BindTarget) (o : Option ℕ) → Goes sh (kind_named (name_kind b)) o → (c : ContextObject) → Leads sh (slots_of (Context c)) → Leads sh (slots_of (Context (bound_at (slot_of b) o c)))
leads-bound sh TextureTarget o g c l = (l.0, (l.1.0, (g, l.1.1.1)))
leads-bound sh ArrayBuffer o g c l = (l.0, (l.1.0, (l.1.1.0, (g, l.1.1.1.1))))
leads-bound sh ElementArrayBuffer o g c l = (l.0, (l.1.0, (l.1.1.0, (l.1.1.1.0, (g, l.1.1.1.1.1)))))
leads-bound sh RenderbufferTarget o g c l = (l.0, (l.1.0, (l.1.1.0, (l.1.1.1.0, (l.1.1.1.1.0, (g, l.1.1.1.1.1.1))))))
leads-bound sh FramebufferTarget o g c l = (l.0, (l.1.0, (l.1.1.0, (l.1.1.1.0, (l.1.1.1.1.0, (l.1.1.1.1.1.0, (g, l.1.1.1.1.1.1.1)))))))

pub suits-bound : (t : ℕ) (sh : List (Option Shape)) (s : State) (n : ℕ) (target : BindTarget) (b : Option ℕ) → Goes sh (kind_named (name_kind target)) b → Suits t sh s n (with_context (bound_at (slot_of target) b))
suits-bound t sh s n target b g = record { leads = leads; pixels = λ o k i. inl (ap (is_in k) (sym (looks o)) ∙ i); part = inl past_part; image = inl past_image }
  where
    past_part : (x : Option PartValue) (o : Option Object) → set_part x (with_context (bound_at (slot_of target) b) o) ≡ with_context (bound_at (slot_of target) b) (set_part x o)
    past_part x (Some (Context c)) = refl
    past_part x o = refl

    past_image : (y : Option ImageValue) (o : Option Object) → set_image y (with_context (bound_at (slot_of target) b) o) ≡ with_context (bound_at (slot_of target) b) (set_image y o)
    past_image y (Some (Context c)) = refl
    past_image y (Some (Storage v)) = refl
    past_image y o = refl

    looks : (o : Option Object) → pixels_in (with_context (bound_at (slot_of target) b) o) ≡ pixels_in o
    looks (Some (Context c)) = refl
    looks o = refl

    leads : (o : Option Object) → Leads sh (slots_in o) → Leads sh (slots_in (with_context (bound_at (slot_of target) b) o))
    leads (Some (Context c)) l = leads-bound sh target b g c l
    leads o l = l

-- ---- The names that a context has bound: its part changes too.
still_there : (which name : ℕ) (x : Option PartValue) → is_some x ≡ true → is_some (option_map (name_in_part which name) x) ≡ true
still_there which name None h = h
still_there which name (Some x) h = refl

still_named : (which name : ℕ) (x : Option PartValue) (b : Bindings) → IfSome x (λ p. p.bound ≡ b) → IfSome (option_map (name_in_part which name) x) (λ p. p.bound ≡ with_name which name b)
still_named which name None b h = tt
still_named which name (Some p) b h = ap (with_name which name) h

-- a change of a context by which neither its display nor its references change, which takes no part out, and after which the part still has bound the names that the context has
record Renames (h : ContextObject → ContextObject) : Type 0 where
  home : (c : ContextObject) → (h c).display ≡ c.display
  part : (c : ContextObject) → is_some c.part ≡ true → is_some (h c).part ≡ true
  names : (c : ContextObject) → IfSome c.part (λ p. p.bound ≡ c.names) → IfSome (h c).part (λ p. p.bound ≡ (h c).names)

setter-renamed : (h : ContextObject → ContextObject) → Renames h → Setter (with_context h)
setter-renamed h r = record { body = body; full = full }
  where
    body : (o : Option Object) → body_in (with_context h o) ≡ body_in o
    body (Some (Context c)) = ap (λ d. body_in (Some (Context (record c { display = d })))) (r.home c)
    body o = refl

    full : (o : Option Object) → Full o → Full (with_context h o)
    full (Some (Context c)) f = record { there = r.part c f.there; names = r.names c f.names; home = ap is_display (r.home c) ∙ f.home }
    full o f = f

suits-own : (t : ℕ) (sh : List (Option Shape)) (s : State) (n : ℕ) (h : ContextObject → ContextObject) → ((c : ContextObject) → Leads sh (slots_of (Context c)) → Leads sh (slots_of (Context (h c)))) → NoneElse (has_context n) s.threads t → Suits t sh s n (with_context h)
suits-own t sh s n h l mine = record { leads = leads; pixels = λ o k i. inl (ap (is_in k) (sym (looks o)) ∙ i); part = inr mine; image = inl past_image }
  where
    past_image : (y : Option ImageValue) (o : Option Object) → set_image y (with_context h o) ≡ with_context h (set_image y o)
    past_image y (Some (Context c)) = refl
    past_image y (Some (Storage v)) = refl
    past_image y o = refl

    looks : (o : Option Object) → pixels_in (with_context h o) ≡ pixels_in o
    looks (Some (Context c)) = refl
    looks o = refl

    leads : (o : Option Object) → Leads sh (slots_in o) → Leads sh (slots_in (with_context h o))
    leads (Some (Context c)) i = l c i
    leads o i = i

pub setter-named : (which name : ℕ) → Setter (with_context (named_at which name))
setter-named which name = setter-renamed (named_at which name) (record { home = λ c. refl; part = λ c f. still_there which name c.part f; names = λ c f. still_named which name c.part c.names f })

pub suits-named : (t : ℕ) (sh : List (Option Shape)) (s : State) (n which name : ℕ) → NoneElse (has_context n) s.threads t → Suits t sh s n (with_context (named_at which name))
suits-named t sh s n which name mine = suits-own t sh s n (named_at which name) (λ c l. l) mine

-- a context that lets go of an object, if it has that bound
renames-at : (b : BindTarget) (x : ℕ) → Renames (unbound_at b x)
renames-at b x = record {
  home = λ c. cond_both (is_place x (bound_in (slot_of b) c.bound)) _ c (λ (d : ContextObject). d.display ≡ c.display) (λ e. refl) (λ e. refl);
  part = λ c f. cond_both (is_place x (bound_in (slot_of b) c.bound)) _ c (λ (d : ContextObject). is_some d.part ≡ true) (λ e. still_there (binding_of b) 0 c.part f) (λ e. f);
  names = λ c f. cond_both (is_place x (bound_in (slot_of b) c.bound)) (bound_at (slot_of b) None (named_at (binding_of b) 0 c)) c (λ (d : ContextObject). IfSome d.part (λ p. p.bound ≡ d.names)) (λ e. still_named (binding_of b) 0 c.part c.names f) (λ e. f);
}

renames-then : (f g : ContextObject → ContextObject) → Renames f → Renames g → Renames (λ c. g (f c))
renames-then f g a b = record { home = λ c. b.home (f c) ∙ a.home c; part = λ c h. b.part (f c) (a.part c h); names = λ c h. b.names (f c) (a.names c h) }

renames-unbound : (k : NameKind) (x : ℕ) → Renames (unbound_object k x)
renames-unbound textures x = renames-at TextureTarget x
renames-unbound buffers x = renames-then (unbound_at ArrayBuffer x) (unbound_at ElementArrayBuffer x) (renames-at ArrayBuffer x) (renames-at ElementArrayBuffer x)
renames-unbound renderbuffers x = renames-at RenderbufferTarget x
renames-unbound framebuffers x = renames-at FramebufferTarget x

pub setter-unbound : (k : NameKind) (x : ℕ) → Setter (with_context (unbound_object k x))
setter-unbound k x = setter-renamed (unbound_object k x) (renames-unbound k x)

leads-at : (sh : List (Option Shape)) (b : BindTarget) (x : ℕ) (c : ContextObject) → Leads sh (slots_of (Context c)) → Leads sh (slots_of (Context (unbound_at b x c)))
leads-at sh b x c l = cond_both (is_place x (bound_in (slot_of b) c.bound)) (bound_at (slot_of b) None (named_at (binding_of b) 0 c)) c (λ (d : ContextObject). Leads sh (slots_of (Context d)))
    (λ e. leads-bound sh b None tt (named_at (binding_of b) 0 c) l) (λ e. l)

leads-unbound : (sh : List (Option Shape)) (k : NameKind) (x : ℕ) (c : ContextObject) → Leads sh (slots_of (Context c)) → Leads sh (slots_of (Context (unbound_object k x c)))
leads-unbound sh textures x c l = leads-at sh TextureTarget x c l
leads-unbound sh buffers x c l = leads-at sh ElementArrayBuffer x (unbound_at ArrayBuffer x c) (leads-at sh ArrayBuffer x c l)
leads-unbound sh renderbuffers x c l = leads-at sh RenderbufferTarget x c l
leads-unbound sh framebuffers x c l = leads-at sh FramebufferTarget x c l

pub suits-unbound : (t : ℕ) (sh : List (Option Shape)) (s : State) (n : ℕ) (k : NameKind) (x : ℕ) → NoneElse (has_context n) s.threads t → Suits t sh s n (with_context (unbound_object k x))
suits-unbound t sh s n k x mine = suits-own t sh s n (unbound_object k x) (leads-unbound sh k x) mine

-- ---- A framebuffer.
pub setter-framebuffer : (h : FramebufferValue → FramebufferValue) → Setter (with_framebuffer h)
setter-framebuffer h = record { body = body; full = full }
  where
    body : (o : Option Object) → body_in (with_framebuffer h o) ≡ body_in o
    body (Some (Framebuffer x)) = refl
    body o = refl

    full : (o : Option Object) → Full o → Full (with_framebuffer h o)
    full (Some (Framebuffer x)) f = tt
    full o f = f

suits-framebuffer : (t : ℕ) (sh : List (Option Shape)) (s : State) (n : ℕ) (h : FramebufferValue → FramebufferValue) → ((x : FramebufferValue) → Leads sh (slots_of (Framebuffer x)) → Leads sh (slots_of (Framebuffer (h x)))) → Suits t sh s n (with_framebuffer h)
suits-framebuffer t sh s n h l = record { leads = leads; pixels = λ o k i. inl (ap (is_in k) (sym (looks o)) ∙ i); part = inl past_part; image = inl past_image }
  where
    past_part : (x : Option PartValue) (o : Option Object) → set_part x (with_framebuffer h o) ≡ with_framebuffer h (set_part x o)
    past_part x (Some (Context c)) = refl
    past_part x (Some (Framebuffer g)) = refl
    past_part x o = refl

    past_image : (y : Option ImageValue) (o : Option Object) → set_image y (with_framebuffer h o) ≡ with_framebuffer h (set_image y o)
    past_image y (Some (Storage v)) = refl
    past_image y (Some (Framebuffer g)) = refl
    past_image y o = refl

    looks : (o : Option Object) → pixels_in (with_framebuffer h o) ≡ pixels_in o
    looks (Some (Framebuffer x)) = refl
    looks o = refl

    leads : (o : Option Object) → Leads sh (slots_in o) → Leads sh (slots_in (with_framebuffer h o))
    leads (Some (Framebuffer x)) i = l x i
    leads o i = i

-- what is attached is of the kind that its attachment tells
GoesAttached : List (Option Shape) → Option Attached → Type 0
GoesAttached sh a = Goes sh (attached_kind a) (framebuffers_of.object_of a)

leads-point : (sh : List (Option Shape)) (point : Point) (a : Option Attached) → GoesAttached sh a → (x : FramebufferValue) → Leads sh (slots_of (Framebuffer x)) → Leads sh (slots_of (Framebuffer (with_point point a x)))
unfolding GoesAttached
leads-point sh Color a g x l = (g, l.1)
leads-point sh Depth a g x l = (l.0, (g, l.1.1))
leads-point sh Stencil a g x l = (l.0, (l.1.0, (g, tt)))

leads-detached_at : (sh : List (Option Shape)) (point : Point) (n : ℕ) (x : FramebufferValue) → Leads sh (slots_of (Framebuffer x)) → Leads sh (slots_of (Framebuffer (detached_at point n x)))
unfolding GoesAttached
leads-detached_at sh point n x l = cond_both (is_place n (framebuffers_of.object_of (at_point point x))) (with_point point None x) x (λ (y : FramebufferValue). Leads sh (slots_of (Framebuffer y)))
    (λ e. leads-point sh point None tt x l) (λ e. l)

leads-detached : (sh : List (Option Shape)) (n : ℕ) (x : FramebufferValue) → Leads sh (slots_of (Framebuffer x)) → Leads sh (slots_of (Framebuffer (detached_from n x)))
leads-detached sh n x l = leads-detached_at sh Stencil n _ (leads-detached_at sh Depth n _ (leads-detached_at sh Color n x l))

pub suits-detached : (t : ℕ) (sh : List (Option Shape)) (s : State) (b n : ℕ) → Suits t sh s b (with_framebuffer (detached_from n))
suits-detached t sh s b n = suits-framebuffer t sh s b (detached_from n) (leads-detached sh n)

pub suits-point : (t : ℕ) (sh : List (Option Shape)) (s : State) (b : ℕ) (point : Point) (a : Option Attached) → Goes sh (attached_kind a) (framebuffers_of.object_of a) → Suits t sh s b (with_framebuffer (with_point point a))
unfolding GoesAttached
suits-point t sh s b point a g = suits-framebuffer t sh s b (with_point point a) (leads-point sh point a g)

-- ---- A texture.
pub setter-texture : (h : BackedTexture → BackedTexture) → Setter (with_texture h)
setter-texture h = record { body = body; full = full }
  where
    body : (o : Option Object) → body_in (with_texture h o) ≡ body_in o
    body (Some (Texture x)) = refl
    body o = refl

    full : (o : Option Object) → Full o → Full (with_texture h o)
    full (Some (Texture x)) f = tt
    full o f = f

suits-texture : (t : ℕ) (sh : List (Option Shape)) (s : State) (n : ℕ) (h : BackedTexture → BackedTexture) → ((x : BackedTexture) → Leads sh (level_slots 0 x.levels) → Leads sh (level_slots 0 (h x).levels)) → ((x : BackedTexture) (k : ℕ) → is_in k (filled (h x).levels) ≡ true → (is_in k (filled x.levels) ≡ true) ⊎ IsFree sh k) → Suits t sh s n (with_texture h)
suits-texture t sh s n h l p = record { leads = leads; pixels = pixels; part = inl past_part; image = inl past_image }
  where
    past_part : (x : Option PartValue) (o : Option Object) → set_part x (with_texture h o) ≡ with_texture h (set_part x o)
    past_part x (Some (Context c)) = refl
    past_part x (Some (Texture g)) = refl
    past_part x o = refl

    past_image : (y : Option ImageValue) (o : Option Object) → set_image y (with_texture h o) ≡ with_texture h (set_image y o)
    past_image y (Some (Storage v)) = refl
    past_image y (Some (Texture g)) = refl
    past_image y o = refl

    pixels : (o : Option Object) (k : ℕ) → is_in k (pixels_in (with_texture h o)) ≡ true → (is_in k (pixels_in o) ≡ true) ⊎ IsFree sh k
    pixels (Some (Texture x)) k i = p x k i
    pixels o k i = inl i

    leads : (o : Option Object) → Leads sh (slots_in o) → Leads sh (slots_in (with_texture h o))
    leads (Some (Texture x)) i = l x i
    leads o i = i

pub suits-value : (t : ℕ) (sh : List (Option Shape)) (s : State) (n pname value : ℕ) → Suits t sh s n (with_texture (with_value pname value))
suits-value t sh s n pname value = suits-texture t sh s n (with_value pname value) (λ x l. l) (λ x k i. inl i)

pub suits-crop : (t : ℕ) (sh : List (Option Shape)) (s : State) (n : ℕ) (xs : List ℤ) → Suits t sh s n (with_texture (with_crop xs))
suits-crop t sh s n xs = suits-texture t sh s n (with_crop xs) (λ x l. l) (λ x k i. inl i)

leads_level : (sh : List (Option Shape)) (o : Option ℕ) → Goes sh a_storage o → (i : ℕ) (xs : List (Option ℕ)) (k : ℕ) → Leads sh (level_slots i xs) → Leads sh (level_slots i (set xs k o))
leads_level sh o g i [] k l = tt
leads_level sh o g i (x ∷ xs) zero l = (g, l.1)
leads_level sh o g i (x ∷ xs) (suc k) l = (l.0, leads_level sh o g (i + 1) xs k l.1)

filled_set : (m : ℕ) (o : Option ℕ) (xs : List (Option ℕ)) (k : ℕ) → is_in m (filled (set xs k o)) ≡ true → (is_in m (filled xs) ≡ true) ⊎ (is_in m (option_to_list o) ≡ true)
filled_set m o [] k h = inl h
filled_set m o (x ∷ xs) zero h = elim (in_cases m (option_to_list o) (filled xs) h) [
  | inl e ↦ inr e
  | inr e ↦ inl (in_right m (option_to_list x) (filled xs) e)
]
filled_set m o (x ∷ xs) (suc k) h = elim (in_cases m (option_to_list x) (filled (set xs k o)) h) [
  | inl e ↦ inl (in_left m (option_to_list x) (filled xs) e)
  | inr e ↦ elim (filled_set m o xs k e) [
    | inl f ↦ inl (in_right m (option_to_list x) (filled xs) f)
    | inr f ↦ inr f
  ]
]

-- ---- The pixels of a texture's level, or of a renderbuffer.
pub setter-pixels : (k : ℕ) (o : Option ℕ) → Setter (with_pixels k o)
setter-pixels k o = record { body = body; full = full }
  where
    body : (y : Option Object) → body_in (with_pixels k o y) ≡ body_in y
    body (Some (Texture x)) = refl
    body (Some (Renderbuffer x)) = refl
    body y = refl

    full : (y : Option Object) → Full y → Full (with_pixels k o y)
    full (Some (Texture x)) f = tt
    full (Some (Renderbuffer x)) f = tt
    full y f = f

pub suits-pixels : (t : ℕ) (sh : List (Option Shape)) (s : State) (n k : ℕ) (o : Option ℕ) → Goes sh a_storage o → ((m : ℕ) → is_in m (option_to_list o) ≡ true → IsFree sh m) → Suits t sh s n (with_pixels k o)
suits-pixels t sh s n k o g free = record { leads = leads; pixels = pixels; part = inl past_part; image = inl past_image }
  where
    past_part : (x : Option PartValue) (y : Option Object) → set_part x (with_pixels k o y) ≡ with_pixels k o (set_part x y)
    past_part x (Some (Context c)) = refl
    past_part x (Some (Texture a)) = refl
    past_part x (Some (Renderbuffer a)) = refl
    past_part x y = refl

    past_image : (i : Option ImageValue) (y : Option Object) → set_image i (with_pixels k o y) ≡ with_pixels k o (set_image i y)
    past_image i (Some (Storage v)) = refl
    past_image i (Some (Texture a)) = refl
    past_image i (Some (Renderbuffer a)) = refl
    past_image i y = refl

    in_row : (xs : List (Option ℕ)) (j m : ℕ) → is_in m (filled (set xs j o)) ≡ true → (is_in m (filled xs) ≡ true) ⊎ IsFree sh m
    in_row xs j m i = elim (filled_set m o xs j i) [
      | inl e ↦ inl e
      | inr e ↦ inr (free m e)
    ]

    pixels : (y : Option Object) (m : ℕ) → is_in m (pixels_in (with_pixels k o y)) ≡ true → (is_in m (pixels_in y) ≡ true) ⊎ IsFree sh m
    pixels (Some (Texture x)) m i = in_row x.levels k m i
    pixels (Some (Renderbuffer x)) m i = in_row (x.storage ∷ []) 0 m i
    pixels y m i = inl i

    leads : (y : Option Object) → Leads sh (slots_in y) → Leads sh (slots_in (with_pixels k o y))
    leads (Some (Texture x)) l = leads_level sh o g 0 x.levels k l
    leads (Some (Renderbuffer x)) l = (g, tt)
    leads y l = l
