-- A whole state is linked, and a sweep leaves it whole.
use Rattle.std.proofs.Common.{◌≡◌, ℕ, ℤ, zero, suc, ◌+◌, ◌<◌, inl, inr, Bool, true, false, cond, List, [], ◌∷◌, ◌++◌, refl, sym, ap, subst, ◌∙◌, arith, length, map, Option, None, Some, get_or, is_some, append_assoc}
use Rattle.std.specs.Prelude.{All, ◌==◌, option_to_list}
use Rattle.std.specs.List.{flat_map}
use Rattle.std.specs.Option.{option_map}
use Rattle.std.proofs.lemmas.List.Elements.{All-head, All-tail}
use Rattle.std.proofs.lemmas.Bool.{eq-eqb, or_left}
use Rattle.driver_objects.specs.declared.kinds.ObjectKind.{ObjectKind}
use Rattle.driver_objects.specs.declared.objects.Object.{Object}
use Rattle.driver_objects.specs.declared.objects.Object.TheVariants.{Context, Group, Texture, Buffer, Renderbuffer, Framebuffer, Surface, Storage, Image, Sync}
use Rattle.driver_objects.specs.Objects.{kind_of, rank_of, rank_of_kind}
use Rattle.model_laws.specs.Slots.{Slot, ends, held_slots, level_slots, name_slots, slots_of}
use Rattle.share_group.specs.declared.names.Name.{Name}
use Rattle.share_group.specs.Groups.{GroupValue, edges_of}
use Rattle.share_group.specs.Names.{objects_in}
use Rattle.driver_objects.specs.Objects.{filled}
use Rattle.driver_objects.proofs.SlotLaws.{objects_cons}
use Rattle.display_table.specs.declared.handles.Handle.{Handle}
use Rattle.egl_model.specs.declared.records.Bound.{Bound}
use Rattle.egl_model.specs.declared.records.ThreadRecord.{ThreadRecord}
use Rattle.egl_model.specs.Graph.{is_in}
use Rattle.egl_model.specs.State.{State, initial, object_at, record_of, has_object}
use Rattle.model_laws.specs.Kinds.{KindsFit, NamesItsKind, named_kind}
use Rattle.egl_model.specs.Links.{IsLinked, is_root, rank_in, refers}
use Rattle.model_laws.specs.Shapes.{Goes, HasKind, Leads, Shape, kind_at, own_at, pixels_in, shapes, sides_at, slots_in}
use Rattle.model_laws.specs.Sound.{IsWhole, OwnAreThawed, SidesAgree, StoragesAreOwn}
use Rattle.egl_model.specs.Sweep.{bound_object, edges_at, edges_in, held_by, is_reached, roots, roots_of, sweep}
use Rattle.model_laws.proofs.References.LinkLaws.{reached_on, root_marked, same_object}
use Rattle.model_laws.proofs.Changes.Moves.{frozen_in, own_in, sides_in, window_id_in}
use Rattle.model_laws.proofs.References.Places.{frozen_at-shapes, kind_at-shapes, own_at-shapes, sides_at-shapes, window_id_at-shapes}
use Rattle.model_laws.proofs.References.Slots.{LedTo, in_cases, in_left, in_right, led_object, no_edge, only_one}
use Rattle.model_laws.proofs.References.SweepLaws.{object_at-sweep}

-- ---- Roots.
pub held_as_ends : (r : ThreadRecord) → held_by r ≡ ends (held_slots r)
held_as_ends r = go r.context r.draw r.read r.wait
  where
    go : (a b c : Option Bound) (d : Option ℕ) → (bound_object a ++ bound_object b ++ bound_object c ++ option_to_list d) ≡ (option_to_list (option_map (λ b. b.object) a) ++ (option_to_list (option_map (λ b. b.object) b) ++ (option_to_list (option_map (λ b. b.object) c) ++ (option_to_list d ++ []))))
    go None None None None = refl
    go None None None (Some d) = refl
    go None None (Some c) None = refl
    go None None (Some c) (Some d) = refl
    go None (Some b) None None = refl
    go None (Some b) None (Some d) = refl
    go None (Some b) (Some c) None = refl
    go None (Some b) (Some c) (Some d) = refl
    go (Some a) None None None = refl
    go (Some a) None None (Some d) = refl
    go (Some a) None (Some c) None = refl
    go (Some a) None (Some c) (Some d) = refl
    go (Some a) (Some b) None None = refl
    go (Some a) (Some b) None (Some d) = refl
    go (Some a) (Some b) (Some c) None = refl
    go (Some a) (Some b) (Some c) (Some d) = refl

named_by : List Handle → List ℕ
named_by hs = map (λ h. h.object) hs

is_handle : (hs : List Handle) (ts : List ThreadRecord) (n : ℕ) → is_in n (named_by hs) ≡ true → is_in n (roots_of hs ts) ≡ true
unfolding roots_of named_by
is_handle hs ts n h = in_left n (map (λ h. h.object) hs) (flat_map held_by ts) h

held_at : (ts : List ThreadRecord) (t n : ℕ) → is_in n (held_by (get_or ts t initial)) ≡ true → is_in n (flat_map held_by ts) ≡ true
held_at [] t n h = h
held_at (x ∷ ts) zero n h = in_left n (held_by x) (flat_map held_by ts) h
held_at (x ∷ ts) (suc t) n h = in_right n (held_by x) (flat_map held_by ts) (held_at ts t n h)

pub is_held : (hs : List Handle) (ts : List ThreadRecord) (t n : ℕ) → is_in n (held_by (get_or ts t initial)) ≡ true → is_in n (roots_of hs ts) ≡ true
unfolding roots_of
is_held hs ts t n h = in_right n (map (λ h. h.object) hs) (flat_map held_by ts) (held_at ts t n h)

-- ---- What a root leads to exists.
pub record AtKind (sh : List (Option Shape)) (n : ℕ) : Type 0 where
  pub kind : ObjectKind
  pub has : HasKind sh kind n

by_handles : (sh : List (Option Shape)) (hs : List Handle) (n : ℕ) → All (NamesItsKind sh) hs → is_in n (named_by hs) ≡ true → AtKind sh n
unfolding named_by
by_handles sh [] n a h = no_edge n h
by_handles sh (x ∷ hs) n a h = elim (in_cases n (x.object ∷ []) (named_by hs) h) [
  | inl e ↦ record { kind = named_kind x.kind; has = record { is = ap (kind_at sh) (sym (only_one n x.object e)) ∙ (All-head (NamesItsKind sh) x hs a).is } }
  | inr e ↦ by_handles sh hs n (All-tail (NamesItsKind sh) x hs a) e
]

goes_to : (sh : List (Option Shape)) (k : ObjectKind) (o : Option ℕ) (n : ℕ) → Goes sh k o → is_in n (option_to_list o) ≡ true → AtKind sh n
goes_to sh k None n g h = no_edge n h
goes_to sh k (Some m) n g h = record { kind = k; has = record { is = ap (kind_at sh) (sym (only_one n m h)) ∙ g.is } }

pub by_slots : (sh : List (Option Shape)) (ls : List Slot) (n : ℕ) → Leads sh ls → is_in n (ends ls) ≡ true → AtKind sh n
by_slots sh [] n l h = no_edge n h
by_slots sh (x ∷ xs) n l h = elim (in_cases n (option_to_list x.to) (ends xs) h) [
  | inl e ↦ goes_to sh x.kind x.to n l.0 e
  | inr e ↦ by_slots sh xs n l.1 e
]

by_threads : (sh : List (Option Shape)) (ts : List ThreadRecord) (n : ℕ) → ((t : ℕ) → Leads sh (held_slots (get_or ts t initial))) → is_in n (flat_map held_by ts) ≡ true → AtKind sh n
by_threads sh [] n l h = no_edge n h
by_threads sh (x ∷ ts) n l h = elim (in_cases n (held_by x) (flat_map held_by ts) h) [
  | inl e ↦ by_slots sh (held_slots x) n (l zero) (ap (is_in n) (sym (held_as_ends x)) ∙ e)
  | inr e ↦ by_threads sh ts n (λ t. l (suc t)) e
]

by_roots : (sh : List (Option Shape)) (s : State) (n : ℕ) → KindsFit sh s → is_root s n ≡ true → AtKind sh n
unfolding roots_of named_by
by_roots sh s n k h = elim (in_cases n (map (λ h. h.object) s.handles) (flat_map held_by s.threads) h) [
  | inl e ↦ by_handles sh s.handles n k.handles e
  | inr e ↦ by_threads sh s.threads n k.threads e
]

there : (o : Option Object) (k : ObjectKind) → option_map kind_of o ≡ Some k → is_some o ≡ true
there None k h = absurd (let e : None ≡ Some k = h in cc)
there (Some x) k h = refl

pub exists_at : (s : State) (k : ObjectKind) (n : ℕ) → HasKind (shapes s.objects) k n → has_object s n ≡ true
exists_at s k n h = there (object_at s n) k (sym (kind_at-shapes s.objects n) ∙ h.is)

rank_by_kind : (o : Option Object) (k : ObjectKind) → option_map kind_of o ≡ Some k → rank_in o ≡ rank_of_kind k
rank_by_kind None k h = absurd (let e : None ≡ Some k = h in cc)
rank_by_kind (Some x) k h = ap rank_of_kind (same_kind (kind_of x) k h)
  where
    same_kind : (a b : ObjectKind) → Some a ≡ Some b → a ≡ b
    same_kind a b e = cc

ends_names : (first : ℕ) (k : ObjectKind) (xs : List Name) (ys : List Slot) → ends (name_slots first k xs ++ ys) ≡ objects_in xs ++ ends ys
ends_names first k [] ys = refl
ends_names first k (x ∷ xs) ys =
    ap (λ l. option_to_list x.object ++ l) (ends_names first k xs ys) ∙ sym (append_assoc (option_to_list x.object) (objects_in xs) (ends ys))
    ∙ ap (λ l. l ++ ends ys) (sym (objects_cons x xs))

ends_all : (first : ℕ) (k : ObjectKind) (xs : List Name) → ends (name_slots first k xs) ≡ objects_in xs
ends_all first k [] = refl
ends_all first k (x ∷ xs) = ap (λ l. option_to_list x.object ++ l) (ends_all first k xs) ∙ sym (objects_cons x xs)

ends_group : (g : GroupValue) → edges_of g ≡ ends (slots_of (Group g))
unfolding edges_of
ends_group g = sym (
    ends_names 0 _ g.textures _
    ∙ ap (λ l. objects_in g.textures ++ l) (ends_names 4294967296 _ g.buffers _
    ∙ ap (λ l. objects_in g.buffers ++ l) (ends_names 8589934592 _ g.renderbuffers _
    ∙ ap (λ l. objects_in g.renderbuffers ++ l) (ends_all 12884901888 _ g.framebuffers))))

ends_levels : (i : ℕ) (xs : List (Option ℕ)) → filled xs ≡ ends (level_slots i xs)
ends_levels i [] = refl
ends_levels i (x ∷ xs) = ap (λ l. option_to_list x ++ l) (ends_levels (i + 1) xs)

pub edges_as_ends : (o : Option Object) → edges_in o ≡ ends (slots_in o)
edges_as_ends None = refl
edges_as_ends (Some (Context c)) = refl
edges_as_ends (Some (Group g)) = ends_group g
edges_as_ends (Some (Texture x)) = ends_levels 0 x.levels
edges_as_ends (Some (Buffer x)) = refl
edges_as_ends (Some (Renderbuffer x)) = refl
edges_as_ends (Some (Framebuffer x)) = refl
edges_as_ends (Some (Surface x)) = refl
edges_as_ends (Some (Storage x)) = refl
edges_as_ends (Some (Image x)) = refl
edges_as_ends (Some (Sync x)) = refl

rank_of_some : (o : Option Object) (x : Object) → o ≡ Some x → rank_of x ≡ rank_in o
rank_of_some o x e = ap rank_in (sym e)

led_by : (s : State) → IsWhole (shapes s.objects) s → (m n : ℕ) → refers s m n ≡ true → LedTo (shapes s.objects) (rank_in (object_at s m)) n
unfolding edges_at
led_by s w m n h = led_object (shapes s.objects) (object_at s m) (rank_in (object_at s m)) n (w.kinds.objects m) (rank_of_some (object_at s m)) (ap (is_in n) (sym (edges_as_ends (object_at s m))) ∙ h)

pub linked_from : (s : State) → IsWhole (shapes s.objects) s → IsLinked s
linked_from s w = record {
  roots = λ n h. let r = by_roots (shapes s.objects) s n w.kinds h in exists_at s r.kind n r.has;
  edges = λ m n h. let r = led_by s w m n h in exists_at s r.kind n r.has;
  falls = λ m n h. let r = led_by s w m n h in let a = rank_by_kind (object_at s n) r.kind (sym (kind_at-shapes s.objects n) ∙ r.has.is) in let b = r.low in omega (arith, a, b);
}

-- ---- A sweep.
kept_kind : (s : State) (k : ObjectKind) (n : ℕ) → is_reached s n ≡ true → HasKind (shapes s.objects) k n → HasKind (shapes (sweep s).objects) k n
kept_kind s k n r h = record {
  is = kind_at-shapes (sweep s).objects n ∙ ap (option_map kind_of) (same_object s n r) ∙ sym (kind_at-shapes s.objects n) ∙ h.is;
}

kept_goes : (s : State) (k : ObjectKind) (o : Option ℕ) → ((n : ℕ) → is_in n (option_to_list o) ≡ true → is_reached s n ≡ true) → Goes (shapes s.objects) k o → Goes (shapes (sweep s).objects) k o
kept_goes s k None r g = tt
kept_goes s k (Some n) r g = kept_kind s k n (r n (itself n)) g
  where
    itself : (n : ℕ) → is_in n (n ∷ []) ≡ true
    itself n = or_left (n == n) false (eq-eqb n n refl)

kept_leads : (s : State) (ls : List Slot) → ((n : ℕ) → is_in n (ends ls) ≡ true → is_reached s n ≡ true) → Leads (shapes s.objects) ls → Leads (shapes (sweep s).objects) ls
kept_leads s [] r l = tt
kept_leads s (x ∷ xs) r l = (
  kept_goes s x.kind x.to (λ n h. r n (in_left n (option_to_list x.to) (ends xs) h)) l.0,
  kept_leads s xs (λ n h. r n (in_right n (option_to_list x.to) (ends xs) h)) l.1,
)

pub reached_root : (s : State) (n : ℕ) → is_root s n ≡ true → is_reached s n ≡ true
reached_root s n h = root_marked (roots s) (edges_at s.objects) 4 n h

kept_handles : (s : State) (hs : List Handle) → ((n : ℕ) → is_in n (named_by hs) ≡ true → is_reached s n ≡ true) → All (NamesItsKind (shapes s.objects)) hs → All (NamesItsKind (shapes (sweep s).objects)) hs
unfolding named_by
kept_handles s hs r a k d h = kept_kind s (named_kind (get_or hs k d).kind) (get_or hs k d).object (r (get_or hs k d).object (named_at hs k d h)) (a k d h)
  where
    named_at : (hs : List Handle) (k : ℕ) (d : Handle) → k < length hs → is_in (get_or hs k d).object (map (λ h. h.object) hs) ≡ true
    named_at [] k d h = absurd (omega arith)
    named_at (x ∷ hs) zero d h = or_left (x.object == x.object) _ (eq-eqb x.object x.object refl)
    named_at (x ∷ hs) (suc k) d h = in_right (get_or hs k d).object (x.object ∷ []) (map (λ h. h.object) hs) (named_at hs k d (omega (arith, h)))

kept_slots : (s : State) (b : Bool) (o p : Option Object) → b ≡ b → p ≡ cond b o None → (b ≡ true → Leads (shapes (sweep s).objects) (slots_in o)) → Leads (shapes (sweep s).objects) (slots_in p)
kept_slots s true o p r e h = subst (λ q. Leads (shapes (sweep s).objects) (slots_in q)) (sym e) (h refl)
kept_slots s false o p r e h = subst (λ q. Leads (shapes (sweep s).objects) (slots_in q)) (sym e) tt

objects-sweep : (s : State) → IsWhole (shapes s.objects) s → (n : ℕ) → Leads (shapes (sweep s).objects) (slots_in (object_at (sweep s) n))
unfolding edges_at
objects-sweep s w n = kept_slots s (is_reached s n) (object_at s n) (object_at (sweep s) n) refl (object_at-sweep s n)
    (λ r. kept_leads s (slots_in (object_at s n)) (λ m h. reached_on s (linked_from s w) n m r (ap (is_in m) (edges_as_ends (object_at s n)) ∙ h)) (w.kinds.objects n))

own_before : (b : Bool) (o : Option Object) (k : ℕ) → own_in (cond b o None) ≡ Some k → own_in o ≡ Some k
own_before true o k h = h
own_before false o k h = absurd (let e : None ≡ Some k = h in cc)

pixels_before : (b : Bool) (o : Option Object) (k : ℕ) → is_in k (pixels_in (cond b o None)) ≡ true → is_in k (pixels_in o) ≡ true
pixels_before true o k h = h
pixels_before false o k h = no_edge k h

own-sweep : (s : State) → StoragesAreOwn (shapes s.objects) s → StoragesAreOwn (shapes (sweep s).objects) (sweep s)
own-sweep s o = record {
  each = λ m n k e h. o.each m n k
      (own_at-shapes s.objects m ∙ own_before (is_reached s m) (object_at s m) k (ap own_in (sym (object_at-sweep s m)) ∙ sym (own_at-shapes (sweep s).objects m) ∙ e))
      (pixels_before (is_reached s n) (object_at s n) k (ap (λ (x : Option Object). is_in k (pixels_in x)) (sym (object_at-sweep s n)) ∙ h));
}

thawed_kept : (b : Bool) (o : Option Object) → frozen_in o ≡ false → frozen_in (cond b o None) ≡ false
thawed_kept true o h = h
thawed_kept false o h = refl

thawed-sweep : (s : State) → OwnAreThawed (shapes s.objects) → OwnAreThawed (shapes (sweep s).objects)
thawed-sweep s o = record {
  each = λ m k e.
      let before : own_at (shapes s.objects) m ≡ Some k = own_at-shapes s.objects m ∙ own_before (is_reached s m) (object_at s m) k (ap own_in (sym (object_at-sweep s m)) ∙ sym (own_at-shapes (sweep s).objects m) ∙ e) in
      frozen_at-shapes (sweep s).objects k ∙ ap frozen_in (object_at-sweep s k) ∙ thawed_kept (is_reached s k) (object_at s k) (sym (frozen_at-shapes s.objects k) ∙ o.each m k before);
}

-- a surface that is kept keeps its storage, and both have the sides that they had
kept_where : (b : Bool) (o : Option Object) (k : ℕ) → own_in (cond b o None) ≡ Some k → b ≡ true
kept_where true o k e = refl
kept_where false o k e = absurd (let f : None ≡ Some k = e in cc)

own_edge : (o : Option Object) (k : ℕ) → own_in o ≡ Some k → is_in k (edges_in o) ≡ true
own_edge (Some (Surface x)) k e = or_left (x.storage == k) false (eq-eqb x.storage k (let f : Some x.storage ≡ Some k = e in cc))
own_edge o k e = absurd (let f : None ≡ Some k = e in cc)

same_sides : (s : State) (n : ℕ) → is_reached s n ≡ true → sides_at (shapes (sweep s).objects) n ≡ sides_at (shapes s.objects) n
same_sides s n r = sides_at-shapes (sweep s).objects n ∙ ap sides_in (same_object s n r) ∙ sym (sides_at-shapes s.objects n)

storage_sides-sweep : (s : State) → IsWhole (shapes s.objects) s → (m k : ℕ) → own_at (shapes (sweep s).objects) m ≡ Some k → sides_at (shapes (sweep s).objects) k ≡ sides_at (shapes (sweep s).objects) m
unfolding edges_at
storage_sides-sweep s w m k e =
    let f : own_in (cond (is_reached s m) (object_at s m) None) ≡ Some k = ap own_in (sym (object_at-sweep s m)) ∙ sym (own_at-shapes (sweep s).objects m) ∙ e in
    let before : own_in (object_at s m) ≡ Some k = own_before (is_reached s m) (object_at s m) k f in
    let r = kept_where (is_reached s m) (object_at s m) k f in
    same_sides s k (reached_on s (linked_from s w) m k r (own_edge (object_at s m) k before))
    ∙ w.sides.storage m k (own_at-shapes s.objects m ∙ before) ∙ sym (same_sides s m r)

window_before : (b : Bool) (o : Option Object) (id : ℤ) → window_id_in (cond b o None) ≡ Some id → (b ≡ true) × (window_id_in o ≡ Some id)
window_before true o id e = (refl, e)
window_before false o id e = absurd (let f : None ≡ Some id = e in cc)

sides-sweep : (s : State) → IsWhole (shapes s.objects) s → SidesAgree (shapes (sweep s).objects) s.windows
sides-sweep s w = record {
  storage = storage_sides-sweep s w;
  window = λ m id e.
      let a = window_before (is_reached s m) (object_at s m) id (ap window_id_in (sym (object_at-sweep s m)) ∙ sym (window_id_at-shapes (sweep s).objects m) ∙ e) in
      same_sides s m a.0 ∙ w.sides.window m id (window_id_at-shapes s.objects m ∙ a.1);
}

pub whole-sweep : (s : State) → IsWhole (shapes s.objects) s → IsWhole (shapes (sweep s).objects) (sweep s)
unfolding named_by
whole-sweep s w = record {
  kinds = record {
    handles = kept_handles s s.handles (λ n h. reached_root s n (is_handle s.handles s.threads n h)) w.kinds.handles;
    threads = λ t. kept_leads s (held_slots (record_of s t)) (λ n h. reached_root s n (is_held s.handles s.threads t n (ap (is_in n) (held_as_ends (record_of s t)) ∙ h))) (w.kinds.threads t);
    objects = objects-sweep s w;
  };
  storages = own-sweep s w.storages;
  thawed = thawed-sweep s w.thawed;
  sides = sides-sweep s w;
  alone = record { contexts = w.alone.contexts; surfaces = w.alone.surfaces };
  both = record { draw = w.both.draw; read = w.both.read };
  numbers = record { next = w.numbers.next; handles = w.numbers.handles; apart = w.numbers.apart; context = w.numbers.context; draw = w.numbers.draw; read = w.numbers.read };
}
