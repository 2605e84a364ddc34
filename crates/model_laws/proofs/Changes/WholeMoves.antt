-- Each move that fits leads from a whole state to a whole one, and so does a row of them.
use Rattle.std.proofs.Common.{◌≡◌, ℕ, ℤ, zero, suc, ◌+◌, ◌-◌, ◌<◌, ◌≤◌, inl, inr, true, List, [], ◌∷◌, ◌++◌, refl, sym, ap, subst, ◌∙◌, arith, false, length, Option, None, Some, get_or}
use Rattle.std.proofs.lemmas.Bool.{cases_lt}
use Rattle.std.proofs.lemmas.List.Elements.{All-filter, All-push, All-weaker}
use Rattle.driver_objects.specs.declared.kinds.ObjectKind.TheVariants.{Storage as a_storage}
use Rattle.driver_objects.specs.declared.objects.Object.{Object}
use Rattle.egl_calls.specs.Ranges.{unsigned}
use Rattle.surface_store.specs.Windows.{WindowValue}
use Rattle.egl_model.specs.Graph.{is_in}
use Rattle.egl_model.specs.State.{State, record_of, set_record}
use Rattle.egl_model.specs.declared.records.ThreadRecord.{ThreadRecord}
use Rattle.model_laws.specs.Kinds.{KindsFit, NamesItsKind, named_kind}
use Rattle.model_laws.specs.Shapes.{Leads, Shape, frozen_at, own_at, pixels_in, shapes, sides_at, slots_in}
use Rattle.model_laws.specs.Slots.{held_slots}
use Rattle.model_laws.specs.Sound.{HasBothOrNone, IsAlone, IsWhole, NumbersAreGiven, OwnAreThawed, SidesAgree, StoragesAreOwn, window_sides}
use Rattle.model_laws.proofs.Changes.Moves.{Wait, Body, Resize, Add, AllFit, AllHold, Bind, Change, Fits, Flags, Holds, IsStored, Keep, Move, Name, Note, Swap, Stands, Suits, apply, frozen_in, own_in, play, shapes_after, sides_in, window_id_in}
use Rattle.model_laws.proofs.References.Places.{at_new, at_old, each_at_set, each_place_at_set, frozen_at-shapes, length-shapes, old_kind, own_at-shapes, shapes-append, shapes-set, sides_at-shapes, window_id_at-shapes, within_shapes}
use Rattle.model_laws.proofs.Changes.CurrentMoves.{SameBound, alone-bind, alone-record, below-bind, below-keep, below-name, below-record, both-bind, both-record, held-bind, held-record}
use Rattle.model_laws.proofs.Windows.WindowForms.{window_sides-swapped}
use Rattle.model_laws.proofs.References.Slots.{leads_more, no_edge, own_is_storage, pixels_are_storages}

-- ---- The threads and handles of a state with other objects or flags.
alone_as : (s a : State) → a.threads ≡ s.threads → IsAlone s → IsAlone a
alone_as s a e h = record { contexts = rw e h.contexts; surfaces = rw e h.surfaces }

both_as : (s a : State) → a.threads ≡ s.threads → HasBothOrNone s → HasBothOrNone a
both_as s a e h = record { draw = rw e h.draw; read = rw e h.read }

below_as : (s a : State) → a.handles ≡ s.handles → a.next_handle ≡ s.next_handle → a.threads ≡ s.threads → NumbersAreGiven s → NumbersAreGiven a
below_as s a e f g b = record {
  next = rw f b.next;
  handles = rw (e, f) b.handles;
  apart = rw e b.apart;
  context = rw (f, g) b.context;
  draw = rw (f, g) b.draw;
  read = rw (f, g) b.read;
}

-- a state that differs in its objects or flags
objects_whole : (sh ti : List (Option Shape)) (s a : State) → a.handles ≡ s.handles → a.next_handle ≡ s.next_handle → a.threads ≡ s.threads → KindsFit ti a → StoragesAreOwn ti a → OwnAreThawed ti → SidesAgree ti a.windows → IsWhole sh s → IsWhole ti a
objects_whole sh ti s a e f g k o th si w = record {
  kinds = k;
  storages = o;
  thawed = th;
  sides = si;
  alone = alone_as s a g w.alone;
  both = both_as s a g w.both;
  numbers = below_as s a e f g w.numbers;
}

-- ---- An object changed in place.
whole-change : (t n : ℕ) (f : Option Object → Option Object) (s : State) → Suits t (shapes s.objects) s n f → IsWhole (shapes s.objects) s → IsWhole (shapes s.objects) (apply t (Change n f) s)
whole-change t n f s u w = objects_whole (shapes s.objects) (shapes s.objects) s (apply t (Change n f) s) refl refl refl
    (record {
      handles = w.kinds.handles;
      threads = w.kinds.threads;
      objects = each_at_set (λ o. Leads (shapes s.objects) (slots_in o)) s.objects n (f (get_or s.objects n None)) None (u.leads (get_or s.objects n None) (w.kinds.objects n)) w.kinds.objects;
    })
    (record {
      each = λ m x k e. each_place_at_set (λ y o. is_in k (pixels_in o) ≡ true → y ≡ m) s.objects n (f (get_or s.objects n None)) None
          (λ h. elim (u.pixels (get_or s.objects n None) k h) [
            | inl i ↦ w.storages.each m n k e i
            | inr i ↦ absurd (i.each m e)
          ])
          (λ y h. w.storages.each m y k e h) x;
    })
    w.thawed w.sides w

-- ---- New objects.
record StandsAt (sh : List (Option Shape)) (ws : List WindowValue) (place : ℕ) (o : Option Object) : Type 0 where
  pub leads : Leads sh (slots_in o)
  pub stored : IsStored sh ws place o

none_stands : (sh : List (Option Shape)) (ws : List WindowValue) (place : ℕ) → StandsAt sh ws place None
none_stands sh ws place = record {
  leads = tt;
  stored = record { own = λ k e. absurd (none_own k e); thawed = λ k e. absurd (none_own k e); pixels = λ k h. no_edge k h; sides = λ k e. absurd (none_own k e); window = λ id e. absurd (let f : None ≡ Some id = e in cc) };
}
  where
    none_own : (k : ℕ) → own_in None ≡ Some k → ⊥
    none_own k e = absurd (let f : None ≡ Some k = e in cc)

stands_at : (sh : List (Option Shape)) (ws : List WindowValue) (base j : ℕ) (os : List (Option Object)) (i place : ℕ) → place ≡ base + (j + i) → Stands sh ws base j os → StandsAt sh ws place (get_or os i None)
stands_at sh ws base j [] i place e h = none_stands sh ws place
stands_at sh ws base j (o ∷ os) zero place e h =
    let f : place ≡ base + j = omega (arith, e) in
    record { leads = h.0; stored = subst (λ p. IsStored sh ws p o) (sym f) h.1 }
stands_at sh ws base j (o ∷ os) (suc i) place e h = stands_at sh ws base (j + 1) os i place (omega (arith, e)) h.2

-- what an older object's slots lead to was there
old_storage : (s : State) (n k : ℕ) → IsWhole (shapes s.objects) s → is_in k (pixels_in (get_or s.objects n None)) ≡ true → k < length s.objects
old_storage s n k w h = let l = length-shapes s.objects in let b = within_shapes (shapes s.objects) a_storage k (pixels_are_storages (shapes s.objects) (get_or s.objects n None) k (w.kinds.objects n) h) in omega (arith, l, b)

old_own : (s : State) (m k : ℕ) → IsWhole (shapes s.objects) s → own_in (get_or s.objects m None) ≡ Some k → k < length s.objects
old_own s m k w h = let l = length-shapes s.objects in let b = within_shapes (shapes s.objects) a_storage k (own_is_storage (shapes s.objects) (get_or s.objects m None) k (w.kinds.objects m) h) in omega (arith, l, b)

fresh : (s : State) (new : List (Option Object)) → Stands (shapes (s.objects ++ new)) s.windows (length s.objects) 0 new → (x : ℕ) → length s.objects ≤ x → IsStored (shapes (s.objects ++ new)) s.windows x (get_or new (x - length s.objects) None)
fresh s new st x b = (stands_at (shapes (s.objects ++ new)) s.windows (length s.objects) 0 new (x - length s.objects) x (omega (arith, b)) st).stored

IsOf : List (Option Object) → ℕ → ℕ → ℕ → Type 0
IsOf os m x k = own_in (get_or os m None) ≡ Some k → is_in k (pixels_in (get_or os x None)) ≡ true → x ≡ m

own-add : (s : State) (new : List (Option Object)) → IsWhole (shapes s.objects) s → Stands (shapes (s.objects ++ new)) s.windows (length s.objects) 0 new → (m x k : ℕ) → IsOf (s.objects ++ new) m x k
unfolding IsOf
own-add s new w st m x k e h = elim (cases_lt m (length s.objects)) [
  | inl a ↦
      let e' : own_in (get_or s.objects m None) ≡ Some k = ap own_in (sym (at_old s.objects new None m a)) ∙ e in
      elim (cases_lt x (length s.objects)) [
        | inl b ↦ w.storages.each m x k (own_at-shapes s.objects m ∙ e') (ap (λ (o : Option Object). is_in k (pixels_in o)) (sym (at_old s.objects new None x b)) ∙ h)
        | inr b ↦ elim ((fresh s new st x b).pixels k (ap (λ (o : Option Object). is_in k (pixels_in o)) (sym (at_new s.objects new None x b)) ∙ h)) [
          | inl i ↦ absurd (let z = old_own s m k w e' in omega (arith, i, b, z))
          | inr i ↦ absurd (i.each m (own_at-shapes (s.objects ++ new) m ∙ e))
        ]
      ]
  | inr a ↦
      let f : k ≡ m + 1 = (fresh s new st m a).own k (ap own_in (sym (at_new s.objects new None m a)) ∙ e) in
      elim (cases_lt x (length s.objects)) [
        | inl b ↦ absurd (let z = old_storage s x k w (ap (λ (o : Option Object). is_in k (pixels_in o)) (sym (at_old s.objects new None x b)) ∙ h) in omega (arith, f, a, z))
        | inr b ↦ elim ((fresh s new st x b).pixels k (ap (λ (o : Option Object). is_in k (pixels_in o)) (sym (at_new s.objects new None x b)) ∙ h)) [
          | inl i ↦ let r : x ≡ m = omega (arith, f, i) in r
          | inr i ↦ absurd (i.each m (own_at-shapes (s.objects ++ new) m ∙ e))
        ]
      ]
]

own_shaped : (s : State) (new : List (Option Object)) → IsWhole (shapes s.objects) s → Stands (shapes (s.objects ++ new)) s.windows (length s.objects) 0 new →
    (m x k : ℕ) → own_at (shapes (s.objects ++ new)) m ≡ Some k → is_in k (pixels_in (get_or (s.objects ++ new) x None)) ≡ true → x ≡ m
unfolding IsOf
own_shaped s new w st m x k e h = own-add s new w st m x k (sym (own_at-shapes (s.objects ++ new) m) ∙ e) h

thawed-add : (s : State) (new : List (Option Object)) → IsWhole (shapes s.objects) s → Stands (shapes (s.objects ++ new)) s.windows (length s.objects) 0 new → (m k : ℕ) → own_in (get_or (s.objects ++ new) m None) ≡ Some k → frozen_at (shapes (s.objects ++ new)) k ≡ false
thawed-add s new w st m k e = elim (cases_lt m (length s.objects)) [
  | inl a ↦
      let f : own_in (get_or s.objects m None) ≡ Some k = ap own_in (sym (at_old s.objects new None m a)) ∙ e in
      frozen_at-shapes (s.objects ++ new) k ∙ ap frozen_in (at_old s.objects new None k (old_own s m k w f)) ∙ sym (frozen_at-shapes s.objects k) ∙ w.thawed.each m k (own_at-shapes s.objects m ∙ f)
  | inr a ↦ (fresh s new st m a).thawed k (ap own_in (sym (at_new s.objects new None m a)) ∙ e)
]

thawed_shaped : (s : State) (new : List (Option Object)) → IsWhole (shapes s.objects) s → Stands (shapes (s.objects ++ new)) s.windows (length s.objects) 0 new → OwnAreThawed (shapes (s.objects ++ new))
thawed_shaped s new w st = record { each = λ m k e. thawed-add s new w st m k (sym (own_at-shapes (s.objects ++ new) m) ∙ e) }

-- sides, of what was there and of what is new
old_sides : (os new : List (Option Object)) (n : ℕ) → n < length os → sides_at (shapes (os ++ new)) n ≡ sides_at (shapes os) n
old_sides os new n l = sides_at-shapes (os ++ new) n ∙ ap sides_in (at_old os new None n l) ∙ sym (sides_at-shapes os n)

storage_sides-add : (s : State) (new : List (Option Object)) → IsWhole (shapes s.objects) s → Stands (shapes (s.objects ++ new)) s.windows (length s.objects) 0 new →
    (m k : ℕ) → own_in (get_or (s.objects ++ new) m None) ≡ Some k → sides_at (shapes (s.objects ++ new)) k ≡ sides_at (shapes (s.objects ++ new)) m
storage_sides-add s new w st m k e = elim (cases_lt m (length s.objects)) [
  | inl a ↦
      let f : own_in (get_or s.objects m None) ≡ Some k = ap own_in (sym (at_old s.objects new None m a)) ∙ e in
      old_sides s.objects new k (old_own s m k w f) ∙ w.sides.storage m k (own_at-shapes s.objects m ∙ f) ∙ sym (old_sides s.objects new m a)
  | inr a ↦
      (fresh s new st m a).sides k (ap own_in (sym (at_new s.objects new None m a)) ∙ e)
      ∙ ap sides_in (sym (at_new s.objects new None m a)) ∙ sym (sides_at-shapes (s.objects ++ new) m)
]

window_sides-add : (s : State) (new : List (Option Object)) → IsWhole (shapes s.objects) s → Stands (shapes (s.objects ++ new)) s.windows (length s.objects) 0 new →
    (m : ℕ) (id : ℤ) → window_id_in (get_or (s.objects ++ new) m None) ≡ Some id → sides_at (shapes (s.objects ++ new)) m ≡ window_sides (unsigned id) s.windows
window_sides-add s new w st m id e = elim (cases_lt m (length s.objects)) [
  | inl a ↦ old_sides s.objects new m a ∙ w.sides.window m id (window_id_at-shapes s.objects m ∙ ap window_id_in (sym (at_old s.objects new None m a)) ∙ e)
  | inr a ↦
      sides_at-shapes (s.objects ++ new) m ∙ ap sides_in (at_new s.objects new None m a)
      ∙ (fresh s new st m a).window id (ap window_id_in (sym (at_new s.objects new None m a)) ∙ e)
]

sides_shaped : (s : State) (new : List (Option Object)) → IsWhole (shapes s.objects) s → Stands (shapes (s.objects ++ new)) s.windows (length s.objects) 0 new → SidesAgree (shapes (s.objects ++ new)) s.windows
sides_shaped s new w st = record {
  storage = λ m k e. storage_sides-add s new w st m k (sym (own_at-shapes (s.objects ++ new) m) ∙ e);
  window = λ m id e. window_sides-add s new w st m id (sym (window_id_at-shapes (s.objects ++ new) m) ∙ e);
}

leads-add : (s : State) (new : List (Option Object)) → IsWhole (shapes s.objects) s → Stands (shapes (s.objects ++ new)) s.windows (length s.objects) 0 new → (n : ℕ) → Leads (shapes (s.objects ++ new)) (slots_in (get_or (s.objects ++ new) n None))
leads-add s new w st n = elim (cases_lt n (length s.objects)) [
  | inl a ↦ subst (λ o. Leads (shapes (s.objects ++ new)) (slots_in o)) (sym (at_old s.objects new None n a))
      (subst (λ sh. Leads sh (slots_in (get_or s.objects n None))) (sym (shapes-append s.objects new)) (leads_more (shapes s.objects) (shapes new) (slots_in (get_or s.objects n None)) (w.kinds.objects n)))
  | inr a ↦ subst (λ o. Leads (shapes (s.objects ++ new)) (slots_in o)) (sym (at_new s.objects new None n a))
      (stands_at (shapes (s.objects ++ new)) s.windows (length s.objects) 0 new (n - length s.objects) n (omega (arith, a)) st).leads
]

whole-add : (t : ℕ) (new : List (Option Object)) (s : State) → Stands (shapes s.objects ++ shapes new) s.windows (length s.objects) 0 new → IsWhole (shapes s.objects) s → IsWhole (shapes s.objects ++ shapes new) (apply t (Add new) s)
whole-add t new s st w =
    let st' : Stands (shapes (s.objects ++ new)) s.windows (length s.objects) 0 new = subst (λ sh. Stands sh s.windows (length s.objects) 0 new) (sym (shapes-append s.objects new)) st in
    objects_whole (shapes s.objects) (shapes s.objects ++ shapes new) s (apply t (Add new) s) refl refl refl
    (record {
      handles = All-weaker (NamesItsKind (shapes s.objects)) (NamesItsKind (shapes s.objects ++ shapes new)) (λ h i. old_kind (shapes s.objects) (shapes new) (named_kind h.kind) h.object i) s.handles w.kinds.handles;
      threads = λ u. leads_more (shapes s.objects) (shapes new) (held_slots (record_of s u)) (w.kinds.threads u);
      objects = λ n. subst (λ sh. Leads sh (slots_in (get_or (s.objects ++ new) n None))) (shapes-append s.objects new) (leads-add s new w st' n);
    })
    (record { each = λ m x k e h. own_shaped s new w st' m x k (ap (λ (sh : List (Option Shape)). own_at sh m) (shapes-append s.objects new) ∙ e) h })
    (subst OwnAreThawed (shapes-append s.objects new) (thawed_shaped s new w st'))
    (subst (λ (sh : List (Option Shape)). SidesAgree sh s.windows) (shapes-append s.objects new) (sides_shaped s new w st'))
    w

-- ---- Another error or wait.
whole-record : (t : ℕ) (s : State) (r : ThreadRecord) → SameBound s t r → Leads (shapes s.objects) (held_slots r) → IsWhole (shapes s.objects) s → IsWhole (shapes s.objects) (set_record s t r)
whole-record t s r e l w = record {
  kinds = record { handles = w.kinds.handles; threads = held-record (shapes s.objects) s t r l w.kinds.threads; objects = w.kinds.objects };
  storages = record { each = w.storages.each };
  thawed = w.thawed;
  sides = w.sides;
  alone = alone-record s t r e w.alone;
  both = both-record s t r e w.both;
  numbers = below-record s t r e w.numbers;
}

-- ---- Any move.
whole-apply : (t : ℕ) (m : Move) (s : State) → Fits t (shapes s.objects) s m → IsWhole (shapes s.objects) s → IsWhole (shapes_after (shapes s.objects) m) (apply t m s)
whole-apply t (Flags a b) s f w = objects_whole (shapes s.objects) (shapes s.objects) s _ refl refl refl
    (record { handles = w.kinds.handles; threads = w.kinds.threads; objects = w.kinds.objects }) (record { each = w.storages.each }) w.thawed w.sides w
whole-apply t (Swap id i) s f w = objects_whole (shapes s.objects) (shapes s.objects) s _ refl refl refl
    (record { handles = w.kinds.handles; threads = w.kinds.threads; objects = w.kinds.objects }) (record { each = w.storages.each }) w.thawed
    (record { storage = w.sides.storage; window = λ m z e. w.sides.window m z e ∙ sym (window_sides-swapped (unsigned z) id i s.windows) }) w
whole-apply t (Note e) s f w = whole-record t s (record (record_of s t) { error = e }) (record { context = refl; draw = refl; read = refl }) (w.kinds.threads t) w
whole-apply t (Wait x) s f w =
    let h = w.kinds.threads t in
    whole-record t s (record (record_of s t) { wait = x }) (record { context = refl; draw = refl; read = refl }) (h.0, (h.1.0, (h.1.1.0, (f, tt)))) w
whole-apply t (Bind c d r) s f w = record {
  kinds = record { handles = w.kinds.handles; threads = held-bind t (shapes s.objects) s c d r f w.kinds.threads; objects = w.kinds.objects };
  storages = record { each = w.storages.each };
  thawed = w.thawed;
  sides = w.sides;
  alone = alone-bind t (shapes s.objects) s c d r f w.alone;
  both = both-bind t (shapes s.objects) s c d r f w.both;
  numbers = below-bind t (shapes s.objects) s c d r f w.numbers;
}
whole-apply t (Change n g) s f w = whole-change t n g s f w
whole-apply t (Resize n g b) s f w = whole-change t n g s f w
whole-apply t (Add os) s f w = whole-add t os s f w
whole-apply t (Name d k n) s f w = record {
  kinds = record { handles = All-push (NamesItsKind (shapes s.objects)) s.handles _ w.kinds.handles f; threads = w.kinds.threads; objects = w.kinds.objects };
  storages = record { each = w.storages.each };
  thawed = w.thawed;
  sides = w.sides;
  alone = alone_as s _ refl w.alone;
  both = both_as s _ refl w.both;
  numbers = below-name t s d k n w.numbers;
}
whole-apply t (Keep p) s f w = record {
  kinds = record { handles = All-filter p (NamesItsKind (shapes s.objects)) s.handles w.kinds.handles; threads = w.kinds.threads; objects = w.kinds.objects };
  storages = record { each = w.storages.each };
  thawed = w.thawed;
  sides = w.sides;
  alone = alone_as s _ refl w.alone;
  both = both_as s _ refl w.both;
  numbers = below-keep t s p w.numbers;
}

-- the shapes behind a move are those that it leaves
shapes-apply : (t : ℕ) (m : Move) (s : State) → Holds m → shapes_after (shapes s.objects) m ≡ shapes (apply t m s).objects
shapes-apply t (Flags a b) s h = refl
shapes-apply t (Swap id i) s h = refl
shapes-apply t (Note e) s h = refl
shapes-apply t (Bind c d r) s h = refl
shapes-apply t (Wait x) s h = refl
shapes-apply t (Change n f) s h = sym (shapes-set s.objects n (f (get_or s.objects n None)) (ap (λ (b : Body). b.shape) (h (get_or s.objects n None))))
shapes-apply t (Resize n f b) s h = sym (shapes-set s.objects n (f (get_or s.objects n None)) (h.0 (get_or s.objects n None)))
shapes-apply t (Add os) s h = sym (shapes-append s.objects os)
shapes-apply t (Name d k n) s h = refl
shapes-apply t (Keep p) s h = refl

pub from_shapes : (t : ℕ) (sh : List (Option Shape)) (m : Move) (s : State) → shapes s.objects ≡ sh → Fits t sh s m → IsWhole sh s → IsWhole (shapes_after sh m) (apply t m s)
from_shapes t sh m s e = subst (λ sh. Fits t sh s m → IsWhole sh s → IsWhole (shapes_after sh m) (apply t m s)) e (whole-apply t m s)

pub after_shapes : (t : ℕ) (sh : List (Option Shape)) (m : Move) (s : State) → shapes s.objects ≡ sh → Holds m → shapes (apply t m s).objects ≡ shapes_after sh m
after_shapes t sh m s e h = sym (shapes-apply t m s h) ∙ ap (λ (sh : List (Option Shape)). shapes_after sh m) e

whole-moves : (t : ℕ) (ms : List Move) (sh : List (Option Shape)) (s : State) → shapes s.objects ≡ sh → AllHold ms → AllFit t sh s ms → IsWhole sh s → IsWhole (shapes (play t ms s).objects) (play t ms s)
whole-moves t [] sh s e h f w = subst (λ sh. IsWhole sh s) (sym e) w
whole-moves t (m ∷ ms) sh s e h f w =
    let g = f w in
    whole-moves t ms (shapes_after sh m) (apply t m s) (after_shapes t sh m s e h.0) h.1 g.1 (from_shapes t sh m s e g.0 w)

-- a row of moves that fit leads from a whole state to a whole one
pub whole-play : (t : ℕ) (ms : List Move) (s : State) → AllHold ms → AllFit t (shapes s.objects) s ms → IsWhole (shapes s.objects) s → IsWhole (shapes (play t ms s).objects) (play t ms s)
whole-play t ms s h f w = whole-moves t ms (shapes s.objects) s refl h f w
