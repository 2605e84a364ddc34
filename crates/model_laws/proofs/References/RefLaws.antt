-- A state is no larger than another and what goes from the one to the other.
use Rattle.std.proofs.Common.{◌≡◌, ◌≢◌, ℕ, suc, ◌+◌, ◌<◌, ◌≤◌, Bool, true, false, cond, not, ◌&&◌, ◌||◌, ◌==◌, leb, List, [], ◌∷◌, ◌++◌, length, map, get_or, refl, sym, ap, subst, ◌∙◌, arith, Option, None, Some, inl, inr, length-append, is_some}
use Rattle.std.proofs.lemmas.Bool.{false≢true, and_parts, eqb-true, cases_Bool, cases_lt, or_parts, not-true, and_from}
use Rattle.std.proofs.lemmas.Bool.Decides.{nat_tests}
use Rattle.std.proofs.lemmas.List.Folds.{list_any-append}
use Rattle.std.proofs.lemmas.List.Sums.{sum_by-cons, sum_by-append}
use Rattle.std.proofs.lemmas.List.FromFn.{fill_by_all, get_or-map-range_with_len, length-map-range_with_len}
use Rattle.std.proofs.lemmas.List.{get_or_past}
use Rattle.std.specs.Prelude.{AllPairs, option_to_list}
use Rattle.std.specs.List.{sum_by, count_by, list_all, range_with_len}
use Rattle.std.specs.Option.{option_map_or}
use Rattle.driver_objects.specs.declared.objects.Object.{Object}
use Rattle.driver_objects.specs.Objects.{edges_of}
use Rattle.driver_objects.specs.declared.objects.Object.TheVariants.{Context, Group, Texture, Buffer, Renderbuffer, Framebuffer, Surface, Storage, Image, Sync}
use Rattle.driver_objects.specs.declared.kinds.ObjectKind.{ObjectKind}
use Rattle.driver_objects.specs.declared.kinds.ObjectKind.TheVariants.{Texture as a_texture, Buffer as a_buffer, Renderbuffer as a_renderbuffer, Framebuffer as a_framebuffer}
use Rattle.driver_objects.specs.Links.{is_apart}
use Rattle.driver_objects.proofs.SlotLaws.{risen}
use Rattle.share_group.specs.declared.names.Name.{Name}
use Rattle.share_group.specs.Names.{Rise}
use Rattle.model_laws.specs.Shapes.{slots_in}
use Rattle.model_laws.specs.Slots.{Slot, ends, level_slots, name_slots, slots_of}
use Rattle.model_laws.proofs.References.WholeSweep.{edges_as_ends}
use Rattle.display_table.specs.declared.handles.Handle.{Handle}
use Rattle.egl_model.specs.declared.records.ThreadRecord.{ThreadRecord}
use Rattle.egl_model.specs.State.{State, has_object}
use Rattle.egl_model.specs.Sweep.{edges_in}
use Rattle.model_laws.specs.Refs.{AreNamesApart, is_apart_in, Holder, by_handle, by_thread, by_object, Triple, is_same_holder, is_same, in_slots, in_slot, bound_in, handle_ref, object_refs, thread_refs, refs, has_ref, refs_gone, objects_gone, size}

-- ---- Two triples.
holder_is : (h k : Holder) → is_same_holder h k ≡ true → h ≡ k
holder_is (by_handle m) (by_handle n) e = ap by_handle (eqb-true m n e)
holder_is (by_thread m) (by_thread n) e = ap by_thread (eqb-true m n e)
holder_is (by_object m) (by_object n) e = ap by_object (eqb-true m n e)
holder_is (by_handle m) (by_thread n) e = absurd (false≢true e)
holder_is (by_handle m) (by_object n) e = absurd (false≢true e)
holder_is (by_thread m) (by_handle n) e = absurd (false≢true e)
holder_is (by_thread m) (by_object n) e = absurd (false≢true e)
holder_is (by_object m) (by_handle n) e = absurd (false≢true e)
holder_is (by_object m) (by_thread n) e = absurd (false≢true e)

same_number : (n : ℕ) → (n == n) ≡ true
same_number n = grind (arith, nat_tests)

same_itself : (h : Holder) → is_same_holder h h ≡ true
same_itself (by_handle n) = same_number n
same_itself (by_thread n) = same_number n
same_itself (by_object n) = same_number n

triple_is : (x y : Triple) → is_same x y ≡ true → x ≡ y
triple_is x y e =
    let a = and_parts (is_same_holder x.holder y.holder) ((x.slot == y.slot) && (x.object == y.object)) e in
    let b = and_parts (x.slot == y.slot) (x.object == y.object) a.1 in
    let h = holder_is x.holder y.holder a.0 in
    let s = eqb-true x.slot y.slot b.0 in
    let o = eqb-true x.object y.object b.1 in
    λ i. record { holder = h i; slot = s i; object = o i }

is_itself : (x : Triple) → is_same x x ≡ true
is_itself x = rw (same_itself x.holder, same_number x.slot, same_number x.object) refl

same_back : (x y : Triple) → is_same x y ≡ false → is_same y x ≡ false
same_back x y e = elim (cases_Bool (is_same y x)) [
  | inl t ↦ absurd (false≢true (sym e ∙ ap (is_same x) (triple_is y x t) ∙ is_itself x))
  | inr f ↦ f
]

-- ---- Lists of triples.
abbrev one : Bool → ℕ
one b = cond b 1 0

-- none stands twice
is_unique : List Triple → Bool
is_unique [] = true
is_unique (x ∷ xs) = not (has_ref xs x) && is_unique xs

take_out : Triple → List Triple → List Triple
take_out x [] = []
take_out x (y ∷ ys) = cond (is_same x y) ys (y ∷ take_out x ys)

abbrev not_in : List Triple → Triple → Bool
not_in ys x = not (has_ref ys x)

taken_length : (x : Triple) (ys : List Triple) → has_ref ys x ≡ true → length ys ≡ 1 + length (take_out x ys)
unfolding take_out
taken_length x [] h = absurd (false≢true h)
taken_length x (y ∷ ys) h = by (is_same x y) refl (taken_length x ys)
  where
    by : (b : Bool) → is_same x y ≡ b → (has_ref ys x ≡ true → length ys ≡ 1 + length (take_out x ys)) → length (y ∷ ys) ≡ 1 + length (take_out x (y ∷ ys))
    by true e r = rw e (omega arith)
    by false e r = rw e (let q = r (sym (ap (λ b. b || has_ref ys x) e) ∙ h) in omega (arith, q))

taken_others : (x z : Triple) (ys : List Triple) → is_same x z ≡ false → has_ref (take_out x ys) z ≡ has_ref ys z
unfolding take_out
taken_others x z [] n = refl
taken_others x z (y ∷ ys) n = by (is_same x y) refl (taken_others x z ys n)
  where
    by : (b : Bool) → is_same x y ≡ b → has_ref (take_out x ys) z ≡ has_ref ys z → has_ref (take_out x (y ∷ ys)) z ≡ has_ref (y ∷ ys) z
    by true e r = rw e (sym (ap (λ b. b || has_ref ys z) (sym (ap (is_same z) (triple_is x y e)) ∙ same_back x z n)))
    by false e r = rw e (ap (λ b. is_same z y || b) r)

count_cons : (p : Triple → Bool) (x : Triple) (xs : List Triple) → count_by p (x ∷ xs) ≡ one (p x) + count_by p xs
count_cons p x xs = sum_by-cons (λ y. cond (p y) 1 0) x xs

count_taken : (x : Triple) (xs ys : List Triple) → has_ref xs x ≡ false → count_by (not_in (take_out x ys)) xs ≡ count_by (not_in ys) xs
count_taken x [] ys h = refl
count_taken x (z ∷ xs) ys h =
    let p = or_parts (is_same x z) (has_ref xs x) h in
    let e : one (not_in (take_out x ys) z) ≡ one (not_in ys z) = ap (λ b. one (not b)) (taken_others x z ys p.0) in
    omega (arith, count_cons (not_in (take_out x ys)) z xs, count_cons (not_in ys) z xs, e, count_taken x xs ys p.1)

-- a list without repeats is no longer than another and what it has that the other hasn't
few_left : (xs ys : List Triple) → is_unique xs ≡ true → length xs ≤ length ys + count_by (not_in ys) xs
unfolding is_unique
few_left [] ys u = omega arith
few_left (x ∷ xs) ys u = by (has_ref ys x) refl (few_left xs ys (and_parts (not (has_ref xs x)) (is_unique xs) u).1) (few_left xs (take_out x ys) (and_parts (not (has_ref xs x)) (is_unique xs) u).1)
  where
    by : (b : Bool) → has_ref ys x ≡ b → length xs ≤ length ys + count_by (not_in ys) xs → length xs ≤ length (take_out x ys) + count_by (not_in (take_out x ys)) xs → length (x ∷ xs) ≤ length ys + count_by (not_in ys) (x ∷ xs)
    by true e r t =
        let c = count_taken x xs ys (not-true (has_ref xs x) (and_parts (not (has_ref xs x)) (is_unique xs) u).0) in
        omega (arith, taken_length x ys e, t, c, count_cons (not_in ys) x xs)
    by false e r t =
        let c : one (not_in ys x) ≡ 1 = ap (λ b. one (not b)) e in
        omega (arith, r, c, count_cons (not_in ys) x xs)

-- ---- What holds of each triple of a list.
all_append : (p : Triple → Bool) (xs ys : List Triple) → list_all p xs ≡ true → list_all p ys ≡ true → list_all p (xs ++ ys) ≡ true
all_append p [] ys a b = b
all_append p (x ∷ xs) ys a b = let q = and_parts (p x) (list_all p xs) a in and_from (p x) (list_all p (xs ++ ys)) q.0 (all_append p xs ys q.1 b)

none_has : (p : Triple → Bool) (xs : List Triple) (x : Triple) → list_all p xs ≡ true → p x ≡ false → has_ref xs x ≡ false
none_has p [] x a n = refl
none_has p (y ∷ ys) x a n =
    let q = and_parts (p y) (list_all p ys) a in
    let r = none_has p ys x q.1 n in
    by (is_same x y) refl q.0 r
  where
    by : (b : Bool) → is_same x y ≡ b → p y ≡ true → has_ref ys x ≡ false → has_ref (y ∷ ys) x ≡ false
    by true e t r = absurd (false≢true (sym n ∙ ap p (triple_is x y e) ∙ t))
    by false e t r = rw (e, r) refl

unique_append : (p : Triple → Bool) (xs ys : List Triple) → is_unique xs ≡ true → is_unique ys ≡ true → list_all (λ x. not (p x)) xs ≡ true → list_all p ys ≡ true → is_unique (xs ++ ys) ≡ true
unfolding is_unique
unique_append p [] ys u v a b = v
unique_append p (x ∷ xs) ys u v a b =
    let q = and_parts (not (has_ref xs x)) (is_unique xs) u in
    let r = and_parts (not (p x)) (list_all (λ y. not (p y)) xs) a in
    let h : has_ref (xs ++ ys) x ≡ false = list_any-append (is_same x) xs ys ∙ rw (not-true (has_ref xs x) q.0, none_has p ys x b (not-true (p x) r.0)) refl in
    and_from (not (has_ref (xs ++ ys) x)) (is_unique (xs ++ ys)) (ap not h) (unique_append p xs ys q.1 v r.1 b)

slot_all : (p : Triple → Bool) (h : Holder) → ((s o : ℕ) → p (record { holder = h; slot = s; object = o }) ≡ true) → (i : ℕ) (o : Option ℕ) → list_all p (in_slot h i o) ≡ true
slot_all p h f i None = refl
slot_all p h f i (Some t) = and_from (p (record { holder = h; slot = i; object = t })) true (f i t) refl

slots_all : (p : Triple → Bool) (h : Holder) → ((s o : ℕ) → p (record { holder = h; slot = s; object = o }) ≡ true) → (ls : List Slot) → list_all p (in_slots h ls) ≡ true
unfolding in_slots
slots_all p h f [] = refl
slots_all p h f (x ∷ xs) = all_append p (in_slot h x.place x.to) (in_slots h xs) (slot_all p h f x.place x.to) (slots_all p h f xs)

-- places rise, from `low` at least, and are below `end`
Rising : ℕ → List Slot → ℕ → Type 0
Rising low [] end = low ≤ end
Rising low (x ∷ xs) end = (low ≤ x.place) × Rising (x.place + 1) xs end

rising_from : (low m : ℕ) (ls : List Slot) (end : ℕ) → low ≤ m → Rising m ls end → Rising low ls end
unfolding Rising
rising_from low m [] end l r = omega arith
rising_from low m (x ∷ xs) end l r = (let a = r.0 in omega (arith, a), r.1)

rising_append : (low : ℕ) (xs ys : List Slot) (m end : ℕ) → Rising low xs m → Rising m ys end → Rising low (xs ++ ys) end
unfolding Rising
rising_append low [] ys m end r q = rising_from low m ys end r q
rising_append low (x ∷ xs) ys m end r q = (r.0, rising_append (x.place + 1) xs ys m end r.1 q)

later_slot : (h : Holder) (j i : ℕ) (o : Option ℕ) → j ≤ i → list_all (λ x. leb j x.slot) (in_slot h i o) ≡ true
later_slot h j i None l = refl
later_slot h j i (Some t) l = and_from (leb j i) true (grind (arith, nat_tests)) refl

later_slots : (h : Holder) (j : ℕ) (ls : List Slot) (end : ℕ) → Rising j ls end → list_all (λ x. leb j x.slot) (in_slots h ls) ≡ true
unfolding in_slots Rising
later_slots h j [] end r = refl
later_slots h j (x ∷ xs) end r = all_append (λ y. leb j y.slot) (in_slot h x.place x.to) (in_slots h xs) (later_slot h j x.place x.to r.0) (later_slots h j xs end (rising_from j (x.place + 1) xs end (let a = r.0 in omega (arith, a)) r.1))

unique_slot : (h : Holder) (i : ℕ) (o : Option ℕ) (rest : List Triple) → is_unique rest ≡ true → list_all (λ y. leb (i + 1) y.slot) rest ≡ true → is_unique (in_slot h i o ++ rest) ≡ true
unfolding is_unique
unique_slot h i None rest u l = u
unique_slot h i (Some t) rest u l =
    let x : Triple = record { holder = h; slot = i; object = t } in
    let n : leb (i + 1) i ≡ false = grind (arith, nat_tests) in
    and_from (not (has_ref rest x)) (is_unique rest) (ap not (none_has (λ y. leb (i + 1) y.slot) rest x l n)) u

unique_slots : (h : Holder) (low : ℕ) (ls : List Slot) (end : ℕ) → Rising low ls end → is_unique (in_slots h ls) ≡ true
unfolding is_unique in_slots Rising
unique_slots h low [] end r = refl
unique_slots h low (x ∷ xs) end r = unique_slot h x.place x.to (in_slots h xs) (unique_slots h (x.place + 1) xs end r.1) (later_slots h (x.place + 1) xs end r.1)

-- ---- The slots of an object rise, where no name stands twice.
rising_names : (first : ℕ) (k : ObjectKind) (low : ℕ) (xs : List Name) → Rise low xs 4294967296 → Rising (first + low) (name_slots first k xs) (first + 4294967296)
unfolding Rising
rising_names first k low [] r = omega (arith, r)
rising_names first k low (x ∷ xs) r = let a = r.0 in (omega (arith, a), rising_from (first + x.name + 1) (first + (x.name + 1)) (name_slots first k xs) _ (omega arith) (rising_names first k (x.name + 1) xs r.1))

rising_levels : (i : ℕ) (xs : List (Option ℕ)) → Rising i (level_slots i xs) (i + length xs)
unfolding Rising
rising_levels i [] = omega arith
rising_levels i (x ∷ xs) = (omega arith, subst (Rising (i + 1) (level_slots (i + 1) xs)) (let e : (i + 1) + length xs ≡ i + length (x ∷ xs) = omega arith in e) (rising_levels (i + 1) xs))

-- where the last slot may end
end_of : Object → ℕ
end_of (Context c) = 7
end_of (Group g) = 17179869184
end_of (Texture x) = 0 + length x.levels
end_of (Buffer x) = 0
end_of (Renderbuffer x) = 1
end_of (Framebuffer x) = 3
end_of (Surface x) = 1
end_of (Storage x) = 0
end_of (Image x) = 1
end_of (Sync x) = 0

rising_of : (o : Object) → is_apart o ≡ true → Rising 0 (slots_of o) (end_of o)
unfolding Rising end_of
rising_of (Context c) a = (omega arith, (omega arith, (omega arith, (omega arith, (omega arith, (omega arith, (omega arith, omega arith)))))))
rising_of (Group g) a = let r = risen g a in
    rising_append 0 (name_slots 0 a_texture g.textures) _ 4294967296 17179869184 (rising_from 0 1 (name_slots 0 a_texture g.textures) _ (omega arith) (rising_names 0 a_texture 1 g.textures r.textures))
    (rising_append 4294967296 (name_slots 4294967296 a_buffer g.buffers) _ 8589934592 17179869184 (rising_from 4294967296 4294967297 (name_slots 4294967296 a_buffer g.buffers) _ (omega arith) (rising_names 4294967296 a_buffer 1 g.buffers r.buffers))
    (rising_append 8589934592 (name_slots 8589934592 a_renderbuffer g.renderbuffers) _ 12884901888 17179869184 (rising_from 8589934592 8589934593 (name_slots 8589934592 a_renderbuffer g.renderbuffers) _ (omega arith) (rising_names 8589934592 a_renderbuffer 1 g.renderbuffers r.renderbuffers))
    (rising_from 12884901888 12884901889 (name_slots 12884901888 a_framebuffer g.framebuffers) _ (omega arith) (rising_names 12884901888 a_framebuffer 1 g.framebuffers r.framebuffers))))
rising_of (Texture x) a = rising_levels 0 x.levels
rising_of (Buffer x) a = omega arith
rising_of (Renderbuffer x) a = (omega arith, omega arith)
rising_of (Framebuffer x) a = (omega arith, (omega arith, (omega arith, omega arith)))
rising_of (Surface x) a = (omega arith, omega arith)
rising_of (Storage x) a = omega arith
rising_of (Image x) a = (omega arith, omega arith)
rising_of (Sync x) a = omega arith

unique_of : (h : Holder) (o : Option Object) → is_apart_in o ≡ true → is_unique (in_slots h (slots_in o)) ≡ true
unfolding is_unique in_slots
unique_of h None a = refl
unique_of h (Some x) a = unique_slots h 0 (slots_of x) (end_of x) (rising_of x a)

AllApart : List (Option Object) → Type 0
AllApart [] = Unit {0}
AllApart (o ∷ os) = (is_apart_in o ≡ true) × AllApart os

all_apart : (os : List (Option Object)) → ((n : ℕ) → is_apart_in (get_or os n None) ≡ true) → AllApart os
unfolding AllApart
all_apart [] f = tt
all_apart (o ∷ os) f = (f 0, all_apart os (λ n. f (suc n)))

-- an object of a number from n on
is_from : ℕ → Holder → Bool
is_from n (by_object m) = leb n m
is_from n h = false

is_thread : Holder → Bool
is_thread (by_thread t) = true
is_thread h = false

later_objects : (n m : ℕ) (os : List (Option Object)) → m ≤ n → list_all (λ x. is_from m x.holder) (object_refs n os) ≡ true
unfolding object_refs is_from
later_objects n m [] l = refl
later_objects n m (o ∷ os) l = all_append (λ x. is_from m x.holder) (in_slots (by_object n) (slots_in o)) (object_refs (n + 1) os) (slots_all (λ x. is_from m x.holder) (by_object n) (λ s t. grind (arith, nat_tests)) (slots_in o)) (later_objects (n + 1) m os (omega arith))

unique_objects : (n : ℕ) (os : List (Option Object)) → AllApart os → is_unique (object_refs n os) ≡ true
unfolding object_refs is_unique is_from AllApart
unique_objects n [] a = refl
unique_objects n (o ∷ os) a = unique_append (λ x. is_from (n + 1) x.holder) (in_slots (by_object n) (slots_in o)) (object_refs (n + 1) os) (unique_of (by_object n) o a.0) (unique_objects (n + 1) os a.1) (slots_all (λ x. not (is_from (n + 1) x.holder)) (by_object n) (λ s t. ap not (let q : leb (n + 1) n ≡ false = grind (arith, nat_tests) in q)) (slots_in o)) (later_objects (n + 1) (n + 1) os (omega arith))

objects_no_threads : (n : ℕ) (os : List (Option Object)) → list_all (λ x. not (is_thread x.holder)) (object_refs n os) ≡ true
unfolding object_refs is_thread
objects_no_threads n [] = refl
objects_no_threads n (o ∷ os) = all_append (λ x. not (is_thread x.holder)) (in_slots (by_object n) (slots_in o)) (object_refs (n + 1) os) (slots_all (λ x. not (is_thread x.holder)) (by_object n) (λ s t. refl) (slots_in o)) (objects_no_threads (n + 1) os)

in_slot_all : (t i : ℕ) (o : Option ℕ) → list_all (λ x. is_thread x.holder) (in_slot (by_thread t) i o) ≡ true
unfolding is_thread
in_slot_all t i None = refl
in_slot_all t i (Some n) = refl

threads_only : (t : ℕ) (rs : List ThreadRecord) → list_all (λ x. is_thread x.holder) (thread_refs t rs) ≡ true
unfolding thread_refs
threads_only t [] = refl
threads_only t (r ∷ rs) =
    all_append (λ x. is_thread x.holder) (in_slot (by_thread t) 0 (bound_in r.context) ++ in_slot (by_thread t) 1 (bound_in r.draw) ++ in_slot (by_thread t) 2 (bound_in r.read) ++ in_slot (by_thread t) 3 r.wait) (thread_refs (t + 1) rs)
    (all_append (λ x. is_thread x.holder) (in_slot (by_thread t) 0 (bound_in r.context) ++ in_slot (by_thread t) 1 (bound_in r.draw) ++ in_slot (by_thread t) 2 (bound_in r.read)) (in_slot (by_thread t) 3 r.wait)
    (all_append (λ x. is_thread x.holder) (in_slot (by_thread t) 0 (bound_in r.context) ++ in_slot (by_thread t) 1 (bound_in r.draw)) (in_slot (by_thread t) 2 (bound_in r.read))
    (all_append (λ x. is_thread x.holder) (in_slot (by_thread t) 0 (bound_in r.context)) (in_slot (by_thread t) 1 (bound_in r.draw)) (in_slot_all t 0 (bound_in r.context)) (in_slot_all t 1 (bound_in r.draw)))
    (in_slot_all t 2 (bound_in r.read)))
    (in_slot_all t 3 r.wait))
    (threads_only (t + 1) rs)

-- ---- Handles.
handles_no_threads : (hs : List Handle) → list_all (λ x. not (is_thread x.holder)) (map handle_ref hs) ≡ true
unfolding is_thread
handles_no_threads [] = refl
handles_no_threads (h ∷ hs) = handles_no_threads hs

handles_no_objects : (hs : List Handle) → list_all (λ x. not (is_from 0 x.holder)) (map handle_ref hs) ≡ true
unfolding is_from
handles_no_objects [] = refl
handles_no_objects (h ∷ hs) = handles_no_objects hs

other_handle : (h g : Handle) → h.number ≢ g.number → is_same (handle_ref h) (handle_ref g) ≡ false
other_handle h g ne = let e : (h.number == g.number) ≡ false = grind (arith, nat_tests) in rw e refl

none_named : (h : Handle) (hs : List Handle) → ((k : ℕ) (d : Handle) → k < length hs → h.number ≢ (get_or hs k d).number) → has_ref (map handle_ref hs) (handle_ref h) ≡ false
none_named h [] f = refl
none_named h (g ∷ gs) f =
    let a : is_same (handle_ref h) (handle_ref g) ≡ false = other_handle h g (f 0 g (omega arith)) in
    let b : has_ref (map handle_ref gs) (handle_ref h) ≡ false = none_named h gs (λ k d l. f (suc k) d (omega arith)) in
    rw (a, b) refl

unique_handles : (hs : List Handle) → AllPairs (λ g h. g.number ≢ h.number) hs → is_unique (map handle_ref hs) ≡ true
unfolding is_unique
unique_handles [] p = refl
unique_handles (h ∷ hs) p = and_from (not (has_ref (map handle_ref hs) (handle_ref h))) (is_unique (map handle_ref hs)) (ap not (none_named h hs (λ k d l. p 0 (suc k) d (omega arith) (omega arith)))) (unique_handles hs (λ i j d l m. p (suc i) (suc j) d (omega arith) (omega arith)))

-- ---- References that aren't a thread's.
abbrev held_refs : State → List Triple
held_refs s = map handle_ref s.handles ++ object_refs 0 s.objects

held_unique : (s : State) → AllPairs (λ g h. g.number ≢ h.number) s.handles → AreNamesApart s → is_unique (held_refs s) ≡ true
held_unique s p a = unique_append (λ x. is_from 0 x.holder) (map handle_ref s.handles) (object_refs 0 s.objects) (unique_handles s.handles p) (unique_objects 0 s.objects (all_apart s.objects a)) (handles_no_objects s.handles) (later_objects 0 0 s.objects (omega arith))

held_no_threads : (s : State) → list_all (λ x. not (is_thread x.holder)) (held_refs s) ≡ true
held_no_threads s = all_append (λ x. not (is_thread x.holder)) (map handle_ref s.handles) (object_refs 0 s.objects) (handles_no_threads s.handles) (objects_no_threads 0 s.objects)

-- what the threads refer to counts nothing for them
count_held : (xs ys ts : List Triple) → list_all (λ x. not (is_thread x.holder)) xs ≡ true → list_all (λ x. is_thread x.holder) ts ≡ true → count_by (not_in (ys ++ ts)) xs ≡ count_by (not_in ys) xs
count_held [] ys ts a b = refl
count_held (x ∷ xs) ys ts a b =
    let q = and_parts (not (is_thread x.holder)) (list_all (λ y. not (is_thread y.holder)) xs) a in
    let n : has_ref ts x ≡ false = none_has (λ y. is_thread y.holder) ts x b (not-true (is_thread x.holder) q.0) in
    let h : has_ref (ys ++ ts) x ≡ has_ref ys x = list_any-append (is_same x) ys ts ∙ ap (λ c. has_ref ys x || c) n ∙ or_none (has_ref ys x) in
    let e : one (not_in (ys ++ ts) x) ≡ one (not_in ys x) = ap (λ c. one (not c)) h in
    omega (arith, count_cons (not_in (ys ++ ts)) x xs, count_cons (not_in ys) x xs, e, count_held xs ys ts q.1 b)
  where
    or_none : (c : Bool) → (c || false) ≡ c
    or_none true = refl
    or_none false = refl

held_gone : (s new : State) → AllPairs (λ g h. g.number ≢ h.number) s.handles → AreNamesApart s → length (held_refs s) ≤ length (held_refs new) + refs_gone s new
unfolding refs_gone refs
held_gone s new p a =
    let f = few_left (held_refs s) (held_refs new) (held_unique s p a) in
    let c = count_held (held_refs s) (held_refs new) (thread_refs 0 new.threads) (held_no_threads s) (threads_only 0 new.threads) in
    let b = sum_by-append (λ x. one (not_in (held_refs new ++ thread_refs 0 new.threads) x)) (held_refs s) (thread_refs 0 s.threads) in
    omega (arith, f, c, b)

-- ---- Objects.
length_slot : (h : Holder) (i : ℕ) (o : Option ℕ) → length (in_slot h i o) ≡ length (option_to_list o)
length_slot h i None = refl
length_slot h i (Some t) = refl

length_slots : (h : Holder) (ls : List Slot) → length (in_slots h ls) ≡ length (ends ls)
unfolding in_slots
length_slots h [] = refl
length_slots h (x ∷ xs) = omega (arith, length-append (in_slot h x.place x.to) (in_slots h xs), length-append (option_to_list x.to) (ends xs), length_slot h x.place x.to, length_slots h xs)

length_edges : (h : Holder) (o : Option Object) → length (in_slots h (slots_in o)) ≡ length (edges_in o)
length_edges h o = length_slots h (slots_in o) ∙ ap length (sym (edges_as_ends o))

abbrev weighs : Option Object → ℕ
weighs o = option_map_or (λ x. 1 + length (edges_of x)) o 0

weighs_by : (o : Option Object) → weighs o ≡ one (is_some o) + length (edges_in o)
weighs_by None = refl
weighs_by (Some x) = refl

size_is : (n : ℕ) (os : List (Option Object)) → sum_by weighs os ≡ count_by is_some os + length (object_refs n os)
unfolding object_refs
size_is n [] = refl
size_is n (o ∷ os) = omega (arith, sum_by-cons weighs o os, sum_by-cons (λ (x : Option Object). one (is_some x)) o os, weighs_by o, size_is (n + 1) os, length-append (in_slots (by_object n) (slots_in o)) (object_refs (n + 1) os), length_edges (by_object n) o)

sum_of_map : {X Y : Type 0} (f : Y → ℕ) (h : X → Y) (xs : List X) → sum_by f (map h xs) ≡ sum_by (λ x. f (h x)) xs
sum_of_map f h [] = refl
sum_of_map f h (x ∷ xs) = sum_by-cons f (h x) (map h xs) ∙ omega (arith, sum_of_map f h xs, sum_by-cons (λ y. f (h y)) x xs)

sum_two : {X : Type 0} (f g h : X → ℕ) → ((x : X) → f x ≤ g x + h x) → (xs : List X) → sum_by f xs ≤ sum_by g xs + sum_by h xs
sum_two f g h e [] = omega arith
sum_two f g h e (x ∷ xs) = omega (arith, sum_by-cons f x xs, sum_by-cons g x xs, sum_by-cons h x xs, e x, sum_two f g h e xs)

abbrev is_there : Option Object → ℕ
is_there o = one (is_some o)

none_there : (ys : List (Option Object)) → ((n : ℕ) → is_there (get_or ys n None) ≡ 0) → sum_by is_there ys ≡ 0
none_there [] h = refl
none_there (y ∷ ys) h = omega (arith, sum_by-cons is_there y ys, h 0, none_there ys (λ n. h (suc n)))

fewer_there : (xs ys : List (Option Object)) → ((n : ℕ) → is_there (get_or xs n None) ≤ is_there (get_or ys n None)) → sum_by is_there xs ≤ sum_by is_there ys
fewer_there [] ys h = omega arith
fewer_there (x ∷ xs) [] h = let z = none_there (x ∷ xs) (λ n. let l = h n in omega (arith, l)) in omega (arith, z)
fewer_there (x ∷ xs) (y ∷ ys) h = omega (arith, sum_by-cons is_there x xs, sum_by-cons is_there y ys, h 0, fewer_there xs ys (λ n. h (suc n)))

one_or_gone : (a b : Bool) → one a ≤ one b + one (a && not b)
one_or_gone true true = omega arith
one_or_gone true false = omega arith
one_or_gone false b = omega arith

abbrev firsts : ℕ → List (Option Object) → List (Option Object)
firsts k os = map (λ n. get_or os n None) (range_with_len 0 k)

first_at : (k : ℕ) (os : List (Option Object)) (n : ℕ) → is_there (get_or (firsts k os) n None) ≤ is_there (get_or os n None)
first_at k os n = elim (cases_lt n k) [
  | inl l ↦ rw (get_or-map-range_with_len (λ m. get_or os m None) 0 k n n None l (omega arith)) (omega arith)
  | inr l ↦ rw (get_or_past (firsts k os) n None (let e = length-map-range_with_len (λ m. get_or os m None) 0 k in omega (arith, e))) (omega arith)
]

there_gone : (s new : State) → count_by is_some s.objects ≤ count_by is_some new.objects + objects_gone s new
unfolding objects_gone
there_gone s new =
    let k = length s.objects in
    let all : s.objects ≡ firsts k s.objects = fill_by_all (λ n. get_or s.objects n None) s.objects k None refl (λ n h. refl) in
    let a : sum_by is_there s.objects ≡ sum_by (λ n. is_there (get_or s.objects n None)) (range_with_len 0 k) = ap (sum_by is_there) all ∙ sum_of_map is_there (λ n. get_or s.objects n None) (range_with_len 0 k) in
    let b = sum_of_map is_there (λ n. get_or new.objects n None) (range_with_len 0 k) in
    let c = fewer_there (firsts k new.objects) new.objects (first_at k new.objects) in
    let d = sum_two (λ n. is_there (get_or s.objects n None)) (λ n. is_there (get_or new.objects n None)) (λ n. one (has_object s n && not (has_object new n))) (λ n. one_or_gone (has_object s n) (has_object new n)) (range_with_len 0 k) in
    omega (arith, a, b, c, d)

length_map : (hs : List Handle) → length (map handle_ref hs) ≡ length hs
length_map [] = refl
length_map (h ∷ hs) = omega (arith, length_map hs)

-- a state is no larger than another and what goes
pub size_gone : (s new : State) → AllPairs (λ g h. g.number ≢ h.number) s.handles → AreNamesApart s → size s ≤ size new + objects_gone s new + refs_gone s new
unfolding size
size_gone s new p a = omega (arith, held_gone s new p a, there_gone s new, size_is 0 s.objects, size_is 0 new.objects, length-append (map handle_ref s.handles) (object_refs 0 s.objects), length-append (map handle_ref new.handles) (object_refs 0 new.objects), length_map s.handles, length_map new.handles)
