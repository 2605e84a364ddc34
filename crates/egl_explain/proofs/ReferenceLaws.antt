-- References, one after another; and that they are those of the state.
use Rattle.std.proofs.Common.{◌≡◌, ℕ, zero, suc, ◌+◌, ◌-◌, ◌<◌, Bool, true, false, cond, ◌==◌, List, [], ◌∷◌, ◌++◌, map, length, drop, drop-cons, get_or, replicate, refl, sym, ap, ◌∙◌, arith, append_assoc, Option, None, Some}
use Rattle.std.proofs.lemmas.Bool.Decides.{nat_tests}
use Rattle.std.proofs.lemmas.List.{append-nil, map-append}
use Rattle.std.proofs.lemmas.List.Elements.{filter-append}
use Rattle.std.proofs.lemmas.List.Sums.{length-filter, sum_by-append, sum_by-cons}
use Rattle.std.specs.List.{count_by, filter, flat_map, sum_by}
use Rattle.std.specs.Prelude.{option_to_list}
use Rattle.display_table.specs.declared.handles.Handle.{Handle}
use Rattle.driver_objects.specs.Objects.{filled}
use Rattle.driver_objects.specs.declared.objects.Object.{Object}
use Rattle.driver_objects.specs.declared.objects.Object.TheVariants.{Context, Group, Texture, Buffer, Renderbuffer, Framebuffer, Surface, Storage, Image, Sync}
use Rattle.driver_facts.specs.Threads.{padded}
use Rattle.egl_model.specs.declared.records.Bound.{Bound}
use Rattle.egl_model.specs.declared.records.ThreadRecord.{ThreadRecord}
use Rattle.egl_model.specs.State.{State, capacity, initial}
use Rattle.egl_model.specs.Sweep.{bound_object, edges_at, edges_in, held_by, references, roots, roots_of}
use Rattle.egl_explain.specs.declared.references.Holder.{Holder}
use Rattle.egl_explain.specs.declared.references.Holder.TheVariants.{Handle as by_handle, Thread as by_thread, Object as by_object}
use Rattle.egl_explain.specs.declared.references.ObjectReference.{ObjectReference}
use Rattle.egl_explain.specs.declared.references.LinkRole.{LinkRole}
use Rattle.egl_explain.specs.declared.references.LinkRole.TheVariants.{Group as its_group, OwnTexture, Bound as BoundTo, Named, Level, Pixels, Attached}
use Rattle.driver_objects.specs.declared.targets.BindTarget.TheVariants.{Texture as texture_2d, ArrayBuffer as array_buffer, ElementArrayBuffer as element_array_buffer, Renderbuffer as renderbuffer, Framebuffer as framebuffer}
use Rattle.framebuffer_objects.specs.Framebuffers.{object_of}
use Rattle.framebuffer_objects.specs.declared.points.Point.TheVariants.{Color, Depth, Stencil}
use Rattle.egl_explain.specs.declared.references.Use.{Use}
use Rattle.egl_explain.specs.declared.references.Use.TheVariants.{Current, Draw, Read, Wait}
use Rattle.egl_explain.specs.References.{bound_to, handle_reference, holders_of, is_object, is_outside, level_references, name_reference, object_references, record_references, references_at, references_in, targets, thread_references, to}

-- ---- One more of a list.
next : {Y : Type 0} (here rest whole old new all : List Y) → new ≡ old ++ here → whole ≡ here ++ rest → old ++ whole ≡ all → new ++ rest ≡ all
next here rest whole old new all e f g = ap (λ l. l ++ rest) e ∙ append_assoc old here rest ∙ ap (λ l. old ++ l) (sym f) ∙ g

from_place : {X : Type 0} (xs : List X) (k : ℕ) (d : X) → k < length xs → drop k xs ≡ get_or xs k d ∷ drop (k + 1) xs
from_place xs k d l = drop-cons xs k d l ∙ ap (λ i. get_or xs k d ∷ drop i xs) (let q : suc k ≡ k + 1 = omega arith in q)

-- the names in front of one, with it
pub next_name : (n k m : ℕ) (xs : List ℕ) (old new all : List ObjectReference) → k < length xs → m ≡ get_or xs k 0 → new ≡ old ++ name_reference n m ∷ []
    → old ++ map (name_reference n) (drop k xs) ≡ all → new ++ map (name_reference n) (drop (k + 1) xs) ≡ all
next_name n k m xs old new all l e f g =
    next (name_reference n m ∷ []) (map (name_reference n) (drop (k + 1) xs)) (map (name_reference n) (drop k xs)) old new all f (ap (map (name_reference n)) (from_place xs k 0 l ∙ ap (λ x. x ∷ drop (k + 1) xs) (sym e))) g

objects_from : (k : ℕ) (os : List (Option Object)) (o : Option Object) → o ≡ get_or os k None → k < length os → object_references k (drop k os) ≡ references_at k o ++ object_references (k + 1) (drop (k + 1) os)
unfolding object_references
objects_from k os o e l = ap (object_references k) (from_place os k None l) ∙ ap (λ x. references_at k x ++ object_references (k + 1) (drop (k + 1) os)) (sym e)

-- the objects in front of one, with it
pub next_object : (k : ℕ) (os : List (Option Object)) (o : Option Object) (old new all : List ObjectReference) → k < length os → o ≡ get_or os k None → new ≡ old ++ references_at k o
    → old ++ object_references k (drop k os) ≡ all → new ++ object_references (k + 1) (drop (k + 1) os) ≡ all
next_object k os o old new all l e f g = next (references_at k o) (object_references (k + 1) (drop (k + 1) os)) (object_references k (drop k os)) old new all f (objects_from k os o e l) g

-- what refers by the first, and by those behind it
pub next_holder : (n : ℕ) (r : ObjectReference) (rs : List ObjectReference) → holders_of n (r ∷ rs) ≡ holders_of n (r ∷ []) ++ holders_of n rs
next_holder n r rs =
    let leads : ObjectReference → Bool = λ x. x.object == n in
    let holder : ObjectReference → Holder = λ x. x.holder in
    ap (map holder) (filter-append leads (r ∷ []) rs) ∙ map-append holder (filter leads (r ∷ [])) (filter leads rs)

-- ---- The records of threads that were never made have no references.
threads_append : (t : ℕ) (rs more : List ThreadRecord) → thread_references t (rs ++ more) ≡ thread_references t rs ++ thread_references (t + length rs) more
unfolding thread_references
threads_append t [] more = ap (λ n. thread_references n more) (let e : t ≡ t + 0 = omega arith in e)
threads_append t (r ∷ rs) more =
    ap (λ l. record_references t r ++ l) (threads_append (t + 1) rs more ∙ ap (λ n. thread_references (t + 1) rs ++ thread_references n more) (let e : (t + 1) + length rs ≡ t + suc (length rs) = omega arith in e))
    ∙ sym (append_assoc (record_references t r) (thread_references (t + 1) rs) (thread_references (t + suc (length rs)) more))

none_hold : (t n : ℕ) → thread_references t (replicate n initial) ≡ []
unfolding thread_references
none_hold t zero = refl
none_hold t (suc n) = none_hold (t + 1) n

pub padded_threads : (rs ts : List ThreadRecord) → padded rs ≡ ts → thread_references 0 rs ≡ thread_references 0 ts
unfolding padded
padded_threads rs ts e =
    let more = replicate (capacity - length rs) initial in
    sym (append-nil (thread_references 0 rs)) ∙ ap (λ l. thread_references 0 rs ++ l) (sym (none_hold (0 + length rs) (capacity - length rs))) ∙ sym (threads_append 0 rs more) ∙ ap (thread_references 0) e

-- the references of handles, then of threads, then of objects are all of a state
pub all_added : (s : State) (hs : List Handle) (rs : List ThreadRecord) (a b c : List ObjectReference) → hs ≡ s.handles → padded rs ≡ s.threads → a ≡ map handle_reference hs → b ≡ a ++ thread_references 0 rs → c ≡ b ++ object_references 0 s.objects → c ≡ references_in s
unfolding references_in
all_added s hs rs a b c handles records first second third =
    let hr = map handle_reference s.handles in
    let ts = thread_references 0 s.threads in
    let os = object_references 0 s.objects in
    let so_far : b ≡ hr ++ ts = second ∙ ap (λ l. l ++ thread_references 0 rs) (first ∙ ap (map handle_reference) handles) ∙ ap (λ l. hr ++ l) (padded_threads rs s.threads records) in
    third ∙ ap (λ l. l ++ os) so_far ∙ append_assoc hr ts os

-- ---- Where references lead.
abbrev ends : List ObjectReference → List ℕ
ends rs = map (λ r. r.object) rs

both : {A : Type 0} (a b c d : List A) → a ≡ c → b ≡ d → a ++ b ≡ c ++ d
both a b c d e f = ap (λ l. l ++ b) e ∙ ap (λ l. c ++ l) f

ends_append : (xs ys : List ObjectReference) → ends (xs ++ ys) ≡ ends xs ++ ends ys
ends_append xs ys = map-append (λ (r : ObjectReference). r.object) xs ys

ends_to : (h : Holder) (o : Option ℕ) → ends (to h o) ≡ option_to_list o
ends_to h None = refl
ends_to h (Some n) = refl

-- that of a slot in front of others
ends_more : (h : Holder) (o : Option ℕ) (rs : List ObjectReference) (xs : List ℕ) → ends rs ≡ xs → ends (to h o ++ rs) ≡ option_to_list o ++ xs
ends_more h o rs xs e = ends_append (to h o) rs ∙ both (ends (to h o)) (ends rs) (option_to_list o) xs (ends_to h o) e

ends_last : (h : Holder) (o : Option ℕ) → ends (to h o) ≡ filled (o ∷ [])
ends_last h o = ends_to h o ∙ sym (append-nil (option_to_list o))

ends_names : (n : ℕ) (xs : List ℕ) → ends (map (name_reference n) xs) ≡ xs
ends_names n [] = refl
ends_names n (x ∷ xs) = ap (λ l. x ∷ l) (ends_names n xs)

ends_levels : (n i : ℕ) (xs : List (Option ℕ)) → ends (level_references n i xs) ≡ filled xs
ends_levels n i [] = refl
ends_levels n i (x ∷ xs) = ends_more (by_object n (Level i)) x (level_references n (i + 1) xs) (filled xs) (ends_levels n (i + 1) xs)

ends_object : (n : ℕ) (o : Option Object) → ends (references_at n o) ≡ edges_in o
ends_object n None = refl
ends_object n (Some (Context c)) =
    let texture = by_object n (BoundTo texture_2d) in
    let array = by_object n (BoundTo array_buffer) in
    let elements = by_object n (BoundTo element_array_buffer) in
    let pixels = by_object n (BoundTo renderbuffer) in
    let target = by_object n (BoundTo framebuffer) in
    let x = c.bound in
    let last = to target x.framebuffer in
    let five = to pixels x.renderbuffer ++ last in
    let four = to elements x.element_array_buffer ++ five in
    let three = to array x.array_buffer ++ four in
    let two = to texture x.texture ++ three in
    let one = to (by_object n OwnTexture) (Some c.texture) ++ two in
    let f5 = filled (x.renderbuffer ∷ x.framebuffer ∷ []) in
    let f4 = filled (x.element_array_buffer ∷ x.renderbuffer ∷ x.framebuffer ∷ []) in
    let f3 = filled (x.array_buffer ∷ x.element_array_buffer ∷ x.renderbuffer ∷ x.framebuffer ∷ []) in
    let f2 = filled (x.texture ∷ x.array_buffer ∷ x.element_array_buffer ∷ x.renderbuffer ∷ x.framebuffer ∷ []) in
    let l6 = ends_last target x.framebuffer in
    let l5 = ends_more pixels x.renderbuffer last (filled (x.framebuffer ∷ [])) l6 in
    let l4 = ends_more elements x.element_array_buffer five f5 l5 in
    let l3 = ends_more array x.array_buffer four f4 l4 in
    let l2 = ends_more texture x.texture three f3 l3 in
    let l1 = ends_more (by_object n OwnTexture) (Some c.texture) two f2 l2 in
    ends_more (by_object n its_group) (Some c.group) one (c.texture ∷ f2) l1
ends_object n (Some (Group g)) = ends_names n _
ends_object n (Some (Texture x)) = ends_levels n 0 x.levels
ends_object n (Some (Buffer x)) = refl
ends_object n (Some (Renderbuffer x)) = ends_last (by_object n Pixels) x.storage
ends_object n (Some (Framebuffer x)) =
    let color = by_object n (Attached Color) in
    let depth = by_object n (Attached Depth) in
    let stencil = by_object n (Attached Stencil) in
    let last = to stencil (object_of x.stencil) in
    let l2 = ends_more depth (object_of x.depth) last (filled (object_of x.stencil ∷ [])) (ends_last stencil (object_of x.stencil)) in
    ends_more color (object_of x.color) (to depth (object_of x.depth) ++ last) (filled (object_of x.depth ∷ object_of x.stencil ∷ [])) l2
ends_object n (Some (Surface x)) = refl
ends_object n (Some (Storage x)) = refl
ends_object n (Some (Image x)) = refl
ends_object n (Some (Sync x)) = refl

ends_objects : (n : ℕ) (os : List (Option Object)) → ends (object_references n os) ≡ flat_map edges_in os
unfolding object_references
ends_objects n [] = refl
ends_objects n (o ∷ os) = ends_append (references_at n o) (object_references (n + 1) os) ∙ both _ _ (edges_in o) (flat_map edges_in os) (ends_object n o) (ends_objects (n + 1) os)

ends_bound : (b : Option Bound) → option_to_list (bound_to b) ≡ bound_object b
ends_bound None = refl
ends_bound (Some b) = refl

-- that of something current in front of others
ends_current : (h : Holder) (b : Option Bound) (rs : List ObjectReference) (xs : List ℕ) → ends rs ≡ xs → ends (to h (bound_to b) ++ rs) ≡ bound_object b ++ xs
ends_current h b rs xs e = ends_more h (bound_to b) rs xs e ∙ ap (λ l. l ++ xs) (ends_bound b)

ends_record : (t : ℕ) (r : ThreadRecord) → ends (record_references t r) ≡ held_by r
ends_record t r =
    let w = option_to_list r.wait in
    let waits = to (by_thread t Wait) r.wait in
    let reads = to (by_thread t Read) (bound_to r.read) ++ waits in
    let draws = to (by_thread t Draw) (bound_to r.draw) ++ reads in
    let c = bound_object r.context in
    let d = bound_object r.draw in
    let e = bound_object r.read in
    ends_current (by_thread t Current) r.context draws (d ++ (e ++ w)) (ends_current (by_thread t Draw) r.draw reads (e ++ w) (ends_current (by_thread t Read) r.read waits w (ends_to (by_thread t Wait) r.wait)))
    ∙ sym (append_assoc c d (e ++ w))
    ∙ sym (append_assoc (c ++ d) e w)

ends_threads : (t : ℕ) (rs : List ThreadRecord) → ends (thread_references t rs) ≡ flat_map held_by rs
unfolding thread_references
ends_threads t [] = refl
ends_threads t (r ∷ rs) = ends_append (record_references t r) (thread_references (t + 1) rs) ∙ both _ _ (held_by r) (flat_map held_by rs) (ends_record t r) (ends_threads (t + 1) rs)

ends_handles : (hs : List Handle) → ends (map handle_reference hs) ≡ map (λ h. h.object) hs
ends_handles [] = refl
ends_handles (h ∷ hs) = ap (λ l. h.object ∷ l) (ends_handles hs)

-- all references lead to the roots, and along the edges of the objects
pub ends_of_all : (s : State) → ends (references_in s) ≡ roots s ++ flat_map edges_in s.objects
unfolding references_in roots_of
ends_of_all s =
    let hs = map handle_reference s.handles in
    let ts = thread_references 0 s.threads in
    let os = object_references 0 s.objects in
    ends_append hs (ts ++ os)
    ∙ both _ _ _ _ (ends_handles s.handles) (ends_append ts os ∙ both _ _ _ _ (ends_threads 0 s.threads) (ends_objects 0 s.objects))
    ∙ sym (append_assoc (map (λ (h : Handle). h.object) s.handles) (flat_map held_by s.threads) (flat_map edges_in s.objects))

-- ---- How many lead to an object.
abbrev counted : ℕ → List ℕ → ℕ
counted n xs = count_by (λ m. m == n) xs

counted_append : (n : ℕ) (xs ys : List ℕ) → counted n (xs ++ ys) ≡ counted n xs + counted n ys
counted_append n xs ys = sum_by-append (λ m. cond (m == n) 1 0) xs ys

counted_ends : (n : ℕ) (rs : List ObjectReference) → count_by (λ r. r.object == n) rs ≡ counted n (ends rs)
counted_ends n [] = refl
counted_ends n (r ∷ rs) =
    let a = sum_by-cons (λ (x : ObjectReference). cond (x.object == n) 1 0) r rs in
    let b = sum_by-cons (λ m. cond (m == n) 1 0) r.object (ends rs) in
    omega (arith, a, b, counted_ends n rs)

counted_edges : (n : ℕ) (os : List (Option Object)) → counted n (flat_map edges_in os) ≡ sum_by (λ o. counted n (edges_in o)) os
counted_edges n [] = refl
counted_edges n (o ∷ os) =
    let a = counted_append n (edges_in o) (flat_map edges_in os) in
    let b = sum_by-cons (λ x. counted n (edges_in x)) o os in
    omega (arith, a, b, counted_edges n os)

length_map : {X Y : Type 0} (f : X → Y) (xs : List X) → length (map f xs) ≡ length xs
length_map f [] = refl
length_map f (x ∷ xs) = ap suc (length_map f xs)

pub as_many_lead : (s : State) (n : ℕ) → length (holders_of n (references_in s)) ≡ references s n
unfolding references
as_many_lead s n =
    let rs = references_in s in
    let a = length_map (λ (r : ObjectReference). r.holder) (filter (λ (r : ObjectReference). r.object == n) rs) in
    let b = length-filter (λ (r : ObjectReference). r.object == n) rs in
    let c = counted_ends n rs in
    let d = ap (counted n) (ends_of_all s) in
    let e = counted_append n (roots s) (flat_map edges_in s.objects) in
    let f = counted_edges n s.objects in
    omega (arith, a, b, c, d, e, f)

-- ---- Those of one holder.
targets_append : (p : Holder → Bool) (xs ys : List ObjectReference) → targets p (xs ++ ys) ≡ targets p xs ++ targets p ys
targets_append p xs ys =
    let passes : ObjectReference → Bool = λ r. p r.holder in
    ap ends (filter-append passes xs ys) ∙ ends_append (filter passes xs) (filter passes ys)

-- all of some references pass, or none
abbrev All_are : (Holder → Bool) → Bool → List ObjectReference → Type 0
All_are p b [] = Unit {0}
All_are p b (r ∷ rs) = (p r.holder ≡ b) × All_are p b rs

all_append : (p : Holder → Bool) (b : Bool) (xs ys : List ObjectReference) → All_are p b xs → All_are p b ys → All_are p b (xs ++ ys)
all_append p b [] ys h k = k
all_append p b (x ∷ xs) ys h k = (h.0, all_append p b xs ys h.1 k)

kept : (p : Holder → Bool) (rs : List ObjectReference) → All_are p true rs → targets p rs ≡ ends rs
kept p [] h = refl
kept p (r ∷ rs) h = rw h.0 (ap (λ l. r.object ∷ l) (kept p rs h.1))

dropped : (p : Holder → Bool) (rs : List ObjectReference) → All_are p false rs → targets p rs ≡ []
dropped p [] h = refl
dropped p (r ∷ rs) h = rw h.0 (dropped p rs h.1)

all_to : (p : Holder → Bool) (b : Bool) (h : Holder) (o : Option ℕ) → p h ≡ b → All_are p b (to h o)
all_to p b h None e = tt
all_to p b h (Some n) e = (e, tt)

all_more : (p : Holder → Bool) (b : Bool) (h : Holder) (o : Option ℕ) (rs : List ObjectReference) → p h ≡ b → All_are p b rs → All_are p b (to h o ++ rs)
all_more p b h o rs e k = all_append p b (to h o) rs (all_to p b h o e) k

all_handles : (p : Holder → Bool) (b : Bool) (hs : List Handle) → ((m d : ℕ) → p (by_handle m d) ≡ b) → All_are p b (map handle_reference hs)
all_handles p b [] e = tt
all_handles p b (h ∷ hs) e = (e h.number h.display, all_handles p b hs e)

all_names : (p : Holder → Bool) (b : Bool) (n : ℕ) (xs : List ℕ) → p (by_object n Named) ≡ b → All_are p b (map (name_reference n) xs)
all_names p b n [] e = tt
all_names p b n (x ∷ xs) e = (e, all_names p b n xs e)

all_record : (p : Holder → Bool) (b : Bool) (t : ℕ) (r : ThreadRecord) → ((u : Use) → p (by_thread t u) ≡ b) → All_are p b (record_references t r)
all_record p b t r e = all_more p b _ (bound_to r.context) _ (e _) (all_more p b _ (bound_to r.draw) _ (e _) (all_more p b _ (bound_to r.read) _ (e _) (all_to p b _ r.wait (e _))))

all_threads : (p : Holder → Bool) (b : Bool) (t : ℕ) (rs : List ThreadRecord) → ((m : ℕ) (u : Use) → p (by_thread m u) ≡ b) → All_are p b (thread_references t rs)
unfolding thread_references
all_threads p b t [] e = tt
all_threads p b t (r ∷ rs) e = all_append p b (record_references t r) (thread_references (t + 1) rs) (all_record p b t r (e t)) (all_threads p b (t + 1) rs e)

all_levels : (p : Holder → Bool) (b : Bool) (n i : ℕ) (xs : List (Option ℕ)) → ((role : LinkRole) → p (by_object n role) ≡ b) → All_are p b (level_references n i xs)
all_levels p b n i [] e = tt
all_levels p b n i (x ∷ xs) e = all_more p b _ x (level_references n (i + 1) xs) (e _) (all_levels p b n (i + 1) xs e)

all_object : (p : Holder → Bool) (b : Bool) (n : ℕ) (o : Option Object) → ((role : LinkRole) → p (by_object n role) ≡ b) → All_are p b (references_at n o)
all_object p b n None e = tt
all_object p b n (Some (Context c)) e =
    let of_texture = BoundTo texture_2d in
    let of_array = BoundTo array_buffer in
    let of_elements = BoundTo element_array_buffer in
    let of_renderbuffer = BoundTo renderbuffer in
    let of_framebuffer = BoundTo framebuffer in
    let last = to (by_object n of_framebuffer) c.bound.framebuffer in
    let five = to (by_object n of_renderbuffer) c.bound.renderbuffer ++ last in
    let four = to (by_object n of_elements) c.bound.element_array_buffer ++ five in
    let three = to (by_object n of_array) c.bound.array_buffer ++ four in
    let two = to (by_object n of_texture) c.bound.texture ++ three in
    let one = to (by_object n OwnTexture) (Some c.texture) ++ two in
    let l6 = all_to p b (by_object n of_framebuffer) c.bound.framebuffer (e of_framebuffer) in
    let l5 = all_more p b (by_object n of_renderbuffer) c.bound.renderbuffer last (e of_renderbuffer) l6 in
    let l4 = all_more p b (by_object n of_elements) c.bound.element_array_buffer five (e of_elements) l5 in
    let l3 = all_more p b (by_object n of_array) c.bound.array_buffer four (e of_array) l4 in
    let l2 = all_more p b (by_object n of_texture) c.bound.texture three (e of_texture) l3 in
    let l1 = all_more p b (by_object n OwnTexture) (Some c.texture) two (e OwnTexture) l2 in
    all_more p b (by_object n its_group) (Some c.group) one (e its_group) l1
all_object p b n (Some (Group g)) e = all_names p b n _ (e _)
all_object p b n (Some (Texture x)) e = all_levels p b n 0 x.levels e
all_object p b n (Some (Buffer x)) e = tt
all_object p b n (Some (Renderbuffer x)) e = all_to p b _ x.storage (e _)
all_object p b n (Some (Framebuffer x)) e =
    let stencil = to (by_object n (Attached Stencil)) (object_of x.stencil) in
    let depth = to (by_object n (Attached Depth)) (object_of x.depth) ++ stencil in
    let l2 = all_to p b (by_object n (Attached Stencil)) (object_of x.stencil) (e (Attached Stencil)) in
    let l1 = all_more p b (by_object n (Attached Depth)) (object_of x.depth) stencil (e (Attached Depth)) l2 in
    all_more p b (by_object n (Attached Color)) (object_of x.color) depth (e (Attached Color)) l1
all_object p b n (Some (Surface x)) e = (e _, tt)
all_object p b n (Some (Storage x)) e = tt
all_object p b n (Some (Image x)) e = (e _, tt)
all_object p b n (Some (Sync x)) e = tt

all_objects : (p : Holder → Bool) (b : Bool) (n : ℕ) (os : List (Option Object)) → ((m : ℕ) (role : LinkRole) → p (by_object m role) ≡ b) → All_are p b (object_references n os)
unfolding object_references
all_objects p b n [] e = tt
all_objects p b n (o ∷ os) e = all_append p b (references_at n o) (object_references (n + 1) os) (all_object p b n o (e n)) (all_objects p b (n + 1) os e)

pub outside_are_roots : (s : State) → targets is_outside (references_in s) ≡ roots s
unfolding references_in roots_of
outside_are_roots s =
    let hs = map handle_reference s.handles in
    let ts = thread_references 0 s.threads in
    let os = object_references 0 s.objects in
    let threads = targets_append is_outside ts os ∙ both _ _ (ends ts) [] (kept is_outside ts (all_threads is_outside true 0 s.threads (λ m u. refl))) (dropped is_outside os (all_objects is_outside false 0 s.objects (λ m r. refl))) ∙ append-nil (ends ts) in
    targets_append is_outside hs (ts ++ os) ∙ both _ _ _ _ (kept is_outside hs (all_handles is_outside true s.handles (λ m d. refl)) ∙ ends_handles s.handles) (threads ∙ ends_threads 0 s.threads)

-- ---- Those of one object.
later_dropped : (n k : ℕ) (os : List (Option Object)) → n < k → targets (is_object n) (object_references k os) ≡ []
unfolding object_references
later_dropped n k [] l = refl
later_dropped n k (o ∷ os) l = targets_append (is_object n) (references_at k o) (object_references (k + 1) os) ∙ both _ _ [] [] (dropped (is_object n) (references_at k o) (all_object (is_object n) false k o (λ r. grind (arith, nat_tests)))) (later_dropped n (k + 1) os (omega (arith, l)))

of_object : (n m k : ℕ) (os : List (Option Object)) → n ≡ k + m → targets (is_object n) (object_references k os) ≡ edges_in (get_or os m None)
unfolding object_references
of_object n m k [] e = refl
of_object n zero k (o ∷ os) e =
    targets_append (is_object n) (references_at k o) (object_references (k + 1) os)
    ∙ both _ _ (edges_in o) [] (kept (is_object n) (references_at k o) (all_object (is_object n) true k o (λ r. grind (arith, nat_tests))) ∙ ends_object k o) (later_dropped n (k + 1) os (omega (arith, e)))
    ∙ append-nil (edges_in o)
of_object n (suc m) k (o ∷ os) e =
    targets_append (is_object n) (references_at k o) (object_references (k + 1) os)
    ∙ both _ _ [] (edges_in (get_or os m None)) (dropped (is_object n) (references_at k o) (all_object (is_object n) false k o (λ r. grind (arith, nat_tests)))) (of_object n m (k + 1) os (omega (arith, e)))

pub objects_have_edges : (s : State) (n : ℕ) → targets (is_object n) (references_in s) ≡ edges_at s.objects n
unfolding references_in edges_at
objects_have_edges s n =
    let hs = map handle_reference s.handles in
    let ts = thread_references 0 s.threads in
    let os = object_references 0 s.objects in
    targets_append (is_object n) hs (ts ++ os)
    ∙ both _ _ [] _ (dropped (is_object n) hs (all_handles (is_object n) false s.handles (λ m d. refl))) (targets_append (is_object n) ts os ∙ both _ _ [] _ (dropped (is_object n) ts (all_threads (is_object n) false 0 s.threads (λ m u. refl))) (of_object n n 0 s.objects (omega arith)))
