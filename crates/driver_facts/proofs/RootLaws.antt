-- Roots come and go.
use Rattle.std.proofs.Common.{◌≡◌, ◌≢◌, ℕ, zero, suc, ◌+◌, ◌*◌, ◌<◌, ◌≤◌, Bool, true, false, not, cond, List, [], ◌∷◌, ◌++◌, length, length-append, get_or, set, map, refl, sym, ap, ◌∙◌, arith, inl, inr, ◌⊎◌, replicate, Option, None, Some}
use Rattle.display_table.proofs.RiseLaws.{only_one}
use Rattle.display_table.specs.Handles.{RiseFrom}
use Rattle.display_table.specs.Handles as numbered
use Rattle.std.proofs.lemmas.Bool.{cases_eq, cases_lt}
use Rattle.std.proofs.lemmas.Option.{none-some}
use Rattle.std.proofs.lemmas.List.{map-append, length-map, set_past}
use Rattle.std.proofs.lemmas.List.Sums.{sum_by-set, sum_by-cons}
use Rattle.std.specs.List.{flat_map, sum_by, filter}
use Rattle.std.specs.Prelude.{find, IfSome, option_to_list, ◌==◌}
use Rattle.display_table.specs.declared.handles.Handle.{Handle}
use Rattle.egl_model.specs.declared.records.Bound.{Bound}
use Rattle.egl_model.specs.declared.records.ThreadRecord.{ThreadRecord}
use Rattle.egl_model.specs.State.{initial}
use Rattle.egl_model.specs.Sweep.{bound_object, held_by, roots_of}
use Rattle.ref_store.specs.Counts.{times}
use Rattle.ref_store.proofs.CountLaws.{times_le, times_append, times_here, times_other, times_none}
use Rattle.driver_objects.specs.declared.contexts.Context.{Context as ContextObject}
use Rattle.driver_objects.specs.Objects.{filled}
use Rattle.driver_objects.specs.declared.objects.Object.{Object}
use Rattle.driver_objects.specs.declared.objects.Object.TheVariants.{Context, Group, Texture, Buffer, Renderbuffer, Framebuffer, Surface, Storage, Image, Sync}
use Rattle.egl_model.specs.Objects.{as_context, context_in}
use Rattle.driver_facts.specs.Groups.{IsGroup}
use Rattle.egl_calls.specs.declared.errors.EglError.{EglError}
use Rattle.egl_model.specs.MakeCurrent.{bound_by}
use Rattle.object_table.specs.Lets.{Lets}
use Rattle.object_table.specs.Tables.{AreHolds, LeadsDown, TableValue}

abbrev pub objects_of : List Handle → List ℕ
objects_of hs = map (λ h. h.object) hs

pub times_one : (n : ℕ) (xs : List ℕ) → 0 < times n (n ∷ xs)
times_one n xs = omega (arith, times_here n xs)

-- what stands first in roots is held
pub first_held : (n : ℕ) (roots holds : List ℕ) → AreHolds (n ∷ roots) holds → 0 < get_or holds n 0
first_held n roots holds are = omega (arith, are n, times_here n roots)

pub times_roots : (n : ℕ) (hs : List Handle) (ts : List ThreadRecord) → times n (roots_of hs ts) ≡ times n (objects_of hs) + times n (flat_map held_by ts)
unfolding roots_of
times_roots n hs ts = times_append n (objects_of hs) (flat_map held_by ts)

times_flat : (n : ℕ) (ts : List ThreadRecord) → times n (flat_map held_by ts) ≡ sum_by (λ r. times n (held_by r)) ts
times_flat n [] = times_none n
times_flat n (r ∷ ts) = omega (arith, times_append n (held_by r) (flat_map held_by ts), times_flat n ts, sum_by-cons (λ r. times n (held_by r)) r ts)

-- another record in the place of one
pub roots_set : (n : ℕ) (hs : List Handle) (ts : List ThreadRecord) (t : ℕ) (r : ThreadRecord) → t < length ts → times n (roots_of hs (set ts t r)) + times n (held_by (get_or ts t initial)) ≡ times n (roots_of hs ts) + times n (held_by r)
roots_set n hs ts t r l = omega (arith, times_roots n hs ts, times_roots n hs (set ts t r), times_flat n ts, times_flat n (set ts t r), sum_by-set (λ x. times n (held_by x)) ts t r initial l)

abbrev waits : ThreadRecord → List ℕ
waits r = option_to_list r.wait

parts : (n : ℕ) (r : ThreadRecord) → times n (held_by r) ≡ times n (bound_object r.context) + (times n (bound_object r.draw) + (times n (bound_object r.read) + times n (waits r)))
parts n r = omega (arith, times_append n ((bound_object r.context ++ bound_object r.draw) ++ bound_object r.read) (waits r), times_append n (bound_object r.context ++ bound_object r.draw) (bound_object r.read), times_append n (bound_object r.context) (bound_object r.draw))

bound_few : (b : Option Bound) → length (bound_object b) ≤ 1
bound_few None = omega arith
bound_few (Some b) = omega arith

wait_few : (b : Option ℕ) → length (option_to_list b) ≤ 1
wait_few None = omega arith
wait_few (Some b) = omega arith

few_by : (r : ThreadRecord) → length (held_by r) ≤ 4
few_by r = omega (arith, length-append ((bound_object r.context ++ bound_object r.draw) ++ bound_object r.read) (waits r), length-append (bound_object r.context ++ bound_object r.draw) (bound_object r.read), length-append (bound_object r.context) (bound_object r.draw), bound_few r.context, bound_few r.draw, bound_few r.read, wait_few r.wait)

-- the same where the wait stays
pub roots_bind : (n : ℕ) (hs : List Handle) (ts : List ThreadRecord) (t : ℕ) (was : ThreadRecord) (context draw read : Option Bound) → t < length ts → was ≡ get_or ts t initial → times n ((bound_object was.context ++ bound_object was.draw) ++ bound_object was.read) + times n (roots_of hs (set ts t (record was { context = context; draw = draw; read = read }))) ≡ times n (bound_object read ++ (bound_object draw ++ bound_object context)) + times n (roots_of hs ts)
roots_bind n hs ts t was context draw read l e =
    let now : ThreadRecord = record was { context = context; draw = draw; read = read } in
    let a = roots_set n hs ts t now l in
    let b : times n (held_by (get_or ts t initial)) ≡ times n (held_by was) = ap (λ r. times n (held_by r)) (sym e) in
    let c : times n (held_by was) ≡ times n (bound_object was.context) + (times n (bound_object was.draw) + (times n (bound_object was.read) + times n (waits was))) = parts n was in
    let d : times n (held_by now) ≡ times n (bound_object context) + (times n (bound_object draw) + (times n (bound_object read) + times n (waits was))) = parts n now in
    omega (arith, a, b, c, d, times_append n (bound_object was.context ++ bound_object was.draw) (bound_object was.read), times_append n (bound_object was.context) (bound_object was.draw), times_append n (bound_object read) (bound_object draw ++ bound_object context), times_append n (bound_object draw) (bound_object context))

found_by : (b : Bool) (x h : Handle) (o : Option Handle) → cond b (Some x) o ≡ Some h → (x ≡ h) ⊎ (o ≡ Some h)
found_by true x h o e = inl cc
found_by false x h o e = inr e

-- a handle that is found names a root
pub found : (p : Handle → Bool) (h : Handle) (hs : List Handle) → find p hs ≡ Some h → 0 < times h.object (objects_of hs)
found p h [] e = cc
found p h (x ∷ hs) e = elim (found_by (p x) x h (find p hs) e) [
  | inl f ↦ rw (← f) (times_one x.object (objects_of hs))
  | inr f ↦ let g : 0 < times h.object (objects_of hs) = found p h hs f in omega (arith, g, times_append h.object (x.object ∷ []) (objects_of hs))
]

split_step : (n : ℕ) (b : Bool) (h : Handle) (xs ys : List Handle) → times n (objects_of (cond b (h ∷ xs) xs)) + times n (objects_of (cond (not b) (h ∷ ys) ys)) ≡ times n (h.object ∷ []) + (times n (objects_of xs) + times n (objects_of ys))
split_step n true h xs ys = omega (arith, times_append n (h.object ∷ []) (objects_of xs))
split_step n false h xs ys = omega (arith, times_append n (h.object ∷ []) (objects_of ys))

-- handles that pass, and the others
pub split_by : (n : ℕ) (p : Handle → Bool) (hs : List Handle) → times n (objects_of (filter p hs)) + times n (objects_of (filter (λ h. not (p h)) hs)) ≡ times n (objects_of hs)
split_by n p [] = omega (arith, times_none n)
split_by n p (h ∷ hs) = omega (arith, split_step n (p h) h (filter p hs) (filter (λ x. not (p x)) hs), split_by n p hs, times_append n (h.object ∷ []) (objects_of hs))

held_few : (ts : List ThreadRecord) → length (flat_map held_by ts) ≤ 4 * length ts
held_few [] = omega arith
held_few (r ∷ ts) = omega (arith, held_few ts, length-append (held_by r) (flat_map held_by ts), few_by r)

pub roots_few : (hs : List Handle) (ts : List ThreadRecord) → length (roots_of hs ts) ≤ length hs + 4 * length ts
unfolding roots_of
roots_few hs ts = omega (arith, length-append (objects_of hs) (flat_map held_by ts), held_few ts, length-map hs (λ (h : Handle). h.object))

-- once those that pass are let go, the others are the roots
pub without : (p : Handle → Bool) (hs : List Handle) (ts : List ThreadRecord) (holds : List ℕ) → AreHolds (roots_of hs ts) holds → AreHolds (objects_of (filter p hs) ++ roots_of (filter (λ h. not (p h)) hs) ts) holds
without p hs ts holds are n = omega (arith, are n, times_append n (objects_of (filter p hs)) (roots_of (filter (λ h. not (p h)) hs) ts), times_roots n hs ts, times_roots n (filter (λ h. not (p h)) hs) ts, split_by n p hs)

-- what is let go in turn, the newest first
pub regrouped : (now gone old roots holds : List ℕ) → old ≡ now ++ gone → AreHolds (old ++ roots) holds → AreHolds (gone ++ (now ++ roots)) holds
regrouped now gone old roots holds e are n = omega (arith, are n, ap (times n) e, times_append n old roots, times_append n now gone, times_append n gone (now ++ roots), times_append n now roots)

pub held_last : (new : List ℕ) (x : ℕ) (now roots holds : List ℕ) → now ≡ new ++ x ∷ [] → AreHolds (now ++ roots) holds → 0 < get_or holds x 0
held_last new x now roots holds e are = omega (arith, are x, ap (times x) e, times_append x now roots, times_append x new (x ∷ []), times_one x [])

pub times_turned : (gone : List ℕ) (x n : ℕ) → times n (x ∷ gone) ≡ times n (gone ++ x ∷ [])
times_turned gone x n = omega (arith, times_append n (x ∷ []) gone, times_append n gone (x ∷ []))

pub length_turned : (gone : List ℕ) (x : ℕ) → length (x ∷ gone) ≡ length (gone ++ x ∷ [])
length_turned gone x = omega (arith, length-append gone (x ∷ []))

pub lets_same : (a b : TableValue) (g h : List ℕ) (s t : ℕ) → ((n : ℕ) → times n h ≡ times n g) → length h ≡ length g → Lets a b g s t → Lets a b h s t
lets_same a b g h s t e l lets =
    let turned : (roots : List ℕ) → AreHolds (h ++ roots) a.holds → AreHolds (g ++ roots) a.holds = λ roots k n. omega (arith, k n, e n, times_append n h roots, times_append n g roots) in
    record { holds = λ roots k. lets.holds roots (turned roots k); objects = λ roots k. lets.objects roots (turned roots k); spare = lets.spare; steps = omega (arith, lets.steps, l) }

-- where no handle is of the display, all are of others
none_on : (b : Bool) (x : Handle) (ys : List Handle) → objects_of (cond b (x ∷ ys) ys) ≡ [] → (b ≡ false) × (objects_of ys ≡ [])
none_on true x ys e = absurd (let f : x.object ∷ objects_of ys ≡ [] = e in cc)
none_on false x ys e = (refl, e)

pub none_left : (now new more : List ℕ) → now ≡ new ++ more → now ≡ [] → new ≡ []
none_left now [] more e f = refl
none_left now (x ∷ new) more e f = absurd (let g : x ∷ (new ++ more) ≡ [] = sym e ∙ f in cc)

pub off_all : (p : Handle → Bool) (hs : List Handle) → objects_of (filter p hs) ≡ [] → filter (λ h. not (p h)) hs ≡ hs
off_all p [] e = refl
off_all p (x ∷ hs) e = let n = none_on (p x) x (filter p hs) e in rw (n.0, off_all p hs n.1) refl

-- once a handle that is found is removed, what it names may be let go
pub without_one : (p : Handle → Bool) (h : Handle) (end : ℕ) (hs : List Handle) (ts : List ThreadRecord) (holds : List ℕ) → RiseFrom 3 hs end → find p hs ≡ Some h → AreHolds (roots_of hs ts) holds → AreHolds (h.object ∷ roots_of (numbered.without h.number hs) ts) holds
without_one p h end hs ts holds r e are n =
    let a = without (λ x. x.number == h.number) hs ts holds are n in
    let b = ap (λ xs. times n (objects_of xs ++ roots_of (numbered.without h.number hs) ts)) (only_one 3 p h hs end r e) in
    omega (arith, a, b)

pub root_few : (n : ℕ) (roots holds : List ℕ) (b : ℕ) → AreHolds roots holds → length roots < b → get_or holds n 0 < b
root_few n roots holds b are l = omega (arith, are n, times_le n roots)

-- the first of what is to go is held, whatever stands after it
pub bound_held : (b : Bound) (roots holds : List ℕ) → AreHolds (bound_object (Some b) ++ roots) holds → 0 < get_or holds b.object 0
bound_held b roots holds are = first_held b.object roots holds are

-- an error holds nothing
pub roots_same : (n : ℕ) (hs : List Handle) (ts : List ThreadRecord) (t : ℕ) (r : ThreadRecord) → t < length ts → held_by r ≡ held_by (get_or ts t initial) → times n (roots_of hs (set ts t r)) ≡ times n (roots_of hs ts)
roots_same n hs ts t r l e = omega (arith, roots_set n hs ts t r l, ap (times n) e)

-- a new handle
pub roots_more : (hs : List Handle) (ts : List ThreadRecord) (h : Handle) (holds new : List ℕ) → AreHolds (roots_of hs ts) holds → ((roots : List ℕ) → AreHolds roots holds → AreHolds (h.object ∷ roots) new) → AreHolds (roots_of (hs ++ h ∷ []) ts) new
roots_more hs ts h holds new are more n =
    let k = more (roots_of hs ts) are n in
    let m : times n (objects_of (hs ++ h ∷ [])) ≡ times n (objects_of hs) + times n (h.object ∷ []) = ap (times n) (map-append (λ (x : Handle). x.object) hs (h ∷ [])) ∙ times_append n (objects_of hs) (h.object ∷ []) in
    omega (arith, times_roots n (hs ++ h ∷ []) ts, times_roots n hs ts, times_append n (h.object ∷ []) (roots_of hs ts))

pub named_held : (p : Handle → Bool) (h : Handle) (hs : List Handle) (ts : List ThreadRecord) (holds : List ℕ) → AreHolds (roots_of hs ts) holds → find p hs ≡ Some h → 0 < get_or holds h.object 0
named_held p h hs ts holds are e = omega (arith, are h.object, times_roots h.object hs ts, found p h hs e)

pub room_of : (b : Option Bound) (roots holds : List ℕ) → AreHolds roots holds → length roots < 4294967295 → IfSome b (λ x. get_or holds x.object 0 < 4294967295)
room_of None roots holds are l = tt
room_of (Some b) roots holds are l = root_few b.object roots holds 4294967295 are l

pub bound_more : (b : Option Bound) (roots : List ℕ) → length (bound_object b ++ roots) ≤ length roots + 1
bound_more b roots = omega (arith, length-append (bound_object b) roots, bound_few b)

-- ---- What new objects refer to.
pub two_refer : (m : ℕ) → (0 < times (m + 1) ((m + 1) ∷ (m + 2) ∷ [])) × (0 < times (m + 2) ((m + 1) ∷ (m + 2) ∷ []))
two_refer m = (times_one (m + 1) ((m + 2) ∷ []), omega (arith, times_other (m + 2) (m + 1) ((m + 2) ∷ []) (λ e. omega arith), times_here (m + 2) []))

pub two_lead : (m n : ℕ) → n ≢ m + 1 → n ≢ m + 2 → 0 < times n ((m + 1) ∷ (m + 2) ∷ []) → ⊥
two_lead m n ne me h = omega (arith, times_other n (m + 1) ((m + 2) ∷ []) ne, times_other n (m + 2) [] me, times_none n)

pub one_leads : (m n : ℕ) → n ≢ m + 1 → 0 < times n ((m + 1) ∷ []) → ⊥
one_leads m n ne h = omega (arith, times_other n (m + 1) [] ne, times_none n)

pub shared_refers : (group m : ℕ) → 0 < times (m + 1) (group ∷ (m + 1) ∷ [])
shared_refers group m = omega (arith, times_append (m + 1) (group ∷ []) ((m + 1) ∷ []), times_here (m + 1) [])

pub shared_leads : (group m n : ℕ) → n ≢ m + 1 → 0 < times n (group ∷ (m + 1) ∷ []) → n ≡ group
shared_leads group m n ne h = elim (cases_eq n group) [
  | inl e ↦ e
  | inr me ↦ absurd (omega (arith, times_other n group ((m + 1) ∷ []) me, times_other n (m + 1) [] ne, times_none n))
]

context_is : (o : Option Object) (x : ContextObject) → as_context o ≡ Some x → o ≡ Some (Context x)
context_is None x h = cc
context_is (Some (Context c)) x h = let e : c ≡ x = cc in ap (λ y. Some (Context y)) e
context_is (Some (Group y)) x h = cc
context_is (Some (Texture y)) x h = cc
context_is (Some (Surface y)) x h = cc
context_is (Some (Storage y)) x h = cc
context_is (Some (Buffer y)) x h = cc
context_is (Some (Renderbuffer y)) x h = cc
context_is (Some (Framebuffer y)) x h = cc
context_is (Some (Image y)) x h = cc
context_is (Some (Sync y)) x h = cc

pub group_is : (os : List (Option Object)) (m : ℕ) (x : ContextObject) → context_in os m ≡ Some x → ((k : ℕ) (y : Object) → get_or os k None ≡ Some y → LeadsDown os y) → IsGroup os x.group
group_is os m x h down = down m (Context x) (context_is (get_or os m None) x h) x.group (times_one x.group (x.texture ∷ filled (x.bound.texture ∷ x.bound.array_buffer ∷ x.bound.element_array_buffer ∷ x.bound.renderbuffer ∷ x.bound.framebuffer ∷ [])))

pub nothing_held : (n : ℕ) → flat_map held_by (replicate n initial) ≡ []
nothing_held zero = refl
nothing_held (suc n) = nothing_held n

pub opening_held : (n m : ℕ) → times m (roots_of [] (replicate n initial)) ≡ 0
opening_held n m = omega (arith, times_roots m [] (replicate n initial), times_none m, ap (times m) (nothing_held n))

pub error_same : (n : ℕ) (hs : List Handle) (ts : List ThreadRecord) (t : ℕ) (r : ThreadRecord) (e : EglError) → r ≡ get_or ts t initial → times n (roots_of hs (set ts t (record r { error = e }))) ≡ times n (roots_of hs ts)
error_same n hs ts t r e is = elim (cases_lt t (length ts)) [
  | inl l ↦ roots_same n hs ts t (record r { error = e }) l (ap held_by is)
  | inr l ↦ ap (λ xs. times n (roots_of hs xs)) (set_past ts t (record r { error = e }) l)
]

pub bind_holds : (hs : List Handle) (ts : List ThreadRecord) (t : ℕ) (was : ThreadRecord) (context draw read : Option Bound) (holds : List ℕ) → t < length ts → was ≡ get_or ts t initial → AreHolds ((bound_object read ++ (bound_object draw ++ bound_object context)) ++ roots_of hs ts) holds → AreHolds (((bound_object was.context ++ bound_object was.draw) ++ bound_object was.read) ++ roots_of hs (set ts t (record was { context = context; draw = draw; read = read }))) holds
bind_holds hs ts t was context draw read holds l e are n = omega (arith, are n, roots_bind n hs ts t was context draw read l e, times_append n (bound_object read ++ (bound_object draw ++ bound_object context)) (roots_of hs ts), times_append n ((bound_object was.context ++ bound_object was.draw) ++ bound_object was.read) (roots_of hs (set ts t (record was { context = context; draw = draw; read = read }))))

-- the same where what is bound stays, and the wait is another
roots_wait : (n : ℕ) (hs : List Handle) (ts : List ThreadRecord) (t : ℕ) (was : ThreadRecord) (x : Option ℕ) → t < length ts → was ≡ get_or ts t initial → times n (option_to_list was.wait) + times n (roots_of hs (set ts t (record was { wait = x }))) ≡ times n (option_to_list x) + times n (roots_of hs ts)
roots_wait n hs ts t was x l e =
    let now : ThreadRecord = record was { wait = x } in
    omega (arith, roots_set n hs ts t now l, ap (λ r. times n (held_by r)) (sym e), parts n was, parts n now)

-- a wait begins, and holds its sync
pub wait_begins : (hs : List Handle) (ts : List ThreadRecord) (t : ℕ) (was : ThreadRecord) (sync : ℕ) (holds : List ℕ) → t < length ts → was ≡ get_or ts t initial → was.wait ≡ None → AreHolds (sync ∷ roots_of hs ts) holds → AreHolds (roots_of hs (set ts t (record was { wait = Some sync }))) holds
wait_begins hs ts t was sync holds l e w are n = omega (arith, are n, roots_wait n hs ts t was (Some sync) l e, ap (λ o. times n (option_to_list o)) w, times_none n, times_append n (sync ∷ []) (roots_of hs ts))

-- it ends, and the sync may be let go
pub wait_ends : (hs : List Handle) (ts : List ThreadRecord) (t : ℕ) (was : ThreadRecord) (sync : ℕ) (holds : List ℕ) → t < length ts → was ≡ get_or ts t initial → was.wait ≡ Some sync → AreHolds (roots_of hs ts) holds → AreHolds (sync ∷ roots_of hs (set ts t (record was { wait = None }))) holds
wait_ends hs ts t was sync holds l e w are n =
    let now : ThreadRecord = record was { wait = None } in
    omega (arith, are n, roots_wait n hs ts t was None l e, ap (λ o. times n (option_to_list o)) w, times_none n, times_append n (sync ∷ []) (roots_of hs (set ts t now)))

pub three_few : (a b c : Option Bound) → length ((bound_object a ++ bound_object b) ++ bound_object c) ≤ 3
three_few a b c = omega (arith, length-append (bound_object a ++ bound_object b) (bound_object c), length-append (bound_object a) (bound_object b), bound_few a, bound_few b, bound_few c)

pub bound_exists : (o : Option Handle) (P : ℕ → Type 0) → ((h : Handle) → o ≡ Some h → P h.object) → IfSome (bound_by o) (λ b. P b.object)
bound_exists None P f = tt
bound_exists (Some h) P f = f h refl

-- what is found where something is given is found
pub given_found : (b : Bool) (o : Option Handle) (h : Handle) → cond b None o ≡ Some h → o ≡ Some h
given_found true o h e = absurd (none-some h e)
given_found false o h e = e
