-- What each move leaves, in every state: other threads' records, numbers that were given, and bytes.
use Rattle.std.proofs.Common.{◌≡◌, ◌≢◌, ℕ, ◌+◌, ◌≤◌, Bool, true, false, cond, List, [], ◌∷◌, ◌++◌, refl, sym, ap, ◌∙◌, arith, inl, inr, length, Option, None, Some, get_or, set, is_some}
use Rattle.std.specs.Prelude.{All}
use Rattle.std.specs.List.{sum_by}
use Rattle.std.specs.Option.{option_map}
use Rattle.std.proofs.lemmas.Bool.{both_ways, cases_lt, true_from_ne_false, or_parts}
use Rattle.std.proofs.lemmas.List.{get_or-set_other, length-append, length-set, set_past}
use Rattle.std.proofs.lemmas.List.Elements.{All-append, All-contains, All-contains_itself, All-cons, All-filter, All-nil, Contains-append_left}
use Rattle.std.proofs.lemmas.List.Sums.{sum_by-append, sum_by-set}
use Rattle.model_laws.specs.Extents.{Extent, SameFlags, quiet}
use Rattle.driver_objects.specs.declared.objects.Object.{Object}
use Rattle.driver_objects.specs.Objects.{kind_of}
use Rattle.display_table.specs.declared.handles.Handle.{Handle}
use Rattle.egl_model.specs.Graph.{reached}
use Rattle.egl_model.specs.State.{State, initial, object_at, record_of, has_object}
use Rattle.egl_model.specs.Objects.{change}
use Rattle.model_laws.specs.Laws.{HandlesAreNew, IsKnownOrNew, ObjectsAreNew, StayValid}
use Rattle.model_laws.specs.Shapes.{Shape, shape_in}
use Rattle.model_laws.specs.Swaps.{forms}
use Rattle.egl_model.specs.Sweep.{bytes_in, edges_at, live_bytes, swept, sweep}
use Rattle.model_laws.proofs.Changes.Moves.{extent, extent_of, joined, Wait, Body, Resize, Add, AllHold, Bind, Change, Flags, Holds, Keep, Move, Name, Note, Swap, apply, bytes_made, play}
use Rattle.model_laws.proofs.References.Places.{at_old, below, same_at_set}
use Rattle.model_laws.proofs.Windows.WindowForms.{forms-swapped}
use Rattle.model_laws.proofs.References.SweepLaws.{left_as_it_was, length-swept, object_at-swept}

pub record Frame (e : Extent) (t : ℕ) (s a : State) : Type 0 where
  -- the flags of displays, and how many handles were made
  pub flags : e.flags ≡ false → SameFlags s a
  pub next : a.next_handle ≤ s.next_handle + e.handles
  pub others : (u : ℕ) → u ≢ t → record_of a u ≡ record_of s u
  pub count : length a.threads ≡ length s.threads
  pub handles : HandlesAreNew s a
  pub kept : e.drops ≡ false → StayValid s a
  pub objects : ObjectsAreNew s a
  -- a window keeps its id, and the format and the sides of its front
  pub windows : forms a.windows ≡ forms s.windows
  pub video : a.video ≡ s.video

-- ---- Handles.
known : (s a : State) → All (IsKnownOrNew s a) s.handles
known s a k d h = inl (All-contains_itself s.handles k d h)

handles_stay : (s a : State) → a.handles ≡ s.handles → a.next_handle ≡ s.next_handle → HandlesAreNew s a
handles_stay s a e f = record { rises = omega (arith, f); each = rw e (known s a) }

still_new : (a b c : State) → HandlesAreNew a b → HandlesAreNew b c → (h : Handle) → IsKnownOrNew b c h → IsKnownOrNew a c h
still_new a b c f g h (inl k) =
    let r = g.rises in
    elim (All-contains (IsKnownOrNew a b) b.handles h f.each k) [
      | inl i ↦ inl i
      | inr i ↦ let low = i.0 in let high = i.1 in inr (low, omega arith)
    ]
still_new a b c f g h (inr k) = let r = f.rises in let low = k.0 in inr (omega arith, k.1)

pub handles_then : (a b c : State) → HandlesAreNew a b → HandlesAreNew b c → HandlesAreNew a c
handles_then a b c f g = record {
  rises = let x = f.rises in let y = g.rises in omega arith;
  each = λ k d h. still_new a b c f g (get_or c.handles k d) (g.each k d h);
}

-- ---- Objects.
objects_stay : (s a : State) → length a.objects ≡ length s.objects → ((n : ℕ) → shape_in (object_at a n) ≡ shape_in (object_at s n)) → ObjectsAreNew s a
objects_stay s a l e = record {
  rises = omega arith;
  each = λ n h none. exists_alike (object_at a n) (object_at s n) (e n) ∙ none;
  kinds = λ n h i. kind_alike (object_at a n) (object_at s n) (e n);
}
  where
    is_there : Option Shape → Bool
    is_there None = false
    is_there (Some x) = true

    shape_there : (o : Option Object) → is_there (shape_in o) ≡ is_some o
    shape_there None = refl
    shape_there (Some o) = refl

    exists_alike : (o p : Option Object) → shape_in o ≡ shape_in p → is_some o ≡ is_some p
    exists_alike o p e = sym (shape_there o) ∙ ap is_there e ∙ shape_there p

    shape_kind : (o : Option Object) → option_map (λ (x : Shape). x.kind) (shape_in o) ≡ option_map kind_of o
    shape_kind None = refl
    shape_kind (Some o) = refl

    kind_alike : (o p : Option Object) → shape_in o ≡ shape_in p → option_map kind_of o ≡ option_map kind_of p
    kind_alike o p e = sym (shape_kind o) ∙ ap (option_map (λ (x : Shape). x.kind)) e ∙ shape_kind p

objects_same : (s a : State) → a.objects ≡ s.objects → ObjectsAreNew s a
objects_same s a e = objects_stay s a (ap length e) (λ n. ap (λ (os : List (Option Object)). shape_in (get_or os n None)) e)

between : (a b c : State) (n : ℕ) → ObjectsAreNew a b → ObjectsAreNew b c → has_object a n ≡ true → has_object c n ≡ true → has_object b n ≡ true
between a b c n f g h i = true_from_ne_false (has_object b n)
    (λ none. let x = f.rises in let y = below a.objects n h in both_ways (has_object c n) (g.each n (omega arith) none) i)

pub objects_then : (a b c : State) → ObjectsAreNew a b → ObjectsAreNew b c → ObjectsAreNew a c
objects_then a b c f g = record {
  rises = let x = f.rises in let y = g.rises in omega arith;
  each = λ n h none. let x = f.rises in g.each n (omega arith) (f.each n h none);
  kinds = λ n h i. let here = between a b c n f g h i in g.kinds n here i ∙ f.kinds n h here;
}

none_kept : (b : Bool) (o : Option Object) → is_some o ≡ false → is_some (cond b o None) ≡ false
none_kept true o h = h
none_kept false o h = refl

objects_swept : (s a b : State) (rs : List ℕ) → b.objects ≡ swept rs a.objects → ObjectsAreNew s a → ObjectsAreNew s b
objects_swept s a b rs e o = record {
  rises = let r = o.rises in let l = ap length e ∙ length-swept rs a.objects in omega (arith, l);
  each = λ n h none. ap (λ (os : List (Option Object)). is_some (get_or os n None)) e ∙ ap is_some (object_at-swept rs a.objects n) ∙ none_kept (reached rs (edges_at a.objects) n) (get_or a.objects n None) (o.each n h none);
  kinds = λ n h i.
      let same = ap (λ (os : List (Option Object)). get_or os n None) e ∙ left_as_it_was rs a.objects n (ap (λ (os : List (Option Object)). is_some (get_or os n None)) (sym e) ∙ i) in
      ap (option_map kind_of) same ∙ o.kinds n h (ap is_some (sym same) ∙ i);
}

-- ---- Frames in a row, and behind a sweep.
pub frame_self : (t : ℕ) (s : State) → Frame quiet t s s
frame_self t s = record { flags = λ q. (refl, refl); next = omega arith; others = λ u ne. refl; count = refl; handles = handles_stay s s refl refl; kept = λ q h c. c; objects = objects_same s s refl; windows = refl; video = refl }

-- a change, and one that goes nowhere further
pub frame_then : (e : Extent) (t : ℕ) (a b c : State) → Frame e t a b → Frame quiet t b c → Frame e t a c
frame_then e t a b c f g = record {
  flags = λ q. let x = f.flags q in let y = g.flags refl in (y.0 ∙ x.0, y.1 ∙ x.1);
  next = let x = f.next in let y = g.next in omega (arith, x, y);
  others = λ u ne. g.others u ne ∙ f.others u ne;
  count = g.count ∙ f.count;
  handles = handles_then a b c f.handles g.handles;
  kept = λ q h c. g.kept refl h (f.kept q h c);
  objects = objects_then a b c f.objects g.objects;
  windows = g.windows ∙ f.windows;
  video = g.video ∙ f.video;
}

frame_join : (e f : Extent) (t : ℕ) (a b c : State) → Frame e t a b → Frame f t b c → Frame (joined e f) t a c
frame_join e f t a b c v w = record {
  flags = λ q. let r = or_parts e.flags f.flags q in let x = v.flags r.0 in let y = w.flags r.1 in (y.0 ∙ x.0, y.1 ∙ x.1);
  next = let x = v.next in let y = w.next in omega (arith, x, y);
  others = λ u ne. w.others u ne ∙ v.others u ne;
  count = w.count ∙ v.count;
  handles = handles_then a b c v.handles w.handles;
  kept = λ q h c. let r = or_parts e.drops f.drops q in w.kept r.1 h (v.kept r.0 h c);
  objects = objects_then a b c v.objects w.objects;
  windows = w.windows ∙ v.windows;
  video = w.video ∙ v.video;
}

pub frame_swept : (e : Extent) (t : ℕ) (s a : State) → Frame e t s a → Frame e t s (sweep a)
frame_swept e t s a f = record {
  flags = f.flags;
  next = f.next;
  others = f.others;
  count = f.count;
  handles = record { rises = f.handles.rises; each = f.handles.each };
  kept = f.kept;
  objects = objects_swept s a (sweep a) _ refl f.objects;
  windows = f.windows;
  video = f.video;
}

-- ---- Each move.
frame-change : (t n : ℕ) (f : Option Object → Option Object) (s : State) → ((o : Option Object) → shape_in (f o) ≡ shape_in o) → Frame quiet t s (record s { objects = change f n s.objects })
frame-change t n f s h = record {
  flags = λ q. (refl, refl);
  next = omega arith;
  others = λ u ne. refl;
  count = refl;
  handles = handles_stay s _ refl refl;
  kept = λ q h c. c;
  objects = objects_stay s (record s { objects = change f n s.objects }) (length-set s.objects n _) (same_at_set shape_in s.objects n (f (get_or s.objects n None)) None (h (get_or s.objects n None)));
  windows = refl;
  video = refl;
}

pub frame-apply : (t : ℕ) (m : Move) (s : State) → Holds m → Frame (extent_of m) t s (apply t m s)
frame-apply t (Swap id i) s h = record { flags = λ q. (refl, refl); next = omega arith; others = λ u ne. refl; count = refl; handles = handles_stay s _ refl refl; kept = λ q h c. c; objects = objects_same s _ refl; windows = forms-swapped id i s.windows; video = refl }
frame-apply t (Flags a b) s h = record { flags = λ q. absurd (let f : true ≡ false = q in cc); next = omega arith; others = λ u ne. refl; count = refl; handles = handles_stay s _ refl refl; kept = λ q h c. c; objects = objects_same s _ refl; windows = refl; video = refl }
frame-apply t (Note e) s h = record {
  flags = λ q. (refl, refl);
  next = omega arith;
  others = λ u ne. get_or-set_other s.threads t u _ initial ne;
  count = length-set s.threads t _;
  handles = handles_stay s _ refl refl;
  kept = λ q h c. c;
  objects = objects_same s _ refl;
  windows = refl;
  video = refl;
}
frame-apply t (Wait x) s h = record {
  flags = λ q. (refl, refl);
  next = omega arith;
  others = λ u ne. get_or-set_other s.threads t u _ initial ne;
  count = length-set s.threads t _;
  handles = handles_stay s _ refl refl;
  kept = λ q h c. c;
  objects = objects_same s _ refl;
  windows = refl;
  video = refl;
}
frame-apply t (Bind c d r) s h = record {
  flags = λ q. (refl, refl);
  next = omega arith;
  others = λ u ne. get_or-set_other s.threads t u _ initial ne;
  count = length-set s.threads t _;
  handles = handles_stay s _ refl refl;
  kept = λ q h c. c;
  objects = objects_same s _ refl;
  windows = refl;
  video = refl;
}
frame-apply t (Change n f) s h = frame-change t n f s (λ o. ap (λ (b : Body). b.shape) (h o))
frame-apply t (Resize n f b) s h = frame-change t n f s h.0
frame-apply t (Add os) s h = record {
  flags = λ q. (refl, refl);
  next = omega arith;
  others = λ u ne. refl;
  count = refl;
  handles = handles_stay s _ refl refl;
  kept = λ q h c. c;
  objects = record {
    rises = let l = length-append s.objects os in omega (arith, l);
    each = λ n l none. ap is_some (at_old s.objects os None n l) ∙ none;
    kinds = λ n i _. ap (option_map kind_of) (at_old s.objects os None n (below s.objects n i));
  };
  windows = refl;
  video = refl;
}
frame-apply t (Name d k n) s h = record {
  flags = λ q. (refl, refl);
  next = omega arith;
  others = λ u ne. refl;
  count = refl;
  handles = record {
    rises = omega arith;
    each = All-append (IsKnownOrNew s (apply t (Name d k n) s)) s.handles _ (known s (apply t (Name d k n) s))
        (All-cons (IsKnownOrNew s (apply t (Name d k n) s)) _ [] (inr (omega arith, omega arith)) (All-nil (IsKnownOrNew s (apply t (Name d k n) s))));
  };
  kept = λ q x c. Contains-append_left s.handles _ x c;
  objects = objects_same s _ refl;
  windows = refl;
  video = refl;
}
frame-apply t (Keep p) s h = record {
  flags = λ q. (refl, refl);
  next = omega arith;
  others = λ u ne. refl;
  count = refl;
  handles = record { rises = omega arith; each = All-filter p (IsKnownOrNew s (apply t (Keep p) s)) s.handles (known s (apply t (Keep p) s)) };
  kept = λ q. absurd (let f : true ≡ false = q in cc);
  objects = objects_same s _ refl;
  windows = refl;
  video = refl;
}

pub frame-play : (t : ℕ) (ms : List Move) (s : State) → AllHold ms → Frame (extent ms) t s (play t ms s)
frame-play t [] s h = frame_self t s
frame-play t (m ∷ ms) s h = frame_join (extent_of m) (extent ms) t s (apply t m s) (play t ms (apply t m s)) (frame-apply t m s h.0) (frame-play t ms (apply t m s) h.1)

-- ---- Bytes.
bytes-change : (os : List (Option Object)) (n b : ℕ) (o : Option Object) → bytes_in o ≤ bytes_in (get_or os n None) + b → live_bytes (set os n o) ≤ live_bytes os + b
unfolding live_bytes
bytes-change os n b o e = elim (cases_lt n (length os)) [
  | inl h ↦ let a = sum_by-set bytes_in os n o None h in omega (arith, a, e)
  | inr h ↦ let a = ap (sum_by bytes_in) (set_past os n o h) in omega (arith, a)
]

bytes-add : (xs ys : List (Option Object)) → live_bytes (xs ++ ys) ≡ live_bytes xs + live_bytes ys
unfolding live_bytes
bytes-add xs ys = sum_by-append bytes_in xs ys

pub bytes-play : (t : ℕ) (ms : List Move) (s : State) → AllHold ms → live_bytes (play t ms s).objects ≤ live_bytes s.objects + bytes_made ms
bytes-play t [] s h = omega arith
bytes-play t (Flags a b ∷ ms) s h = bytes-play t ms (apply t (Flags a b) s) h.1
bytes-play t (Swap id i ∷ ms) s h = bytes-play t ms (apply t (Swap id i) s) h.1
bytes-play t (Note e ∷ ms) s h = bytes-play t ms (apply t (Note e) s) h.1
bytes-play t (Wait x ∷ ms) s h = bytes-play t ms (apply t (Wait x) s) h.1
bytes-play t (Bind c d r ∷ ms) s h = bytes-play t ms (apply t (Bind c d r) s) h.1
bytes-play t (Change n f ∷ ms) s h =
    let a = bytes-play t ms (apply t (Change n f) s) h.1 in let e = ap (λ (b : Body). b.bytes) (h.0 (get_or s.objects n None)) in
    let b = bytes-change s.objects n 0 (f (get_or s.objects n None)) (omega (arith, e)) in omega (arith, a, b)
bytes-play t (Resize n f k ∷ ms) s h =
    let a = bytes-play t ms (apply t (Resize n f k) s) h.1 in let e = h.0.1 (get_or s.objects n None) in
    let b = bytes-change s.objects n k (f (get_or s.objects n None)) (omega (arith, e)) in omega (arith, a, b)
bytes-play t (Add os ∷ ms) s h = let a = bytes-play t ms (apply t (Add os) s) h.1 in let b = bytes-add s.objects os in omega (arith, a, b)
bytes-play t (Name d k n ∷ ms) s h = bytes-play t ms (apply t (Name d k n) s) h.1
bytes-play t (Keep p ∷ ms) s h = bytes-play t ms (apply t (Keep p) s) h.1
