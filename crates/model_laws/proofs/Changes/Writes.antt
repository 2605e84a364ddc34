-- What writes of private things leave as it was, and in what order they may come.
use Rattle.std.proofs.Common.{◌≡◌, ℕ, ◌<◌, Bool, true, false, cond, List, ◌++◌, refl, sym, ap, ◌∙◌, inl, inr, length, get_or, set, Option, None, Some, arith}
use mathlib.Core.Path.{fun_ext}
use Rattle.std.proofs.lemmas.Bool.{cases_eq, cases_lt, cond-true, cond-false, eq-eqb, ne_eqb}
use Rattle.std.specs.List.{sum_by}
use Rattle.std.proofs.lemmas.List.Sums.{sum_by-set}
use Rattle.std.proofs.lemmas.List.{ext_get_or, get_or-set_same, get_or-set_other, get_or_append_left, get_or_past, length-set, set-append_left, set_past}
use Rattle.context_state.specs.Parts.{PartValue}
use Rattle.pixel_rows.specs.Images.{ImageValue}
use Rattle.driver_objects.specs.declared.objects.Object.{Object}
use Rattle.driver_objects.specs.declared.objects.Object.TheVariants.{Context, Storage}
use Rattle.egl_model.specs.Graph.{reached}
use Rattle.std.specs.Option.{option_map_or}
use Rattle.driver_objects.specs.Objects.{kind_of}
use Rattle.driver_objects.specs.declared.kinds.ObjectKind.{ObjectKind}
use Rattle.driver_objects.specs.declared.kinds.ObjectKind.TheVariants.{Context as Context_kind, Group as Group_kind, Texture as Texture_kind, Buffer as Buffer_kind, Renderbuffer as Renderbuffer_kind, Framebuffer as Framebuffer_kind, Surface as Surface_kind, Storage as Storage_kind, Image as Image_kind, Sync as Sync_kind}
use Rattle.egl_model.specs.Sweep.{edges_at, edges_in, swept, bytes_in, live_bytes, census_of, count_of, one_of}
use Rattle.model_laws.proofs.References.SweepLaws.{length-swept, object_at-swept}
use Rattle.model_laws.proofs.References.Places.{same_at_set}
use Rattle.model_laws.specs.Shapes.{shape_in}
use Rattle.egl_model.specs.Parts.{Own, OwnObjects, is_place, set_image, set_part, write, written}

Objects : Type 0
Objects = List (Option Object)

-- ---- One write.
at_its_place : (f : Option Object → Option Object) → f None ≡ None → (os : List (Option Object)) (n : ℕ) → get_or (set os n (f (get_or os n None))) n None ≡ f (get_or os n None)
at_its_place f z os n = elim (cases_lt n (length os)) [
  | inl l ↦ get_or-set_same os n (f (get_or os n None)) None l
  | inr l ↦ ap (λ (ps : List (Option Object)). get_or ps n None) (set_past os n (f (get_or os n None)) l) ∙ get_or_past os n None l ∙ sym (ap f (get_or_past os n None l) ∙ z)
]

pub get_or-write : (f : Option Object → Option Object) → f None ≡ None → (p : Option ℕ) (os : List (Option Object)) (m : ℕ) → get_or (write f p os) m None ≡ cond (is_place m p) (f (get_or os m None)) (get_or os m None)
unfolding write
get_or-write f z None os m = refl
get_or-write f z (Some n) os m = elim (cases_eq n m) [
  | inl e ↦ ap (λ k. get_or (set os n (f (get_or os n None))) k None) (sym e) ∙ at_its_place f z os n ∙ ap (λ k. f (get_or os k None)) e ∙ sym (cond-true (is_place m (Some n)) (f (get_or os m None)) (get_or os m None) (eq-eqb n m e))
  | inr ne ↦ get_or-set_other os n m (f (get_or os n None)) None (λ e. ne (sym e)) ∙ sym (cond-false (is_place m (Some n)) (f (get_or os m None)) (get_or os m None) (ne_eqb n m ne))
]

pub length-write : (f : Option Object → Option Object) (p : Option ℕ) (os : List (Option Object)) → length (write f p os) ≡ length os
unfolding write
length-write f None os = refl
length-write f (Some n) os = length-set os n _

same_list : (os ps : List (Option Object)) → length os ≡ length ps → ((m : ℕ) → get_or os m None ≡ get_or ps m None) → os ≡ ps
same_list os ps l e = ext_get_or None os ps l (λ i h. e i)

swap : (f g : Option Object → Option Object) (a b : Bool) → (a ≡ true → b ≡ true → (o : Option Object) → f (g o) ≡ g (f o)) → (o : Option Object) →
    cond a (f (cond b (g o) o)) (cond b (g o) o) ≡ cond b (g (cond a (f o) o)) (cond a (f o) o)
swap f g true true h o = h refl refl o
swap f g true false h o = refl
swap f g false true h o = refl
swap f g false false h o = refl

-- two writes may change own objects, where both are at one place only if there they may
pub write-write : (f g : Option Object → Option Object) (p q : Option ℕ) → f None ≡ None → g None ≡ None → ((m : ℕ) → is_place m p ≡ true → is_place m q ≡ true → (o : Option Object) → f (g o) ≡ g (f o)) →
    (os : List (Option Object)) → write f p (write g q os) ≡ write g q (write f p os)
write-write f g p q z y h os = same_list _ _
    (length-write f p (write g q os) ∙ length-write g q os ∙ sym (length-write g q (write f p os) ∙ length-write f p os))
    (λ m. get_or-write f z p (write g q os) m ∙ ap (λ o. cond (is_place m p) (f o) o) (get_or-write g y q os m)
    ∙ swap f g (is_place m p) (is_place m q) (h m) (get_or os m None)
    ∙ sym (get_or-write g y q (write f p os) m ∙ ap (λ o. cond (is_place m q) (g o) o) (get_or-write f z p os m)))

over : (f g : Option Object → Option Object) → ((o : Option Object) → f (g o) ≡ f o) → (a : Bool) (o : Option Object) → cond a (f (cond a (g o) o)) (cond a (g o) o) ≡ cond a (f o) o
over f g h true o = h o
over f g h false o = refl

-- of two writes at one place the later may be the only one
pub write-over : (f g : Option Object → Option Object) (p : Option ℕ) → f None ≡ None → g None ≡ None → ((o : Option Object) → f (g o) ≡ f o) → (os : List (Option Object)) → write f p (write g p os) ≡ write f p os
write-over f g p z y h os = same_list _ _
    (length-write f p (write g p os) ∙ length-write g p os ∙ sym (length-write f p os))
    (λ m. get_or-write f z p (write g p os) m ∙ ap (λ o. cond (is_place m p) (f o) o) (get_or-write g y p os m)
    ∙ over f g h (is_place m p) (get_or os m None)
    ∙ sym (get_or-write f z p os m))

-- a place in a list, if any
abbrev pub IsBelow : Option ℕ → ℕ → Type 0
IsBelow None k = Unit {0}
IsBelow (Some n) k = n < k

pub write-append : (f : Option Object → Option Object) (p : Option ℕ) (os new : List (Option Object)) → IsBelow p (length os) → write f p (os ++ new) ≡ write f p os ++ new
unfolding write
write-append f None os new b = refl
write-append f (Some n) os new b = ap (λ o. set (os ++ new) n (f o)) (get_or_append_left os new None n b) ∙ set-append_left os new n (f (get_or os n None)) b

-- ---- What may be out.
-- an object without what may be out of it
abbrev pub stripped : Option Object → Option Object
stripped o = set_image None (set_part None o)

-- nothing of the object changes but what may be out
pub record IsGentle (f : Option Object → Option Object) : Type 0 where
  pub none : f None ≡ None
  pub settles : (o : Option Object) → stripped (f o) ≡ stripped o

pub gentle-part : (x : Option PartValue) → IsGentle (set_part x)
gentle-part x = record { none = refl; settles = strips }
  where
    strips : (o : Option Object) → stripped (set_part x o) ≡ stripped o
    strips (Some (Context c)) = refl
    strips (Some (Storage v)) = refl
    strips o = refl

pub gentle-image : (x : Option ImageValue) → IsGentle (set_image x)
gentle-image x = record { none = refl; settles = strips }
  where
    strips : (o : Option Object) → stripped (set_image x o) ≡ stripped o
    strips (Some (Context c)) = refl
    strips (Some (Storage v)) = refl
    strips o = refl

-- g doesn't look at what may be out
abbrev pub IsBlind : {A : Type 0} → (Option Object → A) → Type 0
IsBlind g = (o : Option Object) → g (stripped o) ≡ g o

pub blind-gentle : {A : Type 0} (g : Option Object → A) (f : Option Object → Option Object) → IsBlind g → IsGentle f → (o : Option Object) → g (f o) ≡ g o
blind-gentle g f b e o = sym (b (f o)) ∙ ap g (e.settles o) ∙ b o

pub blind-write : {A : Type 0} (g : Option Object → A) (f : Option Object → Option Object) → IsBlind g → IsGentle f → (p : Option ℕ) (os : List (Option Object)) (m : ℕ) → g (get_or (write f p os) m None) ≡ g (get_or os m None)
unfolding write
blind-write g f b e None os m = refl
blind-write g f b e (Some n) os m = same_at_set g os n (f (get_or os n None)) None (blind-gentle g f b e (get_or os n None)) m

pub blind-written : {A : Type 0} (g : Option Object → A) → IsBlind g → (p : OwnObjects) (x : Own) (os : List (Option Object)) (m : ℕ) → g (get_or (written p x os) m None) ≡ g (get_or os m None)
unfolding written
blind-written g b p x os m =
    blind-write g (set_image x.read) b (gentle-image x.read) p.read _ m
    ∙ blind-write g (set_image x.draw) b (gentle-image x.draw) p.draw _ m
    ∙ blind-write g (set_part x.context) b (gentle-part x.context) p.context os m

pub blind-edges : IsBlind edges_in
blind-edges (Some (Context c)) = refl
blind-edges (Some (Storage v)) = refl
blind-edges o = refl

pub blind-bytes : IsBlind bytes_in
blind-bytes (Some (Context c)) = refl
blind-bytes (Some (Storage v)) = refl
blind-bytes o = refl

pub blind-shape : IsBlind shape_in
blind-shape (Some (Context c)) = refl
blind-shape (Some (Storage v)) = refl
blind-shape o = refl

pub edges_at-write : (f : Option Object → Option Object) → IsGentle f → (p : Option ℕ) (os : List (Option Object)) → edges_at (write f p os) ≡ edges_at os
unfolding edges_at
edges_at-write f e p os = fun_ext (λ m. blind-write edges_in f blind-edges e p os m)

pub edges_at-written : (p : OwnObjects) (x : Own) (os : List (Option Object)) → edges_at (written p x os) ≡ edges_at os
unfolding edges_at
edges_at-written p x os = fun_ext (λ m. blind-written edges_in blind-edges p x os m)

pub length-written : (p : OwnObjects) (x : Own) (os : List (Option Object)) → length (written p x os) ≡ length os
unfolding written
length-written p x os = length-write _ p.read _ ∙ length-write _ p.draw _ ∙ length-write _ p.context os

-- ---- Sweeps.
cut : (f : Option Object → Option Object) → f None ≡ None → (a b : Bool) (o : Option Object) → cond a (f (cond b o None)) (cond b o None) ≡ cond b (cond a (f o) o) None
cut f z true true o = refl
cut f z true false o = z
cut f z false true o = refl
cut f z false false o = refl

pub write-swept : (f : Option Object → Option Object) → IsGentle f → (p : Option ℕ) (rs : List ℕ) (os : List (Option Object)) → write f p (swept rs os) ≡ swept rs (write f p os)
write-swept f e p rs os = same_list _ _
    (length-write f p (swept rs os) ∙ length-swept rs os ∙ sym (length-swept rs (write f p os) ∙ length-write f p os))
    (λ m. get_or-write f e.none p (swept rs os) m ∙ ap (λ o. cond (is_place m p) (f o) o) (object_at-swept rs os m)
    ∙ cut f e.none (is_place m p) (reached rs (edges_at os) m) (get_or os m None)
    ∙ sym (object_at-swept rs (write f p os) m
    ∙ ap (λ (es : ℕ → List ℕ). cond (reached rs es m) (get_or (write f p os) m None) None) (edges_at-write f e p os)
    ∙ ap (λ o. cond (reached rs (edges_at os) m) o None) (get_or-write f e.none p os m)))

-- what may change own objects with each of the three writes may with all
pub written-by : (G : List (Option Object) → List (Option Object)) (p : OwnObjects) (x : Own) →
    ((os : List (Option Object)) → write (set_part x.context) p.context (G os) ≡ G (write (set_part x.context) p.context os)) →
    ((os : List (Option Object)) → write (set_image x.draw) p.draw (G os) ≡ G (write (set_image x.draw) p.draw os)) →
    ((os : List (Option Object)) → write (set_image x.read) p.read (G os) ≡ G (write (set_image x.read) p.read os)) →
    (os : List (Option Object)) → written p x (G os) ≡ G (written p x os)
unfolding written
written-by G p x a b c os =
    ap (λ o. write (set_image x.read) p.read (write (set_image x.draw) p.draw o)) (a os)
    ∙ ap (write (set_image x.read) p.read) (b (write (set_part x.context) p.context os))
    ∙ c (write (set_image x.draw) p.draw (write (set_part x.context) p.context os))

pub written-swept : (p : OwnObjects) (x : Own) (rs : List ℕ) (os : List (Option Object)) → written p x (swept rs os) ≡ swept rs (written p x os)
written-swept p x rs os = written-by (swept rs) p x
    (write-swept (set_part x.context) (gentle-part x.context) p.context rs)
    (write-swept (set_image x.draw) (gentle-image x.draw) p.draw rs)
    (write-swept (set_image x.read) (gentle-image x.read) p.read rs) os

pub record AreBelow (p : OwnObjects) (k : ℕ) : Type 0 where
  pub context : IsBelow p.context k
  pub draw : IsBelow p.draw k
  pub read : IsBelow p.read k

pub below_as : (p : Option ℕ) (j k : ℕ) → j ≡ k → IsBelow p j → IsBelow p k
below_as None j k e b = tt
below_as (Some n) j k e b = let c : n < j = b in omega (arith, c, e)

pub written-append : (p : OwnObjects) (x : Own) (os new : List (Option Object)) → AreBelow p (length os) → written p x (os ++ new) ≡ written p x os ++ new
unfolding written
written-append p x os new b =
    let l = length-write (set_part x.context) p.context os in
    let m = length-write (set_image x.draw) p.draw (write (set_part x.context) p.context os) ∙ l in
    ap (λ o. write (set_image x.read) p.read (write (set_image x.draw) p.draw o)) (write-append (set_part x.context) p.context os new b.context)
    ∙ ap (write (set_image x.read) p.read) (write-append (set_image x.draw) p.draw (write (set_part x.context) p.context os) new (below_as p.draw (length os) (length (write (set_part x.context) p.context os)) (sym l) b.draw))
    ∙ write-append (set_image x.read) p.read (write (set_image x.draw) p.draw (write (set_part x.context) p.context os)) new (below_as p.read (length os) (length (write (set_image x.draw) p.draw (write (set_part x.context) p.context os))) (sym m) b.read)

-- ---- Bytes.
live_bytes-write : (f : Option Object → Option Object) → IsGentle f → (p : Option ℕ) (os : List (Option Object)) → live_bytes (write f p os) ≡ live_bytes os
unfolding live_bytes write
live_bytes-write f e None os = refl
live_bytes-write f e (Some n) os = elim (cases_lt n (length os)) [
  | inl h ↦ let a = sum_by-set bytes_in os n (f (get_or os n None)) None h in let b = blind-gentle bytes_in f blind-bytes e (get_or os n None) in omega (arith, a, b)
  | inr h ↦ ap (sum_by bytes_in) (set_past os n (f (get_or os n None)) h)
]

pub live_bytes-written : (p : OwnObjects) (x : Own) (os : List (Option Object)) → live_bytes (written p x os) ≡ live_bytes os
unfolding written
live_bytes-written p x os = live_bytes-write _ (gentle-image x.read) p.read _ ∙ live_bytes-write _ (gentle-image x.draw) p.draw _ ∙ live_bytes-write _ (gentle-part x.context) p.context os

-- ---- The census.
sum-write : (g : Option Object → ℕ) → IsBlind g → (f : Option Object → Option Object) → IsGentle f → (p : Option ℕ) (os : List (Option Object)) → sum_by g (write f p os) ≡ sum_by g os
unfolding write
sum-write g k f e None os = refl
sum-write g k f e (Some n) os = elim (cases_lt n (length os)) [
  | inl h ↦ let a = sum_by-set g os n (f (get_or os n None)) None h in let b = blind-gentle g f k e (get_or os n None) in omega (arith, a, b)
  | inr h ↦ ap (sum_by g) (set_past os n (f (get_or os n None)) h)
]

pub sum-written : (g : Option Object → ℕ) → IsBlind g → (p : OwnObjects) (x : Own) (os : List (Option Object)) → sum_by g (written p x os) ≡ sum_by g os
unfolding written
sum-written g k p x os = sum-write g k _ (gentle-image x.read) p.read _ ∙ sum-write g k _ (gentle-image x.draw) p.draw _ ∙ sum-write g k _ (gentle-part x.context) p.context os

count-written : (k : ObjectKind) (p : OwnObjects) (x : Own) (os : List (Option Object)) → count_of k (written p x os) ≡ count_of k os
unfolding count_of
count-written k p x os = sum-written (λ o. option_map_or (λ x. one_of k (kind_of x)) o 0) blind p x os
  where
    blind : IsBlind (λ o. option_map_or (λ x. one_of k (kind_of x)) o 0)
    blind (Some (Context c)) = refl
    blind (Some (Storage v)) = refl
    blind o = refl

pub census-written : (p : OwnObjects) (x : Own) (os : List (Option Object)) → census_of (written p x os) ≡ census_of os
census-written p x os =
    let a = count-written Context_kind p x os in let b = count-written Group_kind p x os in let c = count-written Texture_kind p x os in let d = count-written Buffer_kind p x os in
    let e = count-written Renderbuffer_kind p x os in let f = count-written Framebuffer_kind p x os in let g = count-written Surface_kind p x os in let h = count-written Storage_kind p x os in
    let i = count-written Image_kind p x os in let j = count-written Sync_kind p x os in let l = live_bytes-written p x os in
    cc
