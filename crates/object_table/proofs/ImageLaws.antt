-- Textures and renderbuffers get the pixels of EGL images.
use Rattle.std.proofs.Common.{◌≡◌, ◌≢◌, ℕ, zero, suc, ◌+◌, Bool, true, false, List, [], ◌∷◌, cond, get_or, set, refl, sym, ap, subst, ◌∙◌, arith, Option, None, Some}
use Rattle.std.proofs.lemmas.Bool.{false≢true}
use Rattle.std.proofs.lemmas.List.{set-get_or, set-set, set_comm}
use Rattle.std.specs.Option.{option_and_then, option_map}
use Rattle.std.specs.Prelude.{drop, is_some}
use Rattle.texture_objects.specs.declared.levels.Shape.{Shape}
use Rattle.driver_objects.specs.declared.objects.Object.{Object}
use Rattle.driver_objects.specs.declared.objects.Object.TheVariants.{Renderbuffer, Texture}
use Rattle.driver_objects.specs.declared.textures.BackedTexture.{BackedTexture}
use Rattle.egl_model.specs.Draws.{level_shapes}
use Rattle.egl_model.specs.Images.{above_base, has_pixels, is_incomplete_in, is_source_in, levels_dropped, with_pixels_in}
use Rattle.egl_model.specs.Objects.{as_texture, change_texture, storage_in, texture_in, with_texture}
use Rattle.egl_model.specs.Textures.{change_pixels, storage_at, with_level, with_pixels}
use Rattle.ref_store.specs.Kept.{at}
use Rattle.object_table.specs.Links.{IsLeft, edge_in, linked_in}
use Rattle.object_table.specs.Nodes.{object_in, objects_of}
use Rattle.object_table.specs.Samples.{shapes_by, stored_in}
use Rattle.object_table.specs.Sources.{emptied, has_pixels_by, is_incomplete_by, is_source_by}
use Rattle.object_table.proofs.DeleteLaws.{changed_at, left_change}
use Rattle.object_table.proofs.LeftLaws.{left_self, left_then}
use Rattle.object_table.proofs.SampleLaws.{same_look}
use Rattle.object_table.proofs.StoreLaws.{Below, Cells, object_at}

-- ---- What is looked up in a table is what is looked up in its nodes.
pub same_shapes : (next : ℕ) (s : Cells) → Below s next → (n : ℕ) → option_map (level_shapes (objects_of next s)) (texture_in (objects_of next s) n) ≡ option_map (λ x. shapes_by (stored_in s) x.levels) (as_texture (object_in (at s n)))
same_shapes next s b n =
    ap (λ look. option_map (λ (x : BackedTexture). shapes_by look x.levels) (texture_in (objects_of next s) n)) (same_look next s b)
    ∙ ap (λ o. option_map (λ (x : BackedTexture). shapes_by (stored_in s) x.levels) (as_texture o)) (object_at next s b n)

some_if : (b : Bool) (k : ℕ) → is_some (cond b (Some k) None) ≡ b
some_if true k = refl
some_if false k = refl

pixels_by : (os : List (Option Object)) (o : Option ℕ) → is_some (with_pixels_in os o) ≡ has_pixels_by (storage_in os) o
pixels_by os None = refl
pixels_by os (Some k) = some_if (has_pixels (storage_in os k)) k

source_by : (os : List (Option Object)) (o : Option Object) → is_source_in os o ≡ is_source_by (storage_in os) o
source_by os (Some (Texture x)) = refl
source_by os (Some (Renderbuffer r)) = pixels_by os r.storage
source_by os o = refl

pub same_source : (next : ℕ) (s : Cells) → Below s next → (n : ℕ) → is_source_in (objects_of next s) (get_or (objects_of next s) n None) ≡ is_source_by (stored_in s) (object_in (at s n))
same_source next s b n =
    source_by (objects_of next s) (get_or (objects_of next s) n None)
    ∙ ap (λ look. is_source_by look (get_or (objects_of next s) n None)) (same_look next s b)
    ∙ ap (is_source_by (stored_in s)) (object_at next s b n)

incomplete_by : (os : List (Option Object)) (o : Option Object) → is_incomplete_in os o ≡ is_incomplete_by (storage_in os) o
incomplete_by os (Some (Texture x)) = refl
incomplete_by os o = refl

pub same_incomplete : (next : ℕ) (s : Cells) → Below s next → (n : ℕ) → is_incomplete_in (objects_of next s) (get_or (objects_of next s) n None) ≡ is_incomplete_by (stored_in s) (object_in (at s n))
same_incomplete next s b n =
    incomplete_by (objects_of next s) (get_or (objects_of next s) n None)
    ∙ ap (λ look. is_incomplete_by look (get_or (objects_of next s) n None)) (same_look next s b)
    ∙ ap (is_incomplete_by (stored_in s)) (object_at next s b n)

pub above_first : (xs : List (Option Shape)) → drop 1 xs ≡ above_base xs
above_first [] = refl
above_first (x ∷ xs) = refl

-- ---- A level of a texture loses its storage.
texture_there : (o : Option Object) → is_some (as_texture o) ≡ true → (x : BackedTexture) × (o ≡ Some (Texture x))
texture_there (Some (Texture x)) h = (x, refl)
texture_there o h = absurd (false≢true h)

pub level_there : (o : Option Object) (k : ℕ) → is_some (option_and_then (storage_at k) (as_texture o)) ≡ true → is_some (as_texture o) ≡ true
level_there (Some (Texture x)) k h = refl
level_there o k h = absurd (false≢true h)

pub level_edge : (o : Option Object) (k : ℕ) → is_some (option_and_then (storage_at k) (as_texture o)) ≡ true → edge_in o k ≡ option_and_then (storage_at k) (as_texture o)
level_edge (Some (Texture x)) k h = refl
level_edge o k h = absurd (false≢true h)

linked_level : (o : Option Object) (k : ℕ) (t : Option ℕ) → is_some (as_texture o) ≡ true → linked_in k t o ≡ with_texture (with_level k t) o
linked_level o k t h = let w = texture_there o h in subst (λ y. linked_in k t y ≡ with_texture (with_level k t) y) (sym w.1) refl

none_of : (o : Option ℕ) → is_some o ≡ false → o ≡ None
none_of None h = refl
none_of (Some k) h = absurd (false≢true (sym h))

empty_level : (o : Option Object) (k : ℕ) → is_some (option_and_then (storage_at k) (as_texture o)) ≡ false → with_texture (with_level k None) o ≡ o
empty_level (Some (Texture x)) k h = ap (λ ls. Some (Texture (record x { levels = ls }))) (ap (set x.levels k) (sym (none_of (get_or x.levels k None) h)) ∙ set-get_or x.levels k None)
empty_level o k h = refl

pub level_left : (os new : List (Option Object)) (n k : ℕ) → is_some (as_texture (get_or os n None)) ≡ true → IsLeft (set os n (linked_in k None (get_or os n None))) new → IsLeft (change_texture (with_level k None) n os) new
unfolding change_texture
level_left os new n k h l = subst (λ y. IsLeft (set os n y) new) (linked_level (get_or os n None) k None h) l

pub level_same : (os : List (Option Object)) (n k : ℕ) → is_some (option_and_then (storage_at k) (texture_in os n)) ≡ false → IsLeft (change_texture (with_level k None) n os) os
unfolding change_texture
level_same os n k h = left_self _ os (sym (ap (set os n) (empty_level (get_or os n None) k h) ∙ set-get_or os n None))

-- ---- One level after another.
texture_twice : (f g : BackedTexture → BackedTexture) (o : Option Object) → with_texture g (with_texture f o) ≡ with_texture (λ x. g (f x)) o
texture_twice f g (Some (Texture x)) = refl
texture_twice f g o = refl

texture_then : (f g : BackedTexture → BackedTexture) (os mid new : List (Option Object)) (n : ℕ) → IsLeft (change_texture f n os) mid → IsLeft (change_texture g n mid) new → IsLeft (change_texture (λ x. g (f x)) n os) new
unfolding change_texture
texture_then f g os mid new n a b =
    let o = get_or os n None in
    let m : List (Option Object) = set os n (with_texture f o) in
    let e : set m n (with_texture g (get_or m n None)) ≡ set os n (with_texture (λ x. g (f x)) o) = ap (λ y. set m n (with_texture g y)) (changed_at (with_texture f) refl n os) ∙ set-set os n (with_texture f o) (with_texture g (with_texture f o)) ∙ ap (set os n) (texture_twice f g o) in
    subst (λ ys. IsLeft ys new) e (left_then _ _ new (left_change (with_texture g) refl n m mid a) b)

same_texture : (o : Option Object) → with_texture (λ x. x) o ≡ o
same_texture (Some (Texture x)) = refl
same_texture o = refl

pub none_emptied : (os : List (Option Object)) (n : ℕ) → IsLeft (change_texture (emptied 0) n os) os
unfolding change_texture
none_emptied os n = left_self _ os (sym (ap (set os n) (same_texture (get_or os n None)) ∙ set-get_or os n None))

pub more_emptied : (os mid new : List (Option Object)) (n k : ℕ) → IsLeft (change_texture (emptied k) n os) mid → IsLeft (change_texture (with_level (k + 1) None) n mid) new → IsLeft (change_texture (emptied (k + 1)) n os) new
more_emptied os mid new n k a b =
    let e : k + 1 ≡ suc k = omega arith in
    subst (λ j. IsLeft (change_texture (emptied j) n os) new) (sym e)
    (texture_then (emptied k) (with_level (suc k) None) os mid new n a (subst (λ j. IsLeft (change_texture (with_level j None) n mid) new) e b))

-- ---- The pixels of an image.
abbrev dropped : ℕ → Option Object → Option Object
dropped zero o = o
dropped (suc k) o = with_pixels (suc k) None (dropped k o)

dropped_none : (k : ℕ) → dropped k None ≡ None
dropped_none zero = refl
dropped_none (suc k) = ap (with_pixels (suc k) None) (dropped_none k)

levels_are : (k n : ℕ) (os : List (Option Object)) → levels_dropped k n os ≡ set os n (dropped k (get_or os n None))
unfolding change_pixels
levels_are zero n os = sym (set-get_or os n None)
levels_are (suc k) n os =
    let o = get_or os n None in
    ap (λ ys. set ys n (with_pixels (suc k) None (get_or ys n None))) (levels_are k n os)
    ∙ ap (λ y. set (set os n (dropped k o)) n (with_pixels (suc k) None y)) (changed_at (dropped k) (dropped_none k) n os)
    ∙ set-set os n (dropped k o) (with_pixels (suc k) None (dropped k o))

dropped_texture : (k : ℕ) (x : BackedTexture) → dropped k (Some (Texture x)) ≡ Some (Texture (emptied k x))
dropped_texture zero x = refl
dropped_texture (suc k) x = ap (with_pixels (suc k) None) (dropped_texture k x)

apart : (k : ℕ) → 0 ≢ suc k
apart k e = absurd (omega (arith, e))

emptied_base : (k : ℕ) (t : Option ℕ) (x : BackedTexture) → emptied k (with_level 0 t x) ≡ with_level 0 t (emptied k x)
emptied_base zero t x = refl
emptied_base (suc k) t x =
    ap (with_level (suc k) None) (emptied_base k t x)
    ∙ ap (λ ls. record (emptied k x) { levels = ls }) (set_comm (emptied k x).levels 0 (suc k) t None (apart k))

is_texture_with : (k : ℕ) (t : Option ℕ) (o : Option Object) → is_some (as_texture (with_pixels k t o)) ≡ is_some (as_texture o)
is_texture_with k t (Some (Texture x)) = refl
is_texture_with k t (Some (Renderbuffer r)) = refl
is_texture_with k t o = refl

is_texture_dropped : (k : ℕ) (o : Option Object) → is_some (as_texture (dropped k o)) ≡ is_some (as_texture o)
is_texture_dropped zero o = refl
is_texture_dropped (suc k) o = is_texture_with (suc k) None (dropped k o) ∙ is_texture_dropped k o

-- what isn't a texture has pixels at one place
pixels_over : (k : ℕ) (t u : Option ℕ) (o : Option Object) → is_some (as_texture o) ≡ false → with_pixels 0 t (with_pixels k u o) ≡ with_pixels 0 t o
pixels_over k t u (Some (Texture x)) h = absurd (false≢true (sym h))
pixels_over k t u (Some (Renderbuffer r)) h = refl
pixels_over k t u o h = refl

over_dropped : (k : ℕ) (t : Option ℕ) (o : Option Object) → is_some (as_texture o) ≡ false → with_pixels 0 t (dropped k o) ≡ with_pixels 0 t o
over_dropped zero t o h = refl
over_dropped (suc k) t o h = pixels_over (suc k) t None (dropped k o) (is_texture_dropped k o ∙ h) ∙ over_dropped k t o h

based : (k n : ℕ) (t : Option ℕ) (os : List (Option Object)) → change_pixels 0 t n (levels_dropped k n os) ≡ set os n (with_pixels 0 t (dropped k (get_or os n None)))
unfolding change_pixels
based k n t os =
    let o = get_or os n None in
    ap (λ ys. set ys n (with_pixels 0 t (get_or ys n None))) (levels_are k n os)
    ∙ ap (λ y. set (set os n (dropped k o)) n (with_pixels 0 t y)) (changed_at (dropped k) (dropped_none k) n os)
    ∙ set-set os n (dropped k o) (with_pixels 0 t (dropped k o))

texture_based : (k : ℕ) (t : Option ℕ) (o : Option Object) → is_some (as_texture o) ≡ true → with_texture (emptied k) (with_pixels 0 t o) ≡ with_pixels 0 t (dropped k o)
texture_based k t o h =
    let w = texture_there o h in
    subst (λ y. with_texture (emptied k) (with_pixels 0 t y) ≡ with_pixels 0 t (dropped k y)) (sym w.1)
    (ap (λ y. Some (Texture y)) (emptied_base k t w.0) ∙ sym (ap (with_pixels 0 t) (dropped_texture k w.0)))

pub texture_image : (os mid new : List (Option Object)) (n : ℕ) (t : Option ℕ) → is_some (as_texture (get_or os n None)) ≡ true → IsLeft (change_pixels 0 t n os) mid → IsLeft (change_texture (emptied 10) n mid) new → IsLeft (change_pixels 0 t n (levels_dropped 10 n os)) new
unfolding change_pixels change_texture
texture_image os mid new n t h a b =
    let o = get_or os n None in let f = with_pixels 0 t in let g = with_texture (emptied 10) in
    let m : List (Option Object) = set os n (f o) in
    let e : set m n (g (get_or m n None)) ≡ set os n (f (dropped 10 o)) = ap (λ y. set m n (g y)) (changed_at f refl n os) ∙ set-set os n (f o) (g (f o)) ∙ ap (set os n) (texture_based 10 t o h) in
    subst (λ ys. IsLeft ys new) (e ∙ sym (based 10 n t os)) (left_then _ _ new (left_change g refl n m mid a) b)

pub other_image : (os new : List (Option Object)) (n : ℕ) (t : Option ℕ) → is_some (as_texture (get_or os n None)) ≡ false → IsLeft (change_pixels 0 t n os) new → IsLeft (change_pixels 0 t n (levels_dropped 10 n os)) new
unfolding change_pixels
other_image os new n t h l = subst (λ ys. IsLeft ys new) (ap (set os n) (sym (over_dropped 10 t (get_or os n None) h)) ∙ sym (based 10 n t os)) l
