-- Calls and references in little memory.
use Rattle.std.proofs.Common.{◌≡◌, ℕ, zero, suc, ◌+◌, ◌<◌, ◌≤◌, ℤ, pos, List, [], ◌∷◌, ◌++◌, length, take, drop, get_or, set, refl, sym, ap, ◌∙◌, arith, rules, Option, None, Some, false}
use Rattle.std.proofs.Math.Seq.{take-append_seam, drop-append_seam}
use Rattle.std.proofs.lemmas.List.{length-take, take_all, take_more}
use Rattle.std.specs.Prelude.{is_some}
use Rattle.egl_calls.specs.Calls.{CallValue}
use Rattle.egl_calls.specs.declared.kinds.Kind.{Kind}
use Rattle.trace_reader.specs.declared.traces.Reference.{Reference}
use Rattle.trace_reader.specs.Arguments.{padded}
use Rattle.trace_reader.proofs.ArgumentLaws.{padded_more}

pub none_is : (xs : List Reference) → length xs ≡ 0 → [] ≡ xs
none_is [] h = refl
none_is (x ∷ xs) h = absurd (omega (arith, h))

pub one_is : (xs : List Reference) (x : Reference) → length xs ≡ 1 → x ≡ get_or xs 0 x → x ∷ [] ≡ xs
one_is [] x h is = absurd (omega (arith, h))
one_is (y ∷ []) x h is = ap (λ (r : Reference). r ∷ []) is
one_is (y ∷ z ∷ zs) x h is = absurd (omega (arith, h))

-- where a call has at most four numbers, the last four of the eight are 0
few_of : (a b c d : ℤ) (zs : List ℤ) (n : ℕ) → n ≤ 4 → a ∷ b ∷ c ∷ d ∷ zs ≡ padded (take n (a ∷ b ∷ c ∷ d ∷ zs)) → a ∷ b ∷ c ∷ d ∷ pos 0 ∷ pos 0 ∷ pos 0 ∷ pos 0 ∷ [] ≡ a ∷ b ∷ c ∷ d ∷ zs
unfolding padded
few_of a b c d zs zero h e = sym (ap (λ (r : List ℤ). a ∷ b ∷ c ∷ d ∷ drop 4 r) e)
few_of a b c d zs (suc zero) h e = sym (ap (λ (r : List ℤ). a ∷ b ∷ c ∷ d ∷ drop 4 r) e)
few_of a b c d zs (suc (suc zero)) h e = sym (ap (λ (r : List ℤ). a ∷ b ∷ c ∷ d ∷ drop 4 r) e)
few_of a b c d zs (suc (suc (suc zero))) h e = sym (ap (λ (r : List ℤ). a ∷ b ∷ c ∷ d ∷ drop 4 r) e)
few_of a b c d zs (suc (suc (suc (suc zero)))) h e = sym (ap (λ (r : List ℤ). a ∷ b ∷ c ∷ d ∷ drop 4 r) e)
few_of a b c d zs (suc (suc (suc (suc (suc n))))) h e = absurd (omega arith)

abbrev few_kept : Kind → ℤ → ℤ → ℤ → ℤ → CallValue
few_kept kind a b c d = record { kind = kind; args = a ∷ b ∷ c ∷ d ∷ pos 0 ∷ pos 0 ∷ pos 0 ∷ pos 0 ∷ []; list = []; bytes = None }

pub few_are : (zs : List ℤ) (n : ℕ) (x : ℤ) → length zs ≡ 8 → n ≤ 4 → zs ≡ padded (take n zs) → get_or zs 0 x ∷ get_or zs 1 x ∷ get_or zs 2 x ∷ get_or zs 3 x ∷ pos 0 ∷ pos 0 ∷ pos 0 ∷ pos 0 ∷ [] ≡ zs
few_are [] n x l h e = absurd (omega (arith, l))
few_are (a ∷ []) n x l h e = absurd (omega (arith, l))
few_are (a ∷ b ∷ []) n x l h e = absurd (omega (arith, l))
few_are (a ∷ b ∷ c ∷ []) n x l h e = absurd (omega (arith, l))
few_are (a ∷ b ∷ c ∷ d ∷ zs) n x l h e = few_of a b c d zs n h e

-- what is kept of a call of at most four numbers, without a list and bytes
pub few_call : (kind : Kind) (zs list : List ℤ) (bytes : Option (List ℕ)) (n : ℕ) (x a b c d : ℤ) → length zs ≡ 8 → n ≤ 4 → zs ≡ padded (take n zs) → length list ≡ 0 → is_some bytes ≡ false → a ≡ get_or zs 0 x → b ≡ get_or zs 1 x → c ≡ get_or zs 2 x → d ≡ get_or zs 3 x → few_kept kind a b c d ≡ record { kind = kind; args = zs; list = list; bytes = bytes }
few_call kind zs [] None n x a b c d l h e m o p q r s =
    ap (λ (y : ℤ). few_kept kind y b c d) p ∙ ap (λ (y : ℤ). few_kept kind (get_or zs 0 x) y c d) q ∙ ap (λ (y : ℤ). few_kept kind (get_or zs 0 x) (get_or zs 1 x) y d) r ∙ ap (few_kept kind (get_or zs 0 x) (get_or zs 1 x) (get_or zs 2 x)) s
    ∙ ap (λ (ys : List ℤ). record { kind = kind; args = ys; list = []; bytes = None }) (few_are zs n x l h e)
few_call kind zs [] (Some bs) n x a b c d l h e m o p q r s = absurd (search rules)
few_call kind zs (y ∷ ys) bytes n x a b c d l h e m o p q r s = absurd (omega (arith, m))

-- numbers in front of a list
pub front_is : (front list : List ℤ) (n : ℕ) → length front ≡ n → take n (front ++ list) ≡ front
front_is front list n h = ap (λ (k : ℕ). take k (front ++ list)) (sym h) ∙ take-append_seam front list

pub list_is : (front list : List ℤ) (n : ℕ) → length front ≡ n → drop n (front ++ list) ≡ list
list_is front list n h = ap (λ (k : ℕ). drop k (front ++ list)) (sym h) ∙ drop-append_seam front list

-- one more of the numbers in front
pub padded_next : (front args new : List ℤ) (k : ℕ) (d : ℤ) → length front ≤ 8 → k < length front → new ≡ set args k (get_or front k d) → args ≡ padded (take k front) → new ≡ padded (take (k + 1) front)
padded_next front args new k d few within n e =
    let zs = take k front in
    let l : length zs ≡ k = omega (arith, length-take k front) in
    let z = get_or front k d in
    n ∙ ap (λ (a : List ℤ). set a k z) e ∙ ap (λ (i : ℕ). set (padded zs) i z) (sym l) ∙ padded_more zs z (omega arith) ∙ ap padded (sym (take_more front k d within))

-- all of them
pub padded_all : (front args : List ℤ) (k : ℕ) → length front ≤ k → args ≡ padded (take k front) → args ≡ padded front
padded_all front args k h e = e ∙ ap padded (take_all k front h)
