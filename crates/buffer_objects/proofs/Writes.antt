-- Bytes that are written over others.
use Rattle.std.proofs.Common.{◌≡◌, ℕ, ◌+◌, ◌-◌, ◌≤◌, min, List, ◌++◌, length, take, drop, replicate, refl, sym, ap, ◌∙◌, arith, length-append, length-drop, length-take}
use Rattle.std.proofs.lemmas.List.{append_assoc, drop-drop, drop_at, length-replicate, length-take-le, take_all, take_at, take_min}
use Rattle.buffer_objects.specs.Contents.{filled, written}
use borrow.Rule.Slice.PartMut.{put_mid}

abbrev zero_byte : ℕ
zero_byte = 0

-- bytes over those that stand from a place on, and behind them the others
unfoldable over : ℕ → List ℕ → List ℕ → List ℕ
over from new old = take from old ++ new ++ drop (from + length new) old

over_is : (from : ℕ) (new old : List ℕ) → over from new old ≡ take from old ++ new ++ drop (from + length new) old
unfolding over
over_is from new old = refl

length-over : (from : ℕ) (new old : List ℕ) → length (over from new old) ≡ min from (length old) + length new + (length old - (from + length new))
unfolding over
length-over from new old =
    let a = length-append (take from old ++ new) (drop (from + length new) old) in let b = length-append (take from old) new in
    let d = length-take from old in let e = length-drop (from + length new) old in omega (arith, a, b, d, e)

-- there are as many as before
pub length-written : (from : ℕ) (new old : List ℕ) → length (written from new old) ≡ length old
unfolding written over
length-written from new old = let a = length-over from new old in let b = length-take (length old) (over from new old) in omega (arith, a, b)

inside : (from : ℕ) (new old : List ℕ) → from + length new ≤ length old → written from new old ≡ over from new old
unfolding written over
inside from new old h = let a = length-over from new old in take_all (length old) (over from new old) (omega (arith, a, h))

-- so many bytes are
pub length-filled : (size : ℕ) (bytes : List ℕ) → length (filled size bytes) ≡ size
length-filled size bytes =
    let a = length-append (take size bytes) (replicate (size - length bytes) 0) in let b = length-take size bytes in
    let d = length-replicate (size - length bytes) zero_byte in omega (arith, a, b, d)

-- a part that is written in place
pub put_written : (from k : ℕ) (xs ys new : List ℕ) → from + length new ≤ length xs → ys ≡ new → k ≡ length new → put_mid from k xs ys ≡ written from new xs
unfolding over
put_written from k xs ys new h e l = rw (e, l, drop-drop (length new) from xs) (sym (append_assoc (take from xs) new (drop (from + length new) xs))) ∙ sym (inside from new xs h)

-- what stands before the end of the first write, and after it
front : (from n : ℕ) (a old : List ℕ) → from ≤ length old → n ≡ from + length a → take n (over from a old) ≡ take from old ++ a
unfolding over
front from n a old h e = take_at (take from old ++ a) (drop (from + length a) old) n (omega (arith, length-append (take from old) a, length-take-le from old h))

back : (from n k : ℕ) (a old : List ℕ) → from ≤ length old → n ≡ from + length a → drop (n + k) (over from a old) ≡ drop (n + k) old
unfolding over
back from n k a old h e =
    let long : length (take from old ++ a) ≡ n = omega (arith, length-append (take from old) a, length-take-le from old h) in
    rw (← drop-drop k n (take from old ++ a ++ drop (from + length a) old), drop_at (take from old ++ a) (drop (from + length a) old) n long, drop-drop k (from + length a) old, e) refl

over_twice : (from n : ℕ) (a b old : List ℕ) → from ≤ length old → n ≡ from + length a → over n b (over from a old) ≡ over from (a ++ b) old
over_twice from n a b old h e =
    let ends : from + length (a ++ b) ≡ n + length b = omega (arith, length-append a b) in
    rw (over_is n b (over from a old), over_is from (a ++ b) old, front from n a old h e, back from n (length b) a old h e, ends, append_assoc (take from old) a b) refl

-- a second write where the first one ends
twice : (from n : ℕ) (a b old : List ℕ) → from + length a + length b ≤ length old → n ≡ from + length a → written n b (written from a old) ≡ written from (a ++ b) old
twice from n a b old h e =
    let long = length-written from a old in
    inside n b (written from a old) (omega (arith, h, e, long)) ∙ ap (over n b) (inside from a old (omega (arith, h))) ∙ over_twice from n a b old (omega (arith, h)) e
    ∙ sym (inside from (a ++ b) old (let l = length-append a b in omega (arith, h, l)))

-- so many zeros
pub cleared : (from count : ℕ) (xs ys : List ℕ) → from + count ≤ length xs → ys ≡ replicate (length (take (from + count - from) (drop from xs))) 0
    → put_mid from (from + count - from) xs ys ≡ written from (replicate count 0) xs
cleared from count xs ys h e =
    let room : count ≤ length (drop from xs) = omega (arith, length-drop from xs) in
    let part : from + count - from ≡ count = omega arith in
    let long : length (take (from + count - from) (drop from xs)) ≡ count = rw part (length-take-le count (drop from xs) room) in
    let all = length-replicate count zero_byte in
    put_written from (from + count - from) xs ys (replicate count 0) (omega (arith, h, all)) (e ∙ ap (λ n. replicate n 0) long) (part ∙ sym all)

-- a write whose bytes are too few: zeros stand for the others
pub refilled : (from size taken : ℕ) (given old : List ℕ) → from + size ≤ length old → taken ≡ min (length given) size
    → written (from + taken) (replicate (size - taken) 0) (written from (take taken given) old) ≡ written from (filled size given) old
refilled from size taken given old h e =
    let long : length (take taken given) ≡ taken = length-take-le taken given (omega arith) in
    let rest = length-replicate (size - taken) zero_byte in
    let some : take taken given ≡ take size given = ap (λ n. take n given) (omega arith) ∙ take_min size given in
    let missing : size - taken ≡ size - length given = omega arith in
    twice from (from + taken) (take taken given) (replicate (size - taken) 0) old (omega (arith, long, rest, h, e)) (omega (arith, long))
    ∙ ap (λ (x : List ℕ). written from (x ++ replicate (size - taken) 0) old) some
    ∙ ap (λ n. written from (take size given ++ replicate n 0) old) missing
