-- The entries of the numbers that a token owns.
use Rattle.std.proofs.Common.{◌≡◌, ◌≢◌, ℕ, ◌<◌, Bool, true, false, ◌||◌, cond, List, [], ◌∷◌, ◌++◌, zero, suc, length, arith, refl, sym, ap, ◌∙◌, subst, inl, inr}
use Rattle.std.specs.Prelude.{◌==◌, All, Contains, slice_index_or}
use Rattle.std.proofs.lemmas.Bool.{ne_eqb, eq-eqb}
use Rattle.std.proofs.lemmas.List.{append-nil}
use Rattle.std.proofs.lemmas.List.Elements.{filter-append}
use Rattle.std.proofs.lemmas.List.Folds.{list_any-append}
use Rattle.egl_calls.specs.Calls.{CallValue, ReplyValue}
use Rattle.egl_calls.specs.Journals.{are_halted, is_halt_kind}
use Rattle.model_laws.specs.Frame.{AreOf}
use Rattle.egl_calls.specs.declared.entries.Entry.{Entry}
use Rattle.shared_driver.specs.Cores.{entry, has_halted, of_number}
use Rattle.shared_driver.specs.Tokens.{AreOthers, Goes, Includes, KnowsEnded, Learns, Owns, Token, mine}

pub of_number-append : (n : ℕ) (xs ys : List Entry) → of_number n (xs ++ ys) ≡ of_number n xs ++ of_number n ys
of_number-append n xs ys = filter-append (λ (e : Entry). e.thread == n) xs ys

-- entries of others are of no number that the token owns
none_owned : (t : Token) (n : ℕ) (es : List Entry) → Owns t n → AreOthers t es → of_number n es ≡ []
none_owned t n [] own h = refl
none_owned t n (e ∷ es) own h =
    ap (λ b. cond b (e ∷ of_number n es) (of_number n es)) (ne_eqb e.thread n (λ k. h 0 e (omega arith) (subst (λ m. Owns t m) (sym k) own))) ∙ none_owned t n es own (λ i d l. h (suc i) d (omega arith))

-- what the token had seen, entries of others, its tail, and then more
of_all : (t : Token) (n : ℕ) (between more : List Entry) → Owns t n → AreOthers t between → of_number n (((t.seen ++ between) ++ t.tail) ++ more) ≡ of_number n (t.seen ++ t.tail) ++ of_number n more
of_all t n between more own h =
    of_number-append n ((t.seen ++ between) ++ t.tail) more
    ∙ ap (λ l. l ++ of_number n more)
    (of_number-append n (t.seen ++ between) t.tail
    ∙ ap (λ l. l ++ of_number n t.tail) (of_number-append n t.seen between ∙ ap (λ l. of_number n t.seen ++ l) (none_owned t n between own h) ∙ append-nil _)
    ∙ sym (of_number-append n t.seen t.tail))

-- a token that goes on has the entries more that are its own
pub mine_goes : (t u : Token) (more : List Entry) → u.number ≡ t.number → Goes t more u → mine u ≡ mine t ++ of_number t.number more
mine_goes t u more number k =
    ap (of_number u.number) (ap (λ l. u.seen ++ l) k.3 ∙ append-nil u.seen ∙ k.2) ∙ ap (λ n. of_number n (((t.seen ++ k.0) ++ t.tail) ++ more)) number ∙ of_all t t.number k.0 more (inl refl_number) k.1
  where
    refl_number : t.number ≡ t.number
    refl_number = refl

-- in what includes all of the token, the entries of its number are its own
pub includes_mine : (t : Token) (seen : List Entry) → Includes t seen → of_number t.number seen ≡ mine t
includes_mine t seen k =
    ap (of_number t.number) k.4 ∙ of_all t t.number k.0 k.1 (inl same) k.2 ∙ ap (λ l. mine t ++ l) (none_owned t t.number k.1 (inl same) k.3) ∙ append-nil _
  where
    same : t.number ≡ t.number
    same = refl

-- and those of a number that ended in it are those that it had seen
pub includes_ended : (t : Token) (seen : List Entry) → ((n : ℕ) → Contains t.ended n → of_number n t.tail ≡ []) → Includes t seen → KnowsEnded t seen
includes_ended t seen none k n inside =
    ap (of_number n) k.4 ∙ of_all t n k.0 k.1 (inr inside) k.2 ∙ ap (λ l. of_number n (t.seen ++ t.tail) ++ l) (none_owned t n k.1 (inr inside) k.3) ∙ append-nil _
    ∙ of_number-append n t.seen t.tail ∙ ap (λ l. of_number n t.seen ++ l) (none n inside) ∙ append-nil _

pub learns_ended : (t u : Token) → Learns t u → KnowsEnded t u.seen
learns_ended t u k n inside = ap (of_number n) k.2 ∙ of_number-append n t.seen k.0 ∙ ap (λ l. of_number n t.seen ++ l) (none_owned t n k.0 (inr inside) k.1) ∙ append-nil _

-- a token that only learns keeps its own entries
pub mine_learns : (t u : Token) → u.number ≡ t.number → Learns t u → mine u ≡ mine t
mine_learns t u number k =
    ap (of_number u.number) (ap (λ l. u.seen ++ l) k.3 ∙ ap (λ l. l ++ t.tail) k.2 ∙ sym (append-nil ((t.seen ++ k.0) ++ t.tail))) ∙ ap (λ n. of_number n (((t.seen ++ k.0) ++ t.tail) ++ [])) number ∙ of_all t t.number k.0 [] (inl same) k.1 ∙ append-nil _
  where
    same : t.number ≡ t.number
    same = refl

-- ---- Entries of one number.
pub own_one : (n mark : ℕ) (c : CallValue) (r : ReplyValue) → of_number n (entry n mark c r ∷ []) ≡ entry n mark c r ∷ []
own_one n mark c r = ap (λ b. cond b (entry n mark c r ∷ []) []) (eq-eqb n n refl)

pub all_own : (n : ℕ) (es : List Entry) → AreOf n es → of_number n es ≡ es
all_own n [] w = refl
all_own n (e ∷ es) w = ap (λ b. cond b (e ∷ of_number n es) (of_number n es)) (eq-eqb e.thread n w.0) ∙ ap (λ l. e ∷ l) (all_own n es w.1)

pub none_other : (n m : ℕ) (es : List Entry) → AreOf n es → m ≢ n → of_number m es ≡ []
none_other n m [] w ne = refl
none_other n m (e ∷ es) w ne = ap (λ b. cond b (e ∷ of_number m es) (of_number m es)) (ne_eqb e.thread m (λ k. ne (sym k ∙ w.0))) ∙ none_other n m es w.1 ne

none_below : (n : ℕ) (es : List Entry) → All (λ (e : Entry). e.thread < n) es → of_number n es ≡ []
none_below n [] h = refl
none_below n (e ∷ es) h =
    ap (λ b. cond b (e ∷ of_number n es) (of_number n es)) (ne_eqb e.thread n (λ k. apart e.thread n (h 0 e (omega arith)) k)) ∙ none_below n es (λ i d l. h (suc i) d (omega arith))
  where
    apart : (a b : ℕ) → a < b → a ≡ b → ⊥
    apart a b l e = omega arith

-- nothing is of a number that isn't made yet
pub none_new : (n made : ℕ) (es : List Entry) → All (λ (e : Entry). e.thread < made) es → n ≡ made → of_number n es ≡ []
none_new n made es h e = none_below n es (subst (λ m. All (λ (d : Entry). d.thread < m) es) (sym e) h)

-- each entry at a place is of the number
pub own_alone : (e : Entry) (n : ℕ) → e.thread ≡ n → (i : ℕ) (d : Entry) → i < 1 → (slice_index_or (e ∷ []) i d).thread ≡ n
own_alone e n same zero d inside = same
own_alone e n same (suc i) d inside = absurd (omega arith)

pub own_each : (n : ℕ) (es : List Entry) → AreOf n es → (i : ℕ) (d : Entry) → i < length es → (slice_index_or es i d).thread ≡ n
own_each n [] w i d inside = absurd (omega arith)
own_each n (e ∷ es) w zero d inside = w.0
own_each n (e ∷ es) w (suc i) d inside = own_each n es w.1 i d (omega arith)

pub own_then : (n : ℕ) (es : List Entry) (e : Entry) → AreOf n es → e.thread ≡ n → AreOf n (es ++ e ∷ [])
own_then n [] e w h = (h, tt)
own_then n (d ∷ es) e w h = (w.0, own_then n es e w.1 h)

pub own_append : (n : ℕ) (xs ys : List Entry) → AreOf n xs → AreOf n ys → AreOf n (xs ++ ys)
own_append n [] ys w v = v
own_append n (x ∷ xs) ys w v = (w.0, own_append n xs ys w.1 v)

-- ---- Whether a token gave up.
pub or_false : (b : Bool) → (b || false) ≡ b
or_false true = refl
or_false false = refl

pub halted_more : (n m : ℕ) (before after more : List Entry) (halted halts : Bool) → m ≡ n → halted ≡ has_halted n before → of_number m after ≡ of_number n before ++ more → are_halted more ≡ halts → (halted || halts) ≡ has_halted m after
unfolding has_halted
halted_more n m before after more halted halts same h own e =
    ap (λ b. b || halts) h ∙ ap (λ b. are_halted (of_number n before) || b) (sym e) ∙ sym (list_any-append (λ (d : Entry). is_halt_kind d.call.kind) (of_number n before) more) ∙ ap are_halted (sym own)

pub halted_same : (n m : ℕ) (before after : List Entry) (halted : Bool) → m ≡ n → halted ≡ has_halted n before → of_number m after ≡ of_number n before → halted ≡ has_halted m after
unfolding has_halted
halted_same n m before after halted same h own = h ∙ ap are_halted (sym own)
