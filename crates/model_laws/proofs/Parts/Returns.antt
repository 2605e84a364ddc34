-- To take a part out, to bring it back, and what local calls change while it is out.
use Rattle.std.proofs.Common.{◌≡◌, ◌≢◌, ℕ, ◌<◌, Bool, true, false, cond, not, ◌==◌, List, [], ◌∷◌, refl, sym, ap, ◌∙◌, arith, length}
use Rattle.std.proofs.lemmas.Bool.{eq-eqb, eqb-true}
use Rattle.egl_calls.specs.Calls.{CallValue}
use Rattle.egl_model.specs.State.{State}
use Rattle.model_laws.specs.Frame.{IsNone, IsReady}
use Rattle.model_laws.specs.Hidden.{hide, nothing, without}
use Rattle.model_laws.specs.Local.{is_local, locally}
use Rattle.egl_model.specs.Parts.{Own, own_of, part_of, own_objects, put_own}
use Rattle.model_laws.specs.Shapes.{shapes}
use Rattle.model_laws.specs.Sound.{IsWhole}
use Rattle.egl_model.specs.Step.{Stepped, step}
use Rattle.egl_model.specs.Sweep.{census}
use Rattle.model_laws.proofs.Steps.Framing.{local_as_step, own-put}
use Rattle.model_laws.proofs.Parts.OtherParts.{no_more}
use Rattle.model_laws.proofs.Parts.Puts.{own_objects-put, put-own_of, put-put}
use Rattle.model_laws.proofs.Parts.PutWhole.{put_moved, puts_apart, whole-put}
use Rattle.model_laws.proofs.Steps.StepKeeps.{keeps-step}
use Rattle.model_laws.proofs.Steps.StepPut.{whole-hide}
use Rattle.model_laws.proofs.Changes.Writes.{census-written}

-- ---- To bring a part back.
stay : (t : ℕ) (ts : List ℕ) (u : ℕ) (b : Bool) → (u == t) ≡ b → without t (u ∷ ts) ≡ cond (not b) (u ∷ without t ts) (without t ts)
stay t ts u b e = ap (λ c. cond (not c) (u ∷ without t ts) (without t ts)) e

back_one : (s : State) (t : ℕ) (ts : List ℕ) (u : ℕ) (x : Own) (b : Bool) → (u == t) ≡ b → IsWhole (shapes s.objects) s → put_own (hide ts s) t x ≡ put_own (hide (without t ts) s) t x →
    put_own (put_own (hide ts s) u nothing) t x ≡ put_own (hide (cond (not b) (u ∷ without t ts) (without t ts)) s) t x
back_one s t ts u x true e h k = ap (λ v. put_own (put_own (hide ts s) v nothing) t x) (eqb-true u t e) ∙ put-put (hide ts s) t x nothing ∙ k
back_one s t ts u x false e h k =
    let ne : t ≢ u = λ f. let g = eq-eqb u t (sym f) in absurd (let i : false ≡ true = sym e ∙ g in cc) in
    puts_apart (hide ts s) t u x nothing ne (whole-hide ts s h)
    ∙ ap (λ (y : State). put_own y u nothing) k
    ∙ sym (puts_apart (hide (without t ts) s) t u x nothing ne (whole-hide (without t ts) s h))

-- whatever is put for a thread, it makes no difference whether its part was out before
pub hide-without : (s : State) (t : ℕ) (ts : List ℕ) (x : Own) → IsWhole (shapes s.objects) s → put_own (hide ts s) t x ≡ put_own (hide (without t ts) s) t x
hide-without s t [] x h = refl
hide-without s t (u ∷ ts) x h = back_one s t ts u x (u == t) refl h (hide-without s t ts x h) ∙ ap (λ (us : List ℕ). put_own (hide us s) t x) (sym (stay t ts u (u == t) refl))

-- to put something for t where other parts are out is to put it, and then to take those out
put-hide : (s : State) (t : ℕ) (ts : List ℕ) (x : Own) → IsWhole (shapes s.objects) s → IsNone t ts → put_own (hide ts s) t x ≡ hide ts (put_own s t x)
put-hide s t [] x h i = refl
put-hide s t (u ∷ ts) x h i =
    puts_apart (hide ts s) t u x nothing (λ e. i.0 (sym e)) (whole-hide ts s h)
    ∙ ap (λ (y : State). put_own y u nothing) (put-hide s t ts x h i.1)

none_more : (t u : ℕ) (us : List ℕ) (b : Bool) → (u == t) ≡ b → IsNone t us → IsNone t (cond (not b) (u ∷ us) us)
none_more t u us true e i = i
none_more t u us false e i = (λ f. let g = eq-eqb u t f in absurd (let h : false ≡ true = sym e ∙ g in cc), i)

none_without : (t : ℕ) (ts : List ℕ) → IsNone t (without t ts)
none_without t [] = tt
none_without t (u ∷ ts) = none_more t u (without t ts) (u == t) refl (none_without t ts)

-- a part that comes back unchanged leaves the state from which the other parts are out
pub part_back : (s : State) (t : ℕ) (ts : List ℕ) → IsWhole (shapes s.objects) s → put_own (hide ts s) t (own_of s t) ≡ hide (without t ts) s
part_back s t ts h =
    hide-without s t ts (own_of s t) h ∙ put-hide s t (without t ts) (own_of s t) h (none_without t ts)
    ∙ ap (hide (without t ts)) (put-own_of s t)

-- what stays where the part of t is out, with t first
t_first : (s : State) (t : ℕ) (ts : List ℕ) → IsWhole (shapes s.objects) s → hide (t ∷ ts) s ≡ hide (without t ts) (put_own s t nothing)
t_first s t ts h = hide-without s t ts nothing h ∙ put-hide s t (without t ts) nothing h (none_without t ts)

-- where the part of t is out, a local call of t changes nothing of what stays
pub hide-local : (s : State) (t : ℕ) (ts : List ℕ) (c : CallValue) → IsReady s t → is_local (part_of s t) c ≡ true → hide (t ∷ ts) (step s t c).state ≡ hide (t ∷ ts) s
hide-local s t ts c r l =
    t_first (step s t c).state t ts ((keeps-step s t c).whole r.sound.whole)
    ∙ ap (λ (y : Stepped). hide (without t ts) (put_own y.state t nothing)) (local_as_step s t c r l)
    ∙ ap (hide (without t ts)) (put-put s t nothing (locally (part_of s t) c).own)
    ∙ sym (t_first s t ts r.sound.whole)

-- ---- What is taken out.
own-elsewhere : (s : State) (u t : ℕ) (y : Own) → u ≢ t → IsWhole (shapes s.objects) s → t < length s.threads → own_of (put_own s u y) t ≡ own_of s t
own-elsewhere s u t y ne w l =
    let a = put_own s u y in let same = own_objects-put s (own_objects s u) u t y in
    ap (λ (b : State). own_of (put_own b u y) t) (sym (put-own_of s t))
    ∙ ap (λ (b : State). own_of b t) (puts_apart s u t y (own_of s t) ne w)
    ∙ own-put a t (own_of s t) (whole-put u y s w) (let e = (put_moved u y s).keeps.frame.count in omega (arith, e, l)) (rw same (no_more (own_objects s t) t s))

threads-hide : (ts : List ℕ) (s : State) → length (hide ts s).threads ≡ length s.threads
threads-hide [] s = refl
threads-hide (t ∷ ts) s = (put_moved t nothing (hide ts s)).keeps.frame.count ∙ threads-hide ts s

-- what is taken out of a state from which other parts are out is the thread's own
pub own-hide : (s : State) (t : ℕ) (ts : List ℕ) → IsWhole (shapes s.objects) s → t < length s.threads → IsNone t ts → own_of (hide ts s) t ≡ own_of s t
own-hide s t [] w l i = refl
own-hide s t (u ∷ ts) w l i = own-elsewhere (hide ts s) u t nothing i.0 (whole-hide ts s w) (let e = threads-hide ts s in omega (arith, e, l)) ∙ own-hide s t ts w l i.1

-- the census is that of the state
pub census-hide : (s : State) (out : List ℕ) → census (hide out s) ≡ census s
census-hide s [] = refl
census-hide s (u ∷ us) = census-written (own_objects (hide us s) u) nothing (hide us s).objects ∙ census-hide s us
