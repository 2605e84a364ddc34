-- The first defect of lines.
use Rattle.std.proofs.Common.{◌≡◌, ℕ, zero, suc, ◌+◌, ◌<◌, ◌≤◌, true, false, List, [], ◌∷◌, ◌++◌, length, take, refl, sym, ap, ◌∙◌, subst, arith, append-nil, Result, Ok, Err, IsOk}
use Rattle.std.specs.Str.Lines.{lines}
use Rattle.trace_reader.specs.declared.traces.Defect.{Defect}
use Rattle.trace_reader.specs.declared.traces.Reason.{Reason}
use Rattle.trace_reader.specs.declared.traces.Reason.TheVariants.{Header}
use Rattle.trace_reader.specs.declared.traces.TraceError.{TraceError}
use Rattle.trace_reader.specs.declared.body.LineError.{LineError}
use Rattle.trace_reader.specs.declared.body.LineError.TheVariants.{Defective, NoMemory}
use Rattle.trace_reader.specs.Reading.{FailsWith, error_at}
use Rattle.trace_reader.specs.Words.{words}
use Rattle.scene_reader.specs.declared.headers.Sides.{Sides}
use Rattle.scene_reader.specs.declared.items.Item.{Item}
use Rattle.scene_reader.specs.Scenes.{SceneValue}
use Rattle.scene_reader.specs.Headers.{header_of}
use Rattle.scene_reader.specs.Lines.{line_behind}
use Rattle.scene_reader.specs.Grammar.{behind_header, line_then, read_items, scene, scene_of_lines, with_sides}
use Rattle.scene_reader.specs.Laws.{IsFirstDefect}
use Rattle.scene_reader.specs.Reading.{GivesItems}

-- the first defect of the lines from the number n on, behind these items
record IsFirstFrom (before : List Item) (n : ℕ) (ls : List (List ℕ)) (d : Defect) : Type 0 where
  first : n ≤ d.line
  last : d.line < n + length ls
  front : (k : ℕ) → n + k ≡ d.line → (more : List (List ℕ)) → read_items before n (take (suc k) ls ++ more) ≡ Err d
  earlier : (k : ℕ) → n + k ≤ d.line → IsOk (read_items before n (take k ls))

same_defect : {A : Type 0} (x d : Defect) → (let e : Result A Defect = Err x in e ≡ Err d) → x ≡ d
same_defect x d h = cc

-- a line with these items behind it
on_line : (before : List Item) (n : ℕ) (line : List ℕ) (said : Result (List Item) Reason) → line_behind before line ≡ said
    → (rest : List (List ℕ)) → read_items before n (line ∷ rest) ≡ line_then n said (λ items. read_items items (n + 1) rest)
on_line before n line said e rest = ap (λ (s : Result (List Item) Reason). line_then n s (λ items. read_items items (n + 1) rest)) e

-- a line that isn't taken
pub items_refused : (before after : List Item) (n : ℕ) (line : List ℕ) (ls rest : List (List ℕ)) (said : Result (List Item) Defect) (e : LineError) (x : TraceError) → GivesItems (line_behind before line) before after (Err e) → ls ≡ line ∷ rest → read_items before n ls ≡ said → x ≡ error_at n e → FailsWith x said
items_refused before after n line ls rest said (Defective r) x g l s a =
    let P : TraceError → Type 0 = λ y. FailsWith y said in
    subst P (sym a) (sym s ∙ ap (read_items before n) l ∙ on_line before n line (Err r) g rest)
items_refused before after n line ls rest said NoMemory x g l s a =
    let P : TraceError → Type 0 = λ y. FailsWith y said in
    subst P (sym a) tt

goes_front : (before items : List Item) (n : ℕ) (line : List ℕ) (rest : List (List ℕ)) (d : Defect) → ((r : List (List ℕ)) → read_items before n (line ∷ r) ≡ read_items items (n + 1) r) → IsFirstFrom items (n + 1) rest d
    → (k : ℕ) → n + k ≡ d.line → (more : List (List ℕ)) → read_items before n (take (suc k) (line ∷ rest) ++ more) ≡ Err d
goes_front before items n line rest d g i zero e more = absurd (omega (arith, i.first, e))
goes_front before items n line rest d g i (suc k) e more = g (take (suc k) rest ++ more) ∙ i.front k (omega (arith, e)) more

goes_earlier : (before items : List Item) (n : ℕ) (line : List ℕ) (rest : List (List ℕ)) (d : Defect) → ((r : List (List ℕ)) → read_items before n (line ∷ r) ≡ read_items items (n + 1) r) → IsFirstFrom items (n + 1) rest d
    → (k : ℕ) → n + k ≤ d.line → IsOk (read_items before n (take k (line ∷ rest)))
goes_earlier before items n line rest d g i zero l = refl
goes_earlier before items n line rest d g i (suc k) l =
    let P : Result (List Item) Defect → Type 0 = λ r. IsOk r in
    subst P (sym (g (take k rest))) (i.earlier k (omega (arith, l)))

stops_front : (before : List Item) (n : ℕ) (line : List ℕ) (rest : List (List ℕ)) (d : Defect) → d.line ≡ n → ((more : List (List ℕ)) → read_items before n (line ∷ more) ≡ Err d)
    → (k : ℕ) → n + k ≡ d.line → (more : List (List ℕ)) → read_items before n (take (suc k) (line ∷ rest) ++ more) ≡ Err d
stops_front before n line rest d e s zero f more = s more
stops_front before n line rest d e s (suc k) f more = absurd (omega (arith, e, f))

stops_earlier : (before : List Item) (n : ℕ) (line : List ℕ) (rest : List (List ℕ)) (d : Defect) → d.line ≡ n → (k : ℕ) → n + k ≤ d.line → IsOk (read_items before n (take k (line ∷ rest)))
stops_earlier before n line rest d e zero l = refl
stops_earlier before n line rest d e (suc k) l = absurd (omega (arith, e, l))

first_at : (before : List Item) (n : ℕ) (line : List ℕ) (rest : List (List ℕ)) (d : Defect) (said : Result (List Item) Reason) → line_behind before line ≡ said
    → ((items : List Item) → read_items items (n + 1) rest ≡ Err d → IsFirstFrom items (n + 1) rest d)
    → read_items before n (line ∷ rest) ≡ Err d → IsFirstFrom before n (line ∷ rest) d
first_at before n line rest d (Ok items) e more h =
    let g : (r : List (List ℕ)) → read_items before n (line ∷ r) ≡ read_items items (n + 1) r = on_line before n line (Ok items) e in
    let i : IsFirstFrom items (n + 1) rest d = more items (sym (g rest) ∙ h) in
    record {
      first = omega (arith, i.first);
      last = omega (arith, i.last);
      front = goes_front before items n line rest d g i;
      earlier = goes_earlier before items n line rest d g i;
    }
first_at before n line rest d (Err r) e more h =
    let x : Defect = record { line = n; reason = r } in
    let s : (r' : List (List ℕ)) → read_items before n (line ∷ r') ≡ Err x = on_line before n line (Err r) e in
    let i : x ≡ d = same_defect {A = List Item} x d (sym (s rest) ∙ h) in
    let f : d.line ≡ n = sym (ap (λ (y : Defect). y.line) i) in
    record {
      first = omega (arith, f);
      last = omega (arith, f);
      front = stops_front before n line rest d f (λ m. s m ∙ sym (s rest) ∙ h);
      earlier = stops_earlier before n line rest d f;
    }

first_from : (before : List Item) (n : ℕ) (ls : List (List ℕ)) (d : Defect) → read_items before n ls ≡ Err d → IsFirstFrom before n ls d
first_from before n [] d h = absurd (let e : Ok before ≡ Err d = h in cc)
first_from before n (line ∷ rest) d h = first_at before n line rest d (line_behind before line) refl (λ items k. first_from items (n + 1) rest d k) h

defect_within : (sides : Sides) (r : Result (List Item) Defect) (d : Defect) → with_sides sides r ≡ Err d → r ≡ Err d
defect_within sides (Ok items) d h = absurd (let e : with_sides sides (Ok items) ≡ Err d = h in cc)
defect_within sides (Err e) d h = ap (λ (y : Defect). Err y) (same_defect {A = SceneValue} e d h)

ok_with : (sides : Sides) (r : Result (List Item) Defect) → IsOk r → IsOk (with_sides sides r)
ok_with sides (Ok items) h = refl
ok_with sides (Err e) h = absurd (let f : false ≡ true = h in cc)

behind_first : (first : List ℕ) (h : Result Sides Reason) → header_of (words first) ≡ h → (rest : List (List ℕ)) → scene_of_lines (first ∷ rest) ≡ behind_header h rest
behind_first first h e rest = ap (λ (x : Result Sides Reason). behind_header x rest) e

lines_front : (first : List ℕ) (rest : List (List ℕ)) (sides : Sides) (d : Defect) → header_of (words first) ≡ Ok sides → IsFirstFrom [] 2 rest d
    → (n : ℕ) → n ≡ d.line → (more : List (List ℕ)) → scene_of_lines (take n (first ∷ rest) ++ more) ≡ Err d
lines_front first rest sides d h i zero e more = absurd (omega (arith, i.first, e))
lines_front first rest sides d h i (suc zero) e more = absurd (omega (arith, i.first, e))
lines_front first rest sides d h i (suc (suc k)) e more =
    behind_first first (Ok sides) h (take (suc k) rest ++ more) ∙ ap (with_sides sides) (i.front k (omega (arith, e)) more)

lines_before : (first : List ℕ) (rest : List (List ℕ)) (sides : Sides) (d : Defect) → header_of (words first) ≡ Ok sides → IsFirstFrom [] 2 rest d
    → (n : ℕ) → 1 ≤ n → n < d.line → IsOk (scene_of_lines (take n (first ∷ rest)))
lines_before first rest sides d h i zero p l = absurd (omega (arith, p))
lines_before first rest sides d h i (suc k) p l =
    let P : Result SceneValue Defect → Type 0 = λ r. IsOk r in
    subst P (sym (behind_first first (Ok sides) h (take k rest))) (ok_with sides (read_items [] 2 (take k rest)) (i.earlier k (omega (arith, l))))

-- whatever follows, and so if nothing follows
alone : (ls : List (List ℕ)) (d : Defect) → ((more : List (List ℕ)) → scene_of_lines (ls ++ more) ≡ Err d) → scene_of_lines ls ≡ Err d
alone ls d h = ap scene_of_lines (sym (append-nil ls)) ∙ h []

behind_defect : (first : List ℕ) (rest : List (List ℕ)) (d : Defect) (h : Result Sides Reason) → header_of (words first) ≡ h → scene_of_lines (first ∷ rest) ≡ Err d → IsFirstDefect (first ∷ rest) d
behind_defect first rest d (Ok sides) e h =
    let i : IsFirstFrom [] 2 rest d = first_from [] 2 rest d (defect_within sides (read_items [] 2 rest) d (sym (behind_first first (Ok sides) e rest) ∙ h)) in
    record {
      numbered = omega (arith, i.first);
      among = λ s. omega (arith, i.last);
      alone = alone _ d (lines_front first rest sides d e i d.line refl);
      followed = λ s. lines_front first rest sides d e i d.line refl;
      before = lines_before first rest sides d e i;
    }
behind_defect first rest d (Err r) e h =
    let x : Defect = record { line = 1; reason = r } in
    let y : Result SceneValue Defect = Err x in
    let f : y ≡ Err d = sym (behind_first first (Err r) e rest) ∙ h in
    let i : x ≡ d = cc in
    let P : Defect → Type 0 = λ v. IsFirstDefect (first ∷ rest) v in
    subst P i (record {
      numbered = omega arith;
      among = λ s. omega arith;
      alone = behind_first first (Err r) e [];
      followed = λ s more. behind_first first (Err r) e more;
      before = λ n p l. absurd (omega arith);
    })

pub first_defect_of_lines : (ls : List (List ℕ)) (d : Defect) → scene_of_lines ls ≡ Err d → IsFirstDefect ls d
first_defect_of_lines [] d h =
    let x : Defect = record { line = 1; reason = Header } in
    let y : Result SceneValue Defect = Err x in
    let f : y ≡ Err d = h in
    let i : x ≡ d = cc in
    let P : Defect → Type 0 = λ v. IsFirstDefect [] v in
    subst P i (record {
      numbered = omega arith;
      among = λ s. absurd (omega arith);
      alone = refl;
      followed = λ s more. absurd (omega arith);
      before = λ n p l. absurd (omega arith);
    })
first_defect_of_lines (first ∷ rest) d h = behind_defect first rest d (header_of (words first)) refl h

pub first_defect_of_bytes : (b : List ℕ) (d : Defect) → scene b ≡ Err d → IsFirstDefect (lines b) d
unfolding scene
first_defect_of_bytes b d h = first_defect_of_lines (lines b) d h
