-- Larger steps.
use Rattle.std.proofs.Common.{◌≡◌, ◌⊎◌, inl, inr, ℕ, ◌+◌, ◌≤◌, ℤ, Bool, true, false, List, [], ◌∷◌, ◌++◌, refl, sym, ap, subst, ◌∙◌, fold, arith}
use Rattle.std.specs.Prelude.{Option, None, Some, is_some, nat_le, if◌then◌else◌, length, slice_set, unwrap_or, ◌==◌}
use Rattle.std.specs.List.{list_any, range_with_len}
use Rattle.std.specs.Option.{option_or}
use Rattle.std.proofs.lemmas.Bool.Decides.{nat_tests}
use Rattle.call_table.specs.Rows.{egl_answers}
use Rattle.egl_calls.specs.Calls.{CallValue, ReplyValue}
use Rattle.egl_calls.specs.Ranges.{unsigned}
use Rattle.egl_calls.specs.declared.kinds.EglKind.{EglKind}
use Rattle.egl_calls.specs.declared.kinds.EglKind.TheVariants.{MakeCurrent, ReleaseThread}
use Rattle.egl_calls.specs.declared.kinds.Kind.{Kind}
use Rattle.egl_calls.specs.declared.kinds.Kind.TheVariants.{Egl as EglCall, Gl as GlCall, Own as OwnCall}
use Rattle.egl_calls.specs.declared.places.TheConstants.{CONFIG}
use Rattle.egl_model.specs.State.{State}
use Rattle.egl_model.specs.Step.{Stepped}
use Rattle.egl_model.specs.Windows.{front_of}
use Rattle.log_reader.specs.Forms.{needs_no_answer}
use Rattle.log_reader.specs.Logs.{LogValue}
use Rattle.log_reader.specs.declared.answers.Answer.{Answer}
use Rattle.log_reader.specs.declared.items.Called.{Called}
use Rattle.log_reader.specs.declared.items.Item.{Item}
use Rattle.log_reader.specs.declared.items.Item.TheVariants.{Call, Front}
use Rattle.log_reader.specs.declared.items.Shown.{Shown}
use Rattle.log_reader.specs.declared.outcomes.LogOutcome.{LogOutcome}
use Rattle.log_reader.specs.declared.outcomes.LogOutcome.TheVariants.{Done, Egl, Gl, Unnamed}
use Rattle.pixel_formats.specs.declared.formats.Format.{Format}
use Rattle.pixel_rows.specs.Images.{ImageValue}
use Rattle.trace_model.specs.Resolve.{resolved_by}
use Rattle.trace_reader.specs.declared.traces.Line.{Line}
use Rattle.driver_judge.specs.Answers.{StandsValue, answer_difference, as_pixels, basis_of, bytes_beside, grid_for, list_difference, stands_behind, thread_group, value_difference}
use Rattle.driver_judge.specs.Configs.{ConfigsValue, configs_of, our_config, our_list}
use Rattle.driver_judge.specs.Fences.{step_beside}
use Rattle.driver_judge.specs.Fronts.{front_bytes, shown_format}
use Rattle.driver_judge.specs.Judgements.{Progress, TallyValue, begun, is_agreed, is_own, judge_next, judged, judgement, noted, opened, with_verdict}
use Rattle.driver_judge.specs.Calls.{lists_configs, sets_current}
use Rattle.driver_judge.specs.Judging.{Beside, Found, KeptValue, Setting, adrift_at, agreed_outcome, agreeing, answered, answered_behind, carried_out, carried_out_as, carried_out_by, fault_of, formats_behind, found, front_by, front_difference, judge_call, judge_front, judge_item, kept_behind, makes, named, number_of, played, set_adrift, unless_at_fault, verdict_by, with_call, with_variable}
use Rattle.driver_judge.specs.Laws.{Allows, AreAmong, AreFewer, IsMilder, LogAllows, MoreAllowMore}
use Rattle.driver_judge.specs.Maps.{Both}
use Rattle.driver_judge.specs.Outcomes.{agrees, outcomes}
use Rattle.driver_judge.specs.Pixels.{cell, cell_steps, counted, counted_row, front_grid, no_grid, pixel_difference, with_cell}
use Rattle.driver_judge.specs.Sorts.{answers, sort_by, sort_of}
use Rattle.driver_judge.specs.UsedNames.{uses_renamed}
use Rattle.driver_judge.specs.Variables.{VariableValue, in_our_configs, is_foreign, lost, named_config, names_config, our_call, stands_for, with_config, with_list}
use Rattle.driver_judge.specs.declared.bases.Basis.{Basis}
use Rattle.driver_judge.specs.declared.configs.ConfigPair.{ConfigPair}
use Rattle.driver_judge.specs.declared.differences.Difference.{Difference}
use Rattle.driver_judge.specs.declared.differences.Difference.TheVariants.{Length, Pixels}
use Rattle.driver_judge.specs.declared.differences.PixelDifference.{PixelDifference}
use Rattle.driver_judge.specs.declared.judgements.LineVerdict.{LineVerdict}
use Rattle.driver_judge.specs.declared.judgements.LineVerdict.TheVariants.{Agreed, Differs}
use Rattle.driver_judge.specs.declared.judgements.Note.{Note}
use Rattle.driver_judge.specs.declared.pixels.Grid.{Grid}
use Rattle.driver_judge.specs.declared.sorts.Sort.{Sort}
use Rattle.driver_judge.specs.declared.sorts.Sort.TheVariants.{Equal, PixelBytes}

true_false : true ≡ false → ⊥
true_false e = cc

-- ---- Pixels. By a larger step no more of them differ, and no more than their number can tell.
abbrev pub most : ℕ
most = 18446744073709551615

abbrev pub HasFewer : Option PixelDifference → Option PixelDifference → Type 0
HasFewer None p = Unit {0}
HasFewer (Some d) None = ⊥
HasFewer (Some d) (Some e) = (d.count ≤ e.count) × (d.count ≤ most)

fits : (steps delta more : ℕ) → delta ≤ more → nat_le steps delta ≡ true → nat_le steps more ≡ true
fits steps delta more m e = grind (arith, nat_tests)

-- one more that differs by the smaller step alone, and by both
one_by_less : (g : Grid) (x y steps : ℕ) (a b : List ℕ) (o p : Option PixelDifference) → HasFewer o p → HasFewer o (Some (with_cell g x y steps a b p))
one_by_less g x y steps a b None p h = tt
one_by_less g x y steps a b (Some d) None h = absurd h
one_by_less g x y steps a b (Some d) (Some e) h = (omega (arith, h.0, h.1), h.1)

one_by_both : (g : Grid) (x y steps : ℕ) (a b : List ℕ) (o p : Option PixelDifference) → HasFewer o p → HasFewer (Some (with_cell g x y steps a b o)) (Some (with_cell g x y steps a b p))
one_by_both g x y steps a b None None h = (omega arith, omega arith)
one_by_both g x y steps a b None (Some e) h = (omega arith, omega arith)
one_by_both g x y steps a b (Some d) None h = absurd h
one_by_both g x y steps a b (Some d) (Some e) h = (omega (arith, h.0, h.1), omega arith)

fewer_by : (delta more : ℕ) (g : Grid) (x y steps : ℕ) (a b : List ℕ) (o p : Option PixelDifference) (t u : Bool) → delta ≤ more → nat_le steps more ≡ t → nat_le steps delta ≡ u → HasFewer o p → HasFewer (if t then o else Some (with_cell g x y steps a b o)) (if u then p else Some (with_cell g x y steps a b p))
fewer_by delta more g x y steps a b o p true true m e f h = h
fewer_by delta more g x y steps a b o p true false m e f h = one_by_less g x y steps a b o p h
fewer_by delta more g x y steps a b o p false true m e f h = absurd (true_false (sym (fits steps delta more m f) ∙ e))
fewer_by delta more g x y steps a b o p false false m e f h = one_by_both g x y steps a b o p h

fewer_next : (delta more : ℕ) (g : Grid) (ours theirs : List ℕ) (y : ℕ) (o p : Option PixelDifference) (x : ℕ) → delta ≤ more → HasFewer o p → HasFewer (counted more g ours theirs y o x) (counted delta g ours theirs y p x)
unfolding counted
fewer_next delta more g ours theirs y o p x m h =
    let steps = cell_steps g x (cell g ours x y) (cell g theirs x y) in
    fewer_by delta more g x y steps (cell g ours x y) (cell g theirs x y) o p (nat_le steps more) (nat_le steps delta) m refl refl h

fewer_in : (delta more : ℕ) (g : Grid) (ours theirs : List ℕ) (y : ℕ) (o p : Option PixelDifference) (xs : List ℕ) → delta ≤ more → HasFewer o p → HasFewer (fold (counted more g ours theirs y) o xs) (fold (counted delta g ours theirs y) p xs)
fewer_in delta more g ours theirs y o p [] m h = h
fewer_in delta more g ours theirs y o p (x ∷ xs) m h = fewer_in delta more g ours theirs y (counted more g ours theirs y o x) (counted delta g ours theirs y p x) xs m (fewer_next delta more g ours theirs y o p x m h)

fewer_in_row : (delta more : ℕ) (g : Grid) (ours theirs : List ℕ) (o p : Option PixelDifference) (y : ℕ) → delta ≤ more → HasFewer o p → HasFewer (counted_row more g ours theirs o y) (counted_row delta g ours theirs p y)
unfolding counted_row
fewer_in_row delta more g ours theirs o p y m h = fewer_in delta more g ours theirs y o p (range_with_len 0 (g.columns + 1)) m h

fewer_in_rows : (delta more : ℕ) (g : Grid) (ours theirs : List ℕ) (o p : Option PixelDifference) (ys : List ℕ) → delta ≤ more → HasFewer o p → HasFewer (fold (counted_row more g ours theirs) o ys) (fold (counted_row delta g ours theirs) p ys)
fewer_in_rows delta more g ours theirs o p [] m h = h
fewer_in_rows delta more g ours theirs o p (y ∷ ys) m h = fewer_in_rows delta more g ours theirs (counted_row more g ours theirs o y) (counted_row delta g ours theirs p y) ys m (fewer_in_row delta more g ours theirs o p y m h)

fewer_pixels : (delta more : ℕ) (g : Grid) (ours theirs : List ℕ) → delta ≤ more → HasFewer (pixel_difference more g ours theirs) (pixel_difference delta g ours theirs)
unfolding pixel_difference
fewer_pixels delta more g ours theirs m = fewer_in_rows delta more g ours theirs None None (range_with_len 0 g.rows) m tt

-- ---- Answers. What differs by the larger step is what differs by the smaller one, unless that is pixels.
abbrev pub AreFewerOf : Option Difference → PixelDifference → Type 0
AreFewerOf o q = (o ≡ None) ⊎ ((p : PixelDifference) × (o ≡ Some (Pixels p)) × (p.count ≤ q.count))

abbrev pub IsLess : Option Difference → Option Difference → Type 0
IsLess o p = (o ≡ p) ⊎ ((q : PixelDifference) × (p ≡ Some (Pixels q)) × AreFewerOf o q)

less_pixels : (o p : Option PixelDifference) → HasFewer o p → IsLess (as_pixels o) (as_pixels p)
less_pixels None None h = inl refl
less_pixels None (Some q) h = inr (q, refl, inl refl)
less_pixels (Some p) None h = absurd h
less_pixels (Some p) (Some q) h = inr (q, refl, inr (p, refl, h.0))

as_long : (delta more : ℕ) (g : Grid) (ours theirs : List ℕ) (d : Difference) (t : Bool) → delta ≤ more → IsLess (if t then as_pixels (pixel_difference more g ours theirs) else Some d) (if t then as_pixels (pixel_difference delta g ours theirs) else Some d)
as_long delta more g ours theirs d true m = less_pixels (pixel_difference more g ours theirs) (pixel_difference delta g ours theirs) (fewer_pixels delta more g ours theirs m)
as_long delta more g ours theirs d false m = inl refl

less_bytes : (delta more : ℕ) (g : Grid) (ours theirs : List ℕ) → delta ≤ more → IsLess (bytes_beside more g ours theirs) (bytes_beside delta g ours theirs)
unfolding bytes_beside
less_bytes delta more g ours theirs m = as_long delta more g ours theirs (Length (length ours) (length theirs)) (length ours == length theirs) m

less_behind : (o p q : Option Difference) → IsLess p q → IsLess (option_or o p) (option_or o q)
less_behind None p q h = h
less_behind (Some d) p q h = inl refl

less_answers : (pairs : List ConfigPair) (delta more : ℕ) (m : StandsValue) (a : Basis) (ours : ReplyValue) (theirs : Answer) → delta ≤ more → IsLess (answer_difference pairs more m a ours theirs) (answer_difference pairs delta m a ours theirs)
unfolding answer_difference
less_answers pairs delta more m a ours theirs l =
    less_behind (value_difference pairs m a a.sort ours.value theirs.value) _ _
    (less_behind (list_difference pairs m a a.sort ours.list theirs.list) _ _ (less_bytes delta more a.grid ours.bytes theirs.bytes l))

-- where no pixels are read the step plays no part
nothing_counted : (delta : ℕ) (ours theirs : List ℕ) → pixel_difference delta no_grid ours theirs ≡ None
unfolding pixel_difference
nothing_counted delta ours theirs = refl

same_nothing : (delta more : ℕ) (ours theirs : List ℕ) → bytes_beside more no_grid ours theirs ≡ bytes_beside delta no_grid ours theirs
unfolding bytes_beside
same_nothing delta more ours theirs = ap (λ (o : Option PixelDifference). if length ours == length theirs then as_pixels o else Some (Length (length ours) (length theirs))) (nothing_counted more ours theirs ∙ sym (nothing_counted delta ours theirs))

same_bytes : (delta more : ℕ) (g : Grid) (ours theirs : List ℕ) → g ≡ no_grid → bytes_beside more g ours theirs ≡ bytes_beside delta g ours theirs
same_bytes delta more g ours theirs e = ap (λ h. bytes_beside more h ours theirs) e ∙ same_nothing delta more ours theirs ∙ sym (ap (λ h. bytes_beside delta h ours theirs) e)

same_answers : (pairs : List ConfigPair) (delta more : ℕ) (m : StandsValue) (a : Basis) (ours : ReplyValue) (theirs : Answer) → a.grid ≡ no_grid → answer_difference pairs more m a ours theirs ≡ answer_difference pairs delta m a ours theirs
unfolding answer_difference
same_answers pairs delta more m a ours theirs e =
    ap (λ b. option_or (value_difference pairs m a a.sort ours.value theirs.value) (option_or (list_difference pairs m a a.sort ours.list theirs.list) b)) (same_bytes delta more a.grid ours.bytes theirs.bytes e)

-- ---- Verdicts.
fewer_verdict : (sort : Sort) → agreeing sort ≡ Agreed → (o : Option Difference) (q : PixelDifference) → AreFewerOf o q → AreFewer (verdict_by sort o) q
fewer_verdict sort g o q (inl e) = inl (ap (verdict_by sort) e ∙ g)
fewer_verdict sort g o q (inr h) = inr (h.0, ap (verdict_by sort) h.1, h.2)

milder : (sort : Sort) → agreeing sort ≡ Agreed → (o p : Option Difference) → IsLess o p → IsMilder (verdict_by sort o) (verdict_by sort p)
milder sort g o p (inl e) = inl (ap (verdict_by sort) e)
milder sort g o p (inr h) = inr (h.0, ap (verdict_by sort) h.1, fewer_verdict sort g o h.0 h.2)

-- ---- Lines.
itself : (f : Found) → Allows f f
itself f = record { milder = inl refl; same = refl }

by_equal : (F : Option Difference → Found) (o p : Option Difference) → p ≡ o → Allows (F o) (F p)
by_equal F o p e = record { milder = inl (ap (λ d. (F d).verdict) e); same = ap (λ d. (F d).after) e }

abbrev pub set_of : ConfigsValue → ℕ → Setting
set_of configs delta = record { configs = configs; delta = delta }

-- a call that makes nothing and sets no context leaves the same, however its answer differs
leaves_by : (configs : ConfigsValue) (l : Line) (c : CallValue) (sort : Sort) (ours : ReplyValue) (theirs : Answer) (b : Bool) (k : KeptValue) → makes sort ≡ false → sets_current l.call.kind ≡ false → answered_behind configs l c sort ours theirs b k ≡ record (with_variable l (answered configs sort ours theirs) k) { formats = formats_behind c k.formats }
leaves_by configs l c sort ours theirs true k m h = ap (λ (b : Bool). record (with_variable l (if b then lost l.number else answered configs sort ours theirs) k) { formats = formats_behind c k.formats }) m
leaves_by configs l c sort ours theirs false k m h =
    let kept : KeptValue = record (with_variable l (answered configs sort ours theirs) k) { formats = formats_behind c k.formats } in
    ap (λ (b : Bool). if b then set_adrift l.thread None kept else kept) h

abbrev pub IsPixels : Line → Basis → Type 0
IsPixels l a = (a.sort ≡ PixelBytes) × (sets_current l.call.kind ≡ false)

pixels_leave : (configs : ConfigsValue) (l : Line) (c : CallValue) (a : Basis) (ours : ReplyValue) (theirs : Answer) (d e : Option Difference) (k : KeptValue) → IsPixels l a → kept_behind configs l c a ours theirs d k ≡ kept_behind configs l c a ours theirs e k
pixels_leave configs l c a ours theirs d e k h =
    let before : KeptValue = record k { stands = stands_behind k.stands a c ours theirs } in
    let m : makes a.sort ≡ false = ap makes h.0 in
    leaves_by configs l c a.sort ours theirs (is_some d) before m h.1 ∙ sym (leaves_by configs l c a.sort ours theirs (is_some e) before m h.1)

more_carried : (configs : ConfigsValue) (delta more : ℕ) (l : Line) (c : CallValue) (a : Basis) (r : Stepped) (theirs : Answer) (k : KeptValue) → delta ≤ more → (a.grid ≡ no_grid) ⊎ IsPixels l a → Allows (carried_out_as (set_of configs delta) l c a r theirs k) (carried_out_as (set_of configs more) l c a r theirs k)
more_carried configs delta more l c a r theirs k m (inl g) =
    by_equal (λ d. carried_out_by (set_of configs delta) l c a r theirs d k) (answer_difference configs.pairs delta k.stands a r.reply theirs) (answer_difference configs.pairs more k.stands a r.reply theirs)
    (same_answers configs.pairs delta more k.stands a r.reply theirs g)
more_carried configs delta more l c a r theirs k m (inr h) =
    let less = answer_difference configs.pairs delta k.stands a r.reply theirs in
    let greater = answer_difference configs.pairs more k.stands a r.reply theirs in
    record {
      milder = milder a.sort (ap agreeing h.0) greater less (less_answers configs.pairs delta more k.stands a r.reply theirs m);
      same = ap (λ (q : KeptValue). (found Agreed r.state q).after) (pixels_leave configs l c a r.reply theirs greater less k h);
    }

-- ---- Which calls read pixels.
no_pixels : Equal ≡ PixelBytes → ⊥
no_pixels e = cc

reads_no_current : (s : State) (t : ℕ) (c : CallValue) (k : EglKind) → sort_by s t c (egl_answers k) ≡ PixelBytes → sets_current (EglCall k) ≡ false
reads_no_current s t c MakeCurrent h = absurd (no_pixels h)
reads_no_current s t c ReleaseThread h = absurd (no_pixels h)
reads_no_current s t c k h = refl

reads_by : (s : State) (t : ℕ) (c : CallValue) (k : Kind) → sort_by s t c (answers k) ≡ PixelBytes → sets_current k ≡ false
reads_by s t c (EglCall k) h = reads_no_current s t c k h
reads_by s t c (GlCall k) h = refl
reads_by s t c (OwnCall k) h = refl

reads : (s : State) (t : ℕ) (c : CallValue) → sort_of s t c ≡ PixelBytes → sets_current c.kind ≡ false
unfolding sort_of
reads s t c h = reads_by s t c c.kind h

grid_by : (s : State) (t : ℕ) (l : Line) (c : CallValue) (sort : Sort) → c.kind ≡ l.call.kind → sort_of s t c ≡ sort → (grid_for s t (sort_of s t c) c ≡ no_grid) ⊎ ((sort_of s t c ≡ PixelBytes) × (sets_current l.call.kind ≡ false))
grid_by s t l c PixelBytes e h = inr (h, sym (ap sets_current e) ∙ reads s t c h)
grid_by s t l c sort e h = inl (ap (λ x. grid_for s t x c) h)

grid_is : (s : State) (m : Both) (l : Line) (c : CallValue) (z : ℤ) → c.kind ≡ l.call.kind → ((basis_of s m l.thread c z).grid ≡ no_grid) ⊎ IsPixels l (basis_of s m l.thread c z)
unfolding basis_of
grid_is s m l c z e = grid_by s l.thread l c (sort_of s l.thread c) e refl

-- ---- The call of a line is of the line's kind.
kind_by : (r c : CallValue) → Some r ≡ Some c → c.kind ≡ r.kind
kind_by r c e = sym (ap (λ (o : Option CallValue). (unwrap_or o r).kind) e)

kind_of_config : (r : CallValue) (o : Option ℤ) (c : CallValue) → with_config r o ≡ Some c → c.kind ≡ r.kind
kind_of_config r None c e = cc
kind_of_config r (Some id) c e = kind_by (record r { args = slice_set r.args CONFIG id }) c e

kind_of_list : (r : CallValue) (o : Option (List ℤ)) (c : CallValue) → with_list r o ≡ Some c → c.kind ≡ r.kind
kind_of_list r None c e = cc
kind_of_list r (Some list) c e = kind_by (record r { list = list }) c e

kind_of_choice : (pairs : List ConfigPair) (r c : CallValue) (b : Bool) → (if b then with_list r (our_list pairs r.list) else Some r) ≡ Some c → c.kind ≡ r.kind
kind_of_choice pairs r c true e = kind_of_list r (our_list pairs r.list) c e
kind_of_choice pairs r c false e = kind_by r c e

kind_of_named : (pairs : List ConfigPair) (l : Line) (r c : CallValue) (b : Bool) → (if b then with_config r (our_config pairs (named_config r)) else if lists_configs l.call.kind then with_list r (our_list pairs r.list) else Some r) ≡ Some c → c.kind ≡ r.kind
kind_of_named pairs l r c true e = kind_of_config r (our_config pairs (named_config r)) c e
kind_of_named pairs l r c false e = kind_of_choice pairs r c (lists_configs l.call.kind) e

kind_in_ours : (named : Bool) (pairs : List ConfigPair) (l : Line) (r c : CallValue) → in_our_configs named pairs l r ≡ Some c → c.kind ≡ r.kind
kind_in_ours true pairs l r c e = kind_of_named pairs l r c (names_config l) e
kind_in_ours false pairs l r c e = kind_by r c e

kind_unless : (b : Bool) (named : Bool) (pairs : List ConfigPair) (l : Line) (r c : CallValue) → (if b then None else in_our_configs named pairs l r) ≡ Some c → c.kind ≡ r.kind
kind_unless true named pairs l r c e = cc
kind_unless false named pairs l r c e = kind_in_ours named pairs l r c e

kind_of_line : (named : Bool) (pairs : List ConfigPair) (vs : List VariableValue) (l : Line) (c : CallValue) → our_call named pairs vs l ≡ Some c → c.kind ≡ l.call.kind
unfolding our_call
kind_of_line named pairs vs l c e = kind_unless (list_any (is_foreign vs) l.uses) named pairs l (resolved_by (stands_for vs) l) c e

more_done : (configs : ConfigsValue) (delta more : ℕ) (l : Line) (c : CallValue) (theirs : Answer) (s : State) (k : KeptValue) → c.kind ≡ l.call.kind → delta ≤ more → Allows (carried_out (set_of configs delta) l c theirs s k) (carried_out (set_of configs more) l c theirs s k)
unfolding carried_out
more_done configs delta more l c theirs s k e m = more_carried configs delta more l c (basis_of s k.stands.handles l.thread c theirs.value) (step_beside s l.thread c theirs) theirs k m (grid_is s k.stands.handles l c theirs.value e)

more_agreed : (configs : ConfigsValue) (delta more : ℕ) (l : Line) (c : CallValue) (theirs : Answer) (o : LogOutcome) (s : State) (k : KeptValue) → c.kind ≡ l.call.kind → delta ≤ more → Allows (agreed_outcome (set_of configs delta) l c theirs o s k) (agreed_outcome (set_of configs more) l c theirs o s k)
more_agreed configs delta more l c theirs Done s k e m = more_done configs delta more l c theirs s k e m
more_agreed configs delta more l c theirs (Egl x) s k e m = itself _
more_agreed configs delta more l c theirs (Gl x) s k e m = itself _
more_agreed configs delta more l c theirs (Unnamed z) s k e m = itself _

-- one of two, of which the first is the same by either
if_allows : (b : Bool) (f g h : Found) → Allows g h → Allows (if b then f else g) (if b then f else h)
if_allows true f g h a = itself f
if_allows false f g h a = a

then_allows : (b : Bool) (f g h : Found) → Allows f g → Allows (if b then f else h) (if b then g else h)
then_allows true f g h a = a
then_allows false f g h a = itself h

more_played : (configs : ConfigsValue) (delta more : ℕ) (l : Line) (c : CallValue) (theirs : Answer) (s : State) (k : KeptValue) → c.kind ≡ l.call.kind → delta ≤ more → Allows (played (set_of configs delta) l c theirs s k) (played (set_of configs more) l c theirs s k)
unfolding played
more_played configs delta more l c theirs s k e m = then_allows (agrees (outcomes s l.thread c) theirs.outcome) _ _ _ (more_agreed configs delta more l c theirs theirs.outcome s k e m)

more_named : (configs : ConfigsValue) (delta more : ℕ) (l : Line) (theirs : Answer) (c : CallValue) (s : State) (k : KeptValue) → c.kind ≡ l.call.kind → delta ≤ more → Allows (named (set_of configs delta) l theirs c s k) (named (set_of configs more) l theirs c s k)
unfolding named
more_named configs delta more l theirs c s k e m = if_allows (uses_renamed k.stands.renamed k.stands.names (thread_group s l.thread) l) _ _ _ (more_played configs delta more l c theirs s k e m)

more_call : (configs : ConfigsValue) (delta more : ℕ) (l : Line) (theirs : Answer) (o : Option CallValue) (s : State) (k : KeptValue) → our_call configs.named configs.pairs k.variables l ≡ o → delta ≤ more → Allows (with_call (set_of configs delta) l theirs o s k) (with_call (set_of configs more) l theirs o s k)
more_call configs delta more l theirs None s k e m = itself _
more_call configs delta more l theirs (Some c) s k e m = more_named configs delta more l theirs c s k (kind_of_line configs.named configs.pairs k.variables l c e) m

more_lines : (configs : ConfigsValue) (delta more : ℕ) (l : Line) (theirs : Answer) (fault : Option ℕ) (s : State) (k : KeptValue) → delta ≤ more → Allows (unless_at_fault (set_of configs delta) l theirs fault s k) (unless_at_fault (set_of configs more) l theirs fault s k)
more_lines configs delta more l theirs (Some line) s k m = itself _
more_lines configs delta more l theirs None s k m = more_call configs delta more l theirs (our_call configs.named configs.pairs k.variables l) s k refl m

more_calls : (configs : ConfigsValue) (delta more : ℕ) (x : Called) (s : State) (k : KeptValue) → delta ≤ more → Allows (judge_call (set_of configs delta) x s k) (judge_call (set_of configs more) x s k)
unfolding judge_call
more_calls configs delta more x s k m = if_allows (needs_no_answer x.line.call.kind) _ _ _ (more_lines configs delta more x.line x.answer (fault_of k x.line) s k m)

less_shown : (delta more : ℕ) (f : Format) (theirs : List ℕ) (o : Option ImageValue) → delta ≤ more → IsLess (front_difference more f theirs o) (front_difference delta f theirs o)
unfolding front_difference
less_shown delta more f theirs None m = inl refl
less_shown delta more f theirs (Some i) m = less_bytes delta more (front_grid i.width i.height f) (front_bytes i) theirs m

more_front : (configs : ConfigsValue) (delta more : ℕ) (x : Shown) (fault : Option ℕ) (s : State) (k : KeptValue) → delta ≤ more → Allows (front_by (set_of configs delta) x fault s k) (front_by (set_of configs more) x fault s k)
more_front configs delta more x (Some line) s k m = itself _
more_front configs delta more x None s k m = record {
  milder = milder Equal refl _ _ (less_shown delta more (shown_format x.window k.formats) x.bytes (front_of (unsigned x.window) s) m);
  same = refl;
}

more_fronts : (configs : ConfigsValue) (delta more : ℕ) (x : Shown) (s : State) (k : KeptValue) → delta ≤ more → Allows (judge_front (set_of configs delta) x s k) (judge_front (set_of configs more) x s k)
unfolding judge_front
more_fronts configs delta more x s k m = more_front configs delta more x (adrift_at k x.thread) s k m

pub more_allow_more : (configs : ConfigsValue) (delta more : ℕ) (s : State) (k : KeptValue) (item : Item) → delta ≤ more → MoreAllowMore (set_of configs delta) (set_of configs more) s k item
unfolding judge_item
more_allow_more configs delta more s k (Call x) m = more_calls configs delta more x s k m
more_allow_more configs delta more s k (Front x) m = more_fronts configs delta more x s k m

-- ---- All lines. What is noted by the larger step is noted by the smaller one too.
among_self : (ns : List Note) → AreAmong ns ns
among_self [] = tt
among_self (n ∷ ns) = inl ((refl, inl refl), among_self ns)

among_one_more : (ns : List Note) (m : Note) (ms : List Note) → AreAmong ns ms → AreAmong ns (m ∷ ms)
among_one_more [] m ms h = tt
among_one_more (n ∷ ns) m ms h = inr h

among_both : (ns ms os ps : List Note) → AreAmong ns ms → AreAmong os ps → AreAmong (ns ++ os) (ms ++ ps)
among_both [] [] os ps h g = g
among_both [] (m ∷ ms) os ps h g = among_one_more os m (ms ++ ps) (among_both [] ms os ps tt g)
among_both (n ∷ ns) [] os ps h g = absurd h
among_both (n ∷ ns) (m ∷ ms) os ps (inl h) g = inl (h.0, among_both ns ms os ps h.1 g)
among_both (n ∷ ns) (m ∷ ms) os ps (inr h) g = inr (among_both (n ∷ ns) ms os ps h g)

fewer_noted : (line : ℕ) (v : LineVerdict) (q : PixelDifference) → AreFewer v q → AreAmong (noted line v) (noted line (Differs (Pixels q)))
fewer_noted line v q (inl e) = subst (λ x. AreAmong (noted line x) (noted line (Differs (Pixels q)))) (sym e) tt
fewer_noted line v q (inr h) = subst (λ x. AreAmong (noted line x) (noted line (Differs (Pixels q)))) (sym h.1) (inl ((refl, inr (q, refl, inr (h.0, refl, h.2))), tt))

milder_noted : (line : ℕ) (v w : LineVerdict) → IsMilder v w → AreAmong (noted line v) (noted line w)
milder_noted line v w (inl e) = subst (λ x. AreAmong (noted line v) (noted line x)) e (among_self (noted line v))
milder_noted line v w (inr h) = subst (λ x. AreAmong (noted line v) (noted line x)) (sym h.1) (fewer_noted line v h.0 h.2)

milder_agreed : (v w : LineVerdict) → IsMilder v w → is_agreed w ≤ is_agreed v
milder_agreed v w (inl e) = let same = ap is_agreed e in omega (arith, same)
milder_agreed v w (inr h) = let none = ap is_agreed h.1 in omega (arith, none)

fewer_own : (v : LineVerdict) (q : PixelDifference) → AreFewer v q → is_own v ≡ 0
fewer_own v q (inl e) = ap is_own e
fewer_own v q (inr h) = ap is_own h.1

milder_own : (v w : LineVerdict) → IsMilder v w → is_own v ≡ is_own w
milder_own v w (inl e) = ap is_own e
milder_own v w (inr h) = fewer_own v h.0 h.2 ∙ sym (ap is_own h.1)

record Allowed (t u : TallyValue) : Type 0 where
  notes : AreAmong u.notes t.notes
  agreed : t.agreed ≤ u.agreed
  own : u.own ≡ t.own

allowed_next : (line : ℕ) (f g : Found) (t u : TallyValue) → Allows f g → Allowed t u → Allowed (with_verdict line f.verdict t) (with_verdict line g.verdict u)
allowed_next line f g t u a h = record {
  notes = among_both u.notes t.notes (noted line g.verdict) (noted line f.verdict) h.notes (milder_noted line g.verdict f.verdict a.milder);
  agreed = let one = milder_agreed g.verdict f.verdict a.milder in omega (arith, one, h.agreed);
  own = let one = milder_own g.verdict f.verdict a.milder in omega (arith, one, h.own);
}

abbrev at_line : Beside → TallyValue → Progress
at_line b t = record { beside = b; tally = t }

all_allowed : (configs : ConfigsValue) (delta more : ℕ) (b : Beside) (t u : TallyValue) (items : List Item) → delta ≤ more → Allowed t u → Allowed (fold (judge_next (set_of configs delta)) (at_line b t) items).tally (fold (judge_next (set_of configs more)) (at_line b u) items).tally
unfolding judge_next
all_allowed configs delta more b t u [] m h = h
all_allowed configs delta more b t u (item ∷ items) m h =
    let f = judge_item (set_of configs delta) item b.state b.kept in
    let g = judge_item (set_of configs more) item b.state b.kept in
    let a : Allows f g = more_allow_more configs delta more b.state b.kept item m in
    let line = number_of item in
    let next = all_allowed configs delta more f.after (with_verdict line f.verdict t) (with_verdict line g.verdict u) items m (allowed_next line f g t u a h) in
    subst (λ (x : Beside). Allowed (fold (judge_next (set_of configs delta)) (at_line f.after (with_verdict line f.verdict t)) items).tally (fold (judge_next (set_of configs more)) (at_line x (with_verdict line g.verdict u)) items).tally) (sym a.same) next

pub log_allows : (l : LogValue) (delta more : ℕ) → delta ≤ more → LogAllows (judgement l delta) (judgement l more)
unfolding judgement judged
log_allows l delta more m =
    let all = all_allowed (configs_of l.configs) delta more (opened l) (begun l).tally (begun l).tally l.items m (record { notes = tt; agreed = omega arith; own = refl }) in
    record { notes = all.notes; agreed = all.agreed; own = all.own }
