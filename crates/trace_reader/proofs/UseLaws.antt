-- References have their places in the calls of their lines.
use Rattle.std.proofs.Common.{◌≡◌, ℕ, ◌+◌, ◌<◌, ◌≤◌, Bool, true, false, not, ◌||◌, ◌&&◌, ℤ, List, [], ◌∷◌, ◌++◌, length, drop, get_or, append_assoc, refl, sym, ap, ◌∙◌, subst, arith, Option, None, Some, All}
use Rattle.std.proofs.lemmas.Bool.{false≢true}
use Rattle.std.proofs.lemmas.List.{append-nil, at_drop_more, at_drop_all}
use Rattle.std.proofs.lemmas.List.Elements.{All-nil, All-cons, All-append}
use Rattle.std.specs.Prelude.{if◌then◌else◌}
use Rattle.std.specs.List.{list_any, list_all}
use Rattle.std.specs.Option.{option_map}
use Rattle.egl_calls.proofs.Truths.{neither_first, neither_second, and_first, and_second, and_true}
use Rattle.egl_calls.specs.Calls.{CallValue}
use Rattle.egl_calls.specs.declared.kinds.Kind.{Kind}
use Rattle.call_table.specs.declared.forms.Form.{Form}
use Rattle.call_table.specs.declared.forms.Form.TheVariants.{Number, Config, NumberOrVariable, PostNumber, Timeout, AttributeList, NumberList, NameList, Payload}
use Rattle.trace_reader.specs.declared.arguments.Argument.{Argument}
use Rattle.trace_reader.specs.declared.arguments.Argument.TheVariants.{Value, Listed, Given}
use Rattle.trace_reader.specs.declared.references.Used.{Used}
use Rattle.trace_reader.specs.declared.traces.Reference.{Reference}
use Rattle.trace_reader.specs.NumberWords.{argument_number, post_number, timeout_number}
use Rattle.trace_reader.specs.Lists.{is_bracketed, inside, items, with_item, item_number, item_numbers, list_items, number_list}
use Rattle.trace_reader.specs.References.{is_reference, used_in}
use Rattle.trace_reader.specs.Payloads.{payload}
use Rattle.trace_reader.specs.Arguments.{argument_of, with_argument, arguments_of, list_behind, call_with, call_of, is_known, reference_to, reference_at, item_references, argument_references, references, place_behind, are_placed, is_list, have_one_list}
use Rattle.trace_reader.specs.Order.{LeadsToOne, places, IsReferenceTo}
use Rattle.trace_reader.proofs.ArgumentLaws.{place_within, next_placed, list_more}

abbrev HasItsPlace : ℕ → Reference → Type 0
HasItsPlace listed r = r.place < places r.in_list listed

-- ---- The references of one argument.
to_one : (in_list : Bool) (place listed : ℕ) (o : Option Used) → place < places in_list listed → All (HasItsPlace listed) (reference_to in_list place o)
to_one in_list place listed None h = All-nil (HasItsPlace listed)
to_one in_list place listed (Some u) h = All-cons (HasItsPlace listed) (record { in_list = in_list; place = place; variable = u.variable; item = u.item }) [] h (All-nil (HasItsPlace listed))

at_one_by : (b in_list : Bool) (place listed : ℕ) (o : Option Used) → place < places in_list listed → All (HasItsPlace listed) (if b then reference_to in_list place o else [])
at_one_by true in_list place listed o h = to_one in_list place listed o h
at_one_by false in_list place listed o h = All-nil (HasItsPlace listed)

at_one : (names : List (List ℕ)) (in_list : Bool) (place listed : ℕ) (w : List ℕ) → place < places in_list listed → All (HasItsPlace listed) (reference_at names in_list place w)
at_one names in_list place listed w h = at_one_by (is_reference w) in_list place listed (used_in names w) h

in_items : (names : List (List ℕ)) (place listed : ℕ) (ws : List (List ℕ)) → place + length ws ≤ listed → All (HasItsPlace listed) (item_references names place ws)
in_items names place listed [] h = All-nil (HasItsPlace listed)
in_items names place listed (w ∷ ws) h =
    All-append (HasItsPlace listed) (reference_at names true place w) (item_references names (place + 1) ws) (at_one names true place listed w (omega (arith, h))) (in_items names (place + 1) listed ws (omega (arith, h)))

of_argument : (names : List (List ℕ)) (place listed : ℕ) (f : Form) (w : List ℕ) → place_behind place f ≤ 8 → is_list f ≡ false → All (HasItsPlace listed) (argument_references names place f w)
of_argument names place listed Number w h n = All-nil (HasItsPlace listed)
of_argument names place listed Config w h n = All-nil (HasItsPlace listed)
of_argument names place listed NumberOrVariable w h n = at_one names false place listed w (omega (arith, h))
of_argument names place listed PostNumber w h n = All-nil (HasItsPlace listed)
of_argument names place listed Timeout w h n = All-nil (HasItsPlace listed)
of_argument names place listed AttributeList w h n = absurd (false≢true (sym n))
of_argument names place listed NumberList w h n = absurd (false≢true (sym n))
of_argument names place listed NameList w h n = absurd (false≢true (sym n))
of_argument names place listed Payload w h n = All-nil (HasItsPlace listed)

-- ---- Arguments without a list.
listless : (kind : Kind) (names : List (List ℕ)) (place listed : ℕ) (fs : List Form) (ws : List (List ℕ)) → are_placed kind place fs ≡ true → list_any is_list fs ≡ false → All (HasItsPlace listed) (references names place fs ws)
listless kind names place listed [] ws p n = All-nil (HasItsPlace listed)
listless kind names place listed (f ∷ fs) [] p n = All-nil (HasItsPlace listed)
listless kind names place listed (f ∷ fs) (w ∷ ws) p n =
    All-append (HasItsPlace listed) (argument_references names place f w) (references names (place_behind place f) fs ws)
    (of_argument names place listed f w (place_within kind place f fs p) (neither_first (is_list f) (list_any is_list fs) n))
    (listless kind names (place_behind place f) listed fs ws (next_placed kind place (place_behind place f) f fs p refl) (neither_second (is_list f) (list_any is_list fs) n))

-- the first of some arguments and the others
record Parted (f : Form) (w : List ℕ) (fs : List Form) (ws : List (List ℕ)) (given : List Argument) : Type 0 where
  one : Argument
  more : List Argument
  first : argument_of f w ≡ Some one
  others : arguments_of fs ws ≡ Some more
  joined : one ∷ more ≡ given

mapped_is : (a : Argument) (o : Option (List Argument)) (given : List Argument) → option_map (λ more. a ∷ more) o ≡ Some given → (more : List Argument) × ((o ≡ Some more) × (a ∷ more ≡ given))
mapped_is a None given h = absurd (let n : Option (List Argument) = None in let e : n ≡ Some given = h in cc)
mapped_is a (Some more) given h = (more, (refl, let e : Some (a ∷ more) ≡ Some given = h in cc))

parted_by : (f : Form) (w : List ℕ) (fs : List Form) (ws : List (List ℕ)) (given : List Argument) (o : Option Argument) → argument_of f w ≡ o → with_argument o (arguments_of fs ws) ≡ Some given → Parted f w fs ws given
parted_by f w fs ws given None e h = absurd (let n : Option (List Argument) = None in let g : n ≡ Some given = h in cc)
parted_by f w fs ws given (Some a) e h =
    let m = mapped_is a (arguments_of fs ws) given h in
    record { one = a; more = m.0; first = e; others = m.1.0; joined = m.1.1 }

parted : (f : Form) (w : List ℕ) (fs : List Form) (ws : List (List ℕ)) (given : List Argument) → arguments_of (f ∷ fs) (w ∷ ws) ≡ Some given → Parted f w fs ws given
parted f w fs ws given h = parted_by f w fs ws given (argument_of f w) refl h

-- an argument that is no list leaves the one so far
by_value : (o : Option ℤ) (a : Argument) (list : List ℤ) → option_map Value o ≡ Some a → list_behind list (a ∷ []) ≡ list
by_value None a list h = absurd (let n : Option Argument = None in let e : n ≡ Some a = h in cc)
by_value (Some z) a list h = let e : Value z ≡ a = cc in ap (λ (x : Argument). list_behind list (x ∷ [])) (sym e)

by_payload : (o : Option (Option (List ℕ))) (a : Argument) (list : List ℤ) → option_map Given o ≡ Some a → list_behind list (a ∷ []) ≡ list
by_payload None a list h = absurd (let n : Option Argument = None in let e : n ≡ Some a = h in cc)
by_payload (Some said) a list h = let e : Given said ≡ a = cc in ap (λ (x : Argument). list_behind list (x ∷ [])) (sym e)

no_list : (f : Form) (w : List ℕ) (a : Argument) (list : List ℤ) → argument_of f w ≡ Some a → is_list f ≡ false → list_behind list (a ∷ []) ≡ list
no_list Number w a list h n = by_value (argument_number w) a list h
no_list Config w a list h n = by_value (argument_number w) a list h
no_list NumberOrVariable w a list h n = by_value (item_number true w) a list h
no_list PostNumber w a list h n = by_value (post_number w) a list h
no_list Timeout w a list h n = by_value (timeout_number w) a list h
no_list AttributeList w a list h n = absurd (false≢true (sym n))
no_list NumberList w a list h n = absurd (false≢true (sym n))
no_list NameList w a list h n = absurd (false≢true (sym n))
no_list Payload w a list h n = by_payload (payload w) a list h

some_is : (x y : List Argument) → (let o : Option (List Argument) = Some x in o ≡ Some y) → x ≡ y
some_is x y h = cc

same_list : (fs : List Form) (ws : List (List ℕ)) (given : List Argument) (list : List ℤ) → arguments_of fs ws ≡ Some given → list_any is_list fs ≡ false → list_behind list given ≡ list
same_list [] [] given list h n = ap (list_behind list) (sym (some_is [] given h))
same_list [] (w ∷ ws) given list h n = absurd (let o : Option (List Argument) = None in let e : o ≡ Some given = h in cc)
same_list (f ∷ fs) [] given list h n = absurd (let o : Option (List Argument) = None in let e : o ≡ Some given = h in cc)
same_list (f ∷ fs) (w ∷ ws) given list h n =
    let p = parted f w fs ws given h in
    ap (list_behind list) (sym p.joined) ∙ list_more list p.one p.more
    ∙ ap (λ (zs : List ℤ). list_behind zs p.more) (no_list f w p.one list p.first (neither_first (is_list f) (list_any is_list fs) n))
    ∙ same_list fs ws p.more list p.others (neither_second (is_list f) (list_any is_list fs) n)

-- ---- The numbers of a list of names.
more_long : (o : Option ℤ) (rest : Option (List ℤ)) (n : ℕ) (zs : List ℤ) → ((ys : List ℤ) → rest ≡ Some ys → length ys ≡ n) → with_item o rest ≡ Some zs → length zs ≡ n + 1
more_long None rest n zs f h = absurd (let o : Option (List ℤ) = None in let e : o ≡ Some zs = h in cc)
more_long (Some z) None n zs f h = absurd (let o : Option (List ℤ) = None in let e : o ≡ Some zs = h in cc)
more_long (Some z) (Some ys) n zs f h = let e : z ∷ ys ≡ zs = (let g : Some (z ∷ ys) ≡ Some zs = h in cc) in ap length (sym e) ∙ (let l : length ys ≡ n = f ys refl in omega (arith, l))

long : (variables : Bool) (ws : List (List ℕ)) (zs : List ℤ) → item_numbers variables ws ≡ Some zs → length zs ≡ length ws
long variables [] zs h = let e : [] ≡ zs = (let y : List ℤ = [] in let g : Some y ≡ Some zs = h in cc) in ap length (sym e)
long variables (w ∷ ws) zs h = more_long (item_number variables w) (item_numbers variables ws) (length ws) zs (λ ys e. long variables ws ys e) h ∙ omega arith

listed_by : (b : Bool) (text : List ℕ) (zs : List ℤ) → (if b then item_numbers true (items text) else None) ≡ Some zs → length (if b then items text else []) ≡ length zs
listed_by true text zs h = sym (long true (items text) zs h)
listed_by false text zs h = absurd (let o : Option (List ℤ) = None in let e : o ≡ Some zs = h in cc)

list_long : (w : List ℕ) (zs : List ℤ) → number_list true w ≡ Some zs → length (list_items w) ≡ length zs
unfolding number_list
list_long w zs h = listed_by (is_bracketed w) (inside w) zs h

by_names : (w : List ℕ) (a : Argument) (list : List ℤ) (o : Option (List ℤ)) → number_list true w ≡ o → option_map Listed o ≡ Some a → length (list_items w) ≡ length (list_behind list (a ∷ []))
by_names w a list None e h = absurd (let n : Option Argument = None in let g : n ≡ Some a = h in cc)
by_names w a list (Some zs) e h = let g : Listed zs ≡ a = cc in list_long w zs e ∙ ap (λ (x : Argument). length (list_behind list (x ∷ []))) g

-- ---- All arguments.
alone : (b : Bool) → (not true || not b) ≡ true → b ≡ false
alone true h = absurd (false≢true h)
alone false h = refl

-- a list and no other behind it, or a number or a payload
of_form : (kind : Kind) (names : List (List ℕ)) (place : ℕ) (f : Form) (w : List ℕ) (fs : List Form) (ws : List (List ℕ)) (a : Argument) (more : List Argument) (list : List ℤ) → argument_of f w ≡ Some a → arguments_of fs ws ≡ Some more → place_behind place f ≤ 8 → (not (is_list f) || not (list_any is_list fs)) ≡ true →
    All (HasItsPlace (length (list_behind (list_behind list (a ∷ [])) more))) (argument_references names place f w)
of_form kind names place Number w fs ws a more list h g p o = of_argument names place _ Number w p refl
of_form kind names place Config w fs ws a more list h g p o = of_argument names place _ Config w p refl
of_form kind names place NumberOrVariable w fs ws a more list h g p o = of_argument names place _ NumberOrVariable w p refl
of_form kind names place PostNumber w fs ws a more list h g p o = of_argument names place _ PostNumber w p refl
of_form kind names place Timeout w fs ws a more list h g p o = of_argument names place _ Timeout w p refl
of_form kind names place AttributeList w fs ws a more list h g p o = All-nil (HasItsPlace _)
of_form kind names place NumberList w fs ws a more list h g p o = All-nil (HasItsPlace _)
of_form kind names place NameList w fs ws a more list h g p o =
    let one : length (list_items w) ≡ length (list_behind list (a ∷ [])) = by_names w a list (number_list true w) refl h in
    let last : list_behind (list_behind list (a ∷ [])) more ≡ list_behind list (a ∷ []) = same_list fs ws more (list_behind list (a ∷ [])) g (alone (list_any is_list fs) o) in
    let same : length (list_behind (list_behind list (a ∷ [])) more) ≡ length (list_behind list (a ∷ [])) = ap length last in
    in_items names 0 _ (list_items w) (omega (arith, one, same))
of_form kind names place Payload w fs ws a more list h g p o = of_argument names place _ Payload w p refl

of_arguments : (kind : Kind) (names : List (List ℕ)) (place : ℕ) (fs : List Form) (ws : List (List ℕ)) (given : List Argument) (list : List ℤ) → arguments_of fs ws ≡ Some given → are_placed kind place fs ≡ true → have_one_list fs ≡ true → All (HasItsPlace (length (list_behind list given))) (references names place fs ws)
of_arguments kind names place [] ws given list h p o = All-nil (HasItsPlace _)
of_arguments kind names place (f ∷ fs) [] given list h p o = All-nil (HasItsPlace _)
of_arguments kind names place (f ∷ fs) (w ∷ ws) given list h p o =
    let q = parted f w fs ws given h in
    let same : list_behind (list_behind list (q.one ∷ [])) q.more ≡ list_behind list given = sym (list_more list q.one q.more) ∙ ap (list_behind list) q.joined in
    let P : List ℤ → Type 0 = λ zs. All (HasItsPlace (length zs)) (argument_references names place f w ++ references names (place_behind place f) fs ws) in
    subst P same (All-append (HasItsPlace _) (argument_references names place f w) (references names (place_behind place f) fs ws)
    (of_form kind names place f w fs ws q.one q.more list q.first q.others (place_within kind place f fs p) (and_first (not (is_list f) || not (list_any is_list fs)) (have_one_list fs) o))
    (of_arguments kind names (place_behind place f) fs ws q.more (list_behind list (q.one ∷ [])) q.others (next_placed kind place (place_behind place f) f fs p refl) (and_second (not (is_list f) || not (list_any is_list fs)) (have_one_list fs) o)))

of_call : (kind : Kind) (names : List (List ℕ)) (fs : List Form) (ws : List (List ℕ)) (call : CallValue) (o : Option (List Argument)) → arguments_of fs ws ≡ o → Some call ≡ option_map (call_with kind) o → are_placed kind 0 fs ≡ true → have_one_list fs ≡ true → All (HasItsPlace (length call.list)) (references names 0 fs ws)
of_call kind names fs ws call None e h p o = absurd (let n : Option CallValue = None in let g : Some call ≡ n = h in cc)
of_call kind names fs ws call (Some given) e h p o =
    let same : call_with kind given ≡ call = (let g : Some call ≡ Some (call_with kind given) = h in cc) in
    let P : CallValue → Type 0 = λ c. All (HasItsPlace (length c.list)) (references names 0 fs ws) in
    subst P same (of_arguments kind names 0 fs ws given [] e p o)

-- the references of a line lead to places of its call
pub references_fit : (kind : Kind) (names : List (List ℕ)) (fs : List Form) (ws : List (List ℕ)) (call : CallValue) (uses : List Reference) → Some call ≡ call_of kind fs ws → are_placed kind 0 fs ≡ true → have_one_list fs ≡ true → uses ≡ references names 0 fs ws → All (LeadsToOne (length names)) uses → All (IsReferenceTo (length names) (length call.list)) uses
unfolding call_of
references_fit kind names fs ws call uses h p o e l =
    let P : List Reference → Type 0 = λ rs. All (HasItsPlace (length call.list)) rs in
    let a : All (HasItsPlace (length call.list)) uses = subst P (sym e) (of_call kind names fs ws call (arguments_of fs ws) refl h p o) in
    λ k d i. record { variable = (l k d i).variable; place = a k d i; item = (l k d i).item }

-- ---- The items of a list, one after another.
and_assoc : (a b c : Bool) → ((a && b) && c) ≡ (a && (b && c))
and_assoc true b c = refl
and_assoc false b c = refl

pub more_items : (names : List (List ℕ)) (uses uses' before : List Reference) (place n : ℕ) (ws : List (List ℕ)) (w : List ℕ) → (n < length ws) × (w ≡ get_or ws n w) → uses' ≡ uses ++ reference_at names true place w → uses ++ item_references names place (drop n ws) ≡ before → uses' ++ item_references names (place + 1) (drop (n + 1) ws) ≡ before
more_items names uses uses' before place n ws w h u e =
    ap (λ (rs : List Reference). rs ++ item_references names (place + 1) (drop (n + 1) ws)) u
    ∙ append_assoc uses (reference_at names true place w) (item_references names (place + 1) (drop (n + 1) ws))
    ∙ ap (λ (x : List ℕ). uses ++ (reference_at names true place x ++ item_references names (place + 1) (drop (n + 1) ws))) h.1
    ∙ sym (ap (λ (rs : List Reference). uses ++ rs) (at_drop_more (item_references names place) ws n w h.0))
    ∙ e

pub more_known : (names : List (List ℕ)) (known known' : Bool) (n : ℕ) (ws : List (List ℕ)) (w : List ℕ) (all : Bool) → (n < length ws) × (w ≡ get_or ws n w) → known' ≡ (known && is_known names w) → (known && list_all (is_known names) (drop n ws)) ≡ all → (known' && list_all (is_known names) (drop (n + 1) ws)) ≡ all
more_known names known known' n ws w all h u e =
    ap (λ (b : Bool). b && list_all (is_known names) (drop (n + 1) ws)) u
    ∙ and_assoc known (is_known names w) (list_all (is_known names) (drop (n + 1) ws))
    ∙ ap (λ (x : List ℕ). known && (is_known names x && list_all (is_known names) (drop (n + 1) ws))) h.1
    ∙ sym (ap (λ (b : Bool). known && b) (at_drop_more (list_all (is_known names)) ws n w h.0))
    ∙ e

pub no_more_items : (names : List (List ℕ)) (uses before : List Reference) (place n : ℕ) (ws : List (List ℕ)) → n ≡ length ws → uses ++ item_references names place (drop n ws) ≡ before → uses ≡ before
no_more_items names uses before place n ws h e = sym (append-nil uses) ∙ sym (ap (λ (rs : List Reference). uses ++ rs) (at_drop_all (item_references names place) ws n (omega (arith, h)))) ∙ e

pub none_unknown : (names : List (List ℕ)) (known : Bool) (n : ℕ) (ws : List (List ℕ)) (all : Bool) → n ≡ length ws → (known && list_all (is_known names) (drop n ws)) ≡ all → known ≡ all
none_unknown names known n ws all h e = sym (and_true known) ∙ sym (ap (λ (b : Bool). known && b) (at_drop_all (list_all (is_known names)) ws n (omega (arith, h)))) ∙ e

-- one that is unknown, and one that is known
with_false : (a : Bool) → false ≡ (a && false)
with_false true = refl
with_false false = refl

pub turned_off : (known known' b one : Bool) → known' ≡ false → b ≡ false → b ≡ one → known' ≡ (known && one)
turned_off known known' b one e f g = e ∙ with_false known ∙ ap (λ (x : Bool). known && x) (sym f ∙ g)

pub kept : (known known' b one : Bool) → known' ≡ known → b ≡ true → b ≡ one → known' ≡ (known && one)
kept known known' b one e f g = e ∙ sym (and_true known) ∙ ap (λ (x : Bool). known && x) (sym f ∙ g)
