-- A call's name that is known: where arguments have their forms, no word among them is or lists an unknown name.
use Rattle.std.proofs.Common.{◌≡◌, ℕ, Bool, true, false, not, ◌&&◌, ◌||◌, List, [], ◌∷◌, length, refl, sym, ap, ◌∙◌, Option, None, Some, Result, Ok, Err}
use Rattle.std.specs.Prelude.{if◌then◌else◌}
use Rattle.std.specs.List.{list_any}
use Rattle.egl_calls.specs.Calls.{CallValue}
use Rattle.egl_calls.specs.declared.kinds.Kind.{Kind}
use Rattle.call_table.specs.declared.forms.Form.{Form}
use Rattle.trace_reader.specs.declared.traces.Line.{Line}
use Rattle.trace_reader.specs.declared.traces.Reason.{Reason}
use Rattle.trace_reader.specs.declared.traces.Reason.TheVariants.{Name, Argument as ArgumentReason}
use Rattle.call_table.specs.declared.forms.Form.TheVariants.{Config}
use Rattle.trace_reader.specs.Words.{word_at}
use Rattle.trace_reader.specs.CallNames.{Signature, call_named}
use Rattle.trace_reader.specs.Arguments.{has_unknown_name, call_of, is_placed, are_placed, place_behind, is_list, have_one_list}
use Rattle.trace_reader.specs.Body.{argument_words, call_word, defect_of, signature_in, target_of, thread_of}
use Rattle.trace_reader.specs.Reasons.{◌>>=◌, or_reason, provided}
use Rattle.trace_reader.proofs.KnownLaws.{call_known}
use Rattle.log_reader.specs.Forms.{in_log, is_in_logs, or_variable, takes_config, with_variable}
use Rattle.log_reader.specs.Lines.{line_in, line_of, line_with, log_line_in, log_signature}

behind_call : (any : Bool) (found : Option CallValue) (r : Reason) (call : CallValue) (f : CallValue → Result Line Reason) → any ≡ false → found ≡ Some call → provided (not any) Name (or_reason found r >>= f) ≡ f call
behind_call any found r call f a e = ap (λ (b : Bool). provided (not b) Name (or_reason found r >>= f)) a ∙ ap (λ (o : Option CallValue). or_reason o r >>= f) e

without_call : (any : Bool) (found : Option CallValue) (f : CallValue → Result Line Reason) → found ≡ None → provided (not any) Name (or_reason found ArgumentReason >>= f) ≡ Err (if any then Name else ArgumentReason)
without_call true found f e = refl
without_call false found f e = ap (λ (o : Option CallValue). or_reason o ArgumentReason >>= f) e

pub line_called : (names : List (List ℕ)) (number thread : ℕ) (kind : Kind) (fs : List Form) (target : Option (List ℕ)) (ws : List (List ℕ)) (call : CallValue) → Some call ≡ call_of kind fs ws → log_line_in names number thread (record { kind = kind; forms = fs }) target ws ≡ line_with names number thread target fs ws call
unfolding line_in
line_called names number thread kind fs target ws call h =
    behind_call (list_any has_unknown_name ws) (call_of kind fs ws) ArgumentReason call (line_with names number thread target fs ws) (call_known kind fs ws call h) (sym h)

pub line_uncalled : (names : List (List ℕ)) (number thread : ℕ) (kind : Kind) (fs : List Form) (target : Option (List ℕ)) (ws : List (List ℕ)) → None ≡ call_of kind fs ws → log_line_in names number thread (record { kind = kind; forms = fs }) target ws ≡ Err (defect_of ws)
unfolding line_in
line_uncalled names number thread kind fs target ws h =
    without_call (list_any has_unknown_name ws) (call_of kind fs ws) (line_with names number thread target fs ws) (sym h)

-- ---- A variable in place of a number changes no form's place, and adds no list.
second_placed : (kind : Kind) (place : ℕ) (g : Form) (fs : List Form) → are_placed kind place (or_variable g ∷ fs) ≡ are_placed kind place (g ∷ fs)
second_placed kind place Config fs = refl
second_placed kind place g fs = refl

pub placed_with_variable : (kind : Kind) (place : ℕ) (fs : List Form) → are_placed kind place (with_variable fs) ≡ are_placed kind place fs
placed_with_variable kind place [] = refl
placed_with_variable kind place (f ∷ []) = refl
placed_with_variable kind place (f ∷ g ∷ fs) = ap (λ (b : Bool). is_placed kind place f && b) (second_placed kind (place_behind place f) g fs)

no_list_more : (g : Form) → is_list (or_variable g) ≡ is_list g
no_list_more Config = refl
no_list_more g = refl

lists_first : Bool → Bool → List Form → Bool
lists_first f g fs = (not f || not (g || list_any is_list fs)) && ((not g || not (list_any is_list fs)) && have_one_list fs)

pub one_list_with_variable : (fs : List Form) → have_one_list (with_variable fs) ≡ have_one_list fs
unfolding lists_first
one_list_with_variable [] = refl
one_list_with_variable (f ∷ []) = refl
one_list_with_variable (f ∷ g ∷ fs) = ap (λ (b : Bool). lists_first (is_list f) b fs) (no_list_more g)

pub length_with_variable : (fs : List Form) → length (with_variable fs) ≡ length fs
length_with_variable [] = refl
length_with_variable (f ∷ []) = refl
length_with_variable (f ∷ g ∷ fs) = refl

-- ---- A line of a log.
checked : Signature → Result Signature Reason
checked s = provided (is_in_logs s.kind) Name (Ok (in_log s))

signed_line : (any : Bool) (s : Signature) (f : Signature → Result Line Reason) → (((if any then Err Name else Ok s) >>= checked) >>= f) ≡ provided (not any) Name (checked s >>= f)
signed_line true s f = refl
signed_line false s f = refl

unsigned_line : (any : Bool) (f : Signature → Result Line Reason) → (let r : Result Signature Reason = if any then Err Name else Err Name in (r >>= checked) >>= f) ≡ Err Name
unsigned_line true f = refl
unsigned_line false f = refl

outside : (any : Bool) (f : Signature → Result Line Reason) → provided (not any) Name (let r : Result Signature Reason = Err Name in r >>= f) ≡ Err Name
outside true f = refl
outside false f = refl

pub line_unnamed : (threads : ℕ) (names : List (List ℕ)) (number thread : ℕ) (ws : List (List ℕ)) → thread_of threads (word_at ws 0) ≡ Ok thread → None ≡ call_named (call_word ws) → line_of threads names number ws ≡ Err Name
unfolding line_of log_signature signature_in checked
line_unnamed threads names number thread ws t h =
    let any = list_any has_unknown_name (argument_words ws) in
    let line : ℕ → Signature → Result Line Reason = λ n signature. line_in names number n signature (target_of ws) (argument_words ws) in
    ap (λ (r : Result ℕ Reason). r >>= (λ n. log_signature (call_word ws) (argument_words ws) >>= line n)) t
    ∙ ap (λ (o : Option Signature). ((if any then Err Name else or_reason o Name) >>= checked) >>= line thread) (sym h)
    ∙ unsigned_line any (line thread)

-- a call that is known
line_signed : (threads : ℕ) (names : List (List ℕ)) (number thread : ℕ) (ws : List (List ℕ)) (s : Signature) → thread_of threads (word_at ws 0) ≡ Ok thread → Some s ≡ call_named (call_word ws) → line_of threads names number ws ≡ provided (not (list_any has_unknown_name (argument_words ws))) Name (checked s >>= (λ signature. line_in names number thread signature (target_of ws) (argument_words ws)))
unfolding line_of log_signature signature_in checked
line_signed threads names number thread ws s t h =
    let any = list_any has_unknown_name (argument_words ws) in
    let line : ℕ → Signature → Result Line Reason = λ n signature. line_in names number n signature (target_of ws) (argument_words ws) in
    ap (λ (r : Result ℕ Reason). r >>= (λ n. log_signature (call_word ws) (argument_words ws) >>= line n)) t
    ∙ ap (λ (o : Option Signature). ((if any then Err Name else or_reason o Name) >>= checked) >>= line thread) (sym h)
    ∙ signed_line any s (line thread)

checked_as : (s : Signature) (b : Bool) → is_in_logs s.kind ≡ b → checked s ≡ provided b Name (Ok (in_log s))
unfolding checked
checked_as s b e = ap (λ (c : Bool). provided c Name (Ok (in_log s))) e

pub line_outside : (threads : ℕ) (names : List (List ℕ)) (number thread : ℕ) (ws : List (List ℕ)) (s : Signature) → thread_of threads (word_at ws 0) ≡ Ok thread → Some s ≡ call_named (call_word ws) → is_in_logs s.kind ≡ false → line_of threads names number ws ≡ Err Name
line_outside threads names number thread ws s t h i =
    let any = list_any has_unknown_name (argument_words ws) in
    let line : Signature → Result Line Reason = λ signature. line_in names number thread signature (target_of ws) (argument_words ws) in
    line_signed threads names number thread ws s t h
    ∙ ap (λ (r : Result Signature Reason). provided (not any) Name (r >>= line)) (checked_as s false i)
    ∙ outside any line

inside : (threads : ℕ) (names : List (List ℕ)) (number thread : ℕ) (ws : List (List ℕ)) (s : Signature) → thread_of threads (word_at ws 0) ≡ Ok thread → Some s ≡ call_named (call_word ws) → is_in_logs s.kind ≡ true → line_of threads names number ws ≡ log_line_in names number thread (in_log s) (target_of ws) (argument_words ws)
inside threads names number thread ws s t h i =
    let any = list_any has_unknown_name (argument_words ws) in
    let line : Signature → Result Line Reason = λ signature. line_in names number thread signature (target_of ws) (argument_words ws) in
    line_signed threads names number thread ws s t h
    ∙ ap (λ (r : Result Signature Reason). provided (not any) Name (r >>= line)) (checked_as s true i)

as_formed : (s : Signature) (b : Bool) → takes_config s.forms ≡ b → in_log s ≡ record { kind = s.kind; forms = if b then with_variable s.forms else s.forms }
as_formed s b e = ap (λ (c : Bool). let t : Signature = record { kind = s.kind; forms = if c then with_variable s.forms else s.forms } in t) e

-- its line, by the forms that a log has of it
pub line_formed : (threads : ℕ) (names : List (List ℕ)) (number thread : ℕ) (ws : List (List ℕ)) (s : Signature) (b : Bool) → thread_of threads (word_at ws 0) ≡ Ok thread → Some s ≡ call_named (call_word ws) → is_in_logs s.kind ≡ true → takes_config s.forms ≡ b →
    line_of threads names number ws ≡ log_line_in names number thread (record { kind = s.kind; forms = if b then with_variable s.forms else s.forms }) (target_of ws) (argument_words ws)
line_formed threads names number thread ws s b t h i e =
    inside threads names number thread ws s t h i
    ∙ ap (λ (x : Signature). log_line_in names number thread x (target_of ws) (argument_words ws)) (as_formed s b e)
