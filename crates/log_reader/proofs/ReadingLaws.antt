-- The lines of a log, one after another.
use Rattle.std.proofs.Common.{◌≡◌, ℕ, ◌+◌, true, false, List, ◌∷◌, refl, sym, ap, subst, ◌∙◌, Option, None, Some, Result, Ok, Err}
use Rattle.std.proofs.lemmas.Bool.{cond-true, cond-false}
use Rattle.trace_reader.specs.declared.traces.Line.{Line}
use Rattle.trace_reader.specs.declared.traces.Reason.{Reason}
use Rattle.trace_reader.specs.Words.{words, is_skipped}
use Rattle.log_reader.specs.declared.reasons.LogDefect.{LogDefect}
use Rattle.log_reader.specs.declared.reasons.LogError.{LogError}
use Rattle.log_reader.specs.declared.reasons.LogLineError.{LogLineError}
use Rattle.log_reader.specs.declared.reasons.LogLineError.TheVariants.{Defective, NoMemory}
use Rattle.log_reader.specs.declared.reasons.LogReason.{LogReason}
use Rattle.log_reader.specs.declared.reasons.LogReason.TheVariants.{Trace, Answer}
use Rattle.log_reader.specs.Grammar.{call_then, crash_then, front_then, head_then, log_of_lines, behind_header, read_body, read_end, read_on}
use Rattle.log_reader.specs.Heads.{LogHead, head_line, header_of}
use Rattle.log_reader.specs.Items.{BodyValue, Taken, call_taken, crash_in, empty, front_line, is_front}
use Rattle.log_reader.specs.Logs.{LogValue}
use Rattle.log_reader.specs.Reading.{FailsWith, GivesHead, GivesMore, GivesTaken, error_at}

-- an error of a line, where what is read has its defect
fails : {A : Type 0} (n : ℕ) (e : LogLineError) (x : LogError) (read : Result A LogDefect) → x ≡ error_at n e → ((r : LogReason) → e ≡ Defective r → read ≡ Err (record { line = n; reason = r })) → FailsWith x read
fails n (Defective r) x read a h = let P : LogError → Type 0 = λ y. FailsWith y read in subst P (sym a) (h r refl)
fails n NoMemory x read a h = let P : LogError → Type 0 = λ y. FailsWith y read in subst P (sym a) tt

refused_more : {A : Type 0} (said : Result A LogReason) (after : A) (e : LogLineError) (r : LogReason) → GivesMore said after (Err e) → e ≡ Defective r → said ≡ Err r
refused_more said after (Defective q) r g s = g ∙ (let i : q ≡ r = (let f : Defective q ≡ Defective r = s in cc) in ap (λ (x : LogReason). Err x) i)
refused_more said after NoMemory r g s = absurd (let f : NoMemory ≡ Defective r = s in cc)

refused_taken : (said : Result Taken LogReason) (after : BodyValue) (e : LogLineError) (r : LogReason) → GivesTaken said after (Err e) → e ≡ Defective r → said ≡ Err r
refused_taken said after (Defective q) r g s = g ∙ (let i : q ≡ r = (let f : Defective q ≡ Defective r = s in cc) in ap (λ (x : LogReason). Err x) i)
refused_taken said after NoMemory r g s = absurd (let f : NoMemory ≡ Defective r = s in cc)

-- ---- Behind the head.
pub body_skipped : (h : LogHead) (n : ℕ) (b : BodyValue) (line : List ℕ) (rest : List (List ℕ)) → is_skipped line ≡ true → read_body h n b (line ∷ rest) ≡ read_body h (n + 1) b rest
body_skipped h n b line rest k = cond-true _ _ _ k

-- a front
body_front : (h : LogHead) (n : ℕ) (b : BodyValue) (line : List ℕ) (rest : List (List ℕ)) (said : Result BodyValue LogReason) → is_skipped line ≡ false → is_front (words line) ≡ true → front_line h b n (words line) ≡ said →
    read_body h n b (line ∷ rest) ≡ front_then n said (λ next. read_body h (n + 1) next rest)
body_front h n b line rest said k f e =
    cond-false _ _ _ k ∙ cond-true _ _ _ f ∙ ap (λ (r : Result BodyValue LogReason). front_then n r (λ next. read_body h (n + 1) next rest)) e

pub body_front_taken : (h : LogHead) (n : ℕ) (b after : BodyValue) (line : List ℕ) (rest : List (List ℕ)) → is_skipped line ≡ false → is_front (words line) ≡ true → front_line h b n (words line) ≡ Ok after → read_body h n b (line ∷ rest) ≡ read_body h (n + 1) after rest
body_front_taken h n b after line rest k f e = body_front h n b line rest (Ok after) k f e

pub body_front_refused : (h : LogHead) (n : ℕ) (b after : BodyValue) (line : List ℕ) (rest : List (List ℕ)) (e : LogLineError) (x : LogError) → is_skipped line ≡ false → is_front (words line) ≡ true → GivesMore (front_line h b n (words line)) after (Err e) → x ≡ error_at n e → FailsWith x (read_body h n b (line ∷ rest))
body_front_refused h n b after line rest e x k f g a =
    fails n e x (read_body h n b (line ∷ rest)) a (λ r s. body_front h n b line rest (Err r) k f (refused_more (front_line h b n (words line)) after e r g s))

-- a call
body_call : (h : LogHead) (n : ℕ) (b : BodyValue) (line : List ℕ) (rest : List (List ℕ)) (said : Result Taken LogReason) → is_skipped line ≡ false → is_front (words line) ≡ false → call_taken h b n (words line) ≡ said →
    read_body h n b (line ∷ rest) ≡ call_then n said (λ next. read_body h (n + 1) next rest) (λ next pending. read_end h pending None (n + 1) next rest)
body_call h n b line rest said k f e =
    cond-false _ _ _ k ∙ cond-false _ _ _ f ∙ ap (λ (r : Result Taken LogReason). call_then n r (λ next. read_body h (n + 1) next rest) (λ next pending. read_end h pending None (n + 1) next rest)) e

pub body_call_taken : (h : LogHead) (n : ℕ) (b after : BodyValue) (line : List ℕ) (rest : List (List ℕ)) → is_skipped line ≡ false → is_front (words line) ≡ false → GivesTaken (call_taken h b n (words line)) after (Ok None) → read_body h n b (line ∷ rest) ≡ read_body h (n + 1) after rest
body_call_taken h n b after line rest k f g = body_call h n b line rest (Ok (record { body = after; pending = None })) k f g

pub body_call_open : (h : LogHead) (n : ℕ) (b after : BodyValue) (line : List ℕ) (rest : List (List ℕ)) (pending : Line) → is_skipped line ≡ false → is_front (words line) ≡ false → GivesTaken (call_taken h b n (words line)) after (Ok (Some pending)) → read_body h n b (line ∷ rest) ≡ read_end h pending None (n + 1) after rest
body_call_open h n b after line rest pending k f g = body_call h n b line rest (Ok (record { body = after; pending = Some pending })) k f g

pub body_call_refused : (h : LogHead) (n : ℕ) (b after : BodyValue) (line : List ℕ) (rest : List (List ℕ)) (e : LogLineError) (x : LogError) → is_skipped line ≡ false → is_front (words line) ≡ false → GivesTaken (call_taken h b n (words line)) after (Err e) → x ≡ error_at n e → FailsWith x (read_body h n b (line ∷ rest))
body_call_refused h n b after line rest e x k f g a =
    fails n e x (read_body h n b (line ∷ rest)) a (λ r s. body_call h n b line rest (Err r) k f (refused_taken (call_taken h b n (words line)) after e r g s))

-- ---- Behind a call that wasn't answered.
pub end_skipped : (h : LogHead) (pending : Line) (word : Option (List ℕ)) (n : ℕ) (b : BodyValue) (line : List ℕ) (rest : List (List ℕ)) → is_skipped line ≡ true → read_end h pending word n b (line ∷ rest) ≡ read_end h pending word (n + 1) b rest
end_skipped h pending word n b line rest k = cond-true _ _ _ k

end_front : (h : LogHead) (pending : Line) (word : Option (List ℕ)) (n : ℕ) (b : BodyValue) (line : List ℕ) (rest : List (List ℕ)) (said : Result BodyValue LogReason) → is_skipped line ≡ false → is_front (words line) ≡ true → front_line h b n (words line) ≡ said →
    read_end h pending word n b (line ∷ rest) ≡ front_then n said (λ next. read_end h pending word (n + 1) next rest)
end_front h pending word n b line rest said k f e =
    cond-false _ _ _ k ∙ cond-true _ _ _ f ∙ ap (λ (r : Result BodyValue LogReason). front_then n r (λ next. read_end h pending word (n + 1) next rest)) e

pub end_front_taken : (h : LogHead) (pending : Line) (word : Option (List ℕ)) (n : ℕ) (b after : BodyValue) (line : List ℕ) (rest : List (List ℕ)) → is_skipped line ≡ false → is_front (words line) ≡ true → front_line h b n (words line) ≡ Ok after → read_end h pending word n b (line ∷ rest) ≡ read_end h pending word (n + 1) after rest
end_front_taken h pending word n b after line rest k f e = end_front h pending word n b line rest (Ok after) k f e

pub end_front_refused : (h : LogHead) (pending : Line) (word : Option (List ℕ)) (n : ℕ) (b after : BodyValue) (line : List ℕ) (rest : List (List ℕ)) (e : LogLineError) (x : LogError) → is_skipped line ≡ false → is_front (words line) ≡ true → GivesMore (front_line h b n (words line)) after (Err e) → x ≡ error_at n e → FailsWith x (read_end h pending word n b (line ∷ rest))
end_front_refused h pending word n b after line rest e x k f g a =
    fails n e x (read_end h pending word n b (line ∷ rest)) a (λ r s. end_front h pending word n b line rest (Err r) k f (refused_more (front_line h b n (words line)) after e r g s))

-- a crash, or what stands where none may
end_word : (h : LogHead) (pending : Line) (word : Option (List ℕ)) (n : ℕ) (b : BodyValue) (line : List ℕ) (rest : List (List ℕ)) (said : Option (List ℕ)) → is_skipped line ≡ false → is_front (words line) ≡ false → crash_in word (words line) ≡ said →
    read_end h pending word n b (line ∷ rest) ≡ crash_then pending said (λ w. read_end h pending (Some w) (n + 1) b rest)
end_word h pending word n b line rest said k f e =
    cond-false _ _ _ k ∙ cond-false _ _ _ f ∙ ap (λ (o : Option (List ℕ)). crash_then pending o (λ w. read_end h pending (Some w) (n + 1) b rest)) e

pub end_crash : (h : LogHead) (pending : Line) (word : Option (List ℕ)) (n : ℕ) (b : BodyValue) (line : List ℕ) (rest : List (List ℕ)) (w : List ℕ) → is_skipped line ≡ false → is_front (words line) ≡ false → Some w ≡ crash_in word (words line) → read_end h pending word n b (line ∷ rest) ≡ read_end h pending (Some w) (n + 1) b rest
end_crash h pending word n b line rest w k f e = end_word h pending word n b line rest (Some w) k f (sym e)

pub end_other : (h : LogHead) (pending : Line) (word : Option (List ℕ)) (n : ℕ) (b : BodyValue) (line : List ℕ) (rest : List (List ℕ)) → is_skipped line ≡ false → is_front (words line) ≡ false → None ≡ crash_in word (words line) → read_end h pending word n b (line ∷ rest) ≡ Err (record { line = pending.number; reason = Answer })
end_other h pending word n b line rest k f e = end_word h pending word n b line rest None k f (sym e)

-- ---- The head.
on_line : (h : LogHead) (n : ℕ) (line : List ℕ) (rest : List (List ℕ)) (said : Option (Result LogHead Reason)) → head_line h line ≡ said → read_on h n (line ∷ rest) ≡ head_then n said (λ next. read_on next (n + 1) rest) (read_body h n empty (line ∷ rest))
on_line h n line rest said e = ap (λ (o : Option (Result LogHead Reason)). head_then n o (λ next. read_on next (n + 1) rest) (read_body h n empty (line ∷ rest))) e

pub on_taken : (h next : LogHead) (n : ℕ) (line : List ℕ) (rest : List (List ℕ)) → head_line h line ≡ Some (Ok next) → read_on h n (line ∷ rest) ≡ read_on next (n + 1) rest
on_taken h next n line rest e = on_line h n line rest (Some (Ok next)) e

pub on_body : (h : LogHead) (n : ℕ) (line : List ℕ) (rest : List (List ℕ)) → head_line h line ≡ None → read_on h n (line ∷ rest) ≡ read_body h n empty (line ∷ rest)
on_body h n line rest e = on_line h n line rest None e

-- a line that isn't taken
pub on_refused : (h next : LogHead) (n : ℕ) (line : List ℕ) (ls rest : List (List ℕ)) (said : Result LogValue LogDefect) (e : LogLineError) (x : LogError) → GivesHead (head_line h line) h next (Err e) → ls ≡ line ∷ rest → read_on h n ls ≡ said → x ≡ error_at n e → FailsWith x said
on_refused h next n line ls rest said (Defective (Trace r)) x g l s a =
    let P : LogError → Type 0 = λ y. FailsWith y said in
    subst P (sym a) (sym s ∙ ap (read_on h n) l ∙ on_line h n line rest (Some (Err r)) g)
on_refused h next n line ls rest said (Defective Answer) x g l s a = absurd g
on_refused h next n line ls rest said NoMemory x g l s a =
    let P : LogError → Type 0 = λ y. FailsWith y said in
    subst P (sym a) tt

-- what stands behind the header
pub behind_first : (first : List ℕ) (r : Result ℕ Reason) (rest : List (List ℕ)) → header_of (words first) ≡ r → log_of_lines (first ∷ rest) ≡ behind_header r rest
behind_first first r rest e = ap (λ (x : Result ℕ Reason). behind_header x rest) e
