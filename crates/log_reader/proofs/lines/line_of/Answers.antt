use Rattle.std.proofs.Common.{◌≡◌, ◌∙◌, sym, ap, subst, map, true, false, ℕ, List, Bor, Option, Some, Result, Ok}
use Rattle.std.specs.Option.{option_map}
use Rattle.call_table.specs.declared.forms.Form.{Form}
use Rattle.trace_reader.specs.declared.traces.Line.{Line}
use Rattle.trace_reader.specs.declared.traces.Reason.{Reason}
use Rattle.trace_reader.specs.Words.{word_at}
use Rattle.trace_reader.specs.CallNames.{Signature, call_named}
use Rattle.trace_reader.specs.Body.{call_word, target_of, thread_of}
use Rattle.trace_reader.specs.Reading.{GivesLine}
use Rattle.log_reader.specs.Forms.{is_in_logs, takes_config, with_variable}
use Rattle.log_reader.specs.Lines.{log_line_in}
use Rattle.log_reader.proofs.LineLaws.{line_formed, line_outside, line_unnamed}
use Rattle.log_reader.proofs.lines.line_of.Goals as goal

pub returns-in_default-clause-line : goal.returns-in_default-clause-line
returns-in_default-clause-line c =
    let ws : List (List ℕ) = map (λ (w : Bor (List ℕ)). w.now) c.args.words.now.words.now in
    let thread : thread_of c.args.threads (word_at ws 0) ≡ Ok c.in-Ok.thread = ap (thread_of c.args.threads) (sym c.word_at.ensures) ∙ sym c.in-Ok.ensures.value in
    line_unnamed c.args.threads c.args.variables.now c.args.number c.in-Ok.thread ws thread (c.in_default.ensures.value ∙ ap call_named c.call.ensures)

pub returns-then-not-is_in_logs-clause-line : goal.returns-then-not-is_in_logs-clause-line
returns-then-not-is_in_logs-clause-line c =
    let ws : List (List ℕ) = map (λ (w : Bor (List ℕ)). w.now) c.args.words.now.words.now in
    let s : Signature = record { kind = c.in-Some.kind; forms = c.in-Some.forms.now } in
    let thread : thread_of c.args.threads (word_at ws 0) ≡ Ok c.in-Ok.thread = ap (thread_of c.args.threads) (sym c.word_at.ensures) ∙ sym c.in-Ok.ensures.value in
    let named : Some s ≡ call_named (call_word ws) = c.in-Some.ensures.value ∙ ap call_named c.call.ensures in
    let outside : is_in_logs c.in-Some.kind ≡ false = sym c.is_in_logs.ensures ∙ c.if-not-is_in_logs.true in
    line_outside c.args.threads c.args.variables.now c.args.number c.in-Ok.thread ws s thread named outside

pub returns-then-not-takes_config-clause-line : goal.returns-then-not-takes_config-clause-line
returns-then-not-takes_config-clause-line c =
    let ws : List (List ℕ) = map (λ (w : Bor (List ℕ)). w.now) c.args.words.now.words.now in
    let s : Signature = record { kind = c.in-Some.kind; forms = c.in-Some.forms.now } in
    let line : Option (List ℕ) → List (List ℕ) → Result Line Reason = log_line_in c.args.variables.now c.args.number c.in-Ok.thread s in
    let thread : thread_of c.args.threads (word_at ws 0) ≡ Ok c.in-Ok.thread = ap (thread_of c.args.threads) (sym c.word_at.ensures) ∙ sym c.in-Ok.ensures.value in
    let named : Some s ≡ call_named (call_word ws) = c.in-Some.ensures.value ∙ ap call_named c.call.ensures in
    let inside : is_in_logs c.in-Some.kind ≡ true = sym c.is_in_logs.ensures ∙ c.if-not-is_in_logs.false in
    let plain : takes_config c.in-Some.forms.now ≡ false = sym c.takes_config.ensures ∙ c.if-not-takes_config.true in
    let P : Result Line Reason → Type 0 = λ r. GivesLine c.line_in.result r in
    subst P
    (ap (λ (o : Option (List ℕ)). line o (map (λ (w : Bor (List ℕ)). w.now) c.arguments-arguments.result.now)) c.target-target.ensures
    ∙ ap (line (target_of ws)) c.arguments-arguments.ensures
    ∙ sym (line_formed c.args.threads c.args.variables.now c.args.number c.in-Ok.thread ws s false thread named inside plain))
    c.line_in.ensures.line

pub returns-clause-line : goal.returns-clause-line
returns-clause-line c =
    let ws : List (List ℕ) = map (λ (w : Bor (List ℕ)). w.now) c.args.words.now.words.now in
    let s : Signature = record { kind = c.in-Some.kind; forms = c.in-Some.forms.now } in
    let line : List Form → Option (List ℕ) → List (List ℕ) → Result Line Reason = λ fs. log_line_in c.args.variables.now c.args.number c.in-Ok.thread (record { kind = c.in-Some.kind; forms = fs }) in
    let thread : thread_of c.args.threads (word_at ws 0) ≡ Ok c.in-Ok.thread = ap (thread_of c.args.threads) (sym c.word_at.ensures) ∙ sym c.in-Ok.ensures.value in
    let named : Some s ≡ call_named (call_word ws) = c.in-Some.ensures.value ∙ ap call_named c.call.ensures in
    let inside : is_in_logs c.in-Some.kind ≡ true = sym c.is_in_logs.ensures ∙ c.if-not-is_in_logs.false in
    let config : takes_config c.in-Some.forms.now ≡ true = sym c.takes_config.ensures ∙ c.if-not-takes_config.false in
    let forms : c.deref.result.now ≡ with_variable c.in-Some.forms.now = c.deref.ensures.value ∙ c.in-Ok-with_variable.ensures in
    let P : Result Line Reason → Type 0 = λ r. GivesLine c.line_in-2.result r in
    subst P
    (ap (λ (fs : List Form). line fs (option_map (λ (w : Bor (List ℕ)). w.now) c.target-target.result) (map (λ (w : Bor (List ℕ)). w.now) c.arguments-arguments.result.now)) forms
    ∙ ap (λ (o : Option (List ℕ)). line (with_variable c.in-Some.forms.now) o (map (λ (w : Bor (List ℕ)). w.now) c.arguments-arguments.result.now)) c.target-target.ensures
    ∙ ap (line (with_variable c.in-Some.forms.now) (target_of ws)) c.arguments-arguments.ensures
    ∙ sym (line_formed c.args.threads c.args.variables.now c.args.number c.in-Ok.thread ws s true thread named inside config))
    c.line_in-2.ensures.line
