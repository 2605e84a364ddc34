-- What a call or a front makes of what was read before it, by what is found of its line.
use Rattle.std.proofs.Common.{◌≡◌, ℕ, ◌+◌, Bool, true, false, ◌&&◌, List, [], ◌∷◌, ◌++◌, length, sym, ap, ◌∙◌, Option, None, Some, Result, Ok, Err}
use Rattle.std.specs.Prelude.{if◌then◌else◌, nat_lt, nat_le}
use Rattle.egl_calls.specs.declared.kinds.Kind.{Kind}
use Rattle.surface_store.specs.declared.windows.WindowSpec.{WindowSpec}
use Rattle.trace_reader.specs.declared.traces.Line.{Line}
use Rattle.trace_reader.specs.declared.traces.Reason.{Reason}
use Rattle.trace_reader.specs.declared.traces.Reason.TheVariants.{Limit}
use Rattle.trace_reader.specs.Assigned.{with_assigned}
use Rattle.trace_reader.specs.Body.{is_within, target_of, within_limits}
use Rattle.trace_reader.specs.Payloads.{most_payload_bytes, payload_bytes}
use Rattle.trace_reader.specs.Pixels.{most_pixel_bytes, pixel_bytes}
use Rattle.log_reader.specs.declared.answers.Answer.{Answer}
use Rattle.log_reader.specs.declared.items.Item.TheVariants.{Call}
use Rattle.log_reader.specs.declared.items.Shown.{Shown}
use Rattle.log_reader.specs.declared.reasons.LogLineError.{LogLineError}
use Rattle.log_reader.specs.declared.reasons.LogLineError.TheVariants.{Defective, NoMemory}
use Rattle.log_reader.specs.declared.reasons.LogReason.{LogReason}
use Rattle.log_reader.specs.declared.reasons.LogReason.TheVariants.{Trace}
use Rattle.log_reader.specs.Answers.{answer_words, call_words}
use Rattle.log_reader.specs.Heads.{LogHead}
use Rattle.log_reader.specs.Items.{BodyValue, CallLine, Taken, answer_behind, call_line, call_taken, front_line, has_room_for, placed, shown_of, taken, with_call, with_shown}
use Rattle.log_reader.specs.Lines.{line_of}
use Rattle.log_reader.specs.Reading.{GivesOf, GivesTaken}
use Rattle.log_reader.specs.Reasons.{◌>>=◌, as_in_traces, provided}

-- ---- Calls.
answered : List (List ℕ) → Line → Result CallLine LogReason
answered ws l = answer_behind l.call.kind (answer_words ws) >>= (λ a. Ok (record { line = l; target = target_of (call_words ws); answer = a }))

taken_as : LogHead → BodyValue → CallLine → Result Taken LogReason
taken_as h b c = Ok (taken h.head.windows b c c.answer)

whole : (h : LogHead) (b : BodyValue) (n : ℕ) (ws : List (List ℕ)) (r : Result Line Reason) → line_of h.head.threads b.names n (call_words ws) ≡ r → call_taken h b n ws ≡ ((as_in_traces (within_limits h.head.windows (length b.items) b.pixels b.payloads r) >>= answered ws) >>= taken_as h b)
unfolding call_taken call_line answered taken_as
whole h b n ws r e = ap (λ (x : Result Line Reason). (as_in_traces (within_limits h.head.windows (length b.items) b.pixels b.payloads x) >>= answered ws) >>= taken_as h b) e

pub call_refused : (h : LogHead) (b : BodyValue) (n : ℕ) (ws : List (List ℕ)) (r : Reason) → line_of h.head.threads b.names n (call_words ws) ≡ Err r → call_taken h b n ws ≡ Err (Trace r)
call_refused h b n ws r e = whole h b n ws (Err r) e

limited : (h : LogHead) (b : BodyValue) (n : ℕ) (ws : List (List ℕ)) (l : Line) (room : Bool) → line_of h.head.threads b.names n (call_words ws) ≡ Ok l → is_within h.head.windows (length b.items) b.pixels b.payloads l ≡ room → call_taken h b n ws ≡ ((as_in_traces (if room then Ok l else Err Limit) >>= answered ws) >>= taken_as h b)
limited h b n ws l room e i = whole h b n ws (Ok l) e ∙ ap (λ (x : Bool). (as_in_traces (if x then Ok l else Err Limit) >>= answered ws) >>= taken_as h b) i

pub call_past : (h : LogHead) (b : BodyValue) (n : ℕ) (ws : List (List ℕ)) (l : Line) → line_of h.head.threads b.names n (call_words ws) ≡ Ok l → is_within h.head.windows (length b.items) b.pixels b.payloads l ≡ false → call_taken h b n ws ≡ Err (Trace Limit)
call_past h b n ws l e i = limited h b n ws l false e i

behind_answer : (h : LogHead) (b : BodyValue) (n : ℕ) (ws : List (List ℕ)) (l : Line) (a : Result (Option Answer) LogReason) → line_of h.head.threads b.names n (call_words ws) ≡ Ok l → is_within h.head.windows (length b.items) b.pixels b.payloads l ≡ true → answer_behind l.call.kind (answer_words ws) ≡ a →
    call_taken h b n ws ≡ ((a >>= (λ o. Ok (let c : CallLine = record { line = l; target = target_of (call_words ws); answer = o } in c))) >>= taken_as h b)
unfolding answered
behind_answer h b n ws l a e i s =
    limited h b n ws l true e i
    ∙ ap (λ (x : Result (Option Answer) LogReason). (x >>= (λ o. Ok (let c : CallLine = record { line = l; target = target_of (call_words ws); answer = o } in c))) >>= taken_as h b) s

pub call_answered_wrong : (h : LogHead) (b : BodyValue) (n : ℕ) (ws : List (List ℕ)) (l : Line) (r : LogReason) → line_of h.head.threads b.names n (call_words ws) ≡ Ok l → is_within h.head.windows (length b.items) b.pixels b.payloads l ≡ true → answer_behind l.call.kind (answer_words ws) ≡ Err r → call_taken h b n ws ≡ Err r
call_answered_wrong h b n ws l r e i s = behind_answer h b n ws l (Err r) e i s

pub call_open : (h : LogHead) (b : BodyValue) (n : ℕ) (ws : List (List ℕ)) (l : Line) → line_of h.head.threads b.names n (call_words ws) ≡ Ok l → is_within h.head.windows (length b.items) b.pixels b.payloads l ≡ true → answer_behind l.call.kind (answer_words ws) ≡ Ok None →
    call_taken h b n ws ≡ Ok (record { body = b; pending = Some l })
unfolding taken_as
call_open h b n ws l e i s = behind_answer h b n ws l (Ok None) e i s

pub call_closed : (h : LogHead) (b : BodyValue) (n : ℕ) (ws : List (List ℕ)) (l : Line) (a : Answer) → line_of h.head.threads b.names n (call_words ws) ≡ Ok l → is_within h.head.windows (length b.items) b.pixels b.payloads l ≡ true → answer_behind l.call.kind (answer_words ws) ≡ Ok (Some a) →
    call_taken h b n ws ≡ Ok (record { body = with_call h.head.windows b (record { line = l; target = target_of (call_words ws); answer = Some a }) a; pending = None })
unfolding taken_as
call_closed h b n ws l a e i s = behind_answer h b n ws l (Ok (Some a)) e i s

-- what a line says is known, and whether there is room for it
pub record IsKnown (h : LogHead) (b : BodyValue) (n threads : ℕ) (names ws call : List (List ℕ)) (behind : Option (List (List ℕ))) (windows : List WindowSpec) (l : Line) (pixels payload : ℕ) (room : Bool) : Type 0 where
  pub threads_are : threads ≡ h.head.threads
  pub names_are : names ≡ b.names
  pub call_is : call ≡ call_words ws
  pub behind_is : behind ≡ answer_words ws
  pub windows_are : windows ≡ h.head.windows
  pub line_is : line_of threads names n call ≡ Ok l
  pub pixels_are : pixels ≡ pixel_bytes windows l.call
  pub payload_is : payload ≡ payload_bytes l.call
  pub room_is : room ≡ (nat_lt (length b.items) 100000 && nat_le (b.pixels + pixels) most_pixel_bytes && nat_le (b.payloads + payload) most_payload_bytes)

-- the same by what is known of the parts of a line
module _ (h : LogHead) (b : BodyValue) (n threads : ℕ) (names ws call : List (List ℕ)) (behind : Option (List (List ℕ))) (windows : List WindowSpec) (l : Line) (pixels payload : ℕ) (room : Bool) where
  abbrev pub Known : Type 0
  Known = IsKnown h b n threads names ws call behind windows l pixels payload room

  known_line : Known → line_of h.head.threads b.names n (call_words ws) ≡ Ok l
  known_line k = ap (λ (t : ℕ). line_of t b.names n (call_words ws)) (sym k.threads_are) ∙ ap (λ (ns : List (List ℕ)). line_of threads ns n (call_words ws)) (sym k.names_are) ∙ ap (line_of threads names n) (sym k.call_is) ∙ k.line_is

  known_room : Known → room ≡ true → is_within h.head.windows (length b.items) b.pixels b.payloads l ≡ true
  known_room k e =
      let asked : pixel_bytes h.head.windows l.call ≡ pixels = ap (λ (w : List WindowSpec). pixel_bytes w l.call) (sym k.windows_are) ∙ sym k.pixels_are in
      ap (λ (p : ℕ). nat_lt (length b.items) 100000 && nat_le (b.pixels + p) most_pixel_bytes && nat_le (b.payloads + payload_bytes l.call) most_payload_bytes) asked
      ∙ ap (λ (p : ℕ). nat_lt (length b.items) 100000 && nat_le (b.pixels + pixels) most_pixel_bytes && nat_le (b.payloads + p) most_payload_bytes) (sym k.payload_is)
      ∙ sym k.room_is ∙ e

  known_answer : (a : Result (Option Answer) LogReason) → Known → answer_behind l.call.kind behind ≡ a → answer_behind l.call.kind (answer_words ws) ≡ a
  known_answer a k e = ap (answer_behind l.call.kind) (sym k.behind_is) ∙ e

  pub known_wrong : (r : LogReason) → Known → room ≡ true → answer_behind l.call.kind behind ≡ Err r → call_taken h b n ws ≡ Err r
  known_wrong r k e a = call_answered_wrong h b n ws l r (known_line k) (known_room k e) (known_answer (Err r) k a)

  pub known_error : (kind : Kind) (e : LogLineError) (after : BodyValue) → Known → room ≡ true → kind ≡ l.call.kind → GivesOf (λ a. a) (Err e) (answer_behind kind behind) → GivesTaken (call_taken h b n ws) after (Err e)
  known_error kind (Defective r) after k e i g = known_wrong r k e (ap (λ (x : Kind). answer_behind x behind) (sym i) ∙ g)
  known_error kind NoMemory after k e i g = tt

  pub known_closed : (a : Answer) (target : Option (List ℕ)) (b' : BodyValue) → Known → room ≡ true → answer_behind l.call.kind behind ≡ Ok (Some a) → target ≡ target_of call → b' ≡ record { names = with_assigned b.names target; pixels = b.pixels + pixels; payloads = b.payloads + payload; items = b.items ++ Call (record { line = l; answer = a }) ∷ [] } → call_taken h b n ws ≡ Ok (record { body = b'; pending = None })
  known_closed a target b' k e s t f =
      let asked : pixel_bytes h.head.windows l.call ≡ pixels = ap (λ (w : List WindowSpec). pixel_bytes w l.call) (sym k.windows_are) ∙ sym k.pixels_are in
      let body : Option (List ℕ) → ℕ → ℕ → BodyValue = λ o p q. record { names = with_assigned b.names o; pixels = b.pixels + p; payloads = b.payloads + q; items = b.items ++ Call (record { line = l; answer = a }) ∷ [] } in
      call_closed h b n ws l a (known_line k) (known_room k e) (known_answer (Ok (Some a)) k s)
      ∙ ap (λ (x : BodyValue). let r : Result Taken LogReason = Ok (record { body = x; pending = None }) in r)
      (ap (λ (o : Option (List ℕ)). body o (pixel_bytes h.head.windows l.call) (payload_bytes l.call)) (ap target_of (sym k.call_is) ∙ sym t)
      ∙ ap (λ (p : ℕ). body target p (payload_bytes l.call)) asked
      ∙ ap (λ (q : ℕ). body target pixels q) (sym k.payload_is)
      ∙ sym f)

-- ---- Fronts.
shown : (h : LogHead) (b : BodyValue) (n : ℕ) (ws : List (List ℕ)) (r : Result Shown LogReason) → shown_of h.head.threads h.head.windows n ws ≡ r → front_line h b n ws ≡ (r >>= placed h.head.windows b)
unfolding front_line
shown h b n ws r e = ap (λ (x : Result Shown LogReason). x >>= placed h.head.windows b) e

pub front_refused : (h : LogHead) (b : BodyValue) (n : ℕ) (ws : List (List ℕ)) (r : LogReason) → shown_of h.head.threads h.head.windows n ws ≡ Err r → front_line h b n ws ≡ Err r
front_refused h b n ws r e = shown h b n ws (Err r) e

with_room : (h : LogHead) (b : BodyValue) (n : ℕ) (ws : List (List ℕ)) (s : Shown) (room : Bool) → shown_of h.head.threads h.head.windows n ws ≡ Ok s → has_room_for h.head.windows b s ≡ room → front_line h b n ws ≡ provided room (Trace Limit) (Ok (with_shown h.head.windows b s))
with_room h b n ws s room e i = shown h b n ws (Ok s) e ∙ ap (λ (x : Bool). provided x (Trace Limit) (Ok (with_shown h.head.windows b s))) i

pub front_past : (h : LogHead) (b : BodyValue) (n : ℕ) (ws : List (List ℕ)) (s : Shown) → shown_of h.head.threads h.head.windows n ws ≡ Ok s → has_room_for h.head.windows b s ≡ false → front_line h b n ws ≡ Err (Trace Limit)
front_past h b n ws s e i = with_room h b n ws s false e i

pub front_taken : (h : LogHead) (b : BodyValue) (n : ℕ) (ws : List (List ℕ)) (s : Shown) → shown_of h.head.threads h.head.windows n ws ≡ Ok s → has_room_for h.head.windows b s ≡ true → front_line h b n ws ≡ Ok (with_shown h.head.windows b s)
front_taken h b n ws s e i = with_room h b n ws s true e i
