use Rattle.std.proofs.Common.{◌≡◌, ◌+◌, ◌<◌, ◌∙◌, sym, ap, subst, arith, map, ℕ, List, Bor, [], ◌∷◌, ◌++◌, length, Option, Some, Result, Ok}
use Rattle.std.specs.Option.{option_map}
use Rattle.egl_calls.specs.declared.kinds.Kind.{Kind}
use Rattle.trace_reader.specs.Assigned.{with_assigned}
use Rattle.trace_reader.specs.Body.{target_of}
use Rattle.log_reader.specs.declared.answers.Answer.{Answer}
use Rattle.log_reader.specs.declared.items.Called.{Called}
use Rattle.log_reader.specs.declared.items.Item.{Item}
use Rattle.log_reader.specs.declared.items.Item.TheVariants.{Call}
use Rattle.log_reader.specs.declared.reasons.LogReason.{LogReason}
use Rattle.log_reader.specs.Items.{BodyValue, answer_behind}
use Rattle.log_reader.specs.Order.{AreBefore}
use Rattle.log_reader.proofs.ItemLaws.{IsKnown, known_closed, known_error}
use Rattle.log_reader.proofs.OrderLaws.{before_named}
use Rattle.log_reader.proofs.bodies.Body.take_call.Goals as goal

pub returns-in-Err-clause-value : goal.returns-in-Err-clause-value
returns-in-Err-clause-value c =
    let texts : List (Bor (List ℕ)) → List (List ℕ) = map (λ (w : Bor (List ℕ)). w.now) in
    let ws : List (List ℕ) = texts c.args.words.now in
    let call : List (List ℕ) = texts c.new-call_words.result.words.now in
    let behind : Option (List (List ℕ)) = option_map (λ (x : Bor (List (Bor (List ℕ)))). texts x.now) c.split_answer-parts.result.answer in
    let known : IsKnown c.args.head.now c.args.self.now c.args.number c.threads.result c.self.inside.names ws call behind c.windows.result.now c.in-Ok.line c.pixel_bytes-pixels.result c.payload_bytes-payload.result c.has_room.result = record {
      threads_are = c.threads.ensures.threads;
      names_are = ap (λ (b : BodyValue). b.names) c.self.view_is;
      call_is = ap texts c.new-call_words.ensures ∙ c.split_answer-parts.ensures.call;
      behind_is = c.split_answer-parts.ensures.answer;
      windows_are = c.windows.ensures;
      line_is = c.in-Ok.ensures.line;
      pixels_are = c.pixel_bytes-pixels.ensures;
      payload_is = c.payload_bytes-payload.ensures;
      room_is = c.has_room.ensures.value;
    } in
    known_error c.args.head.now c.args.self.now c.args.number c.threads.result c.self.inside.names ws call behind c.windows.result.now c.in-Ok.line c.pixel_bytes-pixels.result c.payload_bytes-payload.result c.has_room.result
    c.kind.result c.in-Err.error c.args.self.now known c.if-not-has_room.false c.kind.ensures c.in-Err.ensures

pub returns-clause-value : goal.returns-clause-value
returns-clause-value c =
    let texts : List (Bor (List ℕ)) → List (List ℕ) = map (λ (w : Bor (List ℕ)). w.now) in
    let ws : List (List ℕ) = texts c.args.words.now in
    let call : List (List ℕ) = texts c.new-call_words.result.words.now in
    let behind : Option (List (List ℕ)) = option_map (λ (x : Bor (List (Bor (List ℕ)))). texts x.now) c.split_answer-parts.result.answer in
    let known : IsKnown c.args.head.now c.args.self.now c.args.number c.threads.result c.self.inside.names ws call behind c.windows.result.now c.in-Ok.line c.pixel_bytes-pixels.result c.payload_bytes-payload.result c.has_room.result = record {
      threads_are = c.threads.ensures.threads;
      names_are = ap (λ (b : BodyValue). b.names) c.self.view_is;
      call_is = ap texts c.new-call_words.ensures ∙ c.split_answer-parts.ensures.call;
      behind_is = c.split_answer-parts.ensures.answer;
      windows_are = c.windows.ensures;
      line_is = c.in-Ok.ensures.line;
      pixels_are = c.pixel_bytes-pixels.ensures;
      payload_is = c.payload_bytes-payload.ensures;
      room_is = c.has_room.ensures.value;
    } in
    let a : Answer = c.in-Ok-Some.answer in
    let called : Item = Call (record { line = c.in-Ok.line; answer = a }) in
    let p : ℕ = c.pixel_bytes-pixels.result in
    let q : ℕ = c.payload_bytes-payload.result in
    let old : BodyValue = c.args.self.now in
    let target : Option (List ℕ) = option_map (λ (w : Bor (List ℕ)). w.now) c.target.result in
    let v : BodyValue = record { names = c.self-2.inside.names; pixels = c.self-2.inside.pixels; payloads = c.self-2.inside.payloads; items = c.self-2.inside.items.items } in
    let named : BodyValue = record { names = with_assigned old.names target; pixels = old.pixels; payloads = old.payloads; items = old.items } in
    let pushed : v ≡ named = c.self-2.view_is ∙ c.in-Ok-push_name.ensures in
    let after : BodyValue = record { names = v.names; pixels = v.pixels + p; payloads = v.payloads + q; items = c.push.new.self.items } in
    let whole : after ≡ record { names = with_assigned old.names target; pixels = old.pixels + p; payloads = old.payloads + q; items = old.items ++ called ∷ [] } =
    ap (λ (xs : List Item). let b : BodyValue = record { names = v.names; pixels = v.pixels + p; payloads = v.payloads + q; items = xs } in b) c.in-Ok-push.ensures.items
    ∙ ap (λ (x : BodyValue). let b : BodyValue = record { names = x.names; pixels = x.pixels + p; payloads = x.payloads + q; items = x.items ++ called ∷ [] } in b) pushed in
    let given : c.in-Ok-Some.field-0 ≡ Some a = cc in
    known_closed c.args.head.now c.args.self.now c.args.number c.threads.result c.self.inside.names ws call behind c.windows.result.now c.in-Ok.line p q c.has_room.result
    a target after known c.if-not-has_room.false (ap (λ (k : Kind). answer_behind k behind) (sym c.kind.ensures) ∙ c.in-Ok-Some.ensures ∙ ap (λ (o : Option Answer). let r : Result (Option Answer) LogReason = Ok o in r) given) c.target.ensures whole

pub returns-clause-order : goal.returns-clause-order
returns-clause-order c =
    let h = c.args.head.now.head in
    let texts : List (Bor (List ℕ)) → List (List ℕ) = map (λ (w : Bor (List ℕ)). w.now) in
    let old : BodyValue = c.args.self.now in
    let one : Called = record { line = c.in-Ok.line; answer = c.in-Ok-Some.answer } in
    let target : Option (List ℕ) = option_map (λ (w : Bor (List ℕ)). w.now) c.target.result in
    let v : BodyValue = record { names = c.self-2.inside.names; pixels = c.self-2.inside.pixels; payloads = c.self-2.inside.payloads; items = c.self-2.inside.items.items } in
    let named : BodyValue = record { names = with_assigned old.names target; pixels = old.pixels; payloads = old.payloads; items = old.items } in
    let pushed : v ≡ named = c.self-2.view_is ∙ c.in-Ok-push_name.ensures in
    let P : BodyValue → Type 0 = λ b. AreBefore h.threads h.windows c.args.number (length b.names) b.items in
    let within : c.in-Ok.line.thread < h.threads = omega (arith, c.in-Ok.ensures.thread, c.threads.ensures.threads) in
    let names : c.self.inside.names ≡ old.names = ap (λ (b : BodyValue). b.names) c.self.view_is in
    let items : c.self.inside.items.items ≡ old.items = ap (λ (b : BodyValue). b.items) c.self.view_is in
    before_named h.threads h.windows c.args.number c.self.inside.names c.self-2.inside.names (target_of (texts c.new-call_words.result.words.now)) c.self.inside.items.items c.push.new.self.items one
    (subst P (sym c.self.view_is) c.requires) within c.in-Ok.ensures.order c.in-Ok.ensures.new c.in-Ok.ensures.assigns
    (ap (λ (b : BodyValue). b.names) pushed ∙ ap (λ (ns : List (List ℕ)). with_assigned ns target) (sym names) ∙ ap (with_assigned c.self.inside.names) c.target.ensures)
    (c.in-Ok-push.ensures.items ∙ ap (λ (xs : List Item). xs ++ Call one ∷ []) (ap (λ (b : BodyValue). b.items) pushed ∙ sym items))
