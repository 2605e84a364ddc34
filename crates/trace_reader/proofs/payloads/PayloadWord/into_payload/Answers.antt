use Rattle.std.proofs.Common.{◌≡◌, ◌∙◌, ◌*◌, ◌/◌, Option, Bor, List, ℕ, sym, ap, arith, length}
use Rattle.std.specs.Option.{option_map}
use Rattle.trace_reader.specs.Payloads.{payload_size, hex_bytes, repeated}
use Rattle.trace_reader.proofs.PayloadLaws.{repeated_size}
use Rattle.trace_reader.proofs.payloads.PayloadWord.into_payload.Goals as goal

pub repeated-requires-clause-few : goal.repeated-requires-clause-few
repeated-requires-clause-few c =
    let e : c.self.inside.count * (length c.in-Some.digits.now / 2) ≡ payload_size c.args.self =
    repeated_size c.self.inside.count c.in-Some.digits.now
    ∙ ap (λ (o : Option (Bor (List ℕ))). payload_size (option_map (λ d. repeated c.self.inside.count (hex_bytes d.now)) o)) (sym c.in-Some.is)
    ∙ ap payload_size c.self.view_is in
    omega (arith, e, c.requires)
