use Rattle.std.proofs.Common.{◌≡◌, ℕ, ◌/◌, ◌%◌, ◌==◌, length, ◌∙◌, arith, rules, Ok}
use Rattle.std.proofs.lemmas.Bool.{and_parts, eqb-true}
use Rattle.std.proofs.lemmas.Iterator.{items_from_collect, YieldsList-from_map, YieldsList-from_slice}
use Rattle.std.proofs.lemmas.Iterator.Consumers.{YieldsList-at}
use Rattle.std.specs.List.{list_all}
use Rattle.trace_reader.specs.Hexadecimals.{is_hex_digit}
use Rattle.trace_reader.proofs.PayloadLaws.{byte_in, pairs_decoded}
use Rattle.trace_reader.proofs.payloads.decoded.Goals as goal

pub returns-in-Ok : goal.returns-in-Ok
returns-in-Ok c =
    let digits = and_parts (length c.args.digits.now % 2 == 0) (list_all is_hex_digit c.args.digits.now) c.requires in
    let even : length c.args.digits.now % 2 ≡ 0 = eqb-true _ _ digits.0 in
    items_from_collect {E = ℕ} (Ok c.in-Ok.bytes) c.in-Ok.ensures.ran
    (YieldsList-from_map _ byte_in (YieldsList-at c.map.ensures.source (YieldsList-from_slice _ (c.iter.ensures.rest ∙ c.as_chunks.ensures.front))) c.map.ensures.closure (λ x r q k. search rules))
    ∙ pairs_decoded (length c.args.digits.now / 2) c.args.digits.now (omega (arith, even)) digits.1
