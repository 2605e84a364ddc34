use Rattle.std.proofs.Common.{◌≡◌, ◌∙◌, ◌<◌, ◌/◌, ◌^◌, true, Some, IfSome, Option, Bor, List, ℕ, subst, sym, ap, arith, length}
use Rattle.std.specs.Option.{option_map}
use Rattle.trace_reader.specs.Payloads.{are_byte_digits, payload_size, hex_bytes, repeated}
use Rattle.trace_reader.proofs.PayloadLaws.{product_small, repeated_size}
use Rattle.trace_reader.proofs.payloads.PayloadWord.size.Goals as goal

short : (digits : Option (Bor (List ℕ))) (d : Bor (List ℕ)) → digits ≡ Some d → IfSome digits (λ x. (are_byte_digits x.now ≡ true) × (length x.now < 2 ^ 64)) → length d.now < 2 ^ 64
short digits d e h = (let P : Option (Bor (List ℕ)) → Type 0 = λ o. IfSome o (λ x. (are_byte_digits x.now ≡ true) × (length x.now < 2 ^ 64)) in subst P e h).1

pub overflow_cast-result-in-Some : goal.overflow_cast-result-in-Some
overflow_cast-result-in-Some c = let l = short c.self.inside.digits c.in-Some.digits c.in-Some.is c.self.invariant.1 in omega (arith, l)

pub overflow_mul-result : goal.overflow_mul-result
overflow_mul-result c =
    let l = short c.self.inside.digits c.in-Some.digits c.in-Some.is c.self.invariant.1 in
    omega (arith, product_small c.self.inside.count (length c.in-Some.digits.now / 2) c.self.invariant.0 (omega (arith, l)))

pub returns-in-Some : goal.returns-in-Some
returns-in-Some c = rw (← c.self.view_is)
    (repeated_size c.self.inside.count c.in-Some.digits.now
    ∙ ap (λ (o : Option (Bor (List ℕ))). payload_size (option_map (λ d. repeated c.self.inside.count (hex_bytes d.now)) o)) (sym c.in-Some.is))
