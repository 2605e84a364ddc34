use Rattle.std.proofs.Common.{◌≡◌, ℕ, ◌*◌, ◌/◌, ◌%◌, List, ◌++◌, length, take, ap, ◌∙◌}
use Rattle.trace_reader.specs.Payloads.{repeated}
use Rattle.trace_reader.proofs.PayloadLaws.{front_within, joined_blocks}
use Rattle.trace_reader.proofs.payloads.repeated.Goals as goal

pub split_at-requires : goal.split_at-requires
split_at-requires c =
    front_within c.args.count c.in_ok-times.times c.args.digits.now c.deref-2.result.now c.in_ok-times.ensures.some
    (c.deref-2.ensures.value ∙ c.in_ok-times.ensures.bytes ∙ ap (λ (xs : List ℕ). repeated c.in_ok-times.times xs) c.in_ok-block.ensures)

pub returns : goal.returns
returns c =
    let front : c.in_ok-bytes.bytes ++ repeated (c.args.count / c.in_ok-times.times) c.deref.result.now ≡ repeated (c.args.count / c.in_ok-times.times) c.double_to_block.new.bytes.items = ap (λ (xs : List ℕ). xs ++ repeated (c.args.count / c.in_ok-times.times) c.deref.result.now) c.in_ok-bytes.ensures ∙ ap (λ (xs : List ℕ). repeated (c.args.count / c.in_ok-times.times) xs) c.deref.ensures.value in
    let back : c.split_at.result.0.now ≡ take (c.args.count % c.in_ok-times.times * (length c.args.digits.now / 2)) c.double_to_block.new.bytes.items = c.split_at.ensures.front ∙ ap (λ (xs : List ℕ). take (c.args.count % c.in_ok-times.times * (length c.args.digits.now / 2)) xs) c.deref-2.ensures.value in
    joined_blocks c.args.count c.in_ok-times.times c.args.digits.now c.double_to_block.new.bytes.items _ c.in_ok-times.ensures.some
    (c.in_ok-times.ensures.bytes ∙ ap (λ (xs : List ℕ). repeated c.in_ok-times.times xs) c.in_ok-block.ensures)
    (c.in_ok-extend.ensures.ok
    ∙ ap (λ (xs : List ℕ). xs ++ c.split_at.result.0.now) (c.in_ok-push_copies.ensures ∙ front)
    ∙ ap (λ (xs : List ℕ). repeated (c.args.count / c.in_ok-times.times) c.double_to_block.new.bytes.items ++ xs) back)
