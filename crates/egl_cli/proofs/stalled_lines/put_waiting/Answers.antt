use Rattle.std.proofs.Common.{◌≡◌, ◌+◌, ◌-◌, ◌<◌, ◌++◌, ◌∙◌, List, ℕ, ap, arith, sym}
use Rattle.std.proofs.lemmas.List.{append-nil}
use Rattle.std.specs.List.{flat_map, range_with_len}
use Rattle.egl_cli.specs.StalledLines.{stalled_line, stalled_lines, stalled_at}
use Rattle.journal_text.proofs.TextLaws.{next_number}
use Rattle.egl_cli.proofs.stalled_lines.put_waiting.Goals as goal

pub each-preserved : goal.each-preserved
each-preserved c journal w =
    let t = c.args.session.now.trace in
    let thread = c.each.thread in
    let below : thread < t.threads = omega (arith, c.each-test.true, c.threads-threads.ensures) in
    ap (λ (r : List ℕ). r ++ flat_map (stalled_at t journal) (range_with_len (thread + 1) (t.threads - (thread + 1)))) (c.in_ok-put_stalled_line.ensures ∙ ap (λ n. c.each.out ++ stalled_line thread n) (c.next.ensures.learnt journal w))
    ∙ next_number (stalled_at t journal) c.each.out thread t.threads below
    ∙ c.each.invariant journal w

pub returns : goal.returns
unfolding stalled_lines
returns c journal w =
    let t = c.args.session.now.trace in
    let none : t.threads - c.each.thread ≡ 0 = omega (arith, c.each-test.false, c.threads-threads.ensures) in
    sym (append-nil c.each.out)
    ∙ ap (λ (k : ℕ). c.each.out ++ flat_map (stalled_at t journal) (range_with_len c.each.thread k)) (sym none)
    ∙ c.each.invariant journal w
