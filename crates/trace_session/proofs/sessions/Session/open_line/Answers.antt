use Rattle.std.proofs.Common.{ℕ, ap, sym, ◌∙◌, Option, Some}
use Rattle.std.proofs.lemmas.Option.{slice_get-get_or}
use Rattle.trace_session.proofs.AssigningLaws.{assigning_line_is}
use Rattle.trace_session.proofs.sessions.Session.open_line.Goals as goal

pub returns-clause-line : goal.returns-clause-line
returns-clause-line c =
    let h = c.in_ok-place.ensures.lookup in
    let places = c.as_slice-2.result.now in
    let place = c.in_ok-place.field-0.now in
    rw (← c.self.view_is) (assigning_line_is _ c.in_ok-line.ensures.trace places (c.as_slice-2.ensures.value ∙ c.self.invariant.assigning) c.args.variable place c.in_ok-line.line.now
    (slice_get-get_or places c.args.variable place h.3.0 ∙ ap {B = Option ℕ} (λ (n : ℕ). Some n) (sym h.1)) (sym c.in_ok-line.ensures.line))
