use Rattle.std.proofs.Common.{rules, sym, ap, ◌∙◌, ◌∷◌, Some}
use Rattle.atomic_table.specs.Table.{rest}
use Rattle.turn_lock.proofs.Drawing.{draws}
use Rattle.turn_lock.proofs.Looking.{looks, finds_in_slot}
use Rattle.turn_lock.proofs.turns.Turns.take_turn.Goals as goal

pub fetch_add-ticket-requires : goal.fetch_add-ticket-requires
fetch_add-ticket-requires g c = (search rules, search rules, draws _ _ _ _ _ c.requires.free.1 c.requires.free.2)

pub load-requires : goal.load-requires
load-requires g c =
    let i = c.loop.invariant in
    let d = c.fetch_add-ticket.ensures in
    let is = i.2 ∙ d.2.2 in
    (i.0 ∙ d.0 ∙ c.requires.lock.0, search rules, looks _ _ _ _ d.2.0 _ (ap (λ me. me.0.live) is ∙ c.requires.free.0) (ap (λ me. me.0.ticket) is) (ap (λ me. me.0.in_turn) is ∙ c.requires.free.2) (ap (λ me. me.1) is ∙ c.requires.free.3))

pub exchange-found-requires : goal.exchange-found-requires
exchange-found-requires g c =
    let i = c.loop.invariant in
    let d = c.fetch_add-ticket.ensures in
    let is = i.2 ∙ d.2.2 in
    let came = (c.load.ensures.2 d.2.0 (ap (λ me. me.0.ticket) is)).1 (c.if-load-ticket.true ∙ d.2.1) in
    (c.load.ensures.0 ∙ i.0 ∙ d.0 ∙ c.requires.lock.0, (Some came.0, ap (λ me. me.1) came.1 ∙ ap (λ l. (0, Some came.0) ∷ l) (sym (ap (λ me. rest me.1) came.1))))

pub returns-then-load-ticket-clause-found : goal.returns-then-load-ticket-clause-found
returns-then-load-ticket-clause-found g c =
    let d = c.fetch_add-ticket.ensures in
    let is = c.loop.invariant.2 ∙ d.2.2 in
    let come = (c.load.ensures.2 d.2.0 (ap (λ me. me.0.ticket) is)).1 (c.if-load-ticket.true ∙ d.2.1) in
    finds_in_slot g.S.Replays.meaning c.args.self.now.table.shared.key c.args.pass.now.seat.me.0 c.loop.pass.seat.me c.load.new.seat.me d.2.0 c.exchange-found.result c.in-Some-found.value _
    c.requires.lock.1 (ap (λ me. me.0) is) come c.exchange-found.ensures.2 c.in-Some-found.is
