use Rattle.std.proofs.Common.{refl, sym, ap, ◌∙◌, length}
use Rattle.std.specs.Prelude.{option_copied}
use Rattle.slab.specs.Slab.{with_value as with_kept}
use Rattle.numbered.specs.Lists.{NumberedValue, at, with_value}
use Rattle.numbered.specs.Maps.{held, through}
use Rattle.numbered.proofs.ListedLaws.{at_listed, held_at, written, on_some}
use Rattle.numbered.proofs.numbered.Numbered.get_mut.Goals as goal

pub invariant_of-self-lent : goal.invariant_of-self-lent
invariant_of-self-lent g c = λ _. (λ w. ((written c.self.inside.end c.self.inside.live c.self.inside.room c.self.inside.table c.self.inside.values (with_kept c.self.inside.values c.in-Some.key.now w) c.args.n c.in-Some.key.now w c.self.invariant.0 (sym c.get.ensures ∙ ap option_copied c.in-Some.is) refl).numbered, c.self.invariant.1), c.self.invariant)

pub returns-in-Some : goal.returns-in-Some
returns-in-Some g c =
    let key = sym c.get.ensures ∙ ap option_copied c.in-Some.is in
    ((refl, λ w. on_some _ c.get_mut.result (ap (λ xs. record { items = xs; room = c.self.inside.room; homes = length c.self.inside.table.homes.items; most = c.self.inside.most }) (written c.self.inside.end c.self.inside.live c.self.inside.room c.self.inside.table c.self.inside.values (with_kept c.self.inside.values c.in-Some.key.now w) c.args.n c.in-Some.key.now w c.self.invariant.0 key refl).listed ∙ ap (λ (v : NumberedValue g.row.X.Denot). with_value v c.args.n w) c.self.view_is), c.self.view_is), record { writes_back = tt; value = c.get_mut.ensures.value ∙ sym (held_at c.self.inside.table c.self.inside.values c.args.n c.in-Some.key.now key) ∙ sym (at_listed c.self.inside.end (held c.self.inside.table c.self.inside.values) c.self.invariant.0.below c.args.n) ∙ ap (λ (v : NumberedValue g.row.X.Denot). at v.items c.args.n) c.self.view_is })

pub returns-in-None : goal.returns-in-None
returns-in-None g c = ((refl, λ w. tt, c.self.view_is), record { writes_back = tt; value = sym (ap (through c.self.inside.values) (sym c.get.ensures ∙ ap option_copied c.in-None.is)) ∙ sym (at_listed c.self.inside.end (held c.self.inside.table c.self.inside.values) c.self.invariant.0.below c.args.n) ∙ ap (λ (v : NumberedValue g.row.X.Denot). at v.items c.args.n) c.self.view_is })
