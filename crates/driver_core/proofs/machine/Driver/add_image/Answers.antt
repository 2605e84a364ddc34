use Rattle.driver_facts.proofs.ImageLaws.{image_leads}
use Rattle.driver_facts.proofs.RootLaws.{roots_more}
use Rattle.driver_core.proofs.machine.Driver.add_image.Goals as goal

pub invariant_of-self-2 : goal.invariant_of-self-2
invariant_of-self-2 c = rw c.in_ok-handle.ensures.made (roots_more c.self.inside.tables.displays.handles c.self.inside.tables.threads.records _ c.self.inside.tables.objects.holds c.make_over.new.self.holds c.self.invariant (λ roots k. rw c.len-object.ensures.value (c.make_over.ensures.held roots (rw c.in_ok-reserve.ensures.holds k))))

pub make_over-requires-clause-leads : goal.make_over-requires-clause-leads
make_over-requires-clause-leads c = rw c.in_ok-reserve.ensures.objects (image_leads c.self.inside.tables.objects.objects c.args.storage (rw (← c.self.view_is) at c.requires.storage))
