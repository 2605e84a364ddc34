use Rattle.std.proofs.Common.{refl}
use Rattle.display_table.proofs.TableLaws.{no_handles, no_places}
use Rattle.display_table.proofs.displays.Displays.keyed.Goals as goal

pub returns : goal.returns
returns c = rw (c.with_hasher.ensures.empty, c.with_hasher-2.ensures.empty, no_handles c.args.next_handle) refl

pub invariant_of-result : goal.invariant_of-result
invariant_of-result c = rw (c.with_hasher.ensures.empty, c.with_hasher-2.ensures.empty) (no_places c.args.next_handle c.requires.low c.requires.high)
