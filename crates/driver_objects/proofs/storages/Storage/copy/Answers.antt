use Rattle.driver_objects.proofs.storages.Storage.copy.Goals as goal

pub invariant_of-self : goal.invariant_of-self
invariant_of-self c = record { wide = c.self.invariant.wide; high = c.self.invariant.high; image = c.recopy_stored.ensures.fits _ _ _ _ c.self.invariant.image }
