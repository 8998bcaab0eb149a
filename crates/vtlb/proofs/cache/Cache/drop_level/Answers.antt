use Rattle.vtlb.proofs.Finds.{fits-emptied}
use Rattle.vtlb.proofs.cache.Cache.drop_level.Goals as goal

pub invariant_of-self : goal.invariant_of-self
invariant_of-self c = rw (c.empty.ensures, c.add.ensures) (fits-emptied c.self.inside.slots c.self.inside.past c.args.level c.self.invariant)
