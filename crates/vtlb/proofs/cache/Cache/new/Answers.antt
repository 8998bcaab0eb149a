use Rattle.vtlb.proofs.Finds.{fits-new}
use Rattle.vtlb.proofs.cache.Cache.new.Goals as goal

pub invariant_of-result : goal.invariant_of-result
invariant_of-result c = rw (c.nothing.ensures, c.nothing-2.ensures, c.new.ensures) fits-new
