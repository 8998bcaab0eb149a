use Rattle.vtlb.proofs.Finds.{fits-dropped}
use Rattle.vtlb.proofs.cache.Cache.drop_page.Goals as goal

pub invariant_of-self : goal.invariant_of-self
invariant_of-self c =
    rw (c.put.ensures, c.add.ensures, c.without-new.ensures, c.at-old.ensures, c.place_of-place.ensures)
    (fits-dropped c.self.inside.slots c.self.inside.past c.args.level c.args.page c.self.invariant)
