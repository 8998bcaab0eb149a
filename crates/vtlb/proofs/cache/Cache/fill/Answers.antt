use Rattle.page_walk.specs.Told.{translation_of}
use Rattle.vsm_core.specs.Fills.{Fill}
use Rattle.vtlb.proofs.Finds.{fits-filled}
use Rattle.vtlb.proofs.cache.Cache.fill.Goals as goal

pub invariant_of-self : goal.invariant_of-self
invariant_of-self c =
    let made : Fill = record { at = c.args.page; to = translation_of c.args.to; mask = c.args.mask; generation = c.args.generation } in
    rw (c.put.ensures, c.add.ensures, c.slot_of-done.ensures, c.place_of.ensures)
    (fits-filled c.self.inside.slots c.self.inside.past c.args.level c.slot_of-slot.result made c.slot_of-slot.ensures c.self.invariant)
