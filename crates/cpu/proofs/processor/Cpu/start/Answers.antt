use Rattle.std.proofs.Common.{◌≡◌, false, true, None, refl}
use Rattle.cpu.specs.Sound.{view_of}
use Rattle.cpu.proofs.Waking.{begun-by}
use Rattle.cpu.proofs.processor.Cpu.start.Goals as goal

pub returns-clause-begun : goal.returns-clause-begun
returns-clause-begun c =
    let i = c.self.inside in
    let waits : i.started ≡ false = rw (← c.self.view_is) at c.requires.waits in
    let owes : i.owes ≡ true = rw (← c.self.view_is) at c.requires.owes in
    let w = c.self.invariant.waiting waits in
    let one = (c.self.invariant.owing owes).looked waits in
    let told = rw (c.leave.ensures.log, c.start.ensures) at (c.leave.ensures.turn None) in
    rw (← c.self.view_is, c.leave.ensures.log, c.place_of-from.ensures, c.start.ensures)
    (begun-by (view_of i) c.args.reply.now _ _ w one (rw (w.op, w.heard, w.again) refl) told)
