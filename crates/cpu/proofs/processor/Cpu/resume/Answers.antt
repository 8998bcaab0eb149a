use Rattle.std.proofs.Common.{None}
use Rattle.cpu.proofs.Turning.{accepted-by, in-reply, replied-sound}
use Rattle.cpu.proofs.processor.Cpu.resume.Goals as goal

pub invariant_of-self : goal.invariant_of-self
invariant_of-self c =
    let on = in-reply _ _ _ c.self.view_is c.self.invariant c.requires.started c.requires.owes c.in-Want.ensures.at in
    rw c.as_slice.ensures (replied-sound _ _ _ c.args.reply on c.replied.ensures.op c.replied.ensures.rest
    c.self.invariant
    c.replied.ensures.is)

pub returns-clause-accepted : goal.returns-clause-accepted
returns-clause-accepted c =
    let on = in-reply _ _ _ c.self.view_is c.self.invariant c.requires.started c.requires.owes c.in-Want.ensures.at in
    rw (← c.self.view_is) (accepted-by _ _ _ c.args.reply on c.replied.ensures.op c.replied.ensures.rest _ _
    c.replied.ensures.is (rw c.as_slice.ensures at c.settle.ensures.new) (rw c.as_slice.ensures at
    (c.settle.ensures.turn None)))
