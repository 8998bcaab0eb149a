use Rattle.std.proofs.Common.{◌≡◌, ◌∙◌, true, false, Some, ap, refl, sym}
use Rattle.cpu.specs.Sound.{view_of}
use Rattle.cpu.specs.Turns.{asked_next, request_at}
use Rattle.vsm_core.specs.Processor.{start_rest}
use Rattle.cpu.proofs.Waking.{looked-rest}
use Rattle.cpu.proofs.processor.Cpu.wanted.Goals as goal

pub returns-then-not-self-clause-request : goal.returns-then-not-self-clause-request
returns-then-not-self-clause-request c =
    let i = c.self.inside in
    let off : i.started ≡ false = c.if-not-self.true in
    let owes : i.owes ≡ true = rw (← c.self.view_is) at c.requires in
    let w = c.self.invariant.waiting off in
    let one = (c.self.invariant.owing owes).looked off in
    let left : asked_next (view_of i) ≡ request_at (start_rest (view_of i)) = rw off refl in
    rw (← c.self.view_is) (left ∙ ap request_at (looked-rest (view_of i) w one) ∙ ap Some (sym c.fetch.ensures))
