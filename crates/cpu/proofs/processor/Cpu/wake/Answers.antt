use Rattle.std.proofs.Common.{arith, ◌≡◌, ◌<◌, ◌≤◌, false, length, refl}
use Rattle.cpu.specs.Sound.{view_of}
use Rattle.cpu.proofs.Waking.{woken-asks, woken-looks}
use Rattle.cpu.proofs.processor.Cpu.wake.Goals as goal

pub returns-then-self-as_slice-clause-woken : goal.returns-then-self-as_slice-clause-woken
returns-then-self-as_slice-clause-woken g c =
    let i = c.self.inside in
    let off : i.started ≡ false = rw (← c.self.view_is) at c.requires.waits in
    let w = c.self.invariant.waiting off in
    let more : i.log.first < length i.log.seen.0 = rw c.as_slice.ensures at c.if-self-as_slice.true in
    let one : length i.log.seen.0 ≡ 1 = omega (arith, more, w.few) in
    rw (← c.self.view_is) (woken-asks (view_of i) _ _ off w one refl)

pub returns-clause-woken : goal.returns-clause-woken
returns-clause-woken g c =
    let i = c.self.inside in
    let w = c.self.invariant.waiting (rw (← c.self.view_is) at c.requires.waits) in
    let done : length i.log.seen.0 ≤ i.log.first = rw c.as_slice.ensures at c.if-self-as_slice.false in
    let none : length i.log.seen.0 ≡ 0 = omega (arith, done, w.first) in
    rw (← c.self.view_is, c.see.ensures.log)
    (woken-looks (view_of i) _ _ _ c.take-bits.result w none c.take-bits.ensures c.if-bits-eq0.false refl)
