use Rattle.std.proofs.Common.{◌≡◌, ◌-◌}
use Rattle.vsm_core.specs.Interrupts.{those_in}
use Rattle.attempt.proofs.hypercall.next_in.Given as goal

abbrev pub invariant-loop-p : goal.invariant-loop-p
invariant-loop-p l = those_in l.bits l.first (l.past - l.first) ≡ those_in l.bits l.p (l.past - l.p)
