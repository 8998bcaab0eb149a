use Rattle.std.proofs.Common.{◌≡◌, ◌∙◌, true, false, rules, arith}
use Rattle.std.proofs.lemmas.Bool.Decides.{nat_tests}
use Rattle.vsm_core.specs.Interrupts.{is_in}
use Rattle.attempt.proofs.Sendings.{those-next, those-skip}
use Rattle.attempt.proofs.hypercall.next_in.Goals as goal

pub returns-then-bits-p-eq1-clause-next : goal.returns-then-bits-p-eq1-clause-next
returns-then-bits-p-eq1-clause-next c =
    let is : is_in c.args.bits c.loop-p.p ≡ true = search rules in
    c.loop-p.invariant ∙ those-next c.args.bits c.loop-p.p c.args.past c.loop-p-test.true is

pub loop-p-preserved : goal.loop-p-preserved
loop-p-preserved c =
    let is : is_in c.args.bits c.loop-p.p ≡ false = grind (arith, nat_tests) in
    c.loop-p.invariant ∙ those-skip c.args.bits c.loop-p.p c.args.past c.loop-p-test.true is
