use Rattle.std.proofs.Common.{◌≡◌}
use Rattle.secure_intr.proofs.Joining.{partly}
use Rattle.secure_intr.proofs.sets.join.Given as goal

abbrev pub invariant-loop-index : goal.invariant-loop-index
invariant-loop-index l = l.set ≡ partly l.index l.fn.set l.others
