use Rattle.std.proofs.Common.{◌≡◌}
use Rattle.vsm_core.specs.Vectors.{highest}
use Rattle.secure_intr.proofs.Tops.{highest_within}
use Rattle.secure_intr.proofs.sets.highest.Given as goal

abbrev pub invariant-loop-index : goal.invariant-loop-index
invariant-loop-index l = highest l.set ≡ highest_within l.set l.index
