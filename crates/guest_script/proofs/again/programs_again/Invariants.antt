use Rattle.std.proofs.Common.{◌≡◌, take}
use Rattle.guest_script.proofs.again.programs_again.Given as goal

abbrev pub invariant-loop-program : goal.invariant-loop-program
invariant-loop-program l = l.all ≡ take l.program-index l.programs
