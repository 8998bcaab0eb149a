use Rattle.std.proofs.Common.{◌≡◌, take}
use Rattle.guest_script.proofs.again.schedule_again.Given as goal

abbrev pub invariant-loop-line : goal.invariant-loop-line
invariant-loop-line l = l.all ≡ take l.line-index l.schedule
