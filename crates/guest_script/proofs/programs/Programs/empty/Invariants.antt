use Rattle.std.proofs.Common.{◌≡◌}
use Rattle.guest_script.specs.Programs.{nothings}
use Rattle.guest_script.proofs.programs.Programs.empty.Given as goal

abbrev pub invariant-loop : goal.invariant-loop
invariant-loop l = l.items.items ≡ nothings l.counter
