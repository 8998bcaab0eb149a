use Rattle.std.proofs.Common.{◌≡◌, ◌+◌, drop}
use Rattle.guest_script.specs.Schedules.{turns_of}
use Rattle.vsm_run.proofs.opening.turns_of.Given as goal

abbrev pub invariant-loop-turns : goal.invariant-loop-turns
invariant-loop-turns l = l.total + turns_of (drop l.turns-index l.entries) ≡ turns_of l.entries
