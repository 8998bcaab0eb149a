use Rattle.std.proofs.Common.{◌≡◌, ◌-◌, ◌^◌, min, take}
use Rattle.guest_script.specs.Schedules.{turns_of}
use Rattle.guest_script.proofs.schedule.turns_of.Given as goal

abbrev pub invariant-loop-t : goal.invariant-loop-t
invariant-loop-t l = l.total ≡ min (turns_of (take l.t-index l.turns)) (2 ^ 64 - 1)
