use Rattle.std.proofs.Common.{◌≡◌, ◌+◌, drop}
use Rattle.guest_script.specs.Schedules.{all_turns}
use Rattle.vsm_run.proofs.opening.all_turns.Given as goal

abbrev pub invariant-loop-entries : goal.invariant-loop-entries
invariant-loop-entries l = l.total + all_turns (drop l.entries-index l.lines) ≡ all_turns l.lines
