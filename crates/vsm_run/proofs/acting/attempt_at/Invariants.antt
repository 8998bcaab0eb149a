use Rattle.std.proofs.Common.{◌≡◌, ℕ, ◌+◌, ◌-◌, Option, Some, None, length}
use Rattle.vsm_core.specs.declared.request.Heard.{Heard}
use Rattle.vsm_core.specs.Processor.{operation_at}
use Rattle.vsm_run.proofs.Finishes.{IsOn}
use Rattle.vsm_run.proofs.acting.attempt_at.Given as goal

abbrev pub invariant-turns : goal.invariant-turns
invariant-turns l = record {
  on : IsOn (operation_at l.program l.fn.cpu.state) l.fn.cpu l.fn.fabric.fabric.words l.fn.partition l.fn.fabric.limits l.cpu l.fabric.fabric l.partition;
  limits : l.fabric.limits ≡ l.fn.fabric.limits;
}

-- a reply comes once
abbrev replies_left : Option Heard → ℕ
replies_left None = 1
replies_left (Some heard) = 0

abbrev pub decreases-turns : goal.decreases-turns
decreases-turns l = replies_left l.cpu.heard + ((l.cpu.first + 39) - length l.cpu.seen)
