use Rattle.vsm_laws.proofs.FewChanges.{attempt-changes, none-changes, switch-keeps}
use Rattle.vsm_laws.proofs.registers.attempts_change_few_registers.Goals as goal

pub returns-clause-one : goal.returns-clause-one
returns-clause-one c = attempt-changes

pub returns-clause-all : goal.returns-clause-all
returns-clause-all c = none-changes

pub returns-clause-switches : goal.returns-clause-switches
returns-clause-switches c = switch-keeps
