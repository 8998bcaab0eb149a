use Rattle.vsm_laws.proofs.Away.{away-keeps, configuration-names-none}
use Rattle.vsm_laws.proofs.registers.own_registers_come_back.Goals as goal

pub returns-clause-back : goal.returns-clause-back
returns-clause-back c = away-keeps

pub returns-clause-configuration : goal.returns-clause-configuration
returns-clause-configuration c = configuration-names-none
