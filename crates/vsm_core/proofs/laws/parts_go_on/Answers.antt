use Rattle.vsm_core.proofs.KeptElements.{part-registers, part-start, part-count}
use Rattle.vsm_core.proofs.laws.parts_go_on.Goals as goal

pub returns-clause-registers : goal.returns-clause-registers
returns-clause-registers c = part-registers

pub returns-clause-start : goal.returns-clause-start
returns-clause-start c = part-start

pub returns-clause-count : goal.returns-clause-count
returns-clause-count c = part-count
