use Rattle.vsm_laws.proofs.DeniedStarts.{denied-refused, denied-unchanged, denied-exactly, level-1-alike}
use Rattle.vsm_laws.proofs.starts.configurations_deny_starts_to_level_0.Goals as goal

pub returns-clause-refused : goal.returns-clause-refused
returns-clause-refused c = denied-refused

pub returns-clause-unchanged : goal.returns-clause-unchanged
returns-clause-unchanged c = denied-unchanged

pub returns-clause-exactly : goal.returns-clause-exactly
returns-clause-exactly c = denied-exactly

pub returns-clause-level_1 : goal.returns-clause-level_1
returns-clause-level_1 c = level-1-alike
