use Rattle.vsm_core.proofs.SameAnswers.{acts-same, acts-in-step, acts-journal}
use Rattle.vsm_core.proofs.laws.attempts_are_whole.Goals as goal

pub returns-clause-same : goal.returns-clause-same
returns-clause-same c = acts-same

pub returns-clause-in_step : goal.returns-clause-in_step
returns-clause-in_step c = acts-in-step

pub returns-clause-journal : goal.returns-clause-journal
returns-clause-journal c = acts-journal
