use Rattle.vsm_report.proofs.Stepping.{traced-flat}
use Rattle.vsm_report.proofs.laws.steps_come_to_attempts.Goals as goal

pub returns : goal.returns
returns c = traced-flat
