use Rattle.vsm_report.proofs.Endings.{says-end, end-said}
use Rattle.vsm_report.proofs.laws.endings_tell_the_last_state.Goals as goal

pub returns-clause-says : goal.returns-clause-says
returns-clause-says c = says-end

pub returns-clause-only : goal.returns-clause-only
returns-clause-only c = end-said
