use Rattle.vsm_report.proofs.TellingRuns.{marks-told, others-untold}
use Rattle.vsm_report.proofs.laws.lines_tell_the_marks.Goals as goal

pub returns-clause-tracks : goal.returns-clause-tracks
returns-clause-tracks c = marks-told

pub returns-clause-others : goal.returns-clause-others
returns-clause-others c = others-untold
