use Rattle.vsm_report.proofs.Telling.{journal-told}
use Rattle.vsm_report.proofs.laws.lines_tell_the_journal.Goals as goal

pub returns : goal.returns
returns c = journal-told
