use Rattle.vsm_core.proofs.Bounds.{attempt-counts, start-counts}
use Rattle.vsm_core.proofs.laws.attempts_are_short.Goals as goal

pub returns-clause-attempts : goal.returns-clause-attempts
returns-clause-attempts c = attempt-counts

pub returns-clause-starts : goal.returns-clause-starts
returns-clause-starts c = start-counts
