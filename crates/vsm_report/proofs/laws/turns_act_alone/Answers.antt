use Rattle.vsm_report.proofs.MoreTurns.{flat-ones, cut-acts, over-still, nobody-acts, unstarted-waits, others-stay}
use Rattle.vsm_report.proofs.laws.turns_act_alone.Goals as goal

pub returns-clause-turns : goal.returns-clause-turns
returns-clause-turns c = flat-ones

pub returns-clause-cut : goal.returns-clause-cut
returns-clause-cut c = cut-acts

pub returns-clause-over : goal.returns-clause-over
returns-clause-over c = over-still

pub returns-clause-nobody : goal.returns-clause-nobody
returns-clause-nobody c = nobody-acts

pub returns-clause-unstarted : goal.returns-clause-unstarted
returns-clause-unstarted c = unstarted-waits

pub returns-clause-tracks : goal.returns-clause-tracks
returns-clause-tracks c = λ s. λ p. λ q. λ other. (others-stay s p q other).0

pub returns-clause-ends : goal.returns-clause-ends
returns-clause-ends c = λ s. λ p. λ q. λ other. (others-stay s p q other).1
