use Rattle.vsm_laws.proofs.FlushCalls.{flushes-all}
use Rattle.vsm_laws.proofs.SliceRuns.{calls-complete, calls-refused, part-goes-on, slice-by, slices-come}
use Rattle.vsm_laws.proofs.reps.slices_come_to_the_count.Goals as goal

pub returns-clause-each : goal.returns-clause-each
returns-clause-each c = slice-by

pub returns-clause-part : goal.returns-clause-part
returns-clause-part c = part-goes-on

pub returns-clause-slices : goal.returns-clause-slices
returns-clause-slices c = slices-come

pub returns-clause-complete : goal.returns-clause-complete
returns-clause-complete c = calls-complete

pub returns-clause-refused : goal.returns-clause-refused
returns-clause-refused c = calls-refused

pub returns-clause-flush : goal.returns-clause-flush
returns-clause-flush c = flushes-all
