use Rattle.std.proofs.Common.{length}
use Rattle.vsm_run.specs.Serving.{IsPacedBy}
use Rattle.vsm_run.proofs.AtOnce.{IsServing, entries_left}
use Rattle.vsm_run.proofs.acting.serve.Given as goal

abbrev pub invariant-entries : goal.invariant-entries
invariant-entries l = record {
  serving : IsServing l.fn.partition l.fn.request l.fn.fabric l.partition l.fabric;
  paced : IsPacedBy l.partition l.fabric;
}

abbrev pub decreases-entries : goal.decreases-entries
decreases-entries l = length (entries_left l.partition.under)
