use Rattle.std.proofs.Common.{◌≡◌, ◌++◌, map, take}
use Rattle.vsm_report.specs.Acting.{ending_of}
use Rattle.vsm_run.proofs.leaving.add_ends.Given as goal

abbrev pub invariant-loop-cpu : goal.invariant-loop-cpu
invariant-loop-cpu l = l.ends ≡ (l.fn.ends.0 ++ map ending_of (take l.cpu-index l.cpus), l.fn.ends.1)
