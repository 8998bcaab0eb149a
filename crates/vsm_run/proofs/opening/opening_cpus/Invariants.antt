use Rattle.std.proofs.Common.{◌≡◌, map}
use Rattle.std.specs.List.{range_with_len}
use Rattle.vsm_report.specs.Acting.{opening_vp}
use Rattle.vsm_run.proofs.opening.opening_cpus.Given as goal

abbrev pub invariant-loop-vp : goal.invariant-loop-vp
invariant-loop-vp l = l.cpus.items ≡ map (opening_vp l.script) (range_with_len 0 l.vp)
