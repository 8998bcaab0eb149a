use Rattle.std.proofs.Common.{◌≡◌, map}
use Rattle.std.specs.List.{range_with_len}
use Rattle.vsm_core.specs.Partition.{opening_standing}
use Rattle.partition.proofs.serving.opening_partition.Given as goal

abbrev pub invariant-loop-vp : goal.invariant-loop-vp
invariant-loop-vp l = l.vps ≡ map (opening_standing l.started) (range_with_len 0 l.vp)
