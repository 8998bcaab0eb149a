use Rattle.std.proofs.Common.{◌≡◌, map}
use Rattle.std.specs.List.{range_with_len}
use Rattle.partition.specs.PartView.{not_ended}
use Rattle.partition.proofs.serving.none_ended.Given as goal

abbrev pub invariant-loop-vp : goal.invariant-loop-vp
invariant-loop-vp l = l.ended ≡ map not_ended (range_with_len 0 l._vp)
