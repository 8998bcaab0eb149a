use Rattle.std.proofs.Common.{arith, refl}
use Rattle.std.proofs.lemmas.List.FromFn.{map-range_with_len_more}
use Rattle.vsm_core.specs.Partition.{opening_standing}
use Rattle.partition.proofs.serving.opening_partition.Goals as goal

pub loop-vp-preserved : goal.loop-vp-preserved
loop-vp-preserved c =
    rw (c.in_ok-push.ensures.ok, c.loop-vp.invariant, map-range_with_len_more (opening_standing c.args.started) 0 c.loop-vp.vp c.loop-vp.vp (omega arith)) refl
