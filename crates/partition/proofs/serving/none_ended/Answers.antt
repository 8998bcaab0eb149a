use Rattle.std.proofs.Common.{arith, refl}
use Rattle.std.proofs.lemmas.List.FromFn.{map-range_with_len_more}
use Rattle.partition.specs.PartView.{not_ended}
use Rattle.partition.proofs.serving.none_ended.Goals as goal

pub loop-vp-preserved : goal.loop-vp-preserved
loop-vp-preserved c =
    rw (c.in_ok-push.ensures.ok, c.loop-vp.invariant, map-range_with_len_more not_ended 0 c.loop-vp._vp c.loop-vp._vp (omega arith)) refl
