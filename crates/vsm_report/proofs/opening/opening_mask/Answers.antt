use Rattle.std.proofs.Common.{sym, arith}
use Rattle.vsm_report.proofs.MaskTurns.{masks_so_far, mask_more, mask_whole, length-masks_so_far}
use Rattle.vsm_report.proofs.opening.opening_mask.Goals as goal

pub loop-given-init : goal.loop-given-init
loop-given-init c = sym c.all_rights-mask.ensures

pub loop-given-preserved : goal.loop-given-preserved
loop-given-preserved c =
    let i = c.loop-given.given-index in
    mask_more c.args.script.now c.as_slice-given-items.result.now i c.given-item.result c.args.page _ c.as_slice-given-items.ensures c.given-item.is (omega arith) (c.after_mask-mask.ensures (masks_so_far c.args.script.now i) (length-masks_so_far c.args.script.now i) c.loop-given.invariant)

pub returns : goal.returns
returns c =
    mask_whole c.args.script.now c.as_slice-given-items.result.now c.loop-given.given-index c.args.page _ c.as_slice-given-items.ensures (omega arith) c.loop-given.invariant
