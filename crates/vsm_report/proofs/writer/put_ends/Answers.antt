use Rattle.std.proofs.Common.{length, arith}
use Rattle.std.proofs.lemmas.Result.{err_from_is_err_and}
use Rattle.vsm_report.proofs.Gathering.{gathers_and, gathers_cut, gathers_same}
use Rattle.vsm_report.specs.Text.{end_text_at}
use Rattle.vsm_report.proofs.Spelling.{flat_map_range_cut, flat_map_range_more, flat_map_range_all}
use Rattle.vsm_report.proofs.writer.put_ends.Goals as goal

pub returns-in_err-put_end : goal.returns-in_err-put_end
returns-in_err-put_end g c =
    let p = err_from_is_err_and c.from_residual.result c.from_residual.ensures.1 in
    rw p.1 (gathers_same (flat_map_range_cut (end_text_at c.args.ends.now) (length c.args.ends.now) c.loop-vp.vp (omega arith)) (gathers_cut _ (gathers_and c.loop-vp.invariant c.in_err-put_end.ensures)))

pub loop-vp-preserved : goal.loop-vp-preserved
loop-vp-preserved g c =
    gathers_same (flat_map_range_more (end_text_at c.args.ends.now) (length c.args.ends.now) c.loop-vp.vp (omega arith)) (gathers_and c.loop-vp.invariant c.in_ok-put_end.ensures)

pub returns : goal.returns
returns g c =
    gathers_same (flat_map_range_all (end_text_at c.args.ends.now) (length c.args.ends.now) c.loop-vp.vp (omega arith)) c.loop-vp.invariant
