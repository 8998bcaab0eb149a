use Rattle.std.proofs.Common.{◌+◌, drop, rules}
use Rattle.std.proofs.lemmas.Result.{err_from_is_err_and}
use Rattle.std.specs.List.{flat_map}
use Rattle.vsm_report.proofs.Gathering.{gathers_and, gathers_cut, gathers_same}
use Rattle.vsm_report.specs.Pieces.{spelled}
use Rattle.vsm_report.proofs.Spelling.{flat_map_cut, flat_map_step}
use Rattle.vsm_report.proofs.pieces.put_pieces.Goals as goal

pub returns-in_err-put : goal.returns-in_err-put
returns-in_err-put g c =
    let p = err_from_is_err_and c.from_residual.result c.from_residual.ensures.1 in
    let i = c.loop-piece.piece-index in
    rw p.1 (gathers_same (flat_map_cut spelled c.args.pieces.now i _ (search rules)) (gathers_cut (flat_map spelled (drop (i + 1) c.args.pieces.now)) (gathers_and c.loop-piece.invariant c.in_err-put.ensures)))

pub loop-piece-preserved : goal.loop-piece-preserved
loop-piece-preserved g c =
    gathers_same (flat_map_step spelled c.args.pieces.now c.loop-piece.piece-index _ (search rules)) (gathers_and c.loop-piece.invariant c.in_ok-put.ensures)
