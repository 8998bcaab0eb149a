use Rattle.std.proofs.Common.{◌+◌, drop, rules}
use Rattle.std.proofs.lemmas.Result.{err_from_is_err_and}
use Rattle.std.specs.List.{flat_map}
use Rattle.vsm_report.proofs.Gathering.{gathers_and, gathers_cut, gathers_same}
use Rattle.vsm_report.specs.Text.{line_text}
use Rattle.vsm_report.proofs.Spelling.{flat_map_cut_at, flat_map_step_at}
use Rattle.vsm_report.proofs.writer.put_lines.Goals as goal

pub returns-in_err-put_line : goal.returns-in_err-put_line
returns-in_err-put_line g c =
    let p = err_from_is_err_and c.from_residual.result c.from_residual.ensures.1 in
    let f = line_text c.args.script.now in
    let i = c.loop-line.line-index in
    rw p.1 (gathers_same (flat_map_cut_at f c.args.lines.now i c.line-item.result c.line-item.is (search rules)) (gathers_cut (flat_map f (drop (i + 1) c.args.lines.now)) (gathers_and c.loop-line.invariant c.in_err-put_line.ensures)))

pub loop-line-preserved : goal.loop-line-preserved
loop-line-preserved g c =
    gathers_same (flat_map_step_at (line_text c.args.script.now) c.args.lines.now c.loop-line.line-index c.line-item.result c.line-item.is (search rules)) (gathers_and c.loop-line.invariant c.in_ok-put_line.ensures)
