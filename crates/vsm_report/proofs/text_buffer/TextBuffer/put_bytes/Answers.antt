use Rattle.std.proofs.Common.{◌+◌, drop, sym, arith}
use Rattle.std.proofs.lemmas.Result.{err_from_is_err_and}
use Rattle.std.proofs.lemmas.List.{take_more}
use Rattle.vsm_report.proofs.Gathering.{gathers_and, gathers_cut, gathers_same, gathers_added, cut_at}
use Rattle.vsm_report.proofs.text_buffer.TextBuffer.put_bytes.Goals as goal

pub returns-in_err-make_room : goal.returns-in_err-make_room
returns-in_err-make_room g c =
    let p = err_from_is_err_and c.from_residual.result c.from_residual.ensures.1 in
    let i = c.loop-byte.byte-index in
    rw p.1 (gathers_same (cut_at c.args.text.now i (omega arith)) (gathers_cut (drop (i + 1) c.args.text.now) (gathers_and c.loop-byte.invariant (gathers_cut _ c.in_err-make_room.ensures.gathers))))

pub loop-byte-preserved : goal.loop-byte-preserved
loop-byte-preserved g c =
    gathers_same (sym (take_more c.args.text.now c.loop-byte.byte-index 0 (omega arith))) (gathers_and c.loop-byte.invariant (gathers_added c.in_ok-make_room.ensures.gathers c.add_byte.ensures.text))
