use Rattle.std.proofs.lemmas.Result.{err_from_is_err_and}
use Rattle.vsm_report.proofs.Gathering.{gathers_and, gathers_cut}
use Rattle.vsm_report.specs.Text.{text}
use Rattle.vsm_report.proofs.writer.put_report.Goals as goal

pub returns-in_err-put_head : goal.returns-in_err-put_head
unfolding text
returns-in_err-put_head g c =
    rw (err_from_is_err_and c.from_residual.result c.from_residual.ensures.1).1 (gathers_cut _ (gathers_cut _ (gathers_cut _ (gathers_cut _ (gathers_cut _ c.in_err-put_head.ensures)))))

pub returns-in_err-put_all_lines : goal.returns-in_err-put_all_lines
unfolding text
returns-in_err-put_all_lines g c =
    rw (err_from_is_err_and c.from_residual-in_err-put_all_lines.result c.from_residual-in_err-put_all_lines.ensures.1).1 (gathers_cut _ (gathers_cut _ (gathers_cut _ (gathers_cut _ (gathers_and c.in_ok-put_head.ensures c.in_err-put_all_lines.ensures)))))

pub returns-in_err-put_all_ends : goal.returns-in_err-put_all_ends
unfolding text
returns-in_err-put_all_ends g c =
    rw (err_from_is_err_and c.from_residual-in_err-put_all_ends.result c.from_residual-in_err-put_all_ends.ensures.1).1 (gathers_cut _ (gathers_cut _ (gathers_cut _ (gathers_and (gathers_and c.in_ok-put_head.ensures c.in_ok-put_all_lines.ensures) c.in_err-put_all_ends.ensures))))

pub returns-in_err-put_all_masks : goal.returns-in_err-put_all_masks
unfolding text
returns-in_err-put_all_masks g c =
    rw (err_from_is_err_and c.from_residual-in_err-put_all_masks.result c.from_residual-in_err-put_all_masks.ensures.1).1 (gathers_cut _ (gathers_cut _ (gathers_and (gathers_and (gathers_and c.in_ok-put_head.ensures c.in_ok-put_all_lines.ensures) c.in_ok-put_all_ends.ensures) c.in_err-put_all_masks.ensures)))

pub returns-in_err-put_all_words : goal.returns-in_err-put_all_words
unfolding text
returns-in_err-put_all_words g c =
    rw (err_from_is_err_and c.from_residual-in_err-put_all_words.result c.from_residual-in_err-put_all_words.ensures.1).1 (gathers_cut _ (gathers_and (gathers_and (gathers_and (gathers_and c.in_ok-put_head.ensures c.in_ok-put_all_lines.ensures) c.in_ok-put_all_ends.ensures) c.in_ok-put_all_masks.ensures) c.in_err-put_all_words.ensures))

pub returns : goal.returns
unfolding text
returns g c = gathers_and (gathers_and (gathers_and (gathers_and (gathers_and c.in_ok-put_head.ensures c.in_ok-put_all_lines.ensures) c.in_ok-put_all_ends.ensures) c.in_ok-put_all_masks.ensures) c.in_ok-put_all_words.ensures) c.put_close.ensures
