use Rattle.std.proofs.lemmas.Result.{err_from_is_err_and}
use Rattle.vsm_report.proofs.Gathering.{gathers_and, gathers_cut}
use Rattle.vsm_report.proofs.writer.put_end.Goals as goal

pub returns-in_err-put_ended : goal.returns-in_err-put_ended
returns-in_err-put_ended g c =
    rw (← c.ending_at.ensures, c.in-Some.is, (err_from_is_err_and c.from_residual.result c.from_residual.ensures.1).1) (gathers_cut _ c.in_err-put_ended.ensures)

pub returns : goal.returns
returns g c = rw (← c.ending_at.ensures, c.in-Some.is) (gathers_and c.in_ok-put_ended.ensures c.put_ending.ensures)
