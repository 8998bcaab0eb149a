use Rattle.std.proofs.lemmas.Result.{err_from_is_err_and}
use Rattle.vsm_report.proofs.Gathering.{gathers_and, gathers_cut}
use Rattle.vsm_report.proofs.marks.put_attempt.Goals as goal

pub returns-in_err-put_place : goal.returns-in_err-put_place
returns-in_err-put_place g c =
    rw (← c.operation_at.ensures, c.in-Some.is, (err_from_is_err_and c.from_residual.result c.from_residual.ensures.1).1) (gathers_cut _ c.in_err-put_place.ensures)

pub returns : goal.returns
returns g c = rw (← c.operation_at.ensures, c.in-Some.is) (gathers_and c.in_ok-put_place.ensures c.put_what.ensures)
