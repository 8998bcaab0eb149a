use Rattle.std.proofs.lemmas.Result.{err_from_is_err_and}
use Rattle.vsm_report.proofs.Gathering.{gathers_cut}
use Rattle.vsm_report.proofs.journal.put_one.Goals as goal

pub returns-in_err-make_room : goal.returns-in_err-make_room
returns-in_err-make_room g c = rw (err_from_is_err_and c.from_residual.result c.from_residual.ensures.1).1 (gathers_cut _ c.in_err-make_room.ensures.gathers)
