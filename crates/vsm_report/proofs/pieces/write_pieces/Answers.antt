use Rattle.vsm_report.proofs.Gathering.{gathers_put}
use Rattle.vsm_report.proofs.pieces.write_pieces.Goals as goal

pub returns : goal.returns
returns g c = gathers_put (rw c.new-buffer.ensures at c.in_ok-put_pieces.ensures) c.flush.ensures.put
