use Rattle.std.proofs.Common.{Ok, take}
use Rattle.std.specs.List.{flat_map}
use Rattle.vsm_report.specs.Gathering.{Gathers}
use Rattle.vsm_report.specs.Pieces.{spelled}
use Rattle.vsm_report.proofs.pieces.put_pieces.Given as goal

abbrev pub invariant-loop-piece : goal.invariant-loop-piece
invariant-loop-piece g l =
    Gathers (g.K.Sink.taken l.fn.sink) l.fn.buffer (g.K.Sink.taken l.sink) l.buffer (g.K.Sink.faults l.fn.sink) (g.K.Sink.faults l.sink) (Ok tt) (flat_map spelled (take l.piece-index l.pieces))
