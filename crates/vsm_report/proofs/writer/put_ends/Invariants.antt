use Rattle.std.proofs.Common.{Ok, length, take}
use Rattle.std.specs.List.{flat_map, range_with_len}
use Rattle.vsm_report.specs.Gathering.{Gathers}
use Rattle.vsm_report.specs.Text.{end_text_at}
use Rattle.vsm_report.proofs.writer.put_ends.Given as goal

abbrev pub invariant-loop-vp : goal.invariant-loop-vp
invariant-loop-vp g l =
    Gathers (g.K.Sink.taken l.fn.sink) l.fn.buffer (g.K.Sink.taken l.sink) l.buffer (g.K.Sink.faults l.fn.sink) (g.K.Sink.faults l.sink) (Ok tt) (flat_map (end_text_at l.ends) (take l.vp (range_with_len 0 (length l.ends))))
